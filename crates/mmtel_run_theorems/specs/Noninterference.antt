-- Noninterference of whole runs with calls and conferences: what an untrusted peer is sent is equal in any other run that differs in private places alone and
-- gives the same result for every test
-- (RFC 3323, RFC 3325 §7, RFC 7044 §10.1).
use Rattle.std.specs.Prelude.{◌≡◌, ◌<◌, ◌&&◌, ◌||◌, ℕ, Bool, true, false, List, Ok, length, nat_le}
use Rattle.std.specs.List.{list_all}
use Rattle.mmtel_directory.specs.Directory.{directory_of}
use Rattle.mmtel_directory.specs.declared.directories.Directory.{Directory}
use Rattle.mmtel_records_in_force.specs.Texts.{Texts}
use Rattle.mmtel_lex.specs.Grammar.{IsToken}
use Rattle.mmtel_message.specs.Vias.{IsSource}
use Rattle.mmtel_environment.specs.declared.events.Offer.{Offer}
use Rattle.mmtel_sheet_values.specs.declared.values.Sheet.{Sheet}
use Rattle.mmtel_types.specs.declared.numbers.Account.{Account}
use Rattle.mmtel_types.specs.declared.numbers.Peer.{Peer}
use Rattle.mmtel_run_definitions.specs.Equivalence.{trusts}
use Rattle.mmtel_run_definitions.specs.Events.{EventRecord, timed_events}
use Rattle.mmtel_run_definitions.specs.TopTheorem.{Gives}
use Rattle.mmtel_run_definitions.specs.InForce.{uploads_of}
use Rattle.mmtel_run_definitions.specs.Run.{IsEnough, offers_of_run}
use Rattle.mmtel_run_definitions.specs.ShortRuns.{IsShortRun}
use Rattle.mmtel_run_definitions.specs.View.{view}
use Rattle.mmtel_run_definitions.specs.Transitions.{initial_state}
use Rattle.mmtel_run_theorems.specs.EquivalentStates.{AllEarly, AllLookUpEqually, AllTied, EquivalentConfigs}
use Rattle.mmtel_run_theorems.specs.Mask.{Mask, mask, records_in}
use Rattle.mmtel_run_theorems.specs.RenamedAccounts.{Neutral, Renames}

-- the branches that the server draws are read as they are written: the text of its tokens is a token, and its address is one that messages come from (RFC 3261 §25.1, §20.42)
pub record BranchesAreRead (directory : Directory) (token : List ℕ) : Type 0 where
  pub text : IsToken token
  pub source : IsSource directory.sip
  pub port : 0 < directory.sip.port

-- a lower-case hexadecimal digit
abbrev pub is_hex_digit : ℕ → Bool
is_hex_digit byte = (nat_le 48 byte && nat_le byte 57) || (nat_le 97 byte && nat_le byte 102)

-- this holds for each configuration that was read, and for each token of such digits
abbrev pub ConfigurationsAreRead : Type 0
ConfigurationsAreRead = (text : List ℕ) (directory : Directory) (token : List ℕ) → directory_of text ≡ Ok directory → 0 < length token → list_all is_hex_digit token ≡ true →
    BranchesAreRead directory token

-- ---- for a number of firings

-- for runs in which fewer than 2^60 numbers are drawn: under two configurations that are equal but for the URIs of accounts, where lookups in the masked run have equal results
abbrev pub NoninterferenceInBoth : Type 0
NoninterferenceInBoth = (directory far : Directory) (token : List ℕ) (loaded : Texts) (fuel : ℕ) (recorded run : List EventRecord) (seer : Peer) →
    BranchesAreRead directory token → EquivalentConfigs (records_in directory loaded recorded) directory far →
    AllLookUpEqually directory far (mask far token loaded fuel run).events →
    AllEarly directory token fuel (timed_events directory recorded) (initial_state loaded) → trusts directory seer ≡ false →
    mask directory token loaded fuel recorded ≡ mask far token loaded fuel run →
    view seer (offers_of_run directory token loaded fuel recorded) ≡ view seer (offers_of_run far token loaded fuel run)

-- this is the case where one configuration renames accounts that no URI names by which an account is looked up
abbrev pub RenamedAreLookedUpEqually : Type 0
RenamedAreLookedUpEqually = (directory other : Directory) (renamed : List Account) (records : List Sheet) (masked : Mask) →
    Renames renamed directory other → Neutral renamed directory other records masked → EquivalentConfigs records directory other × AllLookUpEqually directory other masked.events

-- and for runs under one configuration
abbrev pub Noninterference : Type 0
Noninterference = (directory : Directory) (token : List ℕ) (loaded : Texts) (fuel : ℕ) (recorded run : List EventRecord) (seer : Peer) →
    BranchesAreRead directory token → AllEarly directory token fuel (timed_events directory recorded) (initial_state loaded) → trusts directory seer ≡ false →
    mask directory token loaded fuel recorded ≡ mask directory token loaded fuel run →
    view seer (offers_of_run directory token loaded fuel recorded) ≡ view seer (offers_of_run directory token loaded fuel run)

-- each client transaction of a run in which a call or a participant gets a response, and each INVITE of a call that is acknowledged, is with the peer that was sent the request
abbrev pub RunsAreTied : Type 0
RunsAreTied = (directory : Directory) (token : List ℕ) (loaded : Texts) (fuel : ℕ) (recorded : List EventRecord) → BranchesAreRead directory token →
    AllTied directory token fuel (timed_events directory recorded) (initial_state loaded)

-- ---- for the exact outputs, however many timers fire

-- this is the run with these events, without its private places
pub record Masks (directory : Directory) (token : List ℕ) (loaded : Texts) (recorded : List EventRecord) (masked : Mask) : Type 0 where
  pub fuel : ℕ
  pub enough : IsEnough directory token loaded fuel recorded
  pub exact : masked ≡ mask directory token loaded fuel recorded

-- and it is only one: more firings than are enough do not change it
abbrev pub MasksOnce : Type 0
MasksOnce = (directory : Directory) (token : List ℕ) (loaded : Texts) (recorded : List EventRecord) (masked other : Mask) →
    Masks directory token loaded recorded masked → Masks directory token loaded recorded other → masked ≡ other

-- of these outputs an untrusted peer observes what it would observe of any other run that is the same without its private places, also under a configuration that renames accounts,
-- where no URI by which an account is looked up in these runs names one of them
abbrev pub IsIndistinguishable : Directory → (token : List ℕ) → (loaded : Texts) → List EventRecord → List Offer → Type 0
IsIndistinguishable directory token loaded recorded offers =
    (other : Directory) (renamed : List Account) (run : List EventRecord) (others : List Offer) (masked : Mask) (seer : Peer) →
    BranchesAreRead directory token → IsShortRun directory token loaded recorded → trusts directory seer ≡ false →
    Renames renamed directory other → Neutral renamed directory other (records_in directory loaded recorded) masked →
    Masks directory token loaded recorded masked → Masks other token loaded run masked →
    Gives other token loaded run others → view seer offers ≡ view seer others

-- this holds for any outputs that are exactly those of the run
abbrev pub OffersKeepNoninterference : Type 0
OffersKeepNoninterference = (directory : Directory) (token : List ℕ) (loaded : Texts) (recorded : List EventRecord) (offers : List Offer) →
    Gives directory token loaded recorded offers → IsIndistinguishable directory token loaded recorded offers

-- and under one configuration, which renames nobody
abbrev pub IsIndistinguishableInOne : Directory → (token : List ℕ) → (loaded : Texts) → List EventRecord → List Offer → Type 0
IsIndistinguishableInOne directory token loaded recorded offers =
    (run : List EventRecord) (others : List Offer) (masked : Mask) (seer : Peer) →
    BranchesAreRead directory token → IsShortRun directory token loaded recorded → trusts directory seer ≡ false →
    Masks directory token loaded recorded masked → Masks directory token loaded run masked →
    Gives directory token loaded run others → view seer offers ≡ view seer others

abbrev pub OffersKeepItInOneConfig : Type 0
OffersKeepItInOneConfig = (directory : Directory) (token : List ℕ) (loaded : Texts) (recorded : List EventRecord) (offers : List Offer) →
    Gives directory token loaded recorded offers → IsIndistinguishableInOne directory token loaded recorded offers

-- runs that read the same of their events and store the same are indistinguishable, whatever else they were requested to do
abbrev pub SeenByTimedEvents : Type 0
SeenByTimedEvents = (directory : Directory) (token : List ℕ) (loaded : Texts) (recorded whole : List EventRecord) (offers : List Offer) →
    timed_events directory recorded ≡ timed_events directory whole → uploads_of directory.names recorded ≡ uploads_of directory.names whole →
    IsIndistinguishable directory token loaded recorded offers → IsIndistinguishable directory token loaded whole offers

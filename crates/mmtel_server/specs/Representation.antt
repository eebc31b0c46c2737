-- The server that represents the state of a run.
use Rattle.std.specs.Prelude.{◌≡◌, ℕ, false, List, [], ◌∷◌, ◌++◌}
use Rattle.mmtel_b2bua.specs.Operations.{CallsView}
use Rattle.mmtel_directory.specs.declared.directories.Directory.{Directory}
use Rattle.mmtel_focus.specs.Operations.{RoomsView}
use Rattle.mmtel_mwi.specs.Boxes.{BoxesView}
use Rattle.mmtel_environment.specs.declared.events.Offer.{Offer}
use Rattle.mmtel_records_in_force.specs.Records.{IsRegisteredBy}
use Rattle.mmtel_records_in_force.specs.Texts.{Texts}
use Rattle.mmtel_run_definitions.specs.OwnResponses.{further_methods}
use Rattle.mmtel_run_definitions.specs.Events.{EventRecord}
use Rattle.mmtel_run_definitions.specs.Run.{IsEnough, offers_of_run, state_after}
use Rattle.mmtel_run_definitions.specs.ShortRuns.{IsShortRun}
use Rattle.mmtel_run_definitions.specs.Transitions.{RunState, calls_in, conferences_in, subscriptions_in}
use Rattle.mmtel_server_timers.specs.PendingTimers.{queue_of}
use Rattle.mmtel_server.specs.declared.servers.Server.{Server}
use Rattle.mmtel_transaction.specs.Represents as transactions

-- the calls of a server of this configuration
abbrev pub calls_of : Directory → RunState → CallsView
calls_of directory state = record {
  sip = directory.sip;
  home = directory.home;
  bound = directory.bound;
  country = directory.country;
  reliable = directory.reliable;
  timer = directory.timer;
  mwi = directory.names.mwi;
  table = calls_in directory state;
  has_failed = false;
}

-- and its conferences
abbrev pub conferences_of : Directory → RunState → RoomsView
conferences_of directory state = record {
  sip = directory.sip;
  mixer = directory.mixer;
  methods = further_methods directory;
  table = conferences_in directory state;
  has_failed = false;
}

-- and its mailboxes
abbrev pub subscriptions_of : Directory → RunState → BoxesView
subscriptions_of directory state = record { sip = directory.sip; table = subscriptions_in state }

-- what a server stores of its run; one that has failed since memory ran out represents no state
pub record Represents (directory : Directory) (token : List ℕ) (server : Server) (state : RunState) : Type 0 where
  pub same_directory : server.directory ≡ directory
  pub tokens : server.tokens ≡ record { token = token; drawn = state.drawn }
  pub transactions : transactions.Represents server.transactions state.actions
  pub clock : server.clock ≡ state.clock
  pub steps : server.steps ≡ state.steps
  -- the records in force, and the registrations
  pub texts : server.records.texts.texts ≡ state.texts
  pub registered : IsRegisteredBy server.records state.registrations
  -- the calls and the conferences, in the state after the operations on them
  pub calls : server.calls ≡ calls_of directory state
  pub rooms : server.rooms ≡ conferences_of directory state
  -- the counts of mailboxes, and the subscriptions to them
  pub boxes : server.boxes ≡ subscriptions_of directory state
  -- their timers
  pub pending_timers : queue_of server.pending_timers ≡ state.pending_timers
  -- the CDRs that wait: each was removed from the calls or the conferences as soon as it was closed
  pub waiting : server.waiting ≡ state.waiting
  pub no_call_rows : (calls_in directory state).rows ≡ []
  pub no_conference_rows : (conferences_in directory state).rows ≡ []
  pub unfailed : server.failed ≡ false

-- it represents that state, and these outputs come after what was in the list before
pub record RepresentsWithOffers (directory : Directory) (token : List ℕ) (before : List Offer) (server : Server) (out : List Offer) (state : RunState) : Type 0 where
  pub represents : Represents directory token server state
  pub offers : out ≡ before ++ state.offers

-- it went through the run with these events, over the texts that were loaded, in which every timer that was due has fired, and its outputs come after what was in
-- the list before
pub record RanFromStart (directory : Directory) (token : List ℕ) (loaded : Texts) (recorded : List EventRecord) (before : List Offer)
    (server : Server) (out : List Offer) : Type 0 where
  pub fuel : ℕ
  pub enough : IsEnough directory token loaded fuel recorded
  pub represents : RepresentsWithOffers directory token before server out (state_after directory token loaded fuel recorded)

-- it serves in that run, wherever its outputs went
pub record RepresentsRun (directory : Directory) (token : List ℕ) (loaded : Texts) (recorded : List EventRecord) (server : Server) : Type 0 where
  pub fuel : ℕ
  pub enough : IsEnough directory token loaded fuel recorded
  pub represents : Represents directory token server (state_after directory token loaded fuel recorded)

-- a prefix of a list
abbrev pub IsPrefixOf : List Offer → List Offer → Type 0
IsPrefixOf front whole = (rest : List Offer) × (front ++ rest ≡ whole)

-- what was in the list is in it still, and its contents are a prefix of what was to be in it
abbrev pub IsPrefixBetween : (old now whole : List Offer) → Type 0
IsPrefixBetween old now whole = IsPrefixOf old now × IsPrefixOf now whole

-- whatever run it went through, it has gone through this further event
abbrev pub ContinuesRun : Server → List Offer → Server → List Offer → EventRecord → Type 0
ContinuesRun old out new now one =
    (directory : Directory) (token : List ℕ) (loaded : Texts) (recorded : List EventRecord) (before : List Offer) →
    RanFromStart directory token loaded recorded before old out → IsShortRun directory token loaded (recorded ++ one ∷ []) →
    RanFromStart directory token loaded (recorded ++ one ∷ []) before new now

-- what a further event adds to the outputs of a run was appended to the list
abbrev pub AddsToOffers : Directory → (token : List ℕ) → (loaded : Texts) → List EventRecord → EventRecord → (out now : List Offer) → Type 0
AddsToOffers directory token loaded recorded one out now =
    (fuel : ℕ) → IsEnough directory token loaded fuel (recorded ++ one ∷ []) →
    (added : List Offer) × (now ≡ out ++ added) × (offers_of_run directory token loaded fuel (recorded ++ one ∷ []) ≡ offers_of_run directory token loaded fuel recorded ++ added)

-- whatever run it serves in, it serves in that with this further event, and what this adds to the outputs of the run was added
abbrev pub ContinuesServing : Server → List Offer → Server → List Offer → EventRecord → Type 0
ContinuesServing old out new now one =
    (directory : Directory) (token : List ℕ) (loaded : Texts) (recorded : List EventRecord) →
    RepresentsRun directory token loaded recorded old → IsShortRun directory token loaded (recorded ++ one ∷ []) →
    RepresentsRun directory token loaded (recorded ++ one ∷ []) new × AddsToOffers directory token loaded recorded one out now

-- whatever run it went through, a prefix of the outputs for this further event was added
abbrev pub AddsPrefixInRun : Server → List Offer → List Offer → EventRecord → Type 0
AddsPrefixInRun old out now one =
    (directory : Directory) (token : List ℕ) (loaded : Texts) (recorded : List EventRecord) (before : List Offer) (fuel : ℕ) →
    RanFromStart directory token loaded recorded before old out → IsShortRun directory token loaded (recorded ++ one ∷ []) →
    IsEnough directory token loaded fuel (recorded ++ one ∷ []) →
    IsPrefixBetween out now (before ++ offers_of_run directory token loaded fuel (recorded ++ one ∷ []))

-- whatever run it serves in, a prefix of what this further event adds to the outputs of the run was added
abbrev pub AddsPrefixWhileServing : Server → List Offer → List Offer → EventRecord → Type 0
AddsPrefixWhileServing old out now one =
    (directory : Directory) (token : List ℕ) (loaded : Texts) (recorded : List EventRecord) (fuel : ℕ) →
    RepresentsRun directory token loaded recorded old → IsShortRun directory token loaded (recorded ++ one ∷ []) →
    IsEnough directory token loaded fuel (recorded ++ one ∷ []) →
    (added : List Offer) × IsPrefixBetween out now (out ++ added)
    × (offers_of_run directory token loaded fuel (recorded ++ one ∷ []) ≡ offers_of_run directory token loaded fuel recorded ++ added)

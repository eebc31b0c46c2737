-- What holds for the outputs of a server that went through a run from its beginning, for every run, and for the web connections that were read in it.
use Rattle.std.specs.Prelude.{◌≡◌, ℕ, ⊤, List, [], ◌∷◌}
use Rattle.mmtel_charging.specs.declared.rows.Row.{Row}
use Rattle.mmtel_directory.specs.declared.directories.Directory.{Directory}
use Rattle.mmtel_link.specs.LinkStates.{read_part}
use Rattle.mmtel_environment.specs.Counts.{Rose}
use Rattle.mmtel_environment.specs.declared.events.Event.{Event}
use Rattle.mmtel_environment.specs.declared.events.Event.TheVariants as event
use Rattle.mmtel_environment.specs.declared.events.Offer.{Offer}
use Rattle.mmtel_records_in_force.specs.Texts.{Texts}
use Rattle.mmtel_run_definitions.specs.Events.{EventRecord, parsed_event}
use Rattle.mmtel_run_definitions.specs.ChargingRows.{NoneWaits, RowsAreFiled}
use Rattle.mmtel_run_definitions.specs.TopTheorem.{Gives, GivesAlways}
use Rattle.mmtel_run_theorems.specs.NoInjection.{RunsSendNoInjection}
use Rattle.mmtel_run_theorems.specs.Outcome.{CallsOfRunsReachOutcome}
use Rattle.mmtel_run_theorems.specs.ChargingRecords.{RunParticipantsChargedOnce}
use Rattle.mmtel_run_theorems.specs.Noninterference.{IsIndistinguishable}
use Rattle.mmtel_web.specs.Handling.{KeeperOutcomeView}
use Rattle.mmtel_server.specs.DriveEffects.{EachRead, IsReadOut}
use Rattle.mmtel_server.specs.Follows.{NumbersNeverFall}
use Rattle.mmtel_server.specs.Representation.{RanFromStart}
use Rattle.mmtel_server.specs.declared.servers.Server.{Server}

-- they are exactly those of the run,
abbrev pub OffersAreOfRun : Type 0
OffersAreOfRun = (directory : Directory) (token : List ℕ) (loaded : Texts) (recorded : List EventRecord) (server : Server) (out : List Offer) →
    RanFromStart directory token loaded recorded [] server out → Gives directory token loaded recorded out

-- and an untrusted peer observes of them what it would observe of any other run that is equal without its private places
abbrev pub OffersAreIndistinguishable : Type 0
OffersAreIndistinguishable = (directory : Directory) (token : List ℕ) (loaded : Texts) (recorded : List EventRecord) (server : Server) (out : List Offer) →
    RanFromStart directory token loaded recorded [] server out → IsIndistinguishable directory token loaded recorded out

-- ---- what holds for every run

-- the theorems about runs from which the claims about a server follow: the outcome of calls, which participants are charged and what is sent; that the count of drawn numbers never
-- decreases, that timers come to an end, and that CDRs are filed
pub record RunTheorems : Type 0 where
  pub outcome : CallsOfRunsReachOutcome
  pub participants : RunParticipantsChargedOnce
  pub no_injection : RunsSendNoInjection
  pub draws : NumbersNeverFall
  pub always : GivesAlways
  pub filed : RowsAreFiled
  pub none_waits : NoneWaits

-- ---- web connections

-- an event of which so many bytes were read was read to the end of its request, if it is a web connection
abbrev pub IsEventReadOut : ℕ → Event → Type 0
IsEventReadOut count (event.Datagram from at bytes) = ⊤
IsEventReadOut count (event.Web at bytes) = IsReadOut count bytes
IsEventReadOut count (event.Quiet at) = ⊤

abbrev pub EachReadOut : List Event → (reads : List ℕ) → Type 0
EachReadOut events [] = ⊤
EachReadOut [] (count ∷ reads) = ⊥
EachReadOut (e ∷ events) (count ∷ reads) = IsEventReadOut count e × EachReadOut events reads

-- where the count of delivery faults did not rise, each was read to the end of its request,
abbrev pub UnfailedAreReadOut : Type 0
UnfailedAreReadOut = (giving gave : ℕ) (events : List Event) (reads : List ℕ) → EachRead giving gave events reads → (Rose giving gave → ⊥) → EachReadOut events reads

-- and bytes that are not read of such a one do not change the request
abbrev pub ReadOutHasAllBytes : Type 0
ReadOutHasAllBytes = (directory : Directory) (count : ℕ) (e : Event) (kept : KeeperOutcomeView) (rows : List Row) → IsEventReadOut count e →
    parsed_event directory (read_part count e) kept rows ≡ parsed_event directory e kept rows

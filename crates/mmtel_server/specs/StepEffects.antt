-- The effect of one event on a server and on a keeper.
use Rattle.std.specs.Prelude.{◌≡◌, ◌++◌, ◌∷◌, [], ℕ, Bool, List}
use Rattle.mmtel_charging.specs.declared.rows.Row.{Row}
use Rattle.mmtel_directory.specs.declared.directories.Directory.{Directory}
use Rattle.mmtel_directory.specs.declared.directories.WebDirectory.{WebDirectory}
use Rattle.mmtel_http.specs.Requests.{request_of}
use Rattle.mmtel_records_in_force.specs.Texts.{Texts}
use Rattle.mmtel_environment.specs.declared.events.Event.{Event}
use Rattle.mmtel_environment.specs.declared.events.Event.TheVariants as event
use Rattle.mmtel_environment.specs.declared.events.Offer.{Offer}
use Rattle.mmtel_run_definitions.specs.Events.{EventRecord, parsed_event}
use Rattle.mmtel_run_definitions.specs.Run.{IsEnough, state_after}
use Rattle.mmtel_run_definitions.specs.ShortRuns.{IsShortRun}
use Rattle.mmtel_web_service.specs.KeeperCalls.{CountsFaults, IsKeeperResult, KeeperCall, keeper_call_in, none}
use Rattle.mmtel_web.specs.Handling.{KeeperOutcomeView}
use Rattle.mmtel_run_definitions.specs.ShortRuns.{IsShort}
use Rattle.mmtel_run_definitions.specs.Transitions.{RunState, after_event}
use Rattle.mmtel_server.specs.Follows.{Follows, IsSettledBefore, state_after_event}
use Rattle.mmtel_server.specs.Charged.{ChargesRun}
use Rattle.mmtel_server_timers.specs.Handover.{HandoverAborted, HandoverFaults, HandsOver, accepted_rows, remaining_rows}
use Rattle.mmtel_server.specs.States.{KeeperState, StepState}
use Rattle.mmtel_server.specs.Representation.{AddsPrefixInRun, AddsPrefixWhileServing, ContinuesRun, ContinuesServing, RepresentsRun, RepresentsWithOffers}
use Rattle.mmtel_server.specs.declared.servers.Server.{Server}

-- the call of the keeper that an event asks for
abbrev pub call_of : WebDirectory → Event → KeeperCall
call_of names (event.Datagram from at bytes) = none
call_of names (event.Web at bytes) = keeper_call_in names (request_of bytes)
call_of names (event.Quiet at) = none

-- the record of an event: the event, the keeper's results in it, and whether the keeper accepted the CDRs that waited at its end
abbrev pub event_record : Event → KeeperOutcomeView → List Row → (took : Bool) → EventRecord
event_record event kept rows took = record { event = event; outcome = kept; rows = rows; accepted = took }

-- whatever run the server serves in, the keeper's results are those of the call that the event asks for, and it was not called otherwise until the end of the event
abbrev pub AsksKeeperInRun : Server → EventRecord → (old new : KeeperState) → Type 0
AsksKeeperInRun server one old new =
    (directory : Directory) (token : List ℕ) (loaded : Texts) (recorded : List EventRecord) →
    RepresentsRun directory token loaded recorded server → IsShortRun directory token loaded (recorded ++ one ∷ []) →
    IsKeeperResult (call_of directory.names one.event) one.outcome one.rows old.contents new.contents old.calls new.calls

-- whatever run it serves in, these CDRs waited at the end of the event: they were filed, or still wait
abbrev pub RowsWaitInRun : Server → EventRecord → List Row → Type 0
RowsWaitInRun server one waiting =
    (directory : Directory) (token : List ℕ) (loaded : Texts) (recorded : List EventRecord) (fuel : ℕ) →
    RepresentsRun directory token loaded recorded server → IsShortRun directory token loaded (recorded ++ one ∷ []) →
    IsEnough directory token loaded fuel (recorded ++ one ∷ []) →
    let old : RunState = state_after directory token loaded fuel recorded in
    let new : RunState = state_after directory token loaded fuel (recorded ++ one ∷ []) in
    (new.filed ≡ old.filed ++ accepted_rows one.accepted waiting) × (new.waiting ≡ remaining_rows one.accepted waiting)

-- the effect of one event on the server, on its outputs and on the keeper
pub record StepEffect (event : Event) (old new : StepState) : Type 0 where
  -- there are results of the keeper, and CDRs that waited at the end, which it accepted or not,
  pub outcome : KeeperOutcomeView
  pub rows : List Row
  pub waiting : List Row
  pub rows_accepted : Bool
  -- with which the server has gone through the further event;
  pub continues : ContinuesRun old.server old.offers new.server new.offers (event_record event outcome rows rows_accepted)
  -- and has added what that adds to the outputs of the run, wherever those before went;
  pub adds : ContinuesServing old.server old.offers new.server new.offers (event_record event outcome rows rows_accepted)
  -- there is a state of the keeper in between:
  pub between : KeeperState
  -- its results are those of the call that the event asks for, and it was not called otherwise,
  pub asks : AsksKeeperInRun old.server (event_record event outcome rows rows_accepted) old.keeper between
  -- and the count of its faults rose exactly where that call failed;
  pub counts : CountsFaults outcome old.keeper.faults between.faults
  -- then the CDRs that waited were handed to it, where there were any,
  pub rows_wait : RowsWaitInRun old.server (event_record event outcome rows rows_accepted) waiting
  pub hands_over : HandsOver rows_accepted waiting between.contents new.keeper.contents between.calls new.keeper.calls
  -- and the count rose exactly where it did not accept them;
  pub handover_faults : HandoverFaults rows_accepted between.faults new.keeper.faults
  -- so those that it accepted in the whole run, and then those that wait, are all that were closed in it
  pub charges : ChargesRun (event_record event outcome rows rows_accepted ∷ []) old.server

-- the outputs and the keeper where memory ran out in an event: there are results of the keeper, of at most one call,
pub record AbortedKeeperCalls (Broke : KeeperOutcomeView → List Row → Type 0) (Asked : KeeperOutcomeView → List Row → KeeperState → Type 0) (old new : KeeperState) : Type 0 where
  pub outcome : KeeperOutcomeView
  pub rows : List Row
  -- with which a prefix of the outputs for the event was added;
  pub broke : Broke outcome rows
  -- they are those of the call that the event asks for,
  pub between : KeeperState
  pub asks : Asked outcome rows between
  -- and the count of its faults rose exactly where that call failed;
  pub counts : CountsFaults outcome old.faults between.faults
  -- then memory may have run out while the CDRs that waited were handed over, and they still wait
  pub handover_aborted : HandoverAborted between.contents new.contents between.calls new.calls between.faults new.faults

-- the same for a server, and for what was added to a list
abbrev pub StepAborted : Event → StepState → (offers : List Offer) → (keeper : KeeperState) → Type 0
StepAborted event old offers keeper =
    AbortedKeeperCalls (λ kept rows. (took : Bool) →
    AddsPrefixInRun old.server old.offers offers (event_record event kept rows took) × AddsPrefixWhileServing old.server old.offers offers (event_record event kept rows took))
    (λ kept rows between. (took : Bool) → AsksKeeperInRun old.server (event_record event kept rows took) old.keeper between) old.keeper keeper

-- used between the functions of this crate alone: where the timers before an event do not change the configuration, the keeper's results are those that the event asks for
abbrev pub AsksKeeperAfter : StepState → EventRecord → (keeper : KeeperState) → Type 0
AsksKeeperAfter old one keeper =
    (directory : Directory) (token : List ℕ) (before : List Offer) (state : RunState) (fuel : ℕ) →
    RepresentsWithOffers directory token before old.server old.offers state → IsSettledBefore fuel one directory token state →
    IsShort (state_after_event fuel one directory token state) →
    IsKeeperResult (call_of directory.names one.event) one.outcome one.rows old.keeper.contents keeper.contents old.keeper.calls keeper.calls

-- and the CDRs that wait at its end are these
abbrev pub RowsWaitAfter : Server → List Offer → EventRecord → List Row → Type 0
RowsWaitAfter server out one waiting =
    (directory : Directory) (token : List ℕ) (before : List Offer) (state : RunState) (fuel : ℕ) →
    RepresentsWithOffers directory token before server out state → IsSettledBefore fuel one directory token state → IsShort (state_after_event fuel one directory token state) →
    let new : RunState = state_after_event fuel one directory token state in
    (new.filed ≡ state.filed ++ accepted_rows one.accepted waiting) × (new.waiting ≡ remaining_rows one.accepted waiting)

-- the effect of this event at this moment of the clock: the server represents the state after it
pub record ArrivalEffect (at : ℕ) (one : EventRecord) (old new : StepState) : Type 0 where
  pub follows : Follows old.server old.offers new.server new.offers (λ d token. after_event d token at (parsed_event d one.event one.outcome one.rows) one.accepted)
  pub waiting : List Row
  pub between : KeeperState
  pub asks : IsKeeperResult (call_of old.server.directory.names one.event) one.outcome one.rows old.keeper.contents between.contents old.keeper.calls between.calls
  pub counts : CountsFaults one.outcome old.keeper.faults between.faults
  pub rows_wait : (directory : Directory) (token : List ℕ) (before : List Offer) (state : RunState) → RepresentsWithOffers directory token before old.server old.offers state →
      IsShort (after_event directory token at (parsed_event directory one.event one.outcome one.rows) one.accepted state) →
      let later : RunState = after_event directory token at (parsed_event directory one.event one.outcome one.rows) one.accepted state in
      (later.filed ≡ state.filed ++ accepted_rows one.accepted waiting) × (later.waiting ≡ remaining_rows one.accepted waiting)
  pub hands_over : HandsOver one.accepted waiting between.contents new.keeper.contents between.calls new.keeper.calls
  pub handover_faults : HandoverFaults one.accepted between.faults new.keeper.faults

-- and the effect on the keeper in an event, where the timers before it do not change the configuration
pub record KeeperEffect (one : EventRecord) (old : StepState) (keeper : KeeperState) : Type 0 where
  pub waiting : List Row
  pub between : KeeperState
  pub asks : AsksKeeperAfter old one between
  pub counts : CountsFaults one.outcome old.keeper.faults between.faults
  pub rows_wait : RowsWaitAfter old.server old.offers one waiting
  pub hands_over : HandsOver one.accepted waiting between.contents keeper.contents between.calls keeper.calls
  pub handover_faults : HandoverFaults one.accepted between.faults keeper.faults

-- The run of a workload: its keeper is called only to accept CDRs, and accepts them all. So what the run reads of its events is determined by these.
use Rattle.std.proofs.Common.{◌≡◌, ℕ, zero, suc, Bool, true, false, List, [], ◌∷◌, ◌++◌, map, refl, sym, subst, ap, ◌∙◌, Option, Some, None, arith}
use Rattle.std.specs.Prelude.{⊤}
use Rattle.mmtel_charging.specs.declared.rows.Row.{Row}
use Rattle.mmtel_directory.specs.declared.directories.Directory.{Directory}
use Rattle.mmtel_keeper.specs.Contents.{KeeperContents}
use Rattle.mmtel_environment.specs.Counts.{Rose}
use Rattle.mmtel_environment.specs.declared.events.Event.{Event}
use Rattle.mmtel_environment.specs.declared.events.Event.TheVariants as event
use Rattle.mmtel_environment.specs.declared.events.Offer.{Offer}
use Rattle.mmtel_run_definitions.specs.Events.{EventRecord, TimedEvent, events_in, timed_event_of, timed_events}
use Rattle.mmtel_run_definitions.specs.TopTheorem.{Gives}
use Rattle.mmtel_run_definitions.specs.Run.{IsEnough, IsEnoughAfter, after_events, state_after}
use Rattle.mmtel_run_definitions.specs.ShortRuns.{IsShort, IsShortRun}
use Rattle.mmtel_run_definitions.specs.Transitions.{initial_state}
use Rattle.mmtel_server.specs.DriveEffects.{CountsEachFault}
use Rattle.mmtel_server_timers.specs.Handover.{HandoverFaults}
use Rattle.mmtel_web_service.specs.KeeperCalls.{CountsFaults}
use Rattle.mmtel_web.specs.Handling.{KeeperOutcomeView, failed, made, no_memory}
use Rattle.mmtel_workload.specs.declared.calls.Call.{Call}
use Rattle.mmtel_workload.specs.declared.kinds.CallMessage.{CallMessage}
use Rattle.mmtel_workload.specs.Events.{call_after, event_of, events_of, work_events}
use Rattle.mmtel_workload.specs.Kinds.{messages_of}
use Rattle.mmtel_cli.specs.Listings.{OffersOfRun}
use Rattle.mmtel_cli.specs.Workloads.{accepted_record, empty_held, keeper_of, work_event_records, work_records, work_token}

-- ---- a count that is still 0 never rose

rose_not : (before : ℕ) → Rose before 0 → ⊥
rose_not before rose = omega (arith, rose)

counted_zero : (kept : KeeperOutcomeView) (before : ℕ) → CountsFaults kept before 0 → before ≡ 0
counted_zero made before counted = sym counted
counted_zero failed before counted = absurd (rose_not before counted)
counted_zero no_memory before counted = sym counted

handover_zero : (took : Bool) (before : ℕ) → HandoverFaults took before 0 → (took ≡ true) × (before ≡ 0)
handover_zero true before counted = (refl, sym counted)
handover_zero false before counted = absurd (rose_not before counted)

each_zero : (recorded : List EventRecord) (before : ℕ) → CountsEachFault recorded before 0 → before ≡ 0
each_zero [] before counted = sym counted
each_zero (one ∷ recorded) before counted =
    let later = each_zero recorded counted.0 counted.2 in
    let handed = handover_zero one.accepted counted.1.between (subst (λ (n : ℕ). HandoverFaults one.accepted counted.1.between n) later counted.1.handover_faults) in
    counted_zero one.outcome before (subst (λ (n : ℕ). CountsFaults one.outcome before n) handed.1 counted.1.counted)

-- so the keeper accepted what waited at the end of each event
abbrev AllAccepted : List EventRecord → Type 0
AllAccepted [] = ⊤
AllAccepted (one ∷ recorded) = (one.accepted ≡ true) × AllAccepted recorded

all_accepted : (recorded : List EventRecord) (before : ℕ) → CountsEachFault recorded before 0 → AllAccepted recorded
all_accepted [] before counted = tt
all_accepted (one ∷ recorded) before counted =
    let later = each_zero recorded counted.0 counted.2 in
    let handed = handover_zero one.accepted counted.1.between (subst (λ (n : ℕ). HandoverFaults one.accepted counted.1.between n) later counted.1.handover_faults) in
    (handed.0, all_accepted recorded counted.0 counted.2)

-- ---- a workload's events are datagrams

abbrev IsDatagram : Event → Type 0
IsDatagram (event.Datagram from at bytes) = ⊤
IsDatagram (event.Web at bytes) = ⊥
IsDatagram (event.Quiet at) = ⊥

abbrev AreDatagrams : List Event → Type 0
AreDatagrams [] = ⊤
AreDatagrams (e ∷ events) = IsDatagram e × AreDatagrams events

datagrams_more : (events more : List Event) → AreDatagrams events → AreDatagrams more → AreDatagrams (events ++ more)
datagrams_more [] more these those = those
datagrams_more (e ∷ events) more these those = (these.0, datagrams_more events more these.1 those)

datagrams_of : (call : Call) (acts : List (ℕ × CallMessage)) → AreDatagrams (map (event_of call) acts)
datagrams_of call [] = tt
datagrams_of call (act ∷ acts) = (tt, datagrams_of call acts)

datagrams_work : (calls salt : ℕ) → AreDatagrams (work_events calls salt)
datagrams_work zero salt = tt
datagrams_work (suc before) salt =
    let call = call_after salt before in
    datagrams_more (work_events before salt) (events_of call) (datagrams_work before salt) (datagrams_of call (messages_of call.kind))

-- ---- what the run reads of its events

same_timed_event : (d : Directory) (e : Event) (kept : KeeperOutcomeView) (rows : List Row) (took : Bool) → IsDatagram e → took ≡ true
    → timed_event_of d (record { event = e; outcome = kept; rows = rows; accepted = took }) ≡ timed_event_of d (accepted_record e)
same_timed_event d (event.Datagram from at bytes) kept rows took is so =
    ap (λ (t : Bool). timed_event_of d (record { event = event.Datagram from at bytes; outcome = kept; rows = rows; accepted = t })) so
same_timed_event d (event.Web at bytes) kept rows took is so = absurd is
same_timed_event d (event.Quiet at) kept rows took is so = absurd is

same_timed_events : (d : Directory) (recorded : List EventRecord) → AreDatagrams (events_in recorded) → AllAccepted recorded
    → timed_events d recorded ≡ timed_events d (map accepted_record (events_in recorded))
same_timed_events d [] are took = refl
same_timed_events d (one ∷ recorded) are took =
    ap (λ (n : TimedEvent). n ∷ timed_events d recorded) (same_timed_event d one.event one.outcome one.rows one.accepted are.0 took.0)
    ∙ ap (λ (l : List TimedEvent). timed_event_of d (accepted_record one.event) ∷ l) (same_timed_events d recorded are.1 took.1)

same_timed_events_of_run : (d : Directory) (recorded : List EventRecord) (events : List Event) → events_in recorded ≡ events → AreDatagrams events → CountsEachFault recorded 0 0
    → timed_events d recorded ≡ timed_events d (map accepted_record events)
same_timed_events_of_run d recorded events received are counted =
    let these = subst (λ (l : List Event). AreDatagrams l) (sym received) are in
    same_timed_events d recorded these (all_accepted recorded 0 counted) ∙ ap (λ (l : List Event). timed_events d (map accepted_record l)) received

-- ---- what follows for a run

abbrev rows_in : Option KeeperContents → List Row
rows_in None = []
rows_in (Some held) = held.rows

module _ (d : Directory) (calls salt : ℕ) (held : KeeperContents) (offers : List Offer)
    (run : OffersOfRun d work_token work_records (work_events calls salt) (keeper_of empty_held) (keeper_of held) offers) where
  same : timed_events d run.recorded ≡ timed_events d (work_event_records calls salt)
  same = same_timed_events_of_run d run.recorded (work_events calls salt) run.received (datagrams_work calls salt) run.counts

  enough_by : (fuel : ℕ) → IsEnough d work_token work_records fuel (work_event_records calls salt) → IsEnough d work_token work_records fuel run.recorded
  enough_by fuel = subst (λ (l : List TimedEvent). IsEnoughAfter d work_token fuel l (initial_state work_records)) (sym same)

  short_by : IsShortRun d work_token work_records (work_event_records calls salt) → IsShortRun d work_token work_records run.recorded
  short_by =
      let P : List TimedEvent → Type 0 = λ l. (fuel : ℕ) → IsEnoughAfter d work_token fuel l (initial_state work_records) → IsShort (after_events d work_token fuel l (initial_state work_records)) in
      subst P (sym same)

  -- its outputs are those of the definitions of the run
  pub offers_known : IsShortRun d work_token work_records (work_event_records calls salt) → Gives d work_token work_records (work_event_records calls salt) offers
  offers_known short =
      let given = run.exact (short_by short) in
      record {
        fuel = given.fuel;
        enough = subst (λ (l : List TimedEvent). IsEnoughAfter d work_token given.fuel l (initial_state work_records)) same given.enough;
        exact = given.exact ∙ ap (λ (l : List TimedEvent). (after_events d work_token given.fuel l (initial_state work_records)).offers) same;
      }

  -- and its keeper holds the CDRs that they file
  pub rows_known : IsShortRun d work_token work_records (work_event_records calls salt) → (fuel : ℕ) → IsEnough d work_token work_records fuel (work_event_records calls salt)
      → held.rows ≡ (state_after d work_token work_records fuel (work_event_records calls salt)).filed
  rows_known short fuel enough =
      ap rows_in (run.held (short_by short) fuel (enough_by fuel enough))
      ∙ ap (λ (l : List TimedEvent). (after_events d work_token fuel l (initial_state work_records)).filed) same

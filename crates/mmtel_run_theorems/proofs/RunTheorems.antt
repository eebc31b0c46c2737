-- The outcome of each call of a run, put together; its CDRs and those of participants; and what is sent.
use Rattle.std.proofs.Common.{◌≡◌, ◌≤◌, ℕ, ◌+◌, List, ◌++◌, true, false, Option, None, Some, refl, sym, ap, ◌∙◌, subst, arith}
use Rattle.std.specs.Prelude.{max, count_by, length}
use Rattle.mmtel_b2bua_theorems.specs.NoInjection.{OperationsSendNoInjection, ReleasedLegsHaveNoInjection}
use Rattle.mmtel_b2bua_theorems.specs.TracesOfTables.{ArePutBack, HasNumbers, charging_records_of, emits_of, trace_of}
use Rattle.mmtel_b2bua_theorems.specs.Outcomes.{call_inputs_after, endings_after, outcome_after}
use Rattle.mmtel_b2bua_theorems.specs.Theorems.{CallIsExact, CallOutputsAreOfTheTrace, CallsOfTablesAreExact, CallsTakeTheirSteps, ChargingRecordsAreOfCalls, OtherOperationsOutputNothing, OutputsAreOfTheTrace}
use Rattle.mmtel_b2bua_theorems.specs.Legs.{LegsGoBack}
use Rattle.mmtel_b2bua_theorems.specs.TracesWithTransfers.{CallTraceWithTransfers, call_after}
use Rattle.mmtel_b2bua_theorems.specs.Replies.{CallsReplyInTheirOwn}
use Rattle.mmtel_call.specs.declared.calls.Call.{Call}
use Rattle.mmtel_call.specs.declared.calls.Phase.{Phase}
use Rattle.mmtel_call.specs.declared.calls.Phase.TheVariants.{Detached, Established, Offered, Over}
use Rattle.mmtel_call_services.specs.Opening.{received_history}
use Rattle.mmtel_call_services.specs.CallConfig.{CallConfigView}
use Rattle.mmtel_call_theorems.specs.NoInjection.Messages.{HasOwnFields, MessageHasNoInjection}
use Rattle.mmtel_call_theorems.specs.NoInjection.ReadMessages.{ReadingHasNoInjection}
use Rattle.mmtel_call_theorems.specs.Continuation.{CallsContinue}
use Rattle.mmtel_call_theorems.specs.Outcomes.{received_diversions, result_in, result_of}
use Rattle.mmtel_call_theorems.specs.Theorems.{ChargingIsExact}
use Rattle.mmtel_call_theorems.specs.Labels.{is_offered, label_of_result, labels_of_targets}
use Rattle.mmtel_call_theorems.specs.CallTrace.{opening_in}
use Rattle.mmtel_call_theorems.specs.Notifications.Theorems.{EndsWithoutNotification, NotifiesItsDiversions, NotifiesNothingLater}
use Rattle.mmtel_call_theorems.specs.Notifications.DueNotifications.{notifications_due}
use Rattle.mmtel_directory.specs.declared.directories.Directory.{Directory}
use Rattle.mmtel_focus_theorems.specs.NoInjection.{EmitsHaveNoInjection}
use Rattle.mmtel_focus_theorems.specs.Charging.{OperationsAreCharged}
use Rattle.mmtel_focus_theorems.specs.Replies.{ConferencesReplyInTheirOwn}
use Rattle.mmtel_focus_theorems.specs.Participants.{ParticipantsAreAccountedFor, ParticipantsAreMetered, RowsAreAccountedFor}
use Rattle.mmtel_records_in_force.specs.Texts.{Texts}
use Rattle.mmtel_message.specs.Message.{Message}
use Rattle.mmtel_message.specs.declared.messages.Start.{Start}
use Rattle.mmtel_precedence.specs.Calls.{CallResult, Pending}
use Rattle.mmtel_precedence.specs.Theorems.{DiversionsHaveForwards, StaysWithinBound, diversions_made}
use Rattle.mmtel_run_definitions.specs.Calls.{call_config}
use Rattle.mmtel_run_definitions.specs.Events.{EventRecord, timed_events}
use Rattle.mmtel_run_definitions.specs.ChargingRows.{RowsAreFiled, RowsAreInOrder}
use Rattle.mmtel_run_definitions.specs.InForce.{CallsSeeWhatIsInForce, LastIsInForce, TextsAreThoseKept}
use Rattle.mmtel_run_definitions.specs.Run.{state_after}
use Rattle.mmtel_run_definitions.specs.ShortRuns.{IsShort}
use Rattle.mmtel_run_definitions.specs.Transitions.{RunState, initial_state}
use Rattle.mmtel_transaction.specs.Firings.{BeginsChangeNothing}
use Rattle.mmtel_run_theorems.specs.PendingFinals.{AwaitsItsFinal}
use Rattle.mmtel_run_theorems.specs.NoInjection.{RunsSendNoInjection}
use Rattle.mmtel_run_theorems.specs.Outcome.{CallReachesOutcome, CallsOfRunsReachOutcome, StaysWithinTheBound, is_invited, labels_of_trace, rows_of_call}
use Rattle.mmtel_run_theorems.specs.ChargingRecords.{RowsAreCharged, RunParticipantsChargedOnce}
use Rattle.mmtel_run_theorems.proofs.PendingFinals.{still_awaited}
use Rattle.mmtel_run_theorems.proofs.DiversionBound.{invites_few, targets_few, within}
use Rattle.mmtel_run_theorems.proofs.ChargingRecords.{of_call, rows_charged}
use Rattle.mmtel_run_theorems.proofs.Finals.{finals_come}
use Rattle.mmtel_run_theorems.proofs.CallOutputs.{calls_go_out, replies_said}
use Rattle.mmtel_run_theorems.proofs.OperationsOfEvents.{IsKeyed}
use Rattle.mmtel_run_theorems.proofs.CallKeys.{keys_few}
use Rattle.mmtel_run_theorems.proofs.OpeningTransactions.{trace_opened}
use Rattle.mmtel_run_theorems.proofs.Replies.{AllRepliesAllowed}
use Rattle.mmtel_run_theorems.proofs.NoInjection.{all_own}
use Rattle.mmtel_run_theorems.proofs.Transfers.{detached_at_once, put_back}
use Rattle.mmtel_run_theorems.proofs.Snapshots.{TraceStood, reached, trace_stood}
use Rattle.mmtel_run_theorems.proofs.Notifications.{traces_notify}
use Rattle.mmtel_run_theorems.proofs.OperationContexts.{RunSeesInForce, all_see_in_force}
use Rattle.mmtel_run_theorems.proofs.StepMoments.{all_timed}
use Rattle.mmtel_run_theorems.proofs.NoFinalWhileOffered.{answered_below, answered_own, none_final}

-- fewer calls are opened in a short run than there are numbers
has_numbers : (d : Directory) (w : RunState) → IsKeyed d w → IsShort w → HasNumbers (call_config d) w.call_ops
has_numbers d w k short = omega (arith, k.opened, keys_few w.actions, short.actions)

-- ---- the bound

-- what is observed of it is its Outcome
abbrev ShowsOutcome : CallTraceWithTransfers → Type 0
ShowsOutcome trace = labels_of_trace trace ≡ labels_of_targets (opening_in trace.start) (outcome_after trace.start trace.events).targets ++ label_of_result (outcome_after trace.start trace.events).result

bounded : StaysWithinBound → DiversionsHaveForwards → (d : Directory) (trace : CallTraceWithTransfers) → trace.start.config ≡ call_config d → ShowsOutcome trace → StaysWithinTheBound d trace
bounded bound_law forwards d trace same shown =
    let call = call_inputs_after trace.start trace.events in
    let endings = endings_after trace.start trace.events in
    let few = targets_few (outcome_after trace.start trace.events).targets (forwards.later call endings) in
    let below : received_diversions (opening_in trace.start) + diversions_made (outcome_after trace.start trace.events) ≤ max d.bound (received_diversions (opening_in trace.start)) =
    subst (λ (config : CallConfigView). received_diversions (opening_in trace.start) + diversions_made (outcome_after trace.start trace.events) ≤ max config.bound (received_diversions (opening_in trace.start)))
    same (bound_law call endings) in
    let targets : length (outcome_after trace.start trace.events).targets ≤ d.bound + 1 =
    within (received_diversions (opening_in trace.start)) (diversions_made (outcome_after trace.start trace.events)) d.bound (length (outcome_after trace.start trace.events).targets) below few in
    record {
      diversions = below;
      targets = targets;
      attempts = omega (arith, ap (count_by is_invited) shown, invites_few (opening_in trace.start) (outcome_after trace.start trace.events), targets);
    }

-- ---- the result so far

-- a call that is offered has none
still_pending : (c : Call) → is_offered c.phase ≡ true → result_of c ≡ Pending
still_pending c offered = go c.phase c.answered offered
  where
    go : (phase : Phase) (answered : Option ℕ) → is_offered phase ≡ true → result_in phase answered ≡ Pending
    go (Offered x) answered offered = refl
    go (Established x stage) answered offered = absurd (let f : false ≡ true = offered in cc)
    go (Detached detached) answered offered = absurd (let f : false ≡ true = offered in cc)
    go (Over cause) answered offered = absurd (let f : false ≡ true = offered in cc)

-- ---- the whole

module _ (back : LegsGoBack) (room_replies : ConferencesReplyInTheirOwn) (steps : CallsTakeTheirSteps) (exact_law : CallsOfTablesAreExact) (rows_law : ChargingRecordsAreOfCalls)
    (seats : OperationsAreCharged) (filed : RowsAreFiled) where
  -- the CDRs of a short run
  charged : ParticipantsAreAccountedFor → ParticipantsAreMetered → RowsAreAccountedFor → (d : Directory) (token : List ℕ) (loaded : Texts) (fuel : ℕ) (recorded : List EventRecord) →
      IsShort (state_after d token loaded fuel recorded) →
      RowsAreCharged d (state_after d token loaded fuel recorded)
  charged due metered named d token loaded fuel recorded short =
      let w : RunState = state_after d token loaded fuel recorded in
      let told : RunSeesInForce d token loaded fuel recorded recorded = all_see_in_force d token loaded fuel recorded back room_replies in
      rows_charged steps exact_law rows_law seats d w (filed d token loaded fuel recorded) (has_numbers d w told.keyed short) (put_back (call_config d) None w.call_ops told.detached) told.conferences due metered named

  pub seats_charged : ParticipantsAreAccountedFor → ParticipantsAreMetered → RowsAreAccountedFor → RowsAreInOrder → BeginsChangeNothing → RunParticipantsChargedOnce
  seats_charged due metered named order begins d token loaded recorded short fuel enough = record {
    rows = charged due metered named d token loaded fuel recorded (short fuel enough);
    order = order d token loaded fuel recorded;
    timed = all_timed d token begins fuel (timed_events d recorded) (initial_state loaded);
  }

  module _ (own_law : CallOutputsAreOfTheTrace) (call_replies : CallsReplyInTheirOwn) (nobodys : OtherOperationsOutputNothing) (goes : CallsContinue) (charging : ChargingIsExact)
      (notifies_law : NotifiesItsDiversions) (silent : NotifiesNothingLater) (ends : EndsWithoutNotification)
      (bound_law : StaysWithinBound) (forwards : DiversionsHaveForwards) (texts : TextsAreThoseKept) (last : LastIsInForce) (views : CallsSeeWhatIsInForce) (begins : BeginsChangeNothing) where
    comes : (d : Directory) (token : List ℕ) (loaded : Texts) (fuel : ℕ) (recorded : List EventRecord) → IsShort (state_after d token loaded fuel recorded) →
        (number : ℕ) (trace : CallTraceWithTransfers) → trace_of (call_config d) number (state_after d token loaded fuel recorded).call_ops ≡ Some trace → CallReachesOutcome d token loaded fuel recorded number trace
    comes d token loaded fuel recorded short number trace is =
        let w : RunState = state_after d token loaded fuel recorded in
        let told : RunSeesInForce d token loaded fuel recorded recorded = all_see_in_force d token loaded fuel recorded back room_replies in
        let few : HasNumbers (call_config d) w.call_ops = has_numbers d w told.keyed short in
        let put : ArePutBack (call_config d) w.call_ops = put_back (call_config d) None w.call_ops told.detached in
        let exact : CallIsExact (call_config d) w.call_ops number trace = exact_law (call_config d) w.call_ops number trace few is in
        let own : OutputsAreOfTheTrace (call_config d) w.call_ops number trace = own_law (call_config d) w.call_ops number trace few is in
        let lived : TraceStood texts last views d token loaded fuel recorded number trace = trace_stood texts last views d token loaded fuel recorded number w.call_ops trace told.operations is in
        let rows : rows_of_call w number ≡ charging_records_of (call_config d) number w.call_ops = of_call steps exact_law rows_law seats d w (filed d token loaded fuel recorded) few put told.conferences number in
        let shown : ShowsOutcome trace = exact.shown told.keyed.own in
        let awaited : AwaitsItsFinal w trace.start =
        (λ none. let (e, is, waits) = trace_opened (call_config d) w.actions number w.call_ops trace told.awaited.requested is in
        still_awaited trace.start.arrival.invite.peer w.actions trace.start.arrival.key.0 e told.awaited.run is waits none) in
        record {
          exact = exact;
          shown = shown;
          throughout = exact.throughout told.keyed.own;
          awaited = awaited;
          replied = λ offered.
              let pending : (outcome_after trace.start trace.events).result ≡ Pending = sym exact.result ∙ still_pending (call_after trace.start trace.events) offered in
              awaited (none_final (call_config d) steps nobodys call_replies w.call_ops few told.keyed.rises number trace is exact.emits (opening_in trace.start)
              (outcome_after trace.start trace.events).targets
              (exact.throughout told.keyed.own
              ∙ ap (λ (result : CallResult). labels_of_targets (opening_in trace.start) (outcome_after trace.start trace.events).targets ++ label_of_result result) pending)
              w.actions told.awaited.answered);
          sent = calls_go_out d token begins loaded fuel recorded number;
          answered =
              let (e, opens, waits) = trace_opened (call_config d) w.actions number w.call_ops trace told.awaited.requested is in
              finals_come w trace.start trace.events (emits_of (call_config d) number w.call_ops) exact.emits (opening_in trace.start) (outcome_after trace.start trace.events).targets
              (outcome_after trace.start trace.events).result (exact.throughout told.keyed.own) (calls_go_out d token begins loaded fuel recorded number)
              (replies_said d token begins loaded fuel recorded) told.awaited.run e opens waits
              (λ newer older m at all. answered_own (call_config d) steps nobodys call_replies w.call_ops few told.keyed.rises number trace is newer older m at
              (subst (AllRepliesAllowed (call_config d) w.call_ops) all told.awaited.answered))
              (λ newer older m at all. answered_below (call_config d) steps nobodys call_replies w.call_ops few newer older trace.start.arrival.key.0 m at
              (subst (AllRepliesAllowed (call_config d) w.call_ops) all told.awaited.answered));
          observed = exact.observed;
          watched = exact.watched;
          session = exact.session;
          expires = exact.expires;
          restored = detached_at_once back (call_config d) number w.call_ops trace told.detached is;
          notified =
              traces_notify goes charging notifies_law silent ends trace.start trace.events
              ∙ ap (λ (config : CallConfigView). notifications_due config (opening_in trace.start) (received_history trace.start.arrival.invite) (outcome_after trace.start trace.events).targets) own.opening.0;
          bounded = bounded bound_law forwards d trace own.opening.0 shown;
          charged = record {
            runs = λ goes_on. let now = exact.runs put goes_on in (now.0, rows ∙ now.1);
            filed = λ cause over. let now = exact.filed cause put over in (now.0, rows ∙ now.1);
            ended = exact.ended;
          };
          opened = lived.opened;
          reached = λ k. reached texts last views d token loaded fuel recorded number trace.start trace.events k lived.events;
        }

    pub calls_come : CallsOfRunsReachOutcome
    calls_come d token loaded recorded short fuel number trace enough is = comes d token loaded fuel recorded (short fuel enough) number trace is

-- ---- what is sent

pub sends_no_injection : OperationsSendNoInjection → ReleasedLegsHaveNoInjection → EmitsHaveNoInjection → CallsSeeWhatIsInForce → ReadingHasNoInjection →
    ((m : Message Start) → MessageHasNoInjection m → HasOwnFields m) → RunsSendNoInjection
sends_no_injection sends legs seats views read own d token loaded recorded home clean_token short fuel enough = all_own d recorded own sends legs seats views read token home clean_token loaded fuel

-- The invariants of a call from step to step: whatever holds of requests that it receives and of records in force holds of those that it keeps.
use Rattle.std.proofs.Common.{◌≡◌, ◌==◌, ℕ, zero, suc, Bool, true, false, not, List, [], ◌∷◌, ap, sym, subst, codes, cond, Option, Some, None}
use Rattle.std.specs.Prelude.{Result, Ok, Err, nat_lt, position, slice_get}
use Rattle.mmtel_compose.specs.ReceivedMessages.{MessageView, status_of}
use Rattle.mmtel_output.specs.Outputs.{after_draw, token}
use Rattle.mmtel_output.specs.AbandonedInvites.{is_of_branch}
use Rattle.mmtel_output.specs.Sending.{with_final_ack}
use Rattle.mmtel_output.specs.declared.outputs.StepOutput.{StepOutput}
use Rattle.mmtel_output.specs.declared.sent_invites.AbandonedInvite.{AbandonedInvite}
use Rattle.mmtel_leg.specs.Legs.{Leg}
use Rattle.mmtel_leg.specs.declared.dialogues.DialogueFault.{DialogueFault}
use Rattle.mmtel_precedence.specs.Attempts.{end_by_final, end_by_time}
use Rattle.mmtel_precedence.specs.Calls.{AttemptEndView, NoReply, NotReachable, SnapshotView}
use Rattle.mmtel_precedence.specs.Services.{DueDiversionView}
use Rattle.mmtel_precedence.specs.NextSteps.{EndAnswered, EndDivert, EndRefuse, NextStepView, StepAfterAttemptView, StepDivert, StepOffer, StepRefuse}
use Rattle.mmtel_precedence.specs.Verdicts.{too_many}
use Rattle.mmtel_reliable.specs.Acks.{has_own}
use Rattle.mmtel_reliable.specs.declared.racks.Rack.{Rack}
use Rattle.mmtel_served_user.specs.declared.targets.Target.{Target}
use Rattle.mmtel_transaction.specs.declared.words.DueWord.{DueWord}
use Rattle.mmtel_transaction.specs.declared.words.DueWord.TheVariants as due
use Rattle.mmtel_transaction.specs.declared.words.TKey.{TKey}
use Rattle.mmtel_types.specs.Sides.{other_side}
use Rattle.mmtel_types.specs.declared.causes.Cause.{Cause}
use Rattle.mmtel_types.specs.declared.causes.Cause.TheVariants as causes
use Rattle.mmtel_types.specs.declared.sides.Side.{Side}
use Rattle.mmtel_types.specs.declared.sides.Side.TheVariants.{Caller, Callee}
use Rattle.mmtel_call_services.specs.Decisions.{decision_after, decision_at, diversion_target, is_status, peer_for, redirect_of, relayed_status, served_at, service_at, service_of}
use Rattle.mmtel_output.specs.ResponseMatching.{awaited_request_branch, timed_out_branch}
use Rattle.mmtel_call_services.specs.Opening.{initial_target, opening_of, opening_refusal}
use Rattle.mmtel_call_services.specs.Reliable.{reliable_number}
use Rattle.mmtel_call_services.specs.Requests.{is_same_side}
use Rattle.mmtel_call_services.specs.CallConfig.{CallConfigView}
use Rattle.mmtel_call_services.specs.declared.openings.Arrival.{Arrival}
use Rattle.mmtel_call_services.specs.declared.openings.Opening.{Opening}
use Rattle.mmtel_call_services.specs.declared.openings.Service.{Service}
use Rattle.mmtel_call.specs.Answered.{acknowledges, after_ack_across, after_departure, at_stage, leg_of, with_ack_and_bye, with_leg}
use Rattle.mmtel_call.specs.declared.calls.Call.{Call}
use Rattle.mmtel_call.specs.declared.calls.RelayedTransaction.{RelayedTransaction}
use Rattle.mmtel_call.specs.declared.calls.RelayedKind.{RelayedKind}
use Rattle.mmtel_call.specs.declared.calls.RelayedKind.TheVariants.{Prack, Update}
use Rattle.mmtel_call.specs.declared.calls.EstablishedLegs.{EstablishedLegs}
use Rattle.mmtel_call.specs.declared.calls.Phase.{Phase}
use Rattle.mmtel_call.specs.declared.calls.Reinvite.{Reinvite}
use Rattle.mmtel_call.specs.declared.calls.Stage.{Stage}
use Rattle.mmtel_call.specs.declared.calls.AnsweredInvite.{AnsweredInvite}
use Rattle.mmtel_call.specs.declared.calls.OfferedAttempt.{OfferedAttempt}
use Rattle.mmtel_call.specs.declared.calls.Phase.TheVariants.{Detached, Established, Offered, Over}
use Rattle.mmtel_call.specs.declared.calls.Stage.TheVariants.{Answered, Departing, Reinviting, Stable}
use Rattle.mmtel_call.specs.Closing.{StepResult, call_end, established_call_end, step_result, with_past}
use Rattle.mmtel_call.specs.Diverting.{after_attempt, at_target, call_after_diversion, call_refusal, diversion_refusal, diversion_step, diversion_unless_refused}
use Rattle.mmtel_call.specs.Diverting.{divert, is_diverted, on_end, on_next_step, relayed_refusal, with_notification_of, with_unoffered_meter}
use Rattle.mmtel_call.specs.RelayedTransactions.{is_in_flight, leg_after_request, on_accepted_in_flight as agreed_to, on_final_relayed, on_response_in_flight}
use Rattle.mmtel_call.specs.RelayedTransactions.{on_response_relayed, output_after_dismissal, relayed_transaction_of, without_in_flight}
use Rattle.mmtel_call.specs.RelayedTransactions.{on_timeout_in_flight, on_timeout_relayed, updating_side, with_response_back, with_transaction, without_transaction}
use Rattle.mmtel_call.specs.OtherRequests.{is_answered_invite, is_fork, is_success, on_forked_response, on_other_response, on_other_response_at, on_other_timeout}
use Rattle.mmtel_call.specs.OtherRequests.{on_other_timeout_at, on_response_abandoned, on_response_answered, on_response_answered_at, on_retransmitted_success}
use Rattle.mmtel_call.specs.Opening.{call_after_opening, caller_of, new_call, unless_refused}
use Rattle.mmtel_call.specs.Reinvites.{ends_dialog, on_accepted_reinvite, on_cancel_across, on_provisional_across, on_response_across, with_byes, with_refusal_back}
use Rattle.mmtel_call.specs.Reliable.{named_rseq, on_named_prack, on_rack, on_refused_prack, own_rseq_for, rack_in}
use Rattle.mmtel_call.specs.Ringing.{on_answer, with_attempt_cancel, on_failure, on_caller_cancel, end_before_answer, attempt_after_request, call_without_attempt}
use Rattle.mmtel_call.specs.Ringing.{on_provisional, on_provisional_by, on_numbered_provisional, on_attempt_timeout, on_trying, on_due, on_valid_request, on_other}
use Rattle.mmtel_call.specs.Ringing.{offered_request_check, on_prack_of, on_request_if, on_response}
use Rattle.mmtel_call.specs.Requests.{is_bye, is_invite, is_prack, is_update, leg_after_receiving, request_check, with_unlisted_response}
use Rattle.mmtel_call.specs.Sending.{with_relay_to_caller, with_status_to, with_status_to_caller}
use Rattle.mmtel_call.specs.Stages.{after_bye_at, after_timer_at, busy_in, has_departed, is_due_at, on_ack_at, on_bye, on_cancel_at, on_invite, on_request_at_if, on_response_at, on_timeout_at, on_valid_request_at}
use Rattle.mmtel_call.specs.Updates.{accepts_updates, on_early_retry, on_early_update, on_glare, on_stable_update, on_update, on_update_at, unless_updating}
use Rattle.mmtel_call.specs.Table.{ack_in, cancel_in, due_in, is_current, leaves, on_response_to, on_timeout_of, request_in, response_in, step, timeout_in, transition}
use Rattle.mmtel_call.specs.declared.signals.Signal.TheVariants as signal
use Rattle.mmtel_call.specs.Detaching.{call_finish, detached_in, finish_of_phase, with_leg_restored}
use Rattle.mmtel_call.specs.declared.signals.Signal.{Signal}
use Rattle.mmtel_leg.specs.declared.legs.Released.{Released}
use Rattle.mmtel_types.specs.declared.numbers.Account.{Account}
use Rattle.std.specs.Option.{option_map, unwrap_or}
use Rattle.mmtel_sheet_values.specs.Sheets.{empty_sheet}
use Rattle.mmtel_sheet_values.specs.declared.values.Sheet.{Sheet}
use Rattle.mmtel_call_theorems.specs.NoInjection.Emits.{Each}
use Rattle.mmtel_call_theorems.specs.Noninterference.Invariant.{CallInvariant, CallsKeepTheirInvariant, SignalIsFromOwnPeer}
use Rattle.mmtel_call_theorems.specs.Noninterference.Premises.{IsAmong, IsFromOwnPeer, RecordsCoverService, RecordsCoverSnapshot, phase_is_from_own_peer}
use Rattle.mmtel_call_theorems.specs.Noninterference.Observations.{Trust}
use Rattle.mmtel_call_theorems.specs.Noninterference.StepTable.{ServedIn}
use Rattle.mmtel_call_theorems.proofs.Each.{each_append, each_without}
use Rattle.mmtel_call_theorems.proofs.Noninterference.Detaching.{detached_stays, finished_stays, put_stays}
use Rattle.mmtel_call_theorems.proofs.Noninterference.FixedOpenings.{opened-keeps, openings_stay}

-- ---- whatever holds of requests and of records

abbrev StageKeeps : (request : TKey → MessageView → Type 0) → Stage → Type 0
StageKeeps request (Answered side success) = Unit {0}
StageKeeps request (Departing side success) = Unit {0}
StageKeeps request Stable = Unit {0}
StageKeeps request (Reinviting side q) = request q.key q.request

-- it holds of the request that awaits its response, and of the account that is served where the call is offered
abbrev PhaseKeeps : (request : TKey → MessageView → Type 0) → (service : Option Service → Type 0) → Phase → Type 0
PhaseKeeps request service (Offered x) = service x.attempt.service
PhaseKeeps request service (Established x stage) = StageKeeps request stage
PhaseKeeps request service (Detached detached) = Unit {0}
PhaseKeeps request service (Over cause) = Unit {0}

-- of a request that is received
abbrev Brings : (request : TKey → MessageView → Type 0) → Signal → Type 0
Brings request (signal.Request side key m) = request key m
Brings request (signal.Ack side ack) = Unit {0}
Brings request (signal.Cancel key cancel invite) = Unit {0}
Brings request (signal.Answer key response) = Unit {0}
Brings request (signal.Silent branch method) = Unit {0}
Brings request (signal.Due what) = Unit {0}
Brings request (signal.Ended key) = Unit {0}

-- and of each account with its current record, and of no account
abbrev ServiceHolds : (service : Option Service → Type 0) → SnapshotView → Type 0
ServiceHolds service now = (served : Option Account) → service (option_map (service_of now) served)

module _ (request : TKey → MessageView → Type 0) (service : Option Service → Type 0) where
  abbrev Holds : Phase → Type 0
  Holds p = PhaseKeeps request service p

  -- and of the requests in flight
  abbrev Flies : Call → Type 0
  Flies c = Each (λ (flight : RelayedTransaction). request flight.exchange.key flight.exchange.request) c.relayed

  abbrev Has : Call → Type 0
  Has c = Holds c.phase × Flies c

  abbrev Keeps : StepResult → Type 0
  Keeps s = Has s.call

  -- one more is in flight
  more : (flight : RelayedTransaction) (c : Call) → request flight.exchange.key flight.exchange.request → Flies c → Flies (with_transaction flight c)
  more flight c r flies = each_append (λ (x : RelayedTransaction). request x.exchange.key x.exchange.request) c.relayed (flight ∷ []) flies (r, tt)

  keep-if : (b : Bool) (p q : StepResult) → Keeps p → Keeps q → Keeps (cond b p q)
  keep-if true p q e f = e
  keep-if false p q e f = f

  -- ---- how a call continues

  module _ (config : CallConfigView) (now : SnapshotView) (stands : ServiceHolds service now) where
    abbrev Diverts : (f : Option Service → DueDiversionView → Call → StepOutput → StepResult) → Type 0
    Diverts f = (its : Option Service) (due : DueDiversionView) (c : Call) (output : StepOutput) → Flies c → Keeps (f its due c output)

    next-step-keeps : (f : Option Service → DueDiversionView → Call → StepOutput → StepResult) → Diverts f → (turn : NextStepView) (caller : Leg) (its : Option Service) → service its →
        (cause : Option ℕ) (target : Target) (c : Call) (output : StepOutput) → Flies c →
        Keeps (on_next_step f config now.at caller its cause target turn c output)
    next-step-keeps f keeps (StepOffer peer waiting) caller its h cause target c output flies = (h, flies)
    next-step-keeps f keeps (StepDivert due) caller its h cause target c output flies = keeps its due (with_unoffered_meter now.at its c) output flies
    next-step-keeps f keeps (StepRefuse why) caller its h cause target c output flies = (tt, tt)

    target-keeps : (f : Option Service → DueDiversionView → Call → StepOutput → StepResult) → Diverts f → (caller : Leg) (cause : Option ℕ) (target : Target) (c : Call) (output : StepOutput) → Flies c →
        Keeps (at_target f config now caller cause target c output)
    target-keeps f keeps caller cause target c output flies =
        next-step-keeps f keeps (decision_at config now c.opening (is_diverted c) cause target (service_at config now c.opening cause target) (peer_for config c.opening target)) caller
        (service_at config now c.opening cause target)
        (stands (served_at config c.opening cause target)) cause target c output flies

    unless-keeps : (refusal : Option Cause) (onward : Call → StepOutput → StepResult) (caller : Leg) (c : Call) (output : StepOutput) → Keeps (onward c output) →
        Keeps (diversion_unless_refused refusal onward config now.at caller c output)
    unless-keeps None onward caller c output h = h
    unless-keeps (Some cause) onward caller c output h = (tt, tt)

    divert-keeps : (left : ℕ) (caller : Leg) → Diverts (divert left config now caller)
    unfolding divert
    divert-keeps zero caller its due c output flies = unless-keeps (diversion_refusal 0 config now.at its due c) (call_refusal config now.at caller (too_many due.cause)) caller c output (tt, tt)
    divert-keeps (suc left) caller its due c output flies =
        let next : Call = call_after_diversion (diversion_target config due) now.at left its due c in
        unless-keeps (diversion_refusal (suc left) config now.at its due c)
        (diversion_step (at_target (divert left config now caller) config now caller (Some due.cause) (diversion_target config due)) config (diversion_target config due) now.at left its due) caller c output
        (target-keeps (divert left config now caller) (divert-keeps left caller) caller (Some due.cause) (diversion_target config due) next (with_notification_of config due next output) flies)

    refused_by-keeps : (caller : Leg) (its : Option Service) (m : Option MessageView) (cause : Cause) (c : Call) (output : StepOutput) → Keeps (relayed_refusal config now.at caller its m cause c output)
    refused_by-keeps caller its None cause c output = (tt, tt)
    refused_by-keeps caller its (Some m) cause c output =
        keep-if (is_status (status_of m.parsed.start) (relayed_status cause)) (call_end now.at cause caller.meter None c (with_relay_to_caller config c its m output))
        (call_refusal config now.at caller cause c output) (tt, tt) (tt, tt)

    end-keeps : (after : StepAfterAttemptView) (caller : Leg) (its : Option Service) (m : Option MessageView) (c : Call) (output : StepOutput) → Flies c → Keeps (on_end config now caller its m after c output)
    end-keeps EndAnswered caller its m c output flies = (tt, tt)
    end-keeps (EndDivert due) caller its m c output flies = divert-keeps c.diversions.remaining caller its due c output flies
    end-keeps (EndRefuse cause) caller its m c output flies = refused_by-keeps caller its m cause c output

    goes-keeps : (x : OfferedAttempt) (how : AttemptEndView) (m : Option MessageView) (c : Call) (output : StepOutput) → Flies c → Keeps (after_attempt config now x how m c output)
    goes-keeps x how m c output flies = end-keeps (decision_after c.opening now.at (is_diverted c) x.attempt.service how) x.caller x.attempt.service m (with_past x.callee.leg.meter c) output flies

    -- ---- while it is offered

    numbered-keeps : (own : Option ℕ) (rseq : ℕ) (x : OfferedAttempt) (key : TKey) (m : MessageView) (code : ℕ) (c : Call) (output : StepOutput) → service x.attempt.service → Flies c →
        Keeps (on_numbered_provisional own rseq config now.at x key m code c output)
    numbered-keeps None rseq x key m code c output h flies = (h, flies)
    numbered-keeps (Some own) rseq x key m code c output h flies = (h, flies)

    proceeding-keeps : (rseq : Option ℕ) (x : OfferedAttempt) (key : TKey) (m : MessageView) (code : ℕ) (c : Call) (output : StepOutput) → service x.attempt.service → Flies c →
        Keeps (on_provisional_by rseq config now.at x key m code c output)
    proceeding-keeps None x key m code c output h flies = (h, flies)
    proceeding-keeps (Some rseq) x key m code c output h flies = numbered-keeps (own_rseq_for rseq x m c) rseq x key m code c output h flies

    offered-response : (x : OfferedAttempt) (key : TKey) (m : MessageView) (code : ℕ) (c : Call) (output : StepOutput) → service x.attempt.service → Flies c → Keeps (on_response config now x key m code c output)
    offered-response x key m code c output h flies =
        let first : StepResult = on_trying key x c output in
        let second : StepResult = on_provisional config now.at x key m code c output in
        let third : StepResult = on_answer config now.at x key m c output in
        let last : StepResult = on_failure config now x key m code c output in
        keep-if (nat_lt code 101) first (cond (nat_lt code 200) second (cond (nat_lt code 300) third last)) (h, flies)
        (keep-if (nat_lt code 200) second (cond (nat_lt code 300) third last) (proceeding-keeps (reliable_number config c.opening m) x key m code c output h flies)
        (keep-if (nat_lt code 300) third last (tt, flies) (goes-keeps x (end_by_final code (redirect_of m) x.attempt.rang) (Some m) c (with_final_ack config.sip key x.attempt.invite m.parsed output) flies)))

    named-keeps : (answer : Option ℕ) (x : OfferedAttempt) (key : TKey) (m : MessageView) (rack : Rack) (c : Call) (output : StepOutput) → request key m → service x.attempt.service → Has c →
        Keeps (on_named_prack config x key m rack answer c output)
    named-keeps None x key m rack c output r its h = h
    named-keeps (Some answer) x key m rack c output r its h = (its, more (relayed_transaction_of Prack Caller key m (leg_after_request (codes "PRACK") x.callee.leg) output) c r h.1)

    rack-keeps : (o : Option Rack) (x : OfferedAttempt) (key : TKey) (m : MessageView) (c : Call) (output : StepOutput) → request key m → service x.attempt.service → Has c → Keeps (on_rack config x key m o c output)
    rack-keeps None x key m c output r its h = h
    rack-keeps (Some rack) x key m c output r its h = named-keeps (named_rseq x c rack) x key m rack c output r its h

    prack-keeps : (side : Side) (x : OfferedAttempt) (key : TKey) (m : MessageView) (c : Call) (output : StepOutput) → request key m → service x.attempt.service → Has c → Keeps (on_prack_of side config x key m c output)
    prack-keeps Caller x key m c output r its h = rack-keeps (rack_in m) x key m c output r its h
    prack-keeps Callee x key m c output r its h = h

    unless-flies : (o : Option Side) (f : Call → StepOutput → StepResult) (side : Side) (key : TKey) (m : MessageView) (c : Call) (output : StepOutput) → Has c → Keeps (f c output) →
        Keeps (unless_updating o f config side key m c output)
    unless-flies None f side key m c output h goes = goes
    unless-flies (Some flying) f side key m c output h goes = keep-if (is_same_side flying side) (on_early_retry config key m c output) (on_glare config key m c output) h h

    early-keeps : (side : Side) (x : OfferedAttempt) (key : TKey) (m : MessageView) (c : Call) (output : StepOutput) → request key m → service x.attempt.service → Flies c →
        Keeps (on_early_update config x side key m c output)
    early-keeps Caller x key m c output r its flies = (its, more (relayed_transaction_of Update Caller key m (leg_after_request (codes "UPDATE") x.callee.leg) output) c r flies)
    early-keeps Callee x key m c output r its flies = (its, more (relayed_transaction_of Update Callee key m (leg_after_request (codes "UPDATE") x.caller) output) c r flies)

    update-keeps : (side : Side) (x : OfferedAttempt) (key : TKey) (m : MessageView) (c : Call) (output : StepOutput) → request key m → service x.attempt.service → Has c → Keeps (on_update config x side key m c output)
    update-keeps side x key m c output r its h =
        keep-if (accepts_updates x) (unless_updating (updating_side c.relayed) (on_early_update config x side key m) config side key m c output) (on_early_retry config key m c output)
        (unless-flies (updating_side c.relayed) (on_early_update config x side key m) side key m c output h (early-keeps side x key m c output r its h.1)) h

    offered-other : (x : OfferedAttempt) (side : Side) (key : TKey) (m : MessageView) (c : Call) (output : StepOutput) → request key m → service x.attempt.service → Has c → Keeps (on_other config x side key m c output)
    offered-other x side key m c output r its h =
        keep-if (is_prack m) (on_prack_of side config x key m c output) (cond (is_update m) (on_update config x side key m c output) (step_result c (with_unlisted_response config c key m output)))
        (prack-keeps side x key m c output r its h)
        (keep-if (is_update m) (on_update config x side key m c output) (step_result c (with_unlisted_response config c key m output)) (update-keeps side x key m c output r its h) h)

    offered-received : (x : OfferedAttempt) (side : Side) (key : TKey) (m : MessageView) (c : Call) (output : StepOutput) → request key m → service x.attempt.service → Has c →
        Keeps (on_valid_request config now.at x side key m c output)
    offered-received x Caller key m c output r its h =
        keep-if (is_bye m) (on_caller_cancel config now.at x c (with_status_to config c key m 200 output)) (on_other config x Caller key m c output) (tt, tt) (offered-other x Caller key m c output r its h)
    offered-received x Callee key m c output r its h = offered-other x Callee key m c output r its h

    offered-request : (r : Result (Unit {0}) DialogueFault) (x : OfferedAttempt) (side : Side) (key : TKey) (m : MessageView) (c : Call) (output : StepOutput) → request key m → service x.attempt.service → Has c →
        Keeps (on_request_if r config now.at x side key m c output)
    offered-request (Ok received) x Caller key m c output r its h =
        offered-received (attempt_after_request Caller m x) Caller key m (record c { phase = Offered (attempt_after_request Caller m x) }) output r its (its, h.1)
    offered-request (Ok received) x Callee key m c output r its h =
        offered-received (attempt_after_request Callee m x) Callee key m (record c { phase = Offered (attempt_after_request Callee m x) }) output r its (its, h.1)
    offered-request (Err fault) x side key m c output r its h = h

    offered-due : (x : OfferedAttempt) (what : DueWord) (c : Call) (output : StepOutput) → Has c → Keeps (on_due config now x what c output)
    offered-due x (due.NoReply number) c output h = keep-if (number == x.attempt.number) (on_attempt_timeout config now x NoReply c output) (step_result c output)
        (goes-keeps x NoReply None (call_without_attempt x c) (with_attempt_cancel config x output) h.1) h
    offered-due x (due.NoPrack own) c output h = keep-if (has_own own c.acks.waiting) (end_before_answer causes.Unacknowledged config now.at x c output) (step_result c output) (tt, tt) h
    offered-due x (due.Cap number) c output h =
        keep-if (number == x.attempt.number) (on_attempt_timeout config now x (end_by_time x.attempt.rang) c output) (step_result c output)
        (goes-keeps x (end_by_time x.attempt.rang) None (call_without_attempt x c) (with_attempt_cancel config x output) h.1) h
    offered-due x (due.NoAck number) c output h = h
    offered-due x (due.Expired number) c output h = h

    -- ---- once it is answered

    invite-keeps : (stage : Stage) (x : EstablishedLegs) (side : Side) (key : TKey) (m : MessageView) (c : Call) (output : StepOutput) → request key m → Has c → Keeps (on_invite stage config x side key m c output)
    invite-keeps (Answered waiting success) x side key m c output r h = h
    invite-keeps (Departing waiting success) x side key m c output r h = h
    invite-keeps Stable x side key m c output r h = (r, h.1)
    invite-keeps (Reinviting asking q) x side key m c output r h = h

    left-keeps : (stage : Stage) (x : EstablishedLegs) (side : Side) (m : MessageView) (c : Call) (output : StepOutput) → Flies c → Keeps (after_bye_at stage config now.at x side m c output)
    left-keeps (Answered waiting success) x side m c output flies =
        keep-if (is_same_side waiting side) (established_call_end now.at x c (with_ack_and_bye config x (other_side side) output)) (step_result (at_stage x (Departing waiting success) c) output) (tt, tt) (tt, flies)
    left-keeps (Departing waiting success) x side m c output flies = (tt, tt)
    left-keeps Stable x side m c output flies = (tt, tt)
    left-keeps (Reinviting asking q) x side m c output flies = (tt, tt)

    bye-keeps : (stage : Stage) (x : EstablishedLegs) (side : Side) (key : TKey) (m : MessageView) (c : Call) (output : StepOutput) → Has c → Keeps (on_bye stage config now.at x side key m c output)
    bye-keeps stage x side key m c output h =
        keep-if (has_departed stage side) (step_result c (with_status_to config c key m 481 output)) (after_bye_at stage config now.at x side m c (with_status_to config c key m 200 output)) h
        (left-keeps stage x side m c (with_status_to config c key m 200 output) h.1)

    update_at-keeps : (stage : Stage) (side : Side) (x : EstablishedLegs) (key : TKey) (m : MessageView) (c : Call) (output : StepOutput) → request key m → Has c → Keeps (on_update_at stage config x side key m c output)
    update_at-keeps (Answered waiting success) side x key m c output r h = h
    update_at-keeps (Departing waiting success) side x key m c output r h = h
    update_at-keeps Stable side x key m c output r h =
        unless-flies (updating_side c.relayed) (on_stable_update config x side key m) side key m c output h
        (tt, more (relayed_transaction_of Update side key m (leg_after_request (codes "UPDATE") (leg_of (other_side side) x)) output) c r h.1)
    update_at-keeps (Reinviting asking q) side x key m c output r h = h

    received-keeps : (stage : Stage) (x : EstablishedLegs) (side : Side) (key : TKey) (m : MessageView) (c : Call) (output : StepOutput) → request key m → Has c →
        Keeps (on_valid_request_at stage config now.at x side key m c output)
    received-keeps stage x side key m c output r h =
        let none : StepResult = step_result c (with_unlisted_response config c key m output) in
        let acks : StepResult = cond (is_prack m) (on_refused_prack config key m c output) none in
        let updates : StepResult = cond (is_update m) (on_update_at stage config x side key m c output) acks in
        keep-if (is_invite m) (on_invite stage config x side key m c output) (cond (is_bye m) (on_bye stage config now.at x side key m c output) updates) (invite-keeps stage x side key m c output r h)
        (keep-if (is_bye m) (on_bye stage config now.at x side key m c output) updates (bye-keeps stage x side key m c output h)
        (keep-if (is_update m) (on_update_at stage config x side key m c output) acks (update_at-keeps stage side x key m c output r h)
        (keep-if (is_prack m) (on_refused_prack config key m c output) none h h)))

    request-keeps : (r : Result (Unit {0}) DialogueFault) (stage : Stage) (x : EstablishedLegs) (side : Side) (key : TKey) (m : MessageView) (c : Call) (output : StepOutput) → request key m →
        StageKeeps request stage → Has c →
        Keeps (on_request_at_if r stage config now.at x side key m c output)
    request-keeps (Ok received) stage x side key m c output r s h =
        received-keeps stage (with_leg side (leg_after_receiving (leg_of side x) m) x) side key m (at_stage (with_leg side (leg_after_receiving (leg_of side x) m) x) stage c) output r (s, h.1)
    request-keeps (Err fault) stage x side key m c output r s h = h

    ack-keeps : (stage : Stage) (x : EstablishedLegs) (side : Side) (m : MessageView) (c : Call) (output : StepOutput) → Has c → Keeps (on_ack_at stage config now.at x side m c output)
    ack-keeps (Answered waiting success) x side m c output h = keep-if (acknowledges waiting success side m) (after_ack_across config x side success m c output) (step_result c output) (tt, h.1) h
    ack-keeps (Departing waiting success) x side m c output h = keep-if (acknowledges waiting success side m) (after_departure config now.at x side c output) (step_result c output) (tt, tt) h
    ack-keeps Stable x side m c output h = h
    ack-keeps (Reinviting asking q) x side m c output h = h

    cancel-keeps : (stage : Stage) (x : EstablishedLegs) (invite : TKey) (c : Call) (output : StepOutput) → StageKeeps request stage → Has c → Keeps (on_cancel_at stage config x invite c output)
    cancel-keeps (Answered waiting success) x invite c output s h = h
    cancel-keeps (Departing waiting success) x invite c output s h = h
    cancel-keeps Stable x invite c output s h = h
    cancel-keeps (Reinviting asking q) x invite c output s h = keep-if (invite.0 == q.key.0) (on_cancel_across config x asking q c output) (step_result c output) (s, h.1) h

    across-keeps : (asking : Side) (q : Reinvite) (x : EstablishedLegs) (key : TKey) (m : MessageView) (code : ℕ) (c : Call) (output : StepOutput) → request q.key q.request → Flies c →
        Keeps (on_response_across config now.at x asking q key m code c output)
    across-keeps asking q x key m code c output s flies =
        let back : StepOutput = with_refusal_back config x asking q key m c output in
        let over : StepResult = established_call_end now.at x c (with_byes config x back) in
        let on : StepResult = step_result (at_stage x Stable c) back in
        let says : StepResult = on_accepted_reinvite config now.at x asking q key m c output in
        keep-if (nat_lt code 200) (on_provisional_across config x asking q key c output) (cond (nat_lt code 300) says (cond (ends_dialog code) over on)) (s, flies)
        (keep-if (nat_lt code 300) says (cond (ends_dialog code) over on) (tt, flies) (keep-if (ends_dialog code) over on (tt, tt) (tt, flies)))

    response-keeps : (stage : Stage) (x : EstablishedLegs) (key : TKey) (m : MessageView) (c : Call) (output : StepOutput) → StageKeeps request stage → Has c → Keeps (on_response_at stage config now.at x key m c output)
    response-keeps (Answered waiting success) x key m c output s h = h
    response-keeps (Departing waiting success) x key m c output s h = h
    response-keeps Stable x key m c output s h = h
    response-keeps (Reinviting asking q) x key m c output s h = across-keeps asking q x key m (status_of m.parsed.start) c output s h.1

    timeout-keeps : (stage : Stage) (x : EstablishedLegs) (c : Call) (output : StepOutput) → Has c → Keeps (on_timeout_at stage config now.at x c output)
    timeout-keeps (Answered waiting success) x c output h = h
    timeout-keeps (Departing waiting success) x c output h = h
    timeout-keeps Stable x c output h = h
    timeout-keeps (Reinviting asking q) x c output h = (tt, tt)

    rung-keeps : (stage : Stage) (x : EstablishedLegs) (c : Call) (output : StepOutput) → Has c → Keeps (after_timer_at stage config now.at x c output)
    rung-keeps (Answered waiting success) x c output h = (tt, tt)
    rung-keeps (Departing waiting success) x c output h = (tt, tt)
    rung-keeps Stable x c output h = (tt, tt)
    rung-keeps (Reinviting asking q) x c output h = (tt, tt)

    -- ---- INVITEs for which it does not wait

    abandoned-keeps : (at : ℕ) (o : Option AbandonedInvite) (key : TKey) (m : MessageView) (c : Call) (output : StepOutput) → Has c → Keeps (on_response_abandoned config key m at o c output)
    abandoned-keeps at None key m c output h = h
    abandoned-keeps at (Some l) key m c output h = h

    answered-keeps : (at : ℕ) (o : Option AnsweredInvite) (key : TKey) (m : MessageView) (c : Call) (output : StepOutput) → Has c → Keeps (on_response_answered config key m at o c output)
    answered-keeps at None key m c output h = h
    answered-keeps at (Some t) key m c output h =
        let p : StepResult = on_forked_response config key m at t c output in
        let q : StepResult = on_retransmitted_success t c output in
        keep-if (not (is_success (status_of m.parsed.start))) (step_result c output) (cond (is_fork t m) p q) h (keep-if (is_fork t m) p q h h)

    agreed-keeps : (kind : RelayedKind) (side : Side) (asked m : MessageView) (c : Call) (output : StepOutput) → Has c → Keeps (agreed_to kind config now.at side asked m c output)
    agreed-keeps Prack side asked m c output h = h
    agreed-keeps Update side asked m c output h = h

    less : (place : ℕ) (c : Call) → Has c → Has (without_transaction place c)
    less place c h = (h.0, each_without (λ (x : RelayedTransaction). request x.exchange.key x.exchange.request) place c.relayed h.1)

    relayed-keeps : (place : ℕ) (o : Option RelayedTransaction) (m : MessageView) (code : ℕ) (c : Call) (output : StepOutput) → Has c → Keeps (on_response_relayed config now.at m code place o c output)
    relayed-keeps place None m code c output h = h
    relayed-keeps place (Some flight) m code c output h =
        let d : Call = without_transaction place c in
        let back : StepOutput = with_response_back config flight m d output in
        keep-if (nat_lt code 200) (step_result c output) (on_final_relayed config now.at flight m code d output) h
        (keep-if (is_success code) (agreed_to flight.kind config now.at flight.side flight.exchange.request m d back) (step_result d back)
        (agreed-keeps flight.kind flight.side flight.exchange.request m d back (less place c h)) (less place c h))

    in-flight-keeps : (o : Option ℕ) (m : MessageView) (c : Call) (output : StepOutput) → Has c → Keeps (on_response_in_flight config now.at m o c output)
    in-flight-keeps None m c output h = h
    in-flight-keeps (Some place) m c output h = relayed-keeps place (slice_get c.relayed place) m (status_of m.parsed.start) c output h

    answered_at-keeps : (o : Option ℕ) (key : TKey) (m : MessageView) (branch : List ℕ) (c : Call) (output : StepOutput) → Has c → Keeps (on_response_answered_at config now.at key m branch o c output)
    answered_at-keeps None key m branch c output h = in-flight-keeps (position (is_in_flight branch) c.relayed) m c output h
    answered_at-keeps (Some at) key m branch c output h = answered-keeps at (slice_get c.answered_invites at) key m c output h

    at-keeps : (o : Option ℕ) (key : TKey) (m : MessageView) (branch : List ℕ) (c : Call) (output : StepOutput) → Has c → Keeps (on_other_response_at config now.at key m branch o c output)
    at-keeps None key m branch c output h = answered_at-keeps (position (is_answered_invite branch) c.answered_invites) key m branch c output h
    at-keeps (Some at) key m branch c output h = abandoned-keeps at (slice_get c.abandoned at) key m c output h

    timed-out-relayed-keeps : (place : ℕ) (o : Option RelayedTransaction) (c : Call) (output : StepOutput) → Has c → Keeps (on_timeout_relayed config place o c output)
    timed-out-relayed-keeps place None c output h = h
    timed-out-relayed-keeps place (Some flight) c output h = less place c h

    timed-out-in-flight-keeps : (o : Option ℕ) (c : Call) (output : StepOutput) → Has c → Keeps (on_timeout_in_flight config o c output)
    timed-out-in-flight-keeps None c output h = h
    timed-out-in-flight-keeps (Some place) c output h = timed-out-relayed-keeps place (slice_get c.relayed place) c output h

    timed-out-at-keeps : (o : Option ℕ) (branch : List ℕ) (c : Call) (output : StepOutput) → Has c → Keeps (on_other_timeout_at config branch o c output)
    timed-out-at-keeps None branch c output h = timed-out-in-flight-keeps (position (is_in_flight branch) c.relayed) c output h
    timed-out-at-keeps (Some at) branch c output h = h

    other-keeps : (key : TKey) (m : MessageView) (branch : List ℕ) (c : Call) (output : StepOutput) → Has c → Keeps (on_other_response config now.at key m branch c output)
    unfolding on_other_response
    other-keeps key m branch c output h = at-keeps (position (is_of_branch branch) c.abandoned) key m branch c output h

    -- ---- the table

    in-request : (p : Phase) (side : Side) (key : TKey) (m : MessageView) (c : Call) (output : StepOutput) → request key m → Holds p → Has c → Keeps (request_in p config now.at side key m c output)
    in-request (Offered x) side key m c output r k h = offered-request (offered_request_check x side m) x side key m c output r k h
    in-request (Established x stage) side key m c output r k h = request-keeps (request_check (leg_of side x) m (busy_in stage side)) stage x side key m c output r k h
    in-request (Detached detached) side key m c output r k h = h
    in-request (Over cause) side key m c output r k h = h

    in-ack : (p : Phase) (side : Side) (m : MessageView) (c : Call) (output : StepOutput) → Has c → Keeps (ack_in p config now.at side m c output)
    in-ack (Offered x) side m c output h = h
    in-ack (Established x stage) side m c output h = ack-keeps stage x side m c output h
    in-ack (Detached detached) side m c output h = h
    in-ack (Over cause) side m c output h = h

    in-cancel : (p : Phase) (key : TKey) (m : MessageView) (invite : TKey) (c : Call) (output : StepOutput) → Holds p → Has c → Keeps (cancel_in p config now.at key m invite c output)
    in-cancel (Offered x) key m invite c output k h =
        keep-if (invite.0 == c.opening.key.0) (on_caller_cancel config now.at x c (with_status_to config c key m 200 output)) (step_result c (with_status_to config c key m 200 output)) (tt, tt) h
    in-cancel (Established x stage) key m invite c output k h = cancel-keeps stage x invite c (with_status_to config c key m 200 output) k h
    in-cancel (Detached detached) key m invite c output k h = h
    in-cancel (Over cause) key m invite c output k h = h

    in-response : (p : Phase) (key : TKey) (m : MessageView) (c : Call) (output : StepOutput) → Holds p → Has c → Keeps (response_in p config now key m c output)
    in-response (Offered x) key m c output k h = offered-response x key m (status_of m.parsed.start) c output k h.1
    in-response (Established x stage) key m c output k h = response-keeps stage x key m c output k h
    in-response (Detached detached) key m c output k h = h
    in-response (Over cause) key m c output k h = h

    in-timeout : (p : Phase) (c : Call) (output : StepOutput) → Has c → Keeps (timeout_in p config now c output)
    in-timeout (Offered x) c output h = keep-if x.attempt.rang (step_result c output) (after_attempt config now x (NotReachable 408) None c output) h (goes-keeps x (NotReachable 408) None c output h.1)
    in-timeout (Established x stage) c output h = timeout-keeps stage x c output h
    in-timeout (Detached detached) c output h = h
    in-timeout (Over cause) c output h = h

    in-due : (p : Phase) (what : DueWord) (c : Call) (output : StepOutput) → Has c → Keeps (due_in p config now what c output)
    in-due (Offered x) what c output h = offered-due x what c output h
    in-due (Established x stage) what c output h = keep-if (is_due_at stage c.successes what) (after_timer_at stage config now.at x c output) (step_result c output) (rung-keeps stage x c output h) h
    in-due (Detached detached) what c output h = h
    in-due (Over cause) what c output h = h

    to-answer : (o : Option (List ℕ)) (key : TKey) (m : MessageView) (c : Call) (output : StepOutput) → Has c → Keeps (on_response_to o config now key m c output)
    to-answer None key m c output h = h
    to-answer (Some branch) key m c output h =
        keep-if (is_current branch c) (response_in c.phase config now key m c output) (on_other_response config now.at key m branch c output) (in-response c.phase key m c output h.0 h)
        (other-keeps key m branch c output h)

    to-timeout : (o : Option (List ℕ)) (c : Call) (output : StepOutput) → Has c → Keeps (on_timeout_of o config now c output)
    to-timeout None c output h = h
    to-timeout (Some branch) c output h =
        keep-if (is_current branch c) (timeout_in c.phase config now c output) (on_other_timeout config branch c output) (in-timeout c.phase c output h)
        (timed-out-at-keeps (position (is_of_branch branch) c.abandoned) branch c output h)

    transition-keeps : (x : Signal) (c : Call) (output : StepOutput) → Brings request x → Has c → Keeps (transition config now x c output)
    unfolding transition
    transition-keeps (signal.Request side key m) c output r h = in-request c.phase side key m c output r h.0 h
    transition-keeps (signal.Ack side ack) c output r h = in-ack c.phase side ack c output h
    transition-keeps (signal.Cancel key cancel invite) c output r h = in-cancel c.phase key cancel invite c output h.0 h
    transition-keeps (signal.Answer key response) c output r h = to-answer (awaited_request_branch response) key response c output h
    transition-keeps (signal.Silent branch method) c output r h = to-timeout (timed_out_branch branch method) c output h
    transition-keeps (signal.Due what) c output r h = in-due c.phase what c output h
    transition-keeps (signal.Ended key) c output r h = h

    step-keeps : (x : Signal) (c : Call) (output : StepOutput) → Brings request x → Has c → Keeps (step config now x c output)
    unfolding step
    step-keeps x c output r h =
        keep-if (leaves x c) (transition config now x (without_in_flight c) (output_after_dismissal config c output)) (transition config now x c output)
        (transition-keeps x (without_in_flight c) (output_after_dismissal config c output) r (h.0, tt)) (transition-keeps x c output r h)

    -- ---- the opening

    unrefused-keeps : (refusal : Option Cause) (caller : Leg) (c : Call) (output : StepOutput) → Flies c → Keeps (unless_refused refusal config now caller c output)
    unrefused-keeps None caller c output flies = target-keeps (divert c.diversions.remaining config now caller) (divert-keeps c.diversions.remaining caller) caller None (initial_target c.opening) c output flies
    unrefused-keeps (Some cause) caller c output flies = (tt, tt)

    opening-keeps : (a : Arrival) (output : StepOutput) → Keeps (call_after_opening config now a output)
    unfolding call_after_opening
    opening-keeps a output =
        let c : Call = new_call config (opening_of config now (token output) a) in
        unrefused-keeps (opening_refusal config now.at c.opening) (caller_of now.at c) c (with_status_to_caller config c 100 (after_draw output)) tt

  -- ---- a leg is detached, or put back

  detached-keeps : (p : Phase) (side : Side) (c : Call) → Has c → Has (detached_in p side c)
  detached-keeps (Offered x) side c h = h
  detached-keeps (Established x (Answered waiting success)) side c h = h
  detached-keeps (Established x (Departing waiting success)) side c h = h
  detached-keeps (Established x Stable) side c h = (tt, h.1)
  detached-keeps (Established x (Reinviting asking q)) side c h = h
  detached-keeps (Detached detached) side c h = h
  detached-keeps (Over cause) side c h = h

  put-keeps : (p : Phase) (leg : Released) (c : Call) → Has c → Has (with_leg_restored p leg c)
  put-keeps (Offered x) leg c h = h
  put-keeps (Established x stage) leg c h = h
  put-keeps (Detached detached) leg c h = (tt, h.1)
  put-keeps (Over cause) leg c h = h

  finish-keeps : (p : Phase) (config : CallConfigView) (at : ℕ) (c : Call) (output : StepOutput) → Has c → Keeps (finish_of_phase p config at c output)
  finish-keeps (Offered x) config at c output h = h
  finish-keeps (Established x stage) config at c output h = h
  finish-keeps (Detached detached) config at c output h = (tt, tt)
  finish-keeps (Over cause) config at c output h = h

  finished-keeps : (config : CallConfigView) (at : ℕ) (c : Call) (output : StepOutput) → Has c → Keeps (call_finish config at c output)
  unfolding call_finish
  finished-keeps config at c output h = finish-keeps c.phase config at c output h

-- ---- requests that were sent by their own peers, and records that are among these

module _ (records : List Sheet) (t : Trust) where
  abbrev Asked : TKey → MessageView → Type 0
  Asked = λ key m. IsFromOwnPeer t key m

  abbrev Served : Option Service → Type 0
  Served = λ its. RecordsCoverService records its

  together : (p : Phase) → phase_is_from_own_peer t p → ServedIn p records → PhaseKeeps Asked Served p
  together (Offered x) asked served = served
  together (Established x (Answered side success)) asked served = tt
  together (Established x (Departing side success)) asked served = tt
  together (Established x Stable) asked served = tt
  together (Established x (Reinviting side q)) asked served = asked
  together (Detached detached) asked served = tt
  together (Over cause) asked served = tt

  asked_of : (p : Phase) → PhaseKeeps Asked Served p → phase_is_from_own_peer t p
  asked_of (Offered x) h = tt
  asked_of (Established x (Answered side success)) h = tt
  asked_of (Established x (Departing side success)) h = tt
  asked_of (Established x Stable) h = tt
  asked_of (Established x (Reinviting side q)) h = h
  asked_of (Detached detached) h = tt
  asked_of (Over cause) h = tt

  served_of : (p : Phase) → PhaseKeeps Asked Served p → ServedIn p records
  served_of (Offered x) h = h
  served_of (Established x stage) h = tt
  served_of (Detached detached) h = tt
  served_of (Over cause) h = tt

  brings : (x : Signal) → SignalIsFromOwnPeer t x → Brings Asked x
  brings (signal.Request side key m) a = a
  brings (signal.Ack side ack) a = tt
  brings (signal.Cancel key cancel invite) a = tt
  brings (signal.Answer key response) a = tt
  brings (signal.Silent branch method) a = tt
  brings (signal.Due what) a = tt
  brings (signal.Ended key) a = tt

  served_stands : (now : SnapshotView) → RecordsCoverSnapshot records now → ServiceHolds Served now
  served_stands now stand None = λ sheet e. absurd cc
  served_stands now stand (Some account) = λ sheet e. subst (λ (s : Sheet). IsAmong records s) (ap (λ (o : Option Sheet). unwrap_or o empty_sheet) e) (stand.each account)

  -- a call whose phase keeps this invariant, and which opened so
  kept_by : (c d : Call) → d.opening ≡ c.opening → IsFromOwnPeer t c.opening.key c.opening.invite → Has Asked Served d → CallInvariant records t d
  kept_by c d same asked h = record { opening = subst (λ (o : Opening). IsFromOwnPeer t o.key o.invite) (sym same) asked; kept = (asked_of d.phase h.0, h.1); served = served_of d.phase h.0 }

  keeps_of : (c : Call) → CallInvariant records t c → Has Asked Served c
  keeps_of c k = (together c.phase k.kept.0 k.served, k.kept.1)

pub calls_keep : CallsKeepTheirInvariant
calls_keep = record {
  steps = λ records t config now x c output stand asks k.
      kept_by records t c (step config now x c output).call (openings_stay config now x c output) k.opening
      (step-keeps (λ key m. IsFromOwnPeer t key m) (λ its. RecordsCoverService records its) config now (served_stands records t now stand) x c output (brings records t x asks) (keeps_of records t c k));
  openings = λ records t config now a output stand asked.
      let h : Has (λ key m. IsFromOwnPeer t key m) (λ its. RecordsCoverService records its) (call_after_opening config now a output).call =
      opening-keeps (λ key m. IsFromOwnPeer t key m) (λ its. RecordsCoverService records its) config now (served_stands records t now stand) a output in
      record {
        opening = subst (λ (o : Opening). IsFromOwnPeer t o.key o.invite) (sym (opened-keeps config now a output)) asked;
        kept = (asked_of records t (call_after_opening config now a output).call.phase h.0, h.1);
        served = served_of records t (call_after_opening config now a output).call.phase h.0;
      };
  out = λ records t side c k. kept_by records t c (detached_in c.phase side c) (detached_stays c.phase side c) k.opening
      (detached-keeps (λ key m. IsFromOwnPeer t key m) (λ its. RecordsCoverService records its) c.phase side c (keeps_of records t c k));
  back = λ records t leg c k. kept_by records t c (with_leg_restored c.phase leg c) (put_stays c.phase leg c) k.opening
      (put-keeps (λ key m. IsFromOwnPeer t key m) (λ its. RecordsCoverService records its) c.phase leg c (keeps_of records t c k));
  ended = λ records t config at c output k. kept_by records t c (call_finish config at c output).call (finished_stays config at c output) k.opening
      (finished-keeps (λ key m. IsFromOwnPeer t key m) (λ its. RecordsCoverService records its) config at c output (keeps_of records t c k));
}

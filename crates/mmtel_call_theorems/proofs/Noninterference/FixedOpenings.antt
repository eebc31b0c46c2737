-- What is known of a call as it opens does not change, whatever it receives.
use Rattle.std.proofs.Common.{◌≡◌, ℕ, zero, suc, Bool, true, false, not, List, refl, cond, Option, Some, None}
use Rattle.std.specs.Prelude.{Result, Ok, Err, nat_lt, position, slice_get}
use Rattle.mmtel_compose.specs.ReceivedMessages.{MessageView, status_of}
use Rattle.mmtel_output.specs.Outputs.{after_draw, token}
use Rattle.mmtel_output.specs.AbandonedInvites.{is_of_branch}
use Rattle.mmtel_output.specs.declared.outputs.StepOutput.{StepOutput}
use Rattle.mmtel_output.specs.declared.sent_invites.AbandonedInvite.{AbandonedInvite}
use Rattle.mmtel_leg.specs.Legs.{Leg}
use Rattle.mmtel_leg.specs.declared.dialogues.DialogueFault.{DialogueFault}
use Rattle.mmtel_precedence.specs.Attempts.{end_by_time}
use Rattle.mmtel_precedence.specs.Calls.{AttemptEndView, NoReply, NotReachable, SnapshotView}
use Rattle.mmtel_precedence.specs.Services.{DueDiversionView}
use Rattle.mmtel_precedence.specs.NextSteps.{EndAnswered, EndDivert, EndRefuse, NextStepView, StepAfterAttemptView, StepDivert, StepOffer, StepRefuse}
use Rattle.mmtel_precedence.specs.Verdicts.{too_many}
use Rattle.mmtel_reliable.specs.declared.racks.Rack.{Rack}
use Rattle.mmtel_served_user.specs.declared.targets.Target.{Target}
use Rattle.mmtel_transaction.specs.declared.words.DueWord.{DueWord}
use Rattle.mmtel_transaction.specs.declared.words.DueWord.TheVariants as due
use Rattle.mmtel_transaction.specs.declared.words.TKey.{TKey}
use Rattle.mmtel_types.specs.declared.causes.Cause.{Cause}
use Rattle.mmtel_types.specs.declared.sides.Side.{Side}
use Rattle.mmtel_types.specs.declared.sides.Side.TheVariants.{Caller, Callee}
use Rattle.mmtel_call_services.specs.Decisions.{decision_after, decision_at, diversion_target, peer_for, service_at}
use Rattle.mmtel_output.specs.ResponseMatching.{awaited_request_branch, timed_out_branch}
use Rattle.mmtel_call_services.specs.Opening.{initial_target, opening_of, opening_refusal}
use Rattle.mmtel_call_services.specs.Reliable.{reliable_number}
use Rattle.mmtel_call_services.specs.CallConfig.{CallConfigView}
use Rattle.mmtel_call_services.specs.declared.openings.Arrival.{Arrival}
use Rattle.mmtel_call_services.specs.declared.openings.Opening.{Opening}
use Rattle.mmtel_call_services.specs.declared.openings.Service.{Service}
use Rattle.mmtel_call.specs.Answered.{at_stage, leg_of, with_leg}
use Rattle.mmtel_call.specs.declared.calls.Call.{Call}
use Rattle.mmtel_call.specs.declared.calls.RelayedTransaction.{RelayedTransaction}
use Rattle.mmtel_call.specs.declared.calls.RelayedKind.{RelayedKind}
use Rattle.mmtel_call.specs.declared.calls.RelayedKind.TheVariants.{Prack, Update}
use Rattle.mmtel_call.specs.declared.calls.EstablishedLegs.{EstablishedLegs}
use Rattle.mmtel_call.specs.declared.calls.Phase.{Phase}
use Rattle.mmtel_call.specs.declared.calls.Reinvite.{Reinvite}
use Rattle.mmtel_call.specs.declared.calls.Stage.{Stage}
use Rattle.mmtel_call.specs.declared.calls.AnsweredInvite.{AnsweredInvite}
use Rattle.mmtel_call.specs.declared.calls.OfferedAttempt.{OfferedAttempt}
use Rattle.mmtel_call.specs.declared.calls.Phase.TheVariants.{Detached, Established, Offered, Over}
use Rattle.mmtel_call.specs.declared.calls.Stage.TheVariants.{Answered, Departing, Reinviting, Stable}
use Rattle.mmtel_call.specs.Closing.{StepResult, established_call_end, step_result}
use Rattle.mmtel_call.specs.Diverting.{after_attempt, at_target, call_after_diversion, call_refusal, diversion_refusal, diversion_step, diversion_unless_refused}
use Rattle.mmtel_call.specs.Diverting.{divert, is_diverted, on_end, on_next_step, relayed_refusal, with_notification_of, with_unoffered_meter}
use Rattle.mmtel_call.specs.RelayedTransactions.{is_in_flight, on_accepted_in_flight as agreed_to, on_final_relayed, on_response_in_flight}
use Rattle.mmtel_call.specs.RelayedTransactions.{on_response_relayed, output_after_dismissal, with_response_back, without_in_flight}
use Rattle.mmtel_call.specs.RelayedTransactions.{on_timeout_in_flight, on_timeout_relayed, updating_side, without_transaction}
use Rattle.mmtel_call.specs.OtherRequests.{is_answered_invite, is_fork, is_success, on_forked_response, on_other_response, on_other_response_at, on_other_timeout}
use Rattle.mmtel_call.specs.OtherRequests.{on_other_timeout_at, on_response_abandoned, on_response_answered, on_response_answered_at, on_retransmitted_success}
use Rattle.mmtel_call.specs.Opening.{call_after_opening, caller_of, new_call, unless_refused}
use Rattle.mmtel_call.specs.Reinvites.{ends_dialog, on_accepted_reinvite, on_provisional_across, on_response_across, with_byes, with_refusal_back}
use Rattle.mmtel_call.specs.Reliable.{named_rseq, on_named_prack, on_rack, on_refused_prack, own_rseq_for, rack_in}
use Rattle.mmtel_call.specs.Ringing.{attempt_after_request, offered_request_check, on_due, on_numbered_provisional, on_other, on_prack_of, on_provisional, on_provisional_by, on_request_if, on_response, on_valid_request}
use Rattle.mmtel_call.specs.Requests.{is_bye, is_invite, is_prack, is_update, leg_after_receiving, request_check, with_unlisted_response}
use Rattle.mmtel_call.specs.Sending.{with_status_to, with_status_to_caller}
use Rattle.mmtel_call.specs.Stages.{after_bye_at, after_timer_at, busy_in, has_departed, is_due_at, on_ack_at, on_bye, on_cancel_at, on_invite, on_request_at_if, on_response_at, on_timeout_at, on_valid_request_at}
use Rattle.mmtel_call.specs.Updates.{accepts_updates, on_early_retry, on_early_update, on_stable_update, on_update, on_update_at, unless_updating}
use Rattle.mmtel_call.specs.Table.{ack_in, cancel_in, due_in, is_current, leaves, on_response_to, on_timeout_of, request_in, response_in, step, timeout_in, transition}
use Rattle.mmtel_call.specs.declared.signals.Signal.{Signal}
use Rattle.mmtel_call.specs.declared.signals.Signal.TheVariants as signal
use Rattle.mmtel_call_theorems.specs.Noninterference.EquivalentCalls.{OpeningsStay}

-- the step leaves this opening unchanged
abbrev pub Keeps : Opening → StepResult → Type 0
Keeps o s = s.call.opening ≡ o

keep-if : (o : Opening) (b : Bool) (p q : StepResult) → Keeps o p → Keeps o q → Keeps o (cond b p q)
keep-if o true p q e f = e
keep-if o false p q e f = f

module _ (config : CallConfigView) (now : SnapshotView) where
  -- ---- how a call continues

  abbrev Diverts : (f : Option Service → DueDiversionView → Call → StepOutput → StepResult) → Type 0
  Diverts f = (service : Option Service) (due : DueDiversionView) (c : Call) (output : StepOutput) → Keeps c.opening (f service due c output)

  next-step-stays : (f : Option Service → DueDiversionView → Call → StepOutput → StepResult) → Diverts f →
      (turn : NextStepView) (caller : Leg) (service : Option Service) (cause : Option ℕ) (target : Target) (c : Call) (output : StepOutput) →
      Keeps c.opening (on_next_step f config now.at caller service cause target turn c output)
  next-step-stays f stays (StepOffer peer waiting) caller service cause target c output = refl
  next-step-stays f stays (StepDivert due) caller service cause target c output = stays service due (with_unoffered_meter now.at service c) output
  next-step-stays f stays (StepRefuse why) caller service cause target c output = refl

  target-stays : (f : Option Service → DueDiversionView → Call → StepOutput → StepResult) → Diverts f → (caller : Leg) (cause : Option ℕ) (target : Target) (c : Call) (output : StepOutput) →
      Keeps c.opening (at_target f config now caller cause target c output)
  target-stays f stays caller cause target c output =
      next-step-stays f stays (decision_at config now c.opening (is_diverted c) cause target (service_at config now c.opening cause target) (peer_for config c.opening target)) caller
      (service_at config now c.opening cause target) cause target c output

  unless-stays : (refusal : Option Cause) (onward : Call → StepOutput → StepResult) (caller : Leg) (c : Call) (output : StepOutput) → Keeps c.opening (onward c output) →
      Keeps c.opening (diversion_unless_refused refusal onward config now.at caller c output)
  unless-stays None onward caller c output h = h
  unless-stays (Some cause) onward caller c output h = refl

  divert-stays : (left : ℕ) (caller : Leg) → Diverts (divert left config now caller)
  unfolding divert
  divert-stays zero caller service due c output = unless-stays (diversion_refusal 0 config now.at service due c) (call_refusal config now.at caller (too_many due.cause)) caller c output refl
  divert-stays (suc left) caller service due c output =
      let next : Call = call_after_diversion (diversion_target config due) now.at left service due c in
      unless-stays (diversion_refusal (suc left) config now.at service due c)
      (diversion_step (at_target (divert left config now caller) config now caller (Some due.cause) (diversion_target config due)) config (diversion_target config due) now.at left service due) caller c output
      (target-stays (divert left config now caller) (divert-stays left caller) caller (Some due.cause) (diversion_target config due) next (with_notification_of config due next output))

  refused_by-stays : (caller : Leg) (service : Option Service) (m : Option MessageView) (cause : Cause) (c : Call) (output : StepOutput) → Keeps c.opening (relayed_refusal config now.at caller service m cause c output)
  refused_by-stays caller service None cause c output = refl
  refused_by-stays caller service (Some m) cause c output = keep-if c.opening _ _ _ refl refl

  end-stays : (after : StepAfterAttemptView) (caller : Leg) (service : Option Service) (m : Option MessageView) (c : Call) (output : StepOutput) → Keeps c.opening (on_end config now caller service m after c output)
  end-stays EndAnswered caller service m c output = refl
  end-stays (EndDivert due) caller service m c output = divert-stays c.diversions.remaining caller service due c output
  end-stays (EndRefuse cause) caller service m c output = refused_by-stays caller service m cause c output

  goes-stays : (x : OfferedAttempt) (how : AttemptEndView) (m : Option MessageView) (c : Call) (output : StepOutput) → Keeps c.opening (after_attempt config now x how m c output)
  goes-stays x how m c output = end-stays (decision_after c.opening now.at (is_diverted c) x.attempt.service how) x.caller x.attempt.service m _ output

  -- ---- while it is offered

  numbered-stays : (own : Option ℕ) (rseq : ℕ) (x : OfferedAttempt) (key : TKey) (m : MessageView) (code : ℕ) (c : Call) (output : StepOutput) →
      Keeps c.opening (on_numbered_provisional own rseq config now.at x key m code c output)
  numbered-stays None rseq x key m code c output = refl
  numbered-stays (Some own) rseq x key m code c output = refl

  proceeding-stays : (rseq : Option ℕ) (x : OfferedAttempt) (key : TKey) (m : MessageView) (code : ℕ) (c : Call) (output : StepOutput) → Keeps c.opening (on_provisional_by rseq config now.at x key m code c output)
  proceeding-stays None x key m code c output = refl
  proceeding-stays (Some rseq) x key m code c output = numbered-stays (own_rseq_for rseq x m c) rseq x key m code c output

  offered-response : (x : OfferedAttempt) (key : TKey) (m : MessageView) (code : ℕ) (c : Call) (output : StepOutput) → Keeps c.opening (on_response config now x key m code c output)
  offered-response x key m code c output =
      keep-if c.opening (nat_lt code 101) _ _ refl
      (keep-if c.opening (nat_lt code 200) (on_provisional config now.at x key m code c output) _ (proceeding-stays (reliable_number config c.opening m) x key m code c output)
      (keep-if c.opening (nat_lt code 300) _ _ refl (goes-stays x _ (Some m) c _)))

  -- ---- PRACK and UPDATE

  named-stays : (answer : Option ℕ) (x : OfferedAttempt) (key : TKey) (m : MessageView) (rack : Rack) (c : Call) (output : StepOutput) → Keeps c.opening (on_named_prack config x key m rack answer c output)
  named-stays None x key m rack c output = refl
  named-stays (Some answer) x key m rack c output = refl

  rack-stays : (o : Option Rack) (x : OfferedAttempt) (key : TKey) (m : MessageView) (c : Call) (output : StepOutput) → Keeps c.opening (on_rack config x key m o c output)
  rack-stays None x key m c output = refl
  rack-stays (Some rack) x key m c output = named-stays (named_rseq x c rack) x key m rack c output

  prack-stays : (side : Side) (x : OfferedAttempt) (key : TKey) (m : MessageView) (c : Call) (output : StepOutput) → Keeps c.opening (on_prack_of side config x key m c output)
  prack-stays Caller x key m c output = rack-stays (rack_in m) x key m c output
  prack-stays Callee x key m c output = refl

  unless-flies : (o : Option Side) (f : Call → StepOutput → StepResult) (side : Side) (key : TKey) (m : MessageView) (c : Call) (output : StepOutput) → Keeps c.opening (f c output) →
      Keeps c.opening (unless_updating o f config side key m c output)
  unless-flies None f side key m c output h = h
  unless-flies (Some flies) f side key m c output h = keep-if c.opening _ _ _ refl refl

  update-stays : (side : Side) (x : OfferedAttempt) (key : TKey) (m : MessageView) (c : Call) (output : StepOutput) → Keeps c.opening (on_update config x side key m c output)
  update-stays side x key m c output =
      keep-if c.opening (accepts_updates x) (unless_updating (updating_side c.relayed) (on_early_update config x side key m) config side key m c output) (on_early_retry config key m c output)
      (unless-flies (updating_side c.relayed) (on_early_update config x side key m) side key m c output refl) refl

  update_at-stays : (stage : Stage) (side : Side) (x : EstablishedLegs) (key : TKey) (m : MessageView) (c : Call) (output : StepOutput) → Keeps c.opening (on_update_at stage config x side key m c output)
  update_at-stays (Answered waiting success) side x key m c output = refl
  update_at-stays (Departing waiting success) side x key m c output = refl
  update_at-stays Stable side x key m c output = unless-flies (updating_side c.relayed) (on_stable_update config x side key m) side key m c output refl
  update_at-stays (Reinviting asking q) side x key m c output = refl

  other-received : (x : OfferedAttempt) (side : Side) (key : TKey) (m : MessageView) (c : Call) (output : StepOutput) → Keeps c.opening (on_other config x side key m c output)
  other-received x side key m c output =
      keep-if c.opening (is_prack m) (on_prack_of side config x key m c output)
      (cond (is_update m) (on_update config x side key m c output) (step_result c (with_unlisted_response config c key m output))) (prack-stays side x key m c output)
      (keep-if c.opening (is_update m) (on_update config x side key m c output) (step_result c (with_unlisted_response config c key m output)) (update-stays side x key m c output) refl)

  offered-received : (x : OfferedAttempt) (side : Side) (key : TKey) (m : MessageView) (c : Call) (output : StepOutput) → Keeps c.opening (on_valid_request config now.at x side key m c output)
  offered-received x Caller key m c output = keep-if c.opening (is_bye m) _ (on_other config x Caller key m c output) refl (other-received x Caller key m c output)
  offered-received x Callee key m c output = other-received x Callee key m c output

  offered-request : (r : Result (Unit {0}) DialogueFault) (x : OfferedAttempt) (side : Side) (key : TKey) (m : MessageView) (c : Call) (output : StepOutput) →
      Keeps c.opening (on_request_if r config now.at x side key m c output)
  offered-request (Ok received) x Caller key m c output = offered-received (attempt_after_request Caller m x) Caller key m (record c { phase = Offered (attempt_after_request Caller m x) }) output
  offered-request (Ok received) x Callee key m c output = offered-received (attempt_after_request Callee m x) Callee key m (record c { phase = Offered (attempt_after_request Callee m x) }) output
  offered-request (Err fault) x side key m c output = refl

  offered-due : (x : OfferedAttempt) (what : DueWord) (c : Call) (output : StepOutput) → Keeps c.opening (on_due config now x what c output)
  offered-due x (due.NoReply number) c output = keep-if c.opening _ _ _ (goes-stays x NoReply None _ _) refl
  offered-due x (due.NoPrack own) c output = keep-if c.opening _ _ _ refl refl
  offered-due x (due.Cap number) c output = keep-if c.opening _ _ _ (goes-stays x (end_by_time x.attempt.rang) None _ _) refl
  offered-due x (due.NoAck number) c output = refl
  offered-due x (due.Expired number) c output = refl

  -- ---- once it is answered

  invite-stays : (stage : Stage) (x : EstablishedLegs) (side : Side) (key : TKey) (m : MessageView) (c : Call) (output : StepOutput) → Keeps c.opening (on_invite stage config x side key m c output)
  invite-stays (Answered waiting success) x side key m c output = refl
  invite-stays (Departing waiting success) x side key m c output = refl
  invite-stays Stable x side key m c output = refl
  invite-stays (Reinviting asking q) x side key m c output = refl

  left-stays : (stage : Stage) (x : EstablishedLegs) (side : Side) (m : MessageView) (c : Call) (output : StepOutput) → Keeps c.opening (after_bye_at stage config now.at x side m c output)
  left-stays (Answered waiting success) x side m c output = keep-if c.opening _ _ _ refl refl
  left-stays (Departing waiting success) x side m c output = refl
  left-stays Stable x side m c output = refl
  left-stays (Reinviting asking q) x side m c output = refl

  bye-stays : (stage : Stage) (x : EstablishedLegs) (side : Side) (key : TKey) (m : MessageView) (c : Call) (output : StepOutput) → Keeps c.opening (on_bye stage config now.at x side key m c output)
  bye-stays stage x side key m c output =
      keep-if c.opening (has_departed stage side) (step_result c (with_status_to config c key m 481 output))
      (after_bye_at stage config now.at x side m c (with_status_to config c key m 200 output)) refl (left-stays stage x side m c (with_status_to config c key m 200 output))

  received-stays : (stage : Stage) (x : EstablishedLegs) (side : Side) (key : TKey) (m : MessageView) (c : Call) (output : StepOutput) → Keeps c.opening (on_valid_request_at stage config now.at x side key m c output)
  received-stays stage x side key m c output =
      let none : StepResult = step_result c (with_unlisted_response config c key m output) in
      let acks : StepResult = cond (is_prack m) (on_refused_prack config key m c output) none in
      let updates : StepResult = cond (is_update m) (on_update_at stage config x side key m c output) acks in
      keep-if c.opening (is_invite m) (on_invite stage config x side key m c output) (cond (is_bye m) (on_bye stage config now.at x side key m c output) updates)
      (invite-stays stage x side key m c output)
      (keep-if c.opening (is_bye m) (on_bye stage config now.at x side key m c output) updates (bye-stays stage x side key m c output)
      (keep-if c.opening (is_update m) (on_update_at stage config x side key m c output) acks (update_at-stays stage side x key m c output)
      (keep-if c.opening (is_prack m) (on_refused_prack config key m c output) none refl refl)))

  request-stays : (r : Result (Unit {0}) DialogueFault) (stage : Stage) (x : EstablishedLegs) (side : Side) (key : TKey) (m : MessageView) (c : Call) (output : StepOutput) →
      Keeps c.opening (on_request_at_if r stage config now.at x side key m c output)
  request-stays (Ok received) stage x side key m c output =
      received-stays stage (with_leg side (leg_after_receiving (leg_of side x) m) x) side key m (at_stage (with_leg side (leg_after_receiving (leg_of side x) m) x) stage c) output
  request-stays (Err fault) stage x side key m c output = refl

  ack-stays : (stage : Stage) (x : EstablishedLegs) (side : Side) (m : MessageView) (c : Call) (output : StepOutput) → Keeps c.opening (on_ack_at stage config now.at x side m c output)
  ack-stays (Answered waiting success) x side m c output = keep-if c.opening _ _ _ refl refl
  ack-stays (Departing waiting success) x side m c output = keep-if c.opening _ _ _ refl refl
  ack-stays Stable x side m c output = refl
  ack-stays (Reinviting asking q) x side m c output = refl

  cancel-stays : (stage : Stage) (x : EstablishedLegs) (invite : TKey) (c : Call) (output : StepOutput) → Keeps c.opening (on_cancel_at stage config x invite c output)
  cancel-stays (Answered waiting success) x invite c output = refl
  cancel-stays (Departing waiting success) x invite c output = refl
  cancel-stays Stable x invite c output = refl
  cancel-stays (Reinviting asking q) x invite c output = keep-if c.opening _ _ _ refl refl

  across-stays : (asking : Side) (q : Reinvite) (x : EstablishedLegs) (key : TKey) (m : MessageView) (code : ℕ) (c : Call) (output : StepOutput) →
      Keeps c.opening (on_response_across config now.at x asking q key m code c output)
  across-stays asking q x key m code c output =
      let back : StepOutput = with_refusal_back config x asking q key m c output in
      let over : StepResult = established_call_end now.at x c (with_byes config x back) in
      let on : StepResult = step_result (at_stage x Stable c) back in
      let says : StepResult = on_accepted_reinvite config now.at x asking q key m c output in
      keep-if c.opening (nat_lt code 200) (on_provisional_across config x asking q key c output) (cond (nat_lt code 300) says (cond (ends_dialog code) over on)) refl
      (keep-if c.opening (nat_lt code 300) says (cond (ends_dialog code) over on) refl (keep-if c.opening (ends_dialog code) over on refl refl))

  response-stays : (stage : Stage) (x : EstablishedLegs) (key : TKey) (m : MessageView) (c : Call) (output : StepOutput) → Keeps c.opening (on_response_at stage config now.at x key m c output)
  response-stays (Answered waiting success) x key m c output = refl
  response-stays (Departing waiting success) x key m c output = refl
  response-stays Stable x key m c output = refl
  response-stays (Reinviting asking q) x key m c output = across-stays asking q x key m (status_of m.parsed.start) c output

  timeout-stays : (stage : Stage) (x : EstablishedLegs) (c : Call) (output : StepOutput) → Keeps c.opening (on_timeout_at stage config now.at x c output)
  timeout-stays (Answered waiting success) x c output = refl
  timeout-stays (Departing waiting success) x c output = refl
  timeout-stays Stable x c output = refl
  timeout-stays (Reinviting asking q) x c output = refl

  rung-stays : (stage : Stage) (x : EstablishedLegs) (c : Call) (output : StepOutput) → Keeps c.opening (after_timer_at stage config now.at x c output)
  rung-stays (Answered waiting success) x c output = refl
  rung-stays (Departing waiting success) x c output = refl
  rung-stays Stable x c output = refl
  rung-stays (Reinviting asking q) x c output = refl

  -- ---- INVITEs for which it does not wait

  abandoned-stays : (at : ℕ) (o : Option AbandonedInvite) (key : TKey) (m : MessageView) (c : Call) (output : StepOutput) → Keeps c.opening (on_response_abandoned config key m at o c output)
  abandoned-stays at None key m c output = refl
  abandoned-stays at (Some l) key m c output = refl

  answered-stays : (at : ℕ) (o : Option AnsweredInvite) (key : TKey) (m : MessageView) (c : Call) (output : StepOutput) → Keeps c.opening (on_response_answered config key m at o c output)
  answered-stays at None key m c output = refl
  answered-stays at (Some t) key m c output =
      let p : StepResult = on_forked_response config key m at t c output in
      let q : StepResult = on_retransmitted_success t c output in
      keep-if c.opening (not (is_success (status_of m.parsed.start))) (step_result c output) (cond (is_fork t m) p q) refl (keep-if c.opening (is_fork t m) p q refl refl)

  agreed-stays : (kind : RelayedKind) (side : Side) (request m : MessageView) (c : Call) (output : StepOutput) → Keeps c.opening (agreed_to kind config now.at side request m c output)
  agreed-stays Prack side request m c output = refl
  agreed-stays Update side request m c output = refl

  relayed-stays : (place : ℕ) (o : Option RelayedTransaction) (m : MessageView) (code : ℕ) (c : Call) (output : StepOutput) → Keeps c.opening (on_response_relayed config now.at m code place o c output)
  relayed-stays place None m code c output = refl
  relayed-stays place (Some flight) m code c output =
      let d : Call = without_transaction place c in
      let back : StepOutput = with_response_back config flight m d output in
      keep-if c.opening (nat_lt code 200) (step_result c output) (on_final_relayed config now.at flight m code d output) refl
      (keep-if c.opening (is_success code) (agreed_to flight.kind config now.at flight.side flight.exchange.request m d back) (step_result d back)
      (agreed-stays flight.kind flight.side flight.exchange.request m d back) refl)

  in-flight-stays : (o : Option ℕ) (m : MessageView) (c : Call) (output : StepOutput) → Keeps c.opening (on_response_in_flight config now.at m o c output)
  in-flight-stays None m c output = refl
  in-flight-stays (Some place) m c output = relayed-stays place (slice_get c.relayed place) m (status_of m.parsed.start) c output

  answered_at-stays : (o : Option ℕ) (key : TKey) (m : MessageView) (branch : List ℕ) (c : Call) (output : StepOutput) → Keeps c.opening (on_response_answered_at config now.at key m branch o c output)
  answered_at-stays None key m branch c output = in-flight-stays (position (is_in_flight branch) c.relayed) m c output
  answered_at-stays (Some at) key m branch c output = answered-stays at (slice_get c.answered_invites at) key m c output

  at-stays : (o : Option ℕ) (key : TKey) (m : MessageView) (branch : List ℕ) (c : Call) (output : StepOutput) → Keeps c.opening (on_other_response_at config now.at key m branch o c output)
  at-stays None key m branch c output = answered_at-stays (position (is_answered_invite branch) c.answered_invites) key m branch c output
  at-stays (Some at) key m branch c output = abandoned-stays at (slice_get c.abandoned at) key m c output

  timed-out-relayed-stays : (place : ℕ) (o : Option RelayedTransaction) (c : Call) (output : StepOutput) → Keeps c.opening (on_timeout_relayed config place o c output)
  timed-out-relayed-stays place None c output = refl
  timed-out-relayed-stays place (Some flight) c output = refl

  timed-out-in-flight-stays : (o : Option ℕ) (c : Call) (output : StepOutput) → Keeps c.opening (on_timeout_in_flight config o c output)
  timed-out-in-flight-stays None c output = refl
  timed-out-in-flight-stays (Some place) c output = timed-out-relayed-stays place (slice_get c.relayed place) c output

  timed-out-at-stays : (o : Option ℕ) (branch : List ℕ) (c : Call) (output : StepOutput) → Keeps c.opening (on_other_timeout_at config branch o c output)
  timed-out-at-stays None branch c output = timed-out-in-flight-stays (position (is_in_flight branch) c.relayed) c output
  timed-out-at-stays (Some at) branch c output = refl

  other-stays : (key : TKey) (m : MessageView) (branch : List ℕ) (c : Call) (output : StepOutput) → Keeps c.opening (on_other_response config now.at key m branch c output)
  unfolding on_other_response
  other-stays key m branch c output = at-stays (position (is_of_branch branch) c.abandoned) key m branch c output

  -- ---- the table

  in-request : (p : Phase) (side : Side) (key : TKey) (m : MessageView) (c : Call) (output : StepOutput) → Keeps c.opening (request_in p config now.at side key m c output)
  in-request (Offered x) side key m c output = offered-request (offered_request_check x side m) x side key m c output
  in-request (Established x stage) side key m c output = request-stays (request_check (leg_of side x) m (busy_in stage side)) stage x side key m c output
  in-request (Detached detached) side key m c output = refl
  in-request (Over cause) side key m c output = refl

  in-ack : (p : Phase) (side : Side) (m : MessageView) (c : Call) (output : StepOutput) → Keeps c.opening (ack_in p config now.at side m c output)
  in-ack (Offered x) side m c output = refl
  in-ack (Established x stage) side m c output = ack-stays stage x side m c output
  in-ack (Detached detached) side m c output = refl
  in-ack (Over cause) side m c output = refl

  in-cancel : (p : Phase) (key : TKey) (m : MessageView) (invite : TKey) (c : Call) (output : StepOutput) → Keeps c.opening (cancel_in p config now.at key m invite c output)
  in-cancel (Offered x) key m invite c output = keep-if c.opening _ _ _ refl refl
  in-cancel (Established x stage) key m invite c output = cancel-stays stage x invite c (with_status_to config c key m 200 output)
  in-cancel (Detached detached) key m invite c output = refl
  in-cancel (Over cause) key m invite c output = refl

  in-response : (p : Phase) (key : TKey) (m : MessageView) (c : Call) (output : StepOutput) → Keeps c.opening (response_in p config now key m c output)
  in-response (Offered x) key m c output = offered-response x key m (status_of m.parsed.start) c output
  in-response (Established x stage) key m c output = response-stays stage x key m c output
  in-response (Detached detached) key m c output = refl
  in-response (Over cause) key m c output = refl

  in-timeout : (p : Phase) (c : Call) (output : StepOutput) → Keeps c.opening (timeout_in p config now c output)
  in-timeout (Offered x) c output = keep-if c.opening x.attempt.rang (step_result c output) (after_attempt config now x (NotReachable 408) None c output) refl (goes-stays x (NotReachable 408) None c output)
  in-timeout (Established x stage) c output = timeout-stays stage x c output
  in-timeout (Detached detached) c output = refl
  in-timeout (Over cause) c output = refl

  in-due : (p : Phase) (what : DueWord) (c : Call) (output : StepOutput) → Keeps c.opening (due_in p config now what c output)
  in-due (Offered x) what c output = offered-due x what c output
  in-due (Established x stage) what c output = keep-if c.opening (is_due_at stage c.successes what) (after_timer_at stage config now.at x c output) (step_result c output) (rung-stays stage x c output) refl
  in-due (Detached detached) what c output = refl
  in-due (Over cause) what c output = refl

  to-answer : (o : Option (List ℕ)) (key : TKey) (m : MessageView) (c : Call) (output : StepOutput) → Keeps c.opening (on_response_to o config now key m c output)
  to-answer None key m c output = refl
  to-answer (Some branch) key m c output =
      keep-if c.opening (is_current branch c) (response_in c.phase config now key m c output) (on_other_response config now.at key m branch c output) (in-response c.phase key m c output)
      (other-stays key m branch c output)

  to-timeout : (o : Option (List ℕ)) (c : Call) (output : StepOutput) → Keeps c.opening (on_timeout_of o config now c output)
  to-timeout None c output = refl
  to-timeout (Some branch) c output =
      keep-if c.opening (is_current branch c) (timeout_in c.phase config now c output) (on_other_timeout config branch c output) (in-timeout c.phase c output)
      (timed-out-at-stays (position (is_of_branch branch) c.abandoned) branch c output)

  -- ---- the opening

  unrefused-stays : (refusal : Option Cause) (caller : Leg) (c : Call) (output : StepOutput) → Keeps c.opening (unless_refused refusal config now caller c output)
  unrefused-stays None caller c output = target-stays (divert c.diversions.remaining config now caller) (divert-stays c.diversions.remaining caller) caller None (initial_target c.opening) c output
  unrefused-stays (Some cause) caller c output = refl

  -- a call that opens has what was read from its INVITE
  pub opened-keeps : (a : Arrival) (output : StepOutput) → Keeps (opening_of config now (token output) a) (call_after_opening config now a output)
  unfolding call_after_opening
  opened-keeps a output =
      let c : Call = new_call config (opening_of config now (token output) a) in
      unrefused-stays (opening_refusal config now.at c.opening) (caller_of now.at c) c (with_status_to_caller config c 100 (after_draw output))

transition-stays : (config : CallConfigView) (now : SnapshotView) (x : Signal) (c : Call) (output : StepOutput) → Keeps c.opening (transition config now x c output)
unfolding transition
transition-stays config now (signal.Request side key request) c output = in-request config now c.phase side key request c output
transition-stays config now (signal.Ack side ack) c output = in-ack config now c.phase side ack c output
transition-stays config now (signal.Cancel key cancel invite) c output = in-cancel config now c.phase key cancel invite c output
transition-stays config now (signal.Answer key response) c output = to-answer config now (awaited_request_branch response) key response c output
transition-stays config now (signal.Silent branch method) c output = to-timeout config now (timed_out_branch branch method) c output
transition-stays config now (signal.Due what) c output = in-due config now c.phase what c output
transition-stays config now (signal.Ended key) c output = refl

pub openings_stay : OpeningsStay
unfolding step
openings_stay config now x c output =
    keep-if c.opening (leaves x c) (transition config now x (without_in_flight c) (output_after_dismissal config c output)) (transition config now x c output)
    (transition-stays config now x (without_in_flight c) (output_after_dismissal config c output)) (transition-stays config now x c output)

-- Of the URIs of accounts a step of a call uses the results of its look-ups alone: under two configurations that are equal but for these it has the same result, if the results of the look-ups are the same.
use Rattle.std.proofs.Common.{◌≡◌, ℕ, zero, suc, ◌==◌, Bool, true, false, not, List, [], ◌∷◌, refl, ap, ◌∙◌, cond, subst, Option, Some, None}
use Rattle.std.specs.Prelude.{◌&&◌, Result, Ok, Err, nat_lt, position, slice_get}
use Rattle.std.specs.List.{filter}
use Rattle.std.specs.Option.{option_map, option_or}
use Rattle.mmtel_compose.specs.ReceivedMessages.{MessageView, status_of}
use Rattle.mmtel_compose.specs.declared.attempts.Destination.{Destination}
use Rattle.mmtel_output.specs.Outputs.{after_draw, token}
use Rattle.mmtel_output.specs.AbandonedInvites.{is_of_branch}
use Rattle.mmtel_output.specs.Sending.{with_final_ack}
use Rattle.mmtel_output.specs.declared.outputs.StepOutput.{StepOutput}
use Rattle.mmtel_output.specs.declared.sent_invites.AbandonedInvite.{AbandonedInvite}
use Rattle.mmtel_diversion.specs.Diversion.{deflection_of}
use Rattle.mmtel_leg.specs.Legs.{Leg}
use Rattle.mmtel_leg.specs.declared.dialogues.DialogueFault.{DialogueFault}
use Rattle.mmtel_lex.specs.declared.values.Uri.{Uri}
use Rattle.mmtel_precedence.specs.Attempts.{end_by_final, end_by_redirection, end_by_time, is_redirection, is_success, is_unreachable, is_user_busy}
use Rattle.mmtel_precedence.specs.Calls.{Answer, AttemptEndView, Cancel, Deflection, NoReply, NotReachable, Other, ReachedTargetView, SnapshotView, Unacknowledged, UserBusy}
use Rattle.mmtel_precedence.specs.Moves.{account_at}
use Rattle.mmtel_precedence.specs.Services.{DueDiversionView, due_on, own_bound}
use Rattle.mmtel_precedence.specs.Targets.{deflection_to}
use Rattle.mmtel_precedence.specs.NextSteps.{EndAnswered, EndDivert, EndRefuse, NextStepView, StepAfterAttemptView, StepDivert, StepOffer, StepRefuse, divert_or_refuse, next_step_at, step_after_attempt}
use Rattle.mmtel_precedence.specs.Verdicts.{too_many}
use Rattle.mmtel_reliable.specs.declared.racks.Rack.{Rack}
use Rattle.mmtel_rules.specs.Facts.{FactsView}
use Rattle.mmtel_rules.specs.declared.values.When.TheVariants as event
use Rattle.mmtel_sheet_values.specs.declared.values.Sheet.{Sheet}
use Rattle.mmtel_served_user.specs.ServedUser.{diverted_served}
use Rattle.mmtel_served_user.specs.Targets.{diverted_target, is_unknown}
use Rattle.mmtel_served_user.specs.declared.targets.Target.{Target}
use Rattle.mmtel_transaction.specs.declared.words.DueWord.{DueWord}
use Rattle.mmtel_transaction.specs.declared.words.DueWord.TheVariants as due
use Rattle.mmtel_transaction.specs.declared.words.TKey.{TKey}
use Rattle.mmtel_trust.specs.Accounts.{account_of}
use Rattle.mmtel_trust.specs.declared.accounts.AccountIdentity.{AccountIdentity}
use Rattle.mmtel_types.specs.declared.causes.Cause.{Cause}
use Rattle.mmtel_types.specs.declared.numbers.Account.{Account}
use Rattle.mmtel_types.specs.declared.numbers.Peer.{Peer}
use Rattle.mmtel_types.specs.declared.sides.Side.{Side}
use Rattle.mmtel_types.specs.declared.sides.Side.TheVariants.{Caller, Callee}
use Rattle.mmtel_call_services.specs.Decisions.{account_state, caller_facts, decision_after, destination_of, diversion_target, peer_for, redirect_of, registration_at, service_of, service_sheet}
use Rattle.mmtel_output.specs.ResponseMatching.{awaited_request_branch, timed_out_branch}
use Rattle.mmtel_call_services.specs.Opening.{initial_target, opening_of, opening_refusal}
use Rattle.mmtel_call_services.specs.Reliable.{reliable_number}
use Rattle.mmtel_call_services.specs.CopiedHeaders.{attempt_lines, copied_lines}
use Rattle.mmtel_call_services.specs.CallConfig.{CallConfigView}
use Rattle.mmtel_call_services.specs.declared.openings.Arrival.{Arrival}
use Rattle.mmtel_call_services.specs.declared.openings.Opening.{Opening}
use Rattle.mmtel_call_services.specs.declared.openings.Service.{Service}
use Rattle.mmtel_call.specs.Answered.{at_stage, leg_of, with_leg}
use Rattle.mmtel_call.specs.declared.calls.Call.{Call}
use Rattle.mmtel_call.specs.declared.calls.RelayedTransaction.{RelayedTransaction}
use Rattle.mmtel_call.specs.declared.calls.RelayedKind.{RelayedKind}
use Rattle.mmtel_call.specs.declared.calls.RelayedKind.TheVariants.{Prack, Update}
use Rattle.mmtel_call.specs.declared.calls.EstablishedLegs.{EstablishedLegs}
use Rattle.mmtel_call.specs.declared.calls.Phase.{Phase}
use Rattle.mmtel_call.specs.declared.calls.Stage.{Stage}
use Rattle.mmtel_call.specs.declared.calls.AnsweredInvite.{AnsweredInvite}
use Rattle.mmtel_call.specs.declared.calls.OfferedAttempt.{OfferedAttempt}
use Rattle.mmtel_call.specs.declared.calls.Phase.TheVariants.{Detached, Established, Offered, Over}
use Rattle.mmtel_call.specs.declared.calls.Stage.TheVariants.{Answered, Departing, Reinviting, Stable}
use Rattle.mmtel_call.specs.Closing.{StepResult, step_result}
use Rattle.mmtel_call.specs.Diverting.{after_attempt, at_target, call_after_diversion, call_refusal, diversion_refusal, diversion_step, diversion_unless_refused}
use Rattle.mmtel_call.specs.Diverting.{divert, is_diverted, on_end, on_next_step, relayed_refusal, with_notification_of, with_unoffered_meter}
use Rattle.mmtel_call.specs.RelayedTransactions.{is_in_flight, is_updating, on_accepted_in_flight, on_final_relayed, on_response_in_flight, on_response_relayed}
use Rattle.mmtel_call.specs.RelayedTransactions.{output_after_dismissal, with_all_dismissals, with_dismissal, with_dismissals, without_in_flight}
use Rattle.mmtel_call.specs.RelayedTransactions.{on_timeout_in_flight, on_timeout_relayed, updating_side, with_response_back, with_settled_in, without_transaction}
use Rattle.mmtel_call.specs.OtherRequests.{is_answered_invite, is_success as succeeds, on_other_response, on_other_response_at, on_other_timeout}
use Rattle.mmtel_call.specs.OtherRequests.{on_other_timeout_at, on_response_abandoned, on_response_answered, on_response_answered_at}
use Rattle.mmtel_call.specs.Detaching.{call_finish, finish_of_detached, finish_of_phase}
use Rattle.mmtel_call.specs.Opening.{call_after_opening, caller_of, new_call, unless_refused}
use Rattle.mmtel_call.specs.Reliable.{named_rseq, on_named_prack, on_rack, on_refused_prack, own_rseq_for, rack_in}
use Rattle.mmtel_call.specs.Ringing.{on_answer, on_caller_cancel, attempt_after_request, call_without_attempt, with_attempt_cancel, on_due}
use Rattle.mmtel_call.specs.Ringing.{on_valid_request, on_other, on_prack_of, on_request_if, on_response, on_provisional, on_provisional_by}
use Rattle.mmtel_call.specs.Ringing.{offered_request_check, on_attempt_timeout, on_numbered_provisional, on_timeout, on_trying}
use Rattle.mmtel_call.specs.Requests.{is_bye, is_invite, is_prack, is_update, leg_after_receiving, request_check, with_unlisted_response}
use Rattle.mmtel_call.specs.Sending.{with_status_to, with_status_to_caller}
use Rattle.mmtel_call.specs.Stages.{after_bye_at, after_timer_at, busy_in, has_departed, is_due_at, on_ack_at, on_bye, on_cancel_at, on_invite, on_request_at_if, on_response_at, on_timeout_at, on_valid_request_at}
use Rattle.mmtel_call.specs.Updates.{accepts_updates, on_early_retry, on_early_update, on_stable_update, on_update, on_update_at, unless_updating}
use Rattle.mmtel_call.specs.Table.{ack_in, cancel_in, due_in, is_current, leaves, on_response_to, on_timeout_of, request_in, response_in, step, timeout_in, transition}
use Rattle.mmtel_call.specs.declared.signals.Signal.{Signal}
use Rattle.mmtel_call.specs.declared.signals.Signal.TheVariants as signal
use Rattle.mmtel_call.specs.AttemptStarts.{attempt_start}
use Rattle.mmtel_call_theorems.specs.Noninterference.Configurations.{ArrivalLooksUpEqually, EndsLookUpNone, EqualButForAccounts, OpeningsSeeLookupsAlone, PhaseRedirectsEqually}
use Rattle.mmtel_call_theorems.specs.Noninterference.Configurations.{RecordsDivertEqually, RedirectsEqually, ResponseRedirectsEqually, StepRedirectsEqually, StepsSeeLookupsAlone}
use Rattle.mmtel_call_theorems.specs.Noninterference.Premises.{IsAmong, RecordsCoverService, RecordsCoverSnapshot}
use Rattle.mmtel_call_theorems.specs.Noninterference.StepTable.{ServedIn}
use Rattle.mmtel_call_theorems.proofs.Noninterference.TargetLookups.{DueLeads, StepLeads, due-leads, next-step-leads}

if-same : (b : Bool) (p q v w : StepResult) → p ≡ v → q ≡ w → cond b p q ≡ cond b v w
if-same true p q v w e f = e
if-same false p q v w e f = f

-- the equality of the first is only required where it is chosen
if-where : (b : Bool) (p q v w : StepResult) → (b ≡ true → p ≡ v) → q ≡ w → cond b p q ≡ cond b v w
if-where true p q v w e f = e refl
if-where false p q v w e f = f

-- ---- requests in flight are dismissed

module _ (config : CallConfigView) (accounts : List AccountIdentity) where
  abbrev far1 : CallConfigView
  far1 = record config { accounts = accounts }

  each-same : (fs : List RelayedTransaction) (c : Call) (output : StepOutput) → with_dismissals config c fs output ≡ with_dismissals far1 c fs output
  each-same [] c output = refl
  each-same (flight ∷ fs) c output = each-same fs c (with_dismissal config c flight output)

  settled-same : (p : Phase) (c : Call) (output : StepOutput) → with_settled_in p config c output ≡ with_settled_in p far1 c output
  settled-same (Offered x) c output = refl
  settled-same (Established x stage) c output = refl
  settled-same (Detached detached) c output = refl
  settled-same (Over cause) c output = refl

  all-same : (c : Call) (output : StepOutput) → with_all_dismissals config c output ≡ with_all_dismissals far1 c output
  all-same c output =
      let pracks : List RelayedTransaction = filter (λ (flight : RelayedTransaction). not (is_updating flight)) c.relayed in
      each-same (filter is_updating c.relayed) c (with_dismissals config c pracks output) ∙ ap (λ (d : StepOutput). with_dismissals far1 c (filter is_updating c.relayed) d) (each-same pracks c output)

  pub dismissing-same : (c : Call) (output : StepOutput) → output_after_dismissal config c output ≡ output_after_dismissal far1 c output
  dismissing-same c output = settled-same c.phase c (with_all_dismissals config c output) ∙ ap (λ (d : StepOutput). with_settled_in c.phase far1 c d) (all-same c output)

-- ---- transitions that look no account up

module _ (config : CallConfigView) (accounts : List AccountIdentity) (now : SnapshotView) where
  -- the same configuration with these accounts
  abbrev pub with_accounts : CallConfigView
  with_accounts = record config { accounts = accounts }

  abbrev far : CallConfigView
  far = with_accounts

  pub offer-same : (caller : Leg) (service : Option Service) (waiting : Bool) (destination : Destination) (c : Call) (output : StepOutput) →
      attempt_start config now.at caller service waiting destination c output ≡ attempt_start far now.at caller service waiting destination c output
  unfolding attempt_lines
  offer-same caller service waiting destination c output = refl

  pub refused_by-same : (caller : Leg) (service : Option Service) (m : Option MessageView) (cause : Cause) (c : Call) (output : StepOutput) →
      relayed_refusal config now.at caller service m cause c output ≡ relayed_refusal far now.at caller service m cause c output
  unfolding copied_lines
  refused_by-same caller service None cause c output = refl
  refused_by-same caller service (Some m) cause c output = refl

  -- PRACK and UPDATE
  named-same : (answer : Option ℕ) (x : OfferedAttempt) (key : TKey) (m : MessageView) (rack : Rack) (c : Call) (output : StepOutput) →
      on_named_prack config x key m rack answer c output ≡ on_named_prack far x key m rack answer c output
  unfolding copied_lines
  named-same None x key m rack c output = refl
  named-same (Some answer) x key m rack c output = refl

  rack-same : (o : Option Rack) (x : OfferedAttempt) (key : TKey) (m : MessageView) (c : Call) (output : StepOutput) → on_rack config x key m o c output ≡ on_rack far x key m o c output
  rack-same None x key m c output = refl
  rack-same (Some rack) x key m c output = named-same (named_rseq x c rack) x key m rack c output

  prack-same : (side : Side) (x : OfferedAttempt) (key : TKey) (m : MessageView) (c : Call) (output : StepOutput) → on_prack_of side config x key m c output ≡ on_prack_of side far x key m c output
  prack-same Caller x key m c output = rack-same (rack_in m) x key m c output
  prack-same Callee x key m c output = refl

  unless-flies : (o : Option Side) (f g : Call → StepOutput → StepResult) (side : Side) (key : TKey) (m : MessageView) (c : Call) (output : StepOutput) → f c output ≡ g c output →
      unless_updating o f config side key m c output ≡ unless_updating o g far side key m c output
  unless-flies None f g side key m c output e = e
  unless-flies (Some flies) f g side key m c output e = refl

  early-same : (x : OfferedAttempt) (side : Side) (key : TKey) (m : MessageView) (c : Call) (output : StepOutput) → on_early_update config x side key m c output ≡ on_early_update far x side key m c output
  unfolding copied_lines
  early-same x side key m c output = refl

  update-same : (x : OfferedAttempt) (side : Side) (key : TKey) (m : MessageView) (c : Call) (output : StepOutput) → on_update config x side key m c output ≡ on_update far x side key m c output
  update-same x side key m c output =
      if-same (accepts_updates x) (unless_updating (updating_side c.relayed) (on_early_update config x side key m) config side key m c output) (on_early_retry config key m c output)
      (unless_updating (updating_side c.relayed) (on_early_update far x side key m) far side key m c output) (on_early_retry far key m c output)
      (unless-flies (updating_side c.relayed) (on_early_update config x side key m) (on_early_update far x side key m) side key m c output (early-same x side key m c output)) refl

  across-same : (x : EstablishedLegs) (side : Side) (key : TKey) (m : MessageView) (c : Call) (output : StepOutput) → on_stable_update config x side key m c output ≡ on_stable_update far x side key m c output
  unfolding copied_lines
  across-same x side key m c output = refl

  update_at-same : (stage : Stage) (x : EstablishedLegs) (side : Side) (key : TKey) (m : MessageView) (c : Call) (output : StepOutput) →
      on_update_at stage config x side key m c output ≡ on_update_at stage far x side key m c output
  update_at-same (Answered waiting success) x side key m c output = refl
  update_at-same (Departing waiting success) x side key m c output = refl
  update_at-same Stable x side key m c output = unless-flies (updating_side c.relayed) (on_stable_update config x side key m) (on_stable_update far x side key m) side key m c output (across-same x side key m c output)
  update_at-same (Reinviting asking q) x side key m c output = refl

  -- while it is offered
  offered-other : (x : OfferedAttempt) (side : Side) (key : TKey) (m : MessageView) (c : Call) (output : StepOutput) → on_other config x side key m c output ≡ on_other far x side key m c output
  offered-other x side key m c output =
      if-same (is_prack m) (on_prack_of side config x key m c output) (cond (is_update m) (on_update config x side key m c output) (step_result c (with_unlisted_response config c key m output)))
      (on_prack_of side far x key m c output) (cond (is_update m) (on_update far x side key m c output) (step_result c (with_unlisted_response far c key m output)))
      (prack-same side x key m c output)
      (if-same (is_update m) (on_update config x side key m c output) (step_result c (with_unlisted_response config c key m output)) (on_update far x side key m c output)
      (step_result c (with_unlisted_response far c key m output)) (update-same x side key m c output) refl)

  offered-received : (x : OfferedAttempt) (side : Side) (key : TKey) (m : MessageView) (c : Call) (output : StepOutput) →
      on_valid_request config now.at x side key m c output ≡ on_valid_request far now.at x side key m c output
  offered-received x Caller key m c output =
      if-same (is_bye m) (on_caller_cancel config now.at x c (with_status_to config c key m 200 output)) (on_other config x Caller key m c output)
      (on_caller_cancel far now.at x c (with_status_to far c key m 200 output)) (on_other far x Caller key m c output)
      refl (offered-other x Caller key m c output)
  offered-received x Callee key m c output = offered-other x Callee key m c output

  -- a provisional response of the target
  numbered-same : (own : Option ℕ) (rseq : ℕ) (x : OfferedAttempt) (key : TKey) (m : MessageView) (code : ℕ) (c : Call) (output : StepOutput) →
      on_numbered_provisional own rseq config now.at x key m code c output ≡ on_numbered_provisional own rseq far now.at x key m code c output
  unfolding copied_lines
  numbered-same None rseq x key m code c output = refl
  numbered-same (Some own) rseq x key m code c output = refl

  proceeding-same : (rseq : Option ℕ) (x : OfferedAttempt) (key : TKey) (m : MessageView) (code : ℕ) (c : Call) (output : StepOutput) →
      on_provisional_by rseq config now.at x key m code c output ≡ on_provisional_by rseq far now.at x key m code c output
  unfolding copied_lines
  proceeding-same None x key m code c output = refl
  proceeding-same (Some rseq) x key m code c output = numbered-same (own_rseq_for rseq x m c) rseq x key m code c output

  offered-request : (r : Result (Unit {0}) DialogueFault) (x : OfferedAttempt) (side : Side) (key : TKey) (m : MessageView) (c : Call) (output : StepOutput) →
      on_request_if r config now.at x side key m c output ≡ on_request_if r far now.at x side key m c output
  offered-request (Ok received) x side key m c output = offered-received (attempt_after_request side m x) side key m (record c { phase = Offered (attempt_after_request side m x) }) output
  offered-request (Err fault) x side key m c output = refl

  -- once it is answered
  invite-same : (stage : Stage) (x : EstablishedLegs) (side : Side) (key : TKey) (m : MessageView) (c : Call) (output : StepOutput) →
      on_invite stage config x side key m c output ≡ on_invite stage far x side key m c output
  unfolding copied_lines
  invite-same (Answered waiting success) x side key m c output = refl
  invite-same (Departing waiting success) x side key m c output = refl
  invite-same Stable x side key m c output = refl
  invite-same (Reinviting asking q) x side key m c output = refl

  left-same : (stage : Stage) (x : EstablishedLegs) (side : Side) (m : MessageView) (c : Call) (output : StepOutput) → after_bye_at stage config now.at x side m c output ≡ after_bye_at stage far now.at x side m c output
  unfolding copied_lines
  left-same (Answered waiting success) x side m c output = refl
  left-same (Departing waiting success) x side m c output = refl
  left-same Stable x side m c output = refl
  left-same (Reinviting asking q) x side m c output = refl

  bye-same : (stage : Stage) (x : EstablishedLegs) (side : Side) (key : TKey) (m : MessageView) (c : Call) (output : StepOutput) →
      on_bye stage config now.at x side key m c output ≡ on_bye stage far now.at x side key m c output
  bye-same stage x side key m c output =
      if-same (has_departed stage side) (step_result c (with_status_to config c key m 481 output)) (after_bye_at stage config now.at x side m c (with_status_to config c key m 200 output))
      (step_result c (with_status_to far c key m 481 output)) (after_bye_at stage far now.at x side m c (with_status_to far c key m 200 output)) refl
      (left-same stage x side m c (with_status_to config c key m 200 output))

  received-same : (stage : Stage) (x : EstablishedLegs) (side : Side) (key : TKey) (m : MessageView) (c : Call) (output : StepOutput) →
      on_valid_request_at stage config now.at x side key m c output ≡ on_valid_request_at stage far now.at x side key m c output
  received-same stage x side key m c output =
      let acks : StepResult = cond (is_prack m) (on_refused_prack config key m c output) (step_result c (with_unlisted_response config c key m output)) in
      let far_acks : StepResult = cond (is_prack m) (on_refused_prack far key m c output) (step_result c (with_unlisted_response far c key m output)) in
      let updates : StepResult = cond (is_update m) (on_update_at stage config x side key m c output) acks in
      let far_updates : StepResult = cond (is_update m) (on_update_at stage far x side key m c output) far_acks in
      if-same (is_invite m) (on_invite stage config x side key m c output) (cond (is_bye m) (on_bye stage config now.at x side key m c output) updates)
      (on_invite stage far x side key m c output) (cond (is_bye m) (on_bye stage far now.at x side key m c output) far_updates)
      (invite-same stage x side key m c output)
      (if-same (is_bye m) (on_bye stage config now.at x side key m c output) updates (on_bye stage far now.at x side key m c output) far_updates (bye-same stage x side key m c output)
      (if-same (is_update m) (on_update_at stage config x side key m c output) acks (on_update_at stage far x side key m c output) far_acks (update_at-same stage x side key m c output) refl))

  request-same : (r : Result (Unit {0}) DialogueFault) (stage : Stage) (x : EstablishedLegs) (side : Side) (key : TKey) (m : MessageView) (c : Call) (output : StepOutput) →
      on_request_at_if r stage config now.at x side key m c output ≡ on_request_at_if r stage far now.at x side key m c output
  request-same (Ok received) stage x side key m c output =
      received-same stage (with_leg side (leg_after_receiving (leg_of side x) m) x) side key m (at_stage (with_leg side (leg_after_receiving (leg_of side x) m) x) stage c) output
  request-same (Err fault) stage x side key m c output = refl

  ack-same : (stage : Stage) (x : EstablishedLegs) (side : Side) (m : MessageView) (c : Call) (output : StepOutput) → on_ack_at stage config now.at x side m c output ≡ on_ack_at stage far now.at x side m c output
  unfolding copied_lines
  ack-same (Answered waiting success) x side m c output = refl
  ack-same (Departing waiting success) x side m c output = refl
  ack-same Stable x side m c output = refl
  ack-same (Reinviting asking q) x side m c output = refl

  cancel-same : (stage : Stage) (x : EstablishedLegs) (invite : TKey) (c : Call) (output : StepOutput) → on_cancel_at stage config x invite c output ≡ on_cancel_at stage far x invite c output
  cancel-same (Answered waiting success) x invite c output = refl
  cancel-same (Departing waiting success) x invite c output = refl
  cancel-same Stable x invite c output = refl
  cancel-same (Reinviting asking q) x invite c output = refl

  response-same : (stage : Stage) (x : EstablishedLegs) (key : TKey) (m : MessageView) (c : Call) (output : StepOutput) →
      on_response_at stage config now.at x key m c output ≡ on_response_at stage far now.at x key m c output
  unfolding copied_lines
  response-same (Answered waiting success) x key m c output = refl
  response-same (Departing waiting success) x key m c output = refl
  response-same Stable x key m c output = refl
  response-same (Reinviting asking q) x key m c output = refl

  timeout-same : (stage : Stage) (x : EstablishedLegs) (c : Call) (output : StepOutput) → on_timeout_at stage config now.at x c output ≡ on_timeout_at stage far now.at x c output
  timeout-same (Answered waiting success) x c output = refl
  timeout-same (Departing waiting success) x c output = refl
  timeout-same Stable x c output = refl
  timeout-same (Reinviting asking q) x c output = refl

  rung-same : (stage : Stage) (x : EstablishedLegs) (c : Call) (output : StepOutput) → after_timer_at stage config now.at x c output ≡ after_timer_at stage far now.at x c output
  rung-same (Answered waiting success) x c output = refl
  rung-same (Departing waiting success) x c output = refl
  rung-same Stable x c output = refl
  rung-same (Reinviting asking q) x c output = refl

  -- INVITEs for which it does not wait
  abandoned-same : (at : ℕ) (o : Option AbandonedInvite) (key : TKey) (m : MessageView) (c : Call) (output : StepOutput) → on_response_abandoned config key m at o c output ≡ on_response_abandoned far key m at o c output
  abandoned-same at None key m c output = refl
  abandoned-same at (Some l) key m c output = refl

  answered-same : (at : ℕ) (o : Option AnsweredInvite) (key : TKey) (m : MessageView) (c : Call) (output : StepOutput) → on_response_answered config key m at o c output ≡ on_response_answered far key m at o c output
  answered-same at None key m c output = refl
  answered-same at (Some t) key m c output = refl

  agreed-same : (kind : RelayedKind) (flight : RelayedTransaction) (m : MessageView) (c : Call) (output : StepOutput) →
      on_accepted_in_flight kind config now.at flight.side flight.exchange.request m c (with_response_back config flight m c output)
      ≡ on_accepted_in_flight kind far now.at flight.side flight.exchange.request m c (with_response_back far flight m c output)
  unfolding copied_lines
  agreed-same Prack flight m c output = refl
  agreed-same Update flight m c output = refl

  back-same : (flight : RelayedTransaction) (m : MessageView) (c : Call) (output : StepOutput) → step_result c (with_response_back config flight m c output) ≡ step_result c (with_response_back far flight m c output)
  unfolding copied_lines
  back-same flight m c output = refl

  relayed-same : (place : ℕ) (o : Option RelayedTransaction) (m : MessageView) (code : ℕ) (c : Call) (output : StepOutput) →
      on_response_relayed config now.at m code place o c output ≡ on_response_relayed far now.at m code place o c output
  relayed-same place None m code c output = refl
  relayed-same place (Some flight) m code c output =
      let d : Call = without_transaction place c in
      if-same (nat_lt code 200) (step_result c output) (on_final_relayed config now.at flight m code d output) (step_result c output) (on_final_relayed far now.at flight m code d output) refl
      (if-same (succeeds code) (on_accepted_in_flight flight.kind config now.at flight.side flight.exchange.request m d (with_response_back config flight m d output))
      (step_result d (with_response_back config flight m d output))
      (on_accepted_in_flight flight.kind far now.at flight.side flight.exchange.request m d (with_response_back far flight m d output)) (step_result d (with_response_back far flight m d output))
      (agreed-same flight.kind flight m d output) (back-same flight m d output))

  in-flight-same : (o : Option ℕ) (m : MessageView) (c : Call) (output : StepOutput) → on_response_in_flight config now.at m o c output ≡ on_response_in_flight far now.at m o c output
  in-flight-same None m c output = refl
  in-flight-same (Some place) m c output = relayed-same place (slice_get c.relayed place) m (status_of m.parsed.start) c output

  answered_at-same : (o : Option ℕ) (key : TKey) (m : MessageView) (branch : List ℕ) (c : Call) (output : StepOutput) →
      on_response_answered_at config now.at key m branch o c output ≡ on_response_answered_at far now.at key m branch o c output
  answered_at-same None key m branch c output = in-flight-same (position (is_in_flight branch) c.relayed) m c output
  answered_at-same (Some at) key m branch c output = answered-same at (slice_get c.answered_invites at) key m c output

  at-same : (o : Option ℕ) (key : TKey) (m : MessageView) (branch : List ℕ) (c : Call) (output : StepOutput) →
      on_other_response_at config now.at key m branch o c output ≡ on_other_response_at far now.at key m branch o c output
  at-same None key m branch c output = answered_at-same (position (is_answered_invite branch) c.answered_invites) key m branch c output
  at-same (Some at) key m branch c output = abandoned-same at (slice_get c.abandoned at) key m c output

  pub other-same : (key : TKey) (m : MessageView) (branch : List ℕ) (c : Call) (output : StepOutput) → on_other_response config now.at key m branch c output ≡ on_other_response far now.at key m branch c output
  unfolding on_other_response
  other-same key m branch c output = at-same (position (is_of_branch branch) c.abandoned) key m branch c output

  timed-out-relayed-same : (place : ℕ) (o : Option RelayedTransaction) (c : Call) (output : StepOutput) → on_timeout_relayed config place o c output ≡ on_timeout_relayed far place o c output
  timed-out-relayed-same place None c output = refl
  timed-out-relayed-same place (Some flight) c output = refl

  timed-out-in-flight-same : (o : Option ℕ) (c : Call) (output : StepOutput) → on_timeout_in_flight config o c output ≡ on_timeout_in_flight far o c output
  timed-out-in-flight-same None c output = refl
  timed-out-in-flight-same (Some place) c output = timed-out-relayed-same place (slice_get c.relayed place) c output

  timed-out-at-same : (o : Option ℕ) (branch : List ℕ) (c : Call) (output : StepOutput) → on_other_timeout_at config branch o c output ≡ on_other_timeout_at far branch o c output
  timed-out-at-same None branch c output = timed-out-in-flight-same (position (is_in_flight branch) c.relayed) c output
  timed-out-at-same (Some at) branch c output = refl

  pub timed-out-same : (branch : List ℕ) (c : Call) (output : StepOutput) → on_other_timeout config branch c output ≡ on_other_timeout far branch c output
  timed-out-same branch c output = timed-out-at-same (position (is_of_branch branch) c.abandoned) branch c output

  -- by phase
  pub in-request : (p : Phase) (side : Side) (key : TKey) (m : MessageView) (c : Call) (output : StepOutput) → request_in p config now.at side key m c output ≡ request_in p far now.at side key m c output
  in-request (Offered x) side key m c output = offered-request (offered_request_check x side m) x side key m c output
  in-request (Established x stage) side key m c output = request-same (request_check (leg_of side x) m (busy_in stage side)) stage x side key m c output
  in-request (Detached detached) side key m c output = refl
  in-request (Over cause) side key m c output = refl

  pub in-ack : (p : Phase) (side : Side) (m : MessageView) (c : Call) (output : StepOutput) → ack_in p config now.at side m c output ≡ ack_in p far now.at side m c output
  in-ack (Offered x) side m c output = refl
  in-ack (Established x stage) side m c output = ack-same stage x side m c output
  in-ack (Detached detached) side m c output = refl
  in-ack (Over cause) side m c output = refl

  pub in-cancel : (p : Phase) (key : TKey) (m : MessageView) (invite : TKey) (c : Call) (output : StepOutput) → cancel_in p config now.at key m invite c output ≡ cancel_in p far now.at key m invite c output
  in-cancel (Offered x) key m invite c output = refl
  in-cancel (Established x stage) key m invite c output = cancel-same stage x invite c (with_status_to config c key m 200 output)
  in-cancel (Detached detached) key m invite c output = refl
  in-cancel (Over cause) key m invite c output = refl

-- ---- how a call continues

module _ (records : List Sheet) (config : CallConfigView) (accounts : List AccountIdentity) (now : SnapshotView) (stand : RecordsCoverSnapshot records now)
    (lead : RecordsDivertEqually records config (record config { accounts = accounts })) where
  abbrev far2 : CallConfigView
  far2 = record config { accounts = accounts }

  -- the account of a target is the same in both
  abbrev Same : Target → Type 0
  Same target = account_of config.accounts target.uri ≡ account_of accounts target.uri

  abbrev StepSame : NextStepView → Type 0
  StepSame (StepOffer peer waiting) = Unit {0}
  StepSame (StepDivert due) = Same (diversion_target config due)
  StepSame (StepRefuse cause) = Unit {0}

  next-step-lookups : (sheet : Sheet) → IsAmong records sheet → (turn : NextStepView) → StepLeads sheet turn → StepSame turn
  next-step-lookups sheet is (StepOffer peer waiting) a = tt
  next-step-lookups sheet is (StepDivert due) a = lead sheet is due.forward a
  next-step-lookups sheet is (StepRefuse cause) a = tt

  -- the result of a diversion
  abbrev DivertsSame : (f g : Option Service → DueDiversionView → Call → StepOutput → StepResult) → Type 0
  DivertsSame f g = (service : Option Service) (due : DueDiversionView) (c : Call) (output : StepOutput) → Same (diversion_target config due) → f service due c output ≡ g service due c output

  next-step-same : (f g : Option Service → DueDiversionView → Call → StepOutput → StepResult) → DivertsSame f g → (turn : NextStepView) → StepSame turn →
      (caller : Leg) (service : Option Service) (cause : Option ℕ) (target : Target) (c : Call) (output : StepOutput) →
      on_next_step f config now.at caller service cause target turn c output ≡ on_next_step g far2 now.at caller service cause target turn c output
  next-step-same f g same (StepOffer peer waiting) e caller service cause target c output = offer-same config accounts now caller service waiting (destination_of c.opening peer cause target) c output
  next-step-same f g same (StepDivert due) e caller service cause target c output = same service due (with_unoffered_meter now.at service c) output e
  next-step-same f g same (StepRefuse why) e caller service cause target c output = refl

  -- the state of the target, where this account is served there, and this one has its URI
  abbrev reach_by : (served found : Option Account) → Option Peer → (cause : Option ℕ) → Target → Opening → ReachedTargetView
  reach_by served found peer cause target o = record {
    at = now.at;
    served = option_map (account_state now (registration_at o cause)) (option_map (service_of now) served);
    is_unknown = is_unknown config.home (option_or served found) target;
    peer = peer;
  }

  abbrev step_by : (f : Option Service → DueDiversionView → Call → StepOutput → StepResult) → CallConfigView → (served found : Option Account) → Leg → (cause : Option ℕ) → Target → Call → StepOutput → StepResult
  step_by f s served found caller cause target c output =
      on_next_step f s now.at caller (option_map (service_of now) served) cause target
      (next_step_at (caller_facts c.opening now.at (is_diverted c)) (reach_by served found (peer_for config c.opening target) cause target c.opening)) c output

  reach_asked : (served found : Option Account) (peer : Option Peer) (cause : Option ℕ) (target : Target) (o : Opening) → IsAmong records (account_at (reach_by served found peer cause target o)).sheet
  reach_asked None found peer cause target o = stand.none
  reach_asked (Some account) found peer cause target o = stand.each account

  by-same : (f g : Option Service → DueDiversionView → Call → StepOutput → StepResult) → DivertsSame f g →
      (served found : Option Account) (caller : Leg) (cause : Option ℕ) (target : Target) (c : Call) (output : StepOutput) →
      step_by f config served found caller cause target c output ≡ step_by g far2 served found caller cause target c output
  by-same f g same served found caller cause target c output =
      let peer : Option Peer = peer_for config c.opening target in
      let reach : ReachedTargetView = reach_by served found peer cause target c.opening in
      let turn : NextStepView = next_step_at (caller_facts c.opening now.at (is_diverted c)) reach in
      next-step-same f g same turn (next-step-lookups (account_at reach).sheet (reach_asked served found peer cause target c.opening) turn (next-step-leads (caller_facts c.opening now.at (is_diverted c)) reach))
      caller (option_map (service_of now) served) cause target c output

  target-same : (f g : Option Service → DueDiversionView → Call → StepOutput → StepResult) → DivertsSame f g → (caller : Leg) (cause : Option ℕ) (target : Target) (c : Call) (output : StepOutput) → Same target →
      at_target f config now caller cause target c output ≡ at_target g far2 now caller cause target c output
  target-same f g same caller None target c output e =
      by-same f g same c.opening.served.target (account_of config.accounts target.uri) caller None target c output
      ∙ ap (λ (found : Option Account). step_by g far2 c.opening.served.target found caller None target c output) e
  target-same f g same caller (Some cause) target c output e =
      by-same f g same (diverted_served c.opening.served (account_of config.accounts target.uri)) (account_of config.accounts target.uri) caller (Some cause) target c output
      ∙ ap (λ (found : Option Account). step_by g far2 (diverted_served c.opening.served found) found caller (Some cause) target c output) e

  -- what is checked before a diversion refuses it in both, or in neither
  unless-same : (refusal : Option Cause) (f g : Call → StepOutput → StepResult) (caller : Leg) (c : Call) (output : StepOutput) → f c output ≡ g c output →
      diversion_unless_refused refusal f config now.at caller c output ≡ diversion_unless_refused refusal g far2 now.at caller c output
  unless-same None f g caller c output e = e
  unless-same (Some cause) f g caller c output e = refl

  divert-same : (left : ℕ) (caller : Leg) → DivertsSame (divert left config now caller) (divert left far2 now caller)
  unfolding divert
  divert-same zero caller service due c output e =
      unless-same (diversion_refusal 0 config now.at service due c) (call_refusal config now.at caller (too_many due.cause)) (call_refusal far2 now.at caller (too_many due.cause)) caller c output refl
  divert-same (suc left) caller service due c output e =
      let next : Call = call_after_diversion (diversion_target config due) now.at left service due c in
      unless-same (diversion_refusal (suc left) config now.at service due c)
      (diversion_step (at_target (divert left config now caller) config now caller (Some due.cause) (diversion_target config due)) config (diversion_target config due) now.at left service due)
      (diversion_step (at_target (divert left far2 now caller) far2 now caller (Some due.cause) (diversion_target config due)) far2 (diversion_target config due) now.at left service due) caller c output
      (target-same (divert left config now caller) (divert left far2 now caller) (divert-same left caller) caller (Some due.cause) (diversion_target config due) next (with_notification_of config due next output) e)

  -- ---- after an attempt

  abbrev AfterSame : StepAfterAttemptView → Type 0
  AfterSame EndAnswered = Unit {0}
  AfterSame (EndDivert due) = Same (diversion_target config due)
  AfterSame (EndRefuse cause) = Unit {0}

  -- the target to which it was redirected has the same look-up result
  abbrev HowSame : AttemptEndView → Type 0
  HowSame Answer = Unit {0}
  HowSame Cancel = Unit {0}
  HowSame Unacknowledged = Unit {0}
  HowSame (UserBusy code) = Unit {0}
  HowSame (NotReachable code) = Unit {0}
  HowSame NoReply = Unit {0}
  HowSame (Deflection target rang) = Same (diverted_target config.home target)
  HowSame (Other code) = Unit {0}

  due-lookups : (sheet : Sheet) → IsAmong records sheet → (o : Option DueDiversionView) (cause : Cause) → DueLeads sheet o → AfterSame (divert_or_refuse o cause)
  due-lookups sheet is None cause a = tt
  due-lookups sheet is (Some due) cause a = lead sheet is due.forward a

  deflects : (target : Uri) (bound o : Option ℕ) (cause : Cause) → Same (diverted_target config.home target) → AfterSame (divert_or_refuse (option_map (deflection_to target bound) o) cause)
  deflects target bound None cause e = tt
  deflects target bound (Some code) cause e = e

  after-lookups : (k : FactsView) (sheet : Option Sheet) (how : AttemptEndView) → ((s : Sheet) → sheet ≡ Some s → IsAmong records s) → HowSame how → AfterSame (step_after_attempt k sheet how)
  after-lookups k sheet Answer is e = tt
  after-lookups k sheet Cancel is e = tt
  after-lookups k sheet Unacknowledged is e = tt
  after-lookups k None (UserBusy code) is e = tt
  after-lookups k (Some s) (UserBusy code) is e = due-lookups s (is s refl) (due_on k event.Busy s) _ (due-leads s k event.Busy)
  after-lookups k None (NotReachable code) is e = tt
  after-lookups k (Some s) (NotReachable code) is e = due-lookups s (is s refl) (due_on k event.NotReachable s) _ (due-leads s k event.NotReachable)
  after-lookups k None NoReply is e = tt
  after-lookups k (Some s) NoReply is e = due-lookups s (is s refl) (due_on k event.NoAnswer s) _ (due-leads s k event.NoAnswer)
  after-lookups k None (Deflection target rang) is e = tt
  after-lookups k (Some s) (Deflection target rang) is e = deflects target (own_bound s) (deflection_of s rang) _ e
  after-lookups k sheet (Other code) is e = tt

  end-same : (after : StepAfterAttemptView) → AfterSame after → (caller : Leg) (service : Option Service) (m : Option MessageView) (c : Call) (output : StepOutput) →
      on_end config now caller service m after c output ≡ on_end far2 now caller service m after c output
  end-same EndAnswered e caller service m c output = refl
  end-same (EndDivert due) e caller service m c output = divert-same c.diversions.remaining caller service due c output e
  end-same (EndRefuse cause) e caller service m c output = refused_by-same config accounts now caller service m cause c output

  goes-same : (x : OfferedAttempt) (how : AttemptEndView) (m : Option MessageView) (c : Call) (output : StepOutput) → RecordsCoverService records x.attempt.service → HowSame how →
      after_attempt config now x how m c output ≡ after_attempt far2 now x how m c output
  goes-same x how m c output its e =
      end-same (decision_after c.opening now.at (is_diverted c) x.attempt.service how) (after-lookups (caller_facts c.opening now.at (is_diverted c)) (service_sheet x.attempt.service) how its e)
      x.caller x.attempt.service m _ output

  -- ---- while it is offered

  how-if : (b : Bool) (p q : AttemptEndView) → HowSame p → HowSame q → HowSame (cond b p q)
  how-if true p q e f = e
  how-if false p q e f = f

  redirection-lookups : (code : ℕ) (u : Option Uri) (rang : Bool) → ((uri : Uri) → u ≡ Some uri → Same (diverted_target config.home uri)) → HowSame (end_by_redirection code u rang)
  redirection-lookups code None rang e = tt
  redirection-lookups code (Some uri) rang e = how-if (code == 302) (Deflection uri rang) (Other 480) (e uri refl) tt

  final-lookups : (code : ℕ) (u : Option Uri) (rang : Bool) → ((uri : Uri) → u ≡ Some uri → Same (diverted_target config.home uri)) → HowSame (end_by_final code u rang)
  final-lookups code u rang e =
      how-if (is_success code) Answer _ tt
      (how-if (is_user_busy code) (UserBusy code) _ tt
      (how-if (is_unreachable code && not rang) (NotReachable code) _ tt
      (how-if (is_redirection code) (end_by_redirection code u rang) (Other code) (redirection-lookups code u rang e) tt)))

  time-lookups : (rang : Bool) → HowSame (end_by_time rang)
  time-lookups true = tt
  time-lookups false = tt

  offered-response : (x : OfferedAttempt) (key : TKey) (m : MessageView) (code : ℕ) (c : Call) (output : StepOutput) → RecordsCoverService records x.attempt.service → RedirectsEqually config far2 m →
      on_response config now x key m code c output ≡ on_response far2 now x key m code c output
  unfolding copied_lines
  offered-response x key m code c output its e =
      let failed_one : StepResult = after_attempt config now x (end_by_final code (redirect_of m) x.attempt.rang) (Some m) c (with_final_ack config.sip key x.attempt.invite m.parsed output) in
      let failed_other : StepResult = after_attempt far2 now x (end_by_final code (redirect_of m) x.attempt.rang) (Some m) c (with_final_ack config.sip key x.attempt.invite m.parsed output) in
      if-same (nat_lt code 101) (on_trying key x c output) (cond (nat_lt code 200) (on_provisional config now.at x key m code c output) (cond (nat_lt code 300) (on_answer config now.at x key m c output) failed_one))
      (on_trying key x c output) (cond (nat_lt code 200) (on_provisional far2 now.at x key m code c output) (cond (nat_lt code 300) (on_answer far2 now.at x key m c output) failed_other)) refl
      (if-same (nat_lt code 200) (on_provisional config now.at x key m code c output) (cond (nat_lt code 300) (on_answer config now.at x key m c output) failed_one)
      (on_provisional far2 now.at x key m code c output) (cond (nat_lt code 300) (on_answer far2 now.at x key m c output) failed_other)
      (proceeding-same config accounts now (reliable_number config c.opening m) x key m code c output)
      (ap (λ (s : StepResult). cond (nat_lt code 300) (on_answer config now.at x key m c output) s)
      (goes-same x (end_by_final code (redirect_of m) x.attempt.rang) (Some m) c (with_final_ack config.sip key x.attempt.invite m.parsed output) its (final-lookups code (redirect_of m) x.attempt.rang e))))

  offered-timeout : (x : OfferedAttempt) (c : Call) (output : StepOutput) → RecordsCoverService records x.attempt.service → on_timeout config now x c output ≡ on_timeout far2 now x c output
  offered-timeout x c output its = ap (λ (s : StepResult). cond x.attempt.rang (step_result c output) s) (goes-same x (NotReachable 408) None c output its tt)

  times-same : (x : OfferedAttempt) (how : AttemptEndView) (c : Call) (output : StepOutput) → RecordsCoverService records x.attempt.service → HowSame how →
      on_attempt_timeout config now x how c output ≡ on_attempt_timeout far2 now x how c output
  times-same x how c output its e = goes-same x how None (call_without_attempt x c) (with_attempt_cancel config x output) its e

  offered-due : (x : OfferedAttempt) (what : DueWord) (c : Call) (output : StepOutput) → RecordsCoverService records x.attempt.service → on_due config now x what c output ≡ on_due far2 now x what c output
  offered-due x (due.NoReply number) c output its = ap (λ (s : StepResult). cond (number == x.attempt.number) s (step_result c output)) (times-same x NoReply c output its tt)
  offered-due x (due.NoPrack number) c output its = refl
  offered-due x (due.Cap number) c output its = ap (λ (s : StepResult). cond (number == x.attempt.number) s (step_result c output)) (times-same x (end_by_time x.attempt.rang) c output its (time-lookups x.attempt.rang))
  offered-due x (due.NoAck number) c output its = refl
  offered-due x (due.Expired number) c output its = refl

  -- ---- by phase

  in-response : (p : Phase) (key : TKey) (m : MessageView) (c : Call) (output : StepOutput) → ServedIn p records → PhaseRedirectsEqually p config far2 m →
      response_in p config now key m c output ≡ response_in p far2 now key m c output
  in-response (Offered x) key m c output its e = offered-response x key m (status_of m.parsed.start) c output its e
  in-response (Established x stage) key m c output its e = response-same config accounts now stage x key m c output
  in-response (Detached detached) key m c output its e = refl
  in-response (Over cause) key m c output its e = refl

  in-timeout : (p : Phase) (c : Call) (output : StepOutput) → ServedIn p records → timeout_in p config now c output ≡ timeout_in p far2 now c output
  in-timeout (Offered x) c output its = offered-timeout x c output its
  in-timeout (Established x stage) c output its = timeout-same config accounts now stage x c output
  in-timeout (Detached detached) c output its = refl
  in-timeout (Over cause) c output its = refl

  in-due : (p : Phase) (what : DueWord) (c : Call) (output : StepOutput) → ServedIn p records → due_in p config now what c output ≡ due_in p far2 now what c output
  in-due (Offered x) what c output its = offered-due x what c output its
  in-due (Established x stage) what c output its = ap (λ (s : StepResult). cond (is_due_at stage c.successes what) s (step_result c output)) (rung-same config accounts now stage x c output)
  in-due (Detached detached) what c output its = refl
  in-due (Over cause) what c output its = refl

  to-answer : (o : Option (List ℕ)) (key : TKey) (m : MessageView) (c : Call) (output : StepOutput) → ServedIn c.phase records → ResponseRedirectsEqually o config far2 m c →
      on_response_to o config now key m c output ≡ on_response_to o far2 now key m c output
  to-answer None key m c output its e = refl
  to-answer (Some branch) key m c output its e =
      if-where (is_current branch c) (response_in c.phase config now key m c output) (on_other_response config now.at key m branch c output) (response_in c.phase far2 now key m c output)
      (on_other_response far2 now.at key m branch c output)
      (λ current. in-response c.phase key m c output its (e current)) (other-same config accounts now key m branch c output)

  to-timeout : (o : Option (List ℕ)) (c : Call) (output : StepOutput) → ServedIn c.phase records → on_timeout_of o config now c output ≡ on_timeout_of o far2 now c output
  to-timeout None c output its = refl
  to-timeout (Some branch) c output its =
      if-same (is_current branch c) (timeout_in c.phase config now c output) (on_other_timeout config branch c output) (timeout_in c.phase far2 now c output) (on_other_timeout far2 branch c output)
      (in-timeout c.phase c output its) (timed-out-same config accounts now branch c output)

  transition-same : (x : Signal) (c : Call) (output : StepOutput) → ServedIn c.phase records → StepRedirectsEqually config far2 x c → transition config now x c output ≡ transition far2 now x c output
  unfolding transition
  transition-same (signal.Request side key request) c output its e = in-request config accounts now c.phase side key request c output
  transition-same (signal.Ack side ack) c output its e = in-ack config accounts now c.phase side ack c output
  transition-same (signal.Cancel key cancel invite) c output its e = in-cancel config accounts now c.phase key cancel invite c output
  transition-same (signal.Answer key response) c output its e = to-answer (awaited_request_branch response) key response c output its e
  transition-same (signal.Silent branch method) c output its e = to-timeout (timed_out_branch branch method) c output its
  transition-same (signal.Due what) c output its e = in-due c.phase what c output its
  transition-same (signal.Ended key) c output its e = refl

  -- where nothing is in flight
  leads-still : (x : Signal) (c : Call) → StepRedirectsEqually config far2 x c → StepRedirectsEqually config far2 x (without_in_flight c)
  leads-still (signal.Request side key request) c e = tt
  leads-still (signal.Ack side ack) c e = tt
  leads-still (signal.Cancel key cancel invite) c e = tt
  leads-still (signal.Answer key response) c e = answer-still (awaited_request_branch response) e
    where
      answer-still : (o : Option (List ℕ)) → ResponseRedirectsEqually o config far2 response c → ResponseRedirectsEqually o config far2 response (without_in_flight c)
      answer-still None a = tt
      answer-still (Some branch) a = a
  leads-still (signal.Silent branch method) c e = tt
  leads-still (signal.Due what) c e = tt
  leads-still (signal.Ended key) c e = tt

  step-same : (x : Signal) (c : Call) (output : StepOutput) → ServedIn c.phase records → StepRedirectsEqually config far2 x c → step config now x c output ≡ step far2 now x c output
  unfolding step
  step-same x c output its e =
      if-same (leaves x c) (transition config now x (without_in_flight c) (output_after_dismissal config c output)) (transition config now x c output)
      (transition far2 now x (without_in_flight c) (output_after_dismissal far2 c output)) (transition far2 now x c output)
      (transition-same x (without_in_flight c) (output_after_dismissal config c output) its (leads-still x c e)
      ∙ ap (λ (d : StepOutput). transition far2 now x (without_in_flight c) d) (dismissing-same config accounts c output))
      (transition-same x c output its e)

  -- ---- the opening

  unrefused-same : (refusal : Option Cause) (caller : Leg) (c : Call) (output : StepOutput) → Same (initial_target c.opening) →
      unless_refused refusal config now caller c output ≡ unless_refused refusal far2 now caller c output
  unrefused-same None caller c output e =
      target-same (divert c.diversions.remaining config now caller) (divert c.diversions.remaining far2 now caller) (divert-same c.diversions.remaining caller) caller None (initial_target c.opening) c output e
  unrefused-same (Some cause) caller c output e = refl

  opened-same : (a : Arrival) (output : StepOutput) → ArrivalLooksUpEqually config far2 a → call_after_opening config now a output ≡ call_after_opening far2 now a output
  unfolding call_after_opening
  opened-same a output e =
      let c : Call = new_call config (opening_of config now (token output) a) in
      unrefused-same (opening_refusal config now.at c.opening) (caller_of now.at c) c (with_status_to_caller config c 100 (after_draw output)) e

-- ---- any two such configurations

whole : (one other : CallConfigView) → EqualButForAccounts one other → record one { accounts = other.accounts } ≡ other
whole one other e = λ i. record {
  sip = e.sip i;
  home = e.home i;
  bound = e.bound i;
  country = e.country i;
  reliable = e.reliable i;
  timer = e.timer i;
  mwi = e.mwi i;
  peers = e.peers i;
  accounts = other.accounts;
}

phase-leads : (p : Phase) (one other : CallConfigView) (m : MessageView) → PhaseRedirectsEqually p one other m → PhaseRedirectsEqually p one (record one { accounts = other.accounts }) m
phase-leads (Offered x) one other m a = a
phase-leads (Established x stage) one other m a = tt
phase-leads (Detached detached) one other m a = tt
phase-leads (Over cause) one other m a = tt

answer-leads : (o : Option (List ℕ)) (one other : CallConfigView) (m : MessageView) (c : Call) → ResponseRedirectsEqually o one other m c → ResponseRedirectsEqually o one (record one { accounts = other.accounts }) m c
answer-leads None one other m c a = tt
answer-leads (Some branch) one other m c a = λ current. phase-leads c.phase one other m (a current)

step-leads : (one other : CallConfigView) (x : Signal) (c : Call) → StepRedirectsEqually one other x c → StepRedirectsEqually one (record one { accounts = other.accounts }) x c
step-leads one other (signal.Request side key request) c a = tt
step-leads one other (signal.Ack side ack) c a = tt
step-leads one other (signal.Cancel key cancel invite) c a = tt
step-leads one other (signal.Answer key response) c a = answer-leads (awaited_request_branch response) one other response c a
step-leads one other (signal.Silent branch method) c a = tt
step-leads one other (signal.Due what) c a = tt
step-leads one other (signal.Ended key) c a = tt

pub steps_see_lookups_alone : StepsSeeLookupsAlone
steps_see_lookups_alone records one other now x c output equal lead stand its e =
    subst (λ (s : CallConfigView). step one now x c output ≡ step s now x c output) (whole one other equal)
    (step-same records one other.accounts now stand (λ sheet is forward does. lead sheet is forward does) x c output its (step-leads one other x c e))

pub openings_see_lookups_alone : OpeningsSeeLookupsAlone
openings_see_lookups_alone records one other now a output equal lead stand e =
    subst (λ (s : CallConfigView). call_after_opening one now a output ≡ call_after_opening s now a output) (whole one other equal) (opened-same records one other.accounts now stand lead a output e)

-- ---- the end of a call of which a leg is detached

finish_in : (config : CallConfigView) (accounts : List AccountIdentity) (at : ℕ) (p : Phase) (c : Call) (output : StepOutput) →
    finish_of_phase p config at c output ≡ finish_of_phase p (record config { accounts = accounts }) at c output
finish_in config accounts at (Offered x) c output = refl
finish_in config accounts at (Established x stage) c output = refl
finish_in config accounts at (Detached detached) c output = ap (λ (d : StepOutput). finish_of_detached config at detached (without_in_flight c) d) (dismissing-same config accounts c output)
finish_in config accounts at (Over cause) c output = refl

pub ends_look_up_none : EndsLookUpNone
unfolding call_finish
ends_look_up_none one other at c output equal = subst (λ (s : CallConfigView). call_finish one at c output ≡ call_finish s at c output) (whole one other equal) (finish_in one other.accounts at c.phase c output)

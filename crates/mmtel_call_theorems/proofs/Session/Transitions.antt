-- The effect of each transition of the step table on the session: it relays a 2xx, with the deadline that is due for it, or it arms none and the number of the call does not change.
use Rattle.std.proofs.Common.{◌≡◌, ◌==◌, ◌&&◌, ◌||◌, ◌+◌, ◌++◌, ◌∙◌, Bool, true, false, not, ℕ, zero, suc, List, [], ◌∷◌, Option}
use Rattle.std.proofs.Common.{Some, None, nat_lt, Result, Ok, Err, codes, refl, ap, subst, sym, append_assoc, append-nil, arith}
use Rattle.std.proofs.lemmas.Bool.{eq-eqb}
use Rattle.std.proofs.lemmas.Bool.Decides.{nat_tests}
use Rattle.std.specs.List.{filter, list_any}
use Rattle.std.specs.Prelude.{if◌then◌else◌, position, slice_get}
use Rattle.mmtel_compose.specs.Attempts.{invite_of}
use Rattle.mmtel_compose.specs.ReceivedMessages.{MessageView, status_of}
use Rattle.mmtel_compose.specs.declared.attempts.Destination.{Destination}
use Rattle.mmtel_charging.specs.Meters.{MeterView}
use Rattle.mmtel_call_services.specs.Decisions.{decision_after, decision_at, destination_of, diversion_target, is_status, no_reply_time_of, peer_for, redirect_of, relayed_status, service_at, service_sheet}
use Rattle.mmtel_output.specs.ResponseMatching.{awaited_request_branch, timed_out_branch}
use Rattle.mmtel_call_services.specs.Opening.{initial_target, opening_of, opening_refusal}
use Rattle.mmtel_call_services.specs.Reliable.{reliable_number}
use Rattle.mmtel_call_services.specs.Requests.{is_same_side}
use Rattle.mmtel_call_services.specs.CopiedHeaders.{attempt_lines}
use Rattle.mmtel_call_services.specs.CallConfig.{CallConfigView}
use Rattle.mmtel_call_services.specs.declared.openings.Arrival.{Arrival}
use Rattle.mmtel_call_services.specs.declared.openings.Service.{Service}
use Rattle.mmtel_call.specs.Answered.{acknowledges, after_ack_across, after_ack_timeout, after_bye_before_ack, after_departure, at_stage, copied_across, leg_of, with_ack_and_bye, with_bye_to, with_leg}
use Rattle.mmtel_call.specs.Closing.{StepResult, call_end, established_call_end, step_result, with_past}
use Rattle.mmtel_call.specs.Diverting.{after_attempt, at_target, call_after_diversion, call_refusal, diversion_refusal, diversion_step, diversion_unless_refused}
use Rattle.mmtel_call.specs.Diverting.{divert, is_diverted, on_end, on_next_step, reach, relayed_refusal, with_notification_of, with_unoffered_meter}
use Rattle.mmtel_call.specs.Dismissal.{leaves_on_status}
use Rattle.mmtel_call.specs.RelayedTransactions as in_flight
use Rattle.mmtel_call.specs.RelayedTransactions.{updating_side, with_settled}
use Rattle.mmtel_call.specs.OtherRequests.{as_abandoned, is_answered_invite, is_fork, is_stable, is_success, on_forked_response, on_other_response, on_other_response_at, on_other_timeout, on_other_timeout_at}
use Rattle.mmtel_call.specs.OtherRequests.{on_response_abandoned, on_response_answered, on_response_answered_at, on_retransmitted_success, with_retransmitted_ack, without_key, without_timed_out}
use Rattle.mmtel_call.specs.Detaching.{call_finish, finish_of_phase}
use Rattle.mmtel_call.specs.AttemptStarts.{attempt_dialog_of, attempt_start}
use Rattle.mmtel_call.specs.Opening.{call_after_opening, caller_of, new_call, unless_refused}
use Rattle.mmtel_call.specs.Reinvites.{abandoned_across, after_invite_across, ends_dialog, on_accepted_reinvite, on_bye_reinviting, on_cancel_across, on_provisional_across, on_reinvite}
use Rattle.mmtel_call.specs.Reinvites.{on_response_across, on_timeout_across, reinvite_after_cancel, reinvite_after_provisional, with_byes, with_cancel_if_due, with_refusal_back, with_relayed_back}
use Rattle.mmtel_call.specs.Reliable.{named_rseq, on_named_prack, on_rack, on_refused_prack, own_rseq_for, rack_in, status_of_refusal, with_reliable_response}
use Rattle.mmtel_call.specs.Requests.{is_bye, is_invite, is_prack, is_update, leg_after_receiving, request_check, with_refused_request, with_unlisted_response}
use Rattle.mmtel_call.specs.Ringing as ringing
use Rattle.mmtel_call.specs.Ringing.{on_answer, with_no_reply_timer, with_no_reply_timer_in, with_attempt_cancel, on_failure, on_caller_cancel, end_before_answer}
use Rattle.mmtel_call.specs.Ringing.{attempt_after_request, call_without_attempt, on_cancel, on_due, on_valid_request, on_other, on_prack_of, on_request, on_request_if}
use Rattle.mmtel_call.specs.Ringing.{on_response, offered_request_check, on_timeout, on_attempt_timeout, on_trying, with_abandoned, with_expiry_timer, expiries, expiry_in}
use Rattle.mmtel_call.specs.Sending.{with_diversion_notification, with_relay_to_caller, with_status_to, with_status_to_caller}
use Rattle.mmtel_call.specs.Stages.{after_bye_at, after_timer_at, busy_in, has_departed, is_due_at, on_ack_at, on_bye, on_cancel_at}
use Rattle.mmtel_call.specs.Stages.{on_due_at, on_invite, on_request_at, on_request_at_if, on_response_at, on_timeout_at, on_valid_request_at}
use Rattle.mmtel_call.specs.Table.{ack_in, cancel_in, due_in, is_current, leaves, leaves_on_response, on_response_to, on_timeout_of, request_in, response_in, step, timeout_in, transition}
use Rattle.mmtel_call.specs.Updates.{accepts_updates, on_early_retry, on_early_update, on_glare, on_stable_update, on_update, on_update_at, unless_updating}
use Rattle.mmtel_call.specs.declared.calls.Attempt.{Attempt}
use Rattle.mmtel_call.specs.declared.calls.Call.{Call}
use Rattle.mmtel_call.specs.declared.calls.RelayedTransaction.{RelayedTransaction}
use Rattle.mmtel_call.specs.declared.calls.RelayedKind.{RelayedKind}
use Rattle.mmtel_call.specs.declared.calls.RelayedKind.TheVariants.{Prack, Update}
use Rattle.mmtel_call.specs.declared.calls.EstablishedLegs.{EstablishedLegs}
use Rattle.mmtel_call.specs.declared.calls.Phase.{Phase}
use Rattle.mmtel_call.specs.declared.calls.Phase.TheVariants.{Detached, Established, Offered, Over}
use Rattle.mmtel_call.specs.declared.calls.Reinvite.{Reinvite}
use Rattle.mmtel_call.specs.declared.calls.Stage.{Stage}
use Rattle.mmtel_call.specs.declared.calls.Stage.TheVariants.{Answered, Departing, Reinviting, Stable}
use Rattle.mmtel_call.specs.declared.calls.Success.{Success}
use Rattle.mmtel_call.specs.declared.calls.AnsweredInvite.{AnsweredInvite}
use Rattle.mmtel_call.specs.declared.calls.OfferedAttempt.{OfferedAttempt}
use Rattle.mmtel_call.specs.declared.signals.Signal.{Signal}
use Rattle.mmtel_call.specs.declared.signals.Signal.TheVariants as signal
use Rattle.mmtel_output.specs.Outputs.{after_draw, token, with_emit}
use Rattle.mmtel_output.specs.SentInvites.{is_cancellable, with_key, with_provisional}
use Rattle.mmtel_output.specs.AbandonedInvites as left_ones
use Rattle.mmtel_output.specs.AbandonedInvites.{AfterResponse, after_due_cancel, after_provisional, ended_dialog, is_of_branch, on_success, on_success_in, with_invite}
use Rattle.mmtel_output.specs.Sending.{with_ack, with_bye, with_cancel, with_due_cancel, with_final_ack, with_relayed_ack, with_relayed_request}
use Rattle.mmtel_output.specs.declared.outputs.StepOutput.{StepOutput}
use Rattle.mmtel_output.specs.declared.sent_invites.SentInvite.{SentInvite}
use Rattle.mmtel_output.specs.declared.sent_invites.AbandonedInvite.{AbandonedInvite}
use Rattle.mmtel_leg.specs.Legs.{Leg}
use Rattle.mmtel_leg.specs.Releases.{released_leg}
use Rattle.mmtel_leg.specs.Remotes.{remote_of}
use Rattle.mmtel_leg.specs.declared.dialogues.Dialogue.{Dialogue}
use Rattle.mmtel_leg.specs.declared.dialogues.DialogueFault.{DialogueFault}
use Rattle.mmtel_leg.specs.declared.dialogues.DialogueFault.TheVariants.{OldCSeq, Pending, Unfinished}
use Rattle.mmtel_leg.specs.declared.remotes.Remote.{Remote}
use Rattle.mmtel_message.specs.Faults.{is_method}
use Rattle.mmtel_message.specs.Message.{Line, Message}
use Rattle.mmtel_message.specs.declared.messages.Start.{Start}
use Rattle.mmtel_precedence.specs.Attempts.{end_by_final, end_by_time, rings}
use Rattle.mmtel_precedence.specs.Calls.{AttemptEndView, NoReply, NotReachable, SnapshotView}
use Rattle.mmtel_precedence.specs.Services.{DueDiversionView}
use Rattle.mmtel_precedence.specs.NextSteps.{EndAnswered, EndDivert, EndRefuse, NextStepView, StepAfterAttemptView, StepDivert, StepOffer, StepRefuse}
use Rattle.mmtel_precedence.specs.Verdicts.{too_many}
use Rattle.mmtel_reliable.specs.Acks.{has_own}
use Rattle.mmtel_reliable.specs.declared.racks.Rack.{Rack}
use Rattle.mmtel_served_user.specs.declared.targets.Target.{Target}
use Rattle.mmtel_transaction.specs.declared.words.DueWord.{DueWord}
use Rattle.mmtel_transaction.specs.declared.words.DueWord.TheVariants as due
use Rattle.mmtel_transaction.specs.declared.words.Emit.{Emit}
use Rattle.mmtel_transaction.specs.declared.words.Emit.TheVariants as emit
use Rattle.mmtel_transaction.specs.declared.words.TKey.{TKey}
use Rattle.mmtel_trust.specs.ParsedMessage.{ParsedMessage}
use Rattle.mmtel_types.specs.Causes as of_causes
use Rattle.mmtel_types.specs.Sides.{other_side}
use Rattle.mmtel_types.specs.declared.causes.Cause.{Cause}
use Rattle.mmtel_types.specs.declared.causes.Cause.TheVariants as causes
use Rattle.mmtel_types.specs.declared.sides.Side.{Side}
use Rattle.mmtel_types.specs.declared.sides.Side.TheVariants.{Caller, Callee}
use Rattle.mmtel_session.specs.Intervals.{expiry_interval_of}
use Rattle.mmtel_call.specs.Expiring.{after_expiry, after_expiry_reinviting}
use Rattle.mmtel_message.specs.Responses.{response}
use Rattle.mmtel_base.specs.Numbers.{next_number}
use Rattle.mmtel_types.specs.declared.numbers.CallNo.{CallNo}
use Rattle.mmtel_call_theorems.specs.Session.Theorems.{expiry_at}
use Rattle.mmtel_call_theorems.specs.Session.Observed.{expiries_of, expiry_of, is_accepted, is_prack_at, is_prack_in, success_received, success_to}
use Rattle.mmtel_call_theorems.specs.Attempts.Observed.{Deadline}

-- ---- statuses

low_status : (code : ℕ) → nat_lt code 200 ≡ true → is_success code ≡ false
low_status code low = grind (arith, nat_tests, low)

high_status : (code : ℕ) → nat_lt code 300 ≡ false → is_success code ≡ false
high_status code high = grind (arith, nat_tests, high)

success_status : (code : ℕ) → nat_lt code 200 ≡ false → nat_lt code 300 ≡ true → is_success code ≡ true
success_status code low high = grind (arith, nat_tests, low, high)

-- ---- lists of what is sent

expiries_append : (own : CallNo) (xs ys : List Emit) → expiries_of own (xs ++ ys) ≡ expiries_of own xs ++ expiries_of own ys
expiries_append own [] ys = refl
expiries_append own (e ∷ xs) ys = ap (λ l. expiry_of own e ++ l) (expiries_append own xs ys) ∙ sym (append_assoc (expiry_of own e) (expiries_of own xs) (expiries_of own ys))

any_append : (xs ys : List Emit) → list_any is_accepted (xs ++ ys) ≡ (list_any is_accepted xs || list_any is_accepted ys)
any_append [] ys = refl
any_append (e ∷ xs) ys = ap (λ b. is_accepted e || b) (any_append xs ys) ∙ sym (or_assoc (is_accepted e) (list_any is_accepted xs) (list_any is_accepted ys))
  where
    or_assoc : (a b c : Bool) → ((a || b) || c) ≡ (a || (b || c))
    or_assoc true b c = refl
    or_assoc false b c = refl

pub if_same : {A : Type 0} (b : Bool) (x : A) → (if b then x else x) ≡ x
if_same true x = refl
if_same false x = refl

-- of the call of this number, of which this many 2xx were relayed, where this was sent before
module _ (config : CallConfigView) (own : CallNo) (count : ℕ) (before : List Emit) where
  -- ---- what is sent

  -- so far no deadline of a session, and no 2xx but where it `accepts`
  pub record Adds (accepts : Bool) (output : StepOutput) : Type 0 where
    pub new : List Emit
    pub out : output.out ≡ before ++ new
    pub none : expiries_of own new ≡ []
    pub accepted : accepts ≡ false → list_any is_accepted new ≡ false

  abbrev pub Quiet : StepOutput → Type 0
  Quiet output = Adds true output

  abbrev pub NoSuccess : StepOutput → Type 0
  NoSuccess output = Adds false output

  pub nothing_yet : (accepts : Bool) (output : StepOutput) → output.out ≡ before → Adds accepts output
  nothing_yet accepts output is = record { new = []; out = is ∙ sym (append-nil before); none = refl; accepted = λ unsaid. refl }

  -- where none was sent, fewer may be permitted
  quiet_of : (output : StepOutput) → NoSuccess output → Quiet output
  quiet_of output had = record { new = had.new; out = had.out; none = had.none; accepted = λ unsaid. had.accepted refl }

  more_in : (accepts : Bool) (e : Emit) (output : StepOutput) → expiry_of own e ≡ [] → (accepts ≡ false → is_accepted e ≡ false) → Adds accepts output → Adds accepts (with_emit e output)
  more_in accepts e output is unsaid had = record {
    new = had.new ++ e ∷ [];
    out = ap (λ l. l ++ e ∷ []) had.out ∙ append_assoc before had.new (e ∷ []);
    none = expiries_append own had.new (e ∷ []) ∙ (λ i. had.none i ++ (is i ++ []));
    accepted = λ none. any_append had.new (e ∷ []) ∙ (λ i. had.accepted none i || (unsaid none i || false));
  }

  -- a reply
  emit_in : (e : Emit) (output : StepOutput) → expiry_of own e ≡ [] → Quiet output → Quiet (with_emit e output)
  emit_in e output is had = more_in true e output is (λ unsaid. absurd (let f : true ≡ false = unsaid in cc)) had

  drew_in : (accepts : Bool) (output : StepOutput) → Adds accepts output → Adds accepts (after_draw output)
  drew_in accepts output had = record { new = had.new; out = had.out; none = had.none; accepted = had.accepted }

  -- what is no reply
  sent_in : (accepts : Bool) (e : Emit) (output : StepOutput) → expiry_of own e ≡ [] → is_accepted e ≡ false → Adds accepts output → Adds accepts (with_emit e output)
  sent_in accepts e output is unsaid had = more_in accepts e output is (λ none. unsaid) had

  if_adds : (accepts : Bool) (b : Bool) (one two : StepOutput) → Adds accepts one → Adds accepts two → Adds accepts (if b then one else two)
  if_adds accepts true one two e f = e
  if_adds accepts false one two e f = f

  if_output : (b : Bool) (one two : StepOutput) → Quiet one → Quiet two → Quiet (if b then one else two)
  if_output b one two e f = if_adds true b one two e f

  any_bye_in : (accepts : Bool) (d : Dialogue) (output : StepOutput) → Adds accepts output → Adds accepts (with_bye config.sip d output)
  any_bye_in accepts d output had = sent_in accepts _ (after_draw output) refl refl (drew_in accepts output had)

  bye_in : (d : Dialogue) (output : StepOutput) → Quiet output → Quiet (with_bye config.sip d output)
  bye_in d output had = any_bye_in true d output had

  bye_for : (d : Dialogue) (passed : List Line) (m : ParsedMessage) (output : StepOutput) → Quiet output → Quiet (with_relayed_request config.sip (codes "BYE") d passed m output)
  bye_for d passed m output had = sent_in true _ (after_draw output) refl refl (drew_in true output had)

  any_acked_in : (accepts : Bool) (d : Dialogue) (output : StepOutput) → Adds accepts output → Adds accepts (with_ack config.sip d output)
  any_acked_in accepts d output had = sent_in accepts _ (after_draw output) refl refl (drew_in accepts output had)

  acked_in : (d : Dialogue) (output : StepOutput) → Quiet output → Quiet (with_ack config.sip d output)
  acked_in d output had = any_acked_in true d output had

  acked_for_in : (d : Dialogue) (passed : List Line) (m : ParsedMessage) (output : StepOutput) → Quiet output → Quiet (with_relayed_ack config.sip d passed m output)
  acked_for_in d passed m output had = sent_in true _ (after_draw output) refl refl (drew_in true output had)

  any_cancel_in : (accepts : Bool) (i : SentInvite) (output : StepOutput) → Adds accepts output → Adds accepts (with_cancel config.sip i output)
  any_cancel_in accepts i output had = sent_in accepts _ output refl refl had

  cancelled_in : (i : SentInvite) (output : StepOutput) → Quiet output → Quiet (with_due_cancel config.sip i output)
  cancelled_in i output had = if_output (is_cancellable i) (with_cancel config.sip i output) output (any_cancel_in true i output had) had

  any_final_acked_in : (accepts : Bool) (key : TKey) (i : SentInvite) (m : ParsedMessage) (output : StepOutput) → Adds accepts output → Adds accepts (with_final_ack config.sip key i m output)
  any_final_acked_in accepts key i m output had = sent_in accepts _ output refl refl had

  final_acked_in : (key : TKey) (i : SentInvite) (m : ParsedMessage) (output : StepOutput) → Quiet output → Quiet (with_final_ack config.sip key i m output)
  final_acked_in key i m output had = any_final_acked_in true key i m output had

  replied_in : (c : Call) (key : TKey) (m : MessageView) (code : ℕ) (output : StepOutput) → Quiet output → Quiet (with_status_to config c key m code output)
  replied_in c key m code output had = emit_in _ output refl had

  status_in : (c : Call) (code : ℕ) (output : StepOutput) → Quiet output → Quiet (with_status_to_caller config c code output)
  status_in c code output had = emit_in _ output refl had

  notification_in : (c : Call) (output : StepOutput) → Quiet output → Quiet (with_diversion_notification config c output)
  notification_in c output had = emit_in _ output refl had

  relayed_in : (c : Call) (service : Option Service) (m : MessageView) (output : StepOutput) → Quiet output → Quiet (with_relay_to_caller config c service m output)
  relayed_in c service m output had = emit_in _ output refl had

  refused_request_in : (c : Call) (key : TKey) (m : MessageView) (fault : DialogueFault) (output : StepOutput) → Quiet output → Quiet (with_refused_request config c key m fault output)
  refused_request_in c key m (OldCSeq last) output had = emit_in _ output refl had
  refused_request_in c key m Pending output had = emit_in _ output refl had
  refused_request_in c key m Unfinished output had = emit_in _ output refl had

  unlisted_by : (b d : Bool) (one two three : StepOutput) → Quiet one → Quiet two → Quiet three → Quiet (if b then one else if d then two else three)
  unlisted_by true d one two three x y z = x
  unlisted_by false true one two three x y z = y
  unlisted_by false false one two three x y z = z

  unlisted_in : (c : Call) (key : TKey) (m : MessageView) (output : StepOutput) → Quiet output → Quiet (with_unlisted_response config c key m output)
  unlisted_in c key m output had =
      unlisted_by (is_method (codes "OPTIONS") m.parsed.start) (is_method (codes "REFER") m.parsed.start) _ _ _ (emit_in _ output refl had) (emit_in _ output refl had) (emit_in _ output refl had)

  -- ---- steps

  abbrev pub Opens : Call → Type 0
  Opens c = (c.successes ≡ count) × (c.opening.number ≡ own)

  -- a step arms no deadline of a session, and the number of the call does not change; it sends no 2xx except where it `accepts`
  pub record Stays (accepts : Bool) (s : StepResult) : Type 0 where
    pub call_in : Opens s.call
    pub output_in : Adds accepts s.output

  abbrev pub Good : StepResult → Type 0
  Good s = Stays true s

  good : (s : StepResult) → Opens s.call → Quiet s.output → Good s
  good s k had = record { call_in = k; output_in = had }

  onward_good : (c : Call) (output : StepOutput) → Opens c → Quiet output → Good (step_result c output)
  onward_good c output k had = good (step_result c output) k had

  over_good : (at : ℕ) (cause : Cause) (first last : Option MeterView) (c : Call) (output : StepOutput) → Opens c → Quiet output → Good (call_end at cause first last c output)
  over_good at cause first last c output k had = good (call_end at cause first last c output) k (record { new = had.new; out = had.out; none = had.none; accepted = had.accepted })

  if_good : (b : Bool) (one two : StepResult) → Good one → Good two → Good (if b then one else two)
  if_good true one two e f = e
  if_good false one two e f = f

  -- ---- how the call continues

  refused_good : (at : ℕ) (caller : Leg) (cause : Cause) (c : Call) (output : StepOutput) → Opens c → Quiet output → Good (call_refusal config at caller cause c output)
  refused_good at caller cause c output k had = over_good at cause caller.meter None c (with_status_to_caller config c (of_causes.status_of cause) output) k (status_in c (of_causes.status_of cause) output had)

  refused_by_good : (at : ℕ) (caller : Leg) (service : Option Service) (m : Option MessageView) (cause : Cause) (c : Call) (output : StepOutput) → Opens c → Quiet output →
      Good (relayed_refusal config at caller service m cause c output)
  refused_by_good at caller service None cause c output k had = refused_good at caller cause c output k had
  refused_by_good at caller service (Some m) cause c output k had =
      if_good (is_status (status_of m.parsed.start) (relayed_status cause)) (call_end at cause caller.meter None c (with_relay_to_caller config c service m output)) (call_refusal config at caller cause c output)
      (over_good at cause caller.meter None c (with_relay_to_caller config c service m output) k (relayed_in c service m output had)) (refused_good at caller cause c output k had)

  offer_good : (at : ℕ) (caller : Leg) (service : Option Service) (waiting : Bool) (destination : Destination) (c : Call) (output : StepOutput) → Opens c → Quiet output →
      Good (attempt_start config at caller service waiting destination c output)
  offer_good at caller service waiting destination c output k had =
      let third : StepOutput = after_draw (after_draw output) in
      let m : Message Start = invite_of (attempt_dialog_of c.opening destination output) config.sip (token third) (attempt_lines config c.opening c.diversions service destination.peer) waiting c.opening.invite.parsed in
      let asked : StepOutput = with_emit (emit.Ask destination.peer m) (after_draw third) in
      good (attempt_start config at caller service waiting destination c output) k
      (emit_in _ asked refl (emit_in (emit.Ask destination.peer m) (after_draw third) refl (drew_in true third (drew_in true (after_draw output) (drew_in true output had)))))

  abbrev Diverts : ℕ → SnapshotView → Leg → Type 0
  Diverts left now caller = (service : Option Service) (due : DueDiversionView) (c : Call) (output : StepOutput) → Opens c → Quiet output → Good (divert left config now caller service due c output)

  next_step_good : (left : ℕ) (now : SnapshotView) (caller : Leg) → Diverts left now caller → (service : Option Service) (cause : Option ℕ) (target : Target) (turn : NextStepView) (c : Call) (output : StepOutput) →
      Opens c → Quiet output → Good (on_next_step (divert left config now caller) config now.at caller service cause target turn c output)
  next_step_good left now caller later service cause target (StepOffer peer waiting) c output k had = offer_good now.at caller service waiting (destination_of c.opening peer cause target) c output k had
  next_step_good left now caller later service cause target (StepDivert due) c output k had = later service due (with_unoffered_meter now.at service c) output k had
  next_step_good left now caller later service cause target (StepRefuse why) c output k had = refused_good now.at caller why (with_unoffered_meter now.at service c) output k had

  target_good : (left : ℕ) (now : SnapshotView) (caller : Leg) → Diverts left now caller → (cause : Option ℕ) (target : Target) (c : Call) (output : StepOutput) →
      Opens c → Quiet output → Good (at_target (divert left config now caller) config now caller cause target c output)
  target_good left now caller later cause target c output k had =
      next_step_good left now caller later (service_at config now c.opening cause target) cause target
      (decision_at config now c.opening (is_diverted c) cause target (service_at config now c.opening cause target) (peer_for config c.opening target)) c output k had

  notification_of_in : (due : DueDiversionView) (c : Call) (output : StepOutput) → Opens c → Quiet output → Quiet (with_notification_of config due c output)
  notification_of_in due c output k had = if_output due.forward.notify_caller (with_diversion_notification config c output) output (notification_in c output had) had

  unless_good : (refusal : Option Cause) (go : Call → StepOutput → StepResult) (at : ℕ) (caller : Leg) (c : Call) (output : StepOutput) → Opens c → Quiet output → Good (go c output) →
      Good (diversion_unless_refused refusal go config at caller c output)
  unless_good (Some why) go at caller c output k had is = refused_good at caller why c output k had
  unless_good None go at caller c output k had is = is

  divert_good : (left : ℕ) (now : SnapshotView) (caller : Leg) → Diverts left now caller
  unfolding divert
  divert_good zero now caller service due c output k had =
      unless_good (diversion_refusal 0 config now.at service due c) (call_refusal config now.at caller (too_many due.cause)) now.at caller c output k had (refused_good now.at caller (too_many due.cause) c output k had)
  divert_good (suc left) now caller service due c output k had =
      let target : Target = diversion_target config due in
      let next : Call = call_after_diversion target now.at left service due c in
      let onward = diversion_step (at_target (divert left config now caller) config now caller (Some due.cause) target) config target now.at left service due in
      unless_good (diversion_refusal (suc left) config now.at service due c) onward now.at caller c output k had
      (target_good left now caller (divert_good left now caller) (Some due.cause) target next (with_notification_of config due next output) k (notification_of_in due next output k had))

  reach_good : (now : SnapshotView) (caller : Leg) (cause : Option ℕ) (target : Target) (c : Call) (output : StepOutput) → Opens c → Quiet output → Good (reach config now caller cause target c output)
  reach_good now caller cause target c output k had = target_good c.diversions.remaining now caller (divert_good c.diversions.remaining now caller) cause target c output k had

  end_good : (now : SnapshotView) (caller : Leg) (service : Option Service) (m : Option MessageView) (after : StepAfterAttemptView) (c : Call) (output : StepOutput) → Opens c → Quiet output →
      Good (on_end config now caller service m after c output)
  end_good now caller service m EndAnswered c output k had = over_good now.at causes.Ended caller.meter None c output k had
  end_good now caller service m (EndDivert due) c output k had = divert_good c.diversions.remaining now caller service due c output k had
  end_good now caller service m (EndRefuse cause) c output k had = refused_by_good now.at caller service m cause c output k had

  goes_on_good : (now : SnapshotView) (x : OfferedAttempt) (how : AttemptEndView) (m : Option MessageView) (c : Call) (output : StepOutput) → Opens c → Quiet output → Good (after_attempt config now x how m c output)
  goes_on_good now x how m c output k had =
      end_good now x.caller x.attempt.service m (decision_after c.opening now.at (is_diverted c) x.attempt.service how) (with_past x.callee.leg.meter c) output k had

  -- ---- while it is offered

  tried_good : (key : TKey) (x : OfferedAttempt) (c : Call) (output : StepOutput) → Opens c → Quiet output → Good (on_trying key x c output)
  tried_good key x c output k had = good (on_trying key x c output) k had

  armed_in_good : (time : Option ℕ) (at : ℕ) (attempt : Attempt) (c : Call) (output : StepOutput) → Quiet output → Quiet (with_no_reply_timer_in time at attempt c output)
  armed_in_good None at attempt c output had = had
  armed_in_good (Some time) at attempt c output had = emit_in _ output refl had

  armed_good : (code at : ℕ) (attempt : Attempt) (c : Call) (output : StepOutput) → Quiet output → Quiet (with_no_reply_timer code at attempt c output)
  armed_good code at attempt c output had =
      if_output (rings code && not attempt.rang) (with_no_reply_timer_in (no_reply_time_of (service_sheet attempt.service)) at attempt c output) output
      (armed_in_good (no_reply_time_of (service_sheet attempt.service)) at attempt c output had) had

  relays_good : (own_number : Option ℕ) (rseq at : ℕ) (x : OfferedAttempt) (key : TKey) (m : MessageView) (code : ℕ) (c : Call) (output : StepOutput) → Opens c → Quiet output →
      Good (ringing.on_numbered_provisional own_number rseq config at x key m code c output)
  relays_good None rseq at x key m code c output k had = tried_good key x c output k had
  relays_good (Some number) rseq at x key m code c output k had =
      let passed : StepOutput = with_reliable_response config c x.attempt.service number m output in
      good (ringing.on_numbered_provisional (Some number) rseq config at x key m code c output) k
      (emit_in _ (with_no_reply_timer code at x.attempt c passed) refl (armed_good code at x.attempt c passed (emit_in _ output refl had)))

  proceeding_by_good : (number : Option ℕ) (at : ℕ) (x : OfferedAttempt) (key : TKey) (m : MessageView) (code : ℕ) (c : Call) (output : StepOutput) → Opens c → Quiet output →
      Good (ringing.on_provisional_by number config at x key m code c output)
  proceeding_by_good None at x key m code c output k had =
      good (ringing.on_plain_provisional config at x key m code c output) k
      (armed_good code at x.attempt c (with_relay_to_caller config c x.attempt.service m output) (relayed_in c x.attempt.service m output had))
  proceeding_by_good (Some rseq) at x key m code c output k had = relays_good (own_rseq_for rseq x m c) rseq at x key m code c output k had

  proceeding_good : (at : ℕ) (x : OfferedAttempt) (key : TKey) (m : MessageView) (code : ℕ) (c : Call) (output : StepOutput) → Opens c → Quiet output → Good (ringing.on_provisional config at x key m code c output)
  proceeding_good at x key m code c output k had = proceeding_by_good (reliable_number config c.opening m) at x key m code c output k had

  -- ---- a 2xx is relayed

  -- what is due of it, at this moment
  abbrev pub due_of : (at : ℕ) → MessageView → List Deadline
  due_of at m = if config.timer then expiry_at (next_number count) at (expiry_interval_of m.parsed.session) else []

  -- a step relays this 2xx
  pub record Agrees (at : ℕ) (m : MessageView) (s : StepResult) : Type 0 where
    pub number : s.call.successes ≡ next_number count
    pub opening : s.call.opening.number ≡ own
    pub new : List Emit
    pub out : s.output.out ≡ before ++ new
    pub armed : expiries_of own new ≡ due_of at m
    pub accepted : list_any is_accepted new ≡ true

  own_expiry : (c : Call) (number at : ℕ) → c.opening.number ≡ own → expiry_of own (emit.Arm c.opening.number (due.Expired number) at) ≡ record { what = due.Expired number; at = at } ∷ []
  own_expiry c number at is =
      ap (λ b. if b then record { what = due.Expired number; at = at } ∷ [] else []) (eq-eqb c.opening.number.0 own.0 (ap (λ (n : CallNo). n.0) is))

  expiry_observed : (timer : Bool) (time : Option ℕ) (at : ℕ) (c : Call) → Opens c →
      expiries_of own (if timer then expiry_in time at c else []) ≡ (if timer then expiry_at (next_number count) at time else [])
  expiry_observed true None at c k = refl
  expiry_observed true (Some time) at c k =
      ap (λ l. l ++ []) (own_expiry c (ringing.next_success c) (at + time) k.1)
      ∙ ap (λ n. record { what = due.Expired (next_number n); at = at + time } ∷ []) k.0
  expiry_observed false time at c k = refl

  -- what was sent before, the 2xx, and what is armed
  passes_on : (at : ℕ) (m : MessageView) (e : Emit) (c d : Call) (output : StepOutput) → expiry_of own e ≡ [] → is_accepted e ≡ true → Opens c → d.successes ≡ next_number count → d.opening.number ≡ own → Quiet output →
      Agrees at m (record { call = d; output = with_expiry_timer config at m c (ringing.with_ack_timer at c (with_emit e output)) })
  passes_on at m e c d output quiet said k number opening had =
      let ack : Emit = emit.Arm c.opening.number (due.NoAck (ringing.next_success c)) (at + ringing.ack_time) in
      let armed : List Emit = expiries config.timer at m c in
      let told : List Emit = had.new ++ e ∷ ack ∷ armed in
      record {
        number = number;
        opening = opening;
        new = told;
        out =
            ap (λ l. ((l ++ e ∷ []) ++ ack ∷ []) ++ armed) had.out
            ∙ ap (λ l. (l ++ ack ∷ []) ++ armed) (append_assoc before had.new (e ∷ []))
            ∙ ap (λ l. l ++ armed) (append_assoc before (had.new ++ e ∷ []) (ack ∷ []))
            ∙ append_assoc before ((had.new ++ e ∷ []) ++ ack ∷ []) armed
            ∙ ap (λ l. before ++ l) (append_assoc (had.new ++ e ∷ []) (ack ∷ []) armed ∙ append_assoc had.new (e ∷ []) (ack ∷ armed));
        armed =
            expiries_append own had.new (e ∷ ack ∷ armed)
            ∙ (λ i. had.none i ++ (quiet i ++ expiry_observed config.timer (expiry_interval_of m.parsed.session) at c k i));
        accepted = any_append had.new (e ∷ ack ∷ armed) ∙ ap (λ b. list_any is_accepted had.new || (b || list_any is_accepted (ack ∷ armed))) said ∙ or_true (list_any is_accepted had.new);
      }
    where
      or_true : (b : Bool) → (b || true) ≡ true
      or_true true = refl
      or_true false = refl

  answered_agrees : (at : ℕ) (x : OfferedAttempt) (key : TKey) (m : MessageView) (c : Call) (output : StepOutput) → is_success (status_of m.parsed.start) ≡ true → Opens c → Quiet output →
      Agrees at m (on_answer config at x key m c output)
  unfolding response
  answered_agrees at x key m c output is k had =
      passes_on at m _ c (on_answer config at x key m c output).call output refl is k (ap next_number k.0) k.1 had

  failed_good : (now : SnapshotView) (x : OfferedAttempt) (key : TKey) (m : MessageView) (code : ℕ) (c : Call) (output : StepOutput) → Opens c → Quiet output → Good (on_failure config now x key m code c output)
  failed_good now x key m code c output k had =
      goes_on_good now x (end_by_final code (redirect_of m) x.attempt.rang) (Some m) c (with_final_ack config.sip key x.attempt.invite m.parsed output) k (final_acked_in key x.attempt.invite m.parsed output had)

  -- ---- responses

  -- where this 2xx is received, if one is: it is relayed, or the step sends none
  pub data Goes (at : ℕ) (received : Option MessageView) (s : StepResult) : Type 0 where
    Passes : (m : MessageView) → received ≡ Some m → Agrees at m s → Goes at received s
    ReceivesNone : received ≡ None → Good s → Goes at received s
    SaysNone : Stays false s → Goes at received s

  goes_if : (at : ℕ) (received : Option MessageView) (b : Bool) (one two : StepResult) → (b ≡ true → Goes at received one) → (b ≡ false → Goes at received two) → Goes at received (if b then one else two)
  goes_if at received true one two f g = f refl
  goes_if at received false one two f g = g refl

  -- the 2xx, by its status
  abbrev received_of : MessageView → Option MessageView
  received_of m = if is_success (status_of m.parsed.start) then Some m else None

  none_of : (m : MessageView) → is_success (status_of m.parsed.start) ≡ false → received_of m ≡ None
  none_of m is = ap (λ b. if b then Some m else None) is

  some_of : (m : MessageView) → is_success (status_of m.parsed.start) ≡ true → received_of m ≡ Some m
  some_of m is = ap (λ b. if b then Some m else None) is

  response_goes : (now : SnapshotView) (x : OfferedAttempt) (key : TKey) (m : MessageView) (c : Call) (output : StepOutput) → Opens c → NoSuccess output →
      Goes now.at (received_of m) (on_response config now x key m (status_of m.parsed.start) c output)
  response_goes now x key m c output k unsaid =
      let code : ℕ = status_of m.parsed.start in
      let at : ℕ = now.at in
      let had : Quiet output = quiet_of output unsaid in
      goes_if at (received_of m) (nat_lt code 101) (on_trying key x c output) _
      (λ low. SaysNone (record { call_in = k; output_in = unsaid }))
      (λ high. goes_if at (received_of m) (nat_lt code 200) (ringing.on_provisional config at x key m code c output) _
      (λ low. ReceivesNone (none_of m (low_status code low)) (proceeding_good at x key m code c output k had))
      (λ above. goes_if at (received_of m) (nat_lt code 300) (on_answer config at x key m c output) (on_failure config now x key m code c output)
      (λ below. let yes = success_status code above below in Passes m (some_of m yes) (answered_agrees at x key m c output yes k had))
      (λ beyond. ReceivesNone (none_of m (high_status code beyond)) (failed_good now x key m code c output k had))))

  abbrev offered_call : OfferedAttempt → Call → Call
  offered_call x c = record c { phase = Offered x }

  timeout_transition : (now : SnapshotView) (x : OfferedAttempt) (c : Call) (output : StepOutput) → Opens c → Quiet output → Good (on_timeout config now x (offered_call x c) output)
  timeout_transition now x c output k had =
      if_good x.attempt.rang (step_result (offered_call x c) output) (after_attempt config now x (NotReachable 408) None (offered_call x c) output)
      (onward_good (offered_call x c) output k had) (goes_on_good now x (NotReachable 408) None (offered_call x c) output k had)

  timed_out_good : (now : SnapshotView) (x : OfferedAttempt) (how : AttemptEndView) (c : Call) (output : StepOutput) → Opens c → Quiet output → Good (on_attempt_timeout config now x how c output)
  timed_out_good now x how c output k had = goes_on_good now x how None (call_without_attempt x c) (with_attempt_cancel config x output) k (cancelled_in x.attempt.invite output had)

  given_up_good : (cause : Cause) (at : ℕ) (x : OfferedAttempt) (c : Call) (output : StepOutput) → Opens c → Quiet output → Good (end_before_answer cause config at x c output)
  given_up_good cause at x c output k had =
      let told : StepOutput = with_status_to_caller config c (of_causes.status_of cause) output in
      over_good at cause x.caller.meter x.callee.leg.meter (call_without_attempt x c) (with_attempt_cancel config x told) k (cancelled_in x.attempt.invite told (status_in c (of_causes.status_of cause) output had))

  due_transition : (now : SnapshotView) (x : OfferedAttempt) (what : DueWord) (c : Call) (output : StepOutput) → Opens c → Quiet output → Good (on_due config now x what (offered_call x c) output)
  due_transition now x (due.NoReply number) c output k had =
      if_good (number == x.attempt.number) (on_attempt_timeout config now x NoReply (offered_call x c) output) (step_result (offered_call x c) output)
      (timed_out_good now x NoReply (offered_call x c) output k had) (onward_good (offered_call x c) output k had)
  due_transition now x (due.NoPrack number) c output k had =
      if_good (has_own number c.acks.waiting) (end_before_answer causes.Unacknowledged config now.at x (offered_call x c) output) (step_result (offered_call x c) output)
      (given_up_good causes.Unacknowledged now.at x (offered_call x c) output k had) (onward_good (offered_call x c) output k had)
  due_transition now x (due.Cap number) c output k had =
      if_good (number == x.attempt.number) (on_attempt_timeout config now x (end_by_time x.attempt.rang) (offered_call x c) output) (step_result (offered_call x c) output)
      (timed_out_good now x (end_by_time x.attempt.rang) (offered_call x c) output k had) (onward_good (offered_call x c) output k had)
  due_transition now x (due.NoAck number) c output k had = onward_good (offered_call x c) output k had
  due_transition now x (due.Expired number) c output k had = onward_good (offered_call x c) output k had

  cancel_transition : (at : ℕ) (x : OfferedAttempt) (key : TKey) (m : MessageView) (invite : TKey) (c : Call) (output : StepOutput) → Opens c → Quiet output →
      Good (on_cancel config at x key m invite (offered_call x c) output)
  cancel_transition at x key m invite c output k had =
      let told : Quiet (with_status_to config (offered_call x c) key m 200 output) = replied_in (offered_call x c) key m 200 output had in
      if_good (invite.0 == c.opening.key.0) (on_caller_cancel config at x (offered_call x c) (with_status_to config (offered_call x c) key m 200 output))
      (step_result (offered_call x c) (with_status_to config (offered_call x c) key m 200 output))
      (given_up_good causes.Cancelled at x (offered_call x c) (with_status_to config (offered_call x c) key m 200 output) k told)
      (onward_good (offered_call x c) (with_status_to config (offered_call x c) key m 200 output) k told)

  -- PRACK and UPDATE

  asked_in : (method : List ℕ) (d : Dialogue) (passed : List Line) (m : ParsedMessage) (output : StepOutput) → Quiet output → Quiet (with_relayed_request config.sip method d passed m output)
  asked_in method d passed m output had = sent_in true _ (after_draw output) refl refl (drew_in true output had)

  settled_output : (accepts : Bool) (number : Option ℕ) (c : Call) (output : StepOutput) → Adds accepts output → Adds accepts (with_settled config number c output)
  settled_output accepts number c output had = if_adds accepts config.reliable (with_emit (emit.Settled c.opening.key number) output) output (sent_in accepts _ output refl refl had) had

  prack_refused_good : (key : TKey) (m : MessageView) (c : Call) (output : StepOutput) → Opens c → Quiet output → Good (on_refused_prack config key m c output)
  prack_refused_good key m c output k had = onward_good c _ k (replied_in c key m (status_of_refusal (rack_in m)) output had)

  acknowledging_good : (x : OfferedAttempt) (key : TKey) (m : MessageView) (rack : Rack) (answer : Option ℕ) (c : Call) (output : StepOutput) → Opens c → Quiet output →
      Good (on_named_prack config x key m rack answer c output)
  acknowledging_good x key m rack None c output k had = prack_refused_good key m c output k had
  acknowledging_good x key m rack (Some answer) c output k had =
      let before_it : StepOutput = with_settled config (Some rack.answer) c output in
      good (on_named_prack config x key m rack (Some answer) c output) k (sent_in true _ (after_draw before_it) refl refl (drew_in true before_it (settled_output true (Some rack.answer) c output had)))

  rack_good : (x : OfferedAttempt) (key : TKey) (m : MessageView) (rack : Option Rack) (c : Call) (output : StepOutput) → Opens c → Quiet output → Good (on_rack config x key m rack c output)
  rack_good x key m None c output k had = prack_refused_good key m c output k had
  rack_good x key m (Some rack) c output k had = acknowledging_good x key m rack (named_rseq x c rack) c output k had

  prack_of_good : (side : Side) (x : OfferedAttempt) (key : TKey) (m : MessageView) (c : Call) (output : StepOutput) → Opens c → Quiet output → Good (on_prack_of side config x key m c output)
  prack_of_good Caller x key m c output k had = rack_good x key m (rack_in m) c output k had
  prack_of_good Callee x key m c output k had = prack_refused_good key m c output k had

  later_good : (key : TKey) (m : MessageView) (c : Call) (output : StepOutput) → Opens c → Quiet output → Good (on_early_retry config key m c output)
  later_good key m c output k had = onward_good c _ k (emit_in _ output refl had)

  crossing_good : (key : TKey) (m : MessageView) (c : Call) (output : StepOutput) → Opens c → Quiet output → Good (on_glare config key m c output)
  crossing_good key m c output k had = onward_good c _ k (emit_in _ output refl had)

  unless_updating_good : (flying : Option Side) (across : Call → StepOutput → StepResult) (side : Side) (key : TKey) (m : MessageView) (c : Call) (output : StepOutput) → Opens c → Quiet output → Good (across c output) →
      Good (unless_updating flying across config side key m c output)
  unless_updating_good None across side key m c output k had passes = passes
  unless_updating_good (Some other) across side key m c output k had passes =
      if_good (is_same_side other side) (on_early_retry config key m c output) (on_glare config key m c output) (later_good key m c output k had) (crossing_good key m c output k had)

  update_good : (x : OfferedAttempt) (side : Side) (key : TKey) (m : MessageView) (c : Call) (output : StepOutput) → Opens c → Quiet output → Good (on_update config x side key m c output)
  update_good x side key m c output k had =
      if_good (accepts_updates x) (unless_updating (updating_side c.relayed) (on_early_update config x side key m) config side key m c output) (on_early_retry config key m c output)
      (unless_updating_good (updating_side c.relayed) (on_early_update config x side key m) side key m c output k had
      (good (on_early_update config x side key m c output) k (sent_in true _ (after_draw output) refl refl (drew_in true output had)))) (later_good key m c output k had)

  other_received_good : (x : OfferedAttempt) (side : Side) (key : TKey) (m : MessageView) (c : Call) (output : StepOutput) → Opens c → Quiet output → Good (on_other config x side key m c output)
  other_received_good x side key m c output k had =
      if_good (is_prack m) (on_prack_of side config x key m c output) (if is_update m then on_update config x side key m c output else step_result c (with_unlisted_response config c key m output))
      (prack_of_good side x key m c output k had)
      (if_good (is_update m) (on_update config x side key m c output) (step_result c (with_unlisted_response config c key m output)) (update_good x side key m c output k had)
      (onward_good c (with_unlisted_response config c key m output) k (unlisted_in c key m output had)))

  received_transition : (at : ℕ) (x : OfferedAttempt) (side : Side) (key : TKey) (m : MessageView) (c : Call) (output : StepOutput) → Opens c → Quiet output →
      Good (on_valid_request config at x side key m (offered_call x c) output)
  received_transition at x Caller key m c output k had =
      if_good (is_bye m) (on_caller_cancel config at x (offered_call x c) (with_status_to config (offered_call x c) key m 200 output)) (on_other config x Caller key m (offered_call x c) output)
      (given_up_good causes.Cancelled at x (offered_call x c) (with_status_to config (offered_call x c) key m 200 output) k (replied_in (offered_call x c) key m 200 output had))
      (other_received_good x Caller key m (offered_call x c) output k had)
  received_transition at x Callee key m c output k had = other_received_good x Callee key m (offered_call x c) output k had

  request_if_transition : (r : Result (Unit {0}) DialogueFault) (at : ℕ) (x : OfferedAttempt) (side : Side) (key : TKey) (m : MessageView) (c : Call) (output : StepOutput) →
      Opens c → Quiet output → Good (on_request_if r config at x side key m (offered_call x c) output)
  request_if_transition (Ok received) at x side key m c output k had = received_transition at (attempt_after_request side m x) side key m c output k had
  request_if_transition (Err fault) at x side key m c output k had =
      onward_good (offered_call x c) (with_refused_request config (offered_call x c) key m fault output) k (refused_request_in (offered_call x c) key m fault output had)

  request_transition : (at : ℕ) (x : OfferedAttempt) (side : Side) (key : TKey) (m : MessageView) (c : Call) (output : StepOutput) → Opens c → Quiet output →
      Good (on_request config at x side key m (offered_call x c) output)
  request_transition at x side key m c output k had = request_if_transition (offered_request_check x side m) at x side key m c output k had

  -- ---- once it is answered

  bye_to_in : (x : EstablishedLegs) (side : Side) (output : StepOutput) → Quiet output → Quiet (with_bye_to config x side output)
  bye_to_in x side output had = bye_in (leg_of side x).dialogue output had

  acked_remaining_in : (x : EstablishedLegs) (side : Side) (output : StepOutput) → Quiet output → Quiet (with_ack_and_bye config x side output)
  acked_remaining_in x side output had = bye_to_in x side (with_ack config.sip (leg_of side x).dialogue output) (acked_in (leg_of side x).dialogue output had)

  over_established_good : (at : ℕ) (x : EstablishedLegs) (c : Call) (output : StepOutput) → Opens c → Quiet output → Good (established_call_end at x c output)
  over_established_good at x c output k had = over_good at causes.Ended x.caller.meter x.callee.meter c output k had

  abbrev established : EstablishedLegs → Stage → Call → Call
  established x stage c = record c { phase = Established x stage }

  staged_good : (x : EstablishedLegs) (stage : Stage) (c : Call) (output : StepOutput) → Opens c → Quiet output → Good (step_result (established x stage c) output)
  staged_good x stage c output k had = onward_good (established x stage c) output k had

  acked_across_good : (x : EstablishedLegs) (side : Side) (success : Success) (m : MessageView) (c : Call) (output : StepOutput) → Opens c → Quiet output → Good (after_ack_across config x side success m c output)
  acked_across_good x side success m c output k had =
      good (after_ack_across config x side success m c output) k (acked_for_in (leg_of (other_side side) x).dialogue (copied_across config c x side m) m.parsed output had)

  parted_good : (at : ℕ) (x : EstablishedLegs) (side : Side) (c : Call) (output : StepOutput) → Opens c → Quiet output → Good (after_departure config at x side c output)
  parted_good at x side c output k had = over_established_good at x c (with_bye_to config x side output) k (bye_to_in x side output had)

  unacknowledged_good : (at : ℕ) (x : EstablishedLegs) (side : Side) (c : Call) (output : StepOutput) → Opens c → Quiet output → Good (after_ack_timeout config at x side c output)
  unacknowledged_good at x side c output k had =
      over_established_good at x c (with_bye_to config x side (with_ack_and_bye config x (other_side side) output)) k
      (bye_to_in x side (with_ack_and_bye config x (other_side side) output) (acked_remaining_in x (other_side side) output had))

  bye_before_good : (at : ℕ) (x : EstablishedLegs) (waiting : Side) (success : Success) (side : Side) (c : Call) (output : StepOutput) → Opens c → Quiet output →
      Good (after_bye_before_ack config at x waiting success side c output)
  bye_before_good at x waiting success side c output k had =
      if_good (is_same_side waiting side) (established_call_end at x c (with_ack_and_bye config x (other_side side) output)) (step_result (at_stage x (Departing waiting success) c) output)
      (over_established_good at x c (with_ack_and_bye config x (other_side side) output) k (acked_remaining_in x (other_side side) output had))
      (staged_good x (Departing waiting success) c output k had)

  -- an INVITE is relayed

  asked_across_good : (x : EstablishedLegs) (side : Side) (key : TKey) (m : MessageView) (c : Call) (output : StepOutput) → Opens c → Quiet output → Good (after_invite_across config x side key m c output)
  asked_across_good x side key m c output k had = good (after_invite_across config x side key m c output) k (emit_in _ (after_draw output) refl (drew_in true output had))

  invited_good : (x : EstablishedLegs) (side : Side) (key : TKey) (m : MessageView) (c : Call) (output : StepOutput) → Opens c → Quiet output → Good (on_reinvite config x side key m c output)
  invited_good x side key m c output k had = asked_across_good x side key m c (with_status_to config c key m 100 output) k (replied_in c key m 100 output had)

  -- and the responses to it are relayed back

  relayed_back_in : (x : EstablishedLegs) (side : Side) (q : Reinvite) (m : MessageView) (c : Call) (output : StepOutput) → Quiet output → Quiet (with_relayed_back config x side q m c output)
  relayed_back_in x side q m c output had = emit_in _ output refl had

  proceeding_across_good : (x : EstablishedLegs) (side : Side) (q : Reinvite) (key : TKey) (c : Call) (output : StepOutput) → Opens c → Quiet output → Good (on_provisional_across config x side q key c output)
  proceeding_across_good x side q key c output k had =
      staged_good x (Reinviting side (reinvite_after_provisional key q)) c (with_cancel_if_due config key q output) k
      (if_output q.cancel_due (with_due_cancel config.sip (with_provisional key q.invite) output) output (cancelled_in (with_provisional key q.invite) output had) had)

  agreed_agrees : (at : ℕ) (x : EstablishedLegs) (side : Side) (q : Reinvite) (key : TKey) (m : MessageView) (c : Call) (output : StepOutput) → is_success (status_of m.parsed.start) ≡ true → Opens c → Quiet output →
      Agrees at m (on_accepted_reinvite config at x side q key m c output)
  unfolding response
  agreed_agrees at x side q key m c output is k had = passes_on at m _ c (on_accepted_reinvite config at x side q key m c output).call output refl is k (ap next_number k.0) k.1 had

  refused_back_in : (x : EstablishedLegs) (side : Side) (q : Reinvite) (key : TKey) (m : MessageView) (c : Call) (output : StepOutput) → Quiet output → Quiet (with_refusal_back config x side q key m c output)
  refused_back_in x side q key m c output had = relayed_back_in x side q m c (with_final_ack config.sip key q.invite m.parsed output) (final_acked_in key q.invite m.parsed output had)

  bye_both_in : (x : EstablishedLegs) (output : StepOutput) → Quiet output → Quiet (with_byes config x output)
  bye_both_in x output had = bye_to_in x Callee (with_bye_to config x Caller output) (bye_to_in x Caller output had)

  across_goes : (at : ℕ) (x : EstablishedLegs) (side : Side) (q : Reinvite) (key : TKey) (m : MessageView) (c : Call) (output : StepOutput) → Opens c → NoSuccess output →
      Goes at (received_of m) (on_response_across config at x side q key m (status_of m.parsed.start) c output)
  across_goes at x side q key m c output k is =
      let code : ℕ = status_of m.parsed.start in
      let had : Quiet output = quiet_of output is in
      let back : StepOutput = with_refusal_back config x side q key m c output in
      let told : Quiet back = refused_back_in x side q key m c output had in
      goes_if at (received_of m) (nat_lt code 200) (on_provisional_across config x side q key c output) _
      (λ low. ReceivesNone (none_of m (low_status code low)) (proceeding_across_good x side q key c output k had))
      (λ above. goes_if at (received_of m) (nat_lt code 300) (on_accepted_reinvite config at x side q key m c output)
      (if ends_dialog code then established_call_end at x c (with_byes config x back) else step_result (at_stage x Stable c) back)
      (λ below. let yes = success_status code above below in Passes m (some_of m yes) (agreed_agrees at x side q key m c output yes k had))
      (λ beyond. ReceivesNone (none_of m (high_status code beyond)) (if_good (ends_dialog code) (established_call_end at x c (with_byes config x back)) (step_result (at_stage x Stable c) back)
      (over_established_good at x c (with_byes config x back) k (bye_both_in x back told)) (staged_good x Stable c back k told))))

  timed_out_across_good : (at : ℕ) (x : EstablishedLegs) (q : Reinvite) (c : Call) (output : StepOutput) → Opens c → Quiet output → Good (on_timeout_across config at x q c output)
  timed_out_across_good at x q c output k had =
      over_established_good at x c (with_byes config x (with_status_to config c q.key q.request 408 output)) k
      (bye_both_in x (with_status_to config c q.key q.request 408 output) (replied_in c q.key q.request 408 output had))

  cancelled_across_good : (x : EstablishedLegs) (side : Side) (q : Reinvite) (c : Call) (output : StepOutput) → Opens c → Quiet output → Good (on_cancel_across config x side q c output)
  cancelled_across_good x side q c output k had =
      staged_good x (Reinviting side (reinvite_after_cancel q)) c (with_due_cancel config.sip q.invite output) k (cancelled_in q.invite output had)

  bye_while_good : (at : ℕ) (x : EstablishedLegs) (asking : Side) (q : Reinvite) (leaving : Side) (c : Call) (output : StepOutput) → Opens c → Quiet output → Good (on_bye_reinviting config at x asking q leaving c output)
  bye_while_good at x asking q leaving c output k had =
      over_established_good at x (with_abandoned (abandoned_across x asking leaving q) c) (with_bye_to config x (other_side leaving) (with_status_to config c q.key q.request 487 output))
      k
      (bye_to_in x (other_side leaving) (with_status_to config c q.key q.request 487 output) (replied_in c q.key q.request 487 output had))

  expired_good : (at : ℕ) (x : EstablishedLegs) (c : Call) (output : StepOutput) → Opens c → Quiet output → Good (after_expiry config at x c output)
  expired_good at x c output k had = over_established_good at x c (with_byes config x output) k (bye_both_in x output had)

  expired_reinviting_good : (at : ℕ) (x : EstablishedLegs) (asking : Side) (q : Reinvite) (c : Call) (output : StepOutput) → Opens c → Quiet output → Good (after_expiry_reinviting config at x asking q c output)
  expired_reinviting_good at x asking q c output k had =
      over_established_good at x (with_abandoned (abandoned_across x asking asking q) c) (with_byes config x (with_status_to config c q.key q.request 487 output))
      k
      (bye_both_in x (with_status_to config c q.key q.request 487 output) (replied_in c q.key q.request 487 output had))

  -- by stage

  invite_transition : (stage : Stage) (x : EstablishedLegs) (side : Side) (key : TKey) (m : MessageView) (c : Call) (output : StepOutput) → Opens c → Quiet output →
      Good (on_invite stage config x side key m (established x stage c) output)
  invite_transition (Answered waiting success) x side key m c output k had = staged_good x (Answered waiting success) c output k had
  invite_transition (Departing waiting success) x side key m c output k had = staged_good x (Departing waiting success) c output k had
  invite_transition Stable x side key m c output k had = invited_good x side key m (established x Stable c) output k had
  invite_transition (Reinviting asking q) x side key m c output k had = staged_good x (Reinviting asking q) c output k had

  left_transition : (stage : Stage) (at : ℕ) (x : EstablishedLegs) (side : Side) (m : MessageView) (c : Call) (output : StepOutput) → Opens c → Quiet output → Good (after_bye_at stage config at x side m c output)
  left_transition (Answered waiting success) at x side m c output k had = bye_before_good at x waiting success side c output k had
  left_transition (Departing waiting success) at x side m c output k had = over_established_good at x c output k had
  left_transition Stable at x side m c output k had =
      over_established_good at x c (with_relayed_request config.sip (codes "BYE") (leg_of (other_side side) x).dialogue (copied_across config c x side m) m.parsed output) k
      (bye_for (leg_of (other_side side) x).dialogue (copied_across config c x side m) m.parsed output had)
  left_transition (Reinviting asking q) at x side m c output k had = bye_while_good at x asking q side c output k had

  bye_transition : (stage : Stage) (at : ℕ) (x : EstablishedLegs) (side : Side) (key : TKey) (m : MessageView) (c : Call) (output : StepOutput) → Opens c → Quiet output →
      Good (on_bye stage config at x side key m (established x stage c) output)
  bye_transition stage at x side key m c output k had =
      if_good (has_departed stage side) (step_result (established x stage c) (with_status_to config (established x stage c) key m 481 output))
      (after_bye_at stage config at x side m (established x stage c) (with_status_to config (established x stage c) key m 200 output))
      (staged_good x stage c (with_status_to config (established x stage c) key m 481 output) k (replied_in (established x stage c) key m 481 output had))
      (left_transition stage at x side m (established x stage c) (with_status_to config (established x stage c) key m 200 output) k (replied_in (established x stage c) key m 200 output had))

  update_at_transition : (stage : Stage) (x : EstablishedLegs) (side : Side) (key : TKey) (m : MessageView) (c : Call) (output : StepOutput) → Opens c → Quiet output →
      Good (on_update_at stage config x side key m c output)
  update_at_transition (Answered waiting success) x side key m c output k had = crossing_good key m c output k had
  update_at_transition (Departing waiting success) x side key m c output k had = crossing_good key m c output k had
  update_at_transition Stable x side key m c output k had =
      unless_updating_good (updating_side c.relayed) (on_stable_update config x side key m) side key m c output k had
      (good (on_stable_update config x side key m c output) k (sent_in true _ (after_draw output) refl refl (drew_in true output had)))
  update_at_transition (Reinviting asking q) x side key m c output k had = crossing_good key m c output k had

  rest_at_transition : (key : TKey) (m : MessageView) (c : Call) (output : StepOutput) → Opens c → Quiet output →
      Good (if is_prack m then on_refused_prack config key m c output else step_result c (with_unlisted_response config c key m output))
  rest_at_transition key m c output k had =
      if_good (is_prack m) (on_refused_prack config key m c output) (step_result c (with_unlisted_response config c key m output)) (prack_refused_good key m c output k had)
      (onward_good c (with_unlisted_response config c key m output) k (unlisted_in c key m output had))

  received_at_transition : (stage : Stage) (at : ℕ) (x : EstablishedLegs) (side : Side) (key : TKey) (m : MessageView) (c : Call) (output : StepOutput) → Opens c → Quiet output →
      Good (on_valid_request_at stage config at x side key m (established x stage c) output)
  received_at_transition stage at x side key m c output k had =
      let d : Call = established x stage c in
      if_good (is_invite m) (on_invite stage config x side key m d output) _ (invite_transition stage x side key m c output k had)
      (if_good (is_bye m) (on_bye stage config at x side key m d output) _ (bye_transition stage at x side key m c output k had)
      (if_good (is_update m) (on_update_at stage config x side key m d output) _ (update_at_transition stage x side key m d output k had) (rest_at_transition key m d output k had)))

  request_at_if_transition : (r : Result (Unit {0}) DialogueFault) (stage : Stage) (at : ℕ) (x : EstablishedLegs) (side : Side) (key : TKey) (m : MessageView) (c : Call) (output : StepOutput) →
      Opens c → Quiet output → Good (on_request_at_if r stage config at x side key m (established x stage c) output)
  request_at_if_transition (Ok received) stage at x side key m c output k had = received_at_transition stage at (with_leg side (leg_after_receiving (leg_of side x) m) x) side key m c output k had
  request_at_if_transition (Err fault) stage at x side key m c output k had =
      staged_good x stage c (with_refused_request config (established x stage c) key m fault output) k (refused_request_in (established x stage c) key m fault output had)

  request_at_transition : (stage : Stage) (at : ℕ) (x : EstablishedLegs) (side : Side) (key : TKey) (m : MessageView) (c : Call) (output : StepOutput) → Opens c → Quiet output →
      Good (on_request_at stage config at x side key m (established x stage c) output)
  request_at_transition stage at x side key m c output k had = request_at_if_transition (request_check (leg_of side x) m (busy_in stage side)) stage at x side key m c output k had

  ack_at_transition : (stage : Stage) (at : ℕ) (x : EstablishedLegs) (side : Side) (m : MessageView) (c : Call) (output : StepOutput) → Opens c → Quiet output →
      Good (on_ack_at stage config at x side m (established x stage c) output)
  ack_at_transition (Answered waiting success) at x side m c output k had =
      if_good (acknowledges waiting success side m) (after_ack_across config x side success m (established x (Answered waiting success) c) output) (step_result (established x (Answered waiting success) c) output)
      (acked_across_good x side success m (established x (Answered waiting success) c) output k had) (staged_good x (Answered waiting success) c output k had)
  ack_at_transition (Departing waiting success) at x side m c output k had =
      if_good (acknowledges waiting success side m) (after_departure config at x side (established x (Departing waiting success) c) output) (step_result (established x (Departing waiting success) c) output)
      (parted_good at x side (established x (Departing waiting success) c) output k had) (staged_good x (Departing waiting success) c output k had)
  ack_at_transition Stable at x side m c output k had = staged_good x Stable c output k had
  ack_at_transition (Reinviting asking q) at x side m c output k had = staged_good x (Reinviting asking q) c output k had

  cancel_at_transition : (stage : Stage) (x : EstablishedLegs) (invite : TKey) (c : Call) (output : StepOutput) → Opens c → Quiet output → Good (on_cancel_at stage config x invite (established x stage c) output)
  cancel_at_transition (Answered waiting success) x invite c output k had = staged_good x (Answered waiting success) c output k had
  cancel_at_transition (Departing waiting success) x invite c output k had = staged_good x (Departing waiting success) c output k had
  cancel_at_transition Stable x invite c output k had = staged_good x Stable c output k had
  cancel_at_transition (Reinviting asking q) x invite c output k had =
      if_good (invite.0 == q.key.0) (on_cancel_across config x asking q (established x (Reinviting asking q) c) output) (step_result (established x (Reinviting asking q) c) output)
      (cancelled_across_good x asking q (established x (Reinviting asking q) c) output k had) (staged_good x (Reinviting asking q) c output k had)

  nothing_said : (c : Call) (output : StepOutput) → Opens c → NoSuccess output → Stays false (step_result c output)
  nothing_said c output k unsaid = record { call_in = k; output_in = unsaid }

  response_at_goes : (stage : Stage) (at : ℕ) (x : EstablishedLegs) (key : TKey) (m : MessageView) (c : Call) (output : StepOutput) → Opens c → NoSuccess output →
      Goes at (received_of m) (on_response_at stage config at x key m (established x stage c) output)
  response_at_goes (Answered waiting success) at x key m c output k is = SaysNone (nothing_said (established x (Answered waiting success) c) output k is)
  response_at_goes (Departing waiting success) at x key m c output k is = SaysNone (nothing_said (established x (Departing waiting success) c) output k is)
  response_at_goes Stable at x key m c output k is = SaysNone (nothing_said (established x Stable c) output k is)
  response_at_goes (Reinviting asking q) at x key m c output k is = across_goes at x asking q key m (established x (Reinviting asking q) c) output k is

  timeout_at_transition : (stage : Stage) (at : ℕ) (x : EstablishedLegs) (c : Call) (output : StepOutput) → Opens c → Quiet output → Good (on_timeout_at stage config at x (established x stage c) output)
  timeout_at_transition (Answered waiting success) at x c output k had = staged_good x (Answered waiting success) c output k had
  timeout_at_transition (Departing waiting success) at x c output k had = staged_good x (Departing waiting success) c output k had
  timeout_at_transition Stable at x c output k had = staged_good x Stable c output k had
  timeout_at_transition (Reinviting asking q) at x c output k had = timed_out_across_good at x q (established x (Reinviting asking q) c) output k had

  rung_transition : (stage : Stage) (at : ℕ) (x : EstablishedLegs) (c : Call) (output : StepOutput) → Opens c → Quiet output → Good (after_timer_at stage config at x (established x stage c) output)
  rung_transition (Answered waiting success) at x c output k had = unacknowledged_good at x waiting (established x (Answered waiting success) c) output k had
  rung_transition (Departing waiting success) at x c output k had = parted_good at x waiting (established x (Departing waiting success) c) output k had
  rung_transition Stable at x c output k had = expired_good at x (established x Stable c) output k had
  rung_transition (Reinviting asking q) at x c output k had = expired_reinviting_good at x asking q (established x (Reinviting asking q) c) output k had

  due_at_transition : (stage : Stage) (at : ℕ) (x : EstablishedLegs) (what : DueWord) (c : Call) (output : StepOutput) → Opens c → Quiet output → Good (on_due_at stage config at x what (established x stage c) output)
  due_at_transition stage at x what c output k had =
      if_good (is_due_at stage c.successes what) (after_timer_at stage config at x (established x stage c) output) (step_result (established x stage c) output)
      (rung_transition stage at x c output k had) (staged_good x stage c output k had)

  -- ---- INVITEs for which the call does not wait

  no_success : (s : StepResult) → Opens s.call → NoSuccess s.output → Stays false s
  no_success s k had = record { call_in = k; output_in = had }

  onward_no_success : (c : Call) (output : StepOutput) → Opens c → NoSuccess output → Stays false (step_result c output)
  onward_no_success c output k had = no_success (step_result c output) k had

  if_no_success : (b : Bool) (one two : StepResult) → Stays false one → Stays false two → Stays false (if b then one else two)
  if_no_success true one two e f = e
  if_no_success false one two e f = f

  if_rest : (b : Bool) (one two : AfterResponse) → NoSuccess one.output → NoSuccess two.output → NoSuccess (if b then one else two).output
  if_rest true one two e f = e
  if_rest false one two e f = f

  late_rest : (l : AbandonedInvite) (output : StepOutput) → NoSuccess output → NoSuccess (after_due_cancel config.sip l output).output
  late_rest l output had =
      if_rest l.invite.cancelled (record { remaining = Some l; output = output }) (record { remaining = Some (with_invite l (record l.invite { cancelled = true })); output = with_cancel config.sip l.invite output })
      had (any_cancel_in false l.invite output had)

  success_rest : (l : AbandonedInvite) (remote : Remote) (o : Option Dialogue) (output : StepOutput) → NoSuccess output → NoSuccess (on_success_in config.sip l remote o output).output
  success_rest l remote (Some d) output had = any_acked_in false d output had
  success_rest l remote None output had =
      let d : Dialogue = left_ones.dialogue_of_success l.in_dialog l.invite.early l.invite.early_cseq l.invite.dialogue remote in
      any_bye_in false d (with_ack config.sip d output) (any_acked_in false d output had)

  late_response : (key : TKey) (m : ParsedMessage) (l : AbandonedInvite) (output : StepOutput) → NoSuccess output → NoSuccess (left_ones.on_response config.sip key m l output).output
  late_response key m l output had =
      let said : AbandonedInvite = after_provisional key m l in
      let known : AbandonedInvite = with_invite l (with_key key l.invite) in
      if_rest (nat_lt (status_of m.start) 200) (after_due_cancel config.sip said output)
      (if nat_lt (status_of m.start) 300 then on_success config.sip known (remote_of Callee m.lines) output else record { remaining = None; output = with_final_ack config.sip key l.invite m output })
      (late_rest said output had)
      (if_rest (nat_lt (status_of m.start) 300) (on_success config.sip known (remote_of Callee m.lines) output) (record { remaining = None; output = with_final_ack config.sip key l.invite m output })
      (success_rest known (remote_of Callee m.lines) (ended_dialog known (remote_of Callee m.lines).tag) output had)
      (any_final_acked_in false key l.invite m output had))

  abandoned_transition : (key : TKey) (m : MessageView) (at : ℕ) (o : Option AbandonedInvite) (c : Call) (output : StepOutput) → Opens c → NoSuccess output → Stays false (on_response_abandoned config key m at o c output)
  abandoned_transition key m at None c output k had = onward_no_success c output k had
  abandoned_transition key m at (Some l) c output k had = no_success (on_response_abandoned config key m at (Some l) c output) k (late_response key m.parsed l output had)

  forked_transition : (key : TKey) (m : MessageView) (at : ℕ) (t : AnsweredInvite) (c : Call) (output : StepOutput) → Opens c → NoSuccess output → Stays false (on_forked_response config key m at t c output)
  forked_transition key m at t c output k had = no_success (on_forked_response config key m at t c output) k (late_response key m.parsed (as_abandoned t) output had)

  acked_again_in : (t : AnsweredInvite) (o : Option (List ℕ)) (output : StepOutput) → NoSuccess output → NoSuccess (with_retransmitted_ack t o output)
  acked_again_in t None output had = had
  acked_again_in t (Some sample) output had = sent_in false _ output refl refl had

  answered_transition : (key : TKey) (m : MessageView) (at : ℕ) (o : Option AnsweredInvite) (c : Call) (output : StepOutput) → Opens c → NoSuccess output → Stays false (on_response_answered config key m at o c output)
  answered_transition key m at None c output k had = onward_no_success c output k had
  answered_transition key m at (Some t) c output k had =
      if_no_success (not (is_success (status_of m.parsed.start))) (step_result c output) (if is_fork t m then on_forked_response config key m at t c output else on_retransmitted_success t c output)
      (onward_no_success c output k had)
      (if_no_success (is_fork t m) (on_forked_response config key m at t c output) (on_retransmitted_success t c output) (forked_transition key m at t c output k had)
      (onward_no_success c (if is_stable c.phase then with_retransmitted_ack t t.invite.ack output else output) k
      (if_adds false (is_stable c.phase) (with_retransmitted_ack t t.invite.ack output) output (acked_again_in t t.invite.ack output had) had)))

  -- ---- requests in flight

  -- the 2xx of an UPDATE is relayed, and the deadline that is armed for it
  updates_on : (at : ℕ) (m : MessageView) (e : Emit) (c d : Call) (output : StepOutput) → expiry_of own e ≡ [] → is_accepted e ≡ true → Opens c → d.successes ≡ next_number count → d.opening.number ≡ own → Quiet output →
      Agrees at m (record { call = d; output = with_expiry_timer config at m c (with_emit e output) })
  updates_on at m e c d output quiet said k number opening had =
      let armed : List Emit = expiries config.timer at m c in
      record {
        number = number;
        opening = opening;
        new = had.new ++ e ∷ armed;
        out = ap (λ l. (l ++ e ∷ []) ++ armed) had.out ∙ ap (λ l. l ++ armed) (append_assoc before had.new (e ∷ [])) ∙ append_assoc before (had.new ++ e ∷ []) armed
            ∙ ap (λ l. before ++ l) (append_assoc had.new (e ∷ []) armed);
        armed = expiries_append own had.new (e ∷ armed) ∙ (λ i. had.none i ++ (quiet i ++ expiry_observed config.timer (expiry_interval_of m.parsed.session) at c k i));
        accepted = any_append had.new (e ∷ armed) ∙ ap (λ b. list_any is_accepted had.new || (b || list_any is_accepted armed)) said ∙ or_true (list_any is_accepted had.new);
      }
    where
      or_true : (b : Bool) → (b || true) ≡ true
      or_true true = refl
      or_true false = refl

  update_agrees : (at : ℕ) (flight : RelayedTransaction) (m : MessageView) (c : Call) (output : StepOutput) → is_success (status_of m.parsed.start) ≡ true → Opens c → Quiet output →
      Agrees at m (in_flight.on_accepted_in_flight Update config at flight.side flight.exchange.request m c (in_flight.with_response_back config flight m c output))
  unfolding response
  update_agrees at flight m c output is k had =
      updates_on at m _ c (in_flight.call_after_update flight.side flight.exchange.request c) output refl is k (ap next_number k.0) k.1 had

  -- a 2xx to a PRACK does not count
  abbrev received_in : RelayedKind → MessageView → Option MessageView
  received_in kind m = if not (not (in_flight.is_update_of kind)) && is_success (status_of m.parsed.start) then Some m else None

  kind_goes : (kind : RelayedKind) (at : ℕ) (flight : RelayedTransaction) (m : MessageView) (place : ℕ) (c : Call) (output : StepOutput) → Opens c → NoSuccess output →
      let gone = in_flight.without_transaction place c in
      let back = in_flight.with_response_back config flight m gone output in
      Goes at (received_in kind m)
      (if nat_lt (status_of m.parsed.start) 200 then step_result c output
      else if is_success (status_of m.parsed.start) then in_flight.on_accepted_in_flight kind config at flight.side flight.exchange.request m gone back else step_result gone back)
  kind_goes Prack at flight m place c output k unsaid =
      let gone : Call = in_flight.without_transaction place c in
      let back : StepOutput = in_flight.with_response_back config flight m gone output in
      let told : Good (step_result gone back) = onward_good gone back k (emit_in _ output refl (quiet_of output unsaid)) in
      ReceivesNone refl
      (if_good (nat_lt (status_of m.parsed.start) 200) (step_result c output) (if is_success (status_of m.parsed.start) then step_result gone back else step_result gone back)
      (onward_good c output k (quiet_of output unsaid))
      (if_good (is_success (status_of m.parsed.start)) (step_result gone back) (step_result gone back) told told))
  kind_goes Update at flight m place c output k unsaid =
      let gone : Call = in_flight.without_transaction place c in
      let back : StepOutput = in_flight.with_response_back config flight m gone output in
      goes_if at (received_of m) (nat_lt (status_of m.parsed.start) 200) (step_result c output) _ (λ low. SaysNone (nothing_said c output k unsaid))
      (λ above. goes_if at (received_of m) (is_success (status_of m.parsed.start)) (in_flight.on_accepted_in_flight Update config at flight.side flight.exchange.request m gone back) (step_result gone back)
      (λ yes. Passes m (some_of m yes) (update_agrees at flight m gone output yes k (quiet_of output unsaid)))
      (λ no. ReceivesNone (none_of m no) (onward_good gone back k (emit_in _ output refl (quiet_of output unsaid)))))

  relayed_goes : (at : ℕ) (m : MessageView) (place : ℕ) (o : Option RelayedTransaction) (c : Call) (output : StepOutput) → Opens c → NoSuccess output →
      Goes at (if not (is_prack_in o) && is_success (status_of m.parsed.start) then Some m else None) (in_flight.on_response_relayed config at m (status_of m.parsed.start) place o c output)
  relayed_goes at m place None c output k unsaid = SaysNone (nothing_said c output k unsaid)
  relayed_goes at m place (Some flight) c output k unsaid = kind_goes flight.kind at flight m place c output k unsaid

  in_flight_goes : (at : ℕ) (m : MessageView) (o : Option ℕ) (c : Call) (output : StepOutput) → Opens c → NoSuccess output →
      Goes at (if not (is_prack_at o c.relayed) && is_success (status_of m.parsed.start) then Some m else None) (in_flight.on_response_in_flight config at m o c output)
  in_flight_goes at m None c output k unsaid = SaysNone (nothing_said c output k unsaid)
  in_flight_goes at m (Some place) c output k unsaid = relayed_goes at m place (slice_get c.relayed place) c output k unsaid

  -- the response to a request for which the call does not wait, of this branch
  abbrev received_at : (branch : List ℕ) → MessageView → Call → Option MessageView
  received_at branch m c = if not (is_prack_at (position (in_flight.is_in_flight branch) c.relayed) c.relayed) && is_success (status_of m.parsed.start) then Some m else None

  answered_at_goes : (at : ℕ) (key : TKey) (m : MessageView) (branch : List ℕ) (o : Option ℕ) (c : Call) (output : StepOutput) → Opens c → NoSuccess output →
      Goes at (received_at branch m c) (on_response_answered_at config at key m branch o c output)
  answered_at_goes at key m branch None c output k unsaid = in_flight_goes at m (position (in_flight.is_in_flight branch) c.relayed) c output k unsaid
  answered_at_goes at key m branch (Some place) c output k unsaid = SaysNone (answered_transition key m place (slice_get c.answered_invites place) c output k unsaid)

  at_goes : (at : ℕ) (key : TKey) (m : MessageView) (branch : List ℕ) (o : Option ℕ) (c : Call) (output : StepOutput) → Opens c → NoSuccess output →
      Goes at (received_at branch m c) (on_other_response_at config at key m branch o c output)
  at_goes at key m branch None c output k unsaid = answered_at_goes at key m branch (position (is_answered_invite branch) c.answered_invites) c output k unsaid
  at_goes at key m branch (Some place) c output k unsaid = SaysNone (abandoned_transition key m place (slice_get c.abandoned place) c output k unsaid)

  other_goes : (at : ℕ) (key : TKey) (m : MessageView) (branch : List ℕ) (c : Call) (output : StepOutput) → Opens c → NoSuccess output →
      Goes at (received_at branch m c) (on_other_response config at key m branch c output)
  unfolding on_other_response
  other_goes at key m branch c output k unsaid = at_goes at key m branch (position (is_of_branch branch) c.abandoned) c output k unsaid

  timed_out_relayed_good : (place : ℕ) (o : Option RelayedTransaction) (c : Call) (output : StepOutput) → Opens c → Quiet output → Good (in_flight.on_timeout_relayed config place o c output)
  timed_out_relayed_good place None c output k had = onward_good c output k had
  timed_out_relayed_good place (Some flight) c output k had = onward_good (in_flight.without_transaction place c) _ k (emit_in _ output refl had)

  timed_out_in_flight_good : (o : Option ℕ) (c : Call) (output : StepOutput) → Opens c → Quiet output → Good (in_flight.on_timeout_in_flight config o c output)
  timed_out_in_flight_good None c output k had = onward_good c output k had
  timed_out_in_flight_good (Some place) c output k had = timed_out_relayed_good place (slice_get c.relayed place) c output k had

  timed_out_at_good : (branch : List ℕ) (o : Option ℕ) (c : Call) (output : StepOutput) → Opens c → Quiet output → Good (on_other_timeout_at config branch o c output)
  timed_out_at_good branch None c output k had = timed_out_in_flight_good (position (in_flight.is_in_flight branch) c.relayed) c output k had
  timed_out_at_good branch (Some place) c output k had = good (step_result (without_timed_out branch c) output) k had

  timed_out_transition : (branch : List ℕ) (c : Call) (output : StepOutput) → Opens c → Quiet output → Good (on_other_timeout config branch c output)
  timed_out_transition branch c output k had = timed_out_at_good branch (position (is_of_branch branch) c.abandoned) c output k had

  -- they are dismissed

  settled_in_output : (accepts : Bool) (phase : Phase) (c : Call) (output : StepOutput) → Adds accepts output → Adds accepts (in_flight.with_settled_in phase config c output)
  settled_in_output accepts (Offered x) c output had = settled_output accepts None c output had
  settled_in_output accepts (Established x stage) c output had = had
  settled_in_output accepts (Detached detached) c output had = had
  settled_in_output accepts (Over cause) c output had = had

  dismissed_in : (kind : RelayedKind) (flight : RelayedTransaction) (c : Call) (output : StepOutput) → NoSuccess output →
      NoSuccess (with_status_to config c flight.exchange.key flight.exchange.request (in_flight.dismissal_of kind) output)
  unfolding response
  dismissed_in Prack flight c output had = sent_in false _ output refl refl had
  dismissed_in Update flight c output had = sent_in false _ output refl refl had

  each_output : (c : Call) (flights : List RelayedTransaction) (output : StepOutput) → NoSuccess output → NoSuccess (in_flight.with_dismissals config c flights output)
  each_output c [] output had = had
  each_output c (flight ∷ flights) output had = each_output c flights (in_flight.with_dismissal config c flight output) (dismissed_in flight.kind flight c output had)

  dismissing_output : (c : Call) (output : StepOutput) → NoSuccess output → NoSuccess (in_flight.output_after_dismissal config c output)
  dismissing_output c output had =
      settled_in_output false c.phase c (in_flight.with_all_dismissals config c output)
      (each_output c (filter in_flight.is_updating c.relayed) _ (each_output c (filter (λ flight. not (in_flight.is_updating flight)) c.relayed) output had))

  key_transition : (key : TKey) (c : Call) (output : StepOutput) → Opens c → Quiet output → Good (step_result (without_key key c) output)
  key_transition key c output k had = good (step_result (without_key key c) output) k had

  -- ---- the table, by phase

  abbrev at_phase : Phase → Call → Call
  at_phase phase c = record c { phase = phase }

  response_in_goes : (phase : Phase) (now : SnapshotView) (key : TKey) (m : MessageView) (c : Call) (output : StepOutput) → Opens c → NoSuccess output →
      Goes now.at (received_of m) (response_in phase config now key m (at_phase phase c) output)
  response_in_goes (Offered x) now key m c output k is = response_goes now x key m (at_phase (Offered x) c) output k is
  response_in_goes (Established x stage) now key m c output k is = response_at_goes stage now.at x key m c output k is
  response_in_goes (Detached detached) now key m c output k is = SaysNone (nothing_said (at_phase (Detached detached) c) output k is)
  response_in_goes (Over cause) now key m c output k is = SaysNone (nothing_said (at_phase (Over cause) c) output k is)

  timeout_good : (phase : Phase) (now : SnapshotView) (c : Call) (output : StepOutput) → Opens c → Quiet output → Good (timeout_in phase config now (at_phase phase c) output)
  timeout_good (Offered x) now c output k had = timeout_transition now x c output k had
  timeout_good (Established x stage) now c output k had = timeout_at_transition stage now.at x c output k had
  timeout_good (Detached detached) now c output k had = onward_good (at_phase (Detached detached) c) output k had
  timeout_good (Over cause) now c output k had = onward_good (at_phase (Over cause) c) output k had

  request_good : (phase : Phase) (at : ℕ) (side : Side) (key : TKey) (m : MessageView) (c : Call) (output : StepOutput) → Opens c → Quiet output → Good (request_in phase config at side key m (at_phase phase c) output)
  request_good (Offered x) at side key m c output k had = request_transition at x side key m c output k had
  request_good (Established x stage) at side key m c output k had = request_at_transition stage at x side key m c output k had
  request_good (Detached detached) at side key m c output k had = onward_good (at_phase (Detached detached) c) output k had
  request_good (Over cause) at side key m c output k had = onward_good (at_phase (Over cause) c) output k had

  ack_good : (phase : Phase) (at : ℕ) (side : Side) (m : MessageView) (c : Call) (output : StepOutput) → Opens c → Quiet output → Good (ack_in phase config at side m (at_phase phase c) output)
  ack_good (Offered x) at side m c output k had = onward_good (at_phase (Offered x) c) output k had
  ack_good (Established x stage) at side m c output k had = ack_at_transition stage at x side m c output k had
  ack_good (Detached detached) at side m c output k had = onward_good (at_phase (Detached detached) c) output k had
  ack_good (Over cause) at side m c output k had = onward_good (at_phase (Over cause) c) output k had

  cancel_good : (phase : Phase) (at : ℕ) (key : TKey) (m : MessageView) (invite : TKey) (c : Call) (output : StepOutput) → Opens c → Quiet output → Good (cancel_in phase config at key m invite (at_phase phase c) output)
  cancel_good (Offered x) at key m invite c output k had = cancel_transition at x key m invite c output k had
  cancel_good (Established x stage) at key m invite c output k had =
      cancel_at_transition stage x invite c (with_status_to config (at_phase (Established x stage) c) key m 200 output) k (replied_in (at_phase (Established x stage) c) key m 200 output had)
  cancel_good (Detached detached) at key m invite c output k had = onward_good (at_phase (Detached detached) c) output k had
  cancel_good (Over cause) at key m invite c output k had = onward_good (at_phase (Over cause) c) output k had

  due_good : (phase : Phase) (now : SnapshotView) (what : DueWord) (c : Call) (output : StepOutput) → Opens c → Quiet output → Good (due_in phase config now what (at_phase phase c) output)
  due_good (Offered x) now what c output k had = due_transition now x what c output k had
  due_good (Established x stage) now what c output k had = due_at_transition stage now.at x what c output k had
  due_good (Detached detached) now what c output k had = onward_good (at_phase (Detached detached) c) output k had
  due_good (Over cause) now what c output k had = onward_good (at_phase (Over cause) c) output k had

  answer_either : (current : Bool) (branch : List ℕ) (now : SnapshotView) (key : TKey) (m : MessageView) (c : Call) (output : StepOutput) → Opens c → NoSuccess output →
      Goes now.at (if not (not current && is_prack_at (position (in_flight.is_in_flight branch) c.relayed) c.relayed) && is_success (status_of m.parsed.start) then Some m else None)
      (if current then response_in c.phase config now key m c output else on_other_response config now.at key m branch c output)
  answer_either true branch now key m c output k unsaid = response_in_goes c.phase now key m c output k unsaid
  answer_either false branch now key m c output k unsaid = other_goes now.at key m branch c output k unsaid

  answer_goes : (branch : Option (List ℕ)) (now : SnapshotView) (key : TKey) (m : MessageView) (c : Call) (output : StepOutput) → Opens c → NoSuccess output →
      Goes now.at (success_to branch m c) (on_response_to branch config now key m c output)
  answer_goes None now key m c output k unsaid = SaysNone (nothing_said c output k unsaid)
  answer_goes (Some branch) now key m c output k unsaid = answer_either (is_current branch c) branch now key m c output k unsaid

  timeout_of_good : (branch : Option (List ℕ)) (now : SnapshotView) (c : Call) (output : StepOutput) → Opens c → Quiet output → Good (on_timeout_of branch config now c output)
  timeout_of_good None now c output k had = onward_good c output k had
  timeout_of_good (Some branch) now c output k had =
      if_good (is_current branch c) (timeout_in c.phase config now c output) (on_other_timeout config branch c output) (timeout_good c.phase now c output k had) (timed_out_transition branch c output k had)

  transition_goes : (now : SnapshotView) (received : Signal) (c : Call) (output : StepOutput) → Opens c → NoSuccess output → Goes now.at (success_received received c) (transition config now received c output)
  unfolding transition
  transition_goes now (signal.Request side key request) c output k unsaid = ReceivesNone refl (request_good c.phase now.at side key request c output k (quiet_of output unsaid))
  transition_goes now (signal.Ack side ack) c output k unsaid = ReceivesNone refl (ack_good c.phase now.at side ack c output k (quiet_of output unsaid))
  transition_goes now (signal.Cancel key cancel invite) c output k unsaid = ReceivesNone refl (cancel_good c.phase now.at key cancel invite c output k (quiet_of output unsaid))
  transition_goes now (signal.Answer key response) c output k unsaid = answer_goes (awaited_request_branch response) now key response c output k unsaid
  transition_goes now (signal.Silent branch method) c output k unsaid = ReceivesNone refl (timeout_of_good (timed_out_branch branch method) now c output k (quiet_of output unsaid))
  transition_goes now (signal.Due what) c output k unsaid = ReceivesNone refl (due_good c.phase now what c output k (quiet_of output unsaid))
  transition_goes now (signal.Ended key) c output k unsaid = ReceivesNone refl (key_transition key c output k (quiet_of output unsaid))

  -- in a step that ends the attempt without a 2xx, or the call, the call waits for the response that is received, so that is none to a PRACK
  leaving_received : (received : Signal) (c : Call) → leaves received c ≡ true → success_received received (in_flight.without_in_flight c) ≡ success_received received c
  leaving_received (signal.Request side key request) c is = refl
  leaving_received (signal.Ack side ack) c is = refl
  leaving_received (signal.Cancel key cancel invite) c is = refl
  leaving_received (signal.Answer key response) c is = by (awaited_request_branch response) is
    where
      current : (b : Bool) (on : Bool) → (b && on) ≡ true → b ≡ true
      current true on e = refl
      current false on e = absurd cc

      waited : (b : Bool) (flights : Bool) → b ≡ true →
          (if not (not b && false) && is_success (status_of response.parsed.start) then Some response else None)
          ≡ (if not (not b && flights) && is_success (status_of response.parsed.start) then Some response else None)
      waited true flights e = refl
      waited false flights e = absurd cc

      by : (branch : Option (List ℕ)) → leaves_on_response branch response c ≡ true → success_to branch response (in_flight.without_in_flight c) ≡ success_to branch response c
      by None e = refl
      by (Some branch) e = waited (is_current branch c) (is_prack_at (position (in_flight.is_in_flight branch) c.relayed) c.relayed)
          (current (is_current branch c) (leaves_on_status (status_of response.parsed.start) c.phase) e)
  leaving_received (signal.Silent branch method) c is = refl
  leaving_received (signal.Due what) c is = refl
  leaving_received (signal.Ended key) c is = refl

  goes_either : (b : Bool) (now : SnapshotView) (received : Signal) (c : Call) (output : StepOutput) → leaves received c ≡ b → Opens c → NoSuccess output →
      Goes now.at (success_received received c) (if b then transition config now received (in_flight.without_in_flight c) (in_flight.output_after_dismissal config c output) else transition config now received c output)
  goes_either true now received c output is k unsaid =
      subst (λ o. Goes now.at o (transition config now received (in_flight.without_in_flight c) (in_flight.output_after_dismissal config c output))) (leaving_received received c is)
      (transition_goes now received (in_flight.without_in_flight c) (in_flight.output_after_dismissal config c output) k (dismissing_output c output unsaid))
  goes_either false now received c output is k unsaid = transition_goes now received c output k unsaid

  pub step_goes : (now : SnapshotView) (received : Signal) (c : Call) (output : StepOutput) → Opens c → output.out ≡ before → Goes now.at (success_received received c) (step config now received c output)
  unfolding step
  step_goes now received c output k is = goes_either (leaves received c) now received c output refl k (nothing_yet false output is)

  -- ---- as it opens

  unless_refused_good : (cause : Option Cause) (now : SnapshotView) (caller : Leg) (c : Call) (output : StepOutput) → Opens c → Quiet output → Good (unless_refused cause config now caller c output)
  unless_refused_good None now caller c output k had = reach_good now caller None (initial_target c.opening) c output k had
  unless_refused_good (Some cause) now caller c output k had = refused_good now.at caller cause c output k had

  pub opened_good : (now : SnapshotView) (a : Arrival) (output : StepOutput) → 0 ≡ count → a.number ≡ own → output.out ≡ before → Good (call_after_opening config now a output)
  unfolding call_after_opening
  opened_good now a output none number is =
      let k : Opens (new_call config (opening_of config now (token output) a)) = (none, number) in
      let had : Quiet (after_draw output) = drew_in true output (nothing_yet true output is) in
      let c : Call = new_call config (opening_of config now (token output) a) in
      unless_refused_good (opening_refusal config now.at c.opening) now (caller_of now.at c) c (with_status_to_caller config c 100 (after_draw output)) k (status_in c 100 (after_draw output) had)

  -- ---- without a detached leg

  finished_in_good : (phase : Phase) (at : ℕ) (c : Call) (output : StepOutput) → Opens c → NoSuccess output → Good (finish_of_phase phase config at (at_phase phase c) output)
  finished_in_good (Offered x) at c output k had = onward_good (at_phase (Offered x) c) output k (quiet_of output had)
  finished_in_good (Established x stage) at c output k had = onward_good (at_phase (Established x stage) c) output k (quiet_of output had)
  finished_in_good (Detached detached) at c output k had =
      let before_it : StepOutput = in_flight.output_after_dismissal config (at_phase (Detached detached) c) output in
      over_good at causes.Ended _ _ (in_flight.without_in_flight (at_phase (Detached detached) c)) (with_bye config.sip (released_leg detached.remaining).dialogue before_it) k
      (bye_in (released_leg detached.remaining).dialogue before_it (quiet_of before_it (dismissing_output (at_phase (Detached detached) c) output had)))
  finished_in_good (Over cause) at c output k had = onward_good (at_phase (Over cause) c) output k (quiet_of output had)

  pub finished_good : (at : ℕ) (c : Call) (output : StepOutput) → Opens c → NoSuccess output → Good (call_finish config at c output)
  unfolding call_finish
  finished_good at c output k had = finished_in_good c.phase at c output k had

-- Each transition of the step table sends at most one INVITE, PRACK or UPDATE, with a number that is drawn for it; and the INVITEs of the call, and its requests in flight, were sent to their peers.
use Rattle.std.proofs.Common.{◌≡◌, ◌<◌, ◌≤◌, ◌^◌, ◌+◌, ◌==◌, ◌&&◌, Bool, true, false, not, ℕ, zero, suc, List, [], ◌∷◌, ◌++◌}
use Rattle.std.proofs.Common.{Option, Some, None, refl, sym, subst, inl, inr, arith, nat_lt, Result, Ok, Err, codes, append-nil}
use Rattle.std.specs.Prelude.{IfSome, if◌then◌else◌, option_to_list, position, slice_get}
use Rattle.std.specs.List.{filter}
use Rattle.std.specs.Str.{bytes_eq}
use Rattle.mmtel_compose.specs.Attempts.{alert_lines, invite_of}
use Rattle.mmtel_compose.specs.Requests.{bare_parts, cancel_of, own_parts, relayed_parts}
use Rattle.mmtel_compose.specs.ReceivedMessages.{MessageView, status_of}
use Rattle.mmtel_compose.specs.declared.attempts.Destination.{Destination}
use Rattle.mmtel_charging.specs.Meters.{MeterView}
use Rattle.mmtel_call_services.specs.Decisions.{decision_after, decision_at, destination_of, diversion_target, is_status, no_reply_time_of, peer_for, redirect_of, relayed_status, service_at, service_sheet}
use Rattle.mmtel_output.specs.ResponseMatching.{awaited_request_branch, is_awaited_method, timed_out_branch}
use Rattle.mmtel_call_services.specs.Opening.{initial_target, opening_of, opening_refusal}
use Rattle.mmtel_call_services.specs.Reliable.{rack_line, reliable_number}
use Rattle.mmtel_call_services.specs.Requests.{is_same_side}
use Rattle.mmtel_call_services.specs.CopiedHeaders.{attempt_lines, copied_lines}
use Rattle.mmtel_call_services.specs.CallConfig.{CallConfigView}
use Rattle.mmtel_call_services.specs.declared.openings.Arrival.{Arrival}
use Rattle.mmtel_call_services.specs.declared.openings.Service.{Service}
use Rattle.mmtel_call.specs.Answered.{acknowledges, after_ack_across, after_ack_timeout, after_bye_before_ack, after_departure, at_stage, copied_across, leg_of, with_ack_and_bye, with_bye_to, with_kept_ack, with_leg}
use Rattle.mmtel_call.specs.Closing.{StepResult, call_end, established_call_end, step_result, with_past}
use Rattle.mmtel_call.specs.Diverting.{after_attempt, at_target, call_after_diversion, call_refusal, diversion_refusal, diversion_step, diversion_unless_refused}
use Rattle.mmtel_call.specs.Diverting.{divert, is_diverted, on_end, on_next_step, reach, relayed_refusal, with_notification_of, with_unoffered_meter}
use Rattle.mmtel_call.specs.OtherRequests.{answered_after, as_abandoned, is_abandoned_key, is_answered_invite, is_answered_key, is_fork, is_stable, is_success, on_forked_response}
use Rattle.mmtel_call.specs.OtherRequests.{on_other_response, on_other_response_at, on_other_timeout, on_other_timeout_at, on_response_abandoned, on_response_answered}
use Rattle.mmtel_call.specs.OtherRequests.{on_response_answered_at, on_retransmitted_success, with_abandoned_rest, with_retransmitted_ack, without, without_at, without_key, without_timed_out}
use Rattle.mmtel_call.specs.RelayedTransactions as flying
use Rattle.mmtel_call.specs.RelayedTransactions.{call_after_update, dismissal_of, is_in_flight, is_updating, leg_after_request, on_final_relayed, on_response_in_flight, on_response_relayed}
use Rattle.mmtel_call.specs.RelayedTransactions.{on_timeout_in_flight, on_timeout_relayed, output_after_dismissal, relayed_transaction_of, updating_side, with_all_dismissals, with_dismissal}
use Rattle.mmtel_call.specs.RelayedTransactions.{with_dismissals, with_response_back, with_settled, with_settled_in, with_transaction, without_in_flight, without_transaction}
use Rattle.mmtel_call.specs.Detaching.{call_finish, finish_of_phase}
use Rattle.mmtel_call.specs.AttemptStarts.{attempt_dialog_of, attempt_start, max_attempt_time, next_attempt}
use Rattle.mmtel_call.specs.Opening.{call_after_opening, caller_of, new_call, unless_refused}
use Rattle.mmtel_call.specs.Reinvites.{abandoned_across, after_invite_across, ends_dialog, leg_after_invite, on_accepted_reinvite, on_bye_reinviting, on_cancel_across, on_provisional_across, on_reinvite}
use Rattle.mmtel_call.specs.Reinvites.{on_response_across, on_timeout_across, reinvite_after_cancel, reinvite_after_provisional, with_byes, with_cancel_if_due, with_refusal_back, with_relayed_back}
use Rattle.mmtel_call.specs.Reliable.{attempt_after_early_request, named_rseq, on_named_prack, on_rack, on_refused_prack, own_rseq_for, rack_in, status_of_refusal, with_reliable_response}
use Rattle.mmtel_call.specs.Requests.{is_bye, is_invite, is_prack, is_update, leg_after_receiving, request_check, with_refused_request, with_unlisted_response}
use Rattle.mmtel_call.specs.Ringing as ringing
use Rattle.mmtel_call.specs.Ringing.{on_answer, with_no_reply_timer, with_no_reply_timer_in, with_attempt_cancel, early_remote_of, on_failure, on_caller_cancel, end_before_answer}
use Rattle.mmtel_call.specs.Ringing.{attempt_after_request, call_without_attempt, abandoned_invite, leg_with_remote, on_cancel, on_due, on_valid_request, on_other, on_prack_of}
use Rattle.mmtel_call.specs.Ringing.{on_request, on_request_if, on_response, attempt_after_provisional, on_provisional_by, on_numbered_provisional, on_plain_provisional}
use Rattle.mmtel_call.specs.Ringing.{offered_request_check, on_timeout, new_answered_invite, on_attempt_timeout, on_trying, with_abandoned, with_expiry_timer, expiry_in}
use Rattle.mmtel_call.specs.Sending.{with_diversion_notification, with_relay_to_caller, with_status_to, with_status_to_caller}
use Rattle.mmtel_call.specs.Stages.{after_bye_at, after_timer_at, busy_in, has_departed, is_due_at, on_ack_at, on_bye, on_cancel_at}
use Rattle.mmtel_call.specs.Stages.{on_due_at, on_invite, on_request_at, on_request_at_if, on_response_at, on_timeout_at, on_valid_request_at}
use Rattle.mmtel_call.specs.Table.{ack_in, cancel_in, due_in, is_current, leaves, on_response_to, on_timeout_of, request_in, response_in, step, timeout_in, transition}
use Rattle.mmtel_call.specs.AttemptLeg.{AttemptLegView}
use Rattle.mmtel_call.specs.Updates.{accepts_updates, after_update_relay, attempt_after_update, on_early_retry, on_early_update, on_glare, on_stable_update, on_update, on_update_at, other_leg, unless_updating}
use Rattle.mmtel_call.specs.declared.calls.Attempt.{Attempt}
use Rattle.mmtel_call.specs.declared.calls.Call.{Call}
use Rattle.mmtel_call.specs.declared.calls.RelayedTransaction.{RelayedTransaction}
use Rattle.mmtel_call.specs.declared.calls.RelayedKind.{RelayedKind}
use Rattle.mmtel_call.specs.declared.calls.RelayedKind.TheVariants.{Prack, Update}
use Rattle.mmtel_call.specs.declared.calls.EstablishedLegs.{EstablishedLegs}
use Rattle.mmtel_call.specs.declared.calls.Phase.{Phase}
use Rattle.mmtel_call.specs.declared.calls.Phase.TheVariants.{Detached, Established, Offered, Over}
use Rattle.mmtel_call.specs.declared.calls.Reinvite.{Reinvite}
use Rattle.mmtel_call.specs.declared.calls.Stage.{Stage}
use Rattle.mmtel_call.specs.declared.calls.Stage.TheVariants.{Answered, Departing, Reinviting, Stable}
use Rattle.mmtel_call.specs.declared.calls.Success.{Success}
use Rattle.mmtel_call.specs.declared.calls.AnsweredInvite.{AnsweredInvite}
use Rattle.mmtel_call.specs.declared.calls.OfferedAttempt.{OfferedAttempt}
use Rattle.mmtel_call.specs.declared.signals.Signal.{Signal}
use Rattle.mmtel_call.specs.declared.signals.Signal.TheVariants as signal
use Rattle.mmtel_output.specs.Outputs.{after_draw, token, with_emit}
use Rattle.mmtel_output.specs.SentInvites.{invite_after_cancel, is_cancellable, with_key, with_provisional}
use Rattle.mmtel_output.specs.AbandonedInvites as left_ones
use Rattle.mmtel_output.specs.AbandonedInvites.{AfterResponse, after_due_cancel, after_provisional, ended_dialog, is_of_branch, on_success, on_success_in, with_invite}
use Rattle.mmtel_output.specs.Sending.{with_ack, with_relayed_ack, ack_text, with_relayed_request, with_bye, with_cancel, with_due_cancel, with_final_ack, relayed_ack_text}
use Rattle.mmtel_output.specs.declared.outputs.StepOutput.{StepOutput}
use Rattle.mmtel_output.specs.declared.sent_invites.SentInvite.{SentInvite}
use Rattle.mmtel_output.specs.declared.sent_invites.AbandonedInvite.{AbandonedInvite}
use Rattle.mmtel_leg.specs.Legs.{Leg}
use Rattle.mmtel_leg.specs.Releases.{released_leg}
use Rattle.mmtel_leg.specs.Remotes.{remote_of}
use Rattle.mmtel_leg.specs.Requests.{RequestPartsView, request_numbered, request_of}
use Rattle.mmtel_leg.specs.declared.dialogues.Dialogue.{Dialogue}
use Rattle.mmtel_leg.specs.declared.dialogues.DialogueFault.{DialogueFault}
use Rattle.mmtel_leg.specs.declared.dialogues.DialogueFault.TheVariants.{OldCSeq, Pending, Unfinished}
use Rattle.mmtel_leg.specs.declared.remotes.Remote.{Remote}
use Rattle.mmtel_message.specs.Faults.{is_method}
use Rattle.mmtel_message.specs.Message.{Line, Message}
use Rattle.mmtel_message.specs.declared.messages.Start.{Start}
use Rattle.mmtel_precedence.specs.Attempts.{end_by_final, end_by_time, rings}
use Rattle.mmtel_precedence.specs.Calls.{AttemptEndView, NoReply, NotReachable, SnapshotView}
use Rattle.mmtel_reliable.specs.Acks.{after_ack, has_own}
use Rattle.mmtel_reliable.specs.declared.racks.Rack.{Rack}
use Rattle.mmtel_precedence.specs.Services.{DueDiversionView}
use Rattle.mmtel_precedence.specs.NextSteps.{EndAnswered, EndDivert, EndRefuse, NextStepView, StepAfterAttemptView, StepDivert, StepOffer, StepRefuse}
use Rattle.mmtel_precedence.specs.Verdicts.{too_many}
use Rattle.mmtel_base.specs.Numbers.{next_number, token_text}
use Rattle.mmtel_served_user.specs.declared.targets.Target.{Target}
use Rattle.mmtel_transaction.specs.declared.words.DueWord.{DueWord}
use Rattle.mmtel_transaction.specs.declared.words.DueWord.TheVariants as due
use Rattle.mmtel_transaction.specs.declared.words.Emit.{Emit}
use Rattle.mmtel_transaction.specs.declared.words.Emit.TheVariants as emit
use Rattle.mmtel_transaction.specs.declared.words.TKey.{TKey}
use Rattle.mmtel_trust.specs.ParsedMessage.{ParsedMessage}
use Rattle.mmtel_types.specs.Causes as of_causes
use Rattle.mmtel_types.specs.Sides.{other_side}
use Rattle.mmtel_types.specs.declared.causes.Cause.{Cause}
use Rattle.mmtel_types.specs.declared.causes.Cause.TheVariants as causes
use Rattle.mmtel_types.specs.declared.numbers.Peer.{Peer}
use Rattle.mmtel_types.specs.declared.sides.Side.{Side}
use Rattle.mmtel_types.specs.declared.sides.Side.TheVariants.{Caller, Callee}
use Rattle.mmtel_sip_rules.specs.Statuses as statuses
use Rattle.mmtel_call_theorems.proofs.NoInjection.Sending.{each_append, each_front, each_get, each_map, each_option, each_without}
use Rattle.mmtel_call_theorems.specs.Branches.SentRequests.{AbandonedWasSent, AnsweredWasSent, AreNumbered, CallWasSent, Each, IsAwaited, IsInvite, IsNotAwaited}
use Rattle.mmtel_call_theorems.specs.Branches.SentRequests.{IsNumbered, IsRequest, OthersWereSent, PhaseWasSent, RelayedWasSent, SentInviteWasSent, StageWasSent, method_of}
use Rattle.mmtel_session.specs.Intervals.{expiry_interval_of}

-- ---- each of a list

each_last : {A : Type 0} (P : A → Type 0) (xs : List A) (y : A) → Each P (xs ++ y ∷ []) → P y
each_last P [] y e = e.0
each_last P (x ∷ xs) y e = each_last P xs y e.1

without_each : {A : Type 0} (P : A → Type 0) (o : Option ℕ) (items : List A) → Each P items → Each P (without o items)
without_each P None items e = e
without_each P (Some at) items e = each_without P at items e

module _ (asked : (method branch : List ℕ) → Peer → Type 0) (config : CallConfigView) (text : List ℕ) (low : ℕ) where
  -- an INVITE
  abbrev sent : List ℕ → Peer → Type 0
  sent = asked (codes "INVITE")

  -- ---- what is sent

  -- a request that is sent is among those that were sent, by its method
  abbrev pub AskWasSent : Emit → Type 0
  AskWasSent (emit.Ask peer m) = (method branch : List ℕ) → IsRequest method config.sip branch m → asked method branch peer
  AskWasSent (emit.Reply key m) = Unit {0}
  AskWasSent (emit.Plain peer sample) = Unit {0}
  AskWasSent (emit.Ack key m) = Unit {0}
  AskWasSent (emit.Settled key own) = Unit {0}
  AskWasSent (emit.Arm call what at) = Unit {0}
  AskWasSent (emit.ArmSeat room seat what at) = Unit {0}

  pub record Counted (output : StepOutput) : Type 0 where
    pub same : output.tokens.token ≡ text
    pub out_in : output.tokens.drawn < 2 ^ 60 → AreNumbered config.sip text low output.tokens.drawn output.out

  -- after a step the INVITEs of the call were sent, and its requests in flight, if those were that the step sends
  pub record Good (s : StepResult) : Type 0 where
    pub call_in : Each AskWasSent s.output.out → CallWasSent asked s.call
    pub output_in : Counted s.output

  -- it draws nothing
  abbrev IsQuiet : Emit → Type 0
  IsQuiet e = (n : ℕ) → IsNumbered config.sip text n n e

  raised : (from high higher : ℕ) (out : List Emit) → high ≤ higher → AreNumbered config.sip text from high out → AreNumbered config.sip text from higher out
  raised from high higher [] le are = omega (arith, le, are)
  raised from high higher (e ∷ out) le are = (are.0, are.1, raised are.0 high higher out le are.2)

  quiet_last : (from high : ℕ) (e : Emit) (out : List Emit) → IsQuiet e → AreNumbered config.sip text from high out → AreNumbered config.sip text from high (out ++ e ∷ [])
  quiet_last from high e [] quiet are = (from, quiet from, are)
  quiet_last from high e (x ∷ out) quiet are = (are.0, are.1, quiet_last are.0 high e out quiet are.2)

  request_last : (from high next : ℕ) (peer : Peer) (m : Message Start) (out : List Emit) → high < next → IsAwaited config.sip (token_text text next) m → AreNumbered config.sip text from high out →
      AreNumbered config.sip text from next (out ++ emit.Ask peer m ∷ [])
  request_last from high next peer m [] lt is are = (next, inr (omega (arith, lt, are), is), omega arith)
  request_last from high next peer m (x ∷ out) lt is are = (are.0, are.1, request_last are.0 high next peer m out lt is are.2)

  emit_in : (e : Emit) (output : StepOutput) → IsQuiet e → Counted output → Counted (with_emit e output)
  emit_in e output quiet had = record { same = had.same; out_in = λ less. quiet_last low output.tokens.drawn e output.out quiet (had.out_in less) }

  next_above : (n : ℕ) → next_number n < 2 ^ 60 → n < next_number n
  next_above n less = omega (arith, less)

  drew_in : (output : StepOutput) → Counted output → Counted (after_draw output)
  drew_in output had = record {
    same = had.same;
    out_in = λ less.
        let lt : output.tokens.drawn < next_number output.tokens.drawn = next_above output.tokens.drawn less in
        raised low output.tokens.drawn (next_number output.tokens.drawn) output.out (omega (arith, lt)) (had.out_in (omega (arith, lt, less)));
  }

  asked_in : (method : List ℕ) (peer : Peer) (m : Message Start) (output : StepOutput) → is_awaited_method method ≡ true → IsRequest method config.sip (token output) m → Counted output →
      Counted (with_emit (emit.Ask peer m) (after_draw output))
  asked_in method peer m output waited is had = record {
    same = had.same;
    out_in = λ less.
        let lt : output.tokens.drawn < next_number output.tokens.drawn = next_above output.tokens.drawn less in
        request_last low output.tokens.drawn (next_number output.tokens.drawn) peer m output.out lt
        (record { method = method; awaited = waited; request = subst (λ (t : List ℕ). IsRequest method config.sip (token_text t (next_number output.tokens.drawn)) m) had.same is }) (had.out_in (omega (arith, lt, less)));
  }

  if_output : (b : Bool) (one two : StepOutput) → Counted one → Counted two → Counted (if b then one else two)
  if_output true one two e f = e
  if_output false one two e f = f

  -- ---- requests whose response is not awaited

  no_bye : (d : Dialogue) (number : ℕ) (given : RequestPartsView) → IsNotAwaited (request_numbered d number (codes "BYE") given)
  no_bye d number given None = refl
  no_bye d number given (Some five) = refl

  no_cancel : (d : Dialogue) (number : ℕ) (given : RequestPartsView) → IsNotAwaited (request_numbered d number (codes "CANCEL") given)
  no_cancel d number given None = refl
  no_cancel d number given (Some five) = refl

  bye_in : (d : Dialogue) (output : StepOutput) → Counted output → Counted (with_bye config.sip d output)
  bye_in d output had =
      let given : RequestPartsView = own_parts config.sip (token output) [] [] in
      emit_in (emit.Ask d.peer (request_of d (codes "BYE") given)) (after_draw output) (λ n. inl (refl, no_bye d (next_number d.local_cseq) given)) (drew_in output had)

  bye_for : (d : Dialogue) (passed : List Line) (m : ParsedMessage) (output : StepOutput) → Counted output → Counted (with_relayed_request config.sip (codes "BYE") d passed m output)
  bye_for d passed m output had =
      let given : RequestPartsView = relayed_parts config.sip (token output) passed m in
      emit_in (emit.Ask d.peer (request_of d (codes "BYE") given)) (after_draw output) (λ n. inl (refl, no_bye d (next_number d.local_cseq) given)) (drew_in output had)

  acked_in : (d : Dialogue) (output : StepOutput) → Counted output → Counted (with_ack config.sip d output)
  acked_in d output had = emit_in (emit.Plain d.peer (ack_text config.sip d (token output))) (after_draw output) (λ n. refl) (drew_in output had)

  acked_for_in : (d : Dialogue) (passed : List Line) (m : ParsedMessage) (output : StepOutput) → Counted output → Counted (with_relayed_ack config.sip d passed m output)
  acked_for_in d passed m output had = emit_in (emit.Plain d.peer (relayed_ack_text config.sip d (token output) passed m)) (after_draw output) (λ n. refl) (drew_in output had)

  cancel_sent_in : (i : SentInvite) (output : StepOutput) → Counted output → Counted (with_cancel config.sip i output)
  cancel_sent_in i output had = emit_in (emit.Ask i.dialogue.peer (cancel_of i.dialogue i.number config.sip i.branch)) output (λ n. inl (refl, no_cancel i.dialogue i.number (bare_parts config.sip i.branch))) had

  cancelled_in : (i : SentInvite) (output : StepOutput) → Counted output → Counted (with_due_cancel config.sip i output)
  cancelled_in i output had = if_output (is_cancellable i) (with_cancel config.sip i output) output (cancel_sent_in i output had) had

  final_acked_in : (key : TKey) (i : SentInvite) (m : ParsedMessage) (output : StepOutput) → Counted output → Counted (with_final_ack config.sip key i m output)
  final_acked_in key i m output had = emit_in _ output (λ n. refl) had

  replied_in : (c : Call) (key : TKey) (m : MessageView) (code : ℕ) (output : StepOutput) → Counted output → Counted (with_status_to config c key m code output)
  replied_in c key m code output had = emit_in _ output (λ n. refl) had

  status_in : (c : Call) (code : ℕ) (output : StepOutput) → Counted output → Counted (with_status_to_caller config c code output)
  status_in c code output had = emit_in _ output (λ n. refl) had

  notification_in : (c : Call) (output : StepOutput) → Counted output → Counted (with_diversion_notification config c output)
  notification_in c output had = emit_in _ output (λ n. refl) had

  relayed_in : (c : Call) (service : Option Service) (m : MessageView) (output : StepOutput) → Counted output → Counted (with_relay_to_caller config c service m output)
  relayed_in c service m output had = emit_in _ output (λ n. refl) had

  refused_request_in : (c : Call) (key : TKey) (m : MessageView) (fault : DialogueFault) (output : StepOutput) → Counted output → Counted (with_refused_request config c key m fault output)
  refused_request_in c key m (OldCSeq last) output had = emit_in _ output (λ n. refl) had
  refused_request_in c key m Pending output had = emit_in _ output (λ n. refl) had
  refused_request_in c key m Unfinished output had = emit_in _ output (λ n. refl) had

  unlisted_by : (b d : Bool) (one two three : StepOutput) → Counted one → Counted two → Counted three → Counted (if b then one else if d then two else three)
  unlisted_by true d one two three x y z = x
  unlisted_by false true one two three x y z = y
  unlisted_by false false one two three x y z = z

  unlisted_in : (c : Call) (key : TKey) (m : MessageView) (output : StepOutput) → Counted output → Counted (with_unlisted_response config c key m output)
  unlisted_in c key m output had =
      unlisted_by (is_method (codes "OPTIONS") m.parsed.start) (is_method (codes "REFER") m.parsed.start) _ _ _
      (emit_in _ output (λ n. refl) had) (emit_in _ output (λ n. refl) had) (emit_in _ output (λ n. refl) had)

  -- ---- steps

  abbrev Others : Call → Type 0
  Others c = OthersWereSent asked c.abandoned c.answered_invites c.relayed

  abbrev At : Phase → Type 0
  At p = PhaseWasSent sent p

  abbrev AtStage : EstablishedLegs → Stage → Type 0
  AtStage x stage = StageWasSent sent x stage

  good : (s : StepResult) → At s.call.phase → Others s.call → Counted s.output → Good s
  good s p k had = record { call_in = λ each. record { phase_in = p; others_in = k }; output_in = had }

  pub onward_good : (c : Call) (output : StepOutput) → At c.phase → Others c → Counted output → Good (step_result c output)
  onward_good c output p k had = good (step_result c output) p k had

  over_good : (at : ℕ) (cause : Cause) (first last : Option MeterView) (c : Call) (output : StepOutput) → Others c → Counted output → Good (call_end at cause first last c output)
  over_good at cause first last c output k had =
      good (call_end at cause first last c output) tt (record { abandoned_in = k.abandoned_in; answered_in = k.answered_in; in_flight_in = tt }) (record { same = had.same; out_in = had.out_in })

  if_good : (b : Bool) (one two : StepResult) → Good one → Good two → Good (if b then one else two)
  if_good true one two e f = e
  if_good false one two e f = f

  once_sent : (i : SentInvite) → SentInviteWasSent sent i → SentInviteWasSent sent (invite_after_cancel i)
  once_sent i is = by (is_cancellable i)
    where
      by : (t : Bool) → SentInviteWasSent sent (if t then record i { cancelled = true } else i)
      by true = is
      by false = is

  -- the deadline for the session of a 2xx sends nothing
  expiries_in : (timer : Bool) (time : Option ℕ) (at : ℕ) (c : Call) (output : StepOutput) → Counted output → Counted (record output { out = output.out ++ (if timer then expiry_in time at c else []) })
  expiries_in true None at c output had = simp append-nil had
  expiries_in true (Some time) at c output had = emit_in _ output (λ n. refl) had
  expiries_in false time at c output had = simp append-nil had

  expiry_awaited : (at : ℕ) (m : MessageView) (c : Call) (output : StepOutput) → Counted output → Counted (with_expiry_timer config at m c output)
  expiry_awaited at m c output had = expiries_in config.timer (expiry_interval_of m.parsed.session) at c output had

  -- ---- requests in flight

  settled_good : (own : Option ℕ) (c : Call) (output : StepOutput) → Counted output → Counted (with_settled config own c output)
  settled_good own c output had = if_output config.reliable (with_emit (emit.Settled c.opening.key own) output) output (emit_in _ output (λ n. refl) had) had

  settled_in_good : (phase : Phase) (c : Call) (output : StepOutput) → Counted output → Counted (with_settled_in phase config c output)
  settled_in_good (Offered x) c output had = settled_good None c output had
  settled_in_good (Established x stage) c output had = had
  settled_in_good (Detached detached) c output had = had
  settled_in_good (Over cause) c output had = had

  dismissed_each_in : (c : Call) (flights : List RelayedTransaction) (output : StepOutput) → Counted output → Counted (with_dismissals config c flights output)
  dismissed_each_in c [] output had = had
  dismissed_each_in c (flight ∷ flights) output had =
      dismissed_each_in c flights (with_dismissal config c flight output) (replied_in c flight.exchange.key flight.exchange.request (dismissal_of flight.kind) output had)

  dismissing_in : (c : Call) (output : StepOutput) → Counted output → Counted (output_after_dismissal config c output)
  dismissing_in c output had =
      settled_in_good c.phase c (with_all_dismissals config c output)
      (dismissed_each_in c (filter is_updating c.relayed) _ (dismissed_each_in c (filter (λ flight. not (is_updating flight)) c.relayed) output had))

  with_in_flight : (flights : List RelayedTransaction) (c : Call) → Each (RelayedWasSent asked) flights → Others c → Others (record c { relayed = flights })
  with_in_flight flights c all k = record { abandoned_in = k.abandoned_in; answered_in = k.answered_in; in_flight_in = all }

  -- the final response is relayed back

  agreed_transition : (kind : RelayedKind) (at : ℕ) (side : Side) (request response : MessageView) (c : Call) (output : StepOutput) → At c.phase → Others c → Counted output →
      Good (flying.on_accepted_in_flight kind config at side request response c output)
  agreed_transition Prack at side request response c output p k had = onward_good c output p k had
  agreed_transition Update at side request response c output p k had = onward_good (call_after_update side request c) (with_expiry_timer config at response c output) p k (expiry_awaited at response c output had)

  final_transition : (at : ℕ) (flight : RelayedTransaction) (m : MessageView) (code : ℕ) (c : Call) (output : StepOutput) → At c.phase → Others c → Counted output →
      Good (on_final_relayed config at flight m code c output)
  final_transition at flight m code c output p k had =
      let back : StepOutput = with_response_back config flight m c output in
      let told : Counted back = emit_in _ output (λ n. refl) had in
      if_good (statuses.is_success code) (flying.on_accepted_in_flight flight.kind config at flight.side flight.exchange.request m c back) (step_result c back)
      (agreed_transition flight.kind at flight.side flight.exchange.request m c back p k told) (onward_good c back p k told)

  without_relayed_in : (place : ℕ) (c : Call) → Others c → Others (without_transaction place c)
  without_relayed_in place c k = with_in_flight _ c (each_without (RelayedWasSent asked) place c.relayed k.in_flight_in) k

  relayed_transition : (at : ℕ) (m : MessageView) (code place : ℕ) (o : Option RelayedTransaction) (c : Call) (output : StepOutput) → At c.phase → Others c → Counted output →
      Good (on_response_relayed config at m code place o c output)
  relayed_transition at m code place None c output p k had = onward_good c output p k had
  relayed_transition at m code place (Some flight) c output p k had =
      if_good (nat_lt code 200) (step_result c output) (on_final_relayed config at flight m code (without_transaction place c) output)
      (onward_good c output p k had) (final_transition at flight m code (without_transaction place c) output p (without_relayed_in place c k) had)

  in_flight_transition : (at : ℕ) (m : MessageView) (o : Option ℕ) (c : Call) (output : StepOutput) → At c.phase → Others c → Counted output → Good (on_response_in_flight config at m o c output)
  in_flight_transition at m None c output p k had = onward_good c output p k had
  in_flight_transition at m (Some place) c output p k had = relayed_transition at m (status_of m.parsed.start) place (slice_get c.relayed place) c output p k had

  timed_out_relayed_transition : (place : ℕ) (o : Option RelayedTransaction) (c : Call) (output : StepOutput) → At c.phase → Others c → Counted output → Good (on_timeout_relayed config place o c output)
  timed_out_relayed_transition place None c output p k had = onward_good c output p k had
  timed_out_relayed_transition place (Some flight) c output p k had =
      onward_good (without_transaction place c) (with_status_to config c flight.exchange.key flight.exchange.request 408 output) p (without_relayed_in place c k)
      (replied_in c flight.exchange.key flight.exchange.request 408 output had)

  timed_out_in_flight_transition : (o : Option ℕ) (c : Call) (output : StepOutput) → At c.phase → Others c → Counted output → Good (on_timeout_in_flight config o c output)
  timed_out_in_flight_transition None c output p k had = onward_good c output p k had
  timed_out_in_flight_transition (Some place) c output p k had = timed_out_relayed_transition place (slice_get c.relayed place) c output p k had

  -- one more is sent: to the peer of the leg in which it is made

  asked_transition : (flight : RelayedTransaction) (passed : List Line) (m : ParsedMessage) (d : Dialogue) (c : Call) (told : StepOutput) → is_awaited_method (method_of flight.kind) ≡ true →
      flight.exchange.invite.branch ≡ token told → flight.exchange.invite.dialogue.peer ≡ d.peer → At c.phase → Others c → Counted told →
      Good (record { call = with_transaction flight c; output = with_relayed_request config.sip (method_of flight.kind) d passed m told })
  asked_transition flight passed m d c told waited of_branch to_peer p k had =
      let method : List ℕ = method_of flight.kind in
      let given : RequestPartsView = relayed_parts config.sip (token told) passed m in
      let n : Message Start = request_of d method given in
      let is : IsRequest method config.sip (token told) n = record { dialogue = d; number = next_number d.local_cseq; parts = given; is = refl; from_there = refl; has_it = refl } in
      record {
        call_in = λ each.
            let was : asked method (token told) d.peer = each_last AskWasSent told.out (emit.Ask d.peer n) each method (token told) is in
            let its : RelayedWasSent asked flight = subst (λ (branch : List ℕ). asked method branch flight.exchange.invite.dialogue.peer) (sym of_branch) (subst (asked method (token told)) (sym to_peer) was) in
            record { phase_in = p; others_in = with_in_flight _ c (each_append (RelayedWasSent asked) c.relayed (flight ∷ []) k.in_flight_in (its, tt)) k };
        output_in = asked_in method d.peer n told waited is had;
      }

  prack_refused_transition : (key : TKey) (m : MessageView) (c : Call) (output : StepOutput) → At c.phase → Others c → Counted output → Good (on_refused_prack config key m c output)
  prack_refused_transition key m c output p k had =
      let code : ℕ = status_of_refusal (rack_in m) in onward_good c (with_status_to config c key m code output) p k (replied_in c key m code output had)

  -- settling reliable responses draws no token
  settled_token : (own : Option ℕ) (c : Call) (output : StepOutput) → token output ≡ token (with_settled config own c output)
  settled_token own c output = by config.reliable
    where
      by : (b : Bool) → token output ≡ token (if b then with_emit (emit.Settled c.opening.key own) output else output)
      by true = refl
      by false = refl

  acknowledging_transition : (x : OfferedAttempt) (key : TKey) (m : MessageView) (rack : Rack) (o : Option ℕ) (c : Call) (output : StepOutput) → PhaseWasSent sent (Offered x) → At c.phase → Others c → Counted output →
      Good (on_named_prack config x key m rack o c output)
  acknowledging_transition x key m rack None c output t p k had = prack_refused_transition key m c output p k had
  acknowledging_transition x key m rack (Some answer) c output t p k had =
      asked_transition (relayed_transaction_of Prack Caller key m (leg_after_request (codes "PRACK") x.callee.leg) output)
      (copied_lines config c.opening c.diversions x.attempt.service Caller x.callee.leg.dialogue.peer m ++ rack_line answer x.attempt.invite.number) m.parsed x.callee.leg.dialogue
      (record c { acks = after_ack rack c.acks; phase = Offered (attempt_after_early_request (codes "PRACK") x) }) (with_settled config (Some rack.answer) c output) refl
      (settled_token (Some rack.answer) c output) refl t k (settled_good (Some rack.answer) c output had)

  rack_transition : (x : OfferedAttempt) (key : TKey) (m : MessageView) (o : Option Rack) (c : Call) (output : StepOutput) → PhaseWasSent sent (Offered x) → At c.phase → Others c → Counted output →
      Good (on_rack config x key m o c output)
  rack_transition x key m None c output t p k had = prack_refused_transition key m c output p k had
  rack_transition x key m (Some rack) c output t p k had = acknowledging_transition x key m rack (named_rseq x c rack) c output t p k had

  prack_transition : (side : Side) (x : OfferedAttempt) (key : TKey) (m : MessageView) (c : Call) (output : StepOutput) → PhaseWasSent sent (Offered x) → At c.phase → Others c → Counted output →
      Good (on_prack_of side config x key m c output)
  prack_transition Caller x key m c output t p k had = rack_transition x key m (rack_in m) c output t p k had
  prack_transition Callee x key m c output t p k had = prack_refused_transition key m c output p k had

  later_transition : (key : TKey) (m : MessageView) (c : Call) (output : StepOutput) → At c.phase → Others c → Counted output → Good (on_early_retry config key m c output)
  later_transition key m c output p k had = good (on_early_retry config key m c output) p k (emit_in _ output (λ n. refl) had)

  crossing_transition : (key : TKey) (m : MessageView) (c : Call) (output : StepOutput) → At c.phase → Others c → Counted output → Good (on_glare config key m c output)
  crossing_transition key m c output p k had = onward_good c (with_status_to config c key m 491 output) p k (replied_in c key m 491 output had)

  unless_transition : (o : Option Side) (across : Call → StepOutput → StepResult) (side : Side) (key : TKey) (m : MessageView) (c : Call) (output : StepOutput) → At c.phase → Others c →
      Counted output → Good (across c output) →
      Good (unless_updating o across config side key m c output)
  unless_transition None across side key m c output p k had is = is
  unless_transition (Some other) across side key m c output p k had is =
      if_good (is_same_side other side) (on_early_retry config key m c output) (on_glare config key m c output) (later_transition key m c output p k had) (crossing_transition key m c output p k had)

  asked_on_transition : (service : Option Service) (side : Side) (leg : Leg) (key : TKey) (m : MessageView) (c : Call) (output : StepOutput) → At c.phase → Others c → Counted output →
      Good (after_update_relay config service side leg key m c output)
  asked_on_transition service side leg key m c output p k had =
      asked_transition (relayed_transaction_of Update side key m (leg_after_request (codes "UPDATE") leg) output)
      (copied_lines config c.opening c.diversions service side leg.dialogue.peer m) m.parsed leg.dialogue c output refl refl refl p k had

  updated_sent : (side : Side) (x : OfferedAttempt) → PhaseWasSent sent (Offered x) → PhaseWasSent sent (Offered (attempt_after_update side x))
  updated_sent Caller x t = t
  updated_sent Callee x t = t

  update_transition : (x : OfferedAttempt) (side : Side) (key : TKey) (m : MessageView) (c : Call) (output : StepOutput) → PhaseWasSent sent (Offered x) → At c.phase → Others c → Counted output →
      Good (on_update config x side key m c output)
  update_transition x side key m c output t p k had =
      if_good (accepts_updates x) (unless_updating (updating_side c.relayed) (on_early_update config x side key m) config side key m c output) (on_early_retry config key m c output)
      (unless_transition (updating_side c.relayed) (on_early_update config x side key m) side key m c output p k had
      (asked_on_transition x.attempt.service side (other_leg side x) key m (record c { phase = Offered (attempt_after_update side x) }) output (updated_sent side x t) k had))
      (later_transition key m c output p k had)

  on_other_transition : (x : OfferedAttempt) (side : Side) (key : TKey) (m : MessageView) (c : Call) (output : StepOutput) → PhaseWasSent sent (Offered x) → At c.phase → Others c → Counted output →
      Good (on_other config x side key m c output)
  on_other_transition x side key m c output t p k had =
      if_good (is_prack m) (on_prack_of side config x key m c output) (if is_update m then on_update config x side key m c output else step_result c (with_unlisted_response config c key m output))
      (prack_transition side x key m c output t p k had)
      (if_good (is_update m) (on_update config x side key m c output) (step_result c (with_unlisted_response config c key m output)) (update_transition x side key m c output t p k had)
      (onward_good c (with_unlisted_response config c key m output) p k (unlisted_in c key m output had)))

  -- ---- how the call continues

  refused_good : (at : ℕ) (caller : Leg) (cause : Cause) (c : Call) (output : StepOutput) → Others c → Counted output → Good (call_refusal config at caller cause c output)
  refused_good at caller cause c output k had = over_good at cause caller.meter None c (with_status_to_caller config c (of_causes.status_of cause) output) k (status_in c (of_causes.status_of cause) output had)

  refused_by_good : (at : ℕ) (caller : Leg) (service : Option Service) (m : Option MessageView) (cause : Cause) (c : Call) (output : StepOutput) → Others c → Counted output →
      Good (relayed_refusal config at caller service m cause c output)
  refused_by_good at caller service None cause c output k had = refused_good at caller cause c output k had
  refused_by_good at caller service (Some m) cause c output k had =
      if_good (is_status (status_of m.parsed.start) (relayed_status cause)) (call_end at cause caller.meter None c (with_relay_to_caller config c service m output)) (call_refusal config at caller cause c output)
      (over_good at cause caller.meter None c (with_relay_to_caller config c service m output) k (relayed_in c service m output had)) (refused_good at caller cause c output k had)

  offer_good : (at : ℕ) (caller : Leg) (service : Option Service) (waiting : Bool) (destination : Destination) (c : Call) (output : StepOutput) → Others c → Counted output →
      Good (attempt_start config at caller service waiting destination c output)
  offer_good at caller service waiting destination c output k had =
      let o = c.opening in
      let shown : List Line = attempt_lines config o c.diversions service destination.peer in
      let d : Dialogue = attempt_dialog_of o destination output in
      let third : StepOutput = after_draw (after_draw output) in
      let m : Message Start = invite_of d config.sip (token third) shown waiting o.invite.parsed in
      let is : IsInvite config.sip (token third) m =
      record { dialogue = d; number = 1; parts = relayed_parts config.sip (token third) (shown ++ alert_lines waiting) o.invite.parsed; is = refl; from_there = refl; has_it = refl } in
      let offered : StepOutput = with_emit (emit.Ask destination.peer m) (after_draw third) in
      let arm : Emit = emit.Arm o.number (due.Cap (next_attempt c)) (at + max_attempt_time) in
      record {
        call_in = λ each.
            let was : sent (token third) destination.peer = each_last AskWasSent output.out (emit.Ask destination.peer m) (each_front AskWasSent offered.out (arm ∷ []) each) (codes "INVITE") (token third) is in
            record { phase_in = (was, was); others_in = k };
        output_in = emit_in arm offered (λ n. refl) (asked_in (codes "INVITE") destination.peer m third refl is (drew_in (after_draw output) (drew_in output had)));
      }

  abbrev Diverts : ℕ → SnapshotView → Leg → Type 0
  Diverts left now caller = (service : Option Service) (due : DueDiversionView) (c : Call) (output : StepOutput) → Others c → Counted output → Good (divert left config now caller service due c output)

  next_step_good : (left : ℕ) (now : SnapshotView) (caller : Leg) → Diverts left now caller → (service : Option Service) (cause : Option ℕ) (target : Target) (turn : NextStepView) (c : Call) (output : StepOutput) →
      Others c → Counted output → Good (on_next_step (divert left config now caller) config now.at caller service cause target turn c output)
  next_step_good left now caller later service cause target (StepOffer peer waiting) c output k had = offer_good now.at caller service waiting (destination_of c.opening peer cause target) c output k had
  next_step_good left now caller later service cause target (StepDivert due) c output k had = later service due (with_unoffered_meter now.at service c) output k had
  next_step_good left now caller later service cause target (StepRefuse why) c output k had = refused_good now.at caller why (with_unoffered_meter now.at service c) output k had

  target_good : (left : ℕ) (now : SnapshotView) (caller : Leg) → Diverts left now caller → (cause : Option ℕ) (target : Target) (c : Call) (output : StepOutput) →
      Others c → Counted output → Good (at_target (divert left config now caller) config now caller cause target c output)
  target_good left now caller later cause target c output k had =
      next_step_good left now caller later (service_at config now c.opening cause target) cause target
      (decision_at config now c.opening (is_diverted c) cause target (service_at config now c.opening cause target) (peer_for config c.opening target)) c output k had

  notification_of_in : (due : DueDiversionView) (c : Call) (output : StepOutput) → Counted output → Counted (with_notification_of config due c output)
  notification_of_in due c output had = if_output due.forward.notify_caller (with_diversion_notification config c output) output (notification_in c output had) had

  unless_good : (refusal : Option Cause) (go : Call → StepOutput → StepResult) (at : ℕ) (caller : Leg) (c : Call) (output : StepOutput) → Others c → Counted output → Good (go c output) →
      Good (diversion_unless_refused refusal go config at caller c output)
  unless_good (Some why) go at caller c output k had is = refused_good at caller why c output k had
  unless_good None go at caller c output k had is = is

  divert_good : (left : ℕ) (now : SnapshotView) (caller : Leg) → Diverts left now caller
  unfolding divert
  divert_good zero now caller service due c output k had =
      unless_good (diversion_refusal 0 config now.at service due c) (call_refusal config now.at caller (too_many due.cause)) now.at caller c output k had (refused_good now.at caller (too_many due.cause) c output k had)
  divert_good (suc left) now caller service due c output k had =
      let target : Target = diversion_target config due in
      let next : Call = call_after_diversion target now.at left service due c in
      let onward = diversion_step (at_target (divert left config now caller) config now caller (Some due.cause) target) config target now.at left service due in
      unless_good (diversion_refusal (suc left) config now.at service due c) onward now.at caller c output k had
      (target_good left now caller (divert_good left now caller) (Some due.cause) target next (with_notification_of config due next output) k (notification_of_in due next output had))

  reach_good : (now : SnapshotView) (caller : Leg) (cause : Option ℕ) (target : Target) (c : Call) (output : StepOutput) → Others c → Counted output → Good (reach config now caller cause target c output)
  reach_good now caller cause target c output k had = target_good c.diversions.remaining now caller (divert_good c.diversions.remaining now caller) cause target c output k had

  end_good : (now : SnapshotView) (caller : Leg) (service : Option Service) (m : Option MessageView) (after : StepAfterAttemptView) (c : Call) (output : StepOutput) → Others c → Counted output →
      Good (on_end config now caller service m after c output)
  end_good now caller service m EndAnswered c output k had = over_good now.at causes.Ended caller.meter None c output k had
  end_good now caller service m (EndDivert due) c output k had = divert_good c.diversions.remaining now caller service due c output k had
  end_good now caller service m (EndRefuse cause) c output k had = refused_by_good now.at caller service m cause c output k had

  goes_on_good : (now : SnapshotView) (x : OfferedAttempt) (how : AttemptEndView) (m : Option MessageView) (c : Call) (output : StepOutput) → Others c → Counted output → Good (after_attempt config now x how m c output)
  goes_on_good now x how m c output k had =
      end_good now x.caller x.attempt.service m (decision_after c.opening now.at (is_diverted c) x.attempt.service how) (with_past x.callee.leg.meter c) output k had

  -- ---- while it is offered

  abbrev AtOffered : OfferedAttempt → Type 0
  AtOffered x = PhaseWasSent sent (Offered x)

  with_abandoned_sent : (l : AbandonedInvite) (c : Call) → AbandonedWasSent sent l → Others c → Others (with_abandoned l c)
  with_abandoned_sent l c is k = record { abandoned_in = each_append (AbandonedWasSent sent) c.abandoned (l ∷ []) k.abandoned_in (is, tt); answered_in = k.answered_in; in_flight_in = k.in_flight_in }

  left_sent : (x : OfferedAttempt) (c : Call) → AtOffered x → Others c → Others (call_without_attempt x c)
  left_sent x c t k = with_abandoned_sent (abandoned_invite (invite_after_cancel x.attempt.invite)) c (once_sent x.attempt.invite t.0) k

  tried_good : (key : TKey) (x : OfferedAttempt) (c : Call) (output : StepOutput) → AtOffered x → Others c → Counted output → Good (on_trying key x c output)
  tried_good key x c output t k had = good (on_trying key x c output) t k had

  met_leg : (branch : List ℕ) (o : Option Remote) (callee : AttemptLegView) → sent branch callee.leg.dialogue.peer → sent branch (leg_with_remote o callee).leg.dialogue.peer
  met_leg branch None callee is = is
  met_leg branch (Some remote) callee is = is

  armed_in_good : (time : Option ℕ) (at : ℕ) (attempt : Attempt) (c : Call) (output : StepOutput) → Counted output → Counted (with_no_reply_timer_in time at attempt c output)
  armed_in_good None at attempt c output had = had
  armed_in_good (Some time) at attempt c output had = emit_in _ output (λ n. refl) had

  armed_good : (code at : ℕ) (attempt : Attempt) (c : Call) (output : StepOutput) → Counted output → Counted (with_no_reply_timer code at attempt c output)
  armed_good code at attempt c output had =
      if_output (rings code && not attempt.rang) (with_no_reply_timer_in (no_reply_time_of (service_sheet attempt.service)) at attempt c output) output
      (armed_in_good (no_reply_time_of (service_sheet attempt.service)) at attempt c output had) had

  proceeded_sent : (x : OfferedAttempt) (key : TKey) (m : MessageView) (code : ℕ) → AtOffered x → AtOffered (attempt_after_provisional x key m code)
  proceeded_sent x key m code t = (t.0, met_leg x.attempt.invite.branch (early_remote_of x.callee m) x.callee t.1)

  plainly_good : (at : ℕ) (x : OfferedAttempt) (key : TKey) (m : MessageView) (code : ℕ) (c : Call) (output : StepOutput) → AtOffered x → Others c → Counted output →
      Good (on_plain_provisional config at x key m code c output)
  plainly_good at x key m code c output t k had =
      good (on_plain_provisional config at x key m code c output) (proceeded_sent x key m code t) k
      (armed_good code at x.attempt c (with_relay_to_caller config c x.attempt.service m output) (relayed_in c x.attempt.service m output had))

  relayed_if_good : (o : Option ℕ) (rseq at : ℕ) (x : OfferedAttempt) (key : TKey) (m : MessageView) (code : ℕ) (c : Call) (output : StepOutput) → AtOffered x → Others c → Counted output →
      Good (on_numbered_provisional o rseq config at x key m code c output)
  relayed_if_good None rseq at x key m code c output t k had = tried_good key x c output t k had
  relayed_if_good (Some own) rseq at x key m code c output t k had =
      good (on_numbered_provisional (Some own) rseq config at x key m code c output) (proceeded_sent x key m code t) k
      (emit_in _ (with_no_reply_timer code at x.attempt c (with_reliable_response config c x.attempt.service own m output)) (λ n. refl)
      (armed_good code at x.attempt c (with_reliable_response config c x.attempt.service own m output) (emit_in _ output (λ n. refl) had)))

  proceeding_by_good : (o : Option ℕ) (at : ℕ) (x : OfferedAttempt) (key : TKey) (m : MessageView) (code : ℕ) (c : Call) (output : StepOutput) → AtOffered x → Others c → Counted output →
      Good (on_provisional_by o config at x key m code c output)
  proceeding_by_good None at x key m code c output t k had = plainly_good at x key m code c output t k had
  proceeding_by_good (Some rseq) at x key m code c output t k had = relayed_if_good (own_rseq_for rseq x m c) rseq at x key m code c output t k had

  proceeding_good : (at : ℕ) (x : OfferedAttempt) (key : TKey) (m : MessageView) (code : ℕ) (c : Call) (output : StepOutput) → AtOffered x → Others c → Counted output →
      Good (ringing.on_provisional config at x key m code c output)
  proceeding_good at x key m code c output t k had = proceeding_by_good (reliable_number config c.opening m) at x key m code c output t k had

  answered_good : (at : ℕ) (x : OfferedAttempt) (key : TKey) (m : MessageView) (c : Call) (output : StepOutput) → AtOffered x → Others c → Counted output → Good (on_answer config at x key m c output)
  answered_good at x key m c output t k had =
      good (on_answer config at x key m c output) t.1
      (record {
        abandoned_in = k.abandoned_in;
        answered_in = each_append (AnsweredWasSent sent) c.answered_invites (new_answered_invite key m false x.attempt.invite ∷ []) k.answered_in (t.0, tt);
        in_flight_in = k.in_flight_in;
      })
      (expiry_awaited at m c _ (emit_in _ (with_relay_to_caller config c x.attempt.service m output) (λ n. refl) (relayed_in c x.attempt.service m output had)))

  failed_good : (now : SnapshotView) (x : OfferedAttempt) (key : TKey) (m : MessageView) (code : ℕ) (c : Call) (output : StepOutput) → Others c → Counted output → Good (on_failure config now x key m code c output)
  failed_good now x key m code c output k had =
      goes_on_good now x (end_by_final code (redirect_of m) x.attempt.rang) (Some m) c (with_final_ack config.sip key x.attempt.invite m.parsed output) k (final_acked_in key x.attempt.invite m.parsed output had)

  response_transition : (now : SnapshotView) (x : OfferedAttempt) (key : TKey) (m : MessageView) (code : ℕ) (c : Call) (output : StepOutput) → AtOffered x → Others c → Counted output →
      Good (on_response config now x key m code c output)
  response_transition now x key m code c output t k had =
      if_good (nat_lt code 101) (on_trying key x c output)
      (if nat_lt code 200 then ringing.on_provisional config now.at x key m code c output else if nat_lt code 300 then on_answer config now.at x key m c output else on_failure config now x key m code c output)
      (tried_good key x c output t k had)
      (if_good (nat_lt code 200) (ringing.on_provisional config now.at x key m code c output) (if nat_lt code 300 then on_answer config now.at x key m c output else on_failure config now x key m code c output)
      (proceeding_good now.at x key m code c output t k had)
      (if_good (nat_lt code 300) (on_answer config now.at x key m c output) (on_failure config now x key m code c output) (answered_good now.at x key m c output t k had) (failed_good now x key m code c output k had)))

  abbrev offered_call : OfferedAttempt → Call → Call
  offered_call x c = record c { phase = Offered x }

  timeout_transition : (now : SnapshotView) (x : OfferedAttempt) (c : Call) (output : StepOutput) → AtOffered x → Others c → Counted output → Good (on_timeout config now x (offered_call x c) output)
  timeout_transition now x c output t k had =
      if_good x.attempt.rang (step_result (offered_call x c) output) (after_attempt config now x (NotReachable 408) None (offered_call x c) output)
      (onward_good (offered_call x c) output t k had) (goes_on_good now x (NotReachable 408) None (offered_call x c) output k had)

  timed_out_good : (now : SnapshotView) (x : OfferedAttempt) (how : AttemptEndView) (c : Call) (output : StepOutput) → AtOffered x → Others c → Counted output → Good (on_attempt_timeout config now x how c output)
  timed_out_good now x how c output t k had = goes_on_good now x how None (call_without_attempt x c) (with_attempt_cancel config x output) (left_sent x c t k) (cancelled_in x.attempt.invite output had)

  given_up_by_good : (cause : Cause) (at : ℕ) (x : OfferedAttempt) (c : Call) (output : StepOutput) → AtOffered x → Others c → Counted output → Good (end_before_answer cause config at x c output)
  given_up_by_good cause at x c output t k had =
      let code : ℕ = of_causes.status_of cause in
      over_good at cause x.caller.meter x.callee.leg.meter (call_without_attempt x c) (with_attempt_cancel config x (with_status_to_caller config c code output)) (left_sent x c t k)
      (cancelled_in x.attempt.invite (with_status_to_caller config c code output) (status_in c code output had))

  due_transition : (now : SnapshotView) (x : OfferedAttempt) (what : DueWord) (c : Call) (output : StepOutput) → AtOffered x → Others c → Counted output → Good (on_due config now x what (offered_call x c) output)
  due_transition now x (due.NoReply number) c output t k had =
      if_good (number == x.attempt.number) (on_attempt_timeout config now x NoReply (offered_call x c) output) (step_result (offered_call x c) output)
      (timed_out_good now x NoReply (offered_call x c) output t k had) (onward_good (offered_call x c) output t k had)
  due_transition now x (due.NoPrack own) c output t k had =
      if_good (has_own own c.acks.waiting) (end_before_answer causes.Unacknowledged config now.at x (offered_call x c) output) (step_result (offered_call x c) output)
      (given_up_by_good causes.Unacknowledged now.at x (offered_call x c) output t k had) (onward_good (offered_call x c) output t k had)
  due_transition now x (due.Cap number) c output t k had =
      if_good (number == x.attempt.number) (on_attempt_timeout config now x (end_by_time x.attempt.rang) (offered_call x c) output) (step_result (offered_call x c) output)
      (timed_out_good now x (end_by_time x.attempt.rang) (offered_call x c) output t k had) (onward_good (offered_call x c) output t k had)
  due_transition now x (due.NoAck number) c output t k had = onward_good (offered_call x c) output t k had
  due_transition now x (due.Expired number) c output t k had = onward_good (offered_call x c) output t k had

  given_up_good : (at : ℕ) (x : OfferedAttempt) (c : Call) (output : StepOutput) → AtOffered x → Others c → Counted output → Good (on_caller_cancel config at x c output)
  given_up_good at x c output t k had = given_up_by_good causes.Cancelled at x c output t k had

  cancel_transition : (at : ℕ) (x : OfferedAttempt) (key : TKey) (m : MessageView) (invite : TKey) (c : Call) (output : StepOutput) → AtOffered x → Others c → Counted output →
      Good (on_cancel config at x key m invite (offered_call x c) output)
  cancel_transition at x key m invite c output t k had =
      let told : Counted (with_status_to config (offered_call x c) key m 200 output) = replied_in (offered_call x c) key m 200 output had in
      if_good (invite.0 == c.opening.key.0) (on_caller_cancel config at x (offered_call x c) (with_status_to config (offered_call x c) key m 200 output))
      (step_result (offered_call x c) (with_status_to config (offered_call x c) key m 200 output))
      (given_up_good at x (offered_call x c) (with_status_to config (offered_call x c) key m 200 output) t k told)
      (onward_good (offered_call x c) (with_status_to config (offered_call x c) key m 200 output) t k told)

  received_transition : (at : ℕ) (x : OfferedAttempt) (side : Side) (key : TKey) (m : MessageView) (c : Call) (output : StepOutput) → AtOffered x → Others c → Counted output →
      Good (on_valid_request config at x side key m (offered_call x c) output)
  received_transition at x Caller key m c output t k had =
      if_good (is_bye m) (on_caller_cancel config at x (offered_call x c) (with_status_to config (offered_call x c) key m 200 output)) (on_other config x Caller key m (offered_call x c) output)
      (given_up_good at x (offered_call x c) (with_status_to config (offered_call x c) key m 200 output) t k (replied_in (offered_call x c) key m 200 output had))
      (on_other_transition x Caller key m (offered_call x c) output t t k had)
  received_transition at x Callee key m c output t k had = on_other_transition x Callee key m (offered_call x c) output t t k had

  received_by_sent : (side : Side) (m : MessageView) (x : OfferedAttempt) → AtOffered x → AtOffered (attempt_after_request side m x)
  received_by_sent Caller m x t = t
  received_by_sent Callee m x t = t

  request_if_transition : (r : Result (Unit {0}) DialogueFault) (at : ℕ) (x : OfferedAttempt) (side : Side) (key : TKey) (m : MessageView) (c : Call) (output : StepOutput) →
      AtOffered x → Others c → Counted output → Good (on_request_if r config at x side key m (offered_call x c) output)
  request_if_transition (Ok received) at x side key m c output t k had = received_transition at (attempt_after_request side m x) side key m c output (received_by_sent side m x t) k had
  request_if_transition (Err fault) at x side key m c output t k had =
      onward_good (offered_call x c) (with_refused_request config (offered_call x c) key m fault output) t k (refused_request_in (offered_call x c) key m fault output had)

  request_transition : (at : ℕ) (x : OfferedAttempt) (side : Side) (key : TKey) (m : MessageView) (c : Call) (output : StepOutput) → AtOffered x → Others c → Counted output →
      Good (on_request config at x side key m (offered_call x c) output)
  request_transition at x side key m c output t k had = request_if_transition (offered_request_check x side m) at x side key m c output t k had

  -- ---- once it is answered

  bye_to_in : (x : EstablishedLegs) (side : Side) (output : StepOutput) → Counted output → Counted (with_bye_to config x side output)
  bye_to_in x side output had = bye_in (leg_of side x).dialogue output had

  acked_remaining_in : (x : EstablishedLegs) (side : Side) (output : StepOutput) → Counted output → Counted (with_ack_and_bye config x side output)
  acked_remaining_in x side output had = bye_to_in x side (with_ack config.sip (leg_of side x).dialogue output) (acked_in (leg_of side x).dialogue output had)

  over_established_good : (at : ℕ) (x : EstablishedLegs) (c : Call) (output : StepOutput) → Others c → Counted output → Good (established_call_end at x c output)
  over_established_good at x c output k had = over_good at causes.Ended x.caller.meter x.callee.meter c output k had

  abbrev established : EstablishedLegs → Stage → Call → Call
  established x stage c = record c { phase = Established x stage }

  staged_good : (x : EstablishedLegs) (stage : Stage) (c : Call) (output : StepOutput) → AtStage x stage → Others c → Counted output → Good (step_result (established x stage c) output)
  staged_good x stage c output e k had = onward_good (established x stage c) output e k had

  with_ack_sent : (branch sample : List ℕ) (t : AnsweredInvite) → AnsweredWasSent sent t → AnsweredWasSent sent (with_kept_ack branch sample t)
  with_ack_sent branch sample t is = by (bytes_eq t.invite.branch branch)
    where
      by : (b : Bool) → AnsweredWasSent sent (if b then record t { invite = record t.invite { ack = Some sample } } else t)
      by true = is
      by false = is

  acked_across_good : (x : EstablishedLegs) (side : Side) (success : Success) (m : MessageView) (c : Call) (output : StepOutput) → Others c → Counted output → Good (after_ack_across config x side success m c output)
  acked_across_good x side success m c output k had =
      let d : Dialogue = (leg_of (other_side side) x).dialogue in
      let sample : List ℕ = relayed_ack_text config.sip d (token output) (copied_across config c x side m) m.parsed in
      good (after_ack_across config x side success m c output) tt
      (record {
        abandoned_in = k.abandoned_in;
        answered_in = each_map (AnsweredWasSent sent) (AnsweredWasSent sent) (with_kept_ack success.branch sample) (with_ack_sent success.branch sample) c.answered_invites k.answered_in;
        in_flight_in = k.in_flight_in;
      })
      (acked_for_in d (copied_across config c x side m) m.parsed output had)

  parted_good : (at : ℕ) (x : EstablishedLegs) (side : Side) (c : Call) (output : StepOutput) → Others c → Counted output → Good (after_departure config at x side c output)
  parted_good at x side c output k had = over_established_good at x c (with_bye_to config x side output) k (bye_to_in x side output had)

  unacknowledged_good : (at : ℕ) (x : EstablishedLegs) (side : Side) (c : Call) (output : StepOutput) → Others c → Counted output → Good (after_ack_timeout config at x side c output)
  unacknowledged_good at x side c output k had =
      over_established_good at x c (with_bye_to config x side (with_ack_and_bye config x (other_side side) output)) k
      (bye_to_in x side (with_ack_and_bye config x (other_side side) output) (acked_remaining_in x (other_side side) output had))

  bye_before_good : (at : ℕ) (x : EstablishedLegs) (waiting : Side) (success : Success) (side : Side) (c : Call) (output : StepOutput) → Others c → Counted output →
      Good (after_bye_before_ack config at x waiting success side c output)
  bye_before_good at x waiting success side c output k had =
      if_good (is_same_side waiting side) (established_call_end at x c (with_ack_and_bye config x (other_side side) output)) (step_result (at_stage x (Departing waiting success) c) output)
      (over_established_good at x c (with_ack_and_bye config x (other_side side) output) k (acked_remaining_in x (other_side side) output had))
      (staged_good x (Departing waiting success) c output tt k had)

  -- an INVITE is relayed

  with_leg_sent : (branch : List ℕ) (side : Side) (leg : Leg) (x : EstablishedLegs) → sent branch leg.dialogue.peer → sent branch (leg_of side (with_leg side leg x)).dialogue.peer
  with_leg_sent branch Caller leg x is = is
  with_leg_sent branch Callee leg x is = is

  asked_across_good : (x : EstablishedLegs) (side : Side) (key : TKey) (m : MessageView) (c : Call) (output : StepOutput) → Others c → Counted output → Good (after_invite_across config x side key m c output)
  asked_across_good x side key m c output k had =
      let leg : Leg = leg_of (other_side side) x in
      let d : Dialogue = leg.dialogue in
      let given : RequestPartsView = relayed_parts config.sip (token output) (copied_across config c x side m) m.parsed in
      let n : Message Start = request_of d (codes "INVITE") given in
      let is : IsInvite config.sip (token output) n = record { dialogue = d; number = next_number d.local_cseq; parts = given; is = refl; from_there = refl; has_it = refl } in
      record {
        call_in = λ each.
            let was : sent (token output) d.peer = each_last AskWasSent output.out (emit.Ask d.peer n) each (codes "INVITE") (token output) is in
            record { phase_in = (was, with_leg_sent (token output) (other_side side) (leg_after_invite leg) x was); others_in = k };
        output_in = asked_in (codes "INVITE") d.peer n output refl is had;
      }

  invited_good : (x : EstablishedLegs) (side : Side) (key : TKey) (m : MessageView) (c : Call) (output : StepOutput) → Others c → Counted output → Good (on_reinvite config x side key m c output)
  invited_good x side key m c output k had = asked_across_good x side key m c (with_status_to config c key m 100 output) k (replied_in c key m 100 output had)

  -- and the responses to it are relayed back

  relayed_back_in : (x : EstablishedLegs) (side : Side) (q : Reinvite) (m : MessageView) (c : Call) (output : StepOutput) → Counted output → Counted (with_relayed_back config x side q m c output)
  relayed_back_in x side q m c output had = emit_in _ output (λ n. refl) had

  proceeding_sent : (key : TKey) (q : Reinvite) (peer : Peer) → SentInviteWasSent sent q.invite × sent q.invite.branch peer →
      SentInviteWasSent sent (reinvite_after_provisional key q).invite × sent (reinvite_after_provisional key q).invite.branch peer
  proceeding_sent key q peer is = by q.cancel_due (is_cancellable (with_provisional key q.invite))
    where
      by : (t u : Bool) →
          SentInviteWasSent sent (if t then (if u then record (with_provisional key q.invite) { cancelled = true } else with_provisional key q.invite) else with_provisional key q.invite) ×
          sent (if t then (if u then record (with_provisional key q.invite) { cancelled = true } else with_provisional key q.invite) else with_provisional key q.invite).branch peer
      by true true = is
      by true false = is
      by false u = is

  proceeding_across_good : (x : EstablishedLegs) (side : Side) (q : Reinvite) (key : TKey) (c : Call) (output : StepOutput) → AtStage x (Reinviting side q) → Others c → Counted output →
      Good (on_provisional_across config x side q key c output)
  proceeding_across_good x side q key c output e k had =
      staged_good x (Reinviting side (reinvite_after_provisional key q)) c (with_cancel_if_due config key q output) (proceeding_sent key q (leg_of (other_side side) x).dialogue.peer e) k
      (if_output q.cancel_due (with_due_cancel config.sip (with_provisional key q.invite) output) output (cancelled_in (with_provisional key q.invite) output had) had)

  agreed_good : (at : ℕ) (x : EstablishedLegs) (side : Side) (q : Reinvite) (key : TKey) (m : MessageView) (c : Call) (output : StepOutput) → AtStage x (Reinviting side q) → Others c →
      Counted output → Good (on_accepted_reinvite config at x side q key m c output)
  agreed_good at x side q key m c output e k had =
      good (on_accepted_reinvite config at x side q key m c output) e.1
      (record { abandoned_in = k.abandoned_in; answered_in = each_append (AnsweredWasSent sent) c.answered_invites (new_answered_invite key m true q.invite ∷ []) k.answered_in (e.0, tt); in_flight_in = k.in_flight_in })
      (expiry_awaited at m c _ (emit_in _ (with_relayed_back config x side q m c output) (λ n. refl) (relayed_back_in x side q m c output had)))

  refused_back_in : (x : EstablishedLegs) (side : Side) (q : Reinvite) (key : TKey) (m : MessageView) (c : Call) (output : StepOutput) → Counted output → Counted (with_refusal_back config x side q key m c output)
  refused_back_in x side q key m c output had = relayed_back_in x side q m c (with_final_ack config.sip key q.invite m.parsed output) (final_acked_in key q.invite m.parsed output had)

  bye_both_in : (x : EstablishedLegs) (output : StepOutput) → Counted output → Counted (with_byes config x output)
  bye_both_in x output had = bye_to_in x Callee (with_bye_to config x Caller output) (bye_to_in x Caller output had)

  across_good : (at : ℕ) (x : EstablishedLegs) (side : Side) (q : Reinvite) (key : TKey) (m : MessageView) (code : ℕ) (c : Call) (output : StepOutput) →
      AtStage x (Reinviting side q) → Others c → Counted output → Good (on_response_across config at x side q key m code c output)
  across_good at x side q key m code c output e k had =
      let back : StepOutput = with_refusal_back config x side q key m c output in
      let told : Counted back = refused_back_in x side q key m c output had in
      if_good (nat_lt code 200) (on_provisional_across config x side q key c output) (if nat_lt code 300 then on_accepted_reinvite config at x side q key m c output else if ends_dialog code
      then established_call_end at x c (with_byes config x back) else step_result (at_stage x Stable c) back)
      (proceeding_across_good x side q key c output e k had)
      (if_good (nat_lt code 300) (on_accepted_reinvite config at x side q key m c output) (if ends_dialog code then established_call_end at x c (with_byes config x back) else step_result (at_stage x Stable c) back)
      (agreed_good at x side q key m c output e k had)
      (if_good (ends_dialog code) (established_call_end at x c (with_byes config x back)) (step_result (at_stage x Stable c) back)
      (over_established_good at x c (with_byes config x back) k (bye_both_in x back told))
      (staged_good x Stable c back tt k told)))

  timed_out_across_good : (at : ℕ) (x : EstablishedLegs) (q : Reinvite) (c : Call) (output : StepOutput) → Others c → Counted output → Good (on_timeout_across config at x q c output)
  timed_out_across_good at x q c output k had =
      over_established_good at x c (with_byes config x (with_status_to config c q.key q.request 408 output)) k
      (bye_both_in x (with_status_to config c q.key q.request 408 output) (replied_in c q.key q.request 408 output had))

  cancelling_sent : (q : Reinvite) (peer : Peer) → SentInviteWasSent sent q.invite × sent q.invite.branch peer → SentInviteWasSent sent (reinvite_after_cancel q).invite × sent (reinvite_after_cancel q).invite.branch peer
  cancelling_sent q peer is = by (is_cancellable q.invite)
    where
      by : (t : Bool) → SentInviteWasSent sent (if t then record q.invite { cancelled = true } else q.invite) × sent (if t then record q.invite { cancelled = true } else q.invite).branch peer
      by true = is
      by false = is

  cancelled_across_good : (x : EstablishedLegs) (side : Side) (q : Reinvite) (c : Call) (output : StepOutput) → AtStage x (Reinviting side q) → Others c → Counted output → Good (on_cancel_across config x side q c output)
  cancelled_across_good x side q c output e k had =
      staged_good x (Reinviting side (reinvite_after_cancel q)) c (with_due_cancel config.sip q.invite output) (cancelling_sent q (leg_of (other_side side) x).dialogue.peer e) k (cancelled_in q.invite output had)

  bye_while_good : (at : ℕ) (x : EstablishedLegs) (asking : Side) (q : Reinvite) (leaving : Side) (c : Call) (output : StepOutput) → AtStage x (Reinviting asking q) → Others c → Counted output →
      Good (on_bye_reinviting config at x asking q leaving c output)
  bye_while_good at x asking q leaving c output e k had =
      over_established_good at x (with_abandoned (abandoned_across x asking leaving q) c) (with_bye_to config x (other_side leaving) (with_status_to config c q.key q.request 487 output))
      (with_abandoned_sent (abandoned_across x asking leaving q) c e.0 k)
      (bye_to_in x (other_side leaving) (with_status_to config c q.key q.request 487 output) (replied_in c q.key q.request 487 output had))

  -- by stage

  invite_transition : (stage : Stage) (x : EstablishedLegs) (side : Side) (key : TKey) (m : MessageView) (c : Call) (output : StepOutput) → AtStage x stage → Others c → Counted output →
      Good (on_invite stage config x side key m (established x stage c) output)
  invite_transition (Answered waiting success) x side key m c output e k had = staged_good x (Answered waiting success) c output e k had
  invite_transition (Departing waiting success) x side key m c output e k had = staged_good x (Departing waiting success) c output e k had
  invite_transition Stable x side key m c output e k had = invited_good x side key m (established x Stable c) output k had
  invite_transition (Reinviting asking q) x side key m c output e k had = staged_good x (Reinviting asking q) c output e k had

  left_transition : (stage : Stage) (at : ℕ) (x : EstablishedLegs) (side : Side) (m : MessageView) (c : Call) (output : StepOutput) → AtStage x stage → Others c → Counted output →
      Good (after_bye_at stage config at x side m c output)
  left_transition (Answered waiting success) at x side m c output e k had = bye_before_good at x waiting success side c output k had
  left_transition (Departing waiting success) at x side m c output e k had = over_established_good at x c output k had
  left_transition Stable at x side m c output e k had =
      over_established_good at x c (with_relayed_request config.sip (codes "BYE") (leg_of (other_side side) x).dialogue (copied_across config c x side m) m.parsed output) k
      (bye_for (leg_of (other_side side) x).dialogue (copied_across config c x side m) m.parsed output had)
  left_transition (Reinviting asking q) at x side m c output e k had = bye_while_good at x asking q side c output e k had

  bye_transition : (stage : Stage) (at : ℕ) (x : EstablishedLegs) (side : Side) (key : TKey) (m : MessageView) (c : Call) (output : StepOutput) → AtStage x stage → Others c → Counted output →
      Good (on_bye stage config at x side key m (established x stage c) output)
  bye_transition stage at x side key m c output e k had =
      if_good (has_departed stage side) (step_result (established x stage c) (with_status_to config (established x stage c) key m 481 output))
      (after_bye_at stage config at x side m (established x stage c) (with_status_to config (established x stage c) key m 200 output))
      (staged_good x stage c (with_status_to config (established x stage c) key m 481 output) e k (replied_in (established x stage c) key m 481 output had))
      (left_transition stage at x side m (established x stage c) (with_status_to config (established x stage c) key m 200 output) e k (replied_in (established x stage c) key m 200 output had))

  update_at_transition : (stage : Stage) (x : EstablishedLegs) (side : Side) (key : TKey) (m : MessageView) (c : Call) (output : StepOutput) → AtStage x stage → Others c → Counted output →
      Good (on_update_at stage config x side key m (established x stage c) output)
  update_at_transition (Answered waiting success) x side key m c output e k had = crossing_transition key m (established x (Answered waiting success) c) output e k had
  update_at_transition (Departing waiting success) x side key m c output e k had = crossing_transition key m (established x (Departing waiting success) c) output e k had
  update_at_transition Stable x side key m c output e k had =
      unless_transition (updating_side c.relayed) (on_stable_update config x side key m) side key m (established x Stable c) output tt k had
      (asked_on_transition x.service side (leg_of (other_side side) x) key m _ output tt k had)
  update_at_transition (Reinviting asking q) x side key m c output e k had = crossing_transition key m (established x (Reinviting asking q) c) output e k had

  received_at_transition : (stage : Stage) (at : ℕ) (x : EstablishedLegs) (side : Side) (key : TKey) (m : MessageView) (c : Call) (output : StepOutput) → AtStage x stage → Others c → Counted output →
      Good (on_valid_request_at stage config at x side key m (established x stage c) output)
  received_at_transition stage at x side key m c output e k had =
      let now : Call = established x stage c in
      let rest : StepResult = if is_prack m then on_refused_prack config key m now output else step_result now (with_unlisted_response config now key m output) in
      if_good (is_invite m) (on_invite stage config x side key m now output)
      (if is_bye m then on_bye stage config at x side key m now output else if is_update m then on_update_at stage config x side key m now output else rest)
      (invite_transition stage x side key m c output e k had)
      (if_good (is_bye m) (on_bye stage config at x side key m now output) (if is_update m then on_update_at stage config x side key m now output else rest)
      (bye_transition stage at x side key m c output e k had)
      (if_good (is_update m) (on_update_at stage config x side key m now output) rest
      (update_at_transition stage x side key m c output e k had)
      (if_good (is_prack m) (on_refused_prack config key m now output) (step_result now (with_unlisted_response config now key m output))
      (prack_refused_transition key m now output e k had)
      (staged_good x stage c (with_unlisted_response config now key m output) e k (unlisted_in now key m output had)))))

  -- a request does not change the peer of either leg
  leg_received : (branch : List ℕ) (of side : Side) (m : MessageView) (x : EstablishedLegs) → sent branch (leg_of of x).dialogue.peer →
      sent branch (leg_of of (with_leg side (leg_after_receiving (leg_of side x) m) x)).dialogue.peer
  leg_received branch Caller Caller m x is = is
  leg_received branch Caller Callee m x is = is
  leg_received branch Callee Caller m x is = is
  leg_received branch Callee Callee m x is = is

  stage_received : (stage : Stage) (side : Side) (m : MessageView) (x : EstablishedLegs) → AtStage x stage → AtStage (with_leg side (leg_after_receiving (leg_of side x) m) x) stage
  stage_received (Answered waiting success) side m x e = leg_received success.branch (other_side waiting) side m x e
  stage_received (Departing waiting success) side m x e = tt
  stage_received Stable side m x e = tt
  stage_received (Reinviting asking q) side m x e = (e.0, leg_received q.invite.branch (other_side asking) side m x e.1)

  request_at_if_transition : (r : Result (Unit {0}) DialogueFault) (stage : Stage) (at : ℕ) (x : EstablishedLegs) (side : Side) (key : TKey) (m : MessageView) (c : Call) (output : StepOutput) →
      AtStage x stage → Others c → Counted output → Good (on_request_at_if r stage config at x side key m (established x stage c) output)
  request_at_if_transition (Ok received) stage at x side key m c output e k had =
      received_at_transition stage at (with_leg side (leg_after_receiving (leg_of side x) m) x) side key m c output (stage_received stage side m x e) k had
  request_at_if_transition (Err fault) stage at x side key m c output e k had =
      staged_good x stage c (with_refused_request config (established x stage c) key m fault output) e k (refused_request_in (established x stage c) key m fault output had)

  request_at_transition : (stage : Stage) (at : ℕ) (x : EstablishedLegs) (side : Side) (key : TKey) (m : MessageView) (c : Call) (output : StepOutput) → AtStage x stage → Others c → Counted output →
      Good (on_request_at stage config at x side key m (established x stage c) output)
  request_at_transition stage at x side key m c output e k had = request_at_if_transition (request_check (leg_of side x) m (busy_in stage side)) stage at x side key m c output e k had

  ack_at_transition : (stage : Stage) (at : ℕ) (x : EstablishedLegs) (side : Side) (m : MessageView) (c : Call) (output : StepOutput) → AtStage x stage → Others c → Counted output →
      Good (on_ack_at stage config at x side m (established x stage c) output)
  ack_at_transition (Answered waiting success) at x side m c output e k had =
      if_good (acknowledges waiting success side m) (after_ack_across config x side success m (established x (Answered waiting success) c) output) (step_result (established x (Answered waiting success) c) output)
      (acked_across_good x side success m (established x (Answered waiting success) c) output k had) (staged_good x (Answered waiting success) c output e k had)
  ack_at_transition (Departing waiting success) at x side m c output e k had =
      if_good (acknowledges waiting success side m) (after_departure config at x side (established x (Departing waiting success) c) output) (step_result (established x (Departing waiting success) c) output)
      (parted_good at x side (established x (Departing waiting success) c) output k had) (staged_good x (Departing waiting success) c output e k had)
  ack_at_transition Stable at x side m c output e k had = staged_good x Stable c output e k had
  ack_at_transition (Reinviting asking q) at x side m c output e k had = staged_good x (Reinviting asking q) c output e k had

  cancel_at_transition : (stage : Stage) (x : EstablishedLegs) (invite : TKey) (c : Call) (output : StepOutput) → AtStage x stage → Others c → Counted output →
      Good (on_cancel_at stage config x invite (established x stage c) output)
  cancel_at_transition (Answered waiting success) x invite c output e k had = staged_good x (Answered waiting success) c output e k had
  cancel_at_transition (Departing waiting success) x invite c output e k had = staged_good x (Departing waiting success) c output e k had
  cancel_at_transition Stable x invite c output e k had = staged_good x Stable c output e k had
  cancel_at_transition (Reinviting asking q) x invite c output e k had =
      if_good (invite.0 == q.key.0) (on_cancel_across config x asking q (established x (Reinviting asking q) c) output) (step_result (established x (Reinviting asking q) c) output)
      (cancelled_across_good x asking q (established x (Reinviting asking q) c) output e k had) (staged_good x (Reinviting asking q) c output e k had)

  response_at_transition : (stage : Stage) (at : ℕ) (x : EstablishedLegs) (key : TKey) (m : MessageView) (c : Call) (output : StepOutput) → AtStage x stage → Others c → Counted output →
      Good (on_response_at stage config at x key m (established x stage c) output)
  response_at_transition (Answered waiting success) at x key m c output e k had = staged_good x (Answered waiting success) c output e k had
  response_at_transition (Departing waiting success) at x key m c output e k had = staged_good x (Departing waiting success) c output e k had
  response_at_transition Stable at x key m c output e k had = staged_good x Stable c output e k had
  response_at_transition (Reinviting asking q) at x key m c output e k had = across_good at x asking q key m (status_of m.parsed.start) (established x (Reinviting asking q) c) output e k had

  timeout_at_transition : (stage : Stage) (at : ℕ) (x : EstablishedLegs) (c : Call) (output : StepOutput) → AtStage x stage → Others c → Counted output →
      Good (on_timeout_at stage config at x (established x stage c) output)
  timeout_at_transition (Answered waiting success) at x c output e k had = staged_good x (Answered waiting success) c output e k had
  timeout_at_transition (Departing waiting success) at x c output e k had = staged_good x (Departing waiting success) c output e k had
  timeout_at_transition Stable at x c output e k had = staged_good x Stable c output e k had
  timeout_at_transition (Reinviting asking q) at x c output e k had = timed_out_across_good at x q (established x (Reinviting asking q) c) output k had

  rung_transition : (stage : Stage) (at : ℕ) (x : EstablishedLegs) (c : Call) (output : StepOutput) → AtStage x stage → Others c → Counted output → Good (after_timer_at stage config at x (established x stage c) output)
  rung_transition (Answered waiting success) at x c output e k had = unacknowledged_good at x waiting (established x (Answered waiting success) c) output k had
  rung_transition (Departing waiting success) at x c output e k had = parted_good at x waiting (established x (Departing waiting success) c) output k had
  rung_transition Stable at x c output e k had =
      over_established_good at x (established x Stable c) (with_byes config x output) k (bye_both_in x output had)
  rung_transition (Reinviting asking q) at x c output e k had =
      let now : Call = established x (Reinviting asking q) c in
      over_established_good at x (with_abandoned (abandoned_across x asking asking q) now) (with_byes config x (with_status_to config now q.key q.request 487 output))
      (with_abandoned_sent (abandoned_across x asking asking q) now e.0 k)
      (bye_both_in x (with_status_to config now q.key q.request 487 output) (replied_in now q.key q.request 487 output had))

  due_at_transition : (stage : Stage) (at : ℕ) (x : EstablishedLegs) (what : DueWord) (c : Call) (output : StepOutput) → AtStage x stage → Others c → Counted output →
      Good (on_due_at stage config at x what (established x stage c) output)
  due_at_transition stage at x what c output e k had =
      if_good (is_due_at stage c.successes what) (after_timer_at stage config at x (established x stage c) output) (step_result (established x stage c) output)
      (rung_transition stage at x c output e k had) (staged_good x stage c output e k had)

  -- ---- INVITEs for which the call does not wait

  record GoodRest (rest : AfterResponse) : Type 0 where
    remaining_in : IfSome rest.remaining (AbandonedWasSent sent)
    output_in : Counted rest.output

  if_rest : (b : Bool) (one two : AfterResponse) → GoodRest one → GoodRest two → GoodRest (if b then one else two)
  if_rest true one two e f = e
  if_rest false one two e f = f

  late_rest : (l : AbandonedInvite) (output : StepOutput) → AbandonedWasSent sent l → Counted output → GoodRest (after_due_cancel config.sip l output)
  late_rest l output is had =
      if_rest l.invite.cancelled (record { remaining = Some l; output = output }) (record { remaining = Some (with_invite l (record l.invite { cancelled = true })); output = with_cancel config.sip l.invite output })
      (record { remaining_in = is; output_in = had }) (record { remaining_in = is; output_in = cancel_sent_in l.invite output had })

  success_rest : (l : AbandonedInvite) (remote : Remote) (o : Option Dialogue) (output : StepOutput) → AbandonedWasSent sent l → Counted output → GoodRest (on_success_in config.sip l remote o output)
  success_rest l remote (Some d) output is had = record { remaining_in = is; output_in = acked_in d output had }
  success_rest l remote None output is had =
      let d : Dialogue = left_ones.dialogue_of_success l.in_dialog l.invite.early l.invite.early_cseq l.invite.dialogue remote in
      record { remaining_in = is; output_in = bye_in d (with_ack config.sip d output) (acked_in d output had) }

  late_response : (key : TKey) (m : ParsedMessage) (l : AbandonedInvite) (output : StepOutput) → AbandonedWasSent sent l → Counted output → GoodRest (left_ones.on_response config.sip key m l output)
  late_response key m l output is had =
      let said : AbandonedInvite = after_provisional key m l in
      let known : AbandonedInvite = with_invite l (with_key key l.invite) in
      if_rest (nat_lt (status_of m.start) 200) (after_due_cancel config.sip said output)
      (if nat_lt (status_of m.start) 300 then on_success config.sip known (remote_of Callee m.lines) output else record { remaining = None; output = with_final_ack config.sip key l.invite m output })
      (late_rest said output is had)
      (if_rest (nat_lt (status_of m.start) 300) (on_success config.sip known (remote_of Callee m.lines) output) (record { remaining = None; output = with_final_ack config.sip key l.invite m output })
      (success_rest known (remote_of Callee m.lines) (ended_dialog known (remote_of Callee m.lines).tag) output is had)
      (record { remaining_in = tt; output_in = final_acked_in key l.invite m output had }))

  abandoned_transition : (key : TKey) (m : MessageView) (at : ℕ) (o : Option AbandonedInvite) (c : Call) (output : StepOutput) → IfSome o (AbandonedWasSent sent) → At c.phase → Others c →
      Counted output → Good (on_response_abandoned config key m at o c output)
  abandoned_transition key m at None c output e p k had = onward_good c output p k had
  abandoned_transition key m at (Some l) c output e p k had =
      let rest : AfterResponse = left_ones.on_response config.sip key m.parsed l output in
      let is : GoodRest rest = late_response key m.parsed l output e had in
      good (with_abandoned_rest at rest c) p
      (record {
        abandoned_in = each_append (AbandonedWasSent sent) (without_at at c.abandoned) (option_to_list rest.remaining) (each_without (AbandonedWasSent sent) at c.abandoned k.abandoned_in)
            (each_option (AbandonedWasSent sent) rest.remaining is.remaining_in);
        answered_in = k.answered_in;
        in_flight_in = k.in_flight_in;
      })
      is.output_in

  again_sent : (t : AnsweredInvite) (o : Option AbandonedInvite) → IfSome o (AbandonedWasSent sent) → IfSome (answered_after t o) (AnsweredWasSent sent)
  again_sent t None e = tt
  again_sent t (Some l) e = e

  forked_transition : (key : TKey) (m : MessageView) (at : ℕ) (t : AnsweredInvite) (c : Call) (output : StepOutput) → AnsweredWasSent sent t → At c.phase → Others c → Counted output →
      Good (on_forked_response config key m at t c output)
  forked_transition key m at t c output e p k had =
      let rest : AfterResponse = left_ones.on_response config.sip key m.parsed (as_abandoned t) output in
      let is : GoodRest rest = late_response key m.parsed (as_abandoned t) output e had in
      good (on_forked_response config key m at t c output) p
      (record {
        abandoned_in = k.abandoned_in;
        answered_in = each_append (AnsweredWasSent sent) (without_at at c.answered_invites) (option_to_list (answered_after t rest.remaining)) (each_without (AnsweredWasSent sent) at c.answered_invites k.answered_in)
            (each_option (AnsweredWasSent sent) (answered_after t rest.remaining) (again_sent t rest.remaining is.remaining_in));
        in_flight_in = k.in_flight_in;
      })
      is.output_in

  acked_again_in : (t : AnsweredInvite) (o : Option (List ℕ)) (output : StepOutput) → Counted output → Counted (with_retransmitted_ack t o output)
  acked_again_in t None output had = had
  acked_again_in t (Some sample) output had = emit_in (emit.Plain t.invite.dialogue.peer sample) output (λ n. refl) had

  answered_transition : (key : TKey) (m : MessageView) (at : ℕ) (o : Option AnsweredInvite) (c : Call) (output : StepOutput) → IfSome o (AnsweredWasSent sent) → At c.phase → Others c →
      Counted output → Good (on_response_answered config key m at o c output)
  answered_transition key m at None c output e p k had = onward_good c output p k had
  answered_transition key m at (Some t) c output e p k had =
      if_good (not (is_success (status_of m.parsed.start))) (step_result c output) (if is_fork t m then on_forked_response config key m at t c output else on_retransmitted_success t c output)
      (onward_good c output p k had)
      (if_good (is_fork t m) (on_forked_response config key m at t c output) (on_retransmitted_success t c output) (forked_transition key m at t c output e p k had)
      (onward_good c (if is_stable c.phase then with_retransmitted_ack t t.invite.ack output else output) p k
      (if_output (is_stable c.phase) (with_retransmitted_ack t t.invite.ack output) output (acked_again_in t t.invite.ack output had) had)))

  answered_at_transition : (at : ℕ) (key : TKey) (m : MessageView) (branch : List ℕ) (o : Option ℕ) (c : Call) (output : StepOutput) → At c.phase → Others c → Counted output →
      Good (on_response_answered_at config at key m branch o c output)
  answered_at_transition at key m branch None c output p k had = in_flight_transition at m (position (is_in_flight branch) c.relayed) c output p k had
  answered_at_transition at key m branch (Some place) c output p k had =
      answered_transition key m place (slice_get c.answered_invites place) c output (each_get (AnsweredWasSent sent) c.answered_invites place k.answered_in) p k had

  at_transition : (at : ℕ) (key : TKey) (m : MessageView) (branch : List ℕ) (o : Option ℕ) (c : Call) (output : StepOutput) → At c.phase → Others c → Counted output →
      Good (on_other_response_at config at key m branch o c output)
  at_transition at key m branch None c output p k had = answered_at_transition at key m branch (position (is_answered_invite branch) c.answered_invites) c output p k had
  at_transition at key m branch (Some place) c output p k had = abandoned_transition key m place (slice_get c.abandoned place) c output (each_get (AbandonedWasSent sent) c.abandoned place k.abandoned_in) p k had

  other_transition : (at : ℕ) (key : TKey) (m : MessageView) (branch : List ℕ) (c : Call) (output : StepOutput) → At c.phase → Others c → Counted output → Good (on_other_response config at key m branch c output)
  unfolding on_other_response
  other_transition at key m branch c output p k had = at_transition at key m branch (position (is_of_branch branch) c.abandoned) c output p k had

  timed_out_at_transition : (branch : List ℕ) (o : Option ℕ) (c : Call) (output : StepOutput) → At c.phase → Others c → Counted output → Good (on_other_timeout_at config branch o c output)
  timed_out_at_transition branch None c output p k had = timed_out_in_flight_transition (position (is_in_flight branch) c.relayed) c output p k had
  timed_out_at_transition branch (Some place) c output p k had =
      good (step_result (without_timed_out branch c) output) p
      (record { abandoned_in = without_each (AbandonedWasSent sent) (position (is_of_branch branch) c.abandoned) c.abandoned k.abandoned_in; answered_in = k.answered_in; in_flight_in = k.in_flight_in }) had

  timed_out_transition : (branch : List ℕ) (c : Call) (output : StepOutput) → At c.phase → Others c → Counted output → Good (on_other_timeout config branch c output)
  timed_out_transition branch c output p k had = timed_out_at_transition branch (position (is_of_branch branch) c.abandoned) c output p k had

  key_transition : (key : TKey) (c : Call) (output : StepOutput) → At c.phase → Others c → Counted output → Good (step_result (without_key key c) output)
  key_transition key c output p k had =
      good (step_result (without_key key c) output) p
      (record {
        abandoned_in = without_each (AbandonedWasSent sent) (position (is_abandoned_key key) c.abandoned) c.abandoned k.abandoned_in;
        answered_in = without_each (AnsweredWasSent sent) (position (is_answered_key key) c.answered_invites) c.answered_invites k.answered_in;
        in_flight_in = k.in_flight_in;
      }) had

  -- ---- the table, by phase

  abbrev at_phase : Phase → Call → Call
  at_phase phase c = record c { phase = phase }

  response_good : (phase : Phase) (now : SnapshotView) (key : TKey) (m : MessageView) (c : Call) (output : StepOutput) → At phase → Others c → Counted output →
      Good (response_in phase config now key m (at_phase phase c) output)
  response_good (Offered x) now key m c output p k had = response_transition now x key m (status_of m.parsed.start) (at_phase (Offered x) c) output p k had
  response_good (Established x stage) now key m c output p k had = response_at_transition stage now.at x key m c output p k had
  response_good (Detached detached) now key m c output p k had = onward_good (at_phase (Detached detached) c) output p k had
  response_good (Over cause) now key m c output p k had = onward_good (at_phase (Over cause) c) output p k had

  timeout_good : (phase : Phase) (now : SnapshotView) (c : Call) (output : StepOutput) → At phase → Others c → Counted output → Good (timeout_in phase config now (at_phase phase c) output)
  timeout_good (Offered x) now c output p k had = timeout_transition now x c output p k had
  timeout_good (Established x stage) now c output p k had = timeout_at_transition stage now.at x c output p k had
  timeout_good (Detached detached) now c output p k had = onward_good (at_phase (Detached detached) c) output p k had
  timeout_good (Over cause) now c output p k had = onward_good (at_phase (Over cause) c) output p k had

  request_good : (phase : Phase) (at : ℕ) (side : Side) (key : TKey) (m : MessageView) (c : Call) (output : StepOutput) → At phase → Others c → Counted output →
      Good (request_in phase config at side key m (at_phase phase c) output)
  request_good (Offered x) at side key m c output p k had = request_transition at x side key m c output p k had
  request_good (Established x stage) at side key m c output p k had = request_at_transition stage at x side key m c output p k had
  request_good (Detached detached) at side key m c output p k had = onward_good (at_phase (Detached detached) c) output p k had
  request_good (Over cause) at side key m c output p k had = onward_good (at_phase (Over cause) c) output p k had

  ack_good : (phase : Phase) (at : ℕ) (side : Side) (m : MessageView) (c : Call) (output : StepOutput) → At phase → Others c → Counted output → Good (ack_in phase config at side m (at_phase phase c) output)
  ack_good (Offered x) at side m c output p k had = onward_good (at_phase (Offered x) c) output p k had
  ack_good (Established x stage) at side m c output p k had = ack_at_transition stage at x side m c output p k had
  ack_good (Detached detached) at side m c output p k had = onward_good (at_phase (Detached detached) c) output p k had
  ack_good (Over cause) at side m c output p k had = onward_good (at_phase (Over cause) c) output p k had

  cancel_good : (phase : Phase) (at : ℕ) (key : TKey) (m : MessageView) (invite : TKey) (c : Call) (output : StepOutput) → At phase → Others c → Counted output →
      Good (cancel_in phase config at key m invite (at_phase phase c) output)
  cancel_good (Offered x) at key m invite c output p k had = cancel_transition at x key m invite c output p k had
  cancel_good (Established x stage) at key m invite c output p k had =
      cancel_at_transition stage x invite c (with_status_to config (at_phase (Established x stage) c) key m 200 output) p k (replied_in (at_phase (Established x stage) c) key m 200 output had)
  cancel_good (Detached detached) at key m invite c output p k had = onward_good (at_phase (Detached detached) c) output p k had
  cancel_good (Over cause) at key m invite c output p k had = onward_good (at_phase (Over cause) c) output p k had

  due_good : (phase : Phase) (now : SnapshotView) (what : DueWord) (c : Call) (output : StepOutput) → At phase → Others c → Counted output → Good (due_in phase config now what (at_phase phase c) output)
  due_good (Offered x) now what c output p k had = due_transition now x what c output p k had
  due_good (Established x stage) now what c output p k had = due_at_transition stage now.at x what c output p k had
  due_good (Detached detached) now what c output p k had = onward_good (at_phase (Detached detached) c) output p k had
  due_good (Over cause) now what c output p k had = onward_good (at_phase (Over cause) c) output p k had

  answer_good : (branch : Option (List ℕ)) (now : SnapshotView) (key : TKey) (m : MessageView) (c : Call) (output : StepOutput) → At c.phase → Others c → Counted output →
      Good (on_response_to branch config now key m c output)
  answer_good None now key m c output p k had = onward_good c output p k had
  answer_good (Some branch) now key m c output p k had =
      if_good (is_current branch c) (response_in c.phase config now key m c output) (on_other_response config now.at key m branch c output)
      (response_good c.phase now key m c output p k had) (other_transition now.at key m branch c output p k had)

  timeout_of_good : (branch : Option (List ℕ)) (now : SnapshotView) (c : Call) (output : StepOutput) → At c.phase → Others c → Counted output → Good (on_timeout_of branch config now c output)
  timeout_of_good None now c output p k had = onward_good c output p k had
  timeout_of_good (Some branch) now c output p k had =
      if_good (is_current branch c) (timeout_in c.phase config now c output) (on_other_timeout config branch c output)
      (timeout_good c.phase now c output p k had) (timed_out_transition branch c output p k had)

  transition_good : (now : SnapshotView) (received : Signal) (c : Call) (output : StepOutput) → At c.phase → Others c → Counted output → Good (transition config now received c output)
  unfolding transition
  transition_good now (signal.Request side key request) c output p k had = request_good c.phase now.at side key request c output p k had
  transition_good now (signal.Ack side ack) c output p k had = ack_good c.phase now.at side ack c output p k had
  transition_good now (signal.Cancel key cancel invite) c output p k had = cancel_good c.phase now.at key cancel invite c output p k had
  transition_good now (signal.Answer key response) c output p k had = answer_good (awaited_request_branch response) now key response c output p k had
  transition_good now (signal.Silent branch method) c output p k had = timeout_of_good (timed_out_branch branch method) now c output p k had
  transition_good now (signal.Due what) c output p k had = due_good c.phase now what c output p k had
  transition_good now (signal.Ended key) c output p k had = key_transition key c output p k had

  pub step_good : (now : SnapshotView) (received : Signal) (c : Call) (output : StepOutput) → At c.phase → Others c → Counted output → Good (step config now received c output)
  unfolding step
  step_good now received c output p k had =
      if_good (leaves received c) (transition config now received (without_in_flight c) (output_after_dismissal config c output)) (transition config now received c output)
      (transition_good now received (without_in_flight c) (output_after_dismissal config c output) p (with_in_flight [] c tt k) (dismissing_in c output had)) (transition_good now received c output p k had)

  -- ---- as it opens

  unless_refused_good : (cause : Option Cause) (now : SnapshotView) (caller : Leg) (c : Call) (output : StepOutput) → Others c → Counted output → Good (unless_refused cause config now caller c output)
  unless_refused_good None now caller c output k had = reach_good now caller None (initial_target c.opening) c output k had
  unless_refused_good (Some cause) now caller c output k had = refused_good now.at caller cause c output k had

  pub opened_good : (now : SnapshotView) (a : Arrival) (output : StepOutput) → Counted output → Good (call_after_opening config now a output)
  unfolding call_after_opening
  opened_good now a output had =
      let c : Call = new_call config (opening_of config now (token output) a) in
      unless_refused_good (opening_refusal config now.at c.opening) now (caller_of now.at c) c (with_status_to_caller config c 100 (after_draw output)) (record { abandoned_in = tt; answered_in = tt; in_flight_in = tt })
      (status_in c 100 (after_draw output) (drew_in output had))

  -- ---- without a detached leg

  finished_in_good : (phase : Phase) (at : ℕ) (c : Call) (output : StepOutput) → At phase → Others c → Counted output → Good (finish_of_phase phase config at (at_phase phase c) output)
  finished_in_good (Offered x) at c output p k had = onward_good (at_phase (Offered x) c) output p k had
  finished_in_good (Established x stage) at c output p k had = onward_good (at_phase (Established x stage) c) output p k had
  finished_in_good (Detached detached) at c output p k had =
      let left : Call = at_phase (Detached detached) c in
      let told : StepOutput = output_after_dismissal config left output in
      over_good at causes.Ended _ _ (without_in_flight left) (with_bye config.sip (released_leg detached.remaining).dialogue told) (with_in_flight [] left tt k)
      (bye_in (released_leg detached.remaining).dialogue told (dismissing_in left output had))
  finished_in_good (Over cause) at c output p k had = onward_good (at_phase (Over cause) c) output p k had

  pub finished_good : (at : ℕ) (c : Call) (output : StepOutput) → At c.phase → Others c → Counted output → Good (call_finish config at c output)
  unfolding call_finish
  finished_good at c output p k had = finished_in_good c.phase at c output p k had

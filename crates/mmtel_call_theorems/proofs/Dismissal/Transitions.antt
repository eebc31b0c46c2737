-- Each transition of the step table: where the attempt ends without a 2xx, or the call ends, nothing is added to the requests in flight; in any other the attempt is the same one, and the requests in flight continue.
use Rattle.std.proofs.Common.{◌≡◌, ◌⊎◌, inl, inr, ◌==◌, ◌&&◌, Bool, true, false, not, ℕ, zero, suc, List, [], ◌∷◌, ◌++◌, Option, Some, None, nat_lt, Result, Ok, Err, codes, refl, sym, subst, append_assoc}
use Rattle.std.specs.Prelude.{if◌then◌else◌, is_ok, position, slice_get}
use Rattle.mmtel_compose.specs.Responses.{own_response, relayed_response}
use Rattle.mmtel_compose.specs.ReceivedMessages.{MessageView, status_of}
use Rattle.mmtel_call_services.specs.Decisions.{decision_after, decision_at, diversion_target, is_status, peer_for, redirect_of, relayed_status, service_at}
use Rattle.mmtel_call_services.specs.Opening.{initial_target, opening_of, opening_refusal}
use Rattle.mmtel_call_services.specs.Reliable.{reliable_number}
use Rattle.mmtel_call_services.specs.Requests.{is_same_side, number_of}
use Rattle.mmtel_call_services.specs.CopiedHeaders.{copied_lines}
use Rattle.mmtel_call_services.specs.CallConfig.{CallConfigView}
use Rattle.mmtel_call_services.specs.declared.openings.Arrival.{Arrival}
use Rattle.mmtel_call_services.specs.declared.openings.Service.{Service}
use Rattle.mmtel_call.specs.Answered.{acknowledges, at_stage, leg_of, with_leg}
use Rattle.mmtel_call.specs.Awaiting.{expiries}
use Rattle.mmtel_call.specs.Closing.{StepResult, established_call_end, step_result, with_past}
use Rattle.mmtel_call.specs.Dismissal.{ends_by_bye, is_in_order, leaves_by_bye, leaves_by_bye_at, leaves_on_ack, leaves_on_ack_at, leaves_on_cancel, leaves_on_due}
use Rattle.mmtel_call.specs.Dismissal.{leaves_on_request, leaves_on_status, leaves_on_status_at, leaves_on_timeout, leaves_on_timeout_at, leaves_on_timer}
use Rattle.mmtel_call.specs.Diverting.{after_attempt, at_target, call_after_diversion, call_refusal, diversion_refusal, diversion_step, diversion_unless_refused}
use Rattle.mmtel_call.specs.Diverting.{divert, is_diverted, on_end, on_next_step, reach, relayed_refusal, with_notification_of, with_unoffered_meter}
use Rattle.mmtel_call.specs.RelayedTransactions as flying
use Rattle.mmtel_call.specs.RelayedTransactions.{is_in_flight, leg_after_request, on_final_relayed, on_response_in_flight, on_response_relayed, on_timeout_in_flight}
use Rattle.mmtel_call.specs.RelayedTransactions.{on_timeout_relayed, relayed_transaction_of, service_in, updating_side, with_response_back, without_transaction}
use Rattle.mmtel_call.specs.OtherRequests.{is_answered_invite, is_fork, is_success, on_forked_response, on_other_response, on_other_response_at, on_other_timeout}
use Rattle.mmtel_call.specs.OtherRequests.{on_other_timeout_at, on_response_abandoned, on_response_answered, on_response_answered_at, on_retransmitted_success}
use Rattle.mmtel_call.specs.Opening.{call_after_opening, caller_of, new_call, unless_refused}
use Rattle.mmtel_call.specs.Reinvites.{ends_dialog, on_accepted_reinvite, on_provisional_across, on_response_across, with_byes, with_refusal_back}
use Rattle.mmtel_call.specs.Reliable.{after_prack_across, named_rseq, on_named_prack, on_rack, on_refused_prack, own_rseq_for, rack_in}
use Rattle.mmtel_call.specs.Requests.{is_bye, is_invite, is_prack, is_update, leg_after_receiving, request_check, with_refused_request, with_unlisted_response}
use Rattle.mmtel_call.specs.Ringing as ringing
use Rattle.mmtel_call.specs.Ringing.{attempt_after_request, call_without_attempt, offered_request_check, on_answer, on_attempt_timeout, on_caller_cancel, on_cancel, on_due, on_failure}
use Rattle.mmtel_call.specs.Ringing.{on_numbered_provisional, on_other, on_prack_of, on_provisional_by, on_request_if, on_response, on_timeout, on_trying, on_valid_request, with_attempt_cancel}
use Rattle.mmtel_call.specs.Sending.{with_status_to, with_status_to_caller}
use Rattle.mmtel_call.specs.Stages.{after_timer_at, busy_in, is_due_at, on_ack_at, on_bye, on_cancel_at, on_due_at, on_invite, on_request_at_if, on_response_at, on_timeout_at, on_valid_request_at}
use Rattle.mmtel_call.specs.Table.{ack_in, cancel_in, due_in, is_current, leaves, leaves_on_response, leaves_on_timeout_of, on_response_to, on_timeout_of, request_in, response_in, timeout_in, transition}
use Rattle.mmtel_call.specs.Updates.{accepts_updates, on_early_retry, on_early_update, on_glare, on_stable_update, on_update, on_update_at, other_leg, unless_updating}
use Rattle.mmtel_call.specs.declared.calls.Call.{Call}
use Rattle.mmtel_call.specs.declared.calls.RelayedTransaction.{RelayedTransaction}
use Rattle.mmtel_call.specs.declared.calls.RelayedKind.{RelayedKind}
use Rattle.mmtel_call.specs.declared.calls.RelayedKind.TheVariants.{Prack, Update}
use Rattle.mmtel_call.specs.declared.calls.EstablishedLegs.{EstablishedLegs}
use Rattle.mmtel_call.specs.declared.calls.Phase.{Phase}
use Rattle.mmtel_call.specs.declared.calls.Phase.TheVariants.{Detached, Established, Offered, Over}
use Rattle.mmtel_call.specs.declared.calls.Reinvite.{Reinvite}
use Rattle.mmtel_call.specs.declared.calls.Stage.{Stage}
use Rattle.mmtel_call.specs.declared.calls.Stage.TheVariants.{Answered, Departing, Reinviting, Stable}
use Rattle.mmtel_call.specs.declared.calls.AnsweredInvite.{AnsweredInvite}
use Rattle.mmtel_call.specs.declared.calls.OfferedAttempt.{OfferedAttempt}
use Rattle.mmtel_call.specs.declared.signals.Signal.{Signal}
use Rattle.mmtel_call.specs.declared.signals.Signal.TheVariants as signal
use Rattle.mmtel_output.specs.Outputs.{after_draw, token}
use Rattle.mmtel_output.specs.ResponseMatching.{awaited_request_branch, timed_out_branch}
use Rattle.mmtel_output.specs.AbandonedInvites.{is_of_branch}
use Rattle.mmtel_output.specs.Sending.{with_final_ack}
use Rattle.mmtel_output.specs.declared.outputs.StepOutput.{StepOutput}
use Rattle.mmtel_output.specs.declared.sent_invites.AbandonedInvite.{AbandonedInvite}
use Rattle.mmtel_leg.specs.Dialogues.{unless_busy, unless_old}
use Rattle.mmtel_leg.specs.Legs.{Leg}
use Rattle.mmtel_leg.specs.declared.dialogues.DialogueFault.{DialogueFault}
use Rattle.mmtel_leg.specs.declared.dialogues.DialogueFault.TheVariants.{OldCSeq}
use Rattle.mmtel_leg.specs.declared.dialogues.InFlight.TheVariants as in_flight
use Rattle.mmtel_message.specs.Addresses.{contact_text}
use Rattle.mmtel_message.specs.Message.{Line, Message}
use Rattle.mmtel_message.specs.declared.messages.Start.{Start}
use Rattle.mmtel_precedence.specs.Attempts.{end_by_final, end_by_time}
use Rattle.mmtel_precedence.specs.Calls.{AttemptEndView, NoReply, NotReachable, SnapshotView}
use Rattle.mmtel_precedence.specs.Services.{DueDiversionView}
use Rattle.mmtel_precedence.specs.NextSteps.{EndAnswered, EndDivert, EndRefuse, NextStepView, StepAfterAttemptView, StepDivert, StepOffer, StepRefuse}
use Rattle.mmtel_precedence.specs.Verdicts.{too_many}
use Rattle.mmtel_reliable.specs.Acks.{has_own}
use Rattle.mmtel_reliable.specs.declared.racks.Rack.{Rack}
use Rattle.mmtel_sip_rules.specs.Statuses as statuses
use Rattle.mmtel_served_user.specs.declared.targets.Target.{Target}
use Rattle.mmtel_transaction.specs.declared.words.DueWord.{DueWord}
use Rattle.mmtel_transaction.specs.declared.words.DueWord.TheVariants as due
use Rattle.mmtel_transaction.specs.declared.words.Emit.{Emit}
use Rattle.mmtel_transaction.specs.declared.words.Emit.TheVariants as emit
use Rattle.mmtel_transaction.specs.declared.words.TKey.{TKey}
use Rattle.mmtel_types.specs.Sides.{other_side}
use Rattle.mmtel_types.specs.declared.causes.Cause.{Cause}
use Rattle.mmtel_types.specs.declared.sides.Side.{Side}
use Rattle.mmtel_types.specs.declared.sides.Side.TheVariants.{Caller, Callee}
use Rattle.mmtel_call_theorems.specs.Dismissal as dismissal
use Rattle.mmtel_call_theorems.specs.Dismissal.{InFlightContinues, IsRelayedAcross, other_dialogue}
use Rattle.mmtel_call_theorems.specs.CallTrace.{is_over}

-- ---- what a transition may do

-- the attempt ends without a 2xx, or the call ends: nothing is added to the requests in flight
abbrev pub Leaves : Call → StepResult → Type 0
Leaves c s = (s.call.relayed ≡ []) ⊎ (s.call.relayed ≡ c.relayed)

-- the attempt is the same one, and the call continues, or was over
pub record Stays (received : Signal) (c : Call) (output : StepOutput) (s : StepResult) : Type 0 where
  pub attempts : s.call.attempts ≡ c.attempts
  pub over : is_over s.call.phase ≡ is_over c.phase
  pub flies : InFlightContinues received c output s

-- by whether the attempt ends without a 2xx, or the call ends
abbrev pub StepKind : Signal → Bool → Call → StepOutput → StepResult → Type 0
StepKind received true c output s = Leaves c s
StepKind received false c output s = Stays received c output s

record IsQuiet (c : Call) (s : StepResult) : Type 0 where
  attempts : s.call.attempts ≡ c.attempts
  over : is_over s.call.phase ≡ is_over c.phase
  in_flight : s.call.relayed ≡ c.relayed

quiet_stays : (received : Signal) (c : Call) (output : StepOutput) (s : StepResult) → IsQuiet c s → Stays received c output s
quiet_stays received c output s q = record { attempts = q.attempts; over = q.over; flies = dismissal.Same q.in_flight }

quiet_transition : (received : Signal) (b : Bool) (c : Call) (output : StepOutput) (s : StepResult) → IsQuiet c s → StepKind received b c output s
quiet_transition received true c output s q = inr q.in_flight
quiet_transition received false c output s q = quiet_stays received c output s q

transition_if : (received : Signal) (b : Bool) (c : Call) (output : StepOutput) (one two : StepResult) → Leaves c one → Stays received c output two → StepKind received b c output (if b then one else two)
transition_if received true c output one two e f = e
transition_if received false c output one two e f = f

leaves_if : (b : Bool) (c : Call) (one two : StepResult) → Leaves c one → Leaves c two → Leaves c (if b then one else two)
leaves_if true c one two e f = e
leaves_if false c one two e f = f

stays_if : (received : Signal) (b : Bool) (c : Call) (output : StepOutput) (one two : StepResult) → Stays received c output one → Stays received c output two → Stays received c output (if b then one else two)
stays_if received true c output one two e f = e
stays_if received false c output one two e f = f

module _ (config : CallConfigView) where
  -- ---- how the call continues

  refused_by_leaves : (at : ℕ) (caller : Leg) (service : Option Service) (m : Option MessageView) (cause : Cause) (c : Call) (output : StepOutput) → Leaves c (relayed_refusal config at caller service m cause c output)
  refused_by_leaves at caller service None cause c output = inl refl
  refused_by_leaves at caller service (Some m) cause c output = leaves_if (is_status (status_of m.parsed.start) (relayed_status cause)) c _ _ (inl refl) (inl refl)

  abbrev Diverts : ℕ → SnapshotView → Leg → Type 0
  Diverts left now caller = (service : Option Service) (due : DueDiversionView) (c : Call) (output : StepOutput) → Leaves c (divert left config now caller service due c output)

  next_step_leaves : (left : ℕ) (now : SnapshotView) (caller : Leg) → Diverts left now caller → (service : Option Service) (cause : Option ℕ) (target : Target) (turn : NextStepView) (c : Call) (output : StepOutput) →
      Leaves c (on_next_step (divert left config now caller) config now.at caller service cause target turn c output)
  next_step_leaves left now caller later service cause target (StepOffer peer waiting) c output = inr refl
  next_step_leaves left now caller later service cause target (StepDivert due) c output = later service due (with_unoffered_meter now.at service c) output
  next_step_leaves left now caller later service cause target (StepRefuse why) c output = inl refl

  target_leaves : (left : ℕ) (now : SnapshotView) (caller : Leg) → Diverts left now caller → (cause : Option ℕ) (target : Target) (c : Call) (output : StepOutput) →
      Leaves c (at_target (divert left config now caller) config now caller cause target c output)
  target_leaves left now caller later cause target c output =
      next_step_leaves left now caller later (service_at config now c.opening cause target) cause target
      (decision_at config now c.opening (is_diverted c) cause target (service_at config now c.opening cause target) (peer_for config c.opening target)) c output

  unless_leaves : (refusal : Option Cause) (go : Call → StepOutput → StepResult) (at : ℕ) (caller : Leg) (c : Call) (output : StepOutput) → Leaves c (go c output) →
      Leaves c (diversion_unless_refused refusal go config at caller c output)
  unless_leaves (Some why) go at caller c output is = inl refl
  unless_leaves None go at caller c output is = is

  divert_leaves : (left : ℕ) (now : SnapshotView) (caller : Leg) → Diverts left now caller
  unfolding divert
  divert_leaves zero now caller service due c output = unless_leaves (diversion_refusal 0 config now.at service due c) (call_refusal config now.at caller (too_many due.cause)) now.at caller c output (inl refl)
  divert_leaves (suc left) now caller service due c output =
      let target : Target = diversion_target config due in
      let next : Call = call_after_diversion target now.at left service due c in
      let onward = diversion_step (at_target (divert left config now caller) config now caller (Some due.cause) target) config target now.at left service due in
      unless_leaves (diversion_refusal (suc left) config now.at service due c) onward now.at caller c output
      (target_leaves left now caller (divert_leaves left now caller) (Some due.cause) target next (with_notification_of config due next output))

  reach_leaves : (now : SnapshotView) (caller : Leg) (cause : Option ℕ) (target : Target) (c : Call) (output : StepOutput) → Leaves c (reach config now caller cause target c output)
  reach_leaves now caller cause target c output = target_leaves c.diversions.remaining now caller (divert_leaves c.diversions.remaining now caller) cause target c output

  end_leaves : (now : SnapshotView) (caller : Leg) (service : Option Service) (m : Option MessageView) (after : StepAfterAttemptView) (c : Call) (output : StepOutput) →
      Leaves c (on_end config now caller service m after c output)
  end_leaves now caller service m EndAnswered c output = inl refl
  end_leaves now caller service m (EndDivert due) c output = divert_leaves c.diversions.remaining now caller service due c output
  end_leaves now caller service m (EndRefuse cause) c output = refused_by_leaves now.at caller service m cause c output

  goes_on_leaves : (now : SnapshotView) (x : OfferedAttempt) (how : AttemptEndView) (m : Option MessageView) (c : Call) (output : StepOutput) → Leaves c (after_attempt config now x how m c output)
  goes_on_leaves now x how m c output = end_leaves now x.caller x.attempt.service m (decision_after c.opening now.at (is_diverted c) x.attempt.service how) (with_past x.callee.leg.meter c) output

  -- ---- while it is offered

  abbrev offered : OfferedAttempt → Call → Call
  offered x c = record c { phase = Offered x }

  module _ (received : Signal) where
    relayed_quiet : (o : Option ℕ) (rseq at : ℕ) (x : OfferedAttempt) (key : TKey) (m : MessageView) (code : ℕ) (c : Call) (output : StepOutput) →
        IsQuiet (offered x c) (on_numbered_provisional o rseq config at x key m code (offered x c) output)
    relayed_quiet None rseq at x key m code c output = record { attempts = refl; over = refl; in_flight = refl }
    relayed_quiet (Some own) rseq at x key m code c output = record { attempts = refl; over = refl; in_flight = refl }

    proceeding_by_quiet : (o : Option ℕ) (at : ℕ) (x : OfferedAttempt) (key : TKey) (m : MessageView) (code : ℕ) (c : Call) (output : StepOutput) →
        IsQuiet (offered x c) (on_provisional_by o config at x key m code (offered x c) output)
    proceeding_by_quiet None at x key m code c output = record { attempts = refl; over = refl; in_flight = refl }
    proceeding_by_quiet (Some rseq) at x key m code c output = relayed_quiet (own_rseq_for rseq x m (offered x c)) rseq at x key m code c output

    proceeding_quiet : (at : ℕ) (x : OfferedAttempt) (key : TKey) (m : MessageView) (code : ℕ) (c : Call) (output : StepOutput) → IsQuiet (offered x c) (ringing.on_provisional config at x key m code (offered x c) output)
    proceeding_quiet at x key m code c output = proceeding_by_quiet (reliable_number config c.opening m) at x key m code c output

    response_transition : (now : SnapshotView) (x : OfferedAttempt) (key : TKey) (m : MessageView) (code : ℕ) (c : Call) (output : StepOutput) →
        StepKind received (not (nat_lt code 300)) (offered x c) output (on_response config now x key m code (offered x c) output)
    response_transition now x key m code c output = by (nat_lt code 300)
      where
        trying : IsQuiet (offered x c) (on_trying key x (offered x c) output)
        trying = record { attempts = refl; over = refl; in_flight = refl }

        proceeds : IsQuiet (offered x c) (ringing.on_provisional config now.at x key m code (offered x c) output)
        proceeds = proceeding_quiet now.at x key m code c output

        by : (t : Bool) → StepKind received (not t) (offered x c) output
            (if nat_lt code 101 then on_trying key x (offered x c) output else if nat_lt code 200 then ringing.on_provisional config now.at x key m code (offered x c) output
            else if t then on_answer config now.at x key m (offered x c) output else on_failure config now x key m code (offered x c) output)
        by true =
            stays_if received (nat_lt code 101) (offered x c) output _ _ (quiet_stays received (offered x c) output _ trying)
            (stays_if received (nat_lt code 200) (offered x c) output _ _ (quiet_stays received (offered x c) output _ proceeds)
            (quiet_stays received (offered x c) output _ (record { attempts = refl; over = refl; in_flight = refl })))
        by false =
            leaves_if (nat_lt code 101) (offered x c) _ _ (inr refl)
            (leaves_if (nat_lt code 200) (offered x c) _ _ (inr proceeds.in_flight)
            (goes_on_leaves now x (end_by_final code (redirect_of m) x.attempt.rang) (Some m) (offered x c) (with_final_ack config.sip key x.attempt.invite m.parsed output)))

    timeout_transition : (now : SnapshotView) (x : OfferedAttempt) (c : Call) (output : StepOutput) → StepKind received (not x.attempt.rang) (offered x c) output (on_timeout config now x (offered x c) output)
    timeout_transition now x c output = by x.attempt.rang
      where
        by : (t : Bool) → StepKind received (not t) (offered x c) output (if t then step_result (offered x c) output else after_attempt config now x (NotReachable 408) None (offered x c) output)
        by true = quiet_stays received (offered x c) output _ (record { attempts = refl; over = refl; in_flight = refl })
        by false = goes_on_leaves now x (NotReachable 408) None (offered x c) output

    same : (x : OfferedAttempt) (c : Call) (output notified : StepOutput) → Stays received (offered x c) output (step_result (offered x c) notified)
    same x c output notified = quiet_stays received (offered x c) output _ (record { attempts = refl; over = refl; in_flight = refl })

    timed_out_leaves : (now : SnapshotView) (x : OfferedAttempt) (how : AttemptEndView) (c : Call) (output : StepOutput) → Leaves c (on_attempt_timeout config now x how c output)
    timed_out_leaves now x how c output = goes_on_leaves now x how None (call_without_attempt x c) (with_attempt_cancel config x output)

    due_transition : (now : SnapshotView) (x : OfferedAttempt) (what : DueWord) (c : Call) (output : StepOutput) →
        StepKind received (leaves_on_timer x what (offered x c)) (offered x c) output (on_due config now x what (offered x c) output)
    due_transition now x (due.NoReply number) c output = transition_if received (number == x.attempt.number) (offered x c) output _ _ (timed_out_leaves now x NoReply (offered x c) output) (same x c output output)
    due_transition now x (due.NoPrack own) c output = transition_if received (has_own own c.acks.waiting) (offered x c) output _ _ (inl refl) (same x c output output)
    due_transition now x (due.Cap number) c output =
        transition_if received (number == x.attempt.number) (offered x c) output _ _ (timed_out_leaves now x (end_by_time x.attempt.rang) (offered x c) output) (same x c output output)
    due_transition now x (due.NoAck number) c output = same x c output output
    due_transition now x (due.Expired number) c output = same x c output output

    cancel_transition : (at : ℕ) (x : OfferedAttempt) (key : TKey) (m : MessageView) (invite : TKey) (c : Call) (output : StepOutput) →
        StepKind received (invite.0 == c.opening.key.0) (offered x c) output (on_cancel config at x key m invite (offered x c) output)
    cancel_transition at x key m invite c output = transition_if received (invite.0 == c.opening.key.0) (offered x c) output _ _ (inl refl) (same x c output (with_status_to config (offered x c) key m 200 output))

  -- ---- requests

  -- one that is accepted is in order, whatever else the checks require
  in_order : (n last : Option ℕ) (otherwise fine : Result (Unit {0}) DialogueFault) (received : Unit {0}) → is_ok fine ≡ true → unless_old n last otherwise ≡ Ok received → is_ok (unless_old n last fine) ≡ true
  in_order None last otherwise fine received is e = is
  in_order (Some n) None otherwise fine received is e = is
  in_order (Some n) (Some last) otherwise fine received is e = by (nat_lt n last) e
    where
      by : (old : Bool) → (if old then Err (OldCSeq last) else otherwise) ≡ Ok received → is_ok (if old then Err (OldCSeq last) else fine) ≡ true
      by true f = absurd cc
      by false f = is

  -- if it is no INVITE, nothing else is required
  abbrev fine : Result (Unit {0}) DialogueFault
  fine = unless_busy false in_flight.None

  module _ (side : Side) (key : TKey) (m : MessageView) where
    abbrev request : Signal
    request = signal.Request side key m

    -- one more is in flight
    asks : (flight : RelayedTransaction) (c : Call) (output : StepOutput) (s : StepResult) → IsRelayedAcross request c flight → s.call.attempts ≡ c.attempts → is_over s.call.phase ≡ is_over c.phase →
        s.call.relayed ≡ c.relayed ++ flight ∷ [] →
        Stays request c output s
    asks flight c output s is e f g = record { attempts = e; over = f; flies = dismissal.OneRelayed flight is g }

    unless_stays : (o : Option Side) (across : Call → StepOutput → StepResult) (c d : Call) (output : StepOutput) → d.attempts ≡ c.attempts → is_over d.phase ≡ is_over c.phase → d.relayed ≡ c.relayed →
        Stays request c output (across d output) → Stays request c output (unless_updating o across config side key m d output)
    unless_stays None across c d output e f g is = is
    unless_stays (Some other) across c d output e f g is =
        let still : (notified : StepOutput) → Stays request c output (step_result d notified) = λ notified. quiet_stays request c output _ (record { attempts = e; over = f; in_flight = g }) in
        stays_if request (is_same_side other side) c output (on_early_retry config key m d output) (on_glare config key m d output) (still _) (still _)

    -- of an offered call
    received_early : (x : OfferedAttempt) → other_dialogue (Offered x) side ≡ Some (other_leg side (attempt_after_request side m x)).dialogue
    received_early x = by side
      where
        by : (one : Side) → other_dialogue (Offered x) one ≡ Some (other_leg one (attempt_after_request one m x)).dialogue
        by Caller = refl
        by Callee = refl

    still_offered : (x y : OfferedAttempt) (c : Call) (output notified : StepOutput) → Stays request (offered x c) output (step_result (offered y c) notified)
    still_offered x y c output notified = quiet_stays request (offered x c) output _ (record { attempts = refl; over = refl; in_flight = refl })

    update_stays : (x y : OfferedAttempt) (c : Call) (output : StepOutput) → other_dialogue (Offered x) side ≡ Some (other_leg side y).dialogue →
        Stays request (offered x c) output (on_update config y side key m (offered y c) output)
    update_stays x y c output across =
        let leg : Leg = other_leg side y in
        let flight : RelayedTransaction = relayed_transaction_of Update side key m (leg_after_request (codes "UPDATE") leg) output in
        stays_if request (accepts_updates y) (offered x c) output (unless_updating (updating_side c.relayed) (on_early_update config y side key m) config side key m (offered y c) output)
        (on_early_retry config key m (offered y c) output)
        (unless_stays (updating_side c.relayed) (on_early_update config y side key m) (offered x c) (offered y c) output refl refl refl
        (asks flight (offered x c) output (on_early_update config y side key m (offered y c) output) (record { received = refl; dialogue = leg.dialogue; other = across; sent = refl }) refl refl refl))
        (still_offered x y c output _)

  module _ (key : TKey) (m : MessageView) where
    prack_quiet : (x y : OfferedAttempt) (side : Side) (c : Call) (output : StepOutput) → Stays (signal.Request side key m) (offered x c) output (on_refused_prack config key m (offered y c) output)
    prack_quiet x y side c output = still_offered side key m x y c output _

    acknowledging_stays : (x y : OfferedAttempt) (rack : Rack) (o : Option ℕ) (c : Call) (output : StepOutput) → other_dialogue (Offered x) Caller ≡ Some (other_leg Caller y).dialogue →
        Stays (signal.Request Caller key m) (offered x c) output (on_named_prack config y key m rack o (offered y c) output)
    acknowledging_stays x y rack None c output across = prack_quiet x y Caller c output
    acknowledging_stays x y rack (Some answer) c output across =
        asks Caller key m (relayed_transaction_of Prack Caller key m (leg_after_request (codes "PRACK") y.callee.leg) output) (offered x c) output (after_prack_across config y key m rack answer (offered y c) output)
        (record { received = refl; dialogue = y.callee.leg.dialogue; other = across; sent = refl }) refl refl refl

    rack_stays : (x y : OfferedAttempt) (o : Option Rack) (c : Call) (output : StepOutput) → other_dialogue (Offered x) Caller ≡ Some (other_leg Caller y).dialogue →
        Stays (signal.Request Caller key m) (offered x c) output (on_rack config y key m o (offered y c) output)
    rack_stays x y None c output across = prack_quiet x y Caller c output
    rack_stays x y (Some rack) c output across = acknowledging_stays x y rack (named_rseq y (offered y c) rack) c output across

    prack_stays : (side : Side) (x y : OfferedAttempt) (c : Call) (output : StepOutput) → other_dialogue (Offered x) side ≡ Some (other_leg side y).dialogue →
        Stays (signal.Request side key m) (offered x c) output (on_prack_of side config y key m (offered y c) output)
    prack_stays Caller x y c output across = rack_stays x y (rack_in m) c output across
    prack_stays Callee x y c output across = prack_quiet x y Callee c output

    other_stays : (side : Side) (x y : OfferedAttempt) (c : Call) (output : StepOutput) → other_dialogue (Offered x) side ≡ Some (other_leg side y).dialogue →
        Stays (signal.Request side key m) (offered x c) output (on_other config y side key m (offered y c) output)
    other_stays side x y c output across =
        stays_if (signal.Request side key m) (is_prack m) (offered x c) output (on_prack_of side config y key m (offered y c) output)
        (if is_update m then on_update config y side key m (offered y c) output else step_result (offered y c) (with_unlisted_response config (offered y c) key m output))
        (prack_stays side x y c output across)
        (stays_if (signal.Request side key m) (is_update m) (offered x c) output (on_update config y side key m (offered y c) output) (step_result (offered y c) (with_unlisted_response config (offered y c) key m output))
        (update_stays side key m x y c output across) (still_offered side key m x y c output _))

    received_transition : (at : ℕ) (side : Side) (x : OfferedAttempt) (c : Call) (output : StepOutput) → (is_in_order x.caller.dialogue m ≡ true) ⊎ (side ≡ Callee) →
        StepKind (signal.Request side key m) (leaves_by_bye x side m) (offered x c) output (on_valid_request config at (attempt_after_request side m x) side key m (offered (attempt_after_request side m x) c) output)
    received_transition at Caller x c output (inr e) = absurd cc
    received_transition at Callee x c output e = other_stays Callee x (attempt_after_request Callee m x) c output refl
    received_transition at Caller x c output (inl ordered) = by (is_bye m)
      where
        received : Signal
        received = signal.Request Caller key m

        y : OfferedAttempt
        y = attempt_after_request Caller m x

        notified : StepOutput
        notified = with_status_to config (offered y c) key m 200 output

        by : (bye : Bool) → StepKind received (bye && is_in_order x.caller.dialogue m) (offered x c) output
            (if bye then on_caller_cancel config at y (offered y c) notified else on_other config y Caller key m (offered y c) output)
        by true = subst (λ (b : Bool). StepKind received b (offered x c) output (on_caller_cancel config at y (offered y c) notified)) (sym ordered) (inl refl)
        by false = other_stays Caller x y c output refl

    request_transition : (r : Result (Unit {0}) DialogueFault) (at : ℕ) (side : Side) (x : OfferedAttempt) (c : Call) (output : StepOutput) → offered_request_check x side m ≡ r →
        StepKind (signal.Request side key m) (leaves_by_bye x side m) (offered x c) output (on_request_if r config at x side key m (offered x c) output)
    request_transition (Ok received) at Caller x c output e = received_transition at Caller x c output (inl (in_order (number_of m) x.caller.dialogue.remote_cseq _ fine received refl e))
    request_transition (Ok received) at Callee x c output e = received_transition at Callee x c output (inr refl)
    request_transition (Err fault) at side x c output e =
        quiet_transition (signal.Request side key m) (leaves_by_bye x side m) (offered x c) output (step_result (offered x c) (with_refused_request config (offered x c) key m fault output))
        (record { attempts = refl; over = refl; in_flight = refl })

  -- ---- once it is answered

  abbrev stood : EstablishedLegs → Stage → Call → Call
  stood x stage c = record c { phase = Established x stage }

  module _ (side : Side) (key : TKey) (m : MessageView) where
    still_established : (x y : EstablishedLegs) (stage after : Stage) (c : Call) (output notified : StepOutput) → Stays (signal.Request side key m) (stood x stage c) output (step_result (stood y after c) notified)
    still_established x y stage after c output notified = quiet_stays (signal.Request side key m) (stood x stage c) output _ (record { attempts = refl; over = refl; in_flight = refl })

    invite_quiet : (stage : Stage) (x y : EstablishedLegs) (c : Call) (output : StepOutput) → IsQuiet (stood x stage c) (on_invite stage config y side key m (stood y stage c) output)
    invite_quiet (Answered waiting success) x y c output = record { attempts = refl; over = refl; in_flight = refl }
    invite_quiet (Departing waiting success) x y c output = record { attempts = refl; over = refl; in_flight = refl }
    invite_quiet Stable x y c output = record { attempts = refl; over = refl; in_flight = refl }
    invite_quiet (Reinviting asking q) x y c output = record { attempts = refl; over = refl; in_flight = refl }

    bye_transition : (stage : Stage) (at : ℕ) (x y : EstablishedLegs) (c : Call) (output : StepOutput) →
        StepKind (signal.Request side key m) (ends_by_bye stage side) (stood x stage c) output (on_bye stage config at y side key m (stood y stage c) output)
    bye_transition (Answered waiting success) at x y c output =
        transition_if (signal.Request side key m) (is_same_side waiting side) (stood x (Answered waiting success) c) output _ _ (inl refl)
        (still_established x y (Answered waiting success) (Departing waiting success) c output _)
    bye_transition (Departing waiting success) at x y c output = by (is_same_side waiting side)
      where
        stage : Stage
        stage = Departing waiting success

        by : (t : Bool) → StepKind (signal.Request side key m) t (stood x stage c) output
            (if not t then step_result (stood y stage c) (with_status_to config (stood y stage c) key m 481 output)
            else established_call_end at y (stood y stage c) (with_status_to config (stood y stage c) key m 200 output))
        by true = inl refl
        by false = still_established x y stage stage c output _
    bye_transition Stable at x y c output = inl refl
    bye_transition (Reinviting asking q) at x y c output = inl refl

    update_at_stays : (stage : Stage) (x y : EstablishedLegs) (c : Call) (output : StepOutput) → other_dialogue (Established x stage) side ≡ Some (leg_of (other_side side) y).dialogue →
        Stays (signal.Request side key m) (stood x stage c) output (on_update_at stage config y side key m (stood y stage c) output)
    update_at_stays (Answered waiting success) x y c output across = still_established x y (Answered waiting success) (Answered waiting success) c output _
    update_at_stays (Departing waiting success) x y c output across = still_established x y (Departing waiting success) (Departing waiting success) c output _
    update_at_stays Stable x y c output across =
        let leg : Leg = leg_of (other_side side) y in
        unless_stays side key m (updating_side c.relayed) (on_stable_update config y side key m) (stood x Stable c) (stood y Stable c) output refl refl refl
        (asks side key m (relayed_transaction_of Update side key m (leg_after_request (codes "UPDATE") leg) output) (stood x Stable c) output (on_stable_update config y side key m (stood y Stable c) output)
        (record { received = refl; dialogue = leg.dialogue; other = across; sent = refl }) refl refl refl)
    update_at_stays (Reinviting asking q) x y c output across = still_established x y (Reinviting asking q) (Reinviting asking q) c output _

    received_at_transition : (stage : Stage) (at : ℕ) (x y : EstablishedLegs) (c : Call) (output : StepOutput) →
        other_dialogue (Established x stage) side ≡ Some (leg_of (other_side side) y).dialogue → is_in_order (leg_of side x).dialogue m ≡ true →
        StepKind (signal.Request side key m) (leaves_by_bye_at stage x side m) (stood x stage c) output (on_valid_request_at stage config at y side key m (stood y stage c) output)
    received_at_transition stage at x y c output across ordered = by (is_invite m) (is_bye m)
      where
        received : Signal
        received = signal.Request side key m

        now : Call
        now = stood y stage c

        rest : StepResult
        rest = if is_update m then on_update_at stage config y side key m now output else if is_prack m then on_refused_prack config key m now output else step_result now (with_unlisted_response config now key m output)

        by : (invite bye : Bool) → StepKind received ((bye && is_in_order (leg_of side x).dialogue m) && ends_by_bye stage side) (stood x stage c) output
            (if invite then on_invite stage config y side key m now output else if bye then on_bye stage config at y side key m now output else rest)
        by true bye = quiet_transition received _ (stood x stage c) output _ (invite_quiet stage x y c output)
        by false true =
            subst (λ (b : Bool). StepKind received (b && ends_by_bye stage side) (stood x stage c) output (on_bye stage config at y side key m now output)) (sym ordered) (bye_transition stage at x y c output)
        by false false =
            stays_if received (is_update m) (stood x stage c) output _ _ (update_at_stays stage x y c output across)
            (stays_if received (is_prack m) (stood x stage c) output _ _ (still_established x y stage stage c output _) (still_established x y stage stage c output _))

    received_across : (x : EstablishedLegs) (stage : Stage) → other_dialogue (Established x stage) side ≡ Some (leg_of (other_side side) (with_leg side (leg_after_receiving (leg_of side x) m) x)).dialogue
    received_across x stage = by side
      where
        by : (one : Side) → other_dialogue (Established x stage) one ≡ Some (leg_of (other_side one) (with_leg one (leg_after_receiving (leg_of one x) m) x)).dialogue
        by Caller = refl
        by Callee = refl

    request_at_transition : (r : Result (Unit {0}) DialogueFault) (stage : Stage) (at : ℕ) (x : EstablishedLegs) (c : Call) (output : StepOutput) → request_check (leg_of side x) m (busy_in stage side) ≡ r →
        StepKind (signal.Request side key m) (leaves_by_bye_at stage x side m) (stood x stage c) output (on_request_at_if r stage config at x side key m (stood x stage c) output)
    request_at_transition (Ok received) stage at x c output e =
        received_at_transition stage at x (with_leg side (leg_after_receiving (leg_of side x) m) x) c output (received_across x stage) (in_order (number_of m) (leg_of side x).dialogue.remote_cseq _ fine received refl e)
    request_at_transition (Err fault) stage at x c output e =
        quiet_transition (signal.Request side key m) (leaves_by_bye_at stage x side m) (stood x stage c) output (step_result (stood x stage c) (with_refused_request config (stood x stage c) key m fault output))
        (record { attempts = refl; over = refl; in_flight = refl })

  module _ (received : Signal) where
    standing : (x : EstablishedLegs) (stage after : Stage) (c : Call) (output notified : StepOutput) → Stays received (stood x stage c) output (step_result (stood x after c) notified)
    standing x stage after c output notified = quiet_stays received (stood x stage c) output _ (record { attempts = refl; over = refl; in_flight = refl })

    ack_transition : (stage : Stage) (at : ℕ) (x : EstablishedLegs) (side : Side) (m : MessageView) (c : Call) (output : StepOutput) →
        StepKind received (leaves_on_ack_at stage side m) (stood x stage c) output (on_ack_at stage config at x side m (stood x stage c) output)
    ack_transition (Answered waiting success) at x side m c output =
        stays_if received (acknowledges waiting success side m) (stood x (Answered waiting success) c) output _ _
        (quiet_stays received (stood x (Answered waiting success) c) output _ (record { attempts = refl; over = refl; in_flight = refl }))
        (standing x (Answered waiting success) (Answered waiting success) c output output)
    ack_transition (Departing waiting success) at x side m c output =
        transition_if received (acknowledges waiting success side m) (stood x (Departing waiting success) c) output _ _ (inl refl) (standing x (Departing waiting success) (Departing waiting success) c output output)
    ack_transition Stable at x side m c output = standing x Stable Stable c output output
    ack_transition (Reinviting asking q) at x side m c output = standing x (Reinviting asking q) (Reinviting asking q) c output output

    cancel_at_stays : (stage : Stage) (x : EstablishedLegs) (invite : TKey) (c : Call) (output notified : StepOutput) →
        Stays received (stood x stage c) output (on_cancel_at stage config x invite (stood x stage c) notified)
    cancel_at_stays (Answered waiting success) x invite c output notified = standing x (Answered waiting success) (Answered waiting success) c output notified
    cancel_at_stays (Departing waiting success) x invite c output notified = standing x (Departing waiting success) (Departing waiting success) c output notified
    cancel_at_stays Stable x invite c output notified = standing x Stable Stable c output notified
    cancel_at_stays (Reinviting asking q) x invite c output notified =
        stays_if received (invite.0 == q.key.0) (stood x (Reinviting asking q) c) output _ _ (standing x (Reinviting asking q) _ c output _) (standing x (Reinviting asking q) (Reinviting asking q) c output notified)

    across_transition : (at : ℕ) (x : EstablishedLegs) (side : Side) (q : Reinvite) (key : TKey) (m : MessageView) (code : ℕ) (c : Call) (output : StepOutput) →
        StepKind received (ends_dialog code) (stood x (Reinviting side q) c) output (on_response_across config at x side q key m code (stood x (Reinviting side q) c) output)
    across_transition at x side q key m code c output = by (ends_dialog code)
      where
        now : Call
        now = stood x (Reinviting side q) c

        back : StepOutput
        back = with_refusal_back config x side q key m now output

        by : (t : Bool) → StepKind received t now output
            (if nat_lt code 200 then on_provisional_across config x side q key now output else if nat_lt code 300 then on_accepted_reinvite config at x side q key m now output
            else if t then established_call_end at x now (with_byes config x back) else step_result (at_stage x Stable now) back)
        by true = leaves_if (nat_lt code 200) now _ _ (inr refl) (leaves_if (nat_lt code 300) now _ _ (inr refl) (inl refl))
        by false =
            stays_if received (nat_lt code 200) now output _ _ (standing x (Reinviting side q) _ c output _)
            (stays_if received (nat_lt code 300) now output _ _ (quiet_stays received now output _ (record { attempts = refl; over = refl; in_flight = refl })) (standing x (Reinviting side q) Stable c output back))

    response_at_transition : (stage : Stage) (at : ℕ) (x : EstablishedLegs) (key : TKey) (m : MessageView) (c : Call) (output : StepOutput) →
        StepKind received (leaves_on_status_at stage (status_of m.parsed.start)) (stood x stage c) output (on_response_at stage config at x key m (stood x stage c) output)
    response_at_transition (Answered waiting success) at x key m c output = standing x (Answered waiting success) (Answered waiting success) c output output
    response_at_transition (Departing waiting success) at x key m c output = standing x (Departing waiting success) (Departing waiting success) c output output
    response_at_transition Stable at x key m c output = standing x Stable Stable c output output
    response_at_transition (Reinviting asking q) at x key m c output = across_transition at x asking q key m (status_of m.parsed.start) c output

    timeout_at_transition : (stage : Stage) (at : ℕ) (x : EstablishedLegs) (c : Call) (output : StepOutput) →
        StepKind received (leaves_on_timeout_at stage) (stood x stage c) output (on_timeout_at stage config at x (stood x stage c) output)
    timeout_at_transition (Answered waiting success) at x c output = standing x (Answered waiting success) (Answered waiting success) c output output
    timeout_at_transition (Departing waiting success) at x c output = standing x (Departing waiting success) (Departing waiting success) c output output
    timeout_at_transition Stable at x c output = standing x Stable Stable c output output
    timeout_at_transition (Reinviting asking q) at x c output = inl refl

    rung_leaves : (stage : Stage) (at : ℕ) (x : EstablishedLegs) (c : Call) (output : StepOutput) → Leaves (stood x stage c) (after_timer_at stage config at x (stood x stage c) output)
    rung_leaves (Answered waiting success) at x c output = inl refl
    rung_leaves (Departing waiting success) at x c output = inl refl
    rung_leaves Stable at x c output = inl refl
    rung_leaves (Reinviting asking q) at x c output = inl refl

    due_at_transition : (stage : Stage) (at : ℕ) (x : EstablishedLegs) (what : DueWord) (c : Call) (output : StepOutput) →
        StepKind received (is_due_at stage c.successes what) (stood x stage c) output (on_due_at stage config at x what (stood x stage c) output)
    due_at_transition stage at x what c output = transition_if received (is_due_at stage c.successes what) (stood x stage c) output _ _ (rung_leaves stage at x c output) (standing x stage stage c output output)

    -- ---- requests for which the call does not wait

    onward_stays : (c : Call) (output notified : StepOutput) → Stays received c output (step_result c notified)
    onward_stays c output notified = quiet_stays received c output _ (record { attempts = refl; over = refl; in_flight = refl })

    abandoned_stays : (key : TKey) (m : MessageView) (place : ℕ) (o : Option AbandonedInvite) (c : Call) (output : StepOutput) → Stays received c output (on_response_abandoned config key m place o c output)
    abandoned_stays key m place None c output = onward_stays c output output
    abandoned_stays key m place (Some l) c output = quiet_stays received c output _ (record { attempts = refl; over = refl; in_flight = refl })

    answered_stays : (key : TKey) (m : MessageView) (place : ℕ) (o : Option AnsweredInvite) (c : Call) (output : StepOutput) → Stays received c output (on_response_answered config key m place o c output)
    answered_stays key m place None c output = onward_stays c output output
    answered_stays key m place (Some t) c output =
        stays_if received (not (is_success (status_of m.parsed.start))) c output _ _ (onward_stays c output output)
        (stays_if received (is_fork t m) c output (on_forked_response config key m place t c output) (on_retransmitted_success t c output)
        (quiet_stays received c output _ (record { attempts = refl; over = refl; in_flight = refl }))
        (quiet_stays received c output _ (record { attempts = refl; over = refl; in_flight = refl })))

    -- a request in flight gets its final response

    agreed_stays : (kind : RelayedKind) (at : ℕ) (side : Side) (before response : MessageView) (place : ℕ) (flight : RelayedTransaction) (final : Message Start) (c : Call) (output notified : StepOutput) →
        slice_get c.relayed place ≡ Some flight → notified.out ≡ output.out ++ emit.Reply flight.exchange.key final ∷ [] →
        Stays received c output (flying.on_accepted_in_flight kind config at side before response (without_transaction place c) notified)
    agreed_stays Prack at side before response place flight final c output notified there out =
        record { attempts = refl; over = refl; flies = dismissal.OneAnswered place flight (record { there = there; gone = refl; final = final; more = []; out = out }) }
    agreed_stays Update at side before response place flight final c output notified there out =
        let arms : List Emit = expiries config.timer at response (without_transaction place c) in
        record {
          attempts = refl;
          over = refl;
          flies = dismissal.OneAnswered place flight (record {
            there = there;
            gone = refl;
            final = final;
            more = arms;
            out = subst (λ (o : List Emit). o ++ arms ≡ output.out ++ emit.Reply flight.exchange.key final ∷ arms) (sym out) (append_assoc output.out (emit.Reply flight.exchange.key final ∷ []) arms);
          });
        }

    relayed_stays : (at : ℕ) (m : MessageView) (code place : ℕ) (o : Option RelayedTransaction) (c : Call) (output : StepOutput) → slice_get c.relayed place ≡ o →
        Stays received c output (on_response_relayed config at m code place o c output)
    relayed_stays at m code place None c output there = onward_stays c output output
    relayed_stays at m code place (Some flight) c output there =
        let gone : Call = without_transaction place c in
        let shown : List Line = copied_lines config c.opening c.diversions (service_in c.phase) (other_side flight.side) flight.exchange.request.peer m in
        let final : Message Start = relayed_response (contact_text config.sip) flight.exchange.request c.opening.tag shown m in
        let back : StepOutput = with_response_back config flight m gone output in
        stays_if received (nat_lt code 200) c output (step_result c output) (on_final_relayed config at flight m code gone output) (onward_stays c output output)
        (stays_if received (statuses.is_success code) c output (flying.on_accepted_in_flight flight.kind config at flight.side flight.exchange.request m gone back) (step_result gone back)
        (agreed_stays flight.kind at flight.side flight.exchange.request m place flight final c output back there refl)
        (record { attempts = refl; over = refl; flies = dismissal.OneAnswered place flight (record { there = there; gone = refl; final = final; more = []; out = refl }) }))

    in_flight_stays : (at : ℕ) (m : MessageView) (o : Option ℕ) (c : Call) (output : StepOutput) → Stays received c output (on_response_in_flight config at m o c output)
    in_flight_stays at m None c output = onward_stays c output output
    in_flight_stays at m (Some place) c output = relayed_stays at m (status_of m.parsed.start) place (slice_get c.relayed place) c output refl

    timed_out_relayed_stays : (place : ℕ) (o : Option RelayedTransaction) (c : Call) (output : StepOutput) → slice_get c.relayed place ≡ o → Stays received c output (on_timeout_relayed config place o c output)
    timed_out_relayed_stays place None c output there = onward_stays c output output
    timed_out_relayed_stays place (Some flight) c output there =
        let final : Message Start = own_response (contact_text config.sip) flight.exchange.request c.opening.tag 408 [] [] [] in
        record { attempts = refl; over = refl; flies = dismissal.OneAnswered place flight (record { there = there; gone = refl; final = final; more = []; out = refl }) }

    timed_out_in_flight_stays : (o : Option ℕ) (c : Call) (output : StepOutput) → Stays received c output (on_timeout_in_flight config o c output)
    timed_out_in_flight_stays None c output = onward_stays c output output
    timed_out_in_flight_stays (Some place) c output = timed_out_relayed_stays place (slice_get c.relayed place) c output refl

    -- by the branch

    answered_at_stays : (at : ℕ) (key : TKey) (m : MessageView) (branch : List ℕ) (o : Option ℕ) (c : Call) (output : StepOutput) → Stays received c output (on_response_answered_at config at key m branch o c output)
    answered_at_stays at key m branch None c output = in_flight_stays at m (position (is_in_flight branch) c.relayed) c output
    answered_at_stays at key m branch (Some place) c output = answered_stays key m place (slice_get c.answered_invites place) c output

    at_stays : (at : ℕ) (key : TKey) (m : MessageView) (branch : List ℕ) (o : Option ℕ) (c : Call) (output : StepOutput) → Stays received c output (on_other_response_at config at key m branch o c output)
    at_stays at key m branch None c output = answered_at_stays at key m branch (position (is_answered_invite branch) c.answered_invites) c output
    at_stays at key m branch (Some place) c output = abandoned_stays key m place (slice_get c.abandoned place) c output

    answered_other_stays : (at : ℕ) (key : TKey) (m : MessageView) (branch : List ℕ) (c : Call) (output : StepOutput) → Stays received c output (on_other_response config at key m branch c output)
    unfolding on_other_response
    answered_other_stays at key m branch c output = at_stays at key m branch (position (is_of_branch branch) c.abandoned) c output

    timed_out_at_stays : (branch : List ℕ) (o : Option ℕ) (c : Call) (output : StepOutput) → Stays received c output (on_other_timeout_at config branch o c output)
    timed_out_at_stays branch None c output = timed_out_in_flight_stays (position (is_in_flight branch) c.relayed) c output
    timed_out_at_stays branch (Some place) c output = quiet_stays received c output _ (record { attempts = refl; over = refl; in_flight = refl })

    timed_out_stays : (branch : List ℕ) (c : Call) (output : StepOutput) → Stays received c output (on_other_timeout config branch c output)
    timed_out_stays branch c output = timed_out_at_stays branch (position (is_of_branch branch) c.abandoned) c output

    -- ---- the table, by phase

    abbrev at_phase : Phase → Call → Call
    at_phase phase c = record c { phase = phase }

    response_in_transition : (phase : Phase) (now : SnapshotView) (key : TKey) (m : MessageView) (c : Call) (output : StepOutput) →
        StepKind received (leaves_on_status (status_of m.parsed.start) phase) (at_phase phase c) output (response_in phase config now key m (at_phase phase c) output)
    response_in_transition (Offered x) now key m c output = response_transition received now x key m (status_of m.parsed.start) c output
    response_in_transition (Established x stage) now key m c output = response_at_transition stage now.at x key m c output
    response_in_transition (Detached detached) now key m c output = onward_stays (at_phase (Detached detached) c) output output
    response_in_transition (Over cause) now key m c output = onward_stays (at_phase (Over cause) c) output output

    timeout_in_transition : (phase : Phase) (now : SnapshotView) (c : Call) (output : StepOutput) →
        StepKind received (leaves_on_timeout phase) (at_phase phase c) output (timeout_in phase config now (at_phase phase c) output)
    timeout_in_transition (Offered x) now c output = timeout_transition received now x c output
    timeout_in_transition (Established x stage) now c output = timeout_at_transition stage now.at x c output
    timeout_in_transition (Detached detached) now c output = onward_stays (at_phase (Detached detached) c) output output
    timeout_in_transition (Over cause) now c output = onward_stays (at_phase (Over cause) c) output output

    ack_in_transition : (phase : Phase) (at : ℕ) (side : Side) (m : MessageView) (c : Call) (output : StepOutput) →
        StepKind received (leaves_on_ack phase side m) (at_phase phase c) output (ack_in phase config at side m (at_phase phase c) output)
    ack_in_transition (Offered x) at side m c output = onward_stays (at_phase (Offered x) c) output output
    ack_in_transition (Established x stage) at side m c output = ack_transition stage at x side m c output
    ack_in_transition (Detached detached) at side m c output = onward_stays (at_phase (Detached detached) c) output output
    ack_in_transition (Over cause) at side m c output = onward_stays (at_phase (Over cause) c) output output

    cancel_in_transition : (phase : Phase) (at : ℕ) (key : TKey) (m : MessageView) (invite : TKey) (c : Call) (output : StepOutput) →
        StepKind received (leaves_on_cancel phase invite (at_phase phase c)) (at_phase phase c) output (cancel_in phase config at key m invite (at_phase phase c) output)
    cancel_in_transition (Offered x) at key m invite c output = cancel_transition received at x key m invite c output
    cancel_in_transition (Established x stage) at key m invite c output = cancel_at_stays stage x invite c output (with_status_to config (at_phase (Established x stage) c) key m 200 output)
    cancel_in_transition (Detached detached) at key m invite c output = onward_stays (at_phase (Detached detached) c) output output
    cancel_in_transition (Over cause) at key m invite c output = onward_stays (at_phase (Over cause) c) output output

    due_in_transition : (phase : Phase) (now : SnapshotView) (what : DueWord) (c : Call) (output : StepOutput) →
        StepKind received (leaves_on_due phase what (at_phase phase c)) (at_phase phase c) output (due_in phase config now what (at_phase phase c) output)
    due_in_transition (Offered x) now what c output = due_transition received now x what c output
    due_in_transition (Established x stage) now what c output = due_at_transition stage now.at x what c output
    due_in_transition (Detached detached) now what c output = onward_stays (at_phase (Detached detached) c) output output
    due_in_transition (Over cause) now what c output = onward_stays (at_phase (Over cause) c) output output

    answer_transition : (branch : Option (List ℕ)) (now : SnapshotView) (key : TKey) (m : MessageView) (c : Call) (output : StepOutput) →
        StepKind received (leaves_on_response branch m c) c output (on_response_to branch config now key m c output)
    answer_transition None now key m c output = onward_stays c output output
    answer_transition (Some branch) now key m c output = by (is_current branch c)
      where
        by : (t : Bool) → StepKind received (t && leaves_on_status (status_of m.parsed.start) c.phase) c output
            (if t then response_in c.phase config now key m c output else on_other_response config now.at key m branch c output)
        by true = response_in_transition c.phase now key m c output
        by false = answered_other_stays now.at key m branch c output

    timeout_of_transition : (branch : Option (List ℕ)) (now : SnapshotView) (c : Call) (output : StepOutput) → StepKind received (leaves_on_timeout_of branch c) c output (on_timeout_of branch config now c output)
    timeout_of_transition None now c output = onward_stays c output output
    timeout_of_transition (Some branch) now c output = by (is_current branch c)
      where
        by : (t : Bool) → StepKind received (t && leaves_on_timeout c.phase) c output (if t then timeout_in c.phase config now c output else on_other_timeout config branch c output)
        by true = timeout_in_transition c.phase now c output
        by false = timed_out_stays branch c output

  request_in_row : (phase : Phase) (at : ℕ) (side : Side) (key : TKey) (m : MessageView) (c : Call) (output : StepOutput) →
      StepKind (signal.Request side key m) (leaves_on_request phase side m) (record c { phase = phase }) output (request_in phase config at side key m (record c { phase = phase }) output)
  request_in_row (Offered x) at side key m c output = request_transition key m (offered_request_check x side m) at side x c output refl
  request_in_row (Established x stage) at side key m c output = request_at_transition side key m (request_check (leg_of side x) m (busy_in stage side)) stage at x c output refl
  request_in_row (Detached detached) at side key m c output = onward_stays (signal.Request side key m) (record c { phase = Detached detached }) output output
  request_in_row (Over cause) at side key m c output = onward_stays (signal.Request side key m) (record c { phase = Over cause }) output output

  -- ---- any signal

  pub row_goes : (now : SnapshotView) (received : Signal) (c : Call) (output : StepOutput) → StepKind received (leaves received c) c output (transition config now received c output)
  unfolding transition
  row_goes now (signal.Request side key request) c output = request_in_row c.phase now.at side key request c output
  row_goes now (signal.Ack side ack) c output = ack_in_transition (signal.Ack side ack) c.phase now.at side ack c output
  row_goes now (signal.Cancel key cancel invite) c output = cancel_in_transition (signal.Cancel key cancel invite) c.phase now.at key cancel invite c output
  row_goes now (signal.Answer key response) c output = answer_transition (signal.Answer key response) (awaited_request_branch response) now key response c output
  row_goes now (signal.Silent branch method) c output = timeout_of_transition (signal.Silent branch method) (timed_out_branch branch method) now c output
  row_goes now (signal.Due what) c output = due_in_transition (signal.Due what) c.phase now what c output
  row_goes now (signal.Ended key) c output = quiet_stays (signal.Ended key) c output _ (record { attempts = refl; over = refl; in_flight = refl })

  -- ---- as it opens

  unless_refused_leaves : (cause : Option Cause) (now : SnapshotView) (caller : Leg) (c : Call) (output : StepOutput) → Leaves c (unless_refused cause config now caller c output)
  unless_refused_leaves None now caller c output = reach_leaves now caller None (initial_target c.opening) c output
  unless_refused_leaves (Some cause) now caller c output = inl refl

  none_left : (c : Call) (s : StepResult) → c.relayed ≡ [] → Leaves c s → s.call.relayed ≡ []
  none_left c s none (inl e) = e
  none_left c s none (inr e) = subst (λ (flights : List RelayedTransaction). s.call.relayed ≡ flights) none e

  pub opened_none : (now : SnapshotView) (a : Arrival) (output : StepOutput) → (call_after_opening config now a output).call.relayed ≡ []
  unfolding call_after_opening
  opened_none now a output =
      let c : Call = new_call config (opening_of config now (token output) a) in
      let caller : Leg = caller_of now.at c in
      let notified : StepOutput = with_status_to_caller config c 100 (after_draw output) in
      none_left c (unless_refused (opening_refusal config now.at c.opening) config now caller c notified) refl (unless_refused_leaves (opening_refusal config now.at c.opening) now caller c notified)

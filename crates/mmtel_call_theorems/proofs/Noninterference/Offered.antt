-- Transitions of an offered call use public parts alone: on requests of a side, on CANCEL, and where its caller abandons it.
use Rattle.std.proofs.Common.{◌≡◌, ℕ, Bool, true, false, ◌==◌, ◌||◌, refl, cond}
use Rattle.std.specs.Prelude.{Result, Ok, Err}
use Rattle.mmtel_compose.specs.ReceivedMessages.{MessageView}
use Rattle.mmtel_output.specs.Sending.{with_due_cancel}
use Rattle.mmtel_output.specs.declared.outputs.StepOutput.{StepOutput}
use Rattle.mmtel_leg.specs.declared.dialogues.DialogueFault.{DialogueFault}
use Rattle.mmtel_rules.specs.declared.values.Identities2.{Identities2}
use Rattle.mmtel_transaction.specs.declared.words.TKey.{TKey}
use Rattle.mmtel_types.specs.Causes.{status_of}
use Rattle.mmtel_types.specs.declared.causes.Cause.{Cause}
use Rattle.mmtel_types.specs.declared.causes.Cause.TheVariants as causes
use Rattle.mmtel_types.specs.declared.numbers.Peer.{Peer}
use Rattle.mmtel_types.specs.declared.sides.Side.{Side}
use Rattle.mmtel_types.specs.declared.sides.Side.TheVariants.{Caller, Callee}
use Rattle.mmtel_call_services.specs.CallConfig.{CallConfigView, trusts}
use Rattle.mmtel_call.specs.Closing.{step_result}
use Rattle.mmtel_call.specs.Requests.{is_bye, is_prack, is_update, with_refused_request, with_unlisted_response}
use Rattle.mmtel_call.specs.Ringing.{attempt_after_request, call_without_attempt, end_before_answer, offered_request_check, on_caller_cancel, on_cancel, on_other, on_prack_of, on_request, on_request_if, on_valid_request}
use Rattle.mmtel_call.specs.Sending.{with_status_to, with_status_to_caller}
use Rattle.mmtel_call.specs.Updates.{on_update}
use Rattle.mmtel_call.specs.declared.calls.Call.{Call}
use Rattle.mmtel_call.specs.declared.calls.Phase.TheVariants.{Offered}
use Rattle.mmtel_call.specs.declared.calls.OfferedAttempt.{OfferedAttempt}
use Rattle.mmtel_call_theorems.specs.Noninterference.PublicCall.{public_call, public_offered, public_sent_invite}
use Rattle.mmtel_call_theorems.specs.Noninterference.Premises.{FitsOffered, IsFromOwnPeer}
use Rattle.mmtel_call_theorems.specs.Noninterference.Roles.{Role, private_fields, without_private}
use Rattle.mmtel_call_theorems.specs.Noninterference.Transitions.{CancelsWhileOffered, RequestsWhileOffered}
use Rattle.mmtel_call_theorems.specs.Noninterference.Observations.{EquivalentOutputs, EquivalentSteps, Trust, trust_of}
use Rattle.mmtel_call_theorems.proofs.Noninterference.RelayedRequests.{prack-equivalent, prack_refused-equivalent, update-equivalent}
use Rattle.mmtel_call_theorems.proofs.Noninterference.Transitions.{cancelled-equivalent, left_public, on-equivalent, over-equivalent-by, own-reply}
use Rattle.mmtel_call_theorems.proofs.Noninterference.Transitions.{refused_request-equivalent, status-equivalent, step-if, step-where, unlisted-equivalent}
use Rattle.mmtel_call_theorems.proofs.Noninterference.Sent.{Heads}

or_first : (b c : Bool) → b ≡ true → (b || c) ≡ true
or_first true c e = refl
or_first false c e = absurd cc

or_second : (b c : Bool) → c ≡ true → (b || c) ≡ true
or_second true c e = refl
or_second false c e = e

module _ (heads : Heads) (config : CallConfigView) (keys : TKey → Bool) where
  abbrev T : Trust
  T = trust_of config keys

  abbrev known : Peer → Bool
  known = λ peer. trusts config peer

  -- ---- its caller abandons it, or does not acknowledge a reliable response

  pub gives-up : (cause : Cause) (who : Identities2) (at : ℕ) (x : OfferedAttempt) (c : Call) (one other : StepOutput) → IsFromOwnPeer T c.opening.key c.opening.invite → EquivalentOutputs T one other →
      EquivalentSteps T (end_before_answer cause config at (public_offered known x) (public_call known who c) one) (end_before_answer cause config at x c other)
  gives-up cause who at x c one other asked a =
      let told : StepOutput = with_status_to_caller config (public_call known who c) (status_of cause) one in
      let said : StepOutput = with_status_to_caller config c (status_of cause) other in
      over-equivalent-by heads config keys who at cause x.caller.meter x.callee.leg.meter (call_without_attempt (public_offered known x) (public_call known who c)) (call_without_attempt x c)
      (with_due_cancel config.sip (public_sent_invite known x.attempt.invite) told) (with_due_cancel config.sip x.attempt.invite said)
      (left_public heads config keys who x c)
      (cancelled-equivalent heads config keys x.attempt.invite told said (status-equivalent heads config keys who c (status_of cause) one other asked a))

  -- ---- requests

  pracks-equivalent : (side : Side) (who : Identities2) (x : OfferedAttempt) (key : TKey) (role : Role) (m : MessageView) (c : Call) (one other : StepOutput) → is_prack m ≡ true → IsFromOwnPeer T key m →
      FitsOffered c.opening x.attempt.service side m role → EquivalentOutputs T one other →
      EquivalentSteps T (on_prack_of side config (public_offered known x) key (without_private role m) (public_call known who c) one) (on_prack_of side config x key m c other)
  pracks-equivalent Caller who x key role m c one other is asked fits a = prack-equivalent heads config keys who x key role m c one other asked (fits (or_first (is_prack m) (is_update m) is)) a
  pracks-equivalent Callee who x key role m c one other is asked fits a = prack_refused-equivalent heads config keys who key role m c one other asked a

  updates-equivalent : (side : Side) (who : Identities2) (x : OfferedAttempt) (key : TKey) (role : Role) (m : MessageView) (c : Call) (one other : StepOutput) → is_update m ≡ true → IsFromOwnPeer T key m →
      FitsOffered c.opening x.attempt.service side m role → EquivalentOutputs T one other →
      EquivalentSteps T (on_update config (public_offered known x) side key (without_private role m) (public_call known who c) one) (on_update config x side key m c other)
  updates-equivalent Caller who x key role m c one other is asked fits a = update-equivalent heads config keys who x Caller key role m c one other asked (fits (or_second (is_prack m) (is_update m) is)) a
  updates-equivalent Callee who x key role m c one other is asked fits a = update-equivalent heads config keys who x Callee key role m c one other asked (fits is) a

  others-equivalent : (side : Side) (who : Identities2) (x : OfferedAttempt) (key : TKey) (role : Role) (m : MessageView) (c : Call) (one other : StepOutput) → IsFromOwnPeer T key m →
      FitsOffered c.opening x.attempt.service side m role →
      EquivalentOutputs T one other →
      EquivalentSteps T (on_other config (public_offered known x) side key (without_private role m) (public_call known who c) one) (on_other config x side key m c other)
  others-equivalent side who x key role m c one other asked fits a =
      let d : Call = public_call known who c in
      let n : MessageView = without_private role m in
      let z : OfferedAttempt = public_offered known x in
      step-where T (is_prack m) (on_prack_of side config z key n d one) (cond (is_update m) (on_update config z side key n d one) (step_result d (with_unlisted_response config d key n one)))
      (on_prack_of side config x key m c other) (cond (is_update m) (on_update config x side key m c other) (step_result c (with_unlisted_response config c key m other)))
      (λ is. pracks-equivalent side who x key role m c one other is asked fits a)
      (λ no. step-where T (is_update m) (on_update config z side key n d one) (step_result d (with_unlisted_response config d key n one)) (on_update config x side key m c other)
      (step_result c (with_unlisted_response config c key m other))
      (λ is. updates-equivalent side who x key role m c one other is asked fits a)
      (λ no. on-equivalent heads config keys who c (with_unlisted_response config d key n one) (with_unlisted_response config c key m other) (unlisted-equivalent heads config keys who c key role m one other asked a)))

  received-equivalent : (who : Identities2) (at : ℕ) (x : OfferedAttempt) (side : Side) (key : TKey) (role : Role) (m : MessageView) (c : Call) (one other : StepOutput) →
      IsFromOwnPeer T c.opening.key c.opening.invite → IsFromOwnPeer T key m →
      FitsOffered c.opening x.attempt.service side m role → EquivalentOutputs T one other →
      EquivalentSteps T (on_valid_request config at (public_offered known x) side key (without_private role m) (public_call known who c) one) (on_valid_request config at x side key m c other)
  received-equivalent who at x Caller key role m c one other opening asked fits a =
      let d : Call = public_call known who c in
      let n : MessageView = without_private role m in
      let z : OfferedAttempt = public_offered known x in
      step-if T (is_bye m) (on_caller_cancel config at z d (with_status_to config d key n 200 one)) (on_other config z Caller key n d one)
      (on_caller_cancel config at x c (with_status_to config c key m 200 other)) (on_other config x Caller key m c other)
      (gives-up causes.Cancelled who at x c (with_status_to config d key n 200 one) (with_status_to config c key m 200 other) opening
      (own-reply heads config keys c key (private_fields role m.parsed) m 200 one other asked a))
      (others-equivalent Caller who x key role m c one other asked fits a)
  received-equivalent who at x Callee key role m c one other opening asked fits a = others-equivalent Callee who x key role m c one other asked fits a

  request_by : (r : Result (Unit {0}) DialogueFault) (who : Identities2) (at : ℕ) (x : OfferedAttempt) (side : Side) (key : TKey) (role : Role) (m : MessageView) (c : Call) (one other : StepOutput) →
      IsFromOwnPeer T c.opening.key c.opening.invite → IsFromOwnPeer T key m → FitsOffered c.opening x.attempt.service side m role → EquivalentOutputs T one other →
      EquivalentSteps T (on_request_if r config at (public_offered known x) side key (without_private role m) (public_call known who c) one) (on_request_if r config at x side key m c other)
  request_by (Ok received) who at x Caller key role m c one other opening asked fits a =
      received-equivalent who at (attempt_after_request Caller m x) Caller key role m (record c { phase = Offered (attempt_after_request Caller m x) }) one other opening asked fits a
  request_by (Ok received) who at x Callee key role m c one other opening asked fits a =
      received-equivalent who at (attempt_after_request Callee m x) Callee key role m (record c { phase = Offered (attempt_after_request Callee m x) }) one other opening asked fits a
  request_by (Err fault) who at x side key role m c one other opening asked fits a =
      on-equivalent heads config keys who c (with_refused_request config (public_call known who c) key (without_private role m) fault one) (with_refused_request config c key m fault other)
      (refused_request-equivalent heads config keys who c key role m fault one other asked a)

  said_offered : (who : Identities2) (at : ℕ) (x : OfferedAttempt) (side : Side) (key : TKey) (role : Role) (m : MessageView) (c : Call) (one other : StepOutput) →
      IsFromOwnPeer T c.opening.key c.opening.invite → IsFromOwnPeer T key m →
      FitsOffered c.opening x.attempt.service side m role → EquivalentOutputs T one other →
      EquivalentSteps T (on_request config at (public_offered known x) side key (without_private role m) (public_call known who c) one) (on_request config at x side key m c other)
  said_offered who at x Caller key role m c one other opening asked fits a = request_by (offered_request_check x Caller m) who at x Caller key role m c one other opening asked fits a
  said_offered who at x Callee key role m c one other opening asked fits a = request_by (offered_request_check x Callee m) who at x Callee key role m c one other opening asked fits a

  -- ---- CANCEL

  cancels_offered : (who : Identities2) (at : ℕ) (x : OfferedAttempt) (key : TKey) (role : Role) (m : MessageView) (invite : TKey) (c : Call) (one other : StepOutput) →
      IsFromOwnPeer T c.opening.key c.opening.invite → IsFromOwnPeer T key m →
      EquivalentOutputs T one other →
      EquivalentSteps T (on_cancel config at (public_offered known x) key (without_private role m) invite (public_call known who c) one) (on_cancel config at x key m invite c other)
  cancels_offered who at x key role m invite c one other opening asked a =
      let d : Call = public_call known who c in
      let n : MessageView = without_private role m in
      let b : EquivalentOutputs T (with_status_to config d key n 200 one) (with_status_to config c key m 200 other) = own-reply heads config keys c key (private_fields role m.parsed) m 200 one other asked a in
      step-if T (invite.0 == c.opening.key.0) (on_caller_cancel config at (public_offered known x) d (with_status_to config d key n 200 one)) (step_result d (with_status_to config d key n 200 one))
      (on_caller_cancel config at x c (with_status_to config c key m 200 other)) (step_result c (with_status_to config c key m 200 other))
      (gives-up causes.Cancelled who at x c (with_status_to config d key n 200 one) (with_status_to config c key m 200 other) opening b)
      (on-equivalent heads config keys who c (with_status_to config d key n 200 one) (with_status_to config c key m 200 other) b)

pub requests_while_offered : Heads → RequestsWhileOffered
requests_while_offered heads config keys who at x side key role m c one other opening asked fits a = said_offered heads config keys who at x side key role m c one other opening asked fits a

pub cancels_while_offered : Heads → CancelsWhileOffered
cancels_while_offered heads config keys who at x key role m invite c one other opening asked a = cancels_offered heads config keys who at x key role m invite c one other opening asked a

-- The step table as a whole uses public parts alone.
use Rattle.std.proofs.Common.{◌≡◌, ℕ, ◌&&◌, Bool, List, refl, ap, sym, ◌∙◌, map, cond, subst, Option, Some, None}
use Rattle.std.specs.Prelude.{position}
use Rattle.mmtel_compose.specs.ReceivedMessages.{MessageView, status_of}
use Rattle.mmtel_output.specs.declared.outputs.StepOutput.{StepOutput}
use Rattle.mmtel_output.specs.declared.sent_invites.AbandonedInvite.{AbandonedInvite}
use Rattle.mmtel_precedence.specs.Calls.{SnapshotView}
use Rattle.mmtel_precedence.specs.Theorems.{VerdictsDependOnMatches}
use Rattle.mmtel_rules.specs.declared.values.Identities2.{Identities2}
use Rattle.mmtel_sheet_values.specs.declared.values.Sheet.{Sheet}
use Rattle.mmtel_transaction.specs.declared.words.DueWord.{DueWord}
use Rattle.mmtel_transaction.specs.declared.words.DueWord.TheVariants as due
use Rattle.mmtel_transaction.specs.declared.words.TKey.{TKey}
use Rattle.mmtel_types.specs.declared.numbers.Peer.{Peer}
use Rattle.mmtel_types.specs.declared.sides.Side.{Side}
use Rattle.mmtel_types.specs.declared.sides.Side.TheVariants.{Caller, Callee}
use Rattle.mmtel_output.specs.ResponseMatching.{awaited_request_branch, timed_out_branch}
use Rattle.mmtel_call_services.specs.CallConfig.{CallConfigView, trusts}
use Rattle.mmtel_call.specs.declared.calls.Call.{Call}
use Rattle.mmtel_call.specs.declared.calls.Phase.{Phase}
use Rattle.mmtel_call.specs.declared.calls.AnsweredInvite.{AnsweredInvite}
use Rattle.mmtel_call.specs.declared.calls.OfferedAttempt.{OfferedAttempt}
use Rattle.mmtel_call.specs.declared.calls.Phase.TheVariants.{Detached, Established, Offered, Over}
use Rattle.mmtel_call.specs.declared.calls.Stage.TheVariants.{Answered, Departing, Reinviting, Stable}
use Rattle.mmtel_call.specs.Closing.{StepResult}
use Rattle.mmtel_call.specs.Dismissal.{leaves_on_ack, leaves_on_cancel, leaves_on_due, leaves_on_request, leaves_on_status, leaves_on_timeout, leaves_on_timer}
use Rattle.mmtel_call.specs.RelayedTransactions.{output_after_dismissal, without_in_flight}
use Rattle.mmtel_call.specs.OtherRequests.{is_abandoned_key, is_answered_key, on_other_response, on_other_timeout, without, without_key}
use Rattle.mmtel_call.specs.Sending.{with_status_to}
use Rattle.mmtel_call.specs.Table.{ack_in, cancel_in, due_in, is_current, leaves, leaves_on_response, leaves_on_timeout_of, on_response_to, on_timeout_of, request_in, response_in, step, timeout_in, transition}
use Rattle.mmtel_call.specs.declared.signals.Signal.{Signal}
use Rattle.mmtel_call.specs.declared.signals.Signal.TheVariants as signal
use Rattle.mmtel_call_theorems.specs.Noninterference.PublicCall.{public_abandoned, public_answered, public_call, public_offered, public_phase}
use Rattle.mmtel_call_theorems.specs.Noninterference.Premises.{CanContinue, IsFromOwnPeer, phase_is_from_own_peer, requests_are_from_own_peers}
use Rattle.mmtel_call_theorems.specs.Noninterference.Roles.{Role, private_fields, without_private}
use Rattle.mmtel_call_theorems.specs.Noninterference.Observations.{EquivalentOutputs, EquivalentSteps, Trust, trust_of}
use Rattle.mmtel_call_theorems.specs.Noninterference.StepTable.{FitsIn, MayReceive, RespondsIn, RespondsToOne, SentIn, ServedIn, StepsSeePublicParts, public_signal}
use Rattle.mmtel_call_theorems.proofs.Noninterference.Acks.{acks_once_answered}
use Rattle.mmtel_call_theorems.proofs.Noninterference.Across.{cancels_once_answered, deadlines_once_answered, requests_once_answered, responses_across, timeouts_once_answered}
use Rattle.mmtel_call_theorems.proofs.Noninterference.Failing.{deadlines_while_offered, responses_while_offered, timeouts_while_offered}
use Rattle.mmtel_call_theorems.proofs.Noninterference.Dismissals.{dismissals}
use Rattle.mmtel_call_theorems.proofs.Noninterference.Leaving.{responses_to_others, timeouts_of_others, without_found}
use Rattle.mmtel_call_theorems.proofs.Noninterference.Offered.{cancels_while_offered, requests_while_offered}
use Rattle.mmtel_call_theorems.proofs.Noninterference.Transitions.{on-equivalent, on-equivalent-by, own-reply, step-if, step-where}
use Rattle.mmtel_call_theorems.proofs.Noninterference.Sent.{Heads}

answered_same : (role : Role) (m : MessageView) → awaited_request_branch (without_private role m) ≡ awaited_request_branch m
unfolding awaited_request_branch
answered_same role m = refl

module _ (heads : Heads) (law : VerdictsDependOnMatches) (records : List Sheet) (config : CallConfigView) (keys : TKey → Bool) (now : SnapshotView) where
  abbrev T : Trust
  T = trust_of config keys

  abbrev known : Peer → Bool
  known = λ peer. trusts config peer

  current_same : (branch : List ℕ) (who : Identities2) (c : Call) → (p : Phase) → c.phase ≡ p → is_current branch (public_call known who c) ≡ is_current branch c
  current_same branch who c (Offered x) e = rw e refl
  current_same branch who c (Established x (Answered side success)) e = rw e refl
  current_same branch who c (Established x (Departing side success)) e = rw e refl
  current_same branch who c (Established x Stable) e = rw e refl
  current_same branch who c (Established x (Reinviting side q)) e = rw e refl
  current_same branch who c (Detached detached) e = rw e refl
  current_same branch who c (Over cause) e = rw e refl

  request-equivalent : (p : Phase) (who : Identities2) (side : Side) (key : TKey) (role : Role) (m : MessageView) (c : Call) (one other : StepOutput) → IsFromOwnPeer T c.opening.key c.opening.invite →
      phase_is_from_own_peer T p → IsFromOwnPeer T key m → FitsIn p c side m role → EquivalentOutputs T one other →
      EquivalentSteps T (request_in (public_phase known p) config now.at side key (without_private role m) (public_call known who c) one) (request_in p config now.at side key m c other)
  request-equivalent (Offered x) who side key role m c one other opening kept asked fits a = requests_while_offered heads config keys who now.at x side key role m c one other opening asked fits a
  request-equivalent (Established x stage) who side key role m c one other opening kept asked fits a = requests_once_answered heads stage config keys who now.at x side key role m c one other asked fits kept a
  request-equivalent (Detached detached) who side key role m c one other opening kept asked fits a = on-equivalent heads config keys who c one other a
  request-equivalent (Over cause) who side key role m c one other opening kept asked fits a = on-equivalent heads config keys who c one other a

  ack-equivalent : (p : Phase) (who : Identities2) (side : Side) (role : Role) (m : MessageView) (c : Call) (one other : StepOutput) → FitsIn p c side m role → SentIn p T c side m → EquivalentOutputs T one other →
      EquivalentSteps T (ack_in (public_phase known p) config now.at side (without_private role m) (public_call known who c) one) (ack_in p config now.at side m c other)
  ack-equivalent (Offered x) who side role m c one other fits sent a = on-equivalent heads config keys who c one other a
  ack-equivalent (Established x stage) who side role m c one other fits sent a = acks_once_answered heads stage config keys who now.at x side role m c one other fits sent a
  ack-equivalent (Detached detached) who side role m c one other fits sent a = on-equivalent heads config keys who c one other a
  ack-equivalent (Over cause) who side role m c one other fits sent a = on-equivalent heads config keys who c one other a

  cancel-equivalent : (p : Phase) (who : Identities2) (key : TKey) (role : Role) (m : MessageView) (invite : TKey) (c : Call) (one other : StepOutput) →
      IsFromOwnPeer T c.opening.key c.opening.invite → IsFromOwnPeer T key m → EquivalentOutputs T one other →
      EquivalentSteps T (cancel_in (public_phase known p) config now.at key (without_private role m) invite (public_call known who c) one) (cancel_in p config now.at key m invite c other)
  cancel-equivalent (Offered x) who key role m invite c one other opening asked a = cancels_while_offered heads config keys who now.at x key role m invite c one other opening asked a
  cancel-equivalent (Established x stage) who key role m invite c one other opening asked a =
      cancels_once_answered heads stage config keys who x invite c (with_status_to config (public_call known who c) key (without_private role m) 200 one) (with_status_to config c key m 200 other)
      (own-reply heads config keys c key (private_fields role m.parsed) m 200 one other asked a)
  cancel-equivalent (Detached detached) who key role m invite c one other opening asked a = on-equivalent heads config keys who c one other a
  cancel-equivalent (Over cause) who key role m invite c one other opening asked a = on-equivalent heads config keys who c one other a

  response-equivalent : (p : Phase) (who : Identities2) (key : TKey) (role : Role) (m : MessageView) (c : Call) (one other : StepOutput) → CanContinue records T now who c →
      phase_is_from_own_peer T p → ServedIn p records → RespondsIn p T key role m c → EquivalentOutputs T one other →
      EquivalentSteps T (response_in (public_phase known p) config now key (without_private role m) (public_call known who c) one) (response_in p config now key m c other)
  response-equivalent (Offered x) who key role m c one other can kept served answer a =
      responses_while_offered heads law records config keys now who x key role m (status_of m.parsed.start) c one other can served answer a
  response-equivalent (Established x (Answered side success)) who key role m c one other can kept served answer a = on-equivalent heads config keys who c one other a
  response-equivalent (Established x (Departing side success)) who key role m c one other can kept served answer a = on-equivalent heads config keys who c one other a
  response-equivalent (Established x Stable) who key role m c one other can kept served answer a = on-equivalent heads config keys who c one other a
  response-equivalent (Established x (Reinviting side q)) who key role m c one other can kept served answer a = responses_across heads side q config keys who now.at x key role m c one other kept answer.0 answer.1 a
  response-equivalent (Detached detached) who key role m c one other can kept served answer a = on-equivalent heads config keys who c one other a
  response-equivalent (Over cause) who key role m c one other can kept served answer a = on-equivalent heads config keys who c one other a

  timeout-equivalent : (p : Phase) (who : Identities2) (c : Call) (one other : StepOutput) → CanContinue records T now who c → phase_is_from_own_peer T p → ServedIn p records → EquivalentOutputs T one other →
      EquivalentSteps T (timeout_in (public_phase known p) config now (public_call known who c) one) (timeout_in p config now c other)
  timeout-equivalent (Offered x) who c one other can kept served a = timeouts_while_offered heads law records config keys now who x c one other can served a
  timeout-equivalent (Established x stage) who c one other can kept served a = timeouts_once_answered heads stage config keys who now.at x c one other kept a
  timeout-equivalent (Detached detached) who c one other can kept served a = on-equivalent heads config keys who c one other a
  timeout-equivalent (Over cause) who c one other can kept served a = on-equivalent heads config keys who c one other a

  due-equivalent : (p : Phase) (who : Identities2) (what : DueWord) (c : Call) (one other : StepOutput) → CanContinue records T now who c → phase_is_from_own_peer T p → ServedIn p records →
      EquivalentOutputs T one other →
      EquivalentSteps T (due_in (public_phase known p) config now what (public_call known who c) one) (due_in p config now what c other)
  due-equivalent (Offered x) who what c one other can kept served a = deadlines_while_offered heads law records config keys now who x what c one other can served a
  due-equivalent (Established x stage) who what c one other can kept served a = deadlines_once_answered heads stage config keys who now.at x what c one other kept a
  due-equivalent (Detached detached) who what c one other can kept served a = on-equivalent heads config keys who c one other a
  due-equivalent (Over cause) who what c one other can kept served a = on-equivalent heads config keys who c one other a

  -- ---- by the branch of the request

  answer-equivalent : (o : Option (List ℕ)) (who : Identities2) (key : TKey) (role : Role) (m : MessageView) (c : Call) (one other : StepOutput) → CanContinue records T now who c →
      requests_are_from_own_peers T c → ServedIn c.phase records →
      RespondsToOne o T key role m c → EquivalentOutputs T one other →
      EquivalentSteps T (on_response_to o config now key (without_private role m) (public_call known who c) one) (on_response_to o config now key m c other)
  answer-equivalent None who key role m c one other can kept served answer a = on-equivalent heads config keys who c one other a
  answer-equivalent (Some branch) who key role m c one other can kept served answer a =
      let d : Call = public_call known who c in
      let n : MessageView = without_private role m in
      let p : StepResult = response_in d.phase config now key n d one in
      let q : StepResult = on_other_response config now.at key n branch d one in
      let v : StepResult = response_in c.phase config now key m c other in
      let w : StepResult = on_other_response config now.at key m branch c other in
      subst (λ (b : Bool). EquivalentSteps T (cond b p q) (cond (is_current branch c) v w)) (sym (current_same branch who c c.phase refl))
      (step-where T (is_current branch c) p q v w
      (λ is. response-equivalent c.phase who key role m c one other can kept.0 served (answer.0 is) a)
      (λ is. responses_to_others heads config keys who now.at key role m branch c one other kept.1 (answer.1 is) a))

  key_public : (key : TKey) (who : Identities2) (c : Call) → without_key key (public_call known who c) ≡ public_call known who (without_key key c)
  key_public key who c =
      ap (λ (ls : List AbandonedInvite). record (public_call known who c) {
        abandoned = ls;
        answered_invites = without (position (is_answered_key key) (map (public_answered known) c.answered_invites)) (map (public_answered known) c.answered_invites);
      }) (without_found (public_abandoned known) (is_abandoned_key key) (λ l. refl) c.abandoned)
      ∙ ap (λ (ts : List AnsweredInvite). record (public_call known who (without_key key c)) { answered_invites = ts }) (without_found (public_answered known) (is_answered_key key) (λ t. refl) c.answered_invites)

  timeout_of-equivalent : (o : Option (List ℕ)) (who : Identities2) (c : Call) (one other : StepOutput) → CanContinue records T now who c → requests_are_from_own_peers T c → ServedIn c.phase records →
      EquivalentOutputs T one other →
      EquivalentSteps T (on_timeout_of o config now (public_call known who c) one) (on_timeout_of o config now c other)
  timeout_of-equivalent None who c one other can kept served a = on-equivalent heads config keys who c one other a
  timeout_of-equivalent (Some branch) who c one other can kept served a =
      let d : Call = public_call known who c in
      let p : StepResult = timeout_in d.phase config now d one in
      let q : StepResult = on_other_timeout config branch d one in
      let v : StepResult = timeout_in c.phase config now c other in
      let w : StepResult = on_other_timeout config branch c other in
      subst (λ (b : Bool). EquivalentSteps T (cond b p q) (cond (is_current branch c) v w)) (sym (current_same branch who c c.phase refl))
      (step-if T (is_current branch c) p q v w
      (timeout-equivalent c.phase who c one other can kept.0 served a)
      (timeouts_of_others heads config keys who branch c one other kept.1 a))

  -- ---- the transition for a signal

  transition-equivalent : (x : Signal) (who : Identities2) (role : Role) (c : Call) (one other : StepOutput) → CanContinue records T now who c → requests_are_from_own_peers T c →
      ServedIn c.phase records → MayReceive x T role c → EquivalentOutputs T one other →
      EquivalentSteps T (transition config now (public_signal role x) (public_call known who c) one) (transition config now x c other)
  unfolding transition
  transition-equivalent (signal.Request side key request) who role c one other can kept served receives a = request-equivalent c.phase who side key role request c one other can.opening kept.0 receives.0 receives.1 a
  transition-equivalent (signal.Ack side ack) who role c one other can kept served receives a = ack-equivalent c.phase who side role ack c one other receives.0 receives.1 a
  transition-equivalent (signal.Cancel key cancel invite) who role c one other can kept served receives a = cancel-equivalent c.phase who key role cancel invite c one other can.opening receives a
  transition-equivalent (signal.Answer key response) who role c one other can kept served receives a =
      subst (λ (o : Option (List ℕ)). EquivalentSteps T (on_response_to o config now key (without_private role response) (public_call known who c) one)
      (on_response_to (awaited_request_branch response) config now key response c other)) (sym (answered_same role response))
      (answer-equivalent (awaited_request_branch response) who key role response c one other can kept served receives a)
  transition-equivalent (signal.Silent branch method) who role c one other can kept served receives a = timeout_of-equivalent (timed_out_branch branch method) who c one other can kept served a
  transition-equivalent (signal.Due what) who role c one other can kept served receives a = due-equivalent c.phase who what c one other can kept.0 served a
  transition-equivalent (signal.Ended key) who role c one other can kept served receives a =
      on-equivalent-by heads config keys who (without_key key (public_call known who c)) (without_key key c) one other (key_public key who c) a

  -- ---- a step that ends the attempt without a 2xx, or the call

  leaves_request : (p : Phase) (side : Side) (role : Role) (m : MessageView) → leaves_on_request (public_phase known p) side (without_private role m) ≡ leaves_on_request p side m
  leaves_request (Offered x) Caller role m = refl
  leaves_request (Offered x) Callee role m = refl
  leaves_request (Established x (Answered waiting success)) Caller role m = refl
  leaves_request (Established x (Answered waiting success)) Callee role m = refl
  leaves_request (Established x (Departing waiting success)) Caller role m = refl
  leaves_request (Established x (Departing waiting success)) Callee role m = refl
  leaves_request (Established x Stable) Caller role m = refl
  leaves_request (Established x Stable) Callee role m = refl
  leaves_request (Established x (Reinviting asking q)) Caller role m = refl
  leaves_request (Established x (Reinviting asking q)) Callee role m = refl
  leaves_request (Detached detached) side role m = refl
  leaves_request (Over cause) side role m = refl

  leaves_ack : (p : Phase) (side : Side) (role : Role) (m : MessageView) → leaves_on_ack (public_phase known p) side (without_private role m) ≡ leaves_on_ack p side m
  leaves_ack (Offered x) side role m = refl
  leaves_ack (Established x (Answered waiting success)) side role m = refl
  leaves_ack (Established x (Departing waiting success)) side role m = refl
  leaves_ack (Established x Stable) side role m = refl
  leaves_ack (Established x (Reinviting asking q)) side role m = refl
  leaves_ack (Detached detached) side role m = refl
  leaves_ack (Over cause) side role m = refl

  leaves_cancel : (p : Phase) (invite : TKey) (who : Identities2) (c : Call) → leaves_on_cancel (public_phase known p) invite (public_call known who c) ≡ leaves_on_cancel p invite c
  leaves_cancel (Offered x) invite who c = refl
  leaves_cancel (Established x stage) invite who c = refl
  leaves_cancel (Detached detached) invite who c = refl
  leaves_cancel (Over cause) invite who c = refl

  leaves_status : (code : ℕ) (p : Phase) → leaves_on_status code (public_phase known p) ≡ leaves_on_status code p
  leaves_status code (Offered x) = refl
  leaves_status code (Established x (Answered waiting success)) = refl
  leaves_status code (Established x (Departing waiting success)) = refl
  leaves_status code (Established x Stable) = refl
  leaves_status code (Established x (Reinviting asking q)) = refl
  leaves_status code (Detached detached) = refl
  leaves_status code (Over cause) = refl

  leaves_timeout : (p : Phase) → leaves_on_timeout (public_phase known p) ≡ leaves_on_timeout p
  leaves_timeout (Offered x) = refl
  leaves_timeout (Established x (Answered waiting success)) = refl
  leaves_timeout (Established x (Departing waiting success)) = refl
  leaves_timeout (Established x Stable) = refl
  leaves_timeout (Established x (Reinviting asking q)) = refl
  leaves_timeout (Detached detached) = refl
  leaves_timeout (Over cause) = refl

  leaves_time : (x : OfferedAttempt) (what : DueWord) (who : Identities2) (c : Call) → leaves_on_timer (public_offered known x) what (public_call known who c) ≡ leaves_on_timer x what c
  leaves_time x (due.NoReply number) who c = refl
  leaves_time x (due.NoPrack own) who c = refl
  leaves_time x (due.Cap number) who c = refl
  leaves_time x (due.NoAck number) who c = refl
  leaves_time x (due.Expired number) who c = refl

  leaves_due : (p : Phase) (what : DueWord) (who : Identities2) (c : Call) → leaves_on_due (public_phase known p) what (public_call known who c) ≡ leaves_on_due p what c
  leaves_due (Offered x) what who c = leaves_time x what who c
  leaves_due (Established x (Answered waiting success)) what who c = refl
  leaves_due (Established x (Departing waiting success)) what who c = refl
  leaves_due (Established x Stable) what who c = refl
  leaves_due (Established x (Reinviting asking q)) what who c = refl
  leaves_due (Detached detached) what who c = refl
  leaves_due (Over cause) what who c = refl

  leaves_response : (o : Option (List ℕ)) (role : Role) (m : MessageView) (who : Identities2) (c : Call) → leaves_on_response o (without_private role m) (public_call known who c) ≡ leaves_on_response o m c
  leaves_response None role m who c = refl
  leaves_response (Some branch) role m who c =
      ap (λ (b : Bool). b && leaves_on_status (status_of m.parsed.start) (public_phase known c.phase)) (current_same branch who c c.phase refl)
      ∙ ap (λ (b : Bool). is_current branch c && b) (leaves_status (status_of m.parsed.start) c.phase)

  leaves_none : (o : Option (List ℕ)) (who : Identities2) (c : Call) → leaves_on_timeout_of o (public_call known who c) ≡ leaves_on_timeout_of o c
  leaves_none None who c = refl
  leaves_none (Some branch) who c =
      ap (λ (b : Bool). b && leaves_on_timeout (public_phase known c.phase)) (current_same branch who c c.phase refl)
      ∙ ap (λ (b : Bool). is_current branch c && b) (leaves_timeout c.phase)

  leaves_same : (x : Signal) (role : Role) (who : Identities2) (c : Call) → leaves (public_signal role x) (public_call known who c) ≡ leaves x c
  leaves_same (signal.Request side key request) role who c = leaves_request c.phase side role request
  leaves_same (signal.Ack side ack) role who c = leaves_ack c.phase side role ack
  leaves_same (signal.Cancel key cancel invite) role who c = leaves_cancel c.phase invite who c
  leaves_same (signal.Answer key response) role who c =
      ap (λ (o : Option (List ℕ)). leaves_on_response o (without_private role response) (public_call known who c)) (answered_same role response) ∙ leaves_response (awaited_request_branch response) role response who c
  leaves_same (signal.Silent branch method) role who c = leaves_none (timed_out_branch branch method) who c
  leaves_same (signal.Due what) role who c = leaves_due c.phase what who c
  leaves_same (signal.Ended key) role who c = refl

  -- the premises on a signal hold where nothing is in flight

  fits_still : (p : Phase) (c : Call) (side : Side) (m : MessageView) (role : Role) → FitsIn p c side m role → FitsIn p (without_in_flight c) side m role
  fits_still (Offered x) c side m role fits = fits
  fits_still (Established x stage) c side m role fits = fits
  fits_still (Detached detached) c side m role fits = tt
  fits_still (Over cause) c side m role fits = tt

  sent_still : (p : Phase) (c : Call) (side : Side) (m : MessageView) → SentIn p T c side m → SentIn p T (without_in_flight c) side m
  sent_still (Offered x) c side m sent = tt
  sent_still (Established x (Answered waiting success)) c side m sent = sent
  sent_still (Established x (Departing waiting success)) c side m sent = tt
  sent_still (Established x Stable) c side m sent = tt
  sent_still (Established x (Reinviting asking q)) c side m sent = tt
  sent_still (Detached detached) c side m sent = tt
  sent_still (Over cause) c side m sent = tt

  answers_still : (p : Phase) (key : TKey) (role : Role) (m : MessageView) (c : Call) → RespondsIn p T key role m c → RespondsIn p T key role m (without_in_flight c)
  answers_still (Offered x) key role m c answer = answer
  answers_still (Established x (Answered side success)) key role m c answer = tt
  answers_still (Established x (Departing side success)) key role m c answer = tt
  answers_still (Established x Stable) key role m c answer = tt
  answers_still (Established x (Reinviting side q)) key role m c answer = answer
  answers_still (Detached detached) key role m c answer = tt
  answers_still (Over cause) key role m c answer = tt

  one_still : (o : Option (List ℕ)) (key : TKey) (role : Role) (m : MessageView) (c : Call) → RespondsToOne o T key role m c → RespondsToOne o T key role m (without_in_flight c)
  one_still None key role m c answer = tt
  one_still (Some branch) key role m c answer = (
    λ is. answers_still c.phase key role m c (answer.0 is),
    λ is. record { abandoned = (answer.1 is).abandoned; answered = (answer.1 is).answered; in_flight = λ none nor at flight found got. absurd cc },
  )

  receives_still : (x : Signal) (role : Role) (c : Call) → MayReceive x T role c → MayReceive x T role (without_in_flight c)
  receives_still (signal.Request side key request) role c receives = (receives.0, fits_still c.phase c side request role receives.1)
  receives_still (signal.Ack side ack) role c receives = (fits_still c.phase c side ack role receives.0, sent_still c.phase c side ack receives.1)
  receives_still (signal.Cancel key cancel invite) role c receives = receives
  receives_still (signal.Answer key response) role c receives = one_still (awaited_request_branch response) key role response c receives
  receives_still (signal.Silent branch method) role c receives = tt
  receives_still (signal.Due what) role c receives = tt
  receives_still (signal.Ended key) role c receives = tt

  step-equivalent : (x : Signal) (who : Identities2) (role : Role) (c : Call) (one other : StepOutput) → CanContinue records T now who c → requests_are_from_own_peers T c → ServedIn c.phase records →
      MayReceive x T role c → EquivalentOutputs T one other →
      EquivalentSteps T (step config now (public_signal role x) (public_call known who c) one) (step config now x c other)
  unfolding step
  step-equivalent x who role c one other can kept served receives a =
      let d : Call = public_call known who c in
      let y : Signal = public_signal role x in
      let p : StepResult = transition config now y (without_in_flight d) (output_after_dismissal config d one) in
      let v : StepResult = transition config now x (without_in_flight c) (output_after_dismissal config c other) in
      subst (λ (b : Bool). EquivalentSteps T (cond b p (transition config now y d one)) (cond (leaves x c) v (transition config now x c other))) (sym (leaves_same x role who c))
      (step-if T (leaves x c) p (transition config now y d one) v (transition config now x c other)
      (transition-equivalent x who role (without_in_flight c) (output_after_dismissal config d one) (output_after_dismissal config c other)
      (record { opening = can.opening; caller = can.caller; covered = can.covered }) (kept.0, tt) served (receives_still x role c receives)
      (dismissals heads config keys who c one other kept.1 a))
      (transition-equivalent x who role c one other can kept served receives a))

pub steps_see_public_parts : Heads → VerdictsDependOnMatches → StepsSeePublicParts
steps_see_public_parts heads law records config keys now who x role c one other can kept served receives a = step-equivalent heads law records config keys now x who role c one other can kept served receives a

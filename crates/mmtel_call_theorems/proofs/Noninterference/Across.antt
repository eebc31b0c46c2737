-- Transitions of an answered call use public parts alone: on requests and deadlines, and on an INVITE that a side sends to the other one.
use Rattle.std.proofs.Common.{◌≡◌, ℕ, Bool, true, false, ◌==◌, not, List, [], ◌∷◌, ◌++◌, refl, ap, sym, ◌∙◌, map, cond, codes, append-nil, Option, Some, None}
use Rattle.std.proofs.lemmas.List.{map-append}
use Rattle.std.specs.Prelude.{◌+◌, Result, Ok, Err, nat_lt, if◌then◌else◌}
use Rattle.mmtel_compose.specs.ReceivedMessages.{MessageView, status_of}
use Rattle.mmtel_output.specs.Outputs.{token}
use Rattle.mmtel_output.specs.SentInvites.{invite_after_cancel, with_provisional}
use Rattle.mmtel_output.specs.Sending.{with_due_cancel, with_final_ack}
use Rattle.mmtel_output.specs.declared.outputs.StepOutput.{StepOutput}
use Rattle.mmtel_output.specs.declared.sent_invites.SentInvite.{SentInvite}
use Rattle.mmtel_leg.specs.Remotes.{field}
use Rattle.mmtel_leg.specs.declared.dialogues.DialogueFault.{DialogueFault}
use Rattle.mmtel_rules.specs.declared.values.Identities2.{Identities2}
use Rattle.mmtel_sdp.specs.Offers.{direction_in_body}
use Rattle.mmtel_transaction.specs.declared.words.DueWord.{DueWord}
use Rattle.mmtel_transaction.specs.declared.words.DueWord.TheVariants as due
use Rattle.mmtel_transaction.specs.declared.words.Emit.TheVariants as emit
use Rattle.mmtel_transaction.specs.declared.words.TKey.{TKey}
use Rattle.mmtel_types.specs.Sides.{other_side}
use Rattle.mmtel_types.specs.declared.numbers.Peer.{Peer}
use Rattle.mmtel_types.specs.declared.sides.Side.{Side}
use Rattle.mmtel_types.specs.declared.sides.Side.TheVariants.{Caller, Callee}
use Rattle.mmtel_call_services.specs.CopiedHeaders.{copied_lines, masks_all}
use Rattle.mmtel_call_services.specs.CallConfig.{CallConfigView, trusts}
use Rattle.mmtel_call.specs.Answered.{at_stage, leg_of, with_ack_and_bye, with_bye_to, with_leg}
use Rattle.mmtel_call.specs.declared.calls.Call.{Call}
use Rattle.mmtel_call.specs.declared.calls.EstablishedLegs.{EstablishedLegs}
use Rattle.mmtel_call.specs.declared.calls.Reinvite.{Reinvite}
use Rattle.mmtel_call.specs.declared.calls.Stage.{Stage}
use Rattle.mmtel_call.specs.declared.calls.AnsweredInvite.{AnsweredInvite}
use Rattle.mmtel_call.specs.declared.calls.Phase.TheVariants.{Established}
use Rattle.mmtel_call.specs.declared.calls.Stage.TheVariants.{Answered, Departing, Reinviting, Stable}
use Rattle.mmtel_call.specs.Closing.{StepResult, established_call_end, step_result}
use Rattle.mmtel_call.specs.Reinvites.{ends_dialog, hold_after, leg_after_invite, on_accepted_reinvite, on_cancel_across, on_provisional_across, on_reinvite, on_response_across}
use Rattle.mmtel_call.specs.Reinvites.{reinvite_after_cancel, reinvite_after_provisional, reinvite_of, with_byes, with_cancel_if_due, with_refusal_back, with_relayed_back}
use Rattle.mmtel_call.specs.Reliable.{on_refused_prack}
use Rattle.mmtel_call.specs.Requests.{is_bye, is_invite, is_prack, is_update, leg_after_receiving, request_check, with_refused_request, with_unlisted_response}
use Rattle.mmtel_call.specs.Ringing.{ack_time, with_ack_timer, next_success, success_of, new_answered_invite, expiry_in, with_expiry_timer}
use Rattle.mmtel_call.specs.Sending.{with_status_to}
use Rattle.mmtel_call.specs.Stages.{after_bye_at, after_timer_at, busy_in, has_departed, is_due_at, on_bye, on_cancel_at, on_due_at, on_invite, on_request_at, on_request_at_if, on_timeout_at, on_valid_request_at}
use Rattle.mmtel_call.specs.Updates.{on_update_at}
use Rattle.mmtel_call_theorems.specs.Noninterference.PublicCall.{all_fields, nobody, public_answered, public_call, public_dialog_by, public_diverted, public_established}
use Rattle.mmtel_call_theorems.specs.Noninterference.PublicCall.{public_opening, public_part, public_reinvite, public_request, public_sent_invite, public_stage}
use Rattle.mmtel_call_theorems.specs.Noninterference.Premises.{Fits, IsFromOwnPeer, IsResponseOf, stage_is_from_own_peer}
use Rattle.mmtel_call_theorems.specs.Noninterference.Roles.{Role, private_fields, without_private}
use Rattle.mmtel_call_theorems.specs.Noninterference.Transitions.{CancelsOnceAnswered, DeadlinesOnceAnswered, RequestsOnceAnswered, ResponsesAcross, TimeoutsOnceAnswered}
use Rattle.mmtel_call_theorems.specs.Noninterference.Observations.{EquivalentOutputs, EquivalentSteps, Trust, trust_of}
use Rattle.mmtel_call_theorems.proofs.Noninterference.Masks.{request_absorbs}
use Rattle.mmtel_call_theorems.proofs.Noninterference.RelayedRequests.{prack_refused-equivalent, token_same, update_at-equivalent}
use Rattle.mmtel_call_theorems.proofs.Noninterference.Idempotence.{call_once, request_again}
use Rattle.mmtel_call_theorems.proofs.Noninterference.Transitions.{across-equivalent, both-equivalent, bye-equivalent, cancelled-equivalent, ended-equivalent, leaves-equivalent, left_by-equivalent, on-equivalent}
use Rattle.mmtel_call_theorems.proofs.Noninterference.Transitions.{on-equivalent-by, once_public, own-reply, step-if, refused_request-equivalent, unlisted-equivalent, expired_reinviting-equivalent}
use Rattle.mmtel_call_theorems.proofs.Noninterference.Sent.{Heads, emitted-equivalent, final_acked-equivalent, if-equivalent, relayed-equivalent, untouched}
use Rattle.mmtel_call_theorems.proofs.Noninterference.CopiedLines.{copied-foreign, copied-number, copied-same}
use Rattle.mmtel_session.specs.Intervals.{expiry_interval_of}

module _ (heads : Heads) (config : CallConfigView) (keys : TKey → Bool) where
  abbrev T : Trust
  T = trust_of config keys

  abbrev known : Peer → Bool
  known = λ peer. trusts config peer

  -- ---- an INVITE is relayed

  -- the stage of a reinviting call, where the requests have the same public part
  asks_public : (who : Identities2) (x : EstablishedLegs) (side : Side) (p q : Reinvite) (c : Call) → p ≡ public_reinvite known q →
      at_stage (public_established known x) (Reinviting side p) (public_call known who c) ≡ public_call known who (at_stage x (Reinviting side q) c)
  asks_public who x side p q c e = ap (λ (z : Reinvite). at_stage (public_established known x) (Reinviting side z) (public_call known who c)) e

  -- of requests with the same public part, whose INVITEs have the same branch
  across_call : (who : Identities2) (x : EstablishedLegs) (side : Side) (m n : MessageView) (i : SentInvite) (branch : List ℕ) (key : TKey) (c : Call) → branch ≡ i.branch → public_request n ≡ public_request m →
      public_part known
      (at_stage (public_established known x) (Reinviting side (record { key = key; request = n; invite = record (public_sent_invite known i) { branch = branch }; cancel_due = false })) (public_call known who c))
      ≡ public_part known (at_stage x (Reinviting side (record { key = key; request = m; invite = i; cancel_due = false })) c)
  across_call who x side m n i branch key c same e =
      ap (λ (b : List ℕ). public_part known
      (at_stage (public_established known x) (Reinviting side (record { key = key; request = n; invite = record (public_sent_invite known i) { branch = b }; cancel_due = false })) (public_call known who c))) same
      ∙ (ap (λ (r : MessageView). record (public_part known (public_call known who c)) {
        phase = Established (public_established known (public_established known x))
            (Reinviting side (record { key = key; request = r; invite = public_sent_invite known (public_sent_invite known i); cancel_due = false }));
      }) (e ∙ sym (request_again m))
      ∙ call_once known nobody who (at_stage x (Reinviting side (record { key = key; request = m; invite = i; cancel_due = false })) c))

  invites-equivalent : (who : Identities2) (x : EstablishedLegs) (side : Side) (key : TKey) (role : Role) (m : MessageView) (c : Call) (one other : StepOutput) → IsFromOwnPeer T key m →
      Fits c.opening x.service side m role → EquivalentOutputs T one other →
      EquivalentSteps T (on_reinvite config (public_established known x) side key (without_private role m) (public_call known who c) one) (on_reinvite config x side key m c other)
  invites-equivalent who x Caller key role m c one other asked fits a = record {
    call =
        across_call who (with_leg Callee (leg_after_invite x.callee) x) Caller m (without_private role m) (reinvite_of key m (leg_after_invite x.callee) other).invite (token one) key c
        (token_same heads config keys one other a) (request_absorbs role m);
    output = across-equivalent heads config keys who (codes "INVITE") c x Caller role m (with_status_to config (public_call known who c) key (without_private role m) 100 one)
        (with_status_to config c key m 100 other) fits (own-reply heads config keys c key (private_fields role m.parsed) m 100 one other asked a);
  }
  invites-equivalent who x Callee key role m c one other asked fits a = record {
    call =
        across_call who (with_leg Caller (leg_after_invite x.caller) x) Callee m (without_private role m) (reinvite_of key m (leg_after_invite x.caller) other).invite (token one) key c
        (token_same heads config keys one other a) (request_absorbs role m);
    output = across-equivalent heads config keys who (codes "INVITE") c x Callee role m (with_status_to config (public_call known who c) key (without_private role m) 100 one)
        (with_status_to config c key m 100 other) fits (own-reply heads config keys c key (private_fields role m.parsed) m 100 one other asked a);
  }

  invite_at-equivalent : (stage : Stage) (who : Identities2) (x : EstablishedLegs) (side : Side) (key : TKey) (role : Role) (m : MessageView) (c : Call) (one other : StepOutput) →
      IsFromOwnPeer T key m → Fits c.opening x.service side m role → EquivalentOutputs T one other →
      EquivalentSteps T (on_invite (public_stage known stage) config (public_established known x) side key (without_private role m) (public_call known who c) one) (on_invite stage config x side key m c other)
  invite_at-equivalent (Answered waiting success) who x side key role m c one other asked fits a = on-equivalent heads config keys who c one other a
  invite_at-equivalent (Departing waiting success) who x side key role m c one other asked fits a = on-equivalent heads config keys who c one other a
  invite_at-equivalent Stable who x side key role m c one other asked fits a = invites-equivalent who x side key role m c one other asked fits a
  invite_at-equivalent (Reinviting asking q) who x side key role m c one other asked fits a = on-equivalent heads config keys who c one other a

  -- ---- requests

  left_same : (stage : Stage) (side : Side) → has_departed (public_stage known stage) side ≡ has_departed stage side
  left_same (Answered waiting success) side = refl
  left_same (Departing waiting success) side = refl
  left_same Stable side = refl
  left_same (Reinviting asking q) side = refl

  bye_at-equivalent : (stage : Stage) (who : Identities2) (at : ℕ) (x : EstablishedLegs) (side : Side) (key : TKey) (role : Role) (m : MessageView) (c : Call) (one other : StepOutput) →
      IsFromOwnPeer T key m → Fits c.opening x.service side m role → stage_is_from_own_peer T stage → EquivalentOutputs T one other →
      EquivalentSteps T (on_bye (public_stage known stage) config at (public_established known x) side key (without_private role m) (public_call known who c) one) (on_bye stage config at x side key m c other)
  bye_at-equivalent stage who at x side key role m c one other asked fits kept a =
      let d : Call = public_call known who c in
      let n : MessageView = without_private role m in
      rw (left_same stage side)
      (step-if T (has_departed stage side) (step_result d (with_status_to config d key n 481 one)) (after_bye_at (public_stage known stage) config at (public_established known x) side n d
      (with_status_to config d key n 200 one)) (step_result c (with_status_to config c key m 481 other)) (after_bye_at stage config at x side m c (with_status_to config c key m 200 other))
      (on-equivalent heads config keys who c (with_status_to config d key n 481 one) (with_status_to config c key m 481 other) (own-reply heads config keys c key (private_fields role m.parsed) m 481 one other asked a))
      (left_by-equivalent heads config keys stage who at x side role m c (with_status_to config d key n 200 one) (with_status_to config c key m 200 other) fits kept
      (own-reply heads config keys c key (private_fields role m.parsed) m 200 one other asked a)))

  received_at-equivalent : (stage : Stage) (who : Identities2) (at : ℕ) (x : EstablishedLegs) (side : Side) (key : TKey) (role : Role) (m : MessageView) (c : Call) (one other : StepOutput) →
      IsFromOwnPeer T key m → Fits c.opening x.service side m role → stage_is_from_own_peer T stage → EquivalentOutputs T one other →
      EquivalentSteps T (on_valid_request_at (public_stage known stage) config at (public_established known x) side key (without_private role m) (public_call known who c) one)
      (on_valid_request_at stage config at x side key m c other)
  received_at-equivalent stage who at x side key role m c one other asked fits kept a =
      let d : Call = public_call known who c in
      let n : MessageView = without_private role m in
      let s : Stage = public_stage known stage in
      let z : EstablishedLegs = public_established known x in
      let unlisted_one : StepResult = step_result d (with_unlisted_response config d key n one) in
      let unlisted_other : StepResult = step_result c (with_unlisted_response config c key m other) in
      let acks_one : StepResult = cond (is_prack m) (on_refused_prack config key n d one) unlisted_one in
      let acks_other : StepResult = cond (is_prack m) (on_refused_prack config key m c other) unlisted_other in
      let updates_one : StepResult = cond (is_update m) (on_update_at s config z side key n d one) acks_one in
      let updates_other : StepResult = cond (is_update m) (on_update_at stage config x side key m c other) acks_other in
      step-if T (is_invite m) (on_invite s config z side key n d one) (cond (is_bye m) (on_bye s config at z side key n d one) updates_one)
      (on_invite stage config x side key m c other) (cond (is_bye m) (on_bye stage config at x side key m c other) updates_other)
      (invite_at-equivalent stage who x side key role m c one other asked fits a)
      (step-if T (is_bye m) (on_bye s config at z side key n d one) updates_one (on_bye stage config at x side key m c other) updates_other
      (bye_at-equivalent stage who at x side key role m c one other asked fits kept a)
      (step-if T (is_update m) (on_update_at s config z side key n d one) acks_one (on_update_at stage config x side key m c other) acks_other
      (update_at-equivalent heads config keys stage who x side key role m c one other asked fits a)
      (step-if T (is_prack m) (on_refused_prack config key n d one) unlisted_one (on_refused_prack config key m c other) unlisted_other
      (prack_refused-equivalent heads config keys who key role m c one other asked a)
      (on-equivalent heads config keys who c (with_unlisted_response config d key n one) (with_unlisted_response config c key m other) (unlisted-equivalent heads config keys who c key role m one other asked a)))))

  request_at_by : (r : Result (Unit {0}) DialogueFault) (stage : Stage) (who : Identities2) (at : ℕ) (x : EstablishedLegs) (side : Side) (key : TKey) (role : Role) (m : MessageView) (c : Call)
      (one other : StepOutput) → IsFromOwnPeer T key m → Fits c.opening x.service side m role → stage_is_from_own_peer T stage → EquivalentOutputs T one other →
      EquivalentSteps T (on_request_at_if r (public_stage known stage) config at (public_established known x) side key (without_private role m) (public_call known who c) one)
      (on_request_at_if r stage config at x side key m c other)
  request_at_by (Ok received) stage who at x Caller key role m c one other asked fits kept a =
      let y : EstablishedLegs = with_leg Caller (leg_after_receiving x.caller m) x in
      received_at-equivalent stage who at y Caller key role m (at_stage y stage c) one other asked fits kept a
  request_at_by (Ok received) stage who at x Callee key role m c one other asked fits kept a =
      let y : EstablishedLegs = with_leg Callee (leg_after_receiving x.callee m) x in
      received_at-equivalent stage who at y Callee key role m (at_stage y stage c) one other asked fits kept a
  request_at_by (Err fault) stage who at x side key role m c one other asked fits kept a =
      on-equivalent heads config keys who c (with_refused_request config (public_call known who c) key (without_private role m) fault one) (with_refused_request config c key m fault other)
      (refused_request-equivalent heads config keys who c key role m fault one other asked a)

  says_same : (stage : Stage) (x : EstablishedLegs) (side : Side) (role : Role) (m : MessageView) →
      request_check (leg_of side (public_established known x)) (without_private role m) (busy_in (public_stage known stage) side) ≡ request_check (leg_of side x) m (busy_in stage side)
  says_same (Answered waiting success) x Caller role m = refl
  says_same (Answered waiting success) x Callee role m = refl
  says_same (Departing waiting success) x Caller role m = refl
  says_same (Departing waiting success) x Callee role m = refl
  says_same Stable x Caller role m = refl
  says_same Stable x Callee role m = refl
  says_same (Reinviting asking q) x Caller role m = refl
  says_same (Reinviting asking q) x Callee role m = refl

  request_at-equivalent : (stage : Stage) (who : Identities2) (at : ℕ) (x : EstablishedLegs) (side : Side) (key : TKey) (role : Role) (m : MessageView) (c : Call) (one other : StepOutput) →
      IsFromOwnPeer T key m → Fits c.opening x.service side m role → stage_is_from_own_peer T stage → EquivalentOutputs T one other →
      EquivalentSteps T (on_request_at (public_stage known stage) config at (public_established known x) side key (without_private role m) (public_call known who c) one)
      (on_request_at stage config at x side key m c other)
  request_at-equivalent stage who at x side key role m c one other asked fits kept a =
      rw (says_same stage x side role m) (request_at_by (request_check (leg_of side x) m (busy_in stage side)) stage who at x side key role m c one other asked fits kept a)

  -- ---- deadlines

  due_same : (stage : Stage) (successes : ℕ) (what : DueWord) → is_due_at (public_stage known stage) successes what ≡ is_due_at stage successes what
  due_same (Answered waiting success) successes what = refl
  due_same (Departing waiting success) successes what = refl
  due_same Stable successes what = refl
  due_same (Reinviting asking q) successes what = refl

  rung-equivalent : (stage : Stage) (who : Identities2) (at : ℕ) (x : EstablishedLegs) (c : Call) (one other : StepOutput) → stage_is_from_own_peer T stage → EquivalentOutputs T one other →
      EquivalentSteps T (after_timer_at (public_stage known stage) config at (public_established known x) (public_call known who c) one) (after_timer_at stage config at x c other)
  rung-equivalent (Answered waiting success) who at x c one other kept a =
      let one2 : StepOutput = with_ack_and_bye config (public_established known x) (other_side waiting) one in
      let other2 : StepOutput = with_ack_and_bye config x (other_side waiting) other in
      ended-equivalent heads config keys who at x c (with_bye_to config (public_established known x) waiting one2) (with_bye_to config x waiting other2)
      (bye-equivalent heads config keys x waiting one2 other2 (leaves-equivalent heads config keys x (other_side waiting) one other a))
  rung-equivalent (Departing waiting success) who at x c one other kept a = ended-equivalent heads config keys who at x c (with_bye_to config (public_established known x) waiting one)
      (with_bye_to config x waiting other) (bye-equivalent heads config keys x waiting one other a)
  rung-equivalent Stable who at x c one other kept a =
      ended-equivalent heads config keys who at x c (with_byes config (public_established known x) one) (with_byes config x other) (both-equivalent heads config keys x one other a)
  rung-equivalent (Reinviting asking q) who at x c one other kept a = expired_reinviting-equivalent heads config keys who at x asking q c one other kept a

  due_at-equivalent : (stage : Stage) (who : Identities2) (at : ℕ) (x : EstablishedLegs) (what : DueWord) (c : Call) (one other : StepOutput) → stage_is_from_own_peer T stage → EquivalentOutputs T one other →
      EquivalentSteps T (on_due_at (public_stage known stage) config at (public_established known x) what (public_call known who c) one) (on_due_at stage config at x what c other)
  due_at-equivalent stage who at x what c one other kept a =
      rw (due_same stage c.successes what)
      (step-if T (is_due_at stage c.successes what) (after_timer_at (public_stage known stage) config at (public_established known x) (public_call known who c) one)
      (step_result (public_call known who c) one) (after_timer_at stage config at x c other) (step_result c other)
      (rung-equivalent stage who at x c one other kept a) (on-equivalent heads config keys who c one other a))

  -- ---- CANCEL and timeout of an INVITE that a side sent

  cancels-equivalent : (who : Identities2) (x : EstablishedLegs) (side : Side) (q : Reinvite) (c : Call) (one other : StepOutput) → EquivalentOutputs T one other →
      EquivalentSteps T (on_cancel_across config (public_established known x) side (public_reinvite known q) (public_call known who c) one) (on_cancel_across config x side q c other)
  cancels-equivalent who x side q c one other a =
      on-equivalent-by heads config keys who (at_stage (public_established known x) (Reinviting side (reinvite_after_cancel (public_reinvite known q))) (public_call known who c))
      (at_stage x (Reinviting side (reinvite_after_cancel q)) c)
      (with_due_cancel config.sip (public_sent_invite known q.invite) one) (with_due_cancel config.sip q.invite other)
      (asks_public who x side (reinvite_after_cancel (public_reinvite known q)) (reinvite_after_cancel q) c
      (ap (λ (i : SentInvite). record q { request = public_request q.request; cancel_due = not q.invite.provisional; invite = i }) (once_public heads config keys q.invite)))
      (cancelled-equivalent heads config keys q.invite one other a)

  cancel_at-equivalent : (stage : Stage) (who : Identities2) (x : EstablishedLegs) (invite : TKey) (c : Call) (one other : StepOutput) → EquivalentOutputs T one other →
      EquivalentSteps T (on_cancel_at (public_stage known stage) config (public_established known x) invite (public_call known who c) one) (on_cancel_at stage config x invite c other)
  cancel_at-equivalent (Answered waiting success) who x invite c one other a = on-equivalent heads config keys who c one other a
  cancel_at-equivalent (Departing waiting success) who x invite c one other a = on-equivalent heads config keys who c one other a
  cancel_at-equivalent Stable who x invite c one other a = on-equivalent heads config keys who c one other a
  cancel_at-equivalent (Reinviting asking q) who x invite c one other a =
      step-if T (invite.0 == q.key.0) (on_cancel_across config (public_established known x) asking (public_reinvite known q) (public_call known who c) one) (step_result (public_call known who c) one)
      (on_cancel_across config x asking q c other) (step_result c other)
      (cancels-equivalent who x asking q c one other a) (on-equivalent heads config keys who c one other a)

  timeout_at-equivalent : (stage : Stage) (who : Identities2) (at : ℕ) (x : EstablishedLegs) (c : Call) (one other : StepOutput) → stage_is_from_own_peer T stage → EquivalentOutputs T one other →
      EquivalentSteps T (on_timeout_at (public_stage known stage) config at (public_established known x) (public_call known who c) one) (on_timeout_at stage config at x c other)
  timeout_at-equivalent (Answered waiting success) who at x c one other kept a = on-equivalent heads config keys who c one other a
  timeout_at-equivalent (Departing waiting success) who at x c one other kept a = on-equivalent heads config keys who c one other a
  timeout_at-equivalent Stable who at x c one other kept a = on-equivalent heads config keys who c one other a
  timeout_at-equivalent (Reinviting asking q) who at x c one other kept a =
      let told : StepOutput = with_status_to config (public_call known who c) q.key (public_request q.request) 408 one in
      let said : StepOutput = with_status_to config c q.key q.request 408 other in
      ended-equivalent heads config keys who at x c (with_byes config (public_established known x) told) (with_byes config x said)
      (both-equivalent heads config keys x told said (own-reply heads config keys c q.key all_fields q.request 408 one other kept a))

  -- ---- the other side's response

  back-equivalent : (who : Identities2) (x : EstablishedLegs) (side : Side) (q : Reinvite) (role : Role) (m : MessageView) (c : Call) (one other : StepOutput) → IsFromOwnPeer T q.key q.request →
      Fits c.opening x.service (other_side side) m role → EquivalentOutputs T one other →
      EquivalentOutputs T (with_relayed_back config (public_established known x) side (public_reinvite known q) (without_private role m) (public_call known who c) one) (with_relayed_back config x side q m c other)
  back-equivalent who x side q role m c one other asked fits a =
      relayed-equivalent heads T config.sip q.key q.request.parsed.trusted all_fields q.request c.opening.tag
      (copied_lines config (public_opening who c.opening) (public_diverted (masks_all c.opening) c.diversions) x.service (other_side side) q.request.peer (without_private role m))
      (copied_lines config c.opening c.diversions x.service (other_side side) q.request.peer m) m one other
      asked.request (asked.trusted ∙ sym asked.known)
      (copied-foreign config (public_opening who c.opening) (public_diverted (masks_all c.opening) c.diversions) x.service (other_side side) q.request.peer (without_private role m))
      (copied-foreign config c.opening c.diversions x.service (other_side side) q.request.peer m)
      (copied-number config (public_opening who c.opening) c.opening (public_diverted (masks_all c.opening) c.diversions) c.diversions x.service (other_side side) q.request.peer (without_private role m) m)
      (λ strange. copied-same config who c.opening c.diversions x.service (other_side side) q.request.peer role m fits (sym asked.known ∙ strange)) a

  pub acked-final : (key : TKey) (i : SentInvite) (role : Role) (m : MessageView) (one other : StepOutput) → IsResponseOf T key i.dialogue.peer role m → EquivalentOutputs T one other →
      EquivalentOutputs T (with_final_ack config.sip key (public_sent_invite known i) (without_private role m).parsed one) (with_final_ack config.sip key i m.parsed other)
  acked-final key i role m one other answer a =
      final_acked-equivalent heads T config.sip key i (without_private role m).parsed m.parsed (public_dialog_by (known i.dialogue.peer) i.dialogue) one other
      (λ e. (untouched (known i.dialogue.peer) i.dialogue (sym answer.known ∙ e), ap (λ (z : MessageView). field (codes "To") z.parsed.lines) (answer.nothing_private (sym answer.known ∙ e)))) a

  refused-equivalent : (who : Identities2) (x : EstablishedLegs) (side : Side) (q : Reinvite) (key : TKey) (role : Role) (m : MessageView) (c : Call) (one other : StepOutput) →
      IsFromOwnPeer T q.key q.request → IsResponseOf T key q.invite.dialogue.peer role m → Fits c.opening x.service (other_side side) m role → EquivalentOutputs T one other →
      EquivalentOutputs T (with_refusal_back config (public_established known x) side (public_reinvite known q) key (without_private role m) (public_call known who c) one)
      (with_refusal_back config x side q key m c other)
  refused-equivalent who x side q key role m c one other asked answer fits a =
      back-equivalent who x side q role m c (with_final_ack config.sip key (public_sent_invite known q.invite) (without_private role m).parsed one)
      (with_final_ack config.sip key q.invite m.parsed other) asked fits (acked-final key q.invite role m one other answer a)

  proceeds_if : (b : Bool) (i : SentInvite) → cond b (invite_after_cancel (public_sent_invite known i)) (public_sent_invite known i) ≡ public_sent_invite known (cond b (invite_after_cancel i) i)
  proceeds_if true i = once_public heads config keys i
  proceeds_if false i = refl

  proceeds-equivalent : (who : Identities2) (x : EstablishedLegs) (side : Side) (q : Reinvite) (key : TKey) (c : Call) (one other : StepOutput) → EquivalentOutputs T one other →
      EquivalentSteps T (on_provisional_across config (public_established known x) side (public_reinvite known q) key (public_call known who c) one) (on_provisional_across config x side q key c other)
  proceeds-equivalent who x side q key c one other a =
      on-equivalent-by heads config keys who (at_stage (public_established known x) (Reinviting side (reinvite_after_provisional key (public_reinvite known q))) (public_call known who c))
      (at_stage x (Reinviting side (reinvite_after_provisional key q)) c)
      (with_cancel_if_due config key (public_reinvite known q) one) (with_cancel_if_due config key q other)
      (asks_public who x side (reinvite_after_provisional key (public_reinvite known q)) (reinvite_after_provisional key q) c
      (ap (λ (i : SentInvite). record q { request = public_request q.request; cancel_due = false; invite = i }) (proceeds_if q.cancel_due (with_provisional key q.invite))))
      (if-equivalent T q.cancel_due (with_due_cancel config.sip (public_sent_invite known (with_provisional key q.invite)) one) one
      (with_due_cancel config.sip (with_provisional key q.invite) other) other (cancelled-equivalent heads config keys (with_provisional key q.invite) one other a) a)

  pub awaits-equivalent : (who : Identities2) (at : ℕ) (c : Call) (one other : StepOutput) → EquivalentOutputs T one other →
      EquivalentOutputs T (with_ack_timer at (public_call known who c) one) (with_ack_timer at c other)
  awaits-equivalent who at c one other a =
      emitted-equivalent T (emit.Arm c.opening.number (due.NoAck (next_success c)) (at + ack_time)) (emit.Arm c.opening.number (due.NoAck (next_success c)) (at + ack_time)) one other refl a

  -- the deadline for the session of a 2xx, which has the same interval in both
  expiries-equivalent : (timer : Bool) (time : Option ℕ) (who : Identities2) (at : ℕ) (c : Call) (one other : StepOutput) → EquivalentOutputs T one other →
      EquivalentOutputs T (record one { out = one.out ++ (if timer then expiry_in time at (public_call known who c) else []) }) (record other { out = other.out ++ (if timer then expiry_in time at c else []) })
  expiries-equivalent true None who at c one other a = simp append-nil a
  expiries-equivalent true (Some time) who at c one other a =
      emitted-equivalent T (emit.Arm c.opening.number (due.Expired (next_success c)) (at + time)) (emit.Arm c.opening.number (due.Expired (next_success c)) (at + time)) one other refl a
  expiries-equivalent false time who at c one other a = simp append-nil a

  pub expiry-equivalent : (who : Identities2) (at : ℕ) (m : MessageView) (c : Call) (one other : StepOutput) → EquivalentOutputs T one other →
      EquivalentOutputs T (with_expiry_timer config at m (public_call known who c) one) (with_expiry_timer config at m c other)
  expiry-equivalent who at m c one other a = expiries-equivalent config.timer (expiry_interval_of m.parsed.session) who at c one other a

  pub answered_more : (c : Call) (x : AnsweredInvite) → map (public_answered known) c.answered_invites ++ public_answered known x ∷ [] ≡ map (public_answered known) (c.answered_invites ++ x ∷ [])
  answered_more c x = sym (map-append (public_answered known) c.answered_invites (x ∷ []))

  agrees-equivalent : (who : Identities2) (at : ℕ) (x : EstablishedLegs) (side : Side) (q : Reinvite) (key : TKey) (role : Role) (m : MessageView) (c : Call) (one other : StepOutput) →
      IsFromOwnPeer T q.key q.request → Fits c.opening x.service (other_side side) m role → EquivalentOutputs T one other →
      EquivalentSteps T (on_accepted_reinvite config at (public_established known x) side (public_reinvite known q) key (without_private role m) (public_call known who c) one)
      (on_accepted_reinvite config at x side q key m c other)
  agrees-equivalent who at x side q key role m c one other asked fits a = record {
    call = ap (λ (ts : List AnsweredInvite). public_part known (record (public_call known who c) {
      successes = next_success c;
      hold = hold_after side (direction_in_body q.request.parsed.body) c.hold;
      answered_invites = ts;
      phase = Established (public_established known x) (Answered side (success_of c q.request q.invite));
    })) (answered_more c (new_answered_invite key m true q.invite))
        ∙ call_once known nobody who (on_accepted_reinvite config at x side q key m c other).call;
    output = expiry-equivalent who at m c _ _
        (awaits-equivalent who at c (with_relayed_back config (public_established known x) side (public_reinvite known q) (without_private role m) (public_call known who c) one)
        (with_relayed_back config x side q m c other) (back-equivalent who x side q role m c one other asked fits a));
  }

  answers-equivalent : (asking : Side) (q : Reinvite) (who : Identities2) (at : ℕ) (x : EstablishedLegs) (key : TKey) (role : Role) (m : MessageView) (code : ℕ) (c : Call) (one other : StepOutput) →
      IsFromOwnPeer T q.key q.request → IsResponseOf T key q.invite.dialogue.peer role m → Fits c.opening x.service (other_side asking) m role → EquivalentOutputs T one other →
      EquivalentSteps T (on_response_across config at (public_established known x) asking (public_reinvite known q) key (without_private role m) code (public_call known who c) one)
      (on_response_across config at x asking q key m code c other)
  answers-equivalent asking q who at x key role m code c one other asked answer fits a =
      let z : EstablishedLegs = public_established known x in
      let d : Call = public_call known who c in
      let n : MessageView = without_private role m in
      let r : Reinvite = public_reinvite known q in
      let back : EquivalentOutputs T (with_refusal_back config z asking r key n d one) (with_refusal_back config x asking q key m c other) = refused-equivalent who x asking q key role m c one other asked answer fits a in
      step-if T (nat_lt code 200) (on_provisional_across config z asking r key d one)
      (cond (nat_lt code 300) (on_accepted_reinvite config at z asking r key n d one)
      (cond (ends_dialog code) (established_call_end at z d (with_byes config z (with_refusal_back config z asking r key n d one))) (step_result (at_stage z Stable d) (with_refusal_back config z asking r key n d one))))
      (on_provisional_across config x asking q key c other)
      (cond (nat_lt code 300) (on_accepted_reinvite config at x asking q key m c other) (cond (ends_dialog code)
      (established_call_end at x c (with_byes config x (with_refusal_back config x asking q key m c other))) (step_result (at_stage x Stable c) (with_refusal_back config x asking q key m c other))))
      (proceeds-equivalent who x asking q key c one other a)
      (step-if T (nat_lt code 300) (on_accepted_reinvite config at z asking r key n d one)
      (cond (ends_dialog code) (established_call_end at z d (with_byes config z (with_refusal_back config z asking r key n d one))) (step_result (at_stage z Stable d) (with_refusal_back config z asking r key n d one)))
      (on_accepted_reinvite config at x asking q key m c other) (cond (ends_dialog code) (established_call_end at x c (with_byes config x (with_refusal_back config x asking q key m c other)))
      (step_result (at_stage x Stable c) (with_refusal_back config x asking q key m c other)))
      (agrees-equivalent who at x asking q key role m c one other asked fits a)
      (step-if T (ends_dialog code) (established_call_end at z d (with_byes config z (with_refusal_back config z asking r key n d one)))
      (step_result (at_stage z Stable d) (with_refusal_back config z asking r key n d one))
      (established_call_end at x c (with_byes config x (with_refusal_back config x asking q key m c other))) (step_result (at_stage x Stable c) (with_refusal_back config x asking q key m c other))
      (ended-equivalent heads config keys who at x c (with_byes config z (with_refusal_back config z asking r key n d one)) (with_byes config x (with_refusal_back config x asking q key m c other))
      (both-equivalent heads config keys x (with_refusal_back config z asking r key n d one) (with_refusal_back config x asking q key m c other) back))
      (on-equivalent heads config keys who (at_stage x Stable c) (with_refusal_back config z asking r key n d one) (with_refusal_back config x asking q key m c other) back)))

pub requests_once_answered : Heads → RequestsOnceAnswered
requests_once_answered heads stage config keys who at x side key role m c one other asked fits kept a = request_at-equivalent heads config keys stage who at x side key role m c one other asked fits kept a

pub cancels_once_answered : Heads → CancelsOnceAnswered
cancels_once_answered heads stage config keys who x invite c one other a = cancel_at-equivalent heads config keys stage who x invite c one other a

pub responses_across : Heads → ResponsesAcross
responses_across heads asking q config keys who at x key role m c one other asked answer fits a =
    answers-equivalent heads config keys asking q who at x key role m (status_of m.parsed.start) c one other asked answer fits a

pub timeouts_once_answered : Heads → TimeoutsOnceAnswered
timeouts_once_answered heads stage config keys who at x c one other kept a = timeout_at-equivalent heads config keys stage who at x c one other kept a

pub deadlines_once_answered : Heads → DeadlinesOnceAnswered
deadlines_once_answered heads stage config keys who at x what c one other kept a = due_at-equivalent heads config keys stage who at x what c one other kept a

-- What the transitions of the step table have in common, and how a side of an answered call leaves, use public parts alone.
use Rattle.std.proofs.Common.{◌≡◌, ℕ, Bool, true, false, List, [], ◌∷◌, ◌++◌, refl, ap, sym, ◌∙◌, map, cond, codes, subst}
use Rattle.std.proofs.lemmas.List.{map-append}
use Rattle.std.specs.Prelude.{Option}
use Rattle.mmtel_compose.specs.Responses.{allow_lines, retry_after_lines}
use Rattle.mmtel_compose.specs.ReceivedMessages.{MessageView}
use Rattle.mmtel_charging.specs.Meters.{MeterView}
use Rattle.mmtel_charging.specs.declared.rows.Row.{Row}
use Rattle.mmtel_output.specs.SentInvites.{invite_after_cancel, is_cancellable}
use Rattle.mmtel_output.specs.Sending.{with_ack, with_cancel, with_due_cancel, with_relayed_request, with_response, with_status_response}
use Rattle.mmtel_output.specs.declared.outputs.StepOutput.{StepOutput}
use Rattle.mmtel_output.specs.declared.sent_invites.SentInvite.{SentInvite}
use Rattle.mmtel_output.specs.declared.sent_invites.AbandonedInvite.{AbandonedInvite}
use Rattle.mmtel_leg.specs.declared.dialogues.DialogueFault.{DialogueFault}
use Rattle.mmtel_leg.specs.declared.dialogues.DialogueFault.TheVariants.{OldCSeq, Pending, Unfinished}
use Rattle.mmtel_message.specs.Faults.{is_method}
use Rattle.mmtel_message.specs.Message.{Line}
use Rattle.mmtel_rules.specs.declared.values.Identities2.{Identities2}
use Rattle.mmtel_transaction.specs.declared.words.TKey.{TKey}
use Rattle.mmtel_trust.specs.PrivateFields.{PrivateFields}
use Rattle.mmtel_types.specs.Sides.{other_side}
use Rattle.mmtel_types.specs.declared.causes.Cause.{Cause}
use Rattle.mmtel_types.specs.declared.causes.Cause.TheVariants as causes
use Rattle.mmtel_types.specs.declared.numbers.Peer.{Peer}
use Rattle.mmtel_types.specs.declared.sides.Side.{Side}
use Rattle.mmtel_types.specs.declared.sides.Side.TheVariants.{Caller, Callee}
use Rattle.mmtel_call_services.specs.Requests.{is_same_side}
use Rattle.mmtel_call_services.specs.ChargingRecords.{charging_records}
use Rattle.mmtel_call_services.specs.CopiedHeaders.{copied_lines, masks_all}
use Rattle.mmtel_call_services.specs.CallConfig.{CallConfigView, further_methods, trusts}
use Rattle.mmtel_call.specs.Answered.{after_bye_before_ack, at_stage, copied_across, leg_of, with_ack_and_bye, with_bye_to}
use Rattle.mmtel_call.specs.declared.calls.Call.{Call}
use Rattle.mmtel_call.specs.declared.calls.EstablishedLegs.{EstablishedLegs}
use Rattle.mmtel_call.specs.declared.calls.Reinvite.{Reinvite}
use Rattle.mmtel_call.specs.declared.calls.Stage.{Stage}
use Rattle.mmtel_call.specs.declared.calls.Success.{Success}
use Rattle.mmtel_call.specs.declared.calls.OfferedAttempt.{OfferedAttempt}
use Rattle.mmtel_call.specs.declared.calls.Stage.TheVariants.{Answered, Departing, Reinviting, Stable}
use Rattle.mmtel_call.specs.Closing.{StepResult, call_end, ending_of, established_call_end, step_result, with_rows}
use Rattle.mmtel_call.specs.Reinvites.{abandoned_across, on_bye_reinviting, with_byes}
use Rattle.mmtel_call.specs.Requests.{with_refused_request, with_response_to, with_unlisted_response}
use Rattle.mmtel_call.specs.Ringing.{abandoned_invite, call_without_attempt, with_abandoned}
use Rattle.mmtel_call.specs.Sending.{with_status_to, with_status_to_caller}
use Rattle.mmtel_call.specs.Stages.{after_bye_at}
use Rattle.mmtel_call_theorems.specs.Noninterference.PublicCall.{all_fields, nobody, public_abandoned, public_call, public_diverted, public_established, public_leg}
use Rattle.mmtel_call_theorems.specs.Noninterference.PublicCall.{public_offered, public_opening, public_part, public_reinvite, public_request, public_sent_invite, public_stage}
use Rattle.mmtel_call_theorems.specs.Noninterference.Premises.{Fits, IsFromOwnPeer, stage_is_from_own_peer}
use Rattle.mmtel_call_theorems.specs.Noninterference.Roles.{Role, hidden_by, opening_role, private_fields, without_private}
use Rattle.mmtel_call_theorems.specs.Noninterference.Observations.{EquivalentOutputs, EquivalentSteps, Trust, trust_of}
use Rattle.mmtel_call_theorems.proofs.Noninterference.Idempotence.{call_once}
use Rattle.mmtel_call_theorems.proofs.Noninterference.Sent.{Heads, acked-equivalent, answered-equivalent, asked-equivalent, asked_for-equivalent, cancel-equivalent, if-equivalent, replied-equivalent}
use Rattle.mmtel_call_theorems.proofs.Noninterference.CopiedLines.{copied-foreign, copied-same}
use Rattle.mmtel_call.specs.Expiring.{after_expiry_reinviting}

pub filed-equivalent : (t : Trust) (rows : List Row) (x y : StepOutput) → EquivalentOutputs t x y → EquivalentOutputs t (with_rows rows x) (with_rows rows y)
filed-equivalent t rows x y a = record { tokens = a.tokens; rows = ap (λ (r : List Row). r ++ rows) a.rows; out = a.out }

pub step-if : (t : Trust) (b : Bool) (p q v w : StepResult) → EquivalentSteps t p v → EquivalentSteps t q w → EquivalentSteps t (cond b p q) (cond b v w)
step-if t true p q v w e f = e
step-if t false p q v w e f = f

pub step-where : (t : Trust) (b : Bool) (p q v w : StepResult) → (b ≡ true → EquivalentSteps t p v) → (b ≡ false → EquivalentSteps t q w) → EquivalentSteps t (cond b p q) (cond b v w)
step-where t true p q v w x y = x refl
step-where t false p q v w x y = y refl

module _ (heads : Heads) (config : CallConfigView) (keys : TKey → Bool) where
  abbrev pub T : Trust
  T = trust_of config keys

  abbrev pub known : Peer → Bool
  known = λ peer. trusts config peer

  -- ---- responses of the server's own

  pub own-reply : (c : Call) (key : TKey) (p : PrivateFields) (m : MessageView) (code : ℕ) (x y : StepOutput) → IsFromOwnPeer T key m → EquivalentOutputs T x y →
      EquivalentOutputs T (with_status_response config.sip key (record m { parsed = hidden_by m.parsed.trusted p m.parsed }) c.opening.tag code x) (with_status_to config c key m code y)
  own-reply c key p m code x y asked a = replied-equivalent heads T config.sip key m.parsed.trusted p m c.opening.tag code x y asked.request (asked.trusted ∙ sym asked.known) a

  pub own-answer : (c : Call) (key : TKey) (p : PrivateFields) (m : MessageView) (code : ℕ) (named : List Line) (x y : StepOutput) → IsFromOwnPeer T key m → EquivalentOutputs T x y →
      EquivalentOutputs T (with_response config.sip key (record m { parsed = hidden_by m.parsed.trusted p m.parsed }) c.opening.tag code [] named [] x) (with_response_to config c key m code named y)
  own-answer c key p m code named x y asked a =
      answered-equivalent heads T config.sip key m.parsed.trusted p m c.opening.tag code [] [] named [] x y asked.request (asked.trusted ∙ sym asked.known) (λ name own. refl) (λ name own. refl) refl (λ e. refl) a

  pub status-equivalent : (who : Identities2) (c : Call) (code : ℕ) (x y : StepOutput) → IsFromOwnPeer T c.opening.key c.opening.invite → EquivalentOutputs T x y →
      EquivalentOutputs T (with_status_to_caller config (public_call known who c) code x) (with_status_to_caller config c code y)
  status-equivalent who c code x y asked a = own-reply c c.opening.key (private_fields (opening_role c.opening.restricted) c.opening.invite.parsed) c.opening.invite code x y asked a

  pub refused_request-equivalent : (who : Identities2) (c : Call) (key : TKey) (role : Role) (m : MessageView) (fault : DialogueFault) (x y : StepOutput) → IsFromOwnPeer T key m → EquivalentOutputs T x y →
      EquivalentOutputs T (with_refused_request config (public_call known who c) key (without_private role m) fault x) (with_refused_request config c key m fault y)
  refused_request-equivalent who c key role m (OldCSeq last) x y asked a = own-reply c key (private_fields role m.parsed) m 500 x y asked a
  refused_request-equivalent who c key role m Pending x y asked a = own-reply c key (private_fields role m.parsed) m 491 x y asked a
  refused_request-equivalent who c key role m Unfinished x y asked a = own-answer c key (private_fields role m.parsed) m 500 retry_after_lines x y asked a

  pub unlisted-equivalent : (who : Identities2) (c : Call) (key : TKey) (role : Role) (m : MessageView) (x y : StepOutput) → IsFromOwnPeer T key m → EquivalentOutputs T x y →
      EquivalentOutputs T (with_unlisted_response config (public_call known who c) key (without_private role m) x) (with_unlisted_response config c key m y)
  unlisted-equivalent who c key role m x y asked a =
      let d : Call = public_call known who c in
      let n : MessageView = without_private role m in
      if-equivalent T (is_method (codes "OPTIONS") m.parsed.start) (with_response_to config d key n 200 (allow_lines (further_methods config)) x)
      (cond (is_method (codes "REFER") m.parsed.start) (with_status_to config d key n 403 x) (with_status_to config d key n 481 x))
      (with_response_to config c key m 200 (allow_lines (further_methods config)) y) (cond (is_method (codes "REFER") m.parsed.start) (with_status_to config c key m 403 y) (with_status_to config c key m 481 y))
      (own-answer c key (private_fields role m.parsed) m 200 (allow_lines (further_methods config)) x y asked a)
      (if-equivalent T (is_method (codes "REFER") m.parsed.start) (with_status_to config d key n 403 x) (with_status_to config d key n 481 x) (with_status_to config c key m 403 y) (with_status_to config c key m 481 y)
      (own-reply c key (private_fields role m.parsed) m 403 x y asked a) (own-reply c key (private_fields role m.parsed) m 481 x y asked a))

  -- ---- steps

  pub on-equivalent : (who : Identities2) (c : Call) (x y : StepOutput) → EquivalentOutputs T x y → EquivalentSteps T (step_result (public_call known who c) x) (step_result c y)
  on-equivalent who c x y a = record { call = call_once known nobody who c; output = a }

  -- where this is the public part of the call
  pub on-equivalent-by : (who : Identities2) (d c : Call) (x y : StepOutput) → d ≡ public_call known who c → EquivalentOutputs T x y → EquivalentSteps T (step_result d x) (step_result c y)
  on-equivalent-by who d c x y e a = record { call = ap (λ (z : Call). public_part known z) e ∙ call_once known nobody who c; output = a }

  pub over-equivalent : (who : Identities2) (at : ℕ) (cause : Cause) (first last : Option MeterView) (c : Call) (x y : StepOutput) → EquivalentOutputs T x y →
      EquivalentSteps T (call_end at cause first last (public_call known who c) x) (call_end at cause first last c y)
  over-equivalent who at cause first last c x y a = record {
    call = call_once known nobody who (call_end at cause first last c y).call;
    output = filed-equivalent T (charging_records (ending_of c at cause) c.past first last) x y a;
  }

  pub over-equivalent-by : (who : Identities2) (at : ℕ) (cause : Cause) (first last : Option MeterView) (d c : Call) (x y : StepOutput) → d ≡ public_call known who c → EquivalentOutputs T x y →
      EquivalentSteps T (call_end at cause first last d x) (call_end at cause first last c y)
  over-equivalent-by who at cause first last d c x y e a =
      subst (λ (z : Call). EquivalentSteps T (call_end at cause first last z x) (call_end at cause first last c y)) (sym e) (over-equivalent who at cause first last c x y a)

  -- ---- INVITEs that are cancelled, or abandoned

  cancelled_if : (b : Bool) (i : SentInvite) → cond b (record (public_sent_invite known i) { cancelled = true }) (public_sent_invite known i) ≡ public_sent_invite known (cond b (record i { cancelled = true }) i)
  cancelled_if true i = refl
  cancelled_if false i = refl

  pub once_public : (i : SentInvite) → invite_after_cancel (public_sent_invite known i) ≡ public_sent_invite known (invite_after_cancel i)
  once_public i = cancelled_if (is_cancellable i) i

  pub cancelled-equivalent : (i : SentInvite) (x y : StepOutput) → EquivalentOutputs T x y → EquivalentOutputs T (with_due_cancel config.sip (public_sent_invite known i) x) (with_due_cancel config.sip i y)
  cancelled-equivalent i x y a = if-equivalent T (is_cancellable i) (with_cancel config.sip (public_sent_invite known i) x) x (with_cancel config.sip i y) y (cancel-equivalent heads T config.sip i x y a) a

  pub abandoned_public : (who : Identities2) (l m : AbandonedInvite) (c : Call) → l ≡ public_abandoned known m → with_abandoned l (public_call known who c) ≡ public_call known who (with_abandoned m c)
  abandoned_public who l m c e = ap (λ (ls : List AbandonedInvite). record (public_call known who c) { abandoned = ls })
      (ap (λ (z : AbandonedInvite). map (public_abandoned known) c.abandoned ++ z ∷ []) e ∙ sym (map-append (public_abandoned known) c.abandoned (m ∷ [])))

  pub left_public : (who : Identities2) (x : OfferedAttempt) (c : Call) → call_without_attempt (public_offered known x) (public_call known who c) ≡ public_call known who (call_without_attempt x c)
  left_public who x c = abandoned_public who (abandoned_invite (invite_after_cancel (public_sent_invite known x.attempt.invite))) (abandoned_invite (invite_after_cancel x.attempt.invite)) c
      (ap (λ (i : SentInvite). abandoned_invite i) (once_public x.attempt.invite))

  -- ---- both sides of an answered call

  pub bye-equivalent : (x : EstablishedLegs) (side : Side) (one other : StepOutput) → EquivalentOutputs T one other →
      EquivalentOutputs T (with_bye_to config (public_established known x) side one) (with_bye_to config x side other)
  bye-equivalent x Caller one other a = asked-equivalent heads T config.sip (codes "BYE") x.caller.dialogue [] [] one other a
  bye-equivalent x Callee one other a = asked-equivalent heads T config.sip (codes "BYE") x.callee.dialogue [] [] one other a

  pub leaves-equivalent : (x : EstablishedLegs) (side : Side) (one other : StepOutput) → EquivalentOutputs T one other →
      EquivalentOutputs T (with_ack_and_bye config (public_established known x) side one) (with_ack_and_bye config x side other)
  leaves-equivalent x Caller one other a = bye-equivalent x Caller (with_ack config.sip (public_leg known x.caller).dialogue one) (with_ack config.sip x.caller.dialogue other)
      (acked-equivalent heads T config.sip x.caller.dialogue one other a)
  leaves-equivalent x Callee one other a = bye-equivalent x Callee (with_ack config.sip (public_leg known x.callee).dialogue one) (with_ack config.sip x.callee.dialogue other)
      (acked-equivalent heads T config.sip x.callee.dialogue one other a)

  pub both-equivalent : (x : EstablishedLegs) (one other : StepOutput) → EquivalentOutputs T one other → EquivalentOutputs T (with_byes config (public_established known x) one) (with_byes config x other)
  both-equivalent x one other a = bye-equivalent x Callee (with_bye_to config (public_established known x) Caller one) (with_bye_to config x Caller other) (bye-equivalent x Caller one other a)

  -- a request of a side is relayed
  pub across-equivalent : (who : Identities2) (method : List ℕ) (c : Call) (x : EstablishedLegs) (side : Side) (role : Role) (m : MessageView) (one other : StepOutput) →
      Fits c.opening x.service side m role → EquivalentOutputs T one other →
      EquivalentOutputs T (with_relayed_request config.sip method (leg_of (other_side side) (public_established known x)).dialogue
      (copied_across config (public_call known who c) (public_established known x) side (without_private role m)) (without_private role m).parsed one)
      (with_relayed_request config.sip method (leg_of (other_side side) x).dialogue (copied_across config c x side m) m.parsed other)
  across-equivalent who method c x Caller role m one other fits a =
      asked_for-equivalent heads T config.sip method x.callee.dialogue
      (copied_lines config (public_opening who c.opening) (public_diverted (masks_all c.opening) c.diversions) x.service Caller x.callee.dialogue.peer (without_private role m))
      (copied_lines config c.opening c.diversions x.service Caller x.callee.dialogue.peer m) m.parsed one other
      (copied-foreign config (public_opening who c.opening) (public_diverted (masks_all c.opening) c.diversions) x.service Caller x.callee.dialogue.peer (without_private role m))
      (copied-foreign config c.opening c.diversions x.service Caller x.callee.dialogue.peer m)
      (λ strange. copied-same config who c.opening c.diversions x.service Caller x.callee.dialogue.peer role m fits strange) a
  across-equivalent who method c x Callee role m one other fits a =
      asked_for-equivalent heads T config.sip method x.caller.dialogue
      (copied_lines config (public_opening who c.opening) (public_diverted (masks_all c.opening) c.diversions) x.service Callee x.caller.dialogue.peer (without_private role m))
      (copied_lines config c.opening c.diversions x.service Callee x.caller.dialogue.peer m) m.parsed one other
      (copied-foreign config (public_opening who c.opening) (public_diverted (masks_all c.opening) c.diversions) x.service Callee x.caller.dialogue.peer (without_private role m))
      (copied-foreign config c.opening c.diversions x.service Callee x.caller.dialogue.peer m)
      (λ strange. copied-same config who c.opening c.diversions x.service Callee x.caller.dialogue.peer role m fits strange) a

  -- ---- it is answered: a side leaves

  pub ended-equivalent : (who : Identities2) (at : ℕ) (x : EstablishedLegs) (c : Call) (one other : StepOutput) → EquivalentOutputs T one other →
      EquivalentSteps T (established_call_end at (public_established known x) (public_call known who c) one) (established_call_end at x c other)
  ended-equivalent who at x c one other a = over-equivalent who at causes.Ended x.caller.meter x.callee.meter c one other a

  before_ack-equivalent : (who : Identities2) (at : ℕ) (x : EstablishedLegs) (waiting : Side) (success : Success) (side : Side) (c : Call) (one other : StepOutput) → EquivalentOutputs T one other →
      EquivalentSteps T (after_bye_before_ack config at (public_established known x) waiting success side (public_call known who c) one) (after_bye_before_ack config at x waiting success side c other)
  before_ack-equivalent who at x waiting success side c one other a =
      let z : EstablishedLegs = public_established known x in
      let d : Call = public_call known who c in
      step-if T (is_same_side waiting side) (established_call_end at z d (with_ack_and_bye config z (other_side side) one)) (step_result (at_stage z (Departing waiting success) d) one)
      (established_call_end at x c (with_ack_and_bye config x (other_side side) other)) (step_result (at_stage x (Departing waiting success) c) other)
      (ended-equivalent who at x c (with_ack_and_bye config z (other_side side) one) (with_ack_and_bye config x (other_side side) other) (leaves-equivalent x (other_side side) one other a))
      (on-equivalent who (at_stage x (Departing waiting success) c) one other a)

  abandoned_across_public : (x : EstablishedLegs) (asking leaving : Side) (q : Reinvite) →
      abandoned_across (public_established known x) asking leaving (public_reinvite known q) ≡ public_abandoned known (abandoned_across x asking leaving q)
  abandoned_across_public x Caller Caller q = refl
  abandoned_across_public x Caller Callee q = refl
  abandoned_across_public x Callee Caller q = refl
  abandoned_across_public x Callee Callee q = refl

  while_reinviting-equivalent : (who : Identities2) (at : ℕ) (x : EstablishedLegs) (asking : Side) (q : Reinvite) (leaving : Side) (c : Call) (one other : StepOutput) →
      IsFromOwnPeer T q.key q.request → EquivalentOutputs T one other →
      EquivalentSteps T (on_bye_reinviting config at (public_established known x) asking (public_reinvite known q) leaving (public_call known who c) one) (on_bye_reinviting config at x asking q leaving c other)
  while_reinviting-equivalent who at x asking q leaving c one other asked a =
      let d : Call = public_call known who c in
      let told : StepOutput = with_status_to config d q.key (public_request q.request) 487 one in
      let said : StepOutput = with_status_to config c q.key q.request 487 other in
      over-equivalent-by who at causes.Ended x.caller.meter x.callee.meter (with_abandoned (abandoned_across (public_established known x) asking leaving (public_reinvite known q)) d)
      (with_abandoned (abandoned_across x asking leaving q) c)
      (with_bye_to config (public_established known x) (other_side leaving) told) (with_bye_to config x (other_side leaving) said)
      (abandoned_public who (abandoned_across (public_established known x) asking leaving (public_reinvite known q)) (abandoned_across x asking leaving q) c (abandoned_across_public x asking leaving q))
      (bye-equivalent x (other_side leaving) told said (own-reply c q.key all_fields q.request 487 one other asked a))

  pub expired_reinviting-equivalent : (who : Identities2) (at : ℕ) (x : EstablishedLegs) (asking : Side) (q : Reinvite) (c : Call) (one other : StepOutput) → IsFromOwnPeer T q.key q.request →
      EquivalentOutputs T one other →
      EquivalentSteps T (after_expiry_reinviting config at (public_established known x) asking (public_reinvite known q) (public_call known who c) one) (after_expiry_reinviting config at x asking q c other)
  expired_reinviting-equivalent who at x asking q c one other asked a =
      let d : Call = public_call known who c in
      let told : StepOutput = with_status_to config d q.key (public_request q.request) 487 one in
      let said : StepOutput = with_status_to config c q.key q.request 487 other in
      over-equivalent-by who at causes.Ended x.caller.meter x.callee.meter (with_abandoned (abandoned_across (public_established known x) asking asking (public_reinvite known q)) d)
      (with_abandoned (abandoned_across x asking asking q) c)
      (with_byes config (public_established known x) told) (with_byes config x said)
      (abandoned_public who (abandoned_across (public_established known x) asking asking (public_reinvite known q)) (abandoned_across x asking asking q) c (abandoned_across_public x asking asking q))
      (both-equivalent x told said (own-reply c q.key all_fields q.request 487 one other asked a))

  pub left_by-equivalent : (stage : Stage) (who : Identities2) (at : ℕ) (x : EstablishedLegs) (side : Side) (role : Role) (m : MessageView) (c : Call) (one other : StepOutput) →
      Fits c.opening x.service side m role → stage_is_from_own_peer T stage → EquivalentOutputs T one other →
      EquivalentSteps T (after_bye_at (public_stage known stage) config at (public_established known x) side (without_private role m) (public_call known who c) one) (after_bye_at stage config at x side m c other)
  left_by-equivalent (Answered waiting success) who at x side role m c one other fits kept a = before_ack-equivalent who at x waiting success side c one other a
  left_by-equivalent (Departing waiting success) who at x side role m c one other fits kept a = ended-equivalent who at x c one other a
  left_by-equivalent Stable who at x side role m c one other fits kept a =
      ended-equivalent who at x c
      (with_relayed_request config.sip (codes "BYE") (leg_of (other_side side) (public_established known x)).dialogue
      (copied_across config (public_call known who c) (public_established known x) side (without_private role m)) (without_private role m).parsed one)
      (with_relayed_request config.sip (codes "BYE") (leg_of (other_side side) x).dialogue (copied_across config c x side m) m.parsed other)
      (across-equivalent who (codes "BYE") c x side role m one other fits a)
  left_by-equivalent (Reinviting asking q) who at x side role m c one other fits kept a = while_reinviting-equivalent who at x asking q side c one other kept a

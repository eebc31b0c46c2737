-- The transition on the ACK of a 2xx uses public parts alone.
use Rattle.std.proofs.Common.{◌≡◌, inl, inr, ℕ, Bool, true, false, List, [], ◌∷◌, refl, ap, sym, ◌∙◌, map, cond, Some}
use Rattle.std.specs.Str.{bytes_eq}
use Rattle.mmtel_compose.specs.ReceivedMessages.{MessageView}
use Rattle.mmtel_output.specs.Outputs.{token}
use Rattle.mmtel_output.specs.Sending.{relayed_ack_text, with_relayed_ack}
use Rattle.mmtel_output.specs.declared.outputs.StepOutput.{StepOutput}
use Rattle.mmtel_leg.specs.declared.dialogues.Dialogue.{Dialogue}
use Rattle.mmtel_message.specs.Message.{Line}
use Rattle.mmtel_rules.specs.declared.values.Identities2.{Identities2}
use Rattle.mmtel_transaction.specs.Equivalence.{blank_if}
use Rattle.mmtel_transaction.specs.declared.words.Emit.{Emit}
use Rattle.mmtel_transaction.specs.declared.words.TKey.{TKey}
use Rattle.mmtel_trust.specs.Members.{IsIn}
use Rattle.mmtel_types.specs.declared.numbers.Peer.{Peer}
use Rattle.mmtel_types.specs.declared.sides.Side.{Side}
use Rattle.mmtel_types.specs.declared.sides.Side.TheVariants.{Caller, Callee}
use Rattle.mmtel_call_services.specs.CopiedHeaders.{copied_lines, masks_all}
use Rattle.mmtel_call_services.specs.CallConfig.{CallConfigView, trusts}
use Rattle.mmtel_call.specs.Answered.{acknowledges, after_ack_across, after_departure, at_stage, with_bye_to, with_kept_ack}
use Rattle.mmtel_call.specs.declared.calls.Call.{Call}
use Rattle.mmtel_call.specs.declared.calls.EstablishedLegs.{EstablishedLegs}
use Rattle.mmtel_call.specs.declared.calls.Stage.{Stage}
use Rattle.mmtel_call.specs.declared.calls.Success.{Success}
use Rattle.mmtel_call.specs.declared.calls.AnsweredInvite.{AnsweredInvite}
use Rattle.mmtel_call.specs.declared.calls.Stage.TheVariants.{Answered, Departing, Reinviting, Stable}
use Rattle.mmtel_call.specs.Closing.{step_result}
use Rattle.mmtel_call.specs.OtherRequests.{is_answered_invite}
use Rattle.mmtel_call.specs.Stages.{on_ack_at}
use Rattle.mmtel_call_theorems.specs.Noninterference.PublicCall.{nobody, public_answered, public_call, public_dialog_by, public_diverted, public_established, public_opening, public_part, public_stage}
use Rattle.mmtel_call_theorems.specs.Noninterference.Premises.{Fits, SentAcross, stage_is_sent}
use Rattle.mmtel_call_theorems.specs.Noninterference.Roles.{Role, without_private}
use Rattle.mmtel_call_theorems.specs.Noninterference.Transitions.{AcksOnceAnswered}
use Rattle.mmtel_call_theorems.specs.Noninterference.Observations.{EquivalentOutputs, EquivalentSteps, Trust, observations, trust_of, with_out}
use Rattle.mmtel_call_theorems.proofs.Noninterference.Offering.{step-brings}
use Rattle.mmtel_call_theorems.proofs.Noninterference.Idempotence.{answered_again, call_once}
use Rattle.mmtel_call_theorems.proofs.Noninterference.Transitions.{bye-equivalent, ended-equivalent, on-equivalent, step-if, step-where}
use Rattle.mmtel_call_theorems.proofs.Noninterference.Sent.{Heads, acked_for-equivalent, relayed_bytes}
use Rattle.mmtel_call_theorems.proofs.Noninterference.CopiedLines.{copied-same}

-- ---- the ACK that is kept

module _ (known : Peer → Bool) (branch u v : List ℕ) (trusted : Bool) (same : blank_if trusted u ≡ blank_if trusted v) where
  texts : (t : AnsweredInvite) → known t.invite.dialogue.peer ≡ trusted → blank_if (known t.invite.dialogue.peer) u ≡ blank_if (known t.invite.dialogue.peer) v
  texts t tie = ap (λ (b : Bool). blank_if b u) tie ∙ (same ∙ ap (λ (b : Bool). blank_if b v) (sym tie))

  kept_if : (b : Bool) (t : AnsweredInvite) → (b ≡ true → known t.invite.dialogue.peer ≡ trusted) →
      public_answered known (cond b (record (public_answered known t) { invite = record (public_answered known t).invite { ack = Some u } }) (public_answered known t))
      ≡ public_answered known (cond b (record t { invite = record t.invite { ack = Some v } }) t)
  kept_if false t tie = answered_again known t
  kept_if true t tie =
      ap (λ (z : AnsweredInvite). record z { invite = record z.invite { ack = Some (blank_if (known t.invite.dialogue.peer) u) } }) (answered_again known t)
      ∙ ap (λ (w : List ℕ). record (public_answered known t) { invite = record (public_answered known t).invite { ack = Some w } }) (texts t (tie refl))

  pub kept_all : (ts : List AnsweredInvite) → ((t : AnsweredInvite) → IsIn t ts → is_answered_invite branch t ≡ true → known t.invite.dialogue.peer ≡ trusted) →
      map (public_answered known) (map (with_kept_ack branch u) (map (public_answered known) ts)) ≡ map (public_answered known) (map (with_kept_ack branch v) ts)
  kept_all [] ties = refl
  kept_all (t ∷ ts) ties =
      ap (λ (x : AnsweredInvite). x ∷ map (public_answered known) (map (with_kept_ack branch u) (map (public_answered known) ts))) (kept_if (bytes_eq t.invite.branch branch) t (ties t (inl refl)))
      ∙ ap (λ (l : List AnsweredInvite). public_answered known (with_kept_ack branch v t) ∷ l) (kept_all ts (λ x is. ties x (inr is)))

module _ (heads : Heads) (config : CallConfigView) (keys : TKey → Bool) where
  abbrev T : Trust
  T = trust_of config keys

  abbrev known : Peer → Bool
  known = λ peer. trusts config peer

  -- in the other leg's dialog d
  across-by : (who : Identities2) (x : EstablishedLegs) (side : Side) (d : Dialogue) (success : Success) (role : Role) (m : MessageView) (c : Call) (out : List Emit) (y : StepOutput) →
      Fits c.opening x.service side m role →
      ((t : AnsweredInvite) → IsIn t c.answered_invites → is_answered_invite success.branch t ≡ true → known t.invite.dialogue.peer ≡ known d.peer) → observations T out ≡ observations T y.out →
      EquivalentSteps T
      (record {
        call = record (at_stage (public_established known x) Stable (public_call known who c)) {
          answered_invites = map (with_kept_ack success.branch (relayed_ack_text config.sip (public_dialog_by (known d.peer) d) (token y)
              (copied_lines config (public_opening who c.opening) (public_diverted (masks_all c.opening) c.diversions) x.service side d.peer (without_private role m)) m.parsed))
              (map (public_answered known) c.answered_invites);
        };
        output = with_relayed_ack config.sip (public_dialog_by (known d.peer) d)
            (copied_lines config (public_opening who c.opening) (public_diverted (masks_all c.opening) c.diversions) x.service side d.peer (without_private role m)) m.parsed (with_out out y);
      })
      (record {
        call = record (at_stage x Stable c) {
          answered_invites = map (with_kept_ack success.branch (relayed_ack_text config.sip d (token y) (copied_lines config c.opening c.diversions x.service side d.peer m) m.parsed)) c.answered_invites;
        };
        output = with_relayed_ack config.sip d (copied_lines config c.opening c.diversions x.service side d.peer m) m.parsed y;
      })
  across-by who x side d success role m c out y fits ties s =
      let ls : List Line = copied_lines config (public_opening who c.opening) (public_diverted (masks_all c.opening) c.diversions) x.service side d.peer (without_private role m) in
      let ks : List Line = copied_lines config c.opening c.diversions x.service side d.peer m in
      let u : List ℕ = relayed_ack_text config.sip (public_dialog_by (known d.peer) d) (token y) ls m.parsed in
      let v : List ℕ = relayed_ack_text config.sip d (token y) ks m.parsed in
      let talks : Call = at_stage x Stable c in
      let shown : known d.peer ≡ false → ls ≡ ks = λ strange. copied-same config who c.opening c.diversions x.service side d.peer role m fits strange in
      record {
        call =
            ap (λ (ts : List AnsweredInvite). record (public_part known (public_call known who talks)) { answered_invites = ts })
            (kept_all known success.branch u v (known d.peer) (relayed_bytes heads T config.sip d ls ks m.parsed (token y) shown) c.answered_invites ties)
            ∙ ap (λ (z : Call). record z { answered_invites = map (public_answered known) (map (with_kept_ack success.branch v) c.answered_invites) }) (call_once known nobody who talks);
        output = acked_for-equivalent heads T config.sip d ls ks m.parsed (with_out out y) y shown (record { tokens = refl; rows = refl; out = s });
      }

  across-equivalent : (who : Identities2) (x : EstablishedLegs) (side : Side) (success : Success) (role : Role) (m : MessageView) (c : Call) (one other : StepOutput) →
      Fits c.opening x.service side m role → SentAcross T c x side success → EquivalentOutputs T one other →
      EquivalentSteps T (after_ack_across config (public_established known x) side success (without_private role m) (public_call known who c) one) (after_ack_across config x side success m c other)
  unfolding relayed_ack_text
  across-equivalent who x Caller success role m c one other fits ties a =
      step-brings heads config keys (λ (d : StepOutput). after_ack_across config (public_established known x) Caller success (without_private role m) (public_call known who c) d)
      (λ (d : StepOutput). after_ack_across config x Caller success m c d)
      (λ out y s. across-by who x Caller x.callee.dialogue success role m c out y fits ties s) one other a
  across-equivalent who x Callee success role m c one other fits ties a =
      step-brings heads config keys (λ (d : StepOutput). after_ack_across config (public_established known x) Callee success (without_private role m) (public_call known who c) d)
      (λ (d : StepOutput). after_ack_across config x Callee success m c d)
      (λ out y s. across-by who x Callee x.caller.dialogue success role m c out y fits ties s) one other a

  parts-equivalent : (who : Identities2) (at : ℕ) (x : EstablishedLegs) (side : Side) (c : Call) (one other : StepOutput) → EquivalentOutputs T one other →
      EquivalentSteps T (after_departure config at (public_established known x) side (public_call known who c) one) (after_departure config at x side c other)
  parts-equivalent who at x side c one other a =
      ended-equivalent heads config keys who at x c (with_bye_to config (public_established known x) side one) (with_bye_to config x side other) (bye-equivalent heads config keys x side one other a)

  ack_at-equivalent : (stage : Stage) (who : Identities2) (at : ℕ) (x : EstablishedLegs) (side : Side) (role : Role) (m : MessageView) (c : Call) (one other : StepOutput) →
      Fits c.opening x.service side m role → stage_is_sent T c x side m stage → EquivalentOutputs T one other →
      EquivalentSteps T (on_ack_at (public_stage known stage) config at (public_established known x) side (without_private role m) (public_call known who c) one) (on_ack_at stage config at x side m c other)
  ack_at-equivalent (Answered waiting success) who at x side role m c one other fits sent a =
      step-where T (acknowledges waiting success side m) (after_ack_across config (public_established known x) side success (without_private role m) (public_call known who c) one)
      (step_result (public_call known who c) one) (after_ack_across config x side success m c other) (step_result c other)
      (λ is. across-equivalent who x side success role m c one other fits (sent is) a) (λ is. on-equivalent heads config keys who c one other a)
  ack_at-equivalent (Departing waiting success) who at x side role m c one other fits sent a =
      step-if T (acknowledges waiting success side m) (after_departure config at (public_established known x) side (public_call known who c) one) (step_result (public_call known who c) one)
      (after_departure config at x side c other) (step_result c other)
      (parts-equivalent who at x side c one other a) (on-equivalent heads config keys who c one other a)
  ack_at-equivalent Stable who at x side role m c one other fits sent a = on-equivalent heads config keys who c one other a
  ack_at-equivalent (Reinviting asking q) who at x side role m c one other fits sent a = on-equivalent heads config keys who c one other a

pub acks_once_answered : Heads → AcksOnceAnswered
acks_once_answered heads stage config keys who at x side role m c one other fits sent a = ack_at-equivalent heads config keys stage who at x side role m c one other fits sent a

-- How a call is offered to a target uses public parts alone.
use Rattle.std.proofs.Common.{◌≡◌, ℕ, Bool, true, false, List, [], ◌∷◌, ◌++◌, refl, ap, sym, ◌∙◌, codes, subst}
use Rattle.std.specs.Prelude.{◌+◌, Option}
use Rattle.mmtel_compose.specs.Attempts.{alert_lines, as_callee, dialogue_to, invite_of}
use Rattle.mmtel_compose.specs.Requests.{relayed_parts}
use Rattle.mmtel_compose.specs.ReceivedMessages.{MessageView}
use Rattle.mmtel_compose.specs.declared.attempts.Destination.{Destination}
use Rattle.mmtel_charging.specs.declared.rows.Kind.TheVariants.{Terminating}
use Rattle.mmtel_output.specs.Outputs.{after_draw, token}
use Rattle.mmtel_output.specs.SentInvites.{sent_invite}
use Rattle.mmtel_output.specs.declared.outputs.StepOutput.{StepOutput}
use Rattle.mmtel_leg.specs.Legs.{Leg}
use Rattle.mmtel_leg.specs.Requests.{RequestPartsView, request_numbered}
use Rattle.mmtel_leg.specs.declared.dialogues.Dialogue.{Dialogue}
use Rattle.mmtel_masked_messages.proofs.RequestTheorems.{shown_head}
use Rattle.mmtel_masked_messages.specs.Requests.{with_lines}
use Rattle.mmtel_masked_messages.specs.Responses.{AreNoOwnFields}
use Rattle.mmtel_message.specs.Message.{Line}
use Rattle.mmtel_reliable.specs.Acks as Acks
use Rattle.mmtel_rules.specs.declared.values.Identities2.{Identities2}
use Rattle.mmtel_transaction.specs.declared.words.DueWord.TheVariants as due
use Rattle.mmtel_transaction.specs.declared.words.Emit.{Emit}
use Rattle.mmtel_transaction.specs.declared.words.Emit.TheVariants as emit
use Rattle.mmtel_transaction.specs.declared.words.TKey.{TKey}
use Rattle.mmtel_trust.proofs.IndexKeeping.{from-entries}
use Rattle.mmtel_trust.specs.ParsedMessage.{ParsedMessage}
use Rattle.mmtel_trust.specs.PrivateFields.{PrivateFields, masked_lines}
use Rattle.mmtel_trust.specs.MaskedMessages.{private_entries}
use Rattle.mmtel_trust.specs.HeaderTable.{attempt_from}
use Rattle.mmtel_types.specs.declared.numbers.Peer.{Peer}
use Rattle.mmtel_call_services.specs.CopiedHeaders.{attempt_lines, masks_all}
use Rattle.mmtel_call_services.specs.CallConfig.{CallConfigView, trusts}
use Rattle.mmtel_call_services.specs.declared.openings.Opening.{Opening}
use Rattle.mmtel_call_services.specs.declared.openings.Service.{Service}
use Rattle.mmtel_call.specs.AttemptLeg.{AttemptLegView}
use Rattle.mmtel_call.specs.declared.calls.Attempt.{Attempt}
use Rattle.mmtel_call.specs.declared.calls.Call.{Call}
use Rattle.mmtel_call.specs.declared.calls.Phase.TheVariants.{Offered}
use Rattle.mmtel_call.specs.Closing.{StepResult, meter_for}
use Rattle.mmtel_call.specs.AttemptStarts.{attempt_dialog_of, attempt_start, max_attempt_time, next_attempt}
use Rattle.mmtel_call_theorems.specs.Noninterference.PublicCall.{nobody, public_attempt, public_call, public_callee, public_diverted, public_leg, public_opening, public_part}
use Rattle.mmtel_call_theorems.specs.Noninterference.Roles.{Plain, hides, hidden_by, opening_role, private_fields, without_private}
use Rattle.mmtel_call_theorems.specs.Noninterference.Observations.{EquivalentOutputs, EquivalentSteps, Trust, observation, observations, trust_of, with_out}
use Rattle.mmtel_call_theorems.proofs.Noninterference.Numbers.{both_foreign, line_foreign}
use Rattle.mmtel_call_theorems.proofs.Noninterference.Idempotence.{call_once, leg_again}
use Rattle.mmtel_call_theorems.proofs.Noninterference.Sent.{Heads, as_with, one_more, text_if}
use Rattle.mmtel_call_theorems.proofs.Noninterference.CopiedLines.{entries_placed, offered-foreign, offered-same}

-- ---- the header field of a waiting call is none of the server's own

alert_foreign : (waiting : Bool) → AreNoOwnFields (alert_lines waiting)
alert_foreign true name own = line_foreign (codes "Alert-Info") (codes "<urn:alert:service:call-waiting>") refl name own
alert_foreign false name own = refl

-- ---- From of the attempt

from_by : (b : Bool) (tag : List ℕ) (h : ParsedMessage) → attempt_from false tag (hidden_by b (private_fields Plain h) h).lines ≡ attempt_from false tag h.lines
from_by true tag h = ap (λ (p : PrivateFields). attempt_from false tag (masked_lines p h.lines)) (entries_placed h.start (private_entries h)) ∙ from-entries (private_entries h) false tag h.lines
from_by false tag h = refl

from_same : (restricted : Bool) (tag : List ℕ) (m : MessageView) → attempt_from restricted tag (without_private (opening_role restricted) m).parsed.lines ≡ attempt_from restricted tag m.parsed.lines
from_same true tag m = refl
from_same false tag m = from_by m.parsed.trusted tag m.parsed

dialog_same : (who : Identities2) (o : Opening) (destination : Destination) (output : StepOutput) → attempt_dialog_of (public_opening who o) destination output ≡ attempt_dialog_of o destination output
dialog_same who o destination output = ap (λ (f : List ℕ). dialogue_to destination (token output) (token (after_draw output)) f) (from_same o.restricted (token (after_draw output)) o.invite)

-- the role of the INVITE fits the caller
opens_fit : (restricted : Bool) → hides (opening_role restricted) ≡ true → restricted ≡ true
opens_fit true e = refl
opens_fit false e = e

module _ (heads : Heads) (config : CallConfigView) (keys : TKey → Bool) where
  abbrev T : Trust
  T = trust_of config keys

  abbrev known : Peer → Bool
  known = λ peer. trusts config peer

  pub step-brings : (F G : StepOutput → StepResult) → ((out : List Emit) (y : StepOutput) → observations T out ≡ observations T y.out → EquivalentSteps T (F (with_out out y)) (G y)) →
      (x y : StepOutput) → EquivalentOutputs T x y → EquivalentSteps T (F x) (G y)
  step-brings F G alike x y a = subst (λ (d : StepOutput). EquivalentSteps T (F d) (G y)) (sym (as_with T x y a)) (alike x.out y a.out)

  -- a request with other header fields that are copied
  notification-observed : (d : Dialogue) (n : ℕ) (method : List ℕ) (g : RequestPartsView) (ls ks : List Line) → AreNoOwnFields ls → AreNoOwnFields ks → (known d.peer ≡ false → ls ≡ ks) →
      observation T (emit.Ask d.peer (request_numbered d n method (with_lines ls g))) ≡ observation T (emit.Ask d.peer (request_numbered d n method (with_lines ks g)))
  notification-observed d n method g ls ks f h same =
      rw (
        shown_head heads.five d n method g ls ks f h,
        text_if (known d.peer) (request_numbered d n method (with_lines ls g)) (request_numbered d n method (with_lines ks g)) (λ e. ap (λ (l : List Line). request_numbered d n method (with_lines l g)) (same e)),
      )
      refl

  module _ (who : Identities2) (at : ℕ) (caller : Leg) (service : Option Service) (waiting : Bool) (destination : Destination) (c : Call) (y : StepOutput) where
    abbrev branch : List ℕ
    branch = token (after_draw (after_draw y))

    abbrev callee_with : Dialogue → AttemptLegView
    callee_with d = record { leg = record { dialogue = as_callee d; meter = meter_for Terminating c at service }; is_early = false }

    abbrev attempt_with : Dialogue → Attempt
    attempt_with d = record { number = next_attempt c; service = service; rang = false; invite = sent_invite d 1 branch }

    abbrev offered_with : Call → Leg → Dialogue → Call
    offered_with z l d = record z { attempts = next_attempt c; acks = Acks.next_attempt c.acks; phase = Offered (record { caller = l; callee = callee_with d; attempt = attempt_with d }) }

    abbrev hidden_lines : List Line
    hidden_lines = attempt_lines config (public_opening who c.opening) (public_diverted (masks_all c.opening) c.diversions) service destination.peer

    abbrev whole_lines : List Line
    whole_lines = attempt_lines config c.opening c.diversions service destination.peer

    offer_call : public_part known (offered_with (public_call known who c) (public_leg known caller) (attempt_dialog_of (public_opening who c.opening) destination y))
        ≡ public_part known (offered_with c caller (attempt_dialog_of c.opening destination y))
    offer_call =
        let d : Dialogue = attempt_dialog_of c.opening destination y in
        ap (λ (e : Dialogue). public_part known (offered_with (public_call known who c) (public_leg known caller) e)) (dialog_same who c.opening destination y)
        ∙ (ap (λ (z : Call). record z {
          attempts = next_attempt c;
          acks = Acks.next_attempt c.acks;
          phase = Offered (record { caller = public_leg known (public_leg known caller); callee = public_callee known (callee_with d); attempt = public_attempt known (attempt_with d) });
        }) (call_once known nobody who c)
        ∙ ap (λ (l : Leg). record (public_part known c) {
          attempts = next_attempt c;
          acks = Acks.next_attempt c.acks;
          phase = Offered (record { caller = l; callee = public_callee known (callee_with d); attempt = public_attempt known (attempt_with d) });
        }) (leg_again known caller))

    offer_observed : observation T (emit.Ask destination.peer (invite_of (attempt_dialog_of (public_opening who c.opening) destination y) config.sip branch hidden_lines waiting c.opening.invite.parsed))
        ≡ observation T (emit.Ask destination.peer (invite_of (attempt_dialog_of c.opening destination y) config.sip branch whole_lines waiting c.opening.invite.parsed))
    offer_observed =
        ap (λ (e : Dialogue). observation T (emit.Ask destination.peer (invite_of e config.sip branch hidden_lines waiting c.opening.invite.parsed))) (dialog_same who c.opening destination y)
        ∙ notification-observed (attempt_dialog_of c.opening destination y) 1 (codes "INVITE") (relayed_parts config.sip branch [] c.opening.invite.parsed) (hidden_lines ++ alert_lines waiting)
        (whole_lines ++ alert_lines waiting)
        (both_foreign hidden_lines (alert_lines waiting) (offered-foreign config (public_opening who c.opening) (public_diverted (masks_all c.opening) c.diversions) service destination.peer) (alert_foreign waiting))
        (both_foreign whole_lines (alert_lines waiting) (offered-foreign config c.opening c.diversions service destination.peer) (alert_foreign waiting))
        (λ strange. ap (λ (l : List Line). l ++ alert_lines waiting) (offered-same config who c.opening c.diversions service destination.peer (opens_fit c.opening.restricted) strange))

    offer-by : (out : List Emit) → observations T out ≡ observations T y.out → EquivalentSteps T
        (attempt_start config at (public_leg known caller) service waiting destination (public_call known who c) (with_out out y)) (attempt_start config at caller service waiting destination c y)
    offer-by out s =
        let arm : Emit = emit.Arm c.opening.number (due.Cap (next_attempt c)) (at + max_attempt_time) in
        let ask : Emit = emit.Ask destination.peer (invite_of (attempt_dialog_of (public_opening who c.opening) destination y) config.sip branch hidden_lines waiting c.opening.invite.parsed) in
        let asked : Emit = emit.Ask destination.peer (invite_of (attempt_dialog_of c.opening destination y) config.sip branch whole_lines waiting c.opening.invite.parsed) in
        record {
          call = offer_call;
          output = record { tokens = refl; rows = refl; out = one_more T arm arm (out ++ ask ∷ []) (y.out ++ asked ∷ []) refl (one_more T ask asked out y.out offer_observed s) };
        }

  pub offer-alike : (who : Identities2) (at : ℕ) (caller : Leg) (service : Option Service) (waiting : Bool) (destination : Destination) (c : Call) (one other : StepOutput) → EquivalentOutputs T one other →
      EquivalentSteps T (attempt_start config at (public_leg known caller) service waiting destination (public_call known who c) one) (attempt_start config at caller service waiting destination c other)
  offer-alike who at caller service waiting destination c one other a =
      step-brings (λ (d : StepOutput). attempt_start config at (public_leg known caller) service waiting destination (public_call known who c) d)
      (λ (d : StepOutput). attempt_start config at caller service waiting destination c d)
      (λ out y s. offer-by who at caller service waiting destination c y out s) one other a

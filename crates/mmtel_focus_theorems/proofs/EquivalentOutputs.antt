-- The output is seen as the same, message by message: of two dialogs with the same public part, and for two messages that are equal but for private places.
use Rattle.std.proofs.Common.{◌≡◌, ℕ, Bool, true, false, List, [], ◌∷◌, ◌++◌, None, refl, ap, sym, ◌∙◌, subst}
use Rattle.mmtel_compose.specs.Responses.{own_reply, own_response}
use Rattle.mmtel_compose.specs.ReceivedMessages.{MessageView}
use Rattle.mmtel_call_services.specs.CallConfig as calls
use Rattle.mmtel_call_theorems.proofs.Noninterference.Across.{acked-final}
use Rattle.mmtel_call_theorems.proofs.Noninterference.Leaving.{RestsEquivalent, outputs-back, outputs-then, response-equivalent}
use Rattle.mmtel_call_theorems.proofs.Noninterference.Ringing.{met_equivalent}
use Rattle.mmtel_call_theorems.proofs.Noninterference.Sent.{Heads, acked-equivalent, asked-equivalent, cancel-equivalent, emitted-equivalent, reply-observed, same_output}
use Rattle.mmtel_call_theorems.specs.Noninterference.PublicCall.{public_abandoned, public_dialog, public_sent_invite}
use Rattle.mmtel_call_theorems.specs.Noninterference.Premises.{IsFromOwnPeer, IsResponseOf}
use Rattle.mmtel_call_theorems.specs.Noninterference.Roles.{private_fields}
use Rattle.mmtel_call_theorems.specs.Noninterference.Observations.{EquivalentOutputs, Trust}
use Rattle.mmtel_output.specs.Outputs.{with_emit, with_row}
use Rattle.mmtel_output.specs.AbandonedInvites.{on_response}
use Rattle.mmtel_output.specs.Sending.{with_ack, with_contact_response, with_due_cancel, with_final_ack, with_own_request}
use Rattle.mmtel_output.specs.declared.outputs.StepOutput.{StepOutput}
use Rattle.mmtel_output.specs.declared.sent_invites.SentInvite.{SentInvite}
use Rattle.mmtel_output.specs.declared.sent_invites.AbandonedInvite.{AbandonedInvite}
use Rattle.mmtel_charging.specs.declared.rows.Row.{Row}
use Rattle.mmtel_leg.specs.Dialogues.{with_remote}
use Rattle.mmtel_leg.specs.Remotes.{remote_of}
use Rattle.mmtel_leg.specs.declared.dialogues.Dialogue.{Dialogue}
use Rattle.mmtel_message.specs.Message.{Line}
use Rattle.mmtel_transaction.specs.declared.words.Emit.{Emit}
use Rattle.mmtel_transaction.specs.declared.words.Emit.TheVariants as emit
use Rattle.mmtel_transaction.specs.declared.words.TKey.{TKey}
use Rattle.mmtel_types.specs.declared.numbers.Peer.{Peer}
use Rattle.mmtel_types.specs.declared.sides.Side.TheVariants.{Callee}
use Rattle.mmtel_focus.specs.ConferenceConfig.{ConferenceConfigView}
use Rattle.mmtel_focus_theorems.specs.Inputs.{RoleMessage, MessagePair, AreRequests, public_message}
use Rattle.mmtel_focus_theorems.specs.PublicParts.{trust_of, trusts}

-- the configuration as calls have it, of which only the peers matter
abbrev pub as_calls : ConferenceConfigView → calls.CallConfigView
as_calls config = record {
  sip = config.sip;
  home = [];
  bound = 0;
  country = None;
  reliable = false;
  timer = false;
  mwi = false;
  peers = config.peers;
  accounts = [];
}

module _ (heads : Heads) (config : ConferenceConfigView) (keys : TKey → Bool) where
  abbrev T : Trust
  T = trust_of config keys

  abbrev known : Peer → Bool
  known = λ peer. trusts config peer

  abbrev pub Alike : (one other : StepOutput) → Type 0
  Alike = λ one other. EquivalentOutputs T one other

  -- where the effect of each thing is seen as that of its public part, the effects of two things with the same public part are seen as the same
  like : {A : Type 0} (f : A → StepOutput → StepOutput) (v pv w pw : A) → ((x y : StepOutput) → EquivalentOutputs T x y → EquivalentOutputs T (f pv x) (f v y)) →
      ((x y : StepOutput) → EquivalentOutputs T x y → EquivalentOutputs T (f pw x) (f w y)) →
      pv ≡ pw → (x y : StepOutput) → EquivalentOutputs T x y → EquivalentOutputs T (f v x) (f w y)
  like f v pv w pw one two e x y a =
      outputs-then T (f v x) (f pv x) (f w y) (outputs-back T (f pv x) (f v x) (one x x (same_output T x)))
      (subst (λ z. EquivalentOutputs T (f z x) (f w y)) (sym e) (two x y a))

  -- ---- requests in a dialog

  pub asked-like : (method : List ℕ) (named : List Line) (body : List ℕ) (d e : Dialogue) (x y : StepOutput) → public_dialog known d ≡ public_dialog known e → EquivalentOutputs T x y →
      EquivalentOutputs T (with_own_request config.sip method d named body x) (with_own_request config.sip method e named body y)
  asked-like method named body d e x y same a =
      like (λ (z : Dialogue) (k : StepOutput). with_own_request config.sip method z named body k) d (public_dialog known d) e (public_dialog known e)
      (λ u v b. asked-equivalent heads T config.sip method d named body u v b) (λ u v b. asked-equivalent heads T config.sip method e named body u v b) same x y a

  pub with_ack-like : (d e : Dialogue) (x y : StepOutput) → public_dialog known d ≡ public_dialog known e → EquivalentOutputs T x y → EquivalentOutputs T (with_ack config.sip d x) (with_ack config.sip e y)
  with_ack-like d e x y same a =
      like (λ (z : Dialogue) (k : StepOutput). with_ack config.sip z k) d (public_dialog known d) e (public_dialog known e) (λ u v b. acked-equivalent heads T config.sip d u v b)
      (λ u v b. acked-equivalent heads T config.sip e u v b) same x y a

  -- ---- CANCEL

  with_due_cancel-equivalent : (i : SentInvite) (x y : StepOutput) → EquivalentOutputs T x y → EquivalentOutputs T (with_due_cancel config.sip (public_sent_invite known i) x) (with_due_cancel config.sip i y)
  with_due_cancel-equivalent i x y a =
      let b : Bool = i.provisional in
      by b i.cancelled
    where
      by : (b c : Bool) → EquivalentOutputs T (with_due_cancel config.sip (record (public_sent_invite known i) { provisional = b; cancelled = c }) x)
          (with_due_cancel config.sip (record i { provisional = b; cancelled = c }) y)
      by true true = a
      by true false = cancel-equivalent heads T config.sip (record i { provisional = true; cancelled = false }) x y a
      by false true = a
      by false false = a

  pub with_due_cancel-like : (i j : SentInvite) (x y : StepOutput) → public_sent_invite known i ≡ public_sent_invite known j → EquivalentOutputs T x y →
      EquivalentOutputs T (with_due_cancel config.sip i x) (with_due_cancel config.sip j y)
  with_due_cancel-like i j x y same a =
      like (λ (z : SentInvite) (k : StepOutput). with_due_cancel config.sip z k) i (public_sent_invite known i) j (public_sent_invite known j) (λ u v b. with_due_cancel-equivalent i u v b)
      (λ u v b. with_due_cancel-equivalent j u v b) same x y a

  -- ---- responses

  answered-equivalent : (contact : List ℕ) (key : TKey) (m : RoleMessage) (tag : List ℕ) (code : ℕ) (named : List Line) (body : List ℕ) (x y : StepOutput) → IsFromOwnPeer T key m.message → EquivalentOutputs T x y →
      EquivalentOutputs T (with_contact_response contact key (public_message m) tag code [] named body x) (with_contact_response contact key m.message tag code [] named body y)
  answered-equivalent contact key m tag code named body x y asked a =
      emitted-equivalent T (emit.Reply key (own_response contact (public_message m) tag code [] named body)) (emit.Reply key (own_response contact m.message tag code [] named body)) x y
      (reply-observed heads T key m.message.parsed.trusted (private_fields m.role m.message.parsed) m.message.parsed (own_reply contact m.message.source tag code [] named body) [] [] asked.request
      (asked.trusted ∙ sym asked.known) (λ name own. refl) (λ name own. refl) refl (λ e. refl)) a

  pub answered-like : (contact : List ℕ) (key : TKey) (p : MessagePair) (tag : List ℕ) (code : ℕ) (named : List Line) (body : List ℕ) (x y : StepOutput) → AreRequests T key p → EquivalentOutputs T x y →
      EquivalentOutputs T (with_contact_response contact key p.one.message tag code [] named body x) (with_contact_response contact key p.other.message tag code [] named body y)
  answered-like contact key p tag code named body x y asked a =
      like (λ (m : MessageView) (k : StepOutput). with_contact_response contact key m tag code [] named body k) p.one.message (public_message p.one) p.other.message (public_message p.other)
      (λ u v b. answered-equivalent contact key p.one tag code named body u v asked.one b) (λ u v b. answered-equivalent contact key p.other tag code named body u v asked.other b) asked.equivalent x y a

  -- ---- the ACK of a final response from 300

  abbrev Both : Type 0
  Both = SentInvite × MessageView

  pub final-like : (key : TKey) (p : MessagePair) (i j : SentInvite) (x y : StepOutput) → IsResponseOf T key i.dialogue.peer p.one.role p.one.message →
      IsResponseOf T key j.dialogue.peer p.other.role p.other.message → public_message p.one ≡ public_message p.other → public_sent_invite known i ≡ public_sent_invite known j →
      EquivalentOutputs T x y → EquivalentOutputs T (with_final_ack config.sip key i p.one.message.parsed x) (with_final_ack config.sip key j p.other.message.parsed y)
  final-like key p i j x y f g said same a =
      like (λ (z : Both) (k : StepOutput). with_final_ack config.sip key z.0 z.1.parsed k) (i, p.one.message) (public_sent_invite known i, public_message p.one) (j, p.other.message)
      (public_sent_invite known j, public_message p.other)
      (λ u v b. acked-final heads (as_calls config) keys key i p.one.role p.one.message u v f b) (λ u v b. acked-final heads (as_calls config) keys key j p.other.role p.other.message u v g b)
      (ap (λ (z : SentInvite). (z, public_message p.one)) same ∙ ap (λ (m : MessageView). (public_sent_invite known j, m)) said) x y a

  -- ---- a 2xx that creates a dialog

  pub with_remote-like : (p : MessagePair) (key : TKey) (d e : Dialogue) → IsResponseOf T key d.peer p.one.role p.one.message → IsResponseOf T key e.peer p.other.role p.other.message →
      public_message p.one ≡ public_message p.other → public_dialog known d ≡ public_dialog known e →
      public_dialog known (with_remote d (remote_of Callee p.one.message.parsed.lines)) ≡ public_dialog known (with_remote e (remote_of Callee p.other.message.parsed.lines))
  with_remote-like p key d e f g said same =
      sym (met_equivalent heads (as_calls config) keys d p.one.role p.one.message f.nothing_private)
      ∙ (ap (λ (z : Dialogue). public_dialog known (with_remote z (remote_of Callee (public_message p.one).parsed.lines))) same
      ∙ (ap (λ (m : MessageView). public_dialog known (with_remote (public_dialog known e) (remote_of Callee m.parsed.lines))) said
      ∙ met_equivalent heads (as_calls config) keys e p.other.role p.other.message g.nothing_private))

  -- ---- a response to an abandoned INVITE

  pub left-like : (key : TKey) (p : MessagePair) (l m : AbandonedInvite) (x y : StepOutput) → IsResponseOf T key l.invite.dialogue.peer p.one.role p.one.message →
      IsResponseOf T key m.invite.dialogue.peer p.other.role p.other.message → public_message p.one ≡ public_message p.other →
      public_abandoned known l ≡ public_abandoned known m → EquivalentOutputs T x y → RestsEquivalent T (on_response config.sip key p.one.message.parsed l x) (on_response config.sip key p.other.message.parsed m y)
  left-like key p l m x y f g said same a =
      let one : RestsEquivalent T (on_response config.sip key (public_message p.one).parsed (public_abandoned known l) x) (on_response config.sip key p.one.message.parsed l x) =
      response-equivalent heads (as_calls config) keys key l p.one.role p.one.message x x f (same_output T x) in
      let two : RestsEquivalent T (on_response config.sip key (public_message p.other).parsed (public_abandoned known m) x) (on_response config.sip key p.other.message.parsed m y) =
      response-equivalent heads (as_calls config) keys key m p.other.role p.other.message x y g a in
      let same_said : RestsEquivalent T (on_response config.sip key (public_message p.one).parsed (public_abandoned known l) x) (on_response config.sip key p.other.message.parsed m y) =
      subst (λ (s : MessageView). RestsEquivalent T (on_response config.sip key s.parsed (public_abandoned known l) x) (on_response config.sip key p.other.message.parsed m y)) (sym said)
      (subst (λ (z : AbandonedInvite). RestsEquivalent T (on_response config.sip key (public_message p.other).parsed z x) (on_response config.sip key p.other.message.parsed m y)) (sym same) two) in
      record {
        remaining = sym one.remaining ∙ same_said.remaining;
        output = outputs-then T (on_response config.sip key p.one.message.parsed l x).output (on_response config.sip key (public_message p.one).parsed (public_abandoned known l) x).output
            (on_response config.sip key p.other.message.parsed m y).output
            (outputs-back T (on_response config.sip key (public_message p.one).parsed (public_abandoned known l) x).output (on_response config.sip key p.one.message.parsed l x).output one.output) same_said.output;
      }

  -- ---- CDRs, and what is no message

  pub with_row-like : (row : Row) (x y : StepOutput) → EquivalentOutputs T x y → EquivalentOutputs T (with_row row x) (with_row row y)
  with_row-like row x y a = record { tokens = a.tokens; rows = ap (λ (l : List Row). l ++ row ∷ []) a.rows; out = a.out }

  pub same-like : (e : Emit) (x y : StepOutput) → EquivalentOutputs T x y → EquivalentOutputs T (with_emit e x) (with_emit e y)
  same-like e x y a = emitted-equivalent T e e x y refl a

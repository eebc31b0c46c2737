-- An ACK belongs to the INVITE whose final from 300 it acknowledges.
use Rattle.std.proofs.Common.{◌≡◌, ℕ, List, [], ◌∷◌, length, refl, true, false, Bool, not, ◌&&◌, ◌||◌, inl, inr, sym, ap, ◌∙◌, cond, subst}
use Rattle.std.specs.Prelude.{Option, Some, None, ◌==◌, is_some}
use Rattle.std.specs.List.{find}
use Rattle.std.proofs.lemmas.Bool.{eqb-true}
use Rattle.std.proofs.lemmas.Option.{none-some, same_Some}
use Rattle.std.proofs.lemmas.Slice.Eq.{bytes_eq-Decides}
use Rattle.mmtel_types.specs.declared.numbers.Peer.{Peer}
use Rattle.mmtel_message.specs.Message.{Message}
use Rattle.mmtel_message.specs.Texts.{message_text}
use Rattle.mmtel_message.specs.declared.messages.Start.{Start}
use Rattle.mmtel_transaction.specs.declared.heads.Head.{Head}
use Rattle.mmtel_transaction.specs.declared.entries.TransactionTimer.{TransactionTimer}
use Rattle.mmtel_transaction.specs.declared.entries.Entry.{Entry}
use Rattle.mmtel_transaction.specs.declared.entries.ReliableResponse.{ReliableResponse}
use Rattle.mmtel_transaction.specs.declared.message_class.MessageClass.{MessageClass}
use Rattle.mmtel_transaction.specs.declared.message_class.MessageClass.TheVariants as part
use Rattle.mmtel_transaction.specs.Heads.{head_of, invite, is_ack, is_cancel, is_provisional, is_refusal}
use Rattle.mmtel_transaction.specs.Deadlines.{foremost_in, state_retransmission_at}
use Rattle.mmtel_transaction.specs.Changes.{after_any_reply, after_failure_ack, after_reply, after_response, after_settling, after_timer, after_timer_by, is_ack_of, reliable_response_of, with_kept_ack, with_reliable_if}
use Rattle.mmtel_transaction.specs.Operations.{TransactionOp, DidBegin, DidHear, DidAsk, DidReply, DidAck, DidFire, DidSettle, change, opened_on_receipt, live, send_count, openings, opens, step_of}
use Rattle.mmtel_transaction.specs.Results.{class_of, is_client_of, is_invite_of, is_server_of, key_method}
use Rattle.mmtel_transaction.specs.Matching.{AcksBelong, IsRefusedInvite, if_refused, matching_entry}
use Rattle.mmtel_transaction.specs.Runs.{IsRun}
use Rattle.mmtel_transaction.proofs.Lists.{keeps_answered}
use Rattle.mmtel_timers.specs.Shelves.{Has}
use Rattle.mmtel_transaction.proofs.Having.{at_key, finds, found_in, has_more_back, of_key, run_before}
use Rattle.mmtel_transaction.proofs.Distinct.{apart, of_server, server_of}
use Rattle.mmtel_transaction.proofs.Repetition.{no_response}

-- a server transaction is refused where its final is one from 300
abbrev IsPlain : Entry → Type 0
IsPlain e = e.is_server ≡ true → e.is_refused ≡ is_refusal e.final_status

plain_if : (b : Bool) (e x : Entry) → IsPlain e → IsPlain x → IsPlain (cond b e x)
plain_if true e x f g = f
plain_if false e x f g = g

plain_with : (o : Option ReliableResponse) (e : Entry) → IsPlain e → IsPlain (with_reliable_if o e)
plain_with None e f = f
plain_with (Some answer) e f = plain_if (not e.is_server || not (e.final_status == 0)) e _ f f

plain_replied : (e : Entry) → IsPlain e → (s i st : ℕ) (t g : List ℕ) (now : ℕ) → IsPlain (after_reply s i st t g now e)
plain_replied e f s i st t g now = plain_if (not e.is_server || not (e.final_status == 0)) e _ f (plain_if (is_provisional st) _ _ f (λ x. refl))

plain_offered : (e : Entry) → IsPlain e → (s i : ℕ) (m : Message Start) (now : ℕ) → IsPlain (after_any_reply s i m now e)
plain_offered e f s i m now =
    let o = reliable_response_of s i m (message_text m) now in
    plain_replied (with_reliable_if o e) (plain_with o e f) s i (head_of m).status (message_text m) (head_of m).to_tag now

plain_fired : (o : Option (ℕ × TransactionTimer)) (s : ℕ) (e : Entry) → IsPlain e → IsPlain (after_timer_by o s e)
plain_fired (Some first) s e f = f
plain_fired None s e f = plain_if (is_some (state_retransmission_at e)) _ _ f f

plain_settled : (own : Option ℕ) (e : Entry) → IsPlain e → IsPlain (after_settling own e)
plain_settled None e f = f
plain_settled (Some own) e f = f

module _ (h : List TransactionOp) (e : Entry) (g : Has e (live h)) (f : IsPlain e) where
  -- no response matches it
  answer_if : (b : Bool) (j : ℕ) (x : Entry) → (e.key == j) ≡ b → (e.is_server ≡ true → e.key ≡ j → ⊥) → (x.is_server ≡ true → e.is_server ≡ true) → IsPlain (cond b x e)
  answer_if true j x q n k = λ s. absurd (n (k s) (eqb-true e.key j q))
  answer_if false j x q n k = f

  plain_heard : (p : Peer) (m : Message Start) (now : ℕ) (t : MessageClass) → t ≡ class_of (head_of m) (live h) → IsPlain (change (step_of h) (send_count h) (DidHear p m now t) e)
  plain_heard p m now part.Fresh q = f
  plain_heard p m now part.Full q = f
  plain_heard p m now (part.Repeat j) q = f
  plain_heard p m now (part.RepeatedFinal j) q = f
  plain_heard p m now (part.Answer j) q = answer_if (e.key == j) j (after_response (step_of h) (head_of m).status now e) refl (λ s k. no_response h (head_of m) j e q g s k)
      (λ s. sym ((keeps_answered (step_of h) (head_of m).status now e).server) ∙ s)
  plain_heard p m now (part.Acked j) q = plain_if (e.key == j) (after_failure_ack (step_of h) now e) e (plain_if e.is_acked e _ f f) f
  plain_heard p m now part.AckOf2xx q = plain_if (is_ack_of (head_of m) e) _ e f f
  plain_heard p m now part.Stray q = f

  plain_more : (c : TransactionOp) → IsRun (c ∷ h) → IsPlain (change (step_of h) (send_count h) c e)
  plain_more (DidBegin n) r = f
  plain_more (DidHear p m now t) r = plain_heard p m now t r.0
  plain_more (DidAsk p m now) r = f
  plain_more (DidReply j m now) r = plain_if (e.key == j) (after_any_reply (step_of h) (send_count h) m now e) e (plain_offered e f (step_of h) (send_count h) m now) f
  plain_more (DidAck j m) r = plain_if (e.key == j) (with_kept_ack (message_text m) e) e (plain_if (not e.is_server && e.is_refused) _ e f f) f
  plain_more (DidFire j) r = plain_if (e.key == j) (after_timer (step_of h) e) e (plain_fired (foremost_in e) (step_of h) e f) f
  plain_more (DidSettle j own) r = plain_if (e.key == j) (after_settling own e) e (plain_settled own e f) f

plain_same : (e x : Entry) → e ≡ x → IsPlain x → IsPlain e
plain_same e x q f = subst IsPlain (sym q) f

plain_heard_first : (s k : ℕ) (p : Peer) (m : Message Start) (now : ℕ) (t : MessageClass) (e : Entry) → Has e (opened_on_receipt s k p m now t) → IsPlain e
plain_heard_first s k p m now part.Fresh e (inl q) = plain_same e _ q (λ s. refl)
plain_heard_first s k p m now part.Fresh e (inr f) = absurd f
plain_heard_first s k p m now part.Full e f = absurd f
plain_heard_first s k p m now (part.Repeat j) e f = absurd f
plain_heard_first s k p m now (part.RepeatedFinal j) e f = absurd f
plain_heard_first s k p m now (part.Answer j) e f = absurd f
plain_heard_first s k p m now (part.Acked j) e f = absurd f
plain_heard_first s k p m now part.AckOf2xx e f = absurd f
plain_heard_first s k p m now part.Stray e f = absurd f

plain_first : (s i k : ℕ) (c : TransactionOp) (e : Entry) → Has e (opens s i k c) → IsPlain e
plain_first s i k (DidBegin n) e f = absurd f
plain_first s i k (DidHear p m now t) e f = plain_heard_first s k p m now t e f
plain_first s i k (DidAsk p m now) e (inl q) = plain_same e _ q (λ s. refl)
plain_first s i k (DidAsk p m now) e (inr f) = absurd f
plain_first s i k (DidReply j m now) e f = absurd f
plain_first s i k (DidAck j m) e f = absurd f
plain_first s i k (DidFire j) e f = absurd f
plain_first s i k (DidSettle j own) e f = absurd f

plain : (h : List TransactionOp) → IsRun h → (e : Entry) → Has e (live h) → IsPlain e
plain [] r e g = absurd g
plain (c ∷ h) r e g = elim (has_more_back c h e g) [
  | inl w ↦ plain_same e (change (step_of h) (send_count h) c w.0) w.2 (plain_more h w.0 w.1 (plain h (run_before c h r) w.0 w.1) c r)
  | inr f ↦ plain_first (step_of h) (send_count h) (length (openings h)) c e f
]

refused_is : (o : Option Entry) (e : Entry) → if_refused o ≡ Some e → (o ≡ Some e) × (e.is_refused ≡ true)
refused_is None e q = absurd (none-some e q)
refused_is (Some x) e q = either x.is_refused refl q
  where
    either : (b : Bool) → x.is_refused ≡ b → cond b (Some x) None ≡ Some e → (◌≡◌ {A = Option Entry} (Some x) (Some e)) × (e.is_refused ≡ true)
    either true f p = let w = same_Some x e p in (ap Some w, ap (λ (y : Entry). y.is_refused) (sym w) ∙ f)
    either false f p = absurd (none-some e p)

owner_if : (r a : Bool) (m : Head) (es : List Entry) (o : Option Entry) → r ≡ true → a ≡ true →
    cond (not r) (find (is_client_of m) es) (cond a (if_refused (find (is_server_of m) es)) o) ≡ if_refused (find (is_server_of m) es)
owner_if r a m es o p q = rw (p, q) refl

module _ (h : List TransactionOp) (m : Head) (e : Entry) (run : IsRun h) (request : m.is_request ≡ true) (ack : is_ack m ≡ true) where
  owner_is : matching_entry m (live h) ≡ if_refused (find (is_server_of m) (live h))
  owner_is = owner_if m.is_request (is_ack m) m (live h) (cond (is_cancel m) (find (is_invite_of m) (live h)) (find (is_server_of m) (live h))) request ack

  key_is : key_method m ≡ invite
  key_is = ap (λ b. cond b invite m.method) ack

  belongs_to : matching_entry m (live h) ≡ Some e → IsRefusedInvite m e h
  belongs_to q =
      let w = refused_is (find (is_server_of m) (live h)) e (sym owner_is ∙ q) in
      let v = found_in (is_server_of m) e (live h) w.0 in
      let s = server_of m e v.1 in
      record {
        live = at_key h e v.0;
        server = s.server;
        invite = (bytes_eq-Decides e.head.method invite).1 (s.method ∙ key_is);
        branch = s.branch;
        sent_by = s.sent_by;
        final = sym (plain h run e v.0 s.server) ∙ w.1;
      }

  is_its : IsRefusedInvite m e h → matching_entry m (live h) ≡ Some e
  is_its i =
      let g = (of_key h e.key e i.live).0 in
      let t = of_server m e (record { server = i.server; branch = i.branch; sent_by = i.sent_by; method = (bytes_eq-Decides e.head.method invite).0 i.invite ∙ sym key_is }) in
      let w = finds (is_server_of m) e (live h) g t in
      let x : Entry = w.0 in
      let v = found_in (is_server_of m) x (live h) w.1 in
      let a = server_of m x v.1 in
      let b = server_of m e t in
      let same : x ≡ e = apart h run x e v.0 g (record { first = a.server; second = b.server; branch = a.branch ∙ sym b.branch; sent_by = a.sent_by ∙ sym b.sent_by; method = a.method ∙ sym b.method }) in
      owner_is ∙ (ap if_refused (w.1 ∙ ap Some same) ∙ ap (λ c. cond c (Some e) None) (plain h run e g i.server ∙ i.final))

pub acks_belong : AcksBelong
acks_belong h m e run request ack = (belongs_to h (head_of m) e run request ack, is_its h (head_of m) e run request ack)

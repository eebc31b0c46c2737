-- The ACK of a non-2xx final ends the retransmission of that final, and of no other.
use Rattle.std.proofs.Common.{◌≡◌, ℕ, ◌+◌, List, [], ◌∷◌, length, refl, true, false, Bool, not, ◌&&◌, ◌||◌, inl, inr, sym, ap, ◌∙◌, arith, cond, subst, nat_lt}
use Rattle.std.specs.Prelude.{Option, Some, None, ◌==◌, nat_le, option_map, is_some}
use Rattle.std.specs.List.{find}
use Rattle.std.specs.Str.{bytes_eq}
use Rattle.std.proofs.lemmas.Bool.{and_parts, both_ways, eq-eqb, eqb-true, leb-true, ltb-false, ne_eqb, not-false, not-true, or_parts}
use Rattle.std.proofs.lemmas.Option.{none-some}
use Rattle.mmtel_types.specs.declared.numbers.Peer.{Peer}
use Rattle.mmtel_message.specs.Message.{Message}
use Rattle.mmtel_message.specs.Texts.{message_text}
use Rattle.mmtel_message.specs.declared.messages.Start.{Start}
use Rattle.mmtel_transaction.specs.declared.heads.Head.{Head}
use Rattle.mmtel_transaction.specs.declared.entries.TransactionTimer.{TransactionTimer}
use Rattle.mmtel_transaction.specs.declared.entries.Entry.{Entry}
use Rattle.mmtel_transaction.specs.declared.entries.State.TheVariants as states
use Rattle.mmtel_transaction.specs.declared.entries.ReliableResponse.{ReliableResponse}
use Rattle.mmtel_transaction.specs.declared.message_class.MessageClass.{MessageClass}
use Rattle.mmtel_transaction.specs.declared.message_class.MessageClass.TheVariants as part
use Rattle.mmtel_transaction.specs.Heads.{head_of, is_success, is_ack, is_invite, is_provisional, is_refusal, is_same_call}
use Rattle.mmtel_transaction.specs.Deadlines.{deadline, foremost_in, is_untimed, retransmission_at, state_retransmission_at}
use Rattle.mmtel_transaction.specs.Changes.{after_ack_2xx, after_any_reply, after_failure_ack, after_final, after_provisional, after_reply, after_response}
use Rattle.mmtel_transaction.specs.Changes.{after_settling, after_timer, after_timer_by, change_of_key, is_ack_of, reliable_response_of, with_kept_ack, with_reliable_if}
use Rattle.mmtel_transaction.specs.Operations.{TransactionOp, DidBegin, DidHear, DidAsk, DidReply, DidAck, DidFire, DidSettle, change, opened_on_receipt, is_live, live, send_count, openings, opens, step_of}
use Rattle.mmtel_transaction.specs.Results.{ack_class, after_hear, by_key, class_of, is_client_of, is_full, is_server_of, request_class, response_class}
use Rattle.mmtel_transaction.specs.Runs.{IsRun}
use Rattle.mmtel_transaction.specs.Table.{table_after_change}
use Rattle.mmtel_transaction.specs.Theorems.{EndsRetransmission}
use Rattle.mmtel_transaction.proofs.Foremost.{busy_resend}
use Rattle.mmtel_transaction.proofs.Lists.{keeps_acked, keeps_change}
use Rattle.mmtel_transaction.proofs.Representation.{live_hit}
use Rattle.mmtel_timers.specs.Shelves.{Has}
use Rattle.mmtel_transaction.proofs.Having.{at_key, found_in, has_live, has_more, has_more_back, of_key, run_before, same_entry}

-- which ACKs are classified as one of a non-2xx final
acked_ack : (j : ℕ) (o : Option Entry) → part.Acked j ≡ ack_class o → (e : Entry) × (o ≡ Some e) × (e.is_refused ≡ true) × (j ≡ e.key)
acked_ack j None q = absurd cc
acked_ack j (Some e) q = either e.is_refused refl q
  where
    either : (b : Bool) → e.is_refused ≡ b → part.Acked j ≡ cond b (part.Acked e.key) part.AckOf2xx → (x : Entry) × (◌≡◌ {A = Option Entry} (Some e) (Some x)) × (x.is_refused ≡ true) × (j ≡ x.key)
    either true f p = (e, refl, f, cc)
    either false f p = absurd cc

acked_request : (j : ℕ) (full : Bool) (o : Option Entry) → part.Acked j ≡ request_class full o → ⊥
acked_request j true None q = cc
acked_request j false None q = cc
acked_request j full (Some e) q = cc

acked_response : (j : ℕ) (m : Head) (o : Option Entry) → part.Acked j ≡ response_class m o → ⊥
acked_response j m None q = cc
acked_response j m (Some e) q = either (is_invite e.head && e.is_refused && is_refusal m.status) q
  where
    either : (b : Bool) → part.Acked j ≡ cond b (part.RepeatedFinal e.key) (part.Answer e.key) → ⊥
    either true p = cc
    either false p = cc

acked_if : (j : ℕ) (r a full : Bool) (o x : Option Entry) (m : Head) → part.Acked j ≡ cond r (cond a (ack_class o) (request_class full o)) (response_class m x) →
    (e : Entry) × (o ≡ Some e) × (e.is_refused ≡ true) × (j ≡ e.key)
acked_if j true true full o x m q = acked_ack j o q
acked_if j true false full o x m q = absurd (acked_request j full o q)
acked_if j false a full o x m q = absurd (acked_response j m x q)

pub acked_is : (h : List TransactionOp) (m : Head) (j : ℕ) → part.Acked j ≡ class_of m (live h) → (e : Entry) × Has e (live h) × (e.is_refused ≡ true) × (j ≡ e.key)
acked_is h m j q =
    let w = acked_if j m.is_request (is_ack m) (is_full (live h)) (find (is_server_of m) (live h)) (find (is_client_of m) (live h)) m q in
    (w.0, (found_in (is_server_of m) w.0 (live h) w.1).0, w.2, w.3)

-- what is acknowledged has a final, and in its state waits for its end alone; and what is refused has a final
pub record IsSound (e : Entry) : Type 0 where
  pub busy : e.is_acked ≡ true → is_untimed e.state ≡ false
  pub planned : e.is_acked ≡ true → state_retransmission_at e ≡ None
  pub done : e.is_acked ≡ true → (e.final_status == 0) ≡ false
  pub refused : e.is_refused ≡ true → (e.final_status == 0) ≡ false

-- so it is not retransmitted
pub acked_retransmits_none : (e : Entry) → IsSound e → e.is_acked ≡ true → retransmission_at e ≡ None
acked_retransmits_none e s a = busy_resend e (s.busy a) ∙ s.planned a

sound_if : (b : Bool) (e x : Entry) → (b ≡ true → IsSound e) → (b ≡ false → IsSound x) → IsSound (cond b e x)
sound_if true e x s t = s refl
sound_if false e x s t = t refl

refusal_done : (status : ℕ) → is_refusal status ≡ true → (status == 0) ≡ false
refusal_done status q = ne_eqb status 0 (λ e. absurd (omega (arith, e, leb-true 300 status q)))

success_done : (status : ℕ) → is_success status ≡ true → (status == 0) ≡ false
success_done status q = ne_eqb status 0 (λ e. absurd (omega (arith, e, leb-true 200 status (and_parts (nat_le 200 status) (nat_lt status 300) q).0)))

pub final_done : (status : ℕ) → is_provisional status ≡ false → (status == 0) ≡ false
final_done status q = ne_eqb status 0 (λ e. absurd (omega (arith, e, ltb-false status 200 q)))

module _ (e : Entry) (s : IsSound e) where
  not_acked : (e.final_status == 0) ≡ true → e.is_acked ≡ true → ⊥
  not_acked q a = both_ways (e.final_status == 0) (s.done a) q

  sound_planned : (step : ℕ) (o : Option ℕ) → state_retransmission_at e ≡ o → IsSound (cond (is_some o) (record e { retransmissions = e.retransmissions + 1; step = step }) (record e { is_terminated = true }))
  sound_planned step None q = record { busy = s.busy; planned = s.planned; done = s.done; refused = s.refused }
  sound_planned step (Some a) q = record { busy = s.busy; planned = λ k. absurd (none-some a (sym (s.planned k) ∙ q)); done = s.done; refused = s.refused }

  sound_fired_by : (step : ℕ) (o : Option (ℕ × TransactionTimer)) → IsSound (after_timer_by o step e)
  sound_fired_by step (Some f) = record { busy = s.busy; planned = s.planned; done = s.done; refused = s.refused }
  sound_fired_by step None = sound_planned step (state_retransmission_at e) refl

  sound_fired : (step : ℕ) → IsSound (after_timer step e)
  sound_fired step = sound_fired_by step (foremost_in e)

  sound_settled : (own : Option ℕ) → IsSound (after_settling own e)
  sound_settled None = record { busy = s.busy; planned = s.planned; done = s.done; refused = s.refused }
  sound_settled (Some own) = record { busy = s.busy; planned = s.planned; done = s.done; refused = s.refused }

  sound_with : (o : Option ReliableResponse) → IsSound (with_reliable_if o e)
  sound_with None = s
  sound_with (Some answer) = sound_if (not e.is_server || not (e.final_status == 0)) e _ (λ q. s) (λ q. record { busy = s.busy; planned = s.planned; done = s.done; refused = s.refused })

  undone : (a b : Bool) → (a || not b) ≡ false → b ≡ true
  undone a b q = not-false b (or_parts a (not b) q).1

  sound_replied : (step i status : ℕ) (text tag : List ℕ) (now : ℕ) → IsSound (after_reply step i status text tag now e)
  sound_replied step i status text tag now = sound_if (not e.is_server || not (e.final_status == 0)) e _ (λ q. s) (λ q.
      sound_if (is_provisional status) _ _
      (λ f. record { busy = s.busy; planned = s.planned; done = s.done; refused = s.refused })
      (λ f. record {
        busy = λ k. absurd (not_acked (undone (not e.is_server) (e.final_status == 0) q) k);
        planned = λ k. absurd (not_acked (undone (not e.is_server) (e.final_status == 0) q) k);
        done = λ k. absurd (not_acked (undone (not e.is_server) (e.final_status == 0) q) k);
        refused = refusal_done status;
      }))

  sound_rang : (step now : ℕ) → IsSound (after_provisional step now e)
  sound_rang step now = sound_if (e.is_early || not (e.final_status == 0)) e _ (λ q. s) (λ q. record {
    busy = λ k. absurd (not_acked (undone e.is_early (e.final_status == 0) q) k);
    planned = λ k. absurd (not_acked (undone e.is_early (e.final_status == 0) q) k);
    done = s.done;
    refused = s.refused;
  })

  sound_finished : (step status now : ℕ) → is_provisional status ≡ false → IsSound (after_final step status now e)
  sound_finished step status now p = sound_if (not (is_invite e.head)) _ _
      (λ q. record { busy = s.busy; planned = s.planned; done = s.done; refused = s.refused })
      (λ q. sound_if (not (e.final_status == 0)) _ _
      (λ f. record { busy = s.busy; planned = s.planned; done = s.done; refused = λ k. not-true (e.final_status == 0) f })
      (λ f. record { busy = λ k. refl; planned = λ k. refl; done = λ k. final_done status p; refused = λ k. final_done status p }))

  sound_answered : (step status now : ℕ) → IsSound (after_response step status now e)
  sound_answered step status now = sound_if (is_provisional status) (after_provisional step now e) (after_final step status now e) (λ q. sound_rang step now) (λ q. sound_finished step status now q)

  sound_acked : (step now : ℕ) → e.is_refused ≡ true → IsSound (after_failure_ack step now e)
  sound_acked step now q = sound_if e.is_acked e _ (λ f. s) (λ f. record { busy = λ k. refl; planned = λ k. refl; done = λ k. s.refused q; refused = s.refused })

  pub of_2xx : (m : Head) → is_ack_of m e ≡ true → (e.final_status == 0) ≡ false
  of_2xx m q =
      let a = and_parts (e.is_server && is_invite e.head && is_success e.final_status && not e.is_acked && is_same_call e.head m) (bytes_eq e.to_tag m.to_tag) q in
      let b = and_parts (e.is_server && is_invite e.head && is_success e.final_status && not e.is_acked) (is_same_call e.head m) a.0 in
      let c = and_parts (e.is_server && is_invite e.head && is_success e.final_status) (not e.is_acked) b.0 in
      let d = and_parts (e.is_server && is_invite e.head) (is_success e.final_status) c.0 in
      success_done e.final_status d.1

  sound_acked_2xx : (step : ℕ) (m : Head) → IsSound (after_ack_2xx step m e)
  sound_acked_2xx step m = sound_if (is_ack_of m e) _ e (λ q. record { busy = λ k. refl; planned = λ k. refl; done = λ k. of_2xx m q; refused = s.refused }) (λ q. s)

  sound_kept : (text : List ℕ) → IsSound (with_kept_ack text e)
  sound_kept text = sound_if (not e.is_server && e.is_refused) _ e (λ q. record { busy = s.busy; planned = s.planned; done = s.done; refused = s.refused }) (λ q. s)

sound_offered : (e : Entry) → IsSound e → (step i : ℕ) (m : Message Start) (now : ℕ) → IsSound (after_any_reply step i m now e)
sound_offered e s step i m now =
    let o = reliable_response_of step i m (message_text m) now in
    sound_replied (with_reliable_if o e) (sound_with e s o) step i (head_of m).status (message_text m) (head_of m).to_tag now

module _ (h : List TransactionOp) (e : Entry) (g : Has e (live h)) (s : IsSound e) where
  is_refused_at : (m : Head) (j : ℕ) → part.Acked j ≡ class_of m (live h) → (e.key == j) ≡ true → e.is_refused ≡ true
  is_refused_at m j q k =
      let w = acked_is h m j q in
      let same : w.0 ≡ e = same_entry h w.0 e w.1 g (sym w.3 ∙ sym (eqb-true e.key j k)) in
      ap (λ (x : Entry). x.is_refused) (sym same) ∙ w.2

  sound_heard : (p : Peer) (m : Message Start) (now : ℕ) (t : MessageClass) → t ≡ class_of (head_of m) (live h) → IsSound (change (step_of h) (send_count h) (DidHear p m now t) e)
  sound_heard p m now part.Fresh q = s
  sound_heard p m now part.Full q = s
  sound_heard p m now (part.Repeat j) q = s
  sound_heard p m now (part.RepeatedFinal j) q = s
  sound_heard p m now (part.Answer j) q = sound_if (e.key == j) _ e (λ f. sound_answered e s (step_of h) (head_of m).status now) (λ f. s)
  sound_heard p m now (part.Acked j) q = sound_if (e.key == j) _ e (λ f. sound_acked e s (step_of h) now (is_refused_at (head_of m) j q f)) (λ f. s)
  sound_heard p m now part.AckOf2xx q = sound_acked_2xx e s (step_of h) (head_of m)
  sound_heard p m now part.Stray q = s

  sound_more : (c : TransactionOp) → IsRun (c ∷ h) → IsSound (change (step_of h) (send_count h) c e)
  sound_more (DidBegin n) r = s
  sound_more (DidHear p m now t) r = sound_heard p m now t r.0
  sound_more (DidAsk p m now) r = s
  sound_more (DidReply j m now) r = sound_if (e.key == j) _ e (λ f. sound_offered e s (step_of h) (send_count h) m now) (λ f. s)
  sound_more (DidAck j m) r = sound_if (e.key == j) _ e (λ f. sound_kept e s (message_text m)) (λ f. s)
  sound_more (DidFire j) r = sound_if (e.key == j) _ e (λ f. sound_fired e s (step_of h)) (λ f. s)
  sound_more (DidSettle j own) r = sound_if (e.key == j) _ e (λ f. sound_settled e s own) (λ f. s)

sound_same : (e x : Entry) → e ≡ x → IsSound x → IsSound e
sound_same e x q s = subst IsSound (sym q) s

sound_news_heard : (s k : ℕ) (p : Peer) (m : Message Start) (now : ℕ) (t : MessageClass) (e : Entry) → Has e (opened_on_receipt s k p m now t) → IsSound e
sound_news_heard s k p m now part.Fresh e (inl q) = sound_same e _ q (record { busy = λ f. absurd cc; planned = λ f. absurd cc; done = λ f. absurd cc; refused = λ f. absurd cc })
sound_news_heard s k p m now part.Fresh e (inr f) = absurd f
sound_news_heard s k p m now part.Full e f = absurd f
sound_news_heard s k p m now (part.Repeat j) e f = absurd f
sound_news_heard s k p m now (part.RepeatedFinal j) e f = absurd f
sound_news_heard s k p m now (part.Answer j) e f = absurd f
sound_news_heard s k p m now (part.Acked j) e f = absurd f
sound_news_heard s k p m now part.AckOf2xx e f = absurd f
sound_news_heard s k p m now part.Stray e f = absurd f

sound_news : (s i k : ℕ) (c : TransactionOp) (e : Entry) → Has e (opens s i k c) → IsSound e
sound_news s i k (DidBegin n) e f = absurd f
sound_news s i k (DidHear p m now t) e f = sound_news_heard s k p m now t e f
sound_news s i k (DidAsk p m now) e (inl q) = sound_same e _ q (record { busy = λ f. absurd cc; planned = λ f. absurd cc; done = λ f. absurd cc; refused = λ f. absurd cc })
sound_news s i k (DidAsk p m now) e (inr f) = absurd f
sound_news s i k (DidReply j m now) e f = absurd f
sound_news s i k (DidAck j m) e f = absurd f
sound_news s i k (DidFire j) e f = absurd f
sound_news s i k (DidSettle j own) e f = absurd f

pub sound : (h : List TransactionOp) → IsRun h → (e : Entry) → Has e (live h) → IsSound e
sound [] r e g = absurd g
sound (c ∷ h) r e g = elim (has_more_back c h e g) [
  | inl w ↦ sound_same e (change (step_of h) (send_count h) c w.0) w.2 (sound_more h w.0 w.1 (sound h (run_before c h r) w.0 w.1) c r)
  | inr f ↦ sound_news (step_of h) (send_count h) (length (openings h)) c e f
]

-- every other transaction is found as before
other_if : (t l : Bool) (j : ℕ) (e x : Entry) (es fs : List Entry) → (t ≡ true → (e.key == j) ≡ false) → x.key ≡ e.key → by_key j fs ≡ by_key j es → by_key j (cond t (cond l (x ∷ es) es) (e ∷ fs)) ≡ by_key j (e ∷ es)
other_if true true j e x es fs n k q = rw (k, n refl) refl
other_if true false j e x es fs n k q = rw (n refl) refl
other_if false l j e x es fs n k q = ap (λ o. cond (e.key == j) (Some e) o) q

by_other : (k j : ℕ) (f : Entry → Entry) (es : List Entry) → (j ≡ k → ⊥) → ((e : Entry) → (f e).key ≡ e.key) → by_key j (table_after_change k f es) ≡ by_key j es
by_other k j f [] n q = refl
by_other k j f (e ∷ es) n q = other_if (e.key == k) (is_live (f e)) j e (f e) es (table_after_change k f es) (λ t. ne_eqb e.key j (λ s. n (sym s ∙ eqb-true e.key k t))) (q e) (by_other k j f es n q)

module _ (h : List TransactionOp) (p : Peer) (m : Message Start) (now key : ℕ) (r : IsRun h) (q : part.Acked key ≡ class_of (head_of m) (live h)) where
  abbrev call : TransactionOp
  call = DidHear p m now (part.Acked key)

  its : (e : Entry) × Has e (live h) × (e.is_refused ≡ true) × (key ≡ e.key)
  its = acked_is h (head_of m) key q

  acked_live : (e : Entry) → is_live e ≡ true → is_live (after_failure_ack (step_of h) now e) ≡ true
  acked_live e l = either e.is_acked
    where
      either : (b : Bool) → is_live (cond b e (record e { is_acked = true; state = states.Confirmed; start = now; retransmissions = 0; step = step_of h })) ≡ true
      either true = l
      either false = l

  is_hit : (e : Entry) → key ≡ e.key → change_of_key key (after_failure_ack (step_of h) now) e ≡ after_failure_ack (step_of h) now e
  is_hit e k = ap (λ b. cond b (after_failure_ack (step_of h) now e) e) (eq-eqb e.key key (sym k))

  found_after : (e : Entry) → Has e (live h) → key ≡ e.key → by_key key (live (call ∷ h)) ≡ Some (after_failure_ack (step_of h) now e)
  found_after e g k =
      let x : Entry = change_of_key key (after_failure_ack (step_of h) now) e in
      let same : x ≡ after_failure_ack (step_of h) now e = is_hit e k in
      let l : is_live x ≡ true = ap is_live same ∙ acked_live e (has_live h e g) in
      let i : x.key ≡ key = (keeps_change (step_of h) (send_count h) call e).key ∙ sym k in
      subst (λ j. by_key j (live (call ∷ h)) ≡ Some x) i (at_key (call ∷ h) x (has_more call h e g l)) ∙ ap Some same

  not_again : (e : Entry) → IsSound e → e.is_refused ≡ true → retransmission_at (after_failure_ack (step_of h) now e) ≡ None
  not_again e s f = either e.is_acked refl
    where
      either : (b : Bool) → e.is_acked ≡ b → retransmission_at (cond b e (record e { is_acked = true; state = states.Confirmed; start = now; retransmissions = 0; step = step_of h })) ≡ None
      either true a = acked_retransmits_none e s a
      either false a = refl

  ends_at : (e : Entry) → e.is_acked ≡ false → deadline (after_failure_ack (step_of h) now e) ≡ Some (now + 5000)
  ends_at e a = ap (λ b. deadline (cond b e (record e { is_acked = true; state = states.Confirmed; start = now; retransmissions = 0; step = step_of h }))) a

  ends_resends : EndsRetransmission key now (live h) (live (call ∷ h))
  ends_resends =
      let w = its in
      let e : Entry = w.0 in
      let at = found_after e w.1 w.3 in
      record {
        ended = ap (option_map retransmission_at) at ∙ ap Some (not_again e (sound h r e w.1) w.2);
        end = λ x f a.
            let v = of_key h key x f in
            let same : e ≡ x = same_entry h e x w.1 v.0 (sym w.3 ∙ sym v.1) in
            ap (option_map deadline) at ∙ ap Some (ends_at e (ap (λ (y : Entry). y.is_acked) same ∙ a));
        others = λ j d. ap (by_key j) (live_hit call h key (after_failure_ack (step_of h) now) (λ y. refl) refl) ∙ by_other key j (after_failure_ack (step_of h) now) (live h) d (λ y. (keeps_acked (step_of h) now y).key);
      }

pub acks_end : (h : List TransactionOp) (p : Peer) (m : Message Start) (now key : ℕ) → IsRun h → class_of (head_of m) (live h) ≡ part.Acked key → EndsRetransmission key now (live h) (live (after_hear h p m now))
acks_end h p m now key r q = subst (λ t. EndsRetransmission key now (live h) (live (DidHear p m now t ∷ h))) (sym q) (ends_resends h p m now key r (sym q))

-- What has ended is never live again, and a deadline that ends a transaction ends it.
use Rattle.std.proofs.Common.{◌≡◌, ℕ, ◌≤◌, ◌<◌, List, [], ◌∷◌, ◌++◌, length, refl, true, false, Bool, inl, inr, sym, ap, ◌∙◌, arith, cond, length-append}
use Rattle.std.specs.Prelude.{Option, Some, None, is_some}
use Rattle.std.proofs.lemmas.Bool.{both_ways, eq-eqb}
use Rattle.std.proofs.lemmas.Option.{none-some}
use Rattle.mmtel_types.specs.declared.numbers.Peer.{Peer}
use Rattle.mmtel_message.specs.Message.{Message}
use Rattle.mmtel_message.specs.declared.messages.Start.{Start}
use Rattle.mmtel_transaction.specs.declared.entries.Entry.{Entry}
use Rattle.mmtel_transaction.specs.declared.message_class.MessageClass.{MessageClass}
use Rattle.mmtel_transaction.specs.declared.message_class.MessageClass.TheVariants as part
use Rattle.mmtel_transaction.specs.declared.words.Due.TheVariants as due
use Rattle.mmtel_transaction.specs.Deadlines.{is_ending, retransmission_at}
use Rattle.mmtel_transaction.specs.Changes.{after_timer, change_of_key}
use Rattle.mmtel_transaction.specs.Operations.{TransactionOp, DidBegin, DidHear, DidAsk, DidReply, DidAck, DidFire, DidSettle, opened_on_receipt, is_live, live, send_count, openings, opens, step_of}
use Rattle.mmtel_transaction.specs.Results.{DueEntryView, after_firing, by_key, due_result, is_of, next_due, retransmitted_text, tkey}
use Rattle.mmtel_transaction.specs.Theorems.{IsLast, LastOnesEnd, WhatEndedStays}
use Rattle.mmtel_transaction.proofs.Foremost.{fired_over}
use Rattle.mmtel_transaction.proofs.Lists.{keeps_change}
use Rattle.mmtel_timers.specs.Shelves.{Has}
use Rattle.mmtel_transaction.proofs.Having.{finds, has_live, has_more_back, of_key, same_entry}
use Rattle.mmtel_transaction.proofs.Order.{is_next}

pub none_of : (o : Option Entry) → ((e : Entry) → o ≡ Some e → ⊥) → o ≡ None
none_of None f = refl
none_of (Some e) f = absurd (f e refl)

heard_key : (s k : ℕ) (p : Peer) (m : Message Start) (now : ℕ) (t : MessageClass) (e : Entry) → Has e (opened_on_receipt s k p m now t) → e.key ≡ k
heard_key s k p m now part.Fresh e (inl q) = ap (λ (x : Entry). x.key) q
heard_key s k p m now part.Fresh e (inr f) = absurd f
heard_key s k p m now part.Full e f = absurd f
heard_key s k p m now (part.Repeat j) e f = absurd f
heard_key s k p m now (part.RepeatedFinal j) e f = absurd f
heard_key s k p m now (part.Answer j) e f = absurd f
heard_key s k p m now (part.Acked j) e f = absurd f
heard_key s k p m now part.AckOf2xx e f = absurd f
heard_key s k p m now part.Stray e f = absurd f

pub news_key : (s i k : ℕ) (c : TransactionOp) (e : Entry) → Has e (opens s i k c) → e.key ≡ k
news_key s i k (DidBegin n) e f = absurd f
news_key s i k (DidHear p m now t) e f = heard_key s k p m now t e f
news_key s i k (DidAsk p m now) e (inl q) = ap (λ (x : Entry). x.key) q
news_key s i k (DidAsk p m now) e (inr f) = absurd f
news_key s i k (DidReply j m now) e f = absurd f
news_key s i k (DidAck j m) e f = absurd f
news_key s i k (DidFire j) e f = absurd f
news_key s i k (DidSettle j own) e f = absurd f

pub more_opened : (h g : List TransactionOp) → length (openings h) ≤ length (openings (g ++ h))
more_opened h [] = omega arith
more_opened h (c ∷ g) = omega (arith, more_opened h g, length-append (openings (g ++ h)) (opens (step_of (g ++ h)) (send_count (g ++ h)) (length (openings (g ++ h))) c))

pub still_ended : (c : TransactionOp) (h : List TransactionOp) (key : ℕ) → key < length (openings h) → by_key key (live h) ≡ None → by_key key (live (c ∷ h)) ≡ None
still_ended c h key l n = none_of (by_key key (live (c ∷ h))) (λ e q.
    let v = of_key (c ∷ h) key e q in
    elim (has_more_back c h e v.0) [
      | inl w ↦
          let x : Entry = w.0 in
          let k : x.key ≡ key = sym ((keeps_change (step_of h) (send_count h) c x).key) ∙ (ap (λ (y : Entry). y.key) (sym w.2) ∙ v.1) in
          let y = finds (is_of key) x (live h) w.1 (eq-eqb x.key key k) in
          none-some y.0 (sym n ∙ y.1)
      | inr f ↦ absurd (omega (arith, l, v.1, news_key (step_of h) (send_count h) (length (openings h)) c e f))
    ])

pub stays_ended : WhatEndedStays
stays_ended h [] key l n = n
stays_ended h (c ∷ g) key l n = still_ended c (g ++ h) key (omega (arith, l, more_opened h g)) (stays_ended h g key l n)

-- a deadline that is reported as the last one ends its transaction
last_is : (key : ℕ) (n : DueEntryView) → IsLast key (due_result (Some n)) → (retransmission_at n.entry ≡ None) × (n.entry.key ≡ key)
last_is key n q = either (retransmission_at n.entry) refl (is_ending n.entry.state) q
  where
    either : (o : Option ℕ) → retransmission_at n.entry ≡ o → (b : Bool) →
        IsLast key (cond (is_some o) (due.Again n.entry.peer n.at (retransmitted_text n.entry)) (cond b (due.Over (tkey n.entry.key) n.at) (due.Silent (tkey n.entry.key) n.entry.head.branch n.entry.head.method n.at))) →
        (retransmission_at n.entry ≡ None) × (n.entry.key ≡ key)
    either None f true p = (f, p)
    either None f false p = (f, p)
    either (Some a) f b p = absurd p

over_is : (step : ℕ) (e : Entry) → retransmission_at e ≡ None → is_live (after_timer step e) ≡ false
over_is step e q = ap is_live (fired_over e step q)

last_ends : (h : List TransactionOp) (now key : ℕ) (n : DueEntryView) → next_due now (live h) ≡ Some n → IsLast key (due_result (Some n)) → by_key key (live (DidFire n.entry.key ∷ h)) ≡ None
last_ends h now key n q l = none_of (by_key key (live (DidFire n.entry.key ∷ h))) (λ e f.
    let v = of_key (DidFire n.entry.key ∷ h) key e f in
    let a = last_is key n l in
    elim (has_more_back (DidFire n.entry.key) h e v.0) [
      | inl w ↦
          let x : Entry = w.0 in
          let k : x.key ≡ n.entry.key = sym ((keeps_change (step_of h) (send_count h) (DidFire n.entry.key) x).key) ∙ (ap (λ (y : Entry). y.key) (sym w.2) ∙ (v.1 ∙ sym a.1)) in
          let same : x ≡ n.entry = same_entry h x n.entry w.1 (is_next now (live h) n q).stands k in
          let hits : change_of_key n.entry.key (after_timer (step_of h)) x ≡ after_timer (step_of h) x = ap (λ b. cond b (after_timer (step_of h) x) x) (eq-eqb x.key n.entry.key k) in
          both_ways (is_live e) (ap is_live (w.2 ∙ hits) ∙ over_is (step_of h) x (ap retransmission_at same ∙ a.0)) (has_live (DidFire n.entry.key ∷ h) e v.0)
      | inr f ↦ f
    ])

pub last_ones : LastOnesEnd
last_ones h now key q = either (next_due now (live h)) refl q
  where
    either : (o : Option DueEntryView) → next_due now (live h) ≡ o → IsLast key (due_result o) → by_key key (live (after_firing h o)) ≡ None
    either None f p = absurd p
    either (Some n) f p = last_ends h now key n f p

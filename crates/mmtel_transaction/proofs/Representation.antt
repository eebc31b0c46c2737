-- What the transactions represent after one more operation.
use Rattle.std.proofs.Common.{◌≡◌, ℕ, ◌+◌, ◌-◌, ◌<◌, ◌^◌, List, [], ◌∷◌, ◌++◌, length, refl, true, false, Bool, sym, ap, ◌∙◌, arith, map, cond, subst, append-nil, length-append, inl, inr}
use Rattle.std.specs.Prelude.{Option, Some, filter, IfOk, min, Result, Ok, Err}
use Rattle.std.proofs.Math.Nat.{min-eq_left, min-eq_right}
use Rattle.std.proofs.lemmas.Bool.{cases_lt}
use Rattle.mmtel_types.specs.declared.numbers.Peer.{Peer}
use Rattle.mmtel_message.specs.Message.{Message}
use Rattle.mmtel_message.specs.Texts.{message_text}
use Rattle.mmtel_message.specs.declared.messages.Start.{Start}
use Rattle.mmtel_transaction.specs.Heads.{head_of}
use Rattle.mmtel_transaction.specs.declared.heads.Head.{Head}
use Rattle.mmtel_transaction.specs.declared.entries.Change.{Change}
use Rattle.mmtel_transaction.specs.declared.entries.Entry.{Entry}
use Rattle.mmtel_transaction.specs.declared.entries.State.TheVariants.{Absorbing}
use Rattle.mmtel_transaction.specs.declared.entries.ReliableResponse.{ReliableResponse}
use Rattle.mmtel_transaction.specs.declared.message_class.MessageClass.{MessageClass}
use Rattle.mmtel_transaction.specs.declared.message_class.MessageClass.TheVariants as part
use Rattle.mmtel_transaction.specs.declared.tables.DueEntry.{DueEntry}
use Rattle.mmtel_transaction.specs.declared.words.Due.{Due}
use Rattle.mmtel_transaction.specs.declared.words.Heard.{Heard}
use Rattle.mmtel_transaction.specs.declared.words.HearFault.{HearFault}
use Rattle.mmtel_transaction.specs.declared.words.TKey.{TKey}
use Rattle.mmtel_transaction.specs.declared.transactions.Transactions.{Transactions}
use Rattle.mmtel_transaction.specs.Changes.{reliable_response_of, after_timer, change_of_key, after_ack_2xx, is_ack_of, after_any_reply, after_reply, with_reliable_if}
use Rattle.mmtel_transaction.specs.Operations.{TransactionOp, DidHear, DidFire, DidReply, send_count, step_of, opens, openings, live, is_live, change, entry_of}
use Rattle.mmtel_transaction.specs.Results.{next_due, after_firing, hear_result, after_hear, class_of, class_result, due_result, opening_result}
use Rattle.mmtel_transaction.specs.Runs.{IsRun}
use Rattle.mmtel_transaction.specs.Table.{HearsAs, change_effect, table_after_change, due_entry_view}
use Rattle.mmtel_transaction.specs.Represents.{HasCapacity, MayOpen, Represents}
use Rattle.mmtel_transaction.proofs.Lists.{AllLive, all_live, keeps_with, live_more, Rising, rising, settles_one, settled_twice}

map_as : (f g : Entry → Entry) (es : List Entry) → ((e : Entry) → f e ≡ g e) → map f es ≡ map g es
map_as f g [] q = refl
map_as f g (e ∷ es) q = rw (q e, map_as f g es q) refl

all_kept : (f : Entry → Entry) (es : List Entry) → ((e : Entry) → f e ≡ e) → AllLive es → filter is_live (map f es) ≡ es
all_kept f [] q a = refl
all_kept f (e ∷ es) q a = rw (q e, a.0, all_kept f es q a.1) refl

-- an operation that changes the transaction of one key
pub live_hit : (c : TransactionOp) (h : List TransactionOp) (k : ℕ) (f : Entry → Entry) → ((e : Entry) → change (step_of h) (send_count h) c e ≡ change_of_key k f e) →
    opens (step_of h) (send_count h) (length (openings h)) c ≡ [] → live (c ∷ h) ≡ table_after_change k f (live h)
live_hit c h k f q o = live_more c h ∙ (ap (λ xs. filter is_live (map (change (step_of h) (send_count h) c) (live h)) ++ xs) o ∙ (append-nil _
    ∙ (ap (filter is_live) (map_as (change (step_of h) (send_count h) c) (change_of_key k f) (live h) q) ∙ settles_one k 0 f (live h) (length (openings h)) (rising h) (all_live (map (entry_of h) (openings h))))))

-- an operation that changes nothing, except for what it opens
pub live_new : (c : TransactionOp) (h : List TransactionOp) → ((e : Entry) → change (step_of h) (send_count h) c e ≡ e) → live (c ∷ h) ≡ live h ++ opens (step_of h) (send_count h) (length (openings h)) c
live_new c h q = live_more c h ∙ ap (λ xs. xs ++ opens (step_of h) (send_count h) (length (openings h)) c) (all_kept (change (step_of h) (send_count h) c) (live h) q (all_live (map (entry_of h) (openings h))))

none_opened : (c : TransactionOp) (h : List TransactionOp) → opens (step_of h) (send_count h) (length (openings h)) c ≡ [] → length (openings (c ∷ h)) ≡ length (openings h)
none_opened c h o = ap length (ap (λ xs. openings h ++ xs) o ∙ append-nil (openings h))

-- the count of what was opened, and the number that is drawn from it
abbrev pub kept_count : ℕ → ℕ
kept_count n = min n (2 ^ 64 - 1)

one_more : (n : ℕ) → min (kept_count n + 1) (2 ^ 64 - 1) ≡ kept_count (n + 1)
one_more n = elim (cases_lt n (2 ^ 64 - 1)) [
  | inl l ↦ ap (λ x. min (x + 1) (2 ^ 64 - 1)) (min-eq_left {n = n} {m = 2 ^ 64 - 1} (omega (arith, l)))
  | inr l ↦ ap (λ x. min (x + 1) (2 ^ 64 - 1)) (min-eq_right {n = 2 ^ 64 - 1} {m = n} l)
      ∙ (min-eq_right {n = 2 ^ 64 - 1} {m = 2 ^ 64 - 1 + 1} (omega arith) ∙ sym (min-eq_right {n = 2 ^ 64 - 1} {m = n + 1} (omega (arith, l))))
]

pub kept_few : (n : ℕ) → n < 2 ^ 64 → kept_count n ≡ n
kept_few n l = min-eq_left {n = n} {m = 2 ^ 64 - 1} (omega (arith, l))

module _ (c : TransactionOp) (h : List TransactionOp) (old new : Transactions) (st : Represents old h) (run : IsRun (c ∷ h)) (offered : new.send_count ≡ send_count (c ∷ h)) where
  pub stands_hit : (k : ℕ) (F : ℕ → ℕ → Entry → Entry) → new.step ≡ old.step → new.next ≡ old.next →
      new.entries ≡ table_after_change k (F old.step old.send_count) old.entries → step_of (c ∷ h) ≡ step_of h → opens (step_of h) (send_count h) (length (openings h)) c ≡ [] →
      ((e : Entry) → change (step_of h) (send_count h) c e ≡ change_of_key k (F (step_of h) (send_count h)) e) → Represents new (c ∷ h)
  stands_hit k F step next items same o q = record {
    step = step ∙ (st.step ∙ sym same);
    send_count = offered;
    next = next ∙ (st.next ∙ ap kept_count (sym (none_opened c h o)));
    entries = items ∙ (ap (table_after_change k (F old.step old.send_count)) st.entries
        ∙ (ap (λ s. table_after_change k (F s old.send_count) (live h)) st.step ∙ (ap (λ i. table_after_change k (F (step_of h) i) (live h)) st.send_count ∙ sym (live_hit c h k (F (step_of h) (send_count h)) q o))));
    run = run;
  }

  pub stands_same : new.step ≡ step_of (c ∷ h) → new.next ≡ old.next → new.entries ≡ old.entries → opens (step_of h) (send_count h) (length (openings h)) c ≡ [] →
      ((e : Entry) → change (step_of h) (send_count h) c e ≡ e) → Represents new (c ∷ h)
  stands_same step next items o q = record {
    step = step;
    send_count = offered;
    next = next ∙ (st.next ∙ ap kept_count (sym (none_opened c h o)));
    entries = items ∙ (st.entries ∙ sym (live_new c h q ∙ (ap (λ xs. live h ++ xs) o ∙ append-nil (live h))));
    run = run;
  }

-- a response that is sent: it is kept where it is reliable, and then it is sent as every other one
module _ (old mid new : Transactions) (h : List TransactionOp) (key now : ℕ) (m : Message Start) (answer : Option ReliableResponse) (change : Change) (st : Represents old h)
    (kept : mid ≡ record old { entries = map (change_of_key key (with_reliable_if answer)) old.entries }) (reliable : answer ≡ reliable_response_of old.step old.send_count m (message_text m) now)
    (made_so : change_effect change ≡ after_reply mid.step mid.send_count (head_of m).status (message_text m) (head_of m).to_tag now) where
  as_offered : table_after_change key (change_effect change) mid.entries ≡ table_after_change key (after_any_reply old.step old.send_count m now) old.entries
  as_offered =
      let F : ℕ → ℕ → Entry → Entry = λ s i. after_reply s i (head_of m).status (message_text m) (head_of m).to_tag now in
      let r : Rising 0 old.entries (length (openings h)) = subst (λ es. Rising 0 es (length (openings h))) (sym st.entries) (rising h) in
      ap (λ f. table_after_change key f mid.entries) made_so
      ∙ (ap (λ (t : Transactions). table_after_change key (F t.step t.send_count) t.entries) kept
      ∙ (settled_twice key 0 (with_reliable_if answer) (F old.step old.send_count) old.entries (length (openings h)) (λ e. (keeps_with answer e).key) r
      ∙ ap (λ a. table_after_change key (λ e. F old.step old.send_count (with_reliable_if a e)) old.entries) reliable))

  pub stands_replied : new.step ≡ mid.step → new.next ≡ mid.next → new.send_count ≡ min (mid.send_count + 1) (2 ^ 128 - 1) → new.entries ≡ table_after_change key (change_effect change) mid.entries →
      Represents new (DidReply key m now ∷ h)
  stands_replied step next offers entries =
      stands_hit (DidReply key m now) h old new st st.run (offers ∙ (ap (λ (t : Transactions). min (t.send_count + 1) (2 ^ 128 - 1)) kept ∙ ap (λ n. min (n + 1) (2 ^ 128 - 1)) st.send_count)) key
      (λ s i. after_any_reply s i m now)
      (step ∙ ap (λ (t : Transactions). t.step) kept) (next ∙ ap (λ (t : Transactions). t.next) kept) (entries ∙ as_offered) refl refl (λ e. refl)

length_both : (xs ys : List Entry) → length (xs ++ ys) ≡ length xs + length ys
length_both xs ys = length-append xs ys

-- an operation that opens a transaction
pub represents_open : (c : TransactionOp) (h : List TransactionOp) (old new : Transactions) (N : ℕ → ℕ → ℕ → Entry) → Represents old h → HasCapacity h → IsRun (c ∷ h) →
    new.send_count ≡ send_count (c ∷ h) → new.next ≡ min (old.next + 1) (2 ^ 64 - 1) → new.step ≡ old.step → new.entries ≡ old.entries ++ N old.step old.send_count old.next ∷ [] →
    step_of (c ∷ h) ≡ step_of h → opens (step_of h) (send_count h) (length (openings h)) c ≡ N (step_of h) (send_count h) (length (openings h)) ∷ [] →
    ((e : Entry) → change (step_of h) (send_count h) c e ≡ e) → Represents new (c ∷ h)
represents_open c h old new N st room run offered next step items same o q =
    let key : old.next ≡ length (openings h) = st.next ∙ kept_few (length (openings h)) room in
    record {
      step = step ∙ (st.step ∙ sym same);
      send_count = offered;
      next = next ∙ (ap (λ n. min (n + 1) (2 ^ 64 - 1)) st.next
          ∙ (one_more (length (openings h)) ∙ ap kept_count (sym (length_both (openings h) (opens (step_of h) (send_count h) (length (openings h)) c) ∙ ap (λ xs. length (openings h) + length xs) o))));
      entries = items ∙ (ap (λ xs. xs ++ N old.step old.send_count old.next ∷ []) st.entries ∙ (ap (λ s. live h ++ N s old.send_count old.next ∷ []) st.step
          ∙ (ap (λ i. live h ++ N (step_of h) i old.next ∷ []) st.send_count ∙ (ap (λ k. live h ++ N (step_of h) (send_count h) k ∷ []) key ∙ sym (live_new c h q ∙ ap (λ xs. live h ++ xs) o)))));
      run = run;
    }

-- the INVITE matters to a CANCEL alone
pub cancels : (b : Bool) (k : ℕ) (i j : Option TKey) (m : Message Start) → (b ≡ true → i ≡ j) → opening_result b k i m ≡ opening_result b k j m
cancels true k i j m q = ap (λ o. opening_result true k o m) (q refl)
cancels false k i j m q = refl

-- the ACK of a 2xx
ack_live : (s : ℕ) (m : Head) (e : Entry) → is_live e ≡ true → is_live (after_ack_2xx s m e) ≡ true
ack_live s m e l = either (is_ack_of m e)
  where
    either : (b : Bool) → is_live (cond b (record e { is_acked = true; state = Absorbing; step = s }) e) ≡ true
    either true = l
    either false = l

all_acked : (s : ℕ) (m : Head) (es : List Entry) → AllLive es → filter is_live (map (after_ack_2xx s m) es) ≡ map (after_ack_2xx s m) es
all_acked s m [] a = refl
all_acked s m (e ∷ es) a = rw (ack_live s m e a.0, all_acked s m es a.1) refl

pub represents_acked : (p : Peer) (now : ℕ) (m : Message Start) (h : List TransactionOp) (old new : Transactions) → Represents old h → part.AckOf2xx ≡ class_of (head_of m) (live h) →
    new.send_count ≡ old.send_count → new.next ≡ old.next → new.step ≡ old.step → new.entries ≡ map (after_ack_2xx old.step (head_of m)) old.entries →
    Represents new (DidHear p m now part.AckOf2xx ∷ h)
represents_acked p now m h old new st taken offered next step items = record {
  step = step ∙ st.step;
  send_count = offered ∙ st.send_count;
  next = next ∙ (st.next ∙ ap kept_count (sym (none_opened (DidHear p m now part.AckOf2xx) h refl)));
  entries = items ∙ (ap (map (after_ack_2xx old.step (head_of m))) st.entries ∙ (ap (λ s. map (after_ack_2xx s (head_of m)) (live h)) st.step
      ∙ sym (live_more (DidHear p m now part.AckOf2xx) h ∙ (append-nil _ ∙ all_acked (step_of h) (head_of m) (live h) (all_live (map (entry_of h) (openings h)))))));
  run = (taken, st.run);
}

-- a deadline that fired
pub fired_done : (old new : Transactions) (h : List TransactionOp) (now : ℕ) (f : DueEntry) (said : Due) → Represents old h → Some (due_entry_view f) ≡ next_due now old.entries →
    new.send_count ≡ old.send_count → new.step ≡ old.step → new.next ≡ old.next → new.entries ≡ table_after_change f.transaction.now.key (after_timer old.step) old.entries →
    said ≡ due_result (Some (due_entry_view f)) → Represents new (after_firing h (next_due now (live h))) × (said ≡ due_result (next_due now (live h)))
fired_done old new h now f said st found offered step next items says =
    let e : Some (due_entry_view f) ≡ next_due now (live h) = found ∙ ap (next_due now) st.entries in (
      subst (λ o. Represents new (after_firing h o)) e (stands_hit (DidFire f.transaction.now.key) h old new st (record { now = now; next = due_entry_view f; first = sym e; same = refl }, st.run)
          (offered ∙ st.send_count) f.transaction.now.key (λ s i. after_timer s) step next items refl refl (λ x. refl)),
      says ∙ ap due_result e,
    )

-- a message that was received with the class that it has
pub heard_done : (old new : Transactions) (p : Peer) (m : Message Start) (now at : ℕ) (head : Head) (taken : MessageClass) (r : Result Heard HearFault) → head ≡ head_of m →
    taken ≡ class_of head old.entries → at ≡ now → (head ≡ head_of m → IfOk r (λ said. (h : List TransactionOp) → HasCapacity h → HearsAs old new p m at taken said h)) →
    IfOk r (λ said. MayOpen old new (λ h. after_hear h p m now) (λ h. Some said ≡ hear_result h p m))
heard_done old new p m now at head taken (Err fault) is part_is at_is done = tt
heard_done old new p m now at head taken (Ok said) is part_is at_is done = λ h st room.
    let q : taken ≡ class_of (head_of m) (live h) = part_is ∙ (ap (λ x. class_of x old.entries) is ∙ ap (class_of (head_of m)) st.entries) in
    let w = done is h room st q in (
      subst (λ t. Represents new (DidHear p m now t ∷ h)) q (subst (λ n. Represents new (DidHear p m n taken ∷ h)) at_is w.0),
      w.1 ∙ ap (class_result (length (openings h)) (live h) p m) q,
    )

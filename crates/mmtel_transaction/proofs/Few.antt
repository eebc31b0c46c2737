-- How many transactions are opened, and their numbers.
use Rattle.std.proofs.Common.{◌≡◌, ℕ, zero, suc, ◌+◌, ◌≤◌, List, [], ◌∷◌, ◌++◌, length, refl, sym, ap, arith, length-append}
use Rattle.std.specs.Prelude.{Some, slice_get}
use Rattle.std.proofs.lemmas.Option.{none-some, same_Some}
use Rattle.mmtel_types.specs.declared.numbers.Peer.{Peer}
use Rattle.mmtel_message.specs.Message.{Message}
use Rattle.mmtel_message.specs.declared.messages.Start.{Start}
use Rattle.mmtel_transaction.specs.declared.entries.Entry.{Entry}
use Rattle.mmtel_transaction.specs.declared.message_class.MessageClass.{MessageClass}
use Rattle.mmtel_transaction.specs.declared.message_class.MessageClass.TheVariants as part
use Rattle.mmtel_transaction.specs.Operations.{TransactionOp, DidBegin, DidHear, DidAsk, DidReply, DidAck, DidFire, DidSettle, opened_on_receipt, live, send_count, openings, opens, step_of}
use Rattle.mmtel_transaction.specs.Theorems.{CapacityRemains, FewAreOpened, NumbersCount, NumbersDiffer}
use Rattle.mmtel_transaction.proofs.Lists.{Rising, rising}

few_heard : (s k : ℕ) (p : Peer) (m : Message Start) (now : ℕ) (t : MessageClass) → length (opened_on_receipt s k p m now t) ≤ 1
few_heard s k p m now part.Fresh = omega arith
few_heard s k p m now part.Full = omega arith
few_heard s k p m now (part.Repeat j) = omega arith
few_heard s k p m now (part.RepeatedFinal j) = omega arith
few_heard s k p m now (part.Answer j) = omega arith
few_heard s k p m now (part.Acked j) = omega arith
few_heard s k p m now part.AckOf2xx = omega arith
few_heard s k p m now part.Stray = omega arith

more : (c : TransactionOp) (h : List TransactionOp) → length (openings (c ∷ h)) ≡ length (openings h) + length (opens (step_of h) (send_count h) (length (openings h)) c)
more c h = length-append (openings h) (opens (step_of h) (send_count h) (length (openings h)) c)

pub few_opened : FewAreOpened
few_opened [] = omega arith
few_opened (DidBegin n ∷ h) = omega (arith, more (DidBegin n) h, few_opened h)
few_opened (DidHear p m now t ∷ h) = omega (arith, more (DidHear p m now t) h, few_heard (step_of h) (length (openings h)) p m now t, few_opened h)
few_opened (DidAsk p m now ∷ h) = omega (arith, more (DidAsk p m now) h, few_opened h)
few_opened (DidReply k m now ∷ h) = omega (arith, more (DidReply k m now) h, few_opened h)
few_opened (DidAck k m ∷ h) = omega (arith, more (DidAck k m) h, few_opened h)
few_opened (DidFire k ∷ h) = omega (arith, more (DidFire k) h, few_opened h)
few_opened (DidSettle k own ∷ h) = omega (arith, more (DidSettle k own) h, few_opened h)

pub capacity_remains : CapacityRemains
capacity_remains h steps draws a b s d = omega (arith, few_opened h, a, b, s, d)

-- keys that rise by one from the first
abbrev Counts : ℕ → List Entry → Type 0
Counts lo [] = Unit {0}
Counts lo (e ∷ es) = (e.key ≡ lo) × Counts (suc lo) es

counts_append : (lo : ℕ) (es fs : List Entry) → Counts lo es → Counts (lo + length es) fs → Counts lo (es ++ fs)
counts_append lo [] fs c d = let e : lo + 0 ≡ lo = omega arith in rw (sym e) d
counts_append lo (e ∷ es) fs c d = (c.0, counts_append (suc lo) es fs c.1 (let q : suc lo + length es ≡ lo + length (e ∷ es) = omega arith in rw q d))

counts_heard : (s k : ℕ) (p : Peer) (m : Message Start) (now : ℕ) (t : MessageClass) → Counts k (opened_on_receipt s k p m now t)
counts_heard s k p m now part.Fresh = (refl, tt)
counts_heard s k p m now part.Full = tt
counts_heard s k p m now (part.Repeat j) = tt
counts_heard s k p m now (part.RepeatedFinal j) = tt
counts_heard s k p m now (part.Answer j) = tt
counts_heard s k p m now (part.Acked j) = tt
counts_heard s k p m now part.AckOf2xx = tt
counts_heard s k p m now part.Stray = tt

counts_opens : (s i k : ℕ) (c : TransactionOp) → Counts k (opens s i k c)
counts_opens s i k (DidBegin n) = tt
counts_opens s i k (DidHear p m now t) = counts_heard s k p m now t
counts_opens s i k (DidAsk p m now) = (refl, tt)
counts_opens s i k (DidReply j m now) = tt
counts_opens s i k (DidAck j m) = tt
counts_opens s i k (DidFire j) = tt
counts_opens s i k (DidSettle j own) = tt

counts_opened : (h : List TransactionOp) → Counts 0 (openings h)
counts_opened [] = tt
counts_opened (c ∷ h) = counts_append 0 (openings h) (opens (step_of h) (send_count h) (length (openings h)) c) (counts_opened h)
    (let e : 0 + length (openings h) ≡ length (openings h) = omega arith in rw e (counts_opens (step_of h) (send_count h) (length (openings h)) c))

counted_key : (lo k : ℕ) (es : List Entry) (e : Entry) → Counts lo es → slice_get es k ≡ Some e → e.key ≡ lo + k
counted_key lo k [] e c q = absurd (none-some e q)
counted_key lo zero (x ∷ es) e c q = let w = ap (λ (y : Entry). y.key) (same_Some x e q) in omega (arith, w, c.0)
counted_key lo (suc k) (x ∷ es) e c q = omega (arith, counted_key (suc lo) k es e c.1 q)

pub numbers_count : NumbersCount
numbers_count h k e q = omega (arith, counted_key 0 k (openings h) e (counts_opened h) q)

-- of keys that rise no two are the same
above_at : (lo hi : ℕ) (es : List Entry) (i : ℕ) (e : Entry) → Rising lo es hi → slice_get es i ≡ Some e → lo ≤ e.key
above_at lo hi [] i e r q = absurd (none-some e q)
above_at lo hi (x ∷ es) zero e r q = let w = ap (λ (y : Entry). y.key) (same_Some x e q) in omega (arith, w, r.0)
above_at lo hi (x ∷ es) (suc i) e r q = omega (arith, r.0, above_at (suc x.key) hi es i e r.1 q)

one_place : (lo hi : ℕ) (es : List Entry) (i j : ℕ) (e x : Entry) → Rising lo es hi → slice_get es i ≡ Some e → slice_get es j ≡ Some x → e.key ≡ x.key → i ≡ j
one_place lo hi [] i j e x r p q k = absurd (none-some e p)
one_place lo hi (y ∷ es) zero zero e x r p q k = refl
one_place lo hi (y ∷ es) zero (suc j) e x r p q k = let w = ap (λ (z : Entry). z.key) (same_Some y e p) in absurd (omega (arith, w, k, above_at (suc y.key) hi es j x r.1 q))
one_place lo hi (y ∷ es) (suc i) zero e x r p q k = let w = ap (λ (z : Entry). z.key) (same_Some y x q) in absurd (omega (arith, w, k, above_at (suc y.key) hi es i e r.1 p))
one_place lo hi (y ∷ es) (suc i) (suc j) e x r p q k = ap suc (one_place (suc y.key) hi es i j e x r.1 p q k)

pub numbers_differ : NumbersDiffer
numbers_differ h i j e x p q k = one_place 0 (length (openings h)) (live h) i j e x (rising h) p q k

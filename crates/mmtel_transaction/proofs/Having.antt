-- What is among transactions, and what is found there; one more operation over a run.
use Rattle.std.proofs.Common.{◌≡◌, ℕ, suc, ◌≤◌, List, [], ◌∷◌, ◌++◌, length, refl, true, false, Bool, ◌⊎◌, inl, inr, sym, ap, ◌∙◌, arith, map, cond, subst}
use Rattle.std.specs.Prelude.{Some, None, filter}
use Rattle.std.specs.List.{find}
use Rattle.std.proofs.lemmas.Bool.{eq-eqb, eqb-true, false_from_ne_true}
use Rattle.std.proofs.lemmas.Option.{none-some, same_Some}
use Rattle.mmtel_timers.specs.Shelves.{Has}
use Rattle.mmtel_transaction.specs.declared.entries.Entry.{Entry}
use Rattle.mmtel_transaction.specs.Operations.{TransactionOp, DidBegin, DidHear, DidAsk, DidReply, DidAck, DidFire, DidSettle, change, entry_of, is_live, live, send_count, openings, opens, step_of}
use Rattle.mmtel_transaction.specs.Results.{by_key, is_of}
use Rattle.mmtel_transaction.specs.Runs.{IsRun}
use Rattle.mmtel_transaction.proofs.Lists.{Rising, live_more, rising}

pub has_map : (f : Entry → Entry) (e : Entry) (es : List Entry) → Has e es → Has (f e) (map f es)
has_map f e [] h = h
has_map f e (x ∷ es) (inl q) = inl (ap f q)
has_map f e (x ∷ es) (inr h) = inr (has_map f e es h)

pub has_map_back : (f : Entry → Entry) (e : Entry) (es : List Entry) → Has e (map f es) → (x : Entry) × Has x es × (e ≡ f x)
has_map_back f e [] h = absurd h
has_map_back f e (x ∷ es) (inl q) = (x, inl refl, q)
has_map_back f e (x ∷ es) (inr h) = let w = has_map_back f e es h in (w.0, inr w.1, w.2)

first_kept : (b : Bool) (e x : Entry) (es : List Entry) → b ≡ true → e ≡ x → Has e (cond b (x ∷ es) es)
first_kept true e x es t q = inl q
first_kept false e x es t q = absurd cc

later_kept : (b : Bool) (e x : Entry) (es : List Entry) → Has e es → Has e (cond b (x ∷ es) es)
later_kept true e x es h = inr h
later_kept false e x es h = h

has_filter : (p : Entry → Bool) (e : Entry) (es : List Entry) → Has e es → p e ≡ true → Has e (filter p es)
has_filter p e [] h t = h
has_filter p e (x ∷ es) (inl q) t = first_kept (p x) e x (filter p es) (ap p (sym q) ∙ t) q
has_filter p e (x ∷ es) (inr h) t = later_kept (p x) e x (filter p es) (has_filter p e es h t)

back_if : (b : Bool) (p : Entry → Bool) (e x : Entry) (fs es : List Entry) → p x ≡ b → (Has e fs → Has e es × (p e ≡ true)) → Has e (cond b (x ∷ fs) fs) → Has e (x ∷ es) × (p e ≡ true)
back_if true p e x fs es t ih (inl q) = (inl q, ap p q ∙ t)
back_if true p e x fs es t ih (inr h) = let w = ih h in (inr w.0, w.1)
back_if false p e x fs es t ih h = let w = ih h in (inr w.0, w.1)

has_filter_back : (p : Entry → Bool) (e : Entry) (es : List Entry) → Has e (filter p es) → Has e es × (p e ≡ true)
has_filter_back p e [] h = absurd h
has_filter_back p e (x ∷ es) h = back_if (p x) p e x (filter p es) es refl (has_filter_back p e es) h

pub has_left : (e : Entry) (es fs : List Entry) → Has e es → Has e (es ++ fs)
has_left e [] fs h = absurd h
has_left e (x ∷ es) fs (inl q) = inl q
has_left e (x ∷ es) fs (inr h) = inr (has_left e es fs h)

pub has_right : (e : Entry) (es fs : List Entry) → Has e fs → Has e (es ++ fs)
has_right e [] fs h = h
has_right e (x ∷ es) fs h = inr (has_right e es fs h)

pub has_append_back : (e : Entry) (es fs : List Entry) → Has e (es ++ fs) → Has e es ⊎ Has e fs
has_append_back e [] fs h = inr h
has_append_back e (x ∷ es) fs (inl q) = inl (inl q)
has_append_back e (x ∷ es) fs (inr h) = elim (has_append_back e es fs h) [ inl a ↦ inl (inr a) | inr b ↦ inr b ]

-- what is found is there and passes
found_if : (b : Bool) (p : Entry → Bool) (e x : Entry) (es : List Entry) → p x ≡ b → (find p es ≡ Some e → Has e es × (p e ≡ true)) → cond b (Some x) (find p es) ≡ Some e → Has e (x ∷ es) × (p e ≡ true)
found_if true p e x es t ih q = let w : x ≡ e = same_Some x e q in (inl (sym w), ap p (sym w) ∙ t)
found_if false p e x es t ih q = let w = ih q in (inr w.0, w.1)

pub found_in : (p : Entry → Bool) (e : Entry) (es : List Entry) → find p es ≡ Some e → Has e es × (p e ≡ true)
found_in p e [] q = absurd (none-some e q)
found_in p e (x ∷ es) q = found_if (p x) p e x es refl (found_in p e es) q

-- where one passes, one is found
finds_if : (b : Bool) (p : Entry → Bool) (e x : Entry) (es : List Entry) → p x ≡ b → p e ≡ true → Has e (x ∷ es) → (Has e es → (y : Entry) × (find p es ≡ Some y)) → (y : Entry) × (cond b (Some x) (find p es) ≡ Some y)
finds_if true p e x es f t h ih = (x, refl)
finds_if false p e x es f t (inl q) ih = absurd (let w : true ≡ false = sym t ∙ (ap p q ∙ f) in cc)
finds_if false p e x es f t (inr h) ih = ih h

pub finds : (p : Entry → Bool) (e : Entry) (es : List Entry) → Has e es → p e ≡ true → (y : Entry) × (find p es ≡ Some y)
finds p e [] h t = absurd h
finds p e (x ∷ es) h t = finds_if (p x) p e x es refl t h (λ g. finds p e es g t)

pub not_found : (p : Entry → Bool) (e : Entry) (es : List Entry) → find p es ≡ None → Has e es → p e ≡ false
not_found p e es n h = false_from_ne_true (p e) (λ t. let w = finds p e es h t in none-some w.0 (sym n ∙ w.1))

-- one transaction has a key
above : (lo hi : ℕ) (es : List Entry) (e : Entry) → Rising lo es hi → Has e es → lo ≤ e.key
above lo hi [] e r h = absurd h
above lo hi (y ∷ es) e r (inl q) = let k : e.key ≡ y.key = ap (λ (x : Entry). x.key) q in omega (arith, r.0, k)
above lo hi (y ∷ es) e r (inr h) = omega (arith, r.0, above (suc y.key) hi es e r.1 h)

pub alone : (lo hi : ℕ) (es : List Entry) (e x : Entry) → Rising lo es hi → Has e es → Has x es → e.key ≡ x.key → e ≡ x
alone lo hi [] e x r g h k = absurd g
alone lo hi (y ∷ es) e x r (inl p) (inl q) k = p ∙ sym q
alone lo hi (y ∷ es) e x r (inl p) (inr h) k = let w : e.key ≡ y.key = ap (λ (z : Entry). z.key) p in absurd (omega (arith, k, w, above (suc y.key) hi es x r.1 h))
alone lo hi (y ∷ es) e x r (inr g) (inl q) k = let w : x.key ≡ y.key = ap (λ (z : Entry). z.key) q in absurd (omega (arith, k, w, above (suc y.key) hi es e r.1 g))
alone lo hi (y ∷ es) e x r (inr g) (inr h) k = alone (suc y.key) hi es e x r.1 g h k

pub same_entry : (h : List TransactionOp) (e x : Entry) → Has e (live h) → Has x (live h) → e.key ≡ x.key → e ≡ x
same_entry h e x = alone 0 (length (openings h)) (live h) e x (rising h)

pub at_key : (h : List TransactionOp) (e : Entry) → Has e (live h) → by_key e.key (live h) ≡ Some e
at_key h e g =
    let w = finds (is_of e.key) e (live h) g (eq-eqb e.key e.key refl) in
    let x : Entry = w.0 in
    let v = found_in (is_of e.key) x (live h) w.1 in
    w.1 ∙ ap Some (same_entry h x e v.0 g (eqb-true x.key e.key v.1))

pub of_key : (h : List TransactionOp) (k : ℕ) (e : Entry) → by_key k (live h) ≡ Some e → Has e (live h) × (e.key ≡ k)
of_key h k e q = let v = found_in (is_of k) e (live h) q in (v.0, eqb-true e.key k v.1)

-- one more operation
pub has_live : (h : List TransactionOp) (e : Entry) → Has e (live h) → is_live e ≡ true
has_live h e g = (has_filter_back is_live e (map (entry_of h) (openings h)) g).1

pub has_more : (c : TransactionOp) (h : List TransactionOp) (e : Entry) → Has e (live h) → is_live (change (step_of h) (send_count h) c e) ≡ true → Has (change (step_of h) (send_count h) c e) (live (c ∷ h))
has_more c h e g l =
    let f = change (step_of h) (send_count h) c in
    subst (λ es. Has (f e) es) (sym (live_more c h))
    (has_left (f e) (filter is_live (map f (live h))) (opens (step_of h) (send_count h) (length (openings h)) c) (has_filter is_live (f e) (map f (live h)) (has_map f e (live h) g) l))

pub has_new : (c : TransactionOp) (h : List TransactionOp) (e : Entry) → Has e (opens (step_of h) (send_count h) (length (openings h)) c) → Has e (live (c ∷ h))
has_new c h e g = subst (λ es. Has e es) (sym (live_more c h)) (has_right e (filter is_live (map (change (step_of h) (send_count h) c) (live h))) (opens (step_of h) (send_count h) (length (openings h)) c) g)

pub has_more_back : (c : TransactionOp) (h : List TransactionOp) (e : Entry) → Has e (live (c ∷ h)) →
    ((x : Entry) × Has x (live h) × (e ≡ change (step_of h) (send_count h) c x)) ⊎ Has e (opens (step_of h) (send_count h) (length (openings h)) c)
has_more_back c h e g =
    let f = change (step_of h) (send_count h) c in
    elim (has_append_back e (filter is_live (map f (live h))) (opens (step_of h) (send_count h) (length (openings h)) c) (subst (λ es. Has e es) (live_more c h) g)) [
      | inl a ↦ inl (has_map_back f e (live h) (has_filter_back is_live e (map f (live h)) a).0)
      | inr b ↦ inr b
    ]

pub run_before : (c : TransactionOp) (h : List TransactionOp) → IsRun (c ∷ h) → IsRun h
run_before (DidBegin n) h r = r
run_before (DidHear p m now t) h r = r.1
run_before (DidAsk p m now) h r = r
run_before (DidReply k m now) h r = r
run_before (DidAck k m) h r = r
run_before (DidFire k) h r = r.1
run_before (DidSettle k own) h r = r

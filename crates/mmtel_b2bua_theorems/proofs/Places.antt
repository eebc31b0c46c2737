-- The calls at the indices of two indistinguishable lists of calls.
use Rattle.std.proofs.Common.{◌≡◌, ℕ, zero, suc, ◌+◌, Bool, not, List, [], ◌∷◌, ◌++◌, refl, ap, ◌∙◌, cond, length, subst, take, drop, Option, Some, None}
use Rattle.std.specs.Prelude.{count_by, flat_map, fold, nat_lt, position, remove, slice_get, slice_set}
use Rattle.std.specs.List.{prefix_len}
use Rattle.mmtel_sheet_values.specs.declared.values.Sheet.{Sheet}
use Rattle.mmtel_types.specs.declared.numbers.Account.{Account}
use Rattle.mmtel_types.specs.declared.numbers.Peer.{Peer}
use Rattle.mmtel_b2bua.specs.declared.entries.Entry.{Entry}
use Rattle.mmtel_call_theorems.specs.Noninterference.Invariant.{CallInvariant}
use Rattle.mmtel_call_theorems.specs.Noninterference.Observations.{Trust}
use Rattle.mmtel_b2bua_theorems.specs.EquivalentTables.{CallsInvariant, EquivalentEntries, EquivalentEntry}

-- where one is found, after this many of this many were examined
abbrev found_at : (tried long : ℕ) → Option ℕ
found_at tried long = cond (nat_lt tried long) (Some tried) None

same_entry : (x e : Entry) → Some x ≡ Some e → x ≡ e
same_entry x e is = cc

module _ (records : List Sheet) (known : Peer → Bool) where
  abbrev pub Equivalent : (es fs : List Entry) → Type 0
  Equivalent = λ es fs. EquivalentEntries records known es fs

  -- both or neither is there, and they are indistinguishable
  abbrev pub EquivalentAt : (one other : Option Entry) → Type 0
  EquivalentAt None None = Unit {0}
  EquivalentAt None (Some f) = ⊥
  EquivalentAt (Some e) None = ⊥
  EquivalentAt (Some e) (Some f) = EquivalentEntry records known e f

  pub get-equivalent : (es fs : List Entry) → Equivalent es fs → (at : ℕ) → EquivalentAt (slice_get es at) (slice_get fs at)
  get-equivalent [] [] a at = tt
  get-equivalent [] (f ∷ fs) a at = absurd a
  get-equivalent (e ∷ es) [] a at = absurd a
  get-equivalent (e ∷ es) (f ∷ fs) a zero = a.0
  get-equivalent (e ∷ es) (f ∷ fs) a (suc at) = get-equivalent es fs a.1 at

  pub set-equivalent : (es fs : List Entry) → Equivalent es fs → (at : ℕ) (x y : Entry) → EquivalentEntry records known x y → Equivalent (slice_set es at x) (slice_set fs at y)
  set-equivalent [] [] a at x y b = tt
  set-equivalent [] (f ∷ fs) a at x y b = absurd a
  set-equivalent (e ∷ es) [] a at x y b = absurd a
  set-equivalent (e ∷ es) (f ∷ fs) a zero x y b = (b, a.1)
  set-equivalent (e ∷ es) (f ∷ fs) a (suc at) x y b = (a.0, set-equivalent es fs a.1 at x y b)

  pub append-equivalent : (es fs gs hs : List Entry) → Equivalent es fs → Equivalent gs hs → Equivalent (es ++ gs) (fs ++ hs)
  append-equivalent [] [] gs hs a b = b
  append-equivalent [] (f ∷ fs) gs hs a b = absurd a
  append-equivalent (e ∷ es) [] gs hs a b = absurd a
  append-equivalent (e ∷ es) (f ∷ fs) gs hs a b = (a.0, append-equivalent es fs gs hs a.1 b)

  take-equivalent : (n : ℕ) (es fs : List Entry) → Equivalent es fs → Equivalent (take n es) (take n fs)
  take-equivalent zero es fs a = tt
  take-equivalent (suc n) [] [] a = tt
  take-equivalent (suc n) [] (f ∷ fs) a = absurd a
  take-equivalent (suc n) (e ∷ es) [] a = absurd a
  take-equivalent (suc n) (e ∷ es) (f ∷ fs) a = (a.0, take-equivalent n es fs a.1)

  drop-equivalent : (n : ℕ) (es fs : List Entry) → Equivalent es fs → Equivalent (drop n es) (drop n fs)
  drop-equivalent zero es fs a = a
  drop-equivalent (suc n) [] [] a = tt
  drop-equivalent (suc n) [] (f ∷ fs) a = absurd a
  drop-equivalent (suc n) (e ∷ es) [] a = absurd a
  drop-equivalent (suc n) (e ∷ es) (f ∷ fs) a = drop-equivalent n es fs a.1

  pub remove-equivalent : (es fs : List Entry) → Equivalent es fs → (at : ℕ) → Equivalent (remove es at) (remove fs at)
  remove-equivalent es fs a at = append-equivalent (take at es) (take at fs) (drop (suc at) es) (drop (suc at) fs) (take-equivalent at es fs a) (drop-equivalent (suc at) es fs a)

  -- ---- a test with the same result on indistinguishable calls

  abbrev pub TestsEquivalent : {A : Type 0} → (p q : Entry → A) → Type 0
  TestsEquivalent p q = (e f : Entry) → EquivalentEntry records known e f → p e ≡ q f

  long : (es fs : List Entry) → Equivalent es fs → length es ≡ length fs
  long [] [] a = refl
  long [] (f ∷ fs) a = absurd a
  long (e ∷ es) [] a = absurd a
  long (e ∷ es) (f ∷ fs) a = ap suc (long es fs a.1)

  tried : (p q : Entry → Bool) → TestsEquivalent p q → (es fs : List Entry) → Equivalent es fs → prefix_len (λ x. not (p x)) es ≡ prefix_len (λ x. not (q x)) fs
  tried p q same [] [] a = refl
  tried p q same [] (f ∷ fs) a = absurd a
  tried p q same (e ∷ es) [] a = absurd a
  tried p q same (e ∷ es) (f ∷ fs) a =
      ap (λ (b : Bool). cond (not b) (1 + prefix_len (λ x. not (p x)) es) 0) (same e f a.0)
      ∙ ap (λ (n : ℕ). cond (not (q f)) (1 + n) 0) (tried p q same es fs a.1)

  pub position-same : (p q : Entry → Bool) → TestsEquivalent p q → (es fs : List Entry) → Equivalent es fs → position p es ≡ position q fs
  position-same p q same es fs a =
      ap (λ (n : ℕ). found_at n (length es)) (tried p q same es fs a)
      ∙ ap (λ (n : ℕ). found_at (prefix_len (λ x. not (q x)) fs) n) (long es fs a)

  pub gathered-same : (p q : Entry → List Account) → TestsEquivalent p q → (es fs : List Entry) → Equivalent es fs → flat_map p es ≡ flat_map q fs
  gathered-same p q same [] [] a = refl
  gathered-same p q same [] (f ∷ fs) a = absurd a
  gathered-same p q same (e ∷ es) [] a = absurd a
  gathered-same p q same (e ∷ es) (f ∷ fs) a = ap (λ (l : List Account). l ++ flat_map p es) (same e f a.0) ∙ ap (λ (l : List Account). q f ++ l) (gathered-same p q same es fs a.1)

  counted : (p q : Entry → Bool) → TestsEquivalent p q → (n : ℕ) (es fs : List Entry) → Equivalent es fs → fold (λ a x. a + cond (p x) 1 0) n es ≡ fold (λ a x. a + cond (q x) 1 0) n fs
  counted p q same n [] [] a = refl
  counted p q same n [] (f ∷ fs) a = absurd a
  counted p q same n (e ∷ es) [] a = absurd a
  counted p q same n (e ∷ es) (f ∷ fs) a =
      ap (λ (b : Bool). fold (λ a x. a + cond (p x) 1 0) (n + cond b 1 0) es) (same e f a.0) ∙ counted p q same (n + cond (q f) 1 0) es fs a.1

  pub count-same : (p q : Entry → Bool) → TestsEquivalent p q → (es fs : List Entry) → Equivalent es fs → count_by p es ≡ count_by q fs
  count-same p q same es fs a = counted p q same 0 es fs a

-- ---- of one list, whose calls all keep the invariant

module _ (records : List Sheet) (t : Trust) where
  pub get-kept : (es : List Entry) → CallsInvariant records t es → (at : ℕ) (e : Entry) → slice_get es at ≡ Some e → CallInvariant records t e.call
  get-kept [] k at e is = absurd cc
  get-kept (x ∷ es) k zero e is = subst (λ (y : Entry). CallInvariant records t y.call) (same_entry x e is) k.0
  get-kept (x ∷ es) k (suc at) e is = get-kept es k.1 at e is

  pub set-kept : (es : List Entry) → CallsInvariant records t es → (at : ℕ) (e : Entry) → CallInvariant records t e.call → CallsInvariant records t (slice_set es at e)
  set-kept [] k at e h = tt
  set-kept (x ∷ es) k zero e h = (h, k.1)
  set-kept (x ∷ es) k (suc at) e h = (k.0, set-kept es k.1 at e h)

  pub append-kept : (es fs : List Entry) → CallsInvariant records t es → CallsInvariant records t fs → CallsInvariant records t (es ++ fs)
  append-kept [] fs k l = l
  append-kept (e ∷ es) fs k l = (k.0, append-kept es fs k.1 l)

  take-kept : (n : ℕ) (es : List Entry) → CallsInvariant records t es → CallsInvariant records t (take n es)
  take-kept zero es k = tt
  take-kept (suc n) [] k = tt
  take-kept (suc n) (e ∷ es) k = (k.0, take-kept n es k.1)

  drop-kept : (n : ℕ) (es : List Entry) → CallsInvariant records t es → CallsInvariant records t (drop n es)
  drop-kept zero es k = k
  drop-kept (suc n) [] k = tt
  drop-kept (suc n) (e ∷ es) k = drop-kept n es k.1

  pub remove-kept : (es : List Entry) → CallsInvariant records t es → (at : ℕ) → CallsInvariant records t (remove es at)
  remove-kept es k at = append-kept (take at es) (drop (suc at) es) (take-kept at es k) (drop-kept (suc at) es k)

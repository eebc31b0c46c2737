-- The bytes that separate values.
use Rattle.std.proofs.Common.{◌≡◌, ◌==◌, true, false, ℕ, suc, ◌+◌, ◌<◌, List, [], ◌∷◌, ◌++◌, length, take, drop, get_or, Option}
use Rattle.std.proofs.Common.{Some, None, refl, sym, ap, subst, ◌∙◌, arith, drop-cons, add-one, inl, inr, append_assoc, map}
use Rattle.std.proofs.lemmas.List.{drop_all}
use Rattle.std.specs.Option.{option_map}
use Rattle.std.proofs.lemmas.Bool.{cases_Bool}
use Rattle.memchr.specs.Find.{Nowhere, Passes, is_byte}
use Rattle.mmtel_message.specs.declared.values.Mode.{Mode}
use Rattle.mmtel_message.specs.declared.values.Mode.TheVariants.{Plain, Quoted, Escaped, Angle, Words}
use Rattle.mmtel_message.specs.Headers.{trim}
use Rattle.mmtel_message.specs.Values.{mode_after, is_separator, base, next_separator, parts, rest_parts, separator}
use Rattle.mmtel_message.proofs.LineTheorems.{shift, mapped, unmapped, same_some}

-- ---- the loop

abbrev pub Goes : Option ℕ → ℕ → Mode → List ℕ → Type 0
Goes total i m s = total ≡ option_map (λ n. i + n) (next_separator m (drop i s))

pub over : (m : Mode) (total : Option ℕ) (i : ℕ) (s : List ℕ) → i < length s → is_separator m (get_or s i 0) ≡ false → Goes total i m s → Goes total (i + 1) (mode_after m (get_or s i 0)) s
unfolding next_separator
over m total i s lt e so_far =
    let one : drop i s ≡ get_or s i 0 ∷ drop (i + 1) s = rw (add-one, drop-cons s i 0) refl in
    (rw (one, e) at so_far) ∙ shift i (next_separator (mode_after m (get_or s i 0)) (drop (i + 1) s))

pub stops_at : (m : Mode) (total : Option ℕ) (i : ℕ) (s : List ℕ) → i < length s → is_separator m (get_or s i 0) ≡ true → Goes total i m s → total ≡ Some i
unfolding next_separator
stops_at m total i s lt e so_far =
    let one : drop i s ≡ get_or s i 0 ∷ drop (i + 1) s = rw (add-one, drop-cons s i 0) refl in
    (rw (one, e) at so_far) ∙ ap (λ (n : ℕ). Some n) (omega arith)

pub never : (m : Mode) (total : Option ℕ) (i : ℕ) (s : List ℕ) → i ≡ length s → Goes total i m s → total ≡ None
unfolding next_separator
never m total i s e so_far = rw (drop_all i s (omega arith)) at so_far

-- ---- a text without the byte that may separate

separator_after : (m : Mode) (b : ℕ) → separator (mode_after m b) ≡ separator m
separator_after Plain b =
    elim (cases_Bool (b == 34)) [
      | inl y ↦ rw y refl
      | inr n ↦ elim (cases_Bool (b == 60)) [ inl y ↦ rw (n, y) refl | inr o ↦ rw (n, o) refl ]
    ]
separator_after Quoted b =
    elim (cases_Bool (b == 34)) [
      | inl y ↦ rw y refl
      | inr n ↦ elim (cases_Bool (b == 92)) [ inl y ↦ rw (n, y) refl | inr o ↦ rw (n, o) refl ]
    ]
separator_after Escaped b = refl
separator_after Angle b = elim (cases_Bool (b == 62)) [ inl y ↦ rw y refl | inr n ↦ rw n refl ]
separator_after Words b = refl

other_byte : (m : Mode) (b : ℕ) → (b == separator m) ≡ false → is_separator m b ≡ false
other_byte Plain b e = e
other_byte Quoted b e = refl
other_byte Escaped b e = refl
other_byte Angle b e = refl
other_byte Words b e = e

lacking : (m : Mode) (s : List ℕ) → ((k : ℕ) → k < length s → (get_or s k 0 == separator m) ≡ false) → next_separator m s ≡ None
unfolding next_separator
lacking m [] lacks = refl
lacking m (b ∷ t) lacks =
    let here : is_separator m b ≡ false = other_byte m b (lacks 0 (omega arith)) in
    let later : (k : ℕ) → k < length t → (get_or t k 0 == separator (mode_after m b)) ≡ false = λ k less. rw (separator_after m b) (lacks (suc k) (omega (arith, less))) in
    rw (here, lacking (mode_after m b) t later) refl

lacks_byte : (x : ℕ) (s : List ℕ) → Nowhere (Passes (is_byte x) s) 0 (length s) → (k : ℕ) → k < length s → (get_or s k 0 == x) ≡ false
lacks_byte x s none k less =
    elim (cases_Bool (get_or s k 0 == x)) [
      | inl y ↦ absurd (none k (omega arith) less y)
      | inr n ↦ n
    ]

-- nothing separates in a text in which that byte does not occur
pub no_separator : (m : Mode) (s : List ℕ) → Nowhere (Passes (is_byte (separator m)) s) 0 (length s) → next_separator m s ≡ None
no_separator m s none = lacking m s (lacks_byte (separator m) s none)

-- ---- parts

pub base_after : (m : Mode) (b : ℕ) → base (mode_after m b) ≡ base m
base_after Plain b =
    elim (cases_Bool (b == 34)) [
      | inl y ↦ rw y refl
      | inr n ↦ elim (cases_Bool (b == 60)) [ inl y ↦ rw (n, y) refl | inr o ↦ rw (n, o) refl ]
    ]
base_after Quoted b =
    elim (cases_Bool (b == 34)) [
      | inl y ↦ rw y refl
      | inr n ↦ elim (cases_Bool (b == 92)) [ inl y ↦ rw (n, y) refl | inr o ↦ rw (n, o) refl ]
    ]
base_after Escaped b = refl
base_after Angle b = elim (cases_Bool (b == 62)) [ inl y ↦ rw y refl | inr n ↦ rw n refl ]
base_after Words b = refl

pub parts_none : (m : Mode) (s : List ℕ) → next_separator m s ≡ None → parts m s ≡ s ∷ []
unfolding parts next_separator
parts_none m [] e = refl
parts_none m (b ∷ t) e =
    elim (cases_Bool (is_separator m b)) [
      | inl y ↦ let f = rw y at e in absurd cc
      | inr n ↦ rw (n, parts_none (mode_after m b) t (unmapped (next_separator (mode_after m b) t) (rw n at e))) refl
    ]

parts_later : (m : Mode) (b : ℕ) (t : List ℕ) (k n : ℕ) → is_separator m b ≡ false → suc k ≡ n → parts (mode_after m b) t ≡ take k t ∷ parts (base m) (drop (k + 1) t) →
    parts m (b ∷ t) ≡ take n (b ∷ t) ∷ parts (base m) (drop (n + 1) (b ∷ t))
unfolding parts
parts_later m b t k n other e more =
    let one : suc k + 1 ≡ suc (k + 1) = omega arith in
    subst (λ (j : ℕ). parts m (b ∷ t) ≡ take j (b ∷ t) ∷ parts (base m) (drop (j + 1) (b ∷ t))) e (rw (other, more, one) refl)

parts_first : (m : Mode) (b : ℕ) (t : List ℕ) → is_separator m b ≡ true → parts m (b ∷ t) ≡ [] ∷ parts (base m) t
unfolding parts
parts_first m b t e = rw e refl

pub parts_some : (m : Mode) (s : List ℕ) (n : ℕ) → next_separator m s ≡ Some n → parts m s ≡ take n s ∷ parts (base m) (drop (n + 1) s)
unfolding next_separator
parts_some m [] n e = absurd cc
parts_some m (b ∷ t) n e =
    elim (cases_Bool (is_separator m b)) [
      | inl y ↦
          subst (λ (k : ℕ). parts m (b ∷ t) ≡ take k (b ∷ t) ∷ parts (base m) (drop (k + 1) (b ∷ t))) (same_some 0 n (rw y at e)) (parts_first m b t y)
      | inr other ↦
          let p = mapped (next_separator (mode_after m b) t) n (rw other at e) in
          let more = parts_some (mode_after m b) t p.0 p.1 in
          parts_later m b t p.0 n other p.2 (rw (base_after m b) at more)
    ]

-- ---- the loop over parts

pub goes_on : (m : Mode) (whole made : List (List ℕ)) (part s : List ℕ) (after : Option (List ℕ)) → parts m s ≡ part ∷ rest_parts m after → whole ≡ made ++ map trim (parts m s) →
    whole ≡ (made ++ trim part ∷ []) ++ map trim (rest_parts m after)
goes_on m whole made part s after e so_far = (rw e at so_far) ∙ sym (append_assoc made (trim part ∷ []) (map trim (rest_parts m after)))

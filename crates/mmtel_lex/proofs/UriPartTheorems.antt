-- Where the parts of a URI are: the last '@', and the parts of a text.
use Rattle.std.proofs.Common.{◌≡◌, ◌==◌, Bool, true, false, not, ℕ, suc, ◌+◌, ◌-◌, ◌≤◌, ◌<◌, List, [], ◌∷◌, ◌++◌, length, take}
use Rattle.std.proofs.Common.{drop, get_or, reverse, Option, Some, None, refl, sym, ap, subst, ◌∙◌, arith, inl, inr, nat_lt}
use Rattle.std.specs.Prelude.{IfSome, MatchOption}
use Rattle.std.specs.Option.{option_map}
use Rattle.std.specs.List.{list_all, prefix_len, suffix_len, onto_first}
use Rattle.std.proofs.lemmas.Bool.{cases_Bool, ltb-true}
use Rattle.std.proofs.lemmas.Bool.Decides.{nat_tests}
use Rattle.std.proofs.lemmas.List.{length-append, length-drop, reverse-append, reverse-reverse, length-reverse, take-append-drop, drop-append-le, take_at, drop_at, append_cancel_right}
use Rattle.std.proofs.lemmas.List.Folds.{list_all-append}
use Rattle.std.proofs.lemmas.List.Splits.{slice_split_first}
use Rattle.std.proofs.lemmas.List.Sums.{prefix_len-le-length, suffix_len_is}
use Rattle.mmtel_base.specs.Scanning.{split_once_at, IsFree}
use Rattle.mmtel_base.proofs.Runs.{and_true, prefix_each, split_none}
use Rattle.mmtel_base.proofs.ChainTheorems.{some_is}
use Rattle.mmtel_lex.specs.UriParts.{parts, user_part, host_part}

-- ---- prefixes of a list

prefix_stops : {A : Type 0} (p : A → Bool) (r : List A) → prefix_len p (drop (prefix_len p r) r) ≡ 0
prefix_stops p [] = refl
prefix_stops p (c ∷ r) =
    let one : 1 + prefix_len p r ≡ suc (prefix_len p r) = omega arith in
    elim (cases_Bool (p c)) [
      | inl y ↦ rw (y, one) (prefix_stops p r)
      | inr n ↦ rw (n, n) refl
    ]

prefix_more : {A : Type 0} (p : A → Bool) (t r : List A) → list_all p t ≡ true → prefix_len p (t ++ r) ≡ length t + prefix_len p r
prefix_more p [] r all = omega arith
prefix_more p (c ∷ t) r all =
    let both = and_true (p c) (list_all p t) all in
    let more : prefix_len p (t ++ r) ≡ length t + prefix_len p r = prefix_more p t r both.1 in
    rw both.0 (omega arith)

all_reverse : {A : Type 0} (p : A → Bool) (t : List A) → list_all p t ≡ true → list_all p (reverse t) ≡ true
all_reverse p [] all = refl
all_reverse p (c ∷ t) all =
    let both = and_true (p c) (list_all p t) all in
    let turned : reverse (c ∷ t) ≡ reverse t ++ c ∷ [] = reverse-append (c ∷ []) t in
    rw (turned, list_all-append, all_reverse p t both.1, both.0) refl

-- ---- the last '@'

abbrev other : ℕ → Bool
other x = not (x == 64)

abbrev reach : List ℕ → ℕ
reach u = suffix_len (λ x. not (x == 64)) u

cut_back : (u : List ℕ) → u ≡ reverse (drop (reach u) (reverse u)) ++ reverse (take (reach u) (reverse u))
cut_back u = sym (reverse-reverse u) ∙ ap (λ (l : List ℕ). reverse l) (sym (take-append-drop (reach u) (reverse u))) ∙ reverse-append (take (reach u) (reverse u)) (drop (reach u) (reverse u))

cut_len : (u : List ℕ) → length u - reach u ≡ length (reverse (drop (reach u) (reverse u)))
cut_len u = omega (arith, length-reverse (drop (reach u) (reverse u)), length-drop (reach u) (reverse u), length-reverse u)

pub host_is : (u : List ℕ) → host_part u ≡ reverse (take (reach u) (reverse u))
unfolding host_part
host_is u = ap (λ (l : List ℕ). drop (length u - reach u) l) (cut_back u) ∙ drop_at (reverse (drop (reach u) (reverse u))) (reverse (take (reach u) (reverse u))) (length u - reach u) (sym (cut_len u))

pub user_is : (u : List ℕ) → user_part u ≡ reverse (drop (reach u) (reverse u))
unfolding user_part
user_is u = ap (λ (l : List ℕ). take (length u - reach u) l) (cut_back u) ∙ take_at (reverse (drop (reach u) (reverse u))) (reverse (take (reach u) (reverse u))) (length u - reach u) (sym (cut_len u))

pub whole_uri : (u : List ℕ) → u ≡ user_part u ++ host_part u
whole_uri u = rw (user_is u, host_is u) (cut_back u)

pub host_free : (u : List ℕ) → IsFree 64 (host_part u)
host_free u = rw (host_is u) (all_reverse (λ x. not (x == 64)) (take (reach u) (reverse u)) (prefix_each (λ x. not (x == 64)) (reverse u)))

reach_more : (s t : List ℕ) → IsFree 64 t → reach (s ++ t) ≡ length t + reach s
reach_more s t free =
    let more : prefix_len (λ x. not (x == 64)) (reverse t ++ reverse s) ≡ length (reverse t) + reach s = prefix_more (λ x. not (x == 64)) (reverse t) (reverse s) (all_reverse (λ x. not (x == 64)) t free) in
    let turned : reach (s ++ t) ≡ prefix_len (λ x. not (x == 64)) (reverse t ++ reverse s) = ap (λ (l : List ℕ). prefix_len (λ x. not (x == 64)) l) (reverse-append s t) in
    omega (arith, turned, more, length-reverse t)

reach_le : (s : List ℕ) → reach s ≤ length s
reach_le s = omega (arith, prefix_len-le-length (λ x. not (x == 64)) (reverse s), length-reverse s)

pub host_more : (s t : List ℕ) → IsFree 64 t → host_part (s ++ t) ≡ host_part s ++ t
unfolding host_part
host_more s t free =
    let place : length (s ++ t) - reach (s ++ t) ≡ length s - reach s = omega (arith, length-append s t, reach_more s t free, reach_le s) in
    rw place (drop-append-le (length s - reach s) s t (omega arith))

no_host : (u : List ℕ) → host_part (user_part u) ≡ []
no_host u =
    let none : reach (user_part u) ≡ 0 = rw (user_is u, reverse-reverse (drop (reach u) (reverse u))) (prefix_stops (λ x. not (x == 64)) (reverse u)) in
    rw (host_is (user_part u), none) refl

pub new_host : (u t : List ℕ) → IsFree 64 t → host_part (user_part u ++ t) ≡ t
new_host u t free = host_more (user_part u) t free ∙ ap (λ (l : List ℕ). l ++ t) (no_host u)

-- the user stays, whatever follows it
pub new_user : (u t : List ℕ) → IsFree 64 t → user_part (user_part u ++ t) ≡ user_part u
new_user u t free =
    let whole : user_part u ++ t ≡ user_part (user_part u ++ t) ++ host_part (user_part u ++ t) = whole_uri (user_part u ++ t) in
    let same : user_part (user_part u ++ t) ++ t ≡ user_part u ++ t = sym (whole ∙ ap (λ (l : List ℕ). user_part (user_part u ++ t) ++ l) (new_host u t free)) in
    append_cancel_right (user_part (user_part u ++ t)) (user_part u) t same

-- ---- parts

pub free_parts : (b : ℕ) (s : List ℕ) → IsFree b s → parts b s ≡ s ∷ []
free_parts b [] free = refl
free_parts b (x ∷ s) free =
    let both = and_true (not (x == b)) (list_all (λ y. not (y == b)) s) free in
    elim (cases_Bool (x == b)) [
      | inl y ↦ absurd (let t : not (x == b) ≡ true = both.0 in cc)
      | inr n ↦ rw (n, free_parts b s both.1) refl
    ]

record Parts (b : ℕ) (s : List ℕ) (x : List ℕ × List ℕ) : Type 0 where
  split : parts b s ≡ x.0 ∷ parts b x.1
  shorter : length x.1 < length s

some_parts : (b : ℕ) (s : List ℕ) (x : List ℕ × List ℕ) → split_once_at b s ≡ Some x → Parts b s x
unfolding split_once_at
some_parts b s x e =
    let n : ℕ = prefix_len (λ y. not (y == b)) s in
    elim (cases_Bool (nat_lt (prefix_len (λ y. not (y == b)) s) (length s))) [
      | inl y ↦
          let lt : prefix_len (λ y. not (y == b)) s < length s = ltb-true _ _ y in
          let whole : parts b s ≡ take (prefix_len (λ y. not (y == b)) s) s ∷ parts b (drop (prefix_len (λ y. not (y == b)) s + 1) s) = slice_split_first (λ y. y == b) s 0 lt in
          let less : length (drop (prefix_len (λ y. not (y == b)) s + 1) s) < length s = omega (arith, length-drop (prefix_len (λ y. not (y == b)) s + 1) s) in
          subst (λ (z : List ℕ × List ℕ). Parts b s z) (some_is _ x (rw y at e)) (record { split = whole; shorter = less })
      | inr m ↦ absurd (let f = rw m at e in cc)
    ]

pub first_by : {A : Type 0} (b : ℕ) (s : List ℕ) (r : Option A) (f : A → List ℕ × List ℕ) → option_map f r ≡ split_once_at b s → MatchOption r (parts b s ≡ s ∷ []) (λ x. parts b s ≡ (f x).0 ∷ parts b (f x).1)
first_by b s None f e = free_parts b s (split_none b s (sym e))
first_by b s (Some x) f e = (some_parts b s (f x) (sym e)).split

pub shorter_by : {A : Type 0} (b : ℕ) (s : List ℕ) (r : Option A) (f : A → List ℕ × List ℕ) → option_map f r ≡ split_once_at b s → IfSome r (λ x. length (f x).1 < length s)
shorter_by b s None f e = tt
shorter_by b s (Some x) f e = (some_parts b s (f x) (sym e)).shorter

-- there is a part
abbrev pub Filled : List (List ℕ) → Type 0
Filled ps = (p : List ℕ) × (rest : List (List ℕ)) × (ps ≡ p ∷ rest)

pub filled_first : (x : ℕ) (ps : List (List ℕ)) → Filled (onto_first x ps)
filled_first x [] = (x ∷ [], [], refl)
filled_first x (p ∷ ps) = (x ∷ p, ps, refl)

pub parts_filled : (b : ℕ) (s : List ℕ) → Filled (parts b s)
parts_filled b [] = ([], [], refl)
parts_filled b (x ∷ s) =
    elim (cases_Bool (x == b)) [
      | inl y ↦ rw y ([], parts b s, refl)
      | inr n ↦ rw n (filled_first x (parts b s))
    ]

onto_append : (x : ℕ) (ps qs : List (List ℕ)) → Filled ps → onto_first x (ps ++ qs) ≡ onto_first x ps ++ qs
onto_append x ps qs is = rw is.2 refl

pub parts_more : (b : ℕ) (s t : List ℕ) → parts b (s ++ b ∷ t) ≡ parts b s ++ parts b t
parts_more b [] t =
    let same : (b == b) ≡ true = grind (arith, nat_tests) in
    rw same refl
parts_more b (x ∷ s) t =
    elim (cases_Bool (x == b)) [
      | inl y ↦ rw (y, parts_more b s t) refl
      | inr n ↦ rw (n, parts_more b s t) (onto_append x (parts b s) (parts b t) (parts_filled b s))
    ]

pub drop_one : (ps qs : List (List ℕ)) → Filled ps → drop 1 (ps ++ qs) ≡ drop 1 ps ++ qs
drop_one ps qs is = rw is.2 refl

-- ---- where the code stops

pub record Splits (s : List ℕ) (n : ℕ) : Type 0 where
  pub user : take n s ≡ user_part s
  pub host : drop n s ≡ host_part s

pub splits_at : (s : List ℕ) (n : ℕ) → n ≤ length s → ((k : ℕ) → n ≤ k → k < length s → not (get_or s k 0 == 64) ≡ true) → (0 < n → not (get_or s (n - 1) 0 == 64) ≡ false) → Splits s n
unfolding user_part host_part
splits_at s n le after at =
    let len : suffix_len (λ x. not (x == 64)) s ≡ length s - n = suffix_len_is (λ x. not (x == 64)) s n 0 le after at in
    let back : length s - (length s - n) ≡ n = omega arith in
    record { user = rw (len, back) refl; host = rw (len, back) refl }

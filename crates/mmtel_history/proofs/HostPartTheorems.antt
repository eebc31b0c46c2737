-- A text joined from its parts again, without some of them.
use Rattle.std.proofs.Common.{◌≡◌, ◌==◌, Bool, true, false, not, ℕ, List, [], ◌∷◌, ◌++◌, drop, refl, sym, ap, ◌∙◌, inl, inr}
use Rattle.std.specs.Prelude.{filter}
use Rattle.std.specs.List.{list_all, list_any, flat_map, join_with_byte, onto_first}
use Rattle.std.proofs.lemmas.Bool.{cases_Bool}
use Rattle.std.proofs.lemmas.List.{append-nil}
use Rattle.std.proofs.lemmas.List.Folds.{list_all-append}
use Rattle.std.proofs.lemmas.List.Splits.{join_with_byte-slice_split}
use Rattle.mmtel_base.proofs.Runs.{and_true}
use Rattle.mmtel_lex.proofs.UriPartTheorems.{free_parts, parts_filled, parts_more}
use Rattle.mmtel_lex.specs.UriParts.{parts}
use Rattle.mmtel_history.specs.EntryUri.{is_cause, without_causes, host_part_without_causes}

abbrev pub free : ℕ → List ℕ → Bool
free b s = list_all (λ y. not (y == b)) s

-- a test of each byte is a test of each byte of each part
parts_onto : (p : ℕ → Bool) (x : ℕ) (ps : List (List ℕ)) → p x ≡ true → list_all (λ q. list_all p q) ps ≡ true → list_all (λ q. list_all p q) (onto_first x ps) ≡ true
parts_onto p x [] here more = rw here refl
parts_onto p x (q ∷ ps) here more =
    let both = and_true (list_all p q) (list_all (λ r. list_all p r) ps) more in
    rw (here, both.0, both.1) refl

pub parts_all : (p : ℕ → Bool) (b : ℕ) (s : List ℕ) → list_all p s ≡ true → list_all (λ q. list_all p q) (parts b s) ≡ true
parts_all p b [] all = refl
parts_all p b (x ∷ s) all =
    let both = and_true (p x) (list_all p s) all in
    elim (cases_Bool (x == b)) [
      | inl y ↦ rw y (parts_all p b s both.1)
      | inr n ↦ rw n (parts_onto p x (parts b s) both.0 (parts_all p b s both.1))
    ]

-- no part contains the byte at which the text was split
pub parts_free : (b : ℕ) (s : List ℕ) → list_all (free b) (parts b s) ≡ true
parts_free b [] = refl
parts_free b (x ∷ s) =
    elim (cases_Bool (x == b)) [
      | inl y ↦ rw y (parts_free b s)
      | inr n ↦ rw n (parts_onto (λ y. not (y == b)) x (parts b s) (rw n refl) (parts_free b s))
    ]

pub filter_all : {A : Type 0} (p q : A → Bool) (xs : List A) → list_all p xs ≡ true → list_all p (filter q xs) ≡ true
filter_all p q [] all = refl
filter_all p q (x ∷ xs) all =
    let both = and_true (p x) (list_all p xs) all in
    elim (cases_Bool (q x)) [
      | inl y ↦ rw (y, both.0) (filter_all p q xs both.1)
      | inr n ↦ rw n (filter_all p q xs both.1)
    ]

pub filter_twice : {A : Type 0} (q : A → Bool) (xs : List A) → filter q (filter q xs) ≡ filter q xs
filter_twice q [] = refl
filter_twice {A = A} q (x ∷ xs) =
    elim (cases_Bool (q x)) [
      | inl y ↦ rw (y, y) (ap (λ (l : List A). x ∷ l) (filter_twice q xs))
      | inr n ↦ rw n (filter_twice q xs)
    ]

pub filter_none : {A : Type 0} (p : A → Bool) (xs : List A) → list_any p xs ≡ false → filter (λ x. not (p x)) xs ≡ xs
filter_none p [] none = refl
filter_none {A = A} p (x ∷ xs) none =
    elim (cases_Bool (p x)) [
      | inl y ↦ absurd (let f = rw y at none in cc)
      | inr n ↦ rw n (ap (λ (l : List A). x ∷ l) (filter_none p xs (rw n at none)))
    ]

pub none_left : {A : Type 0} (p : A → Bool) (xs : List A) → list_any p (filter (λ x. not (p x)) xs) ≡ false
none_left p [] = refl
none_left p (x ∷ xs) =
    elim (cases_Bool (p x)) [
      | inl y ↦ rw y (none_left p xs)
      | inr n ↦ rw (n, n) (none_left p xs)
    ]

-- ---- parts joined

pub joined_first : (b : ℕ) (h : List ℕ) (ps : List (List ℕ)) → join_with_byte b (h ∷ ps) ≡ h ++ flat_map (λ p. b ∷ p) ps
joined_first b h [] = sym (append-nil h)
joined_first b h (p ∷ ps) = ap (λ (l : List ℕ). h ++ (b ∷ l)) (joined_first b p ps)

all_both : (p : ℕ → Bool) (s t : List ℕ) → list_all p s ≡ true → list_all p t ≡ true → list_all p (s ++ t) ≡ true
all_both p s t x y = rw (list_all-append, x, y) refl

pub joined_all : (p : ℕ → Bool) (b : ℕ) (ps : List (List ℕ)) → p b ≡ true → list_all (λ q. list_all p q) ps ≡ true → list_all p (join_with_byte b ps) ≡ true
joined_all p b [] at all = refl
joined_all p b (h ∷ []) at all = (and_true (list_all p h) true all).0
joined_all p b (h ∷ q ∷ ps) at all =
    let both = and_true (list_all p h) (list_all (λ r. list_all p r) (q ∷ ps)) all in
    all_both p h (b ∷ join_with_byte b (q ∷ ps)) both.0 (rw (at, joined_all p b (q ∷ ps) at both.1) refl)

pub joined_parts : (b : ℕ) (h : List ℕ) (ps : List (List ℕ)) → list_all (free b) (h ∷ ps) ≡ true → parts b (join_with_byte b (h ∷ ps)) ≡ h ∷ ps
joined_parts b h [] all = free_parts b h (and_true (free b h) true all).0
joined_parts b h (q ∷ ps) all =
    let both = and_true (free b h) (list_all (free b) (q ∷ ps)) all in
    parts_more b h (join_with_byte b (q ∷ ps)) ∙ ap (λ (l : List (List ℕ)). l ++ parts b (join_with_byte b (q ∷ ps))) (free_parts b h both.0) ∙ ap (λ (l : List (List ℕ)). h ∷ l) (joined_parts b q ps both.1)

-- ---- a host and parameters without causes

abbrev pub others : List (List ℕ) → List (List ℕ)
others ps = filter (λ p. not (is_cause p)) ps

pub plain_joined : (s h t : List ℕ) → parts 59 s ≡ h ∷ parts 59 t → host_part_without_causes s ≡ h ++ flat_map (λ p. 59 ∷ p) (others (parts 59 t))
plain_joined s h t e = ap (λ (l : List (List ℕ)). join_with_byte 59 (without_causes l)) e ∙ joined_first 59 h (others (parts 59 t))

but_all : (p : List ℕ → Bool) (ps : List (List ℕ)) → list_all p ps ≡ true → list_all p (without_causes ps) ≡ true
but_all p [] all = refl
but_all p (h ∷ ps) all =
    let both = and_true (p h) (list_all p ps) all in
    rw (both.0, filter_all p (λ q. not (is_cause q)) ps both.1) refl

-- no new byte occurs except a ';'
pub plain_all : (p : ℕ → Bool) (s : List ℕ) → p 59 ≡ true → list_all p s ≡ true → list_all p (host_part_without_causes s) ≡ true
plain_all p s at all = joined_all p 59 (without_causes (parts 59 s)) at (but_all (λ q. list_all p q) (parts 59 s) (parts_all p 59 s all))

plain_by : (s h : List ℕ) (ps : List (List ℕ)) → parts 59 s ≡ h ∷ ps → parts 59 (host_part_without_causes s) ≡ h ∷ others ps
plain_by s h ps e =
    let frees : list_all (free 59) (h ∷ ps) ≡ true = ap (λ (l : List (List ℕ)). list_all (free 59) l) (sym e) ∙ parts_free 59 s in
    let left : list_all (free 59) (h ∷ others ps) ≡ true = but_all (free 59) (h ∷ ps) frees in
    ap (λ (l : List (List ℕ)). parts 59 (join_with_byte 59 (without_causes l))) e ∙ joined_parts 59 h (others ps) left

-- the first part stays, and of the others those that are no causes
pub plain_parts : (s : List ℕ) → parts 59 (host_part_without_causes s) ≡ without_causes (parts 59 s)
plain_parts s =
    let f = parts_filled 59 s in
    plain_by s f.0 f.1 f.2 ∙ ap without_causes (sym f.2)

but_twice : (ps : List (List ℕ)) → without_causes (without_causes ps) ≡ without_causes ps
but_twice [] = refl
but_twice (h ∷ ps) = ap (λ (l : List (List ℕ)). h ∷ l) (filter_twice (λ q. not (is_cause q)) ps)

pub plain_twice : (s : List ℕ) → host_part_without_causes (host_part_without_causes s) ≡ host_part_without_causes s
plain_twice s = ap (λ (l : List (List ℕ)). join_with_byte 59 (without_causes l)) (plain_parts s) ∙ ap (λ (l : List (List ℕ)). join_with_byte 59 l) (but_twice (parts 59 s))

drop_but : (ps : List (List ℕ)) → drop 1 (without_causes ps) ≡ others (drop 1 ps)
drop_but [] = refl
drop_but (h ∷ ps) = refl

pub plain_params : (s : List ℕ) → drop 1 (parts 59 (host_part_without_causes s)) ≡ others (drop 1 (parts 59 s))
plain_params s = ap (λ (l : List (List ℕ)). drop 1 l) (plain_parts s) ∙ drop_but (parts 59 s)

but_none : (ps : List (List ℕ)) → list_any is_cause (drop 1 ps) ≡ false → without_causes ps ≡ ps
but_none [] none = refl
but_none (h ∷ ps) none = ap (λ (l : List (List ℕ)). h ∷ l) (filter_none is_cause ps none)

pub plain_none : (s : List ℕ) → list_any is_cause (drop 1 (parts 59 s)) ≡ false → host_part_without_causes s ≡ s
plain_none s none = ap (λ (l : List (List ℕ)). join_with_byte 59 l) (but_none (parts 59 s) none) ∙ join_with_byte-slice_split 59 s

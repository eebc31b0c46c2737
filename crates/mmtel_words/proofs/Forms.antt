-- How single words are read, and what they are spelled by.
use Rattle.std.proofs.Common.{◌≡◌, ◌∙◌, ℕ, suc, zero, ◌+◌, ◌<◌, ◌&&◌, ◌||◌, cond, true, false, not, nat_eq, refl, sym, ap, subst, codes}
use Rattle.std.proofs.Common.{List, [], ◌∷◌, ◌++◌, Bool, Some, None, Option, length, get_or, take, drop, arith, inl, inr, ◌==◌, ◌≢◌}
use Rattle.std.proofs.lemmas.Bool.{cases_Bool, eqb-true, eqb-false, ne_eqb}
use Rattle.std.proofs.lemmas.Slice.Eq.{bytes_eq-Decides}
use Rattle.std.specs.List.{list_all, before_first, after_first, position_or_len}
use Rattle.std.specs.Str.{bytes_eq}
use Rattle.clap.specs.Words.{Text}
use Rattle.clap.specs.Lexer.{has_byte, long_of, long_of_rest, name_and_value, short_of}
use Rattle.clap.proofs.CutLemmas.{Lacks}
use Rattle.clap.proofs.LexerLemmas.{name_and_value-at, name_and_value-without}
use Rattle.mmtel_words.specs.CommandLine.{is_among, is_positional}
use Rattle.mmtel_words.proofs.Reader.{joined, apart, place, bad, by_long, form_of}

pub equal : (a b : Text) → bytes_eq a b ≡ true → a ≡ b
equal a b e = (bytes_eq-Decides a b).0 e

pub equal_self : (a : Text) → bytes_eq a a ≡ true
equal_self a = (bytes_eq-Decides a a).1 refl

pub same_both : (a b : Text) → bytes_eq a b ≡ bytes_eq b a
same_both a b = by (bytes_eq a b) (bytes_eq b a) refl refl
  where
    turned : (x y : Text) → bytes_eq x y ≡ true → bytes_eq y x ≡ true
    turned x y e = (bytes_eq-Decides y x).1 (sym (equal x y e))

    by : (p q : Bool) → bytes_eq a b ≡ p → bytes_eq b a ≡ q → p ≡ q
    by true true e f = refl
    by false false e f = refl
    by true false e f = sym (turned a b e) ∙ f
    by false true e f = sym e ∙ turned b a f

-- ---- split at the first `=`

abbrev is_equals : ℕ → Bool
is_equals x = x == 61

cut : (t : Text) → has_byte 61 t ≡ true → t ≡ before_first is_equals t ++ 61 ∷ after_first is_equals t
cut [] e = cc
cut (x ∷ xs) e = by (x == 61) refl e (cut xs)
  where
    by : (b : Bool) → (x == 61) ≡ b → (b || has_byte 61 xs) ≡ true → (has_byte 61 xs ≡ true → xs ≡ before_first is_equals xs ++ 61 ∷ after_first is_equals xs)
        → x ∷ xs ≡ take (cond (not b) (1 + position_or_len is_equals xs) 0) (x ∷ xs) ++ 61 ∷ drop (cond (not b) (1 + position_or_len is_equals xs) 0 + 1) (x ∷ xs)
    by true same e h = ap (λ n. n ∷ xs) (eqb-true x 61 same)
    by false other e h =
        let n = position_or_len is_equals xs in
        let on : 1 + n ≡ suc n = omega arith in
        let more : 1 + n + 1 ≡ suc (n + 1) = omega arith in
        ap (λ l. x ∷ l) (h e) ∙ ap (λ k. take k (x ∷ xs) ++ 61 ∷ drop (n + 1) xs) (sym on) ∙ ap (λ k. take (1 + n) (x ∷ xs) ++ 61 ∷ drop k (x ∷ xs)) (sym more)

uncut : (t : Text) → has_byte 61 t ≡ false → before_first is_equals t ≡ t
uncut [] e = refl
uncut (x ∷ xs) e = by (x == 61) refl e (uncut xs)
  where
    by : (b : Bool) → (x == 61) ≡ b → (b || has_byte 61 xs) ≡ false → (has_byte 61 xs ≡ false → before_first is_equals xs ≡ xs)
        → take (cond (not b) (1 + position_or_len is_equals xs) 0) (x ∷ xs) ≡ x ∷ xs
    by true same e h = absurd cc
    by false other e h =
        let n = position_or_len is_equals xs in
        let on : 1 + n ≡ suc n = omega arith in
        ap (λ k. take k (x ∷ xs)) on ∙ ap (λ l. x ∷ l) (h e)

lacks : (t : Text) → has_byte 61 t ≡ false → Lacks 61 t
lacks [] e i lt = absurd (omega arith)
lacks (x ∷ xs) e i lt = by (x == 61) refl e (lacks xs) i lt
  where
    by : (b : Bool) → (x == 61) ≡ b → (b || has_byte 61 xs) ≡ false → (has_byte 61 xs ≡ false → Lacks 61 xs) → (i : ℕ) → i < length (x ∷ xs) → get_or (x ∷ xs) i 0 ≢ 61
    by true same e h i lt = absurd cc
    by false other e h zero lt = λ is. eqb-false x 61 other is
    by false other e h (suc i) lt = h e i (omega arith)

-- what is split is what was joined
cut_joined : (t k v : Text) → name_and_value t ≡ (k, Some v) → t ≡ k ++ 61 ∷ v
cut_joined t k v e = by (has_byte 61 t) refl e
  where
    by : (b : Bool) → has_byte 61 t ≡ b → ◌≡◌ {A = Text × Option Text} (before_first is_equals t, cond b (Some (after_first is_equals t)) None) (k, Some v) → t ≡ k ++ 61 ∷ v
    by true h e =
        let name : before_first is_equals t ≡ k = ap (λ (q : Text × Option Text). q.0) e in
        let some : Some (after_first is_equals t) ≡ Some v = ap (λ (q : Text × Option Text). q.1) e in
        let value : after_first is_equals t ≡ v = cc in
        cut t h ∙ ap (λ n. n ++ 61 ∷ after_first is_equals t) name ∙ ap (λ n. k ++ 61 ∷ n) value
    by false h e = absurd (let none : None ≡ Some v = ap (λ (q : Text × Option Text). q.1) e in cc)

cut_apart : (t k : Text) → name_and_value t ≡ (k, None) → t ≡ k
cut_apart t k e = by (has_byte 61 t) refl e
  where
    by : (b : Bool) → has_byte 61 t ≡ b → ◌≡◌ {A = Text × Option Text} (before_first is_equals t, cond b (Some (after_first is_equals t)) None) (k, None) → t ≡ k
    by true h e = absurd (let some : Some (after_first is_equals t) ≡ None = ap (λ (q : Text × Option Text). q.1) e in cc)
    by false h e = let name : before_first is_equals t ≡ k = ap (λ (q : Text × Option Text). q.0) e in sym (uncut t h) ∙ name

-- ---- what a word is spelled by

-- a word that is read as an option begins with two dashes
pub record Dashed (x : Text) (q : Text × Option Text) : Type 0 where
  pub rest : Text
  pub whole : x ≡ 45 ∷ 45 ∷ rest
  pub parts : name_and_value rest ≡ q

dashed : (x : Text) (q : Text × Option Text) → long_of x ≡ Some q → Dashed x q
dashed [] q e = absurd cc
dashed (a ∷ []) q e = by (a == 45) e
  where
    by : (b : Bool) → long_of (a ∷ []) ≡ Some q → Dashed (a ∷ []) q
    by b e = elim (cases_Bool (a == 45)) [
      | inl y ↦ absurd (let gone = rw y at e in cc)
      | inr n ↦ absurd (let gone = rw n at e in cc)
    ]
dashed (a ∷ c ∷ rest) q e = elim (cases_Bool (a == 45)) [
  | inr n ↦ absurd (let gone = rw n at e in cc)
  | inl y ↦ elim (cases_Bool (c == 45)) [
    | inr m ↦ absurd (let gone = rw (y, m) at e in cc)
    | inl z ↦
        let is : long_of_rest rest ≡ Some q = rw (y, z) at e in
        record { rest = rest; whole = ap (λ i. i ∷ c ∷ rest) (eqb-true a 45 y) ∙ ap (λ i. 45 ∷ i ∷ rest) (eqb-true c 45 z); parts = behind rest is }
  ]
]
  where
    behind : (rest : Text) → long_of_rest rest ≡ Some q → name_and_value rest ≡ q
    behind [] h = absurd cc
    behind (d ∷ ds) h = cc

pub joined_is : (x k v : Text) → long_of x ≡ Some (k, Some v) → x ≡ codes "--" ++ (k ++ 61 ∷ v)
joined_is x k v e = let d = dashed x (k, Some v) e in d.whole ∙ ap (λ t. 45 ∷ 45 ∷ t) (cut_joined d.rest k v d.parts)

pub apart_is : (x k : Text) → long_of x ≡ Some (k, None) → x ≡ codes "--" ++ k
apart_is x k e = let d = dashed x (k, None) e in d.whole ∙ ap (λ t. 45 ∷ 45 ∷ t) (cut_apart d.rest k d.parts)

-- a word that is neither
pub place_is : (x : Text) → bytes_eq x (45 ∷ 45 ∷ []) ≡ false → long_of x ≡ None → short_of x ≡ None → is_positional x ≡ true
place_is [] d l s = refl
place_is (b ∷ rest) d l s = elim (cases_Bool (b == 45)) [
  | inl y ↦ let P : ℕ → Type 0 = λ n. bytes_eq (n ∷ rest) (45 ∷ 45 ∷ []) ≡ false → long_of (n ∷ rest) ≡ None → short_of (n ∷ rest) ≡ None → is_positional (n ∷ rest) ≡ true in
      subst P (sym (eqb-true b 45 y)) (by rest) d l s
  | inr n ↦ let m : nat_eq 45 b ≡ false = ne_eqb 45 b (λ same. eqb-false b 45 n (sym same)) in rw (n, m) refl
]
  where
    by : (rest : Text) → bytes_eq (45 ∷ rest) (45 ∷ 45 ∷ []) ≡ false → long_of (45 ∷ rest) ≡ None → short_of (45 ∷ rest) ≡ None → is_positional (45 ∷ rest) ≡ true
    by [] d l s = refl
    by (c ∷ r) d l s = elim (cases_Bool (c == 45)) [
      | inr n ↦ absurd (let gone = rw n at s in cc)
      | inl y ↦ let P : ℕ → Type 0 = λ n. bytes_eq (45 ∷ n ∷ r) (45 ∷ 45 ∷ []) ≡ false → long_of (45 ∷ n ∷ r) ≡ None → is_positional (45 ∷ c ∷ r) ≡ true in subst P (sym (eqb-true c 45 y)) (two r) d l
    ]
      where
        two : (r : Text) → bytes_eq (45 ∷ 45 ∷ r) (45 ∷ 45 ∷ []) ≡ false → long_of (45 ∷ 45 ∷ r) ≡ None → is_positional (45 ∷ c ∷ r) ≡ true
        two [] d l = absurd cc
        two (e ∷ es) d l = absurd cc

-- ---- and back

-- a name of an option: not empty, and without `=`
abbrev pub is_name : Text → Bool
is_name [] = false
is_name (c ∷ cs) = not (has_byte 61 (c ∷ cs))

-- what holds of each name holds of one among them
pub among_all : (p : Text → Bool) (names : List Text) (k : Text) → list_all p names ≡ true → is_among names k ≡ true → p k ≡ true
among_all p [] k all among = absurd cc
among_all p (n ∷ names) k all among = by (p n) (bytes_eq n k) refl refl all among (among_all p names k)
  where
    by : (t b : Bool) → p n ≡ t → bytes_eq n k ≡ b → (t && list_all p names) ≡ true → (b || is_among names k) ≡ true → (list_all p names ≡ true → is_among names k ≡ true → p k ≡ true) → p k ≡ true
    by false b pn e all among h = absurd cc
    by true true pn e all among h = ap p (sym (equal n k e)) ∙ pn
    by true false pn e all among h = h all among

not-true : (b : Bool) → not b ≡ true → b ≡ false
not-true true e = sym e
not-true false e = refl

pub joined_form : (names : List Text) (k v : Text) → is_name k ≡ true → is_among names k ≡ true → form_of names (codes "--" ++ (k ++ 61 ∷ v)) ≡ joined k v
joined_form names [] v e among = absurd cc
joined_form names (c ∷ cs) v e among =
    ap (λ q. by_long names (Some q) None) (name_and_value-at (c ∷ cs) v (lacks (c ∷ cs) (not-true (has_byte 61 (c ∷ cs)) e)))
    ∙ ap (λ b. cond b (joined (c ∷ cs) v) bad) among

pub apart_form : (names : List Text) (k : Text) → is_name k ≡ true → is_among names k ≡ true → form_of names (codes "--" ++ k) ≡ apart k
apart_form names [] e among = absurd cc
apart_form names (c ∷ cs) e among =
    ap (λ q. by_long names (Some q) None) (name_and_value-without (c ∷ cs) (lacks (c ∷ cs) (not-true (has_byte 61 (c ∷ cs)) e)))
    ∙ ap (λ b. cond b (apart (c ∷ cs)) bad) among

pub place_form : (names : List Text) (x : Text) → is_positional x ≡ true → form_of names x ≡ place
place_form names [] e = refl
place_form names (b ∷ rest) e = elim (cases_Bool (b == 45)) [
  | inl y ↦ let P : ℕ → Type 0 = λ n. is_positional (n ∷ rest) ≡ true → form_of names (n ∷ rest) ≡ place in subst P (sym (eqb-true b 45 y)) (by rest) e
  | inr n ↦ rw n refl
]
  where
    by : (rest : Text) → is_positional (45 ∷ rest) ≡ true → form_of names (45 ∷ rest) ≡ place
    by [] e = refl
    by (c ∷ r) e = absurd cc

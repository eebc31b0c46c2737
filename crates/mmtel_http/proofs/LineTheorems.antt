-- Lines one after another: what is split at the first LF is the first line, and the lines of what follows it.
use Rattle.std.proofs.Common.{◌≡◌, ◌⊎◌, Bool, true, false, ℕ, suc, ◌+◌, ◌==◌, List, [], ◌∷◌, length, take, drop, Option, Some, None, cond, refl, sym, ap, ◌∙◌, nat_lt, arith, inl, inr, subst, Bor, MatchOption}
use Rattle.std.proofs.lemmas.Bool.{cases_Bool}
use Rattle.std.specs.Prelude.{position}
use Rattle.std.specs.List.{position_or_len}
use Rattle.std.specs.Option.{option_map, option_map_or}
use Rattle.std.proofs.lemmas.Bool.Decides.{nat_tests}
use Rattle.mmtel_base.specs.Scanning.{split_once_at}
use Rattle.mmtel_http.specs.Requests.{IsFirstLine, with_first, lines_of, head_end, head_size, seen_after}

abbrev is_feed : ℕ → Bool
is_feed x = x == 10

abbrev cut_at : List ℕ → ℕ → List ℕ × List ℕ
cut_at s n = (take n s, drop (n + 1) s)

at_feed : (b : ℕ) (s : List ℕ) → (b == 10) ≡ true → position is_feed (b ∷ s) ≡ Some 0
at_feed b s e =
    let low : nat_lt 0 (suc (length s)) ≡ true = grind (arith, nat_tests) in
    rw (e, low) refl

behind : (b : ℕ) (s : List ℕ) → (b == 10) ≡ false → position is_feed (b ∷ s) ≡ option_map (λ n. n + 1) (position is_feed s)
behind b s e =
    let a : ℕ = position_or_len is_feed s in
    elim (cases_Bool (nat_lt a (length s))) [
      | inl y ↦
          let low : nat_lt (1 + a) (suc (length s)) ≡ true = grind (arith, nat_tests, y) in
          rw (e, low, y) (ap (λ (n : ℕ). Some n) (omega arith))
      | inr no_such ↦
          let high : nat_lt (1 + a) (suc (length s)) ≡ false = grind (arith, nat_tests, no_such) in
          rw (e, high, no_such) refl
    ]

one_more : (b : ℕ) (s line after : List ℕ) → (b == 10) ≡ false → IsFirstLine s line after → IsFirstLine (b ∷ s) (b ∷ line) after
one_more b s line after e first = record {
  lines = rw (e, first.lines) refl;
  count = let c = first.count in omega (arith, c);
}

-- the position of the first LF splits the bytes there
at_place : (s : List ℕ) (n : ℕ) → position is_feed s ≡ Some n → IsFirstLine s (take n s) (drop (n + 1) s)
at_place [] n e = absurd cc
at_place (b ∷ s) n e = by (cases_Bool (b == 10)) (λ m f. at_place s m f)
  where
    same_some : (x y : ℕ) → Some x ≡ Some y → x ≡ y
    same_some x y f = cc

    deeper : (o : Option ℕ) → position is_feed s ≡ o → option_map (λ m. m + 1) o ≡ Some n → (b == 10) ≡ false
        → ((m : ℕ) → position is_feed s ≡ Some m → IsFirstLine s (take m s) (drop (m + 1) s))
        → IsFirstLine (b ∷ s) (take n (b ∷ s)) (drop (n + 1) (b ∷ s))
    deeper None f g other rest = absurd cc
    deeper (Some m) f g other rest =
        let v : n ≡ suc m = let h : m + 1 ≡ n = same_some (m + 1) n g in omega (arith, h) in
        let w : suc m + 1 ≡ suc (m + 1) = omega arith in
        rw (v, w) (one_more b s (take m s) (drop (m + 1) s) other (rest m f))

    by : ((b == 10) ≡ true) ⊎ ((b == 10) ≡ false)
        → ((m : ℕ) → position is_feed s ≡ Some m → IsFirstLine s (take m s) (drop (m + 1) s))
        → IsFirstLine (b ∷ s) (take n (b ∷ s)) (drop (n + 1) (b ∷ s))
    by (inl y) rest =
        let v : n ≡ 0 = sym (same_some 0 n (sym (at_feed b s y) ∙ e)) in
        rw v (record { lines = rw y refl; count = omega arith })
    by (inr other) rest = deeper (position is_feed s) refl (sym (behind b s other) ∙ e) other rest

no_place : (s : List ℕ) → position is_feed s ≡ None → lines_of s ≡ s ∷ []
no_place [] e = refl
no_place (b ∷ s) e = by (cases_Bool (b == 10)) (λ f. no_place s f)
  where
    unmapped : (o : Option ℕ) → option_map (λ m. m + 1) o ≡ None → o ≡ None
    unmapped None f = refl
    unmapped (Some m) f = absurd cc

    by : ((b == 10) ≡ true) ⊎ ((b == 10) ≡ false) → (position is_feed s ≡ None → lines_of s ≡ s ∷ []) → lines_of (b ∷ s) ≡ (b ∷ s) ∷ []
    by (inl y) rest = let f = sym (at_feed b s y) ∙ e in absurd cc
    by (inr other) rest = rw (other, rest (unmapped (position is_feed s) (sym (behind b s other) ∙ e))) refl

first_line : (s line after : List ℕ) → split_once_at 10 s ≡ Some (line, after) → IsFirstLine s line after
unfolding split_once_at
first_line s line after e = by (position is_feed s) refl e
  where
    by : (o : Option ℕ) → position is_feed s ≡ o → option_map (cut_at s) o ≡ Some (line, after) → IsFirstLine s line after
    by None f g = absurd cc
    by (Some n) f g =
        let same : cut_at s n ≡ (line, after) = cc in
        subst (λ (x : List ℕ × List ℕ). IsFirstLine s x.0 x.1) same (at_place s n f)

no_line : (s : List ℕ) → split_once_at 10 s ≡ None → lines_of s ≡ s ∷ []
unfolding split_once_at
no_line s e = by (position is_feed s) refl e
  where
    by : (o : Option ℕ) → position is_feed s ≡ o → option_map (cut_at s) o ≡ None → lines_of s ≡ s ∷ []
    by None f g = no_place s f
    by (Some n) f g = absurd cc

pub split_is_read : (s : List ℕ) (o : Option (Bor (List ℕ) × Bor (List ℕ))) → option_map (λ x. (x.0.now, x.1.now)) o ≡ split_once_at 10 s
    → MatchOption o (lines_of s ≡ s ∷ []) (λ x. IsFirstLine s x.0.now x.1.now)
split_is_read s None e = no_line s (sym e)
split_is_read s (Some x) e = first_line s x.0.now x.1.now (sym e)

-- ---- line after line: what was counted and the count of the remaining lines give the whole

abbrev pub Counted : List ℕ → ℕ → Bool → List ℕ → Type 0
Counted bytes size seen rest = option_map (λ n. size + n) (head_size seen (lines_of rest)) ≡ head_end bytes

pub begins : (bytes : List ℕ) → Counted bytes 0 false bytes
begins bytes = by (head_end bytes)
  where
    by : (o : Option ℕ) → option_map (λ n. 0 + n) o ≡ o
    by None = refl
    by (Some n) = ap (λ (m : ℕ). Some m) (omega arith)

-- there is always something after the last LF, if only no bytes
not_none : (s : List ℕ) → (next : List ℕ) × (more : List (List ℕ)) × (lines_of s ≡ next ∷ more)
not_none [] = ([], [], refl)
not_none (b ∷ s) = by (b == 10) (not_none s)
  where
    by : (c : Bool) → ((next : List ℕ) × (more : List (List ℕ)) × (lines_of s ≡ next ∷ more))
        → (next : List ℕ) × (more : List (List ℕ)) × (cond c ([] ∷ lines_of s) (with_first b (lines_of s)) ≡ next ∷ more)
    by true x = ([], lines_of s, refl)
    by false x = (b ∷ x.0, x.1, rw x.2 refl)

-- the result for the first line and the others
first_size : (seen : Bool) (rest line after : List ℕ) → IsFirstLine rest line after
    → head_size seen (lines_of rest) ≡ option_map_or (λ s. option_map (λ n. length line + 1 + n) (head_size s (lines_of after))) (seen_after seen line) (Some (length line + 1))
first_size seen rest line after first =
    let x = not_none after in
    rw (first.lines, x.2) refl

pub ends : (bytes rest line after : List ℕ) (size : ℕ) (seen : Bool) → Counted bytes size seen rest → IsFirstLine rest line after
    → seen_after seen line ≡ None → Some (size + length line + 1) ≡ head_end bytes
ends bytes rest line after size seen counted first last =
    let e = rw (first_size seen rest line after first, last) at counted in
    ap (λ (n : ℕ). Some n) (omega arith) ∙ e

pub goes_on : (bytes rest line after : List ℕ) (size : ℕ) (seen later : Bool) → Counted bytes size seen rest → IsFirstLine rest line after
    → seen_after seen line ≡ Some later → Counted bytes (size + length line + 1) later after
goes_on bytes rest line after size seen later counted first more =
    let e = rw (first_size seen rest line after first, more) at counted in
    by (head_size later (lines_of after)) ∙ e
  where
    by : (o : Option ℕ) → option_map (λ n. size + length line + 1 + n) o ≡ option_map (λ n. size + n) (option_map (λ n. length line + 1 + n) o)
    by None = refl
    by (Some n) = ap (λ (m : ℕ). Some m) (omega arith)

pub never : (bytes rest : List ℕ) (size : ℕ) (seen : Bool) → Counted bytes size seen rest → lines_of rest ≡ rest ∷ [] → None ≡ head_end bytes
never bytes rest size seen counted last = rw last at counted

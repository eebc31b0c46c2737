-- The places where lines and heads end.
use Rattle.std.proofs.Common.{◌≡◌, ◌==◌, Bool, true, false, ◌&&◌, ℕ, zero, suc, ◌+◌, ◌<◌, ◌≤◌, ◌-◌, List, [], ◌∷◌, length, take, drop, get_or}
use Rattle.std.proofs.Common.{get_or-drop, add-zero, Option, Some, None, refl, sym, ap, subst, ◌∙◌, arith, drop-cons, add-one, inl, inr, length-drop}
use Rattle.std.proofs.lemmas.List.{drop_all, drop-drop, take_all, take_rest}
use Rattle.std.specs.Option.{option_map}
use Rattle.std.proofs.lemmas.Bool.{cases_Bool}
use Rattle.std.proofs.lemmas.Bool.Decides.{nat_tests}
use Rattle.memchr.specs.Find.{Nowhere, Passes, is_byte}
use Rattle.mmtel_base.proofs.Runs.{and_true}
use Rattle.mmtel_message.specs.declared.lines.Break.{Break}
use Rattle.mmtel_message.specs.declared.lines.Break.TheVariants.{Line, Head}
use Rattle.mmtel_message.specs.Lines.{crlf, begins_with_break, width, first_break, put, split, or_found, last_line_end}

-- ---- the loop

abbrev pub Goes : Option ℕ → Break → ℕ → List ℕ → Type 0
Goes total k i s = total ≡ option_map (λ n. i + n) (first_break k (drop i s))

pub shift : (i : ℕ) (o : Option ℕ) → option_map (λ n. i + n) (option_map (λ n. n + 1) o) ≡ option_map (λ n. i + 1 + n) o
shift i None = refl
shift i (Some n) = ap (λ (m : ℕ). Some m) (omega arith)

pub over : (k : Break) (total : Option ℕ) (i : ℕ) (s : List ℕ) → i < length s → begins_with_break k (drop i s) ≡ false → Goes total k i s → Goes total k (i + 1) s
unfolding first_break
over k total i s lt e so_far =
    let one : drop i s ≡ get_or s i 0 ∷ drop (i + 1) s = rw (add-one, drop-cons s i 0) refl in
    (rw (one, rw one at e) at so_far) ∙ shift i (first_break k (drop (i + 1) s))

pub stops_at : (k : Break) (total : Option ℕ) (i : ℕ) (s : List ℕ) → i < length s → begins_with_break k (drop i s) ≡ true → Goes total k i s → total ≡ Some i
unfolding first_break
stops_at k total i s lt e so_far =
    let one : drop i s ≡ get_or s i 0 ∷ drop (i + 1) s = rw (add-one, drop-cons s i 0) refl in
    (rw (one, rw one at e) at so_far) ∙ ap (λ (m : ℕ). Some m) (omega arith)

pub never : (k : Break) (total : Option ℕ) (i : ℕ) (s : List ℕ) → i ≡ length s → Goes total k i s → total ≡ None
unfolding first_break
never k total i s e so_far = rw (drop_all i s (omega arith)) at so_far

crlf_width : (s : List ℕ) → crlf s ≡ true → 2 ≤ length s
crlf_width [] e = absurd cc
crlf_width (b ∷ []) e = absurd (elim (cases_Bool (b == 13)) [ inl y ↦ let f : (b == 13 && false) ≡ true = e in absurd cc | inr n ↦ absurd cc ])
crlf_width (b ∷ c ∷ s) e = omega arith

pub begins_width : (k : Break) (s : List ℕ) → begins_with_break k s ≡ true → width k ≤ length s
begins_width Line s e = crlf_width s e
begins_width Head s e =
    let both = and_true (crlf s) (crlf (drop 2 s)) e in
    let two = crlf_width s both.0 in
    let four = crlf_width (drop 2 s) both.1 in
    let cut : length (drop 2 s) ≡ length s - 2 = length-drop 2 s in
    omega arith

pub fits : (k : Break) (i : ℕ) (s : List ℕ) → begins_with_break k (drop i s) ≡ true → i < length s → i + width k ≤ length s
fits k i s e lt =
    let enough = begins_width k (drop i s) e in
    let cut : length (drop i s) ≡ length s - i = length-drop i s in
    omega arith

-- ---- lines

abbrev pub done : ℕ → Option ℕ
done n = Some n

pub same_some : (m n : ℕ) → done m ≡ done n → m ≡ n
same_some m n e = cc

pub mapped : (o : Option ℕ) (n : ℕ) → option_map (λ m. m + 1) o ≡ Some n → (m : ℕ) × (o ≡ Some m) × (suc m ≡ n)
mapped None n e = absurd cc
mapped (Some m) n e = (m, refl, omega (arith, same_some (m + 1) n e))

pub unmapped : (o : Option ℕ) → option_map (λ m. m + 1) o ≡ None → o ≡ None
unmapped None e = refl
unmapped (Some m) e = absurd cc

put_is_cons : (b : ℕ) (s : List (List ℕ)) → (l : List ℕ) × (ls : List (List ℕ)) × (put b s ≡ l ∷ ls)
put_is_cons b [] = (b ∷ [], [], refl)
put_is_cons b (l ∷ ls) =
    elim (cases_Bool (crlf (b ∷ l))) [
      | inl y ↦ ([], drop 1 l ∷ ls, rw y refl)
      | inr n ↦ (b ∷ l, ls, rw n refl)
    ]

pub split_is_cons : (s : List ℕ) → (l : List ℕ) × (ls : List (List ℕ)) × (split s ≡ l ∷ ls)
unfolding split
split_is_cons [] = ([], [], refl)
split_is_cons (b ∷ s) = put_is_cons b (split s)

pub and_false : (a : Bool) → (a && false) ≡ false
and_false true = refl
and_false false = refl

crlf_take : (b m : ℕ) (t : List ℕ) → crlf (b ∷ t) ≡ false → crlf (b ∷ take m t) ≡ false
crlf_take b zero t e = and_false (b == 13)
crlf_take b (suc m) [] e = e
crlf_take b (suc m) (c ∷ u) e = e

split_first : (b : ℕ) (t : List ℕ) → crlf (b ∷ t) ≡ true → split (b ∷ t) ≡ [] ∷ split (drop 1 t)
unfolding split
split_first b [] e = let f : (b == 13 && false) ≡ false = and_false (b == 13) in absurd cc
split_first b (c ∷ u) e =
    let both = and_true (b == 13) (c == 10) e in
    let other : (c == 13) ≡ false = grind (arith, nat_tests, both.1) in
    let p = split_is_cons u in
    rw (p.2, other, both.0, both.1) refl

pub split_none : (s : List ℕ) → first_break Line s ≡ None → split s ≡ s ∷ []
unfolding split first_break
split_none [] e = refl
split_none (b ∷ t) e =
    elim (cases_Bool (crlf (b ∷ t))) [
      | inl y ↦ let f = rw y at e in absurd cc
      | inr n ↦ rw (split_none t (unmapped (first_break Line t) (rw n at e)), n) refl
    ]

split_later : (b : ℕ) (t : List ℕ) (m n : ℕ) → crlf (b ∷ t) ≡ false → suc m ≡ n → split t ≡ take m t ∷ split (drop (m + 2) t) → split (b ∷ t) ≡ take n (b ∷ t) ∷ split (drop (n + 2) (b ∷ t))
unfolding split
split_later b t m n other e more =
    let two : suc m + 2 ≡ suc (m + 2) = omega arith in
    subst (λ (k : ℕ). put b (split t) ≡ take k (b ∷ t) ∷ split (drop (k + 2) (b ∷ t))) e (rw (more, crlf_take b m t other, two) refl)

pub split_some : (s : List ℕ) (n : ℕ) → first_break Line s ≡ Some n → split s ≡ take n s ∷ split (drop (n + 2) s)
unfolding first_break
split_some [] n e = absurd cc
split_some (b ∷ t) n e =
    elim (cases_Bool (crlf (b ∷ t))) [
      | inl y ↦
          subst (λ (m : ℕ). split (b ∷ t) ≡ take m (b ∷ t) ∷ split (drop (m + 2) (b ∷ t))) (same_some 0 n (rw y at e)) (split_first b t y)
      | inr other ↦
          let p = mapped (first_break Line t) n (rw other at e) in
          split_later b t p.0 n other p.2 (split_some t p.0 p.1)
    ]

-- the rest of a slice
pub whole_rest : (s : List ℕ) (i : ℕ) → i ≤ length s → take (length s - i) (drop i s) ≡ drop i s
whole_rest s i le = take_all (length s - i) (drop i s) (let cut : length (drop i s) ≡ length s - i = length-drop i s in omega arith)

-- ---- the line that begins at a place

pub line_alone : (s : List ℕ) (from : ℕ) → first_break Line (drop from s) ≡ None → split (drop from s) ≡ take (length s - from) (drop from s) ∷ []
line_alone s from e = split_none (drop from s) e ∙ ap (λ (l : List ℕ). l ∷ []) (sym (take_rest s from))

pub line_first : (s : List ℕ) (from len : ℕ) → first_break Line (drop from s) ≡ Some len → split (drop from s) ≡ take len (drop from s) ∷ split (drop (from + len + 2) s)
line_first s from len e =
    let later : drop (len + 2) (drop from s) ≡ drop (from + len + 2) s = drop-drop (len + 2) from s ∙ ap (λ (n : ℕ). drop n s) (omega arith) in
    rw later at (split_some (drop from s) len e)

no_return_first : (k : Break) (b : ℕ) (s : List ℕ) → (b == 13) ≡ false → begins_with_break k (b ∷ s) ≡ false
no_return_first Line b s e = rw e refl
no_return_first Head b s e = rw e refl

-- a line end does not begin with another byte
pub no_return : (k : Break) (s : List ℕ) (i : ℕ) → i < length s → (get_or s i 0 == 13) ≡ false → begins_with_break k (drop i s) ≡ false
no_return k s i lt e =
    let one : drop i s ≡ get_or s i 0 ∷ drop (i + 1) s = rw (add-one, drop-cons s i 0) refl in
    rw one (no_return_first k (get_or s i 0) (drop (i + 1) s) e)

-- no line end occurs before the first CR of the rest
pub skips : (k : Break) (total : Option ℕ) (i n : ℕ) (s : List ℕ) → i + n ≤ length s → Nowhere (Passes (is_byte 13) (take (length s - i) (drop i s))) 0 n → Goes total k i s → Goes total k (i + n) s
skips k total i zero s le none so_far = rw add-zero so_far
skips k total i (suc n) s le none so_far =
    let here : get_or (take (length s - i) (drop i s)) n 0 ≡ get_or s (i + n) 0 = rw (whole_rest s i (omega arith)) (get_or-drop i s n 0) in
    let other : (get_or s (i + n) 0 == 13) ≡ false = elim (cases_Bool (get_or s (i + n) 0 == 13)) [
      | inl y ↦ absurd (none n (omega arith) (omega arith) (rw here y))
      | inr differs ↦ differs
    ] in
    let so_far : Goes total k (i + n) s = skips k total i n s (omega arith) (λ j low less. none j low (omega (arith, less))) so_far in
    let next : i + suc n ≡ i + n + 1 = omega arith in
    rw next (over k total (i + n) s (omega arith) (no_return k s (i + n) (omega arith) other) so_far)

pub reaches : (i n : ℕ) (s : List ℕ) → i ≤ length s → n < length (take (length s - i) (drop i s)) → i + n < length s
reaches i n s le less =
    let rest : n < length (drop i s) = rw (whole_rest s i le) at less in
    let cut : length (drop i s) ≡ length s - i = length-drop i s in
    omega (arith, rest, cut)

pub none_left : (k : Break) (total : Option ℕ) (i : ℕ) (s : List ℕ) → i ≤ length s → Nowhere (Passes (is_byte 13) (take (length s - i) (drop i s))) 0 (length (take (length s - i) (drop i s))) →
    Goes total k i s → Goes total k (length s) s
none_left k total i s le none so_far =
    let all : length (take (length s - i) (drop i s)) ≡ length s - i = rw (whole_rest s i le) (length-drop i s) in
    let whole : i + length (take (length s - i) (drop i s)) ≡ length s = omega (arith, all) in
    rw whole at (skips k total i (length (take (length s - i) (drop i s))) s (omega (arith, all)) none so_far)

-- ---- the last line end

abbrev pub Found : Option ℕ → ℕ → Option ℕ → List ℕ → Type 0
Found total i found s = total ≡ or_found (option_map (λ n. i + n) (last_line_end (drop i s))) found

moved : (i : ℕ) (o here found : Option ℕ) → or_found (option_map (λ n. i + n) (or_found (option_map (λ n. n + 1) o) here)) found ≡ or_found (option_map (λ n. i + 1 + n) o) (or_found (option_map (λ n. i + n) here) found)
moved i None here found = refl
moved i (Some m) here found = ap (λ (n : ℕ). Some n) (omega arith)

first_found : (o : Option ℕ) → o ≡ or_found (option_map (λ n. 0 + n) o) None
first_found None = refl
first_found (Some m) = ap (λ (n : ℕ). Some n) (omega arith)

pub found_here : (total : Option ℕ) (i : ℕ) (found : Option ℕ) (s : List ℕ) → i < length s → crlf (drop i s) ≡ true → Found total i found s → Found total (i + 1) (Some i) s
unfolding last_line_end
found_here total i found s lt e so_far =
    let one : drop i s ≡ get_or s i 0 ∷ drop (i + 1) s = rw (add-one, drop-cons s i 0) refl in
    let zero_more : i + 0 ≡ i = omega arith in
    rw zero_more at ((rw (one, rw one at e) at so_far) ∙ moved i (last_line_end (drop (i + 1) s)) (Some 0) found)

pub found_not : (total : Option ℕ) (i : ℕ) (found : Option ℕ) (s : List ℕ) → i < length s → crlf (drop i s) ≡ false → Found total i found s → Found total (i + 1) found s
unfolding last_line_end
found_not total i found s lt e so_far =
    let one : drop i s ≡ get_or s i 0 ∷ drop (i + 1) s = rw (add-one, drop-cons s i 0) refl in
    (rw (one, rw one at e) at so_far) ∙ moved i (last_line_end (drop (i + 1) s)) None found

pub found_all : (total : Option ℕ) (i : ℕ) (found : Option ℕ) (s : List ℕ) → i ≡ length s → Found total i found s → total ≡ found
unfolding last_line_end
found_all total i found s e so_far = rw (drop_all i s (omega arith)) at so_far

pub found_first : (s : List ℕ) → Found (last_line_end s) 0 None s
found_first s = first_found (last_line_end s)

-- Texts in quotes.
use Rattle.std.proofs.Common.{◌≡◌, ◌==◌, Bool, true, false, not, ℕ, suc, ◌+◌, ◌<◌, List, [], ◌∷◌, ◌++◌, length, take, drop, get_or, Option, Some, None, refl, sym, ap, subst, ◌∙◌, arith, drop-cons, add-one, inl, inr}
use Rattle.std.proofs.lemmas.List.{drop_all}
use Rattle.std.specs.Prelude.{IfSome, IsNone}
use Rattle.std.specs.Option.{option_map}
use Rattle.std.proofs.lemmas.Bool.{cases_Bool}
use Rattle.std.proofs.lemmas.Bool.Decides.{nat_tests}
use Rattle.mmtel_base.specs.Scanning.{is_quoted_content, closing_quote_from, IsClosedAt}
use Rattle.mmtel_base.proofs.Runs.{and_true}

-- ---- the loop

abbrev pub Goes : Option ℕ → ℕ → Bool → List ℕ → Type 0
Goes total i escaped s = total ≡ option_map (λ n. i + n) (closing_quote_from escaped (drop i s))

shift : (i : ℕ) (o : Option ℕ) → option_map (λ n. i + n) (option_map (λ n. n + 1) o) ≡ option_map (λ n. i + 1 + n) o
shift i None = refl
shift i (Some n) = ap (λ (m : ℕ). Some m) (omega arith)

pub over_escaped : (total : Option ℕ) (i : ℕ) (s : List ℕ) → i < length s → Goes total i true s → Goes total (i + 1) false s
unfolding closing_quote_from
over_escaped total i s lt so_far =
    let one : drop i s ≡ get_or s i 0 ∷ drop (i + 1) s = rw (add-one, drop-cons s i 0) refl in
    (rw one at so_far) ∙ shift i (closing_quote_from false (drop (i + 1) s))

pub over_plain : (total : Option ℕ) (i : ℕ) (s : List ℕ) → i < length s → (get_or s i 0 == 34) ≡ false → Goes total i false s → Goes total (i + 1) (get_or s i 0 == 92) s
unfolding closing_quote_from
over_plain total i s lt e so_far =
    let one : drop i s ≡ get_or s i 0 ∷ drop (i + 1) s = rw (add-one, drop-cons s i 0) refl in
    (rw (one, e) at so_far) ∙ shift i (closing_quote_from (get_or s i 0 == 92) (drop (i + 1) s))

pub stops_at : (total : Option ℕ) (i : ℕ) (s : List ℕ) → i < length s → (get_or s i 0 == 34) ≡ true → Goes total i false s → total ≡ Some i
unfolding closing_quote_from
stops_at total i s lt e so_far =
    let one : drop i s ≡ get_or s i 0 ∷ drop (i + 1) s = rw (add-one, drop-cons s i 0) refl in
    (rw (one, e) at so_far) ∙ ap (λ (m : ℕ). Some m) (omega arith)

pub never : (total : Option ℕ) (i : ℕ) (escaped : Bool) (s : List ℕ) → i ≡ length s → Goes total i escaped s → total ≡ None
unfolding closing_quote_from
never total i escaped s e so_far = rw (drop_all i s (omega arith)) at so_far

-- ---- what is read and what is spelled

abbrev done : ℕ → Option ℕ
done n = Some n

same_some : (m n : ℕ) → done m ≡ done n → m ≡ n
same_some m n e = cc

mapped : (o : Option ℕ) (n : ℕ) → option_map (λ m. m + 1) o ≡ Some n → (m : ℕ) × (o ≡ Some m) × (suc m ≡ n)
mapped None n e = absurd cc
mapped (Some m) n e = (m, refl, omega (arith, same_some (m + 1) n e))

abbrev pub ClosesAt : Bool → List ℕ → ℕ → Type 0
ClosesAt escaped s n = (s ≡ take n s ++ 34 ∷ drop (suc n) s) × (is_quoted_content escaped (take n s) ≡ true)

pub closing_takes : (escaped : Bool) (s : List ℕ) (n : ℕ) → closing_quote_from escaped s ≡ Some n → (s ≡ take n s ++ 34 ∷ drop (suc n) s) × (is_quoted_content escaped (take n s) ≡ true)
unfolding closing_quote_from
closing_takes escaped [] n e = absurd cc
closing_takes true (b ∷ s) n e =
    let p = mapped (closing_quote_from false s) n e in
    let more = closing_takes false s p.0 p.1 in
    subst (λ (m : ℕ). ClosesAt true (b ∷ s) m) p.2 (ap (λ (l : List ℕ). b ∷ l) more.0, more.1)
closing_takes false (b ∷ s) n e =
    elim (cases_Bool (b == 34)) [
      | inl y ↦
          let quote : b ≡ 34 = grind (arith, nat_tests, y) in
          subst (λ (m : ℕ). ClosesAt false (b ∷ s) m) (same_some 0 n (rw y at e)) (ap (λ (c : ℕ). c ∷ s) quote, refl)
      | inr n34 ↦
          let p = mapped (closing_quote_from (b == 92) s) n (rw n34 at e) in
          let more = closing_takes (b == 92) s p.0 p.1 in
          subst (λ (m : ℕ). ClosesAt false (b ∷ s) m) p.2 (ap (λ (l : List ℕ). b ∷ l) more.0, rw (n34, more.1) refl)
    ]

pub closing_again : (escaped : Bool) (a r : List ℕ) → is_quoted_content escaped a ≡ true → closing_quote_from escaped (a ++ 34 ∷ r) ≡ Some (length a)
unfolding closing_quote_from
closing_again true [] r e = absurd cc
closing_again false [] r e = refl
closing_again true (b ∷ a) r e = rw (closing_again false a r e) (ap (λ (m : ℕ). Some m) (omega arith))
closing_again false (b ∷ a) r e =
    let both = and_true (not (b == 34)) (is_quoted_content (b == 92) a) e in
    let other : (b == 34) ≡ false = grind (arith, nat_tests, both.0) in
    rw (other, closing_again (b == 92) a r both.1) (ap (λ (m : ℕ). Some m) (omega arith))

-- ---- what the clauses of the scanner claim

pub closed_by : (s : List ℕ) (r : Option ℕ) → r ≡ closing_quote_from false s → IfSome r (λ at. IsClosedAt s at)
closed_by s None e = tt
closed_by s (Some at) e =
    let is = closing_takes false s at (sym e) in
    record { whole = is.0; inner = is.1 }

found_none : (r : Option ℕ) (n : ℕ) → IsNone r → r ≡ Some n → ⊥
found_none None n none e = absurd cc
found_none (Some m) n none e = absurd cc

pub unclosed_by : (s : List ℕ) (r : Option ℕ) → r ≡ closing_quote_from false s → IsNone r → (inner rest : List ℕ) → s ≡ inner ++ 34 ∷ rest → is_quoted_content false inner ≡ true → ⊥
unclosed_by s r e none inner rest whole is = found_none r (length inner) none (e ∙ ap (λ (l : List ℕ). closing_quote_from false l) whole ∙ closing_again false inner rest is)

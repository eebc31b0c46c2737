-- The order of deadlines, on numbers.
use Rattle.std.proofs.Common.{◌≡◌, ℕ, zero, suc, ◌+◌, ◌≤◌, ◌<◌, List, [], ◌∷◌, refl, true, false, Bool, ◌⊎◌, inl, inr, sym, ap, ◌∙◌, arith, nat_lt, ◌&&◌, ◌||◌}
use Rattle.std.specs.Prelude.{Option, Some, None, ◌==◌, option_map, slice_get}
use Rattle.std.specs.Option.{option_or}
use Rattle.std.proofs.lemmas.Bool.{eq-eqb, eqb-true, le-ltb, ltb-false, or_from, or_parts}
use Rattle.std.proofs.lemmas.Bool.Decides.{nat_tests}
use Rattle.std.proofs.lemmas.Option.{none-some, same_Some}

-- what comes next is later: along a closed list of moments, and from its last one to the timeout
abbrev pub Climbs : List ℕ → Type 0
Climbs [] = Unit {0}
Climbs (d ∷ []) = d < 32000
Climbs (d ∷ e ∷ ds) = (d < e) × Climbs (e ∷ ds)

pub counted_at : (start : ℕ) (o : Option ℕ) (a : ℕ) → option_map (λ d. start + d) o ≡ Some a → (d : ℕ) × (o ≡ Some d) × (start + d ≡ a)
counted_at start None a q = absurd (none-some a q)
counted_at start (Some d) a q = (d, refl, same_Some (start + d) a q)

pub climbs : (ds : List ℕ) (k start a b : ℕ) → Climbs ds → option_map (λ d. start + d) (slice_get ds k) ≡ Some a → option_or (option_map (λ d. start + d) (slice_get ds (suc k))) (Some (start + 32000)) ≡ Some b → a < b
climbs [] k start a b c q r = absurd (none-some a q)
climbs (d ∷ []) zero start a b c q r = let x = same_Some (start + d) a q in let y = same_Some (start + 32000) b r in omega (arith, x, y, c)
climbs (d ∷ []) (suc k) start a b c q r = absurd (none-some a q)
climbs (d ∷ e ∷ ds) zero start a b c q r = let x = same_Some (start + d) a q in let y = same_Some (start + e) b r in omega (arith, x, y, c.0)
climbs (d ∷ e ∷ ds) (suc k) start a b c q r = climbs (e ∷ ds) k start a b c.1 q r

-- the order of deadlines, on numbers: of moments, steps and messages sent
abbrev pub before : ℕ → ℕ → ℕ → ℕ → ℕ → ℕ → Bool
before a s o b t u = nat_lt a b || ((a == b) && (nat_lt s t || ((s == t) && nat_lt o u)))

pub not_less : (a s o b t u : ℕ) → before a s o b t u ≡ false → b ≤ a
not_less a s o b t u q = ltb-false a b (or_parts (nat_lt a b) ((a == b) && (nat_lt s t || ((s == t) && nat_lt o u))) q).0

pub not_same : (a s o b t u : ℕ) → before a s o b t u ≡ false → a ≡ b → (t ≤ s) × (s ≡ t → u ≤ o)
not_same a s o b t u q e =
    let w = (or_parts (nat_lt a b) ((a == b) && (nat_lt s t || ((s == t) && nat_lt o u))) q).1 in
    let v : (nat_lt s t || ((s == t) && nat_lt o u)) ≡ false = ap (λ x. x && (nat_lt s t || ((s == t) && nat_lt o u))) (sym (eq-eqb a b e)) ∙ w in
    let y = or_parts (nat_lt s t) ((s == t) && nat_lt o u) v in
    (ltb-false s t y.0, λ f. ltb-false o u (ap (λ x. x && nat_lt o u) (sym (eq-eqb s t f)) ∙ y.1))

pub not_before : (a s o b t u : ℕ) → b ≤ a → (a ≡ b → (t ≤ s) × (s ≡ t → u ≤ o)) → before a s o b t u ≡ false
not_before a s o b t u l f = or_from (nat_lt a b) ((a == b) && (nat_lt s t || ((s == t) && nat_lt o u))) (le-ltb a b l) (either (a == b) refl)
  where
    second : (x : Bool) → (s == t) ≡ x → (s ≡ t → u ≤ o) → (x && nat_lt o u) ≡ false
    second true e g = le-ltb o u (g (eqb-true s t e))
    second false e g = refl

    either : (x : Bool) → (a == b) ≡ x → (x && (nat_lt s t || ((s == t) && nat_lt o u))) ≡ false
    either true e = let w = f (eqb-true a b e) in or_from (nat_lt s t) ((s == t) && nat_lt o u) (le-ltb s t w.0) (second (s == t) refl w.1)
    either false e = refl

-- x is not before z, where it is not before y and y is not before z
pub through : (a s o b t u c v w : ℕ) → before a s o b t u ≡ false → before b t u c v w ≡ false → before a s o c v w ≡ false
through a s o b t u c v w q r =
    let l = not_less a s o b t u q in
    let m = not_less b t u c v w r in
    not_before a s o c v w (omega (arith, l, m)) (λ e.
    let ab : a ≡ b = omega (arith, l, m, e) in
    let bc : b ≡ c = omega (arith, l, m, e) in
    let x = not_same a s o b t u q ab in
    let y = not_same b t u c v w r bc in
    (omega (arith, x.0, y.0), λ g. let st : s ≡ t = omega (arith, x.0, y.0, g) in let tv : t ≡ v = omega (arith, x.0, y.0, g) in omega (arith, x.1 st, y.1 tv)))

less_or : (a s o b t u : ℕ) → before a s o b t u ≡ true → (a < b) ⊎ ((a ≡ b) × ((s < t) ⊎ ((s ≡ t) × (o < u))))
less_or a s o b t u q = grind (arith, nat_tests)

-- one of two is not before the other
pub other_way : (a s o b t u : ℕ) → before a s o b t u ≡ true → before b t u a s o ≡ false
other_way a s o b t u q = elim (less_or a s o b t u q) [
  | inl l ↦ not_before b t u a s o (omega (arith, l)) (λ e. absurd (omega (arith, l, e)))
  | inr w ↦ not_before b t u a s o (omega (arith, w.0)) (λ e. elim w.1 [
    | inl l ↦ (omega (arith, l), λ f. absurd (omega (arith, l, f)))
    | inr v ↦ (omega (arith, v.0), λ f. omega (arith, v.1))
  ])
]

pub itself : (a s o : ℕ) → before a s o a s o ≡ false
itself a s o = not_before a s o a s o (omega arith) (λ e. (omega arith, λ f. omega arith))

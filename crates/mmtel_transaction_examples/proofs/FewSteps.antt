-- How few steps a bound by a power of two allows.
use Rattle.std.proofs.Common.{◌≡◌, ℕ, suc, ◌+◌, ◌-◌, ◌*◌, ◌≤◌, ◌<◌, ◌^◌, arith, inl, inr}
use Rattle.std.proofs.Math.Pow.{pow_mono}
use Rattle.std.proofs.lemmas.Bool.{cases_lt}

pub at_most : (s k : ℕ) → 2 ^ s < 2 ^ suc k → s ≤ k
at_most s k l = elim (cases_lt s (suc k)) [
  | inl m ↦ omega (arith, m)
  | inr m ↦ absurd (omega (arith, l, pow_mono m))
]

pub few : (n m k a b : ℕ) → n ≡ m → 2 ^ (b - a) ≤ 2 * n + 1 → 2 * m + 1 < 2 ^ suc k → b ≤ a + k
few n m k a b q l more =
    let s : b - a ≤ k = at_most (b - a) k (omega (arith, q, l, more)) in
    omega (arith, s)

pub no_step : (n a b : ℕ) → n ≡ 0 → 2 ^ (b - a) ≤ 2 * n + 1 → a ≤ b → b ≡ a
no_step n a b q l up =
    let s : b ≤ a + 0 = few n 0 0 a b q l (omega arith) in
    omega (arith, s, up)

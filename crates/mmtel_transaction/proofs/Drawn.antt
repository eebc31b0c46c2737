-- Tokens of two draws differ.
use Rattle.std.proofs.Common.{◌≡◌, ℕ, ◌+◌, ◌-◌, ◌^◌, ◌<◌, [], ◌∷◌, arith}
use Rattle.std.specs.Prelude.{decimal}
use Rattle.std.proofs.Math.Nat.{min-eq_left}
use Rattle.std.proofs.lemmas.Fmt.{decimal_injective}
use Rattle.std.proofs.lemmas.List.{append_cancel_left}
use Rattle.mmtel_base.specs.Numbers.{next_number}
use Rattle.mmtel_transaction.specs.Theorems.{TokensDiffer}

next_is : (n : ℕ) → n < 2 ^ 64 - 1 → next_number n ≡ n + 1
next_is n l = min-eq_left (omega (arith, l))

small_next : (n : ℕ) → n < 2 ^ 64 - 1 → next_number n < 2 ^ 64
small_next n l = omega (arith, l, next_is n l)

pub differ : TokensDiffer
differ token m n l k q =
    let e = append_cancel_left token (45 ∷ decimal (next_number m)) (45 ∷ decimal (next_number n)) q in
    let d = append_cancel_left (45 ∷ []) (decimal (next_number m)) (decimal (next_number n)) e in
    omega (arith, decimal_injective (next_number m) (next_number n) (small_next m l) (small_next n k) d, next_is m l, next_is n k)

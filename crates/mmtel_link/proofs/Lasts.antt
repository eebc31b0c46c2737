-- The last of the numbers, by its index.
use Rattle.std.proofs.Common.{◌≡◌, ◌+◌, ◌-◌, ◌<◌, ℕ, suc, List, [], ◌∷◌, length, get_or, slice_set, arith, refl, ap}
use Rattle.mmtel_link.specs.LinkStates.{last_or_none, more_of_last}

pub last_is : (reads : List ℕ) → 0 < length reads → get_or reads (length reads - 1) 0 ≡ last_or_none reads
last_is [] h = absurd (omega (arith, h))
last_is (n ∷ []) h = refl
last_is (n ∷ m ∷ reads) h =
    let e : length (n ∷ m ∷ reads) - 1 ≡ suc (length (m ∷ reads) - 1) = omega arith in
    rw e (last_is (m ∷ reads) (omega arith))

pub changed : (reads : List ℕ) (k : ℕ) → 0 < length reads → slice_set reads (length reads - 1) (last_or_none reads + k) ≡ more_of_last k reads
changed [] k h = absurd (omega (arith, h))
changed (n ∷ []) k h = refl
changed (n ∷ m ∷ reads) k h =
    let e : length (n ∷ m ∷ reads) - 1 ≡ suc (length (m ∷ reads) - 1) = omega arith in
    rw e (ap (λ (l : List ℕ). n ∷ l) (changed (m ∷ reads) k (omega arith)))

-- Halving the rest of a list, in the search for a place in it.
use Rattle.std.proofs.Common.{◌≡◌, ℕ, suc, ◌+◌, ◌-◌, ◌*◌, ◌^◌, ◌≤◌, ◌<◌, Bool, true, false, List, length, refl, sym, ap, ◌∙◌, arith, mul_assoc, mul-one, mul-le-mul_left, pow-suc}
use Rattle.std.specs.Prelude.{slice_index_or}
use Rattle.std.specs.List.{AllWithin, HoldsAt}
use Rattle.std.specs.List.Sorted.{IsPartitionedBy}

step_more : (s r t : ℕ) → s ≤ r → t ≡ r + 1 → 2 ^ (t - s) ≡ 2 ^ (r - s) * 2
step_more s r t l e =
    let one : t - s ≡ suc (r - s) = omega (arith, l, e) in
    ap (λ n. 2 ^ n) one ∙ pow-suc 2 (r - s)

times_half : (p w v n : ℕ) → p * w ≤ n → 2 * v ≤ w → p * 2 * v ≤ n
times_half p w v n l h =
    let same : p * 2 * v ≡ p * (2 * v) = mul_assoc p 2 v in
    let less : p * (2 * v) ≤ p * w = mul-le-mul_left p h in
    omega (arith, same, less, l)

-- one more step, over at most half of the items
pub halved : (s r t w v n : ℕ) → s ≤ r → t ≡ r + 1 → 2 ^ (r - s) * w ≤ n → 2 * v ≤ w → 2 ^ (t - s) * v ≤ n
halved s r t w v n l e c h = rw (step_more s r t l e) (times_half (2 ^ (r - s)) w v n c h)

-- where some items remain, one more step is within the bound
pub bounded : (s r t w n : ℕ) → s ≤ r → t ≡ r + 1 → 2 ^ (r - s) * w ≤ n → 1 ≤ w → 2 ^ (t - s) ≤ 2 * n + 1
bounded s r t w n l e c h =
    let one : 2 ^ (r - s) * 1 ≡ 2 ^ (r - s) = mul-one (2 ^ (r - s)) in
    let less : 2 ^ (r - s) * 1 ≤ 2 ^ (r - s) * w = mul-le-mul_left (2 ^ (r - s)) h in
    rw (step_more s r t l e) (omega (arith, one, less, c))

not_true : (b : Bool) → (b ≡ true → ⊥) → b ≡ false
not_true true f = absurd (f refl)
not_true false f = refl

-- what comes before the place, and what does not
module _ {X : Type 0} (p : X → Bool) (xs : List X) (parted : IsPartitionedBy p xs) (m : ℕ) (within : m < length xs) where
  pub all_before : HoldsAt (λ x. p x ≡ true) xs m → AllWithin (λ x. p x ≡ true) xs 0 (m + 1)
  all_before h k d a b = parted k m d (omega (arith, b)) within (h d)

  pub none_before : HoldsAt (λ x. p x ≡ false) xs m → AllWithin (λ x. p x ≡ false) xs m (length xs)
  none_before h k d a b = not_true (p (slice_index_or xs k d)) (λ q. let w : true ≡ false = sym (parted m k d a b q) ∙ h d in cc)

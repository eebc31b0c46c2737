-- What follows where a chain of readers, or a test before one, returned a value.
use Rattle.std.proofs.Common.{◌≡◌, ◌==◌, Bool, true, false, cond, ℕ, suc, ◌<◌, List, [], ◌∷◌, length, Option, Some, None, refl, ap, arith}
use Rattle.std.proofs.lemmas.Bool.Decides.{nat_tests}
use Rattle.mmtel_base.specs.Chain.{◌>>=◌}
use Rattle.mmtel_base.specs.Scanning.{after_byte}

pub bind_some : {A B : Type 0} (r : Option A) (f : A → Option B) (y : B) → (r >>= f) ≡ Some y → (x : A) × (r ≡ Some x) × (f x ≡ Some y)
bind_some (Some x) f y e = (x, refl, e)
bind_some None f y e = absurd cc

pub guard_some : {A : Type 0} (b : Bool) (x y : A) → cond b (Some x) None ≡ Some y → (b ≡ true) × (x ≡ y)
guard_some true x y e = (refl, cc)
guard_some false x y e = absurd cc

pub where_some : {A : Type 0} (b : Bool) (o : Option A) (y : A) → cond b o None ≡ Some y → (b ≡ true) × (o ≡ Some y)
where_some true o y e = (refl, e)
where_some false o y e = absurd cc

pub unless_some : {A : Type 0} (b : Bool) (o : Option A) (y : A) → cond b None o ≡ Some y → (b ≡ false) × (o ≡ Some y)
unless_some true o y e = absurd cc
unless_some false o y e = (refl, e)

abbrev done : {A : Type 0} → A → Option A
done x = Some x

pub some_is : {A : Type 0} (x y : A) → done x ≡ done y → x ≡ y
some_is x y e = cc

pub some_none : {A : Type 0} (x : A) (o : Option A) → o ≡ None → o ≡ Some x → ⊥
some_none x o e f = cc

pub after_byte_whole : (b : ℕ) (s t : List ℕ) → after_byte b s ≡ Some t → s ≡ b ∷ t
after_byte_whole b [] t e = absurd cc
after_byte_whole b (x ∷ s) t e =
    let g = guard_some (x == b) s t e in
    let same : x ≡ b = grind (arith, nat_tests, g.0) in
    cc (same, g.1)

pub tail_of : (b : ℕ) (s t : List ℕ) → after_byte b s ≡ Some t → length s ≡ suc (length t)
tail_of b [] t e = absurd cc
tail_of b (x ∷ s) t e = let g = guard_some (x == b) s t e in ap (λ (l : List ℕ). suc (length l)) g.1

pub filled_by : (n : ℕ) → (n == 0) ≡ false → 0 < n
filled_by n e = grind (arith, nat_tests)

pub filled_test : (n : ℕ) → 0 < n → (n == 0) ≡ false
filled_test n lt = grind (arith, nat_tests)

pub zero_by : (n : ℕ) → (n == 0) ≡ true → n ≡ 0
zero_by n e = grind (arith, nat_tests)

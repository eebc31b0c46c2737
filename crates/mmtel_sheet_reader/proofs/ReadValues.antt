-- What holds of each value that a reading returns.
use Rattle.std.proofs.Common.{◌≡◌, ℕ, Bool, true, false, cond, List, Option, Some, None, Ok, Err, refl}
use Rattle.std.specs.Prelude.{IfOk, IfSome}
use Rattle.mmtel_sheet_grammar.specs.ReadResults.{Read, then_read, or_wrong}
use Rattle.mmtel_sheet_grammar.specs.declared.faults.SheetFault.{SheetFault}

module _ {A B : Type 0} where
  pub then_all : (r : Read A) (f : A → Read B) (Q : A → Type 0) (P : B → Type 0) → IfOk r Q → ((a : A) → Q a → IfOk (f a) P) → IfOk (then_read r f) P
  then_all (Ok a) f Q P q h = h a q
  then_all (Err e) f Q P q h = tt

  pub then_any : (r : Read A) (f : A → Read B) (P : B → Type 0) → ((a : A) → IfOk (f a) P) → IfOk (then_read r f) P
  then_any (Ok a) f P h = h a
  then_any (Err e) f P h = tt

module _ {A : Type 0} where
  pub where_ok : (b : Bool) (r : Read A) (e : SheetFault) (P : A → Type 0) → (b ≡ true → IfOk r P) → IfOk (cond b r (Err e)) P
  where_ok true r e P h = h refl
  where_ok false r e P h = tt

  pub unless_err : (b : Bool) (r : Read A) (e : SheetFault) (P : A → Type 0) → (b ≡ false → IfOk r P) → IfOk (cond b (Err e) r) P
  unless_err true r e P h = tt
  unless_err false r e P h = h refl

  pub or_all : (at : List ℕ) (o : Option A) (P : A → Type 0) → IfSome o P → IfOk (or_wrong at o) P
  or_all at None P h = tt
  or_all at (Some a) P h = h

  pub both_all : (r : Read A) (P Q : A → Type 0) → IfOk r P → IfOk r Q → IfOk r (λ a. P a × Q a)
  both_all (Ok a) P Q p q = (p, q)
  both_all (Err e) P Q p q = tt

  pub weaker : (r : Read A) (P Q : A → Type 0) → IfOk r P → ((a : A) → P a → Q a) → IfOk r Q
  weaker (Ok a) P Q p h = h a p
  weaker (Err e) P Q p h = tt

  pub at_ok : (r : Read A) (a : A) (P : A → Type 0) → IfOk r P → r ≡ Ok a → P a
  at_ok (Ok b) a P p e = let same : b ≡ a = cc in rw (← same) p
  at_ok (Err x) a P p e = absurd cc

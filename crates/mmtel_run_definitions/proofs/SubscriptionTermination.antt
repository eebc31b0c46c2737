-- The number of subscriptions decreases: whatever a timer outputs for one ends it, and a NOTIFY without a response outputs nothing. So timers come to an end.
use Rattle.std.proofs.Common.{◌≡◌, ℕ, suc, ◌≤◌, List, [], ◌∷◌, length, refl, ap, Bool, true, false, Option, Some, None, arith, inl, inr}
use Rattle.std.proofs.lemmas.Bool.{cases_Bool}
use Rattle.std.specs.Prelude.{find, if◌then◌else◌}
use Rattle.mmtel_mwi.specs.Boxes.{Table, changed, is_final, is_numbered, subscription_after_notify, subscription_numbered, subscription_refused_by}
use Rattle.mmtel_mwi.specs.Boxes.{table_after_end, table_after_end_if, table_after_notify, table_after_response, without, without_pending}
use Rattle.mmtel_mwi.specs.declared.subscriptions.Subscription.{Subscription}
use Rattle.mmtel_types.specs.declared.numbers.SubNo.{SubNo}

module _ {X : Type 0} (p : X → Bool) where
  -- the first with a property is removed, or there is none
  pub no_more : (xs : List X) → length (without p xs) ≤ length xs
  no_more [] = omega arith
  no_more (x ∷ xs) =
      elim (cases_Bool (p x)) [
        | inl y ↦ rw y (omega arith)
        | inr n ↦ let rest = no_more xs in rw n (omega (arith, rest))
      ]

  -- it is removed where it was changed before
  pub one_fewer : (f : X → X) → ((x : X) → p (f x) ≡ p x) → (x : X) (xs : List X) → find p xs ≡ Some x → suc (length (without p (changed p f xs))) ≡ length xs
  one_fewer f same x [] e = absurd cc
  one_fewer f same x (y ∷ ys) e =
      elim (cases_Bool (p y)) [
        | inl is ↦ rw (is, same y, is) refl
        | inr n ↦ rw (n, n) (ap suc (one_fewer f same x ys (rw n at e)))
      ]

-- a live subscription gets its last NOTIFY, and ends
pub last_fewer : (sub : SubNo) (branch : List ℕ) (table : Table) (s : Subscription) → subscription_numbered sub table ≡ Some s →
    suc (length (table_after_end sub (table_after_notify sub branch table)).live) ≡ length table.live
last_fewer sub branch table s e = one_fewer (is_numbered sub) subscription_after_notify (λ x. refl) s table.live e

-- a NOTIFY has a response, or none
if_fewer : (b : Bool) (branch : List ℕ) (o : Option SubNo) (table : Table) → length (if b then without_pending branch (table_after_end_if o table) else table).live ≤ length table.live
if_fewer false branch o table = omega arith
if_fewer true branch None table = omega arith
if_fewer true branch (Some sub) table = no_more (is_numbered sub) table.live

pub table_after_response_fewer : (branch : List ℕ) (code : ℕ) (table : Table) → length (table_after_response branch code table).live ≤ length table.live
table_after_response_fewer branch code table = if_fewer (is_final code) branch (subscription_refused_by branch code table) table

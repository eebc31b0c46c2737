-- A further identity of an account.
use Rattle.std.proofs.Common.{◌≡◌, Bool, true, false, ◌||◌, List, [], ◌∷◌, Some, IfSome, refl, inl, inr}
use Rattle.std.proofs.lemmas.Bool.{cases_Bool}
use Rattle.mmtel_types.specs.declared.numbers.Account.{Account}
use Rattle.mmtel_lex.specs.declared.values.Uri.{Uri}
use Rattle.mmtel_trust.specs.declared.accounts.AccountIdentity.{AccountIdentity}
use Rattle.mmtel_trust.specs.Accounts.{is_of, has_identity, account_of, with_identity}
use Rattle.mmtel_lex.proofs.SameIdentityTheorems.{identity_self}

or_false : (a b : Bool) → (a || b) ≡ false → (a ≡ false) × (b ≡ false)
or_false true b e = absurd cc
or_false false b e = (refl, e)

pub added_found : (es : List AccountIdentity) (a : Account) (u : Uri) → has_identity u es ≡ false → account_of (with_identity a u es) u ≡ Some a
added_found [] a u none = rw (identity_self u) refl
added_found (e ∷ es) a u none =
    let parts = or_false (is_of u e) (has_identity u es) none in
    rw parts.0 (added_found es a u parts.1)

pub others_found : (es : List AccountIdentity) (a : Account) (u v : Uri) → IfSome (account_of es v) (λ b. account_of (with_identity a u es) v ≡ Some b)
others_found [] a u v = tt
others_found (e ∷ es) a u v = elim (cases_Bool (is_of v e)) [
  | inl y ↦ rw y refl
  | inr n ↦ rw n (others_found es a u v)
]

-- An identity of no account is no account's own, and one that some account has is an own identity of the first account that has it.
use Rattle.std.proofs.Common.{◌≡◌, Bool, true, false, List, [], ◌∷◌, Some, None, refl, ap, arith, ◌∙◌}
use Rattle.std.proofs.lemmas.Bool.Decides.{nat_tests}
use Rattle.std.specs.Prelude.{◌==◌, ◌&&◌, ◌||◌, cond, find}
use Rattle.std.specs.Option.{option_map}
use Rattle.mmtel_lex.specs.SameIdentity.{is_same_identity}
use Rattle.mmtel_lex.specs.declared.values.Uri.{Uri}
use Rattle.mmtel_trust.specs.Accounts.{account_of, is_of}
use Rattle.mmtel_trust.specs.declared.accounts.AccountIdentity.{AccountIdentity}
use Rattle.mmtel_types.specs.declared.numbers.Account.{Account}
use Rattle.mmtel_web.specs.Parties.{is_own}

module _ (account : Account) (u : Uri) where
  other : (a : Bool) → (a && false) ≡ false
  other true = refl
  other false = refl

  pub nobodys : (es : List AccountIdentity) → account_of es u ≡ None → is_own es account u ≡ false
  nobodys [] none = refl
  nobodys (e ∷ es) none = go (is_same_identity e.uri u) none (nobodys es)
    where
      go : (same : Bool) → option_map (λ (x : AccountIdentity). x.account) (cond same (Some e) (find (is_of u) es)) ≡ None → (account_of es u ≡ None → is_own es account u ≡ false)
          → ((e.account.0 == account.0 && same) || is_own es account u) ≡ false
      go true none rest = absurd (let f : Some e.account ≡ None = none in cc)
      go false none rest = ap (λ (b : Bool). b || is_own es account u) (other (e.account.0 == account.0)) ∙ rest none

  pub firsts : (es : List AccountIdentity) (first : Account) → account_of es u ≡ Some first → first.0 ≡ account.0 → is_own es account u ≡ true
  firsts [] first some same = absurd (let f : None ≡ Some first = some in cc)
  firsts (e ∷ es) first some same = go (is_same_identity e.uri u) some (λ found. firsts es first found same)
    where
      go : (is : Bool) → option_map (λ (x : AccountIdentity). x.account) (cond is (Some e) (find (is_of u) es)) ≡ Some first → (account_of es u ≡ Some first → is_own es account u ≡ true)
          → ((e.account.0 == account.0 && is) || is_own es account u) ≡ true
      go true some rest =
          let f : e.account ≡ first = cc in
          ap (λ (a : Account). (a.0 == account.0 && true) || is_own es account u) f ∙ ap (λ (b : Bool). (b && true) || is_own es account u) (let t : (first.0 == account.0) ≡ true = grind (arith, nat_tests) in t)
      go false some rest = ap (λ (b : Bool). b || is_own es account u) (other (e.account.0 == account.0)) ∙ rest some

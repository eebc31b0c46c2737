-- Look-ups ignore accounts that a URI does not name.
use Rattle.std.proofs.Common.{◌≡◌, Bool, true, false, ◌&&◌, not, List, [], ◌∷◌, refl, sym, ap, ◌∙◌, Some, cond}
use Rattle.std.specs.Prelude.{◌||◌, find}
use Rattle.std.specs.List.{list_any}
use Rattle.std.specs.Option.{option_map}
use Rattle.mmtel_lex.specs.declared.values.Uri.{Uri}
use Rattle.mmtel_trust.specs.Accounts.{is_of}
use Rattle.mmtel_trust.specs.declared.accounts.AccountIdentity.{AccountIdentity}
use Rattle.mmtel_types.specs.declared.numbers.Account.{Account}
use Rattle.mmtel_call_theorems.specs.Noninterference.RenamedAccounts.{LookupsAgree, LookupsSkipOtherAccounts, NoneAreNamed, identities_without, is_theirs, names_none}

module _ (renamed : List Account) (u : Uri) where
  -- an identity of one of these accounts does not have the URI, so it may be omitted
  passed : (theirs same : Bool) (e : AccountIdentity) (es rest : List AccountIdentity) (more : Bool) → is_of u e ≡ same → not ((theirs && same) || more) ≡ true →
      (not more ≡ true → find (is_of u) es ≡ find (is_of u) rest) → cond same (Some e) (find (is_of u) es) ≡ find (is_of u) (cond (not theirs) (e ∷ rest) rest)
  passed true true e es rest more is none others = absurd (let o : false ≡ true = none in cc)
  passed true false e es rest more is none others = others none
  passed false true e es rest more is none others = ap (λ (b : Bool). cond b (Some e) (find (is_of u) rest)) (sym is)
  passed false false e es rest more is none others = others none ∙ ap (λ (b : Bool). cond b (Some e) (find (is_of u) rest)) (sym is)

  found : (es : List AccountIdentity) → names_none renamed es u ≡ true → find (is_of u) es ≡ find (is_of u) (identities_without renamed es)
  found [] none = refl
  found (e ∷ es) none =
      passed (is_theirs renamed e) (is_of u e) e es (identities_without renamed es) (list_any (λ (x : AccountIdentity). is_theirs renamed x && is_of u x) es) refl none (found es)

pub lookups_skip_other_accounts : LookupsSkipOtherAccounts
lookups_skip_other_accounts renamed es u none = ap (option_map (λ (e : AccountIdentity). e.account)) (found renamed u es none)

pub lookups_agree : LookupsAgree
lookups_agree renamed es others u same one two =
    lookups_skip_other_accounts renamed es u one
    ∙ (ap (λ (l : List AccountIdentity). option_map (λ (e : AccountIdentity). e.account) (find (is_of u) l)) same ∙ sym (lookups_skip_other_accounts renamed others u two))

pub none_are_named : NoneAreNamed
none_are_named [] u = refl
none_are_named (e ∷ es) u = none_are_named es u

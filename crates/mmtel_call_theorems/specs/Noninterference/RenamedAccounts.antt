-- Accounts that have other URIs in another configuration. A look-up of a URI that names none of these ignores them, so its result is that of the other accounts.
use Rattle.std.specs.Prelude.{◌≡◌, ◌==◌, ◌&&◌, Bool, true, not, List, [], filter}
use Rattle.std.specs.List.{list_any}
use Rattle.mmtel_lex.specs.declared.values.Uri.{Uri}
use Rattle.mmtel_trust.specs.Accounts.{account_of, is_of}
use Rattle.mmtel_trust.specs.declared.accounts.AccountIdentity.{AccountIdentity}
use Rattle.mmtel_types.specs.declared.numbers.Account.{Account}

-- an identity of one of these accounts
abbrev pub is_theirs : (renamed : List Account) → AccountIdentity → Bool
is_theirs renamed e = list_any (λ (a : Account). a.0 == e.account.0) renamed

-- the identities of all other accounts, in order
abbrev pub identities_without : (renamed : List Account) → List AccountIdentity → List AccountIdentity
identities_without renamed es = filter (λ (e : AccountIdentity). not (is_theirs renamed e)) es

-- the URI names none of these accounts
abbrev pub names_none : (renamed : List Account) → List AccountIdentity → Uri → Bool
names_none renamed es u = not (list_any (λ (e : AccountIdentity). is_theirs renamed e && is_of u e) es)

-- such a URI belongs to an account exactly if it belongs to one of the others, and to the same one
abbrev pub LookupsSkipOtherAccounts : Type 0
LookupsSkipOtherAccounts = (renamed : List Account) (es : List AccountIdentity) (u : Uri) → names_none renamed es u ≡ true →
    account_of es u ≡ account_of (identities_without renamed es) u

-- so it belongs to the same account in any two configurations that differ in these accounts alone, or to none
abbrev pub LookupsAgree : Type 0
LookupsAgree = (renamed : List Account) (es others : List AccountIdentity) (u : Uri) →
    identities_without renamed es ≡ identities_without renamed others → names_none renamed es u ≡ true →
    names_none renamed others u ≡ true → account_of es u ≡ account_of others u

-- without renamed accounts nothing is ignored
abbrev pub NoneAreNamed : Type 0
NoneAreNamed = (es : List AccountIdentity) (u : Uri) → names_none [] es u ≡ true

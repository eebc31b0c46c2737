-- The accounts by their identities. An identity names the account that has it, and one that several have would name the first that was added.
use Rattle.std.specs.Prelude.{Bool, ◌==◌, Option, List, [], ◌∷◌, ◌++◌, find, Some, None, if◌then◌else◌}
use Rattle.std.specs.Option.{option_map}
use Rattle.std.specs.List.{list_any}
use Rattle.mmtel_types.specs.declared.numbers.Account.{Account}
use Rattle.mmtel_lex.specs.declared.values.Uri.{Uri}
use Rattle.mmtel_lex.specs.SameIdentity.{is_same_identity}
use Rattle.mmtel_trust.specs.declared.accounts.AccountIdentity.{AccountIdentity}
use Rattle.mmtel_trust.specs.declared.faults.TableFault.{TableFault}
use Rattle.mmtel_trust.specs.declared.faults.TableFault.TheVariants.{Taken}

-- the entry is of this identity
abbrev pub is_of : Uri → AccountIdentity → Bool
is_of u e = is_same_identity e.uri u

abbrev pub has_identity : Uri → List AccountIdentity → Bool
has_identity u es = list_any (is_of u) es

-- the account of the identity
abbrev pub account_of : List AccountIdentity → Uri → Option Account
account_of es u = option_map (λ e. e.account) (find (is_of u) es)

-- the account has an identity
abbrev pub has_account : Account → List AccountIdentity → Bool
has_account a es = list_any (λ e. e.account.0 == a.0) es

abbrev pub with_identity : Account → Uri → List AccountIdentity → List AccountIdentity
with_identity a u es = es ++ record { account = a; uri = u } ∷ []

-- each identity occurs once
abbrev pub identity_fault : Uri → List AccountIdentity → Option TableFault
identity_fault u es = if has_identity u es then Some Taken else None

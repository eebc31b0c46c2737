-- The identity part of a rule (RFC 4745 §7.1): some `one` equals the identity, or it is of the domain `many` and no `except` equals it. A party may have two identities, of which
-- one suffices, and which no `except` may equal.
--
-- All that a decision uses of the identities of a party is `identity_holds` and `has_identity`.
use Rattle.std.specs.Prelude.{ℕ, Bool, false, not, ◌&&◌, ◌||◌, List, ◌++◌, Option, Some, None, is_some, codes}
use Rattle.std.specs.List.{list_any}
use Rattle.std.specs.Option.{option_map_or, option_to_list}
use Rattle.std.specs.Str.{bytes_eq, str_eq_ignore_ascii_case}
use Rattle.mmtel_lex.specs.Identity.{host_of}
use Rattle.mmtel_lex.specs.declared.values.Uri.{Uri}
use Rattle.mmtel_sheet_values.specs.declared.values.Who.{Who}
use Rattle.mmtel_lex.specs.SameIdentity.{is_same_identity}
use Rattle.mmtel_rules.specs.declared.values.Identities2.{Identities2}

-- the identities
abbrev pub identities_of : Identities2 → List Uri
identities_of i = option_to_list i.sip ++ option_to_list i.tel

-- the party has an identity
abbrev pub has_identity : Identities2 → Bool
has_identity i = is_some i.sip || is_some i.tel

-- the URI equals an identity
abbrev pub is_identity_of : Identities2 → Uri → Bool
is_identity_of i u = list_any (is_same_identity u) (identities_of i)

-- one of the URIs equals an identity
abbrev pub names_an_identity : Identities2 → List Uri → Bool
names_an_identity i us = list_any (is_identity_of i) us

-- the URI is of the domain, whose case does not count; each is of `*` (RFC 4745 §7.1.3)
abbrev pub is_in_domain : List ℕ → Uri → Bool
is_in_domain domain u = bytes_eq domain (codes "*") || option_map_or (λ host. str_eq_ignore_ascii_case host domain) (host_of u) false

-- some identity is of the domain
abbrev pub has_identity_in_domain : List ℕ → Identities2 → Bool
has_identity_in_domain domain i = list_any (is_in_domain domain) (identities_of i)

-- some identity is of the domain, where there is one, and no exception equals an identity
abbrev pub many_holds : Option (List ℕ) → List Uri → Identities2 → Bool
many_holds None except i = false
many_holds (Some domain) except i = has_identity_in_domain domain i && not (names_an_identity i except)

-- the identity part of a condition is true of these identities
unfoldable pub identity_holds : Identities2 → Who → Bool
identity_holds i who = names_an_identity i who.one || many_holds who.many who.except i

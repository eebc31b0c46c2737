-- Who makes a request, and who may request what: the identities of accounts, and the operator (3GPP TS 24.109 §6, TS 24.623 §5).
use Rattle.std.specs.Prelude.{ℕ, ◌==◌, ◌&&◌, Bool, false, List, length, Some, None, if◌then◌else◌}
use Rattle.std.specs.declared.option.Option.{Option}
use Rattle.std.specs.List.{list_any}
use Rattle.mmtel_types.specs.declared.numbers.Account.{Account}
use Rattle.mmtel_lex.specs.declared.values.Uri.{Uri}
use Rattle.mmtel_directory.specs.Directory.{readable}
use Rattle.mmtel_lex.specs.Reading.{uri_of}
use Rattle.mmtel_lex.specs.SameIdentity.{is_same_identity}
use Rattle.mmtel_base.specs.Chain.{◌>>=◌}
use Rattle.mmtel_base.specs.Scanning.{after_byte, split_once_at}
use Rattle.mmtel_trust.specs.declared.accounts.AccountIdentity.{AccountIdentity}

-- what precedes the quote, where nothing follows it
abbrev pub complete_quote : List ℕ × List ℕ → Option (List ℕ)
complete_quote x = if length x.1 == 0 then Some x.0 else None

-- what is in the quotes
abbrev pub quoted_text : List ℕ → Option (List ℕ)
quoted_text value = after_byte 34 value >>= λ rest. split_once_at 34 rest >>= complete_quote

-- the identity in the one value of the field of the asserted identity: one URI in quotes, and nothing else
abbrev pub identity_of : Option (List ℕ) → Option Uri
identity_of None = None
identity_of (Some value) = quoted_text value >>= λ bytes. readable (uri_of bytes)

-- the URI is an identity of the account, whether or not another account has one that is equal to it
abbrev pub is_own : List AccountIdentity → Account → Uri → Bool
is_own identities account u = list_any (λ identity. identity.account.0 == account.0 && is_same_identity identity.uri u) identities

-- it was asserted, and is an identity of the account
abbrev pub may_access : List AccountIdentity → Account → Option Uri → Bool
may_access identities account None = false
may_access identities account (Some u) = is_own identities account u

-- the identity is the operator's
abbrev pub is_operator : Option Uri → Option Uri → Bool
is_operator None u = false
is_operator (Some operator) None = false
is_operator (Some operator) (Some u) = is_same_identity operator u

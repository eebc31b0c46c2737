-- The account that a value names, if there is a value.
use Rattle.std.specs.Prelude.{ℕ, List, Option}
use Rattle.mmtel_base.specs.Chain.{◌>>=◌}
use Rattle.mmtel_trust.specs.declared.accounts.AccountIdentity.{AccountIdentity}
use Rattle.mmtel_types.specs.declared.numbers.Account.{Account}
use Rattle.mmtel_run_definitions.specs.Refusals.{account_in}

-- by a name-addr, if there is one
abbrev pub account_by : List AccountIdentity → Option (List ℕ) → Option Account
account_by accounts value = value >>= account_in accounts

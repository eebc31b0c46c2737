use Rattle.mmtel_call_theorems.proofs.Noninterference.RenamedAccounts.{lookups_agree, lookups_skip_other_accounts, none_are_named}
use Rattle.mmtel_call_theorems.proofs.noninterference_theorems.lookups_skip_other_accounts.Goals as goal

pub returns : goal.returns
returns c = record { over = lookups_skip_other_accounts; agree = lookups_agree; none = none_are_named }

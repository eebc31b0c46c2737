use Rattle.mmtel_sheet_values.proofs.OtherAccounts.{its, others}
use Rattle.mmtel_sheet_values.proofs.theorems.putting_changes_one_account.Goals as goal

pub returns-clause-its : goal.returns-clause-its
returns-clause-its c = its

pub returns-clause-others : goal.returns-clause-others
returns-clause-others c = others

use Rattle.mmtel_sheet_texts.proofs.OtherAccounts.{its, others}
use Rattle.mmtel_sheet_texts.proofs.theorems.puts_change_one_account.Goals as goal

pub returns-clause-its : goal.returns-clause-its
returns-clause-its c = its

pub returns-clause-others : goal.returns-clause-others
returns-clause-others c = others

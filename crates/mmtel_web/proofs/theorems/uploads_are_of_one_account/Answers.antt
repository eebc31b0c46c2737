use Rattle.mmtel_web.proofs.OtherAccounts.{store_for}
use Rattle.mmtel_web.proofs.theorems.uploads_are_of_one_account.Goals as goal

pub returns-clause-its : goal.returns-clause-its
returns-clause-its c = λ account b d s a sheet text reply asks e. (store_for account b d s a sheet text reply asks e).0

pub returns-clause-allowed : goal.returns-clause-allowed
returns-clause-allowed c = λ account b d s a sheet text reply asks e. (store_for account b d s a sheet text reply asks e).1

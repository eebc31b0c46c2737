use Rattle.mmtel_web.proofs.OtherAccounts.{action_agrees, reply_agrees}
use Rattle.mmtel_web.proofs.theorems.requests_see_one_account.Goals as goal

pub returns-clause-done : goal.returns-clause-done
returns-clause-done c = action_agrees

pub returns-clause-replied : goal.returns-clause-replied
returns-clause-replied c = reply_agrees

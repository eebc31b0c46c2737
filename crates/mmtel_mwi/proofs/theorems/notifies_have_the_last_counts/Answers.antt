use Rattle.std.proofs.Common.{ap}
use Rattle.mmtel_mwi.specs.Summaries.{summary}
use Rattle.mmtel_mwi.proofs.Operations.{counted}
use Rattle.mmtel_mwi.proofs.theorems.notifies_have_the_last_counts.Goals as goal

pub returns : goal.returns
returns c = record { body = λ sip ops last branch now s. ap summary (counted ops s.account) }

use Rattle.mmtel_rules.proofs.IdentityPartTheorems.{condition_same}
use Rattle.mmtel_rules.proofs.theorems.condition_depends_on_matches.Goals as goal

pub returns : goal.returns
returns c = record { same = condition_same }

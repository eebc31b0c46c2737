use Rattle.mmtel_rules.proofs.IdentityPartTheorems.{first_same}
use Rattle.mmtel_rules.proofs.theorems.first_rule_depends_on_matches.Goals as goal

pub returns : goal.returns
returns c = record { same = first_same }

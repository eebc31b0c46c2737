use Rattle.mmtel_rules.proofs.IdentityPartTheorems.{barred_same}
use Rattle.mmtel_rules.proofs.theorems.bar_depends_on_matches.Goals as goal

pub returns : goal.returns
returns c = record { same = barred_same }

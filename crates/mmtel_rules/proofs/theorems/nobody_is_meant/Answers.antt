use Rattle.mmtel_rules.proofs.RuleTheorems.{nobody_meant}
use Rattle.mmtel_rules.proofs.theorems.nobody_is_meant.Goals as goal

pub returns : goal.returns
returns c = record { no = nobody_meant }

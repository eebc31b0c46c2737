use Rattle.mmtel_rules.proofs.RuleTheorems.{let_through}
use Rattle.mmtel_rules.proofs.theorems.allowing_rule_wins.Goals as goal

pub returns : goal.returns
returns c = record { through = let_through }

use Rattle.mmtel_rules.proofs.RuleTheorems.{barred_permutation}
use Rattle.mmtel_rules.proofs.theorems.rule_order_bars_the_same.Goals as goal

pub returns : goal.returns
returns c = record { same = barred_permutation }

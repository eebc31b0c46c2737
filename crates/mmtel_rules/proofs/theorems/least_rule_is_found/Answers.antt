use Rattle.mmtel_rules.specs.Rules.{rule_holds}
use Rattle.mmtel_rules.proofs.LeastIndex.{is_some-position, position_is_least}
use Rattle.mmtel_rules.proofs.theorems.least_rule_is_found.Goals as goal

pub returns : goal.returns
returns c = record {
  least = λ k when rules. position_is_least (rule_holds k when) rules;
  some = λ k when rules. is_some-position (rule_holds k when) rules;
}

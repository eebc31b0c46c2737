use Rattle.mmtel_rules.proofs.RuleTheorems.{is_some-barred_by, barred_is_least}
use Rattle.mmtel_rules.proofs.theorems.barred_where_no_rule_allows.Goals as goal

pub returns : goal.returns
returns c = record { barred = is_some-barred_by; least = barred_is_least }

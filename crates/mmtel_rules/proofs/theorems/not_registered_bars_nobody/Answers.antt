use Rattle.std.proofs.Common.{refl}
use Rattle.mmtel_rules.specs.Rules.{arrival}
use Rattle.mmtel_rules.proofs.RuleTheorems.{no_event}
use Rattle.mmtel_rules.proofs.theorems.not_registered_bars_nobody.Goals as goal

pub returns : goal.returns
returns c = record { never = λ k c e. no_event k arrival c (rw e refl) }

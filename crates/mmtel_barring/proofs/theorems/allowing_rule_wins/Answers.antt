use Rattle.std.proofs.Common.{◌∷◌, ◌++◌}
use Rattle.mmtel_barring.proofs.BarringTheorems.{out_through, in_through}
use Rattle.mmtel_barring.proofs.theorems.allowing_rule_wins.Goals as goal

pub returns : goal.returns
returns c = record {
  outgoing = λ k front back r reject allowed held. out_through k (front ++ r ∷ back) reject (c.allowing_rule_wins.ensures.through k front back r allowed held);
  incoming = λ k front back r allowed held. in_through k (front ++ r ∷ back) (c.allowing_rule_wins.ensures.through k front back r allowed held);
}

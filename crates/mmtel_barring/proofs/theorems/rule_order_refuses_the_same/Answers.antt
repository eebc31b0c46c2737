use Rattle.mmtel_barring.proofs.BarringTheorems.{out_in_any_order, in_any_order}
use Rattle.mmtel_barring.proofs.theorems.rule_order_refuses_the_same.Goals as goal

pub returns : goal.returns
returns c = record {
  outgoing = λ k rules other reject p. out_in_any_order k rules other reject (c.rule_order_bars_the_same.ensures.same k rules other p);
  incoming = λ k rules other reject p. in_any_order k rules other reject (c.rule_order_bars_the_same.ensures.same k rules other p);
}

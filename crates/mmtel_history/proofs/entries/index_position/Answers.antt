use Rattle.std.proofs.Common.{sym, ◌∙◌, arith}
use Rattle.mmtel_history.proofs.IndexTheorems.{passes, stops_here, none_there}
use Rattle.mmtel_history.proofs.entries.index_position.Goals as goal

pub returns-then-is_index-clause-others : goal.returns-then-is_index-clause-others
returns-then-is_index-clause-others c =
    stops_here c.args.params.now c.loop-i.i c.index-params-i.result c.loop-i-test.true c.index-params-i.is (sym c.is_index.ensures ∙ c.if-is_index.true) c.loop-i.invariant

pub loop-i-preserved : goal.loop-i-preserved
loop-i-preserved c =
    passes c.args.params.now c.loop-i.i c.index-params-i.result c.loop-i-test.true c.index-params-i.is (sym c.is_index.ensures ∙ c.if-is_index.false) c.loop-i.invariant

pub returns-clause-others : goal.returns-clause-others
returns-clause-others c = none_there c.args.params.now c.loop-i.i (omega arith) c.loop-i.invariant

use Rattle.std.proofs.Common.{sym, ◌∙◌, arith}
use Rattle.mmtel_lex.specs.Params.{param_value}
use Rattle.mmtel_lex.proofs.ParamValues.{param_over, param_here}
use Rattle.mmtel_lex.proofs.params.param_value.Goals as goal

pub returns-then-is_named : goal.returns-then-is_named
returns-then-is_named c =
    rw c.value_bytes.ensures (sym (param_here c.args.name.now c.args.params.now c.loop-param.param-index c.param-item.result (param_value c.args.name.now c.args.params.now)
    (omega arith) c.param-item.is (sym c.is_named.ensures ∙ c.if-is_named.true) c.loop-param.invariant))

pub loop-param-preserved : goal.loop-param-preserved
loop-param-preserved c =
    param_over c.args.name.now c.args.params.now c.loop-param.param-index c.param-item.result (param_value c.args.name.now c.args.params.now) (omega arith) c.param-item.is
    (sym c.is_named.ensures ∙ c.if-is_named.false) c.loop-param.invariant

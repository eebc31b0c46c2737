use Rattle.std.proofs.Common.{sym}
use Rattle.mmtel_lex.proofs.ParamsSeek.{pass_begins, pass_on, pass_fails, pass_ends}
use Rattle.mmtel_lex.proofs.param_refs.after_params.Goals as goal

pub params-init : goal.params-init
params-init c = pass_begins c.args.bytes.now

pub returns-in_err-after : goal.returns-in_err-after
returns-in_err-after c = rw c.from_residual.ensures (pass_fails c.params.rest.now c.in-Some.tail.now c.args.bytes.now c.params.invariant (sym c.in-Some.ensures.value) (sym c.in_err-after.ensures.exact))

pub params-preserved : goal.params-preserved
params-preserved c = pass_on c.params.rest.now c.in-Some.tail.now c.in_ok-after.after.now c.args.bytes.now c.in_ok-after.field-0-0 c.params.invariant (sym c.in-Some.ensures.value)
    (sym c.in_ok-after.ensures.exact) c.in_ok-after.ensures.shorter

pub returns : goal.returns
returns c = pass_ends c.params.rest.now c.args.bytes.now c.params.invariant (sym c.in_default.ensures.value)

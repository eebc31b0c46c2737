use Rattle.std.proofs.Common.{sym}
use Rattle.std.proofs.lemmas.Result.{err_from_is_err_and}
use Rattle.mmtel_lex.proofs.ParamsLoop.{begins, goes_on, ends, is_done}
use Rattle.mmtel_lex.proofs.params.params_prefix.Goals as goal

pub params-init : goal.params-init
params-init c = rw c.new-params.ensures (begins c.args.bytes.now)

pub returns-in_err-param : goal.returns-in_err-param
returns-in_err-param c =
    let p = err_from_is_err_and c.from_residual.result c.from_residual.ensures.1 in
    record { exact = rw (p.1, p.2) (ends c.in_err-param.field-0.0 c.params.params c.params.rest.now c.in-Some.tail.now c.args.bytes.now c.params.invariant (sym c.in-Some.ensures.value) c.in_err-param.ensures.exact) }

pub params-preserved : goal.params-preserved
params-preserved c =
    rw c.in_ok-push.ensures.ok (goes_on c.params.params c.params.rest.now c.in-Some.tail.now c.in_ok-param.after.now c.args.bytes.now c.in_ok-param.param c.params.invariant
    (sym c.in-Some.ensures.value) c.in_ok-param.ensures.exact c.in_ok-param.ensures.shorter)

pub returns : goal.returns
returns c = record { exact = is_done c.params.params c.params.rest.now c.args.bytes.now c.params.invariant (sym c.in_default.ensures.value) }

use Rattle.std.proofs.Common.{sym, ◌∙◌}
use Rattle.mmtel_lex.proofs.ParamsSeek.{seek_begins, seek_over, seek_here, seek_fails, seek_ends}
use Rattle.mmtel_lex.proofs.param_refs.first_in.Goals as goal

pub params-init : goal.params-init
params-init c = seek_begins c.args.name.now c.args.bytes.now c.requires

pub returns-in_err-param : goal.returns-in_err-param
returns-in_err-param c = absurd (seek_fails c.args.name.now c.params.rest.now c.in-Some.tail.now c.args.bytes.now c.params.invariant (sym c.in-Some.ensures.value) (sym c.in_err-param.ensures.exact))

pub returns-then-is_named : goal.returns-then-is_named
returns-then-is_named c = sym (seek_here c.args.name.now c.params.rest.now c.in-Some.tail.now c.in_ok-param.after.now c.args.bytes.now c.in_ok-param.param c.params.invariant
    (sym c.in-Some.ensures.value) (sym c.in_ok-param.ensures.exact) (sym c.is_named.ensures ∙ c.if-is_named.true))

pub params-preserved : goal.params-preserved
params-preserved c = seek_over c.args.name.now c.params.rest.now c.in-Some.tail.now c.in_ok-param.after.now c.args.bytes.now c.in_ok-param.param c.params.invariant (sym c.in-Some.ensures.value)
    (sym c.in_ok-param.ensures.exact) c.in_ok-param.ensures.shorter (sym c.is_named.ensures ∙ c.if-is_named.false)

pub returns : goal.returns
returns c = sym (seek_ends c.args.name.now c.params.rest.now c.args.bytes.now c.params.invariant (sym c.in_default.ensures.value))

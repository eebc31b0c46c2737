use Rattle.std.proofs.Common.{◌+◌, ◌++◌, drop, sym, ◌∙◌, subst, arith}
use Rattle.mmtel_run_definitions.specs.ShortRuns.{IsShort}
use Rattle.mmtel_run_definitions.specs.Transitions.{RunState, with_emit, with_emits}
use Rattle.mmtel_server.proofs.Operations.{next_emit, no_emit}
use Rattle.mmtel_server.proofs.Grows.{cut_of, grows_on, grows_with_emit, grows_with_emits, on_err, short_of}
use Rattle.mmtel_server.proofs.servers.Server.emit_all.Goals as goal
use Rattle.mmtel_server.specs.Representation.{IsPrefixBetween, RepresentsWithOffers}

pub returns-in_err-emit-clause-err : goal.returns-in_err-emit-clause-err
returns-in_err-emit-clause-err g c = on_err c.from_residual.result _ (λ d token before w did short.
    let inv = c.loop-emit.invariant.1 d token before w did short in
    let rest = drop c.loop-emit.emit-index c.args.emits.now in
    subst (λ (x : RunState). IsPrefixBetween c.args.out.now c.emit.new.out (before ++ x.offers)) inv.3
    (cut_of before c.args.out.now c.emit.new.out w inv.0 (with_emits c.args.context.now.at rest inv.0) inv.1 (grows_with_emits c.args.context.now.at rest inv.0) did.offers (c.in_err-emit.ensures.err ∙ inv.2.offers)))

pub loop-emit-preserved : goal.loop-emit-preserved
loop-emit-preserved g c = (
  c.emit.ensures.calls ∙ c.loop-emit.invariant.0,
  λ d token before w did short.
      let inv = c.loop-emit.invariant.1 d token before w did short in
      let one = next_emit c.args.context.now.at c.loop-emit.emit-index c.args.emits.now c.emit-item.result inv.0 c.loop-emit-test.true c.emit-item.is in
      let next : RunState = with_emit c.args.context.now.at c.emit-item.result inv.0 in
      let rest = drop (c.loop-emit.emit-index + 1) c.args.emits.now in
      let few = short_of next (with_emits c.args.context.now.at rest next) (grows_with_emits c.args.context.now.at rest next) (subst IsShort (sym (sym one ∙ inv.3)) short) in
      (next, grows_on w inv.0 next inv.1 (grows_with_emit c.args.context.now.at c.emit-item.result inv.0), c.in_ok-emit.ensures.done d token before inv.0 inv.2 few, sym one ∙ inv.3),
)

pub returns-clause-done : goal.returns-clause-done
returns-clause-done g c d token before w did short =
    let inv = c.loop-emit.invariant.1 d token before w did short in
    subst (λ (x : RunState). RepresentsWithOffers d token before c.loop-emit.self c.loop-emit.out x)
    (sym (no_emit c.args.context.now.at c.loop-emit.emit-index c.args.emits.now inv.0 (omega (arith, c.loop-emit-test.false))) ∙ inv.3) inv.2

pub returns-in_err-emit-clause-calls : goal.returns-in_err-emit-clause-calls
returns-in_err-emit-clause-calls g c = c.emit.ensures.calls ∙ c.loop-emit.invariant.0

pub returns-clause-calls : goal.returns-clause-calls
returns-clause-calls g c = c.loop-emit.invariant.0

use Rattle.std.proofs.Common.{◌+◌, ◌++◌, drop, get_or, sym, ◌∙◌, subst, arith}
use Rattle.std.specs.Prelude.{false}
use Rattle.mmtel_run_definitions.specs.ShortRuns.{IsShort}
use Rattle.mmtel_run_definitions.specs.Subscriptions.{after_notify, after_notify_to_each}
use Rattle.mmtel_run_definitions.specs.Transitions.{RunState}
use Rattle.mmtel_types.specs.declared.numbers.SubNo.{SubNo}
use Rattle.mmtel_server.proofs.Subscriptions.{next_notified, none_notified, tells_each_grows, tells_grows}
use Rattle.mmtel_server.proofs.Grows.{cut_of, grows_on, on_err, short_of}
use Rattle.mmtel_server.proofs.servers.Server.notify_each.Goals as goal
use Rattle.mmtel_server.specs.Representation.{IsPrefixBetween, RepresentsWithOffers}

pub returns-in_err-notify_subscriber-clause-err : goal.returns-in_err-notify_subscriber-clause-err
returns-in_err-notify_subscriber-clause-err g c = on_err c.from_residual.result _ (λ d token before w did short.
    let inv = c.loop-sub.invariant d token before w did short in
    let rest = drop c.loop-sub.sub-index c.args.subs.now in
    subst (λ (x : RunState). IsPrefixBetween c.args.out.now c.notify_subscriber.new.out (before ++ x.offers)) inv.3
    (cut_of before c.args.out.now c.notify_subscriber.new.out w inv.0 (after_notify_to_each d token c.args.context.now.at rest inv.0) inv.1 (tells_each_grows d token c.args.context.now.at rest inv.0) did.offers
    (c.in_err-notify_subscriber.ensures.err ∙ inv.2.offers)))

pub loop-sub-preserved : goal.loop-sub-preserved
loop-sub-preserved g c d token before w did short =
    let at = c.args.context.now.at in
    let inv = c.loop-sub.invariant d token before w did short in
    let past : SubNo = record { 0 = 0 } in
    let sub : SubNo = get_or c.args.subs.now c.loop-sub.sub-index past in
    let one = next_notified d token at c.loop-sub.sub-index c.args.subs.now past inv.0 c.loop-sub-test.true in
    let next : RunState = after_notify d token at sub false inv.0 in
    let rest = drop (c.loop-sub.sub-index + 1) c.args.subs.now in
    let few = short_of next (after_notify_to_each d token at rest next) (tells_each_grows d token at rest next) (subst IsShort (sym (sym one ∙ inv.3)) short) in
    (next, grows_on w inv.0 next inv.1 (tells_grows d token at sub false inv.0), c.in_ok-notify_subscriber.ensures.done d token before inv.0 inv.2 few, sym one ∙ inv.3)

pub returns-clause-done : goal.returns-clause-done
returns-clause-done g c d token before w did short =
    let inv = c.loop-sub.invariant d token before w did short in
    subst (λ (x : RunState). RepresentsWithOffers d token before c.loop-sub.self c.loop-sub.out x)
    (sym (none_notified d token c.args.context.now.at c.loop-sub.sub-index c.args.subs.now inv.0 (omega arith)) ∙ inv.3) inv.2

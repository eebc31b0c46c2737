use Rattle.std.proofs.Common.{Some, None, sym}
use Rattle.std.proofs.lemmas.Result.{on_ok_weaker}
use Rattle.mmtel_run_definitions.specs.Subscriptions.{after_expiry}
use Rattle.mmtel_server.proofs.Owners.{rests}
use Rattle.mmtel_server.proofs.Subscriptions.{due_later, due_now, due_so, ends_box_grows}
use Rattle.mmtel_server.proofs.Grows.{stops_on}
use Rattle.mmtel_server.proofs.Participants.{follows_reads}
use Rattle.mmtel_server.proofs.servers.Server.expire_subscription.Goals as goal
use Rattle.mmtel_server.specs.Follows.{Follows}

pub returns-in-None-clause-done : goal.returns-in-None-clause-done
returns-in-None-clause-done g c =
    let s = c.args.self.now in
    due_so s (Follows s c.args.out.now s c.args.out.now) (follows_reads s c.args.out.now s c.args.out.now) c.args.context.now.at c.args.sub c.args.set None (sym c.in-None.ensures.set_by) (rests s c.args.out.now)

pub returns-then-last-set-clause-done : goal.returns-then-last-set-clause-done
returns-then-last-set-clause-done g c = on_ok_weaker c.notify_terminated.result (λ follows.
    let s = c.args.self.now in
    let P = Follows s c.args.out.now c.notify_terminated.new.self c.notify_terminated.new.out in
    due_so s P (follows_reads s c.args.out.now c.notify_terminated.new.self c.notify_terminated.new.out) c.args.context.now.at c.args.sub c.args.set (Some c.in-Some.last) (sym c.in-Some.ensures.set_by)
    (due_now P c.args.context.now.at c.args.sub c.args.set c.in-Some.last c.if-last-set.true follows))
    c.notify_terminated.ensures.done

pub returns-then-last-set-clause-err : goal.returns-then-last-set-clause-err
returns-then-last-set-clause-err g c =
    stops_on c.notify_terminated.result (λ d token. after_expiry d token c.args.context.now.at c.args.sub c.args.set) c.args.self.now c.args.out.now c.notify_terminated.new.out
    (λ d token w. ends_box_grows d token c.args.context.now.at c.args.sub c.args.set w) c.notify_terminated.ensures.err

pub returns-else-last-set-clause-done : goal.returns-else-last-set-clause-done
returns-else-last-set-clause-done g c =
    let s = c.args.self.now in
    let P = Follows s c.args.out.now s c.args.out.now in
    due_so s P (follows_reads s c.args.out.now s c.args.out.now) c.args.context.now.at c.args.sub c.args.set (Some c.in-Some.last) (sym c.in-Some.ensures.set_by)
    (due_later P c.args.context.now.at c.args.sub c.args.set c.in-Some.last c.if-last-set.false (rests s c.args.out.now))

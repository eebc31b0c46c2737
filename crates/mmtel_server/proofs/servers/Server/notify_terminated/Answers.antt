use Rattle.mmtel_server.proofs.Subscriptions.{notifies_then_ends}
use Rattle.mmtel_server.proofs.servers.Server.notify_terminated.Goals as goal

pub returns-in-None-clause-done : goal.returns-in-None-clause-done
returns-in-None-clause-done g c =
    notifies_then_ends c.args.context.now.at c.args.sub c.args.self.now c.notify_subscriber.new.self c.args.out.now c.notify_subscriber.new.out c.end.new.self c.in_ok-notify_subscriber.ensures.done c.end.ensures.ended

pub returns-in-Some-clause-done : goal.returns-in-Some-clause-done
returns-in-Some-clause-done g c =
    notifies_then_ends c.args.context.now.at c.args.sub c.args.self.now c.notify_subscriber.new.self c.args.out.now c.notify_subscriber.new.out c.end.new.self c.in_ok-notify_subscriber.ensures.done c.end.ensures.ended

use Rattle.std.proofs.Common.{Option, None, sym, subst}
use Rattle.std.proofs.lemmas.Result.{on_ok_weaker}
use Rattle.mmtel_message.specs.Message.{Message}
use Rattle.mmtel_message.specs.declared.messages.Start.{Start}
use Rattle.mmtel_run_definitions.specs.Subscriptions.{notify_emits}
use Rattle.mmtel_run_definitions.specs.Transitions.{with_emits}
use Rattle.mmtel_server.proofs.Owners.{rests}
use Rattle.mmtel_server.proofs.Subscriptions.{telling_so, tells_peer}
use Rattle.mmtel_server.proofs.Participants.{follows_reads}
use Rattle.mmtel_server.proofs.servers.Server.notify_subscriber.Goals as goal
use Rattle.mmtel_server.specs.Follows.{Follows}
use Rattle.mmtel_server.specs.declared.servers.Server.{Server}

pub returns-in_default-clause-done : goal.returns-in_default-clause-done
returns-in_default-clause-done g c =
    let s = c.args.self.now in
    telling_so s (Follows s c.args.out.now s c.args.out.now) (follows_reads s c.args.out.now s c.args.out.now) c.args.context.now.at c.args.sub c.args.last None (sym c.in_default.ensures.peer) (rests s c.args.out.now)

pub returns-in-None-clause-done : goal.returns-in-None-clause-done
returns-in-None-clause-done g c =
    let there : Server = record c.args.self.now { tokens = c.draw_next_tag.new.tokens; boxes = c.tell-made.new.self } in
    tells_peer c.args.context.now.at c.args.sub c.args.last c.in-Some.peer c.args.self.now c.args.out.now (sym c.in-Some.ensures.peer) c.draw_next_tag.new.tokens c.in_ok-branch.branch
    c.in_ok-branch.ensures.drawn c.in_ok-branch.ensures.tag c.in_ok-made.field-0 c.in_ok-made.ensures.notice c.tell-made.new.self c.in_ok-made.ensures.reported there c.args.out.now
    (subst (λ (m : Option (Message Start)). Follows there c.args.out.now there c.args.out.now (λ d token. with_emits c.args.context.now.at (notify_emits c.in-Some.peer m))) (sym c.in-None.is)
    (rests there c.args.out.now))

pub returns-in-Some-2-clause-done : goal.returns-in-Some-2-clause-done
returns-in-Some-2-clause-done g c = on_ok_weaker c.send_request-done.result (λ follows.
    let there : Server = record c.args.self.now { tokens = c.draw_next_tag.new.tokens; boxes = c.tell-made.new.self } in
    tells_peer c.args.context.now.at c.args.sub c.args.last c.in-Some.peer c.args.self.now c.args.out.now (sym c.in-Some.ensures.peer) c.draw_next_tag.new.tokens c.in_ok-branch.branch
    c.in_ok-branch.ensures.drawn c.in_ok-branch.ensures.tag c.in_ok-made.field-0 c.in_ok-made.ensures.notice c.tell-made.new.self c.in_ok-made.ensures.reported c.send_request-done.new.self c.send_request-done.new.out
    (subst (λ (m : Option (Message Start)). Follows there c.args.out.now c.send_request-done.new.self c.send_request-done.new.out (λ d token. with_emits c.args.context.now.at (notify_emits c.in-Some.peer m)))
    (sym c.in-Some-2.is) follows))
    c.send_request-done.ensures.done

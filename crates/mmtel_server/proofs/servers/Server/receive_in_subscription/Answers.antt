use Rattle.std.proofs.Common.{sym, ap, ◌∙◌}
use Rattle.std.proofs.lemmas.Result.{on_ok_weaker}
use Rattle.mmtel_compose.specs.ReceivedMessages.{MessageView}
use Rattle.mmtel_message.specs.Message.{Message}
use Rattle.mmtel_message.specs.declared.messages.Start.{Start}
use Rattle.mmtel_mwi.specs.Boxes.{request_check, table_after_request, with_table}
use Rattle.mmtel_mwi.specs.Operations.{Receives}
use Rattle.mmtel_run_definitions.specs.Events.{message_in}
use Rattle.mmtel_server.proofs.Subscriptions.{is_live_so, receives_nothing, says_none, says_there}
use Rattle.mmtel_server.proofs.Operations.{notes_action}
use Rattle.mmtel_server.proofs.servers.Server.receive_in_subscription.Goals as goal

pub returns-in-None-clause-check : goal.returns-in-None-clause-check
returns-in-None-clause-check c = says_none c.args.sub (message_in c.args.request.now.parsed) c.args.self.now (sym c.in-None.ensures.peer)

pub returns-in-None-clause-done : goal.returns-in-None-clause-done
returns-in-None-clause-done c = receives_nothing c.args.sub (message_in c.args.request.now.parsed) c.args.self.now (sym c.in-None.ensures.peer)

pub heard-requires : goal.heard-requires
heard-requires c = is_live_so c.args.sub c.request.inside.message c.args.self.now c.in-Some.field-0 (sym c.in-Some.ensures.peer)

pub returns-in-Some-clause-check : goal.returns-in-Some-clause-check
returns-in-Some-clause-check c d token w have =
    let m = message_in c.args.request.now.parsed in
    c.heard.ensures.check
    ∙ (ap (λ (x : Message Start). request_check c.args.sub x c.args.self.now.boxes.table) (ap (λ (x : MessageView). message_in x.parsed) c.request.view_is) ∙ says_there c.args.sub m c.args.self.now d token w have)

pub returns-in-Some-clause-done : goal.returns-in-Some-clause-done
returns-in-Some-clause-done c = on_ok_weaker c.heard.result (λ new out.
    let s = c.args.self.now in
    notes_action (Receives c.args.sub (message_in c.args.request.now.parsed)) s c.heard.new.self out
    (new ∙ ap (λ (x : Message Start). with_table s.boxes (table_after_request c.args.sub x s.boxes.table)) (ap (λ (x : MessageView). message_in x.parsed) c.request.view_is)))
    c.heard.ensures.received

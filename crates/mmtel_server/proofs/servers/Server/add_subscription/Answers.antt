use Rattle.mmtel_mwi.specs.Operations.{Subscribes}
use Rattle.mmtel_server.proofs.Operations.{notes_action}
use Rattle.mmtel_server.proofs.servers.Server.add_subscription.Goals as goal

pub returns-in-Ok-clause-done : goal.returns-in-Ok-clause-done
returns-in-Ok-clause-done c out = notes_action (Subscribes c.args.account c.args.leg c.args.until) c.args.self.now c.subscribe.new.self out c.in-Ok.ensures.subscribed

use Rattle.mmtel_transaction.specs.Operations.{DidSettle}
use Rattle.mmtel_server.proofs.Operations.{action_alone}
use Rattle.mmtel_server.proofs.servers.Server.settle_responses.Goals as goal

pub returns-clause-done : goal.returns-clause-done
returns-clause-done g c out = action_alone (DidSettle c.args.key.0 c.args.own) c.args.self.now c.settle.new.self out c.settle.ensures.done

use Rattle.mmtel_mwi.specs.Operations.{Responds}
use Rattle.mmtel_server.proofs.Owners.{rests}
use Rattle.mmtel_server.proofs.Operations.{notes_action}
use Rattle.mmtel_server.proofs.servers.Server.receive_notify_response.Goals as goal

pub returns-in_default : goal.returns-in_default
returns-in_default c out = rw c.in_default.is (rests c.args.self.now out)

pub returns-in-None : goal.returns-in-None
returns-in-None c out = rw c.in-Some.is (notes_action (Responds c.in-Some.branch.now c.args.code) c.args.self.now c.answered.new.self out c.answered.ensures.answered)

pub returns-in-Some-answered : goal.returns-in-Some-answered
returns-in-Some-answered c out = rw c.in-Some.is (notes_action (Responds c.in-Some.branch.now c.args.code) c.args.self.now c.answered.new.self out c.answered.ensures.answered)

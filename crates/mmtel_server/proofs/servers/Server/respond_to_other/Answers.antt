use Rattle.std.proofs.lemmas.Result.{on_ok_weaker}
use Rattle.mmtel_admission.specs.Dispositions.{response_in}
use Rattle.mmtel_server.proofs.Subscriptions.{responds_to_other}
use Rattle.mmtel_server.proofs.servers.Server.respond_to_other.Goals as goal

pub returns-clause-done : goal.returns-clause-done
returns-clause-done g c = on_ok_weaker c.respond-done.result
    (responds_to_other c.args.self.now c.args.context.now.at c.args.key c.args.request.now
    (response_in c.in_ok-status_response.status_response) c.in_ok-status_response.ensures.response c.args.out.now c.respond-done.new.self c.respond-done.new.out)
    c.respond-done.ensures.done

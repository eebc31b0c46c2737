use Rattle.std.proofs.Common.{subst}
use Rattle.std.specs.Prelude.{OnOk}
use Rattle.mmtel_run_definitions.specs.OwnResponses.{StatusResponse}
use Rattle.mmtel_run_definitions.specs.Transitions.{with_stateless_response}
use Rattle.mmtel_server.proofs.servers.Server.respond_too_many.Goals as goal
use Rattle.mmtel_server.specs.Follows.{Follows}

pub returns-clause-done : goal.returns-clause-done
returns-clause-done c = subst (λ (x : StatusResponse). OnOk c.respond_statelessly.result
    (Follows c.args.self.now c.args.out.now c.respond_statelessly.new.self c.respond_statelessly.new.out
    (λ d token. with_stateless_response d token c.args.context.now.at c.args.request.now x))) c.plain_response.ensures.response c.respond_statelessly.ensures.done

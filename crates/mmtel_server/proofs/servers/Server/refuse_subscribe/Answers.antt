use Rattle.std.proofs.Common.{subst}
use Rattle.std.proofs.lemmas.Result.{on_ok_weaker}
use Rattle.mmtel_run_definitions.specs.OwnResponses.{StatusResponse}
use Rattle.mmtel_run_definitions.specs.Transitions.{with_response}
use Rattle.mmtel_server.proofs.servers.Server.refuse_subscribe.Goals as goal
use Rattle.mmtel_server.specs.Follows.{Follows}

pub returns-clause-done : goal.returns-clause-done
returns-clause-done g c = on_ok_weaker c.respond-done.result (λ follows.
    subst (λ (x : StatusResponse). Follows c.args.self.now c.args.out.now c.respond-done.new.self c.respond-done.new.out (λ d token. with_response d token c.args.context.now.at c.args.key c.args.request.now x))
    c.in_ok-status_response.ensures.response follows)
    c.respond-done.ensures.done

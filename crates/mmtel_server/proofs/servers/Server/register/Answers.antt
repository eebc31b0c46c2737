use Rattle.std.proofs.Common.{List, ℕ, subst}
use Rattle.std.specs.Prelude.{OnOk}
use Rattle.std.proofs.lemmas.Result.{on_ok_weaker}
use Rattle.mmtel_directory.specs.declared.directories.Directory.{Directory}
use Rattle.mmtel_run_definitions.specs.OwnResponses.{StatusResponse, plain_response}
use Rattle.mmtel_run_definitions.specs.Transitions.{RunState, with_registration, with_response}
use Rattle.mmtel_server.proofs.Records.{registers_first}
use Rattle.mmtel_server.proofs.servers.Server.register.Goals as goal
use Rattle.mmtel_server.specs.Follows.{Follows}

pub returns-clause-done : goal.returns-clause-done
returns-clause-done g c =
    let f : Directory → List ℕ → RunState → RunState = λ d token. with_response d token c.args.context.now.at c.args.key c.args.request.now (plain_response 200) in
    let replied = subst (λ (x : StatusResponse). OnOk c.respond.result (Follows (record c.args.self.now { records = c.register.new.self }) c.args.out.now c.respond.new.self c.respond.new.out
    (λ d token. with_response d token c.args.context.now.at c.args.key c.args.request.now x))) c.plain_response.ensures.response c.respond.ensures.done in
    on_ok_weaker c.respond.result (λ follows. subst (λ (n : ℕ). Follows c.args.self.now c.args.out.now c.respond.new.self c.respond.new.out (λ d token w. f d token (with_registration c.args.account n w))) c.until.ensures
    (registers_first c.args.self.now c.register.new.self c.args.account c.until.result f c.respond.new.self c.args.out.now c.respond.new.out c.register.ensures.texts c.in_ok-register.ensures.registered follows))
    replied

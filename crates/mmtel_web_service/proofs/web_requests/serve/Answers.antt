use Rattle.std.proofs.Common.{[], refl}
use Rattle.mmtel_http.specs.Requests.{request_of}
use Rattle.mmtel_web.specs.Handling.{no_memory}
use Rattle.mmtel_web_service.proofs.KeeperCalls.{no_memory_result, on_err}
use Rattle.mmtel_web_service.specs.KeeperCalls.{keeper_call_in}
use Rattle.mmtel_web_service.proofs.web_requests.serve.Goals as goal

pub returns-in_err-sorry-clause-aborted : goal.returns-in_err-sorry-clause-aborted
returns-in_err-sorry-clause-aborted g c = on_err c.from_residual.result _ (record {
  outcome = no_memory;
  rows = [];
  keeper_result = no_memory_result (keeper_call_in c.args.directory.now (request_of c.args.bytes.now)) [] (g.K.Keeper.contents c.args.keeper.now) (g.K.Keeper.calls c.args.keeper.now);
  counted = refl;
})

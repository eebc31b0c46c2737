use Rattle.std.proofs.lemmas.Result.{IfOk-weaker}
use Rattle.mmtel_server.proofs.Handover.{rows_handed_over}
use Rattle.mmtel_server.proofs.servers.Server.hand_rows.Goals as goal

pub returns-clause-done : goal.returns-clause-done
returns-clause-done g c = IfOk-weaker c.hand_rows.result _ _ (λ took left out. rows_handed_over c.args.self.now took c.hand_rows.new.waiting left out) c.hand_rows.ensures.remaining

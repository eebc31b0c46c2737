use Rattle.std.proofs.Common.{Bool, false, ap}
use Rattle.std.specs.Prelude.{count_by, if◌then◌else◌, nat_le}
use Rattle.mmtel_b2bua.specs.Entries.{is_live}
use Rattle.mmtel_b2bua.specs.Tables.{most_calls}
use Rattle.mmtel_server.proofs.servers.Server.signal_calls.Goals as goal

pub step_calls_and_emit-requires : goal.step_calls_and_emit-requires
step_calls_and_emit-requires g c = ap (λ (b : Bool). if b then nat_le most_calls (count_by is_live c.args.self.now.calls.table.entries) else false) c.requires

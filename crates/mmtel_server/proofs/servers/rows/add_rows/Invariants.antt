use Rattle.std.proofs.Common.{◌≡◌, ◌++◌, take}
use Rattle.mmtel_server.proofs.servers.rows.add_rows.Given as goal

abbrev pub invariant-loop-row : goal.invariant-loop-row
invariant-loop-row l = l.waiting ≡ l.fn.waiting ++ take l.row-index l.rows

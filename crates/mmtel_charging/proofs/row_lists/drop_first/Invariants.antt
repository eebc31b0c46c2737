use Rattle.std.proofs.Common.{◌≡◌, drop}
use Rattle.mmtel_charging.proofs.row_lists.drop_first.Given as goal

abbrev pub invariant-loop : goal.invariant-loop
invariant-loop g l = l.rows ≡ drop l.counter l.fn.rows

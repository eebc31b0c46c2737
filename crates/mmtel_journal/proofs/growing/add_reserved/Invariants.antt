use Rattle.std.proofs.Common.{◌≡◌, ◌+◌, ◌≤◌, ◌++◌, length, take}
use Rattle.std.specs.Vec.{vec_capacity, vec_len}
use Rattle.mmtel_journal.proofs.growing.add_reserved.Given as goal

abbrev pub invariant-loop-row : goal.invariant-loop-row
invariant-loop-row l = record {
  added : l.row_list.items ≡ l.fn.row_list.items ++ take l.row-index l.rows;
  room : vec_len l.row_list + length l.rows ≤ vec_capacity l.row_list + l.row-index;
}

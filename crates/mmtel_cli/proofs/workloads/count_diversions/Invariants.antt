use Rattle.std.proofs.Common.{◌≡◌, ◌≤◌, ◌+◌, drop}
use Rattle.mmtel_cli.specs.Workloads.{diversions_in}
use Rattle.mmtel_cli.proofs.workloads.count_diversions.Given as goal

-- what was counted and what remains make the whole
abbrev pub invariant-loop-row : goal.invariant-loop-row
invariant-loop-row l = record {
  counted : l.count + diversions_in (drop l.row-index l.rows) ≡ diversions_in l.rows;
  within : l.count ≤ l.row-index;
}

use Rattle.std.proofs.Common.{◌≡◌, ◌-◌, length, take}
use Rattle.std.specs.Prelude.{◌↔◌}
use Rattle.mmtel_journal.specs.Disks.{Leaves}
use Rattle.mmtel_journal.proofs.opening.read_all.Given as goal

abbrev pub invariant-loop-piece : goal.invariant-loop-piece
invariant-loop-piece g l = record {
  faults : g.D.Disk.faults l.disk ≡ g.D.Disk.faults l.fn.disk;
  honest : g.D.Disk.honest l.fn.disk ↔ g.D.Disk.honest l.disk;
  shown : g.D.Disk.honest l.fn.disk → g.D.Disk.contents l.disk ≡ g.D.Disk.contents l.fn.disk;
  stop : g.D.Disk.honest l.fn.disk → Leaves (g.D.Disk.may_leave l.disk) (g.D.Disk.may_leave l.fn.disk);
  size : g.D.Disk.honest l.fn.disk → l.len ≡ length (g.D.Disk.contents l.fn.disk);
  front : g.D.Disk.honest l.fn.disk → l.bytes.items ≡ take (length l.bytes.items) (g.D.Disk.contents l.fn.disk);
}

abbrev pub decreases-loop-piece : goal.decreases-loop-piece
decreases-loop-piece g l = l.len - length l.bytes.items

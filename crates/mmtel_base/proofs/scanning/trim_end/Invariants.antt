use Rattle.std.proofs.Common.{◌≤◌, length, drop}
use Rattle.mmtel_base.specs.Classes.{IsAll}
use Rattle.mmtel_base.proofs.scanning.trim_end.Given as goal

abbrev pub invariant-back : goal.invariant-back
invariant-back l = IsAll l.class (drop l.len l.bytes) × (l.len ≤ length l.bytes)

abbrev pub decreases-back : goal.decreases-back
decreases-back l = l.len

use Rattle.std.proofs.Common.{◌≡◌, length}
use Rattle.mmtel_timers.specs.Parts.{items_before}
use Rattle.mmtel_timers.proofs.parted_shelves.start_of.Given as goal

abbrev pub invariant-loop-i : goal.invariant-loop-i
invariant-loop-i g l = l.start ≡ length (items_before l.i l.parts)

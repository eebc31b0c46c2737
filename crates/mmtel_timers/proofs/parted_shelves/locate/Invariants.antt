use Rattle.std.proofs.Common.{◌≡◌, ◌+◌, length}
use Rattle.mmtel_timers.specs.Parts.{items_before}
use Rattle.mmtel_timers.proofs.parted_shelves.locate.Given as goal

abbrev pub invariant-loop-part : goal.invariant-loop-part
invariant-loop-part g l = l.place ≡ length (items_before l.part l.parts) + l.own

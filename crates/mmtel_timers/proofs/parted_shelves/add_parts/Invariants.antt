use Rattle.std.proofs.Common.{◌≡◌, ◌+◌, ◌-◌, vec_len}
use Rattle.mmtel_timers.specs.Parts.{ArePartsFrom, joined}
use Rattle.mmtel_timers.proofs.parted_shelves.add_parts.Given as goal

abbrev pub invariant-loop-parts : goal.invariant-loop-parts
invariant-loop-parts g l = (joined l.parts.items ≡ joined l.initial.parts.items) × (ArePartsFrom g.T.Ranked.rank 0 l.initial.parts.items → ArePartsFrom g.T.Ranked.rank 0 l.parts.items)

abbrev pub decreases-loop-parts : goal.decreases-loop-parts
decreases-loop-parts g l = l.part + 1 - vec_len l.parts

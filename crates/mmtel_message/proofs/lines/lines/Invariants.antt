use Rattle.std.proofs.Common.{◌+◌, ◌-◌, length}
use Rattle.std.specs.Option.{option_map_or}
use Rattle.mmtel_message.proofs.FoldTheorems.{ReadsLines}
use Rattle.mmtel_message.proofs.lines.lines.Given as goal

abbrev pub invariant-lines : goal.invariant-lines
invariant-lines l = ReadsLines l.fn.bytes l.head l.lines l.rest

abbrev pub decreases-lines : goal.decreases-lines
decreases-lines l = option_map_or (λ n. length l.head + 1 - n) l.rest 0

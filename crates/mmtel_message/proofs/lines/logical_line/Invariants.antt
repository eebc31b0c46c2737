use Rattle.std.proofs.Common.{◌+◌, ◌-◌, ◌≤◌, length, drop}
use Rattle.std.specs.Prelude.{IfSome}
use Rattle.std.specs.Option.{option_map_or}
use Rattle.mmtel_message.specs.Held.{bytes_at}
use Rattle.mmtel_message.specs.Lines.{logical_lines_from, split}
use Rattle.mmtel_message.specs.Spans.{rest_at}
use Rattle.mmtel_message.proofs.FoldTheorems.{ReadsOn}
use Rattle.mmtel_message.proofs.lines.logical_line.Given as goal

abbrev pub invariant-lines : goal.invariant-lines
invariant-lines l = ReadsOn (logical_lines_from (bytes_at l.fn.head l.fn.first) (split (drop l.fn.next l.fn.head))) l.front l.gap l.piece (rest_at l.fn.head l.rest)
    × IfSome l.rest (λ n. (l.fn.next ≤ n) × (n ≤ length l.fn.head))

abbrev pub decreases-lines : goal.decreases-lines
decreases-lines l = option_map_or (λ n. length l.fn.head + 1 - n) l.rest 0

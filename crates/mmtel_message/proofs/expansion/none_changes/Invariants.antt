use Rattle.std.proofs.Common.{◌≡◌, ◌++◌, take, drop}
use Rattle.mmtel_message.specs.Held.{held_lines}
use Rattle.mmtel_message.specs.Expansion.{privacy_text, allow_text, expanded_lines, expanded_from}
use Rattle.mmtel_message.proofs.expansion.none_changes.Given as goal

abbrev pub invariant-loop-i : goal.invariant-loop-i
invariant-loop-i l =
    expanded_lines (held_lines l.bytes l.lines) ≡
    held_lines l.bytes (take l.i l.lines)
    ++ expanded_from (privacy_text (held_lines l.bytes l.lines)) (allow_text (held_lines l.bytes l.lines)) (held_lines l.bytes (take l.i l.lines)) (held_lines l.bytes (drop l.i l.lines))

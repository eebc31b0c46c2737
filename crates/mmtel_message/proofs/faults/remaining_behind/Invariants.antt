use Rattle.std.proofs.Common.{◌≡◌, length, drop}
use Rattle.mmtel_message.specs.Faults.{remaining_after}
use Rattle.mmtel_message.specs.Message.{values_named}
use Rattle.mmtel_message.specs.declared.values.Mode.TheVariants.{Plain}
use Rattle.mmtel_message.proofs.faults.remaining_behind.Given as goal

abbrev pub invariant-loop-i : goal.invariant-loop-i
invariant-loop-i l =
    remaining_after l.fn.remaining (length (values_named Plain l.name l.lines.values)) ≡ remaining_after l.left (length (values_named Plain l.name (drop l.i l.lines.values)))

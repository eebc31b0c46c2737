use Rattle.std.proofs.Common.{◌≡◌, take}
use Rattle.mmtel_message.specs.Message.{values_named}
use Rattle.mmtel_message.proofs.messages.values_named.Given as goal

abbrev pub invariant-loop-i : goal.invariant-loop-i
invariant-loop-i l = l.out ≡ values_named l.mode l.name (take l.i l.lines.values)

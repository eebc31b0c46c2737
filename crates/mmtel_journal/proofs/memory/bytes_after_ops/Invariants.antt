use Rattle.std.proofs.Common.{◌≡◌, take}
use Rattle.mmtel_journal.specs.Memory.{bytes_after_ops}
use Rattle.mmtel_journal.proofs.memory.bytes_after_ops.Given as goal

abbrev pub invariant-loop-done : goal.invariant-loop-done
invariant-loop-done l = l.bytes.items ≡ bytes_after_ops l.first (take l.done-index l.calls)

use Rattle.std.proofs.Common.{◌≡◌, ℕ, ◌<◌, get_or, true}
use Rattle.mmtel_base.specs.Classes.{in_class}
use Rattle.mmtel_base.proofs.scanning.run_len.Given as goal

abbrev pub invariant-loop-i : goal.invariant-loop-i
invariant-loop-i l = (k : ℕ) → k < l.i → in_class l.class (get_or l.bytes k 0) ≡ true

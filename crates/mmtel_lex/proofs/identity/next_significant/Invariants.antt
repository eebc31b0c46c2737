use Rattle.std.proofs.Common.{◌≡◌, ◌≤◌, length}
use Rattle.mmtel_lex.specs.Identity.{without_separators}
use Rattle.mmtel_lex.proofs.identity.next_significant.Given as goal

abbrev pub invariant-marks : goal.invariant-marks
invariant-marks l = (without_separators l.bytes ≡ without_separators l.rest) × (length l.rest ≤ length l.bytes)

abbrev pub decreases-marks : goal.decreases-marks
decreases-marks l = length l.rest

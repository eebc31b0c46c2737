use Rattle.std.proofs.Common.{◌≡◌, ◌≤◌, ◌<◌, ◌==◌, ℕ, length, get_or, not, true}
use Rattle.mmtel_lex.proofs.uri_parts.split_user.Given as goal

abbrev pub invariant-back : goal.invariant-back
invariant-back l = ((k : ℕ) → l.at ≤ k → k < length l.uri → not (get_or l.uri k 0 == 64) ≡ true) × (l.at ≤ length l.uri)

abbrev pub decreases-back : goal.decreases-back
decreases-back l = l.at

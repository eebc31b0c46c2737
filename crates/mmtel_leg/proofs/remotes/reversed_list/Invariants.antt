use Rattle.std.proofs.Common.{◌≡◌, ◌++◌, length, reverse}
use Rattle.mmtel_leg.proofs.remotes.reversed_list.Given as goal

abbrev pub invariant-values : goal.invariant-values
invariant-values l = l.back ++ reverse l.values ≡ reverse l.fn.values

abbrev pub decreases-values : goal.decreases-values
decreases-values l = length l.values

use Rattle.std.proofs.Common.{◌≡◌, ◌++◌, filter, length}
use Rattle.mmtel_participants.specs.Targets.{is_no_method}
use Rattle.mmtel_participants.proofs.targets.without_method.Given as goal

abbrev pub invariant-params : goal.invariant-params
invariant-params l = l.kept ++ filter is_no_method l.rest ≡ filter is_no_method l.fn.params

abbrev pub decreases-params : goal.decreases-params
decreases-params l = length l.rest

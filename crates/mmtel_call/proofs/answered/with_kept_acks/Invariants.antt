use Rattle.std.proofs.Common.{◌≡◌, ◌++◌, map, length}
use Rattle.mmtel_call.specs.Answered.{with_kept_ack}
use Rattle.mmtel_call.proofs.answered.with_kept_acks.Given as goal

abbrev pub invariant-rest : goal.invariant-rest
invariant-rest l = l.kept ++ map (with_kept_ack l.branch l.text) l.rest ≡ map (with_kept_ack l.branch l.text) l.fn.answered_invites

abbrev pub decreases-rest : goal.decreases-rest
decreases-rest l = length l.rest

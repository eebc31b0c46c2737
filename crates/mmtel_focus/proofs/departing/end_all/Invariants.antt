use Rattle.std.proofs.Common.{◌≡◌, ◌++◌, ◌≤◌, ◌+◌, map, vec_len}
use Rattle.std.specs.Prelude.{vec_capacity}
use Rattle.mmtel_focus.specs.Queries.{ended_leg}
use Rattle.mmtel_focus.proofs.departing.end_all.Given as goal

-- those ended so far, and those still to be ended; and the capacity suffices for all of them
abbrev pub invariant-participants : goal.invariant-participants
invariant-participants l = (l.all.items ++ map ended_leg l.participants.items ≡ map ended_leg l.fn.conference.participants) × (vec_len l.all + vec_len l.participants ≤ vec_capacity l.all)

abbrev pub decreases-participants : goal.decreases-participants
decreases-participants l = vec_len l.participants

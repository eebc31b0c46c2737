use Rattle.std.proofs.Common.{◌+◌, ◌*◌}
use Rattle.mmtel_call.proofs.calls.Call.+diverting.Given as goal

-- how many diversions are left, and the position within the step to the next one
abbrev pub decreases-divert : goal.decreases-divert
decreases-divert l = 4 * l.self.now.diversions.remaining + 1

abbrev pub decreases-divert_to : goal.decreases-divert_to
decreases-divert_to l = 4 * l.self.now.diversions.remaining

abbrev pub decreases-take_next_step : goal.decreases-take_next_step
decreases-take_next_step l = 4 * l.self.now.diversions.remaining + 2

abbrev pub decreases-reach_target : goal.decreases-reach_target
decreases-reach_target l = 4 * l.self.now.diversions.remaining + 3

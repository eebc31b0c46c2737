use Rattle.std.proofs.Common.{length}
use Rattle.mmtel_call.proofs.closing.give_up_meters.Given as goal

abbrev pub decreases-meters : goal.decreases-meters
decreases-meters l = length l.meters

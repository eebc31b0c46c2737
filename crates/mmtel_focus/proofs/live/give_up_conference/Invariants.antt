use Rattle.std.proofs.Common.{vec_len}
use Rattle.mmtel_focus.proofs.live.give_up_conference.Given as goal

abbrev pub decreases-participants : goal.decreases-participants
decreases-participants l = vec_len l.participants

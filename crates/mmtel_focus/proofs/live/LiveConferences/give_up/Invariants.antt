use Rattle.std.proofs.Common.{vec_len}
use Rattle.mmtel_focus.proofs.live.LiveConferences.give_up.Given as goal

abbrev pub decreases-conferences : goal.decreases-conferences
decreases-conferences l = vec_len l.conferences

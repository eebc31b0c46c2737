use Rattle.std.proofs.Common.{vec_len}
use Rattle.mmtel_mwi.proofs.boxes.Boxes.give_up.Given as goal

abbrev pub decreases-subscriptions : goal.decreases-subscriptions
decreases-subscriptions l = vec_len l.live

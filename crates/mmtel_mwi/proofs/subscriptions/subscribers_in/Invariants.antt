use Rattle.std.proofs.Common.{◌≡◌, take}
use Rattle.mmtel_mwi.specs.Boxes.{subscribers_in}
use Rattle.mmtel_mwi.proofs.subscriptions.subscribers_in.Given as goal

abbrev pub invariant-loop-one : goal.invariant-loop-one
invariant-loop-one l = l.out ≡ subscribers_in l.account (take l.one-index l.live)

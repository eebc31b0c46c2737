use Rattle.std.proofs.Common.{◌≡◌, ◌++◌, take, drop}
use Rattle.mmtel_sdp.specs.Sdp.{before_media}
use Rattle.mmtel_sdp.proofs.media.before_media.Given as goal

abbrev pub invariant-loop-i : goal.invariant-loop-i
invariant-loop-i l = before_media l.lines ≡ take l.i l.lines ++ before_media (drop l.i l.lines)

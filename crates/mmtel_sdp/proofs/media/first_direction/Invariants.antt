use Rattle.std.proofs.Common.{◌≡◌, drop}
use Rattle.mmtel_sdp.specs.Sdp.{first_of, direction_in}
use Rattle.mmtel_sdp.proofs.media.first_direction.Given as goal

abbrev pub invariant-loop-line : goal.invariant-loop-line
invariant-loop-line l = first_of direction_in l.lines ≡ first_of direction_in (drop l.line-index l.lines)

use Rattle.std.proofs.Common.{◌≡◌, drop}
use Rattle.mmtel_sdp.specs.Sdp.{map_under}
use Rattle.mmtel_sdp.proofs.media.map_under.Given as goal

abbrev pub invariant-loop-line : goal.invariant-loop-line
invariant-loop-line l = map_under l.format l.lines ≡ map_under l.format (drop l.line-index l.lines)

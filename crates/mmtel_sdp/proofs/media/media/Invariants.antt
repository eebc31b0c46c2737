use Rattle.std.proofs.Common.{◌≡◌, drop}
use Rattle.mmtel_sdp.specs.Sdp.{media_of, sections}
use Rattle.mmtel_sdp.proofs.Reading.{with_front}
use Rattle.mmtel_sdp.proofs.media.media.Given as goal

abbrev pub invariant-loop-i : goal.invariant-loop-i
invariant-loop-i l = media_of (sections l.lines) ≡ with_front l.media (media_of (sections (drop l.i l.lines)))

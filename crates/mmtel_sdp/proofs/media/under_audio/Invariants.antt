use Rattle.std.proofs.Common.{◌≡◌, drop}
use Rattle.mmtel_sdp.specs.Sdp.{under_audio, sections}
use Rattle.mmtel_sdp.proofs.media.under_audio.Given as goal

abbrev pub invariant-loop-i : goal.invariant-loop-i
invariant-loop-i l = under_audio (sections l.lines) ≡ under_audio (sections (drop l.i l.lines))

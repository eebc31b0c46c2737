use Rattle.std.proofs.Common.{◌++◌, drop}
use Rattle.mmtel_sdp.specs.Lines.{text_of}
use Rattle.mmtel_sdp.specs.Mixer.{answer_media_lines}
use Rattle.mmtel_sdp.proofs.WrittenLines.{IsWrittenSoFar}
use Rattle.mmtel_sdp.proofs.mixer.add_answer_media.Given as goal

abbrev pub invariant-loop-medium : goal.invariant-loop-medium
invariant-loop-medium l = IsWrittenSoFar l.port l.direction l.taken l.out (drop l.medium-index l.media) (l.fn.out ++ text_of (answer_media_lines l.port l.direction l.media))

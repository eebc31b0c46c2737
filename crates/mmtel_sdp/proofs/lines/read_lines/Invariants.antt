use Rattle.std.proofs.Common.{◌≡◌, length}
use Rattle.mmtel_sdp.specs.Lines.{lines_of}
use Rattle.mmtel_sdp.proofs.Reading.{with_front}
use Rattle.mmtel_sdp.proofs.lines.read_lines.Given as goal

abbrev pub invariant-lines : goal.invariant-lines
invariant-lines l = lines_of l.fn.bytes ≡ with_front l.lines (lines_of l.rest)

abbrev pub decreases-lines : goal.decreases-lines
decreases-lines l = length l.rest

use Rattle.mmtel_message.proofs.RoundTrip.{reads_lines}
use Rattle.mmtel_message.proofs.theorems.lines_decide.Goals as goal

pub returns : goal.returns
returns c = record {
  lines = reads_lines;
}

use Rattle.mmtel_message.proofs.BodyTheorems.{more_bytes}
use Rattle.mmtel_message.proofs.theorems.trailing_bytes_do_not_matter.Goals as goal

pub returns : goal.returns
returns c = record {
  reading = more_bytes;
}

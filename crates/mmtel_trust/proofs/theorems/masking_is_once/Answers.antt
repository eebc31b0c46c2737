use Rattle.mmtel_trust.proofs.ParsedTheorems.{hide_again}
use Rattle.mmtel_trust.proofs.Masked.{masked_again, lines_again}
use Rattle.mmtel_trust.proofs.theorems.masking_is_once.Goals as goal

pub returns : goal.returns
returns c = record { message = masked_again; lines = lines_again; received = hide_again }

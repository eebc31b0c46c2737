use Rattle.mmtel_history.proofs.WrittenTheorems.{entries_again, reading_again, masked_again, writing_masked}
use Rattle.mmtel_history.proofs.theorems.written_lists_are_read.Goals as goal

pub returns : goal.returns
returns c = record { entries = entries_again; read = reading_again; masked = masked_again; masks_alike = writing_masked }

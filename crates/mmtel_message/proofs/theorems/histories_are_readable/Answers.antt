use Rattle.mmtel_message.proofs.EntryTheorems.{read_entries, read_few}
use Rattle.mmtel_message.proofs.theorems.histories_are_readable.Goals as goal

pub returns : goal.returns
returns c = record {
  entries = read_entries;
  few = read_few;
}

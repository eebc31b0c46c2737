use Rattle.std.specs.Prelude.{codes}
use Rattle.mmtel_message.specs.Message.{values_named}
use Rattle.mmtel_message.specs.declared.values.Mode.TheVariants.{Plain}
use Rattle.mmtel_history.proofs.ValueTheorems.{same_entry, entries_read}
use Rattle.mmtel_history.proofs.theorems.values_are_readable.Goals as goal

pub returns : goal.returns
returns c = record {
  entry = same_entry;
  entries = entries_read;
  messages = λ b m read. entries_read (values_named Plain (codes "History-Info") m.lines) (c.histories_are_readable.ensures.entries b m read) (c.histories_are_readable.ensures.few b m read);
}

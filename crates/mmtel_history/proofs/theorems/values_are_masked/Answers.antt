use Rattle.mmtel_history.proofs.MaskedValueTheorems.{masked_entry_of, masked_value_once, masked_value_index, masked_value_cause, masked_value_shown, seen_entries, seen_read, seen_refused}
use Rattle.mmtel_history.proofs.theorems.values_are_masked.Goals as goal

pub returns : goal.returns
returns c = record {
  entry = masked_entry_of;
  once = masked_value_once;
  index = masked_value_index;
  cause = masked_value_cause;
  shown = masked_value_shown;
  entries = seen_entries;
  read = seen_read;
  refused = seen_refused;
}

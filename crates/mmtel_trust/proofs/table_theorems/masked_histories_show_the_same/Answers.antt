use Rattle.mmtel_trust.proofs.TableTheorems.{entries_equal, shown_equal, messages_equal}
use Rattle.mmtel_trust.proofs.table_theorems.masked_histories_show_the_same.Goals as goal

pub returns : goal.returns
returns c = record { entries = entries_equal; shown = shown_equal; messages = messages_equal }

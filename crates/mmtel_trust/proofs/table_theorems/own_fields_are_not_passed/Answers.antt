use Rattle.mmtel_trust.proofs.TableTheorems.{own_passed, own_history, own_shown, history_shown}
use Rattle.mmtel_trust.proofs.table_theorems.own_fields_are_not_passed.Goals as goal

pub returns : goal.returns
returns c = record { passes_none = own_passed; entries = own_history; shown = own_shown; history = history_shown }

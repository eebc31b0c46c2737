use Rattle.mmtel_transaction.proofs.HeadLines.{on_fields, on_five_names}
use Rattle.mmtel_transaction.proofs.theorems.heads_rest_on_five_names.Goals as goal

pub returns : goal.returns
returns c = record { fields = on_fields; lines = on_five_names }

use Rattle.mmtel_transaction.proofs.Few.{capacity_remains, few_opened, numbers_count, numbers_differ}
use Rattle.mmtel_transaction.proofs.theorems.numbers_are_distinct.Goals as goal

pub returns : goal.returns
returns c = record { few = few_opened; capacity = capacity_remains; count = numbers_count; differ = numbers_differ }

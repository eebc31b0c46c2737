use Rattle.mmtel_transaction.proofs.Later.{begins_change_nothing, due_is_counted, leave_fewer, sends_add_none}
use Rattle.mmtel_transaction.proofs.theorems.deadlines_end_between_sends.Goals as goal

pub returns : goal.returns
returns c = record { fewer = leave_fewer; added = sends_add_none; begun = begins_change_nothing; counted = due_is_counted }

use Rattle.mmtel_transaction.proofs.Timeouts.{other_times_out}
use Rattle.mmtel_transaction.proofs.theorems.others_time_out.Goals as goal

pub returns : goal.returns
returns c = record { given_up = other_times_out }

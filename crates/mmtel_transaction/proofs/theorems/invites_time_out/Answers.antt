use Rattle.mmtel_transaction.proofs.Timeouts.{invite_times_out}
use Rattle.mmtel_transaction.proofs.theorems.invites_time_out.Goals as goal

pub returns : goal.returns
returns c = record { given_up = invite_times_out }

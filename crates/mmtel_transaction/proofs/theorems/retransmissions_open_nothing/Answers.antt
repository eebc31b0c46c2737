use Rattle.mmtel_transaction.proofs.Repetition.{retransmissions, strangers}
use Rattle.mmtel_transaction.proofs.theorems.retransmissions_open_nothing.Goals as goal

pub returns : goal.returns
returns c = record { nothing = retransmissions; strangers = strangers }

use Rattle.mmtel_transaction.proofs.Pracked.{are_retransmitted, finals_end, reliable_go_on, sent_reliable_wait, settled_gone}
use Rattle.mmtel_transaction.proofs.theorems.reliable_waits_for_its_prack.Goals as goal

pub returns : goal.returns
returns c = record { offered = sent_reliable_wait; waits = reliable_go_on; again = are_retransmitted; settled = settled_gone; ended = finals_end }

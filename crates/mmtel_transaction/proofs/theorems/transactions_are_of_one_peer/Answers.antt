use Rattle.mmtel_transaction.proofs.OfPeers.{keeps_peer, new_peer, request_peer}
use Rattle.mmtel_transaction.proofs.theorems.transactions_are_of_one_peer.Goals as goal

pub returns : goal.returns
returns c = record { received = new_peer; peers = request_peer; kept = keeps_peer }

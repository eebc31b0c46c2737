use Rattle.mmtel_run_theorems.proofs.ConfiguredPeers.{peers_apart}
use Rattle.mmtel_run_theorems.proofs.SentBytes.{bytes_seen}
use Rattle.mmtel_run_theorems.proofs.offers.bytes_are_seen.Goals as goal

pub returns : goal.returns
returns c = record { law = bytes_seen; apart = peers_apart }

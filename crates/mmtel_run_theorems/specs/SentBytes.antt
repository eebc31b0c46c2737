-- What is sent to a peer's address is what is output for the peer.
use Rattle.std.specs.Prelude.{◌≡◌, ℕ, true, List, map, Some, Ok}
use Rattle.mmtel_directory.specs.Directory.{directory_of}
use Rattle.mmtel_directory.specs.declared.directories.Directory.{Directory}
use Rattle.mmtel_delivery.specs.Delivery.{bytes_to, sends_of}
use Rattle.mmtel_environment.specs.declared.events.Offer.{Offer}
use Rattle.mmtel_run_definitions.specs.View.{view}
use Rattle.mmtel_trust.specs.Peers.{addr_of, are_apart}
use Rattle.mmtel_trust.specs.declared.known_peers.KnownPeer.{KnownPeer}
use Rattle.mmtel_types.specs.declared.addrs.Addr.{Addr}
use Rattle.mmtel_types.specs.declared.numbers.Peer.{Peer}

-- the texts that a peer receives, in order
abbrev pub texts_seen : Peer → List Offer → List (List ℕ)
texts_seen peer offers = map (λ (seen : ℕ × List ℕ). seen.1) (view peer offers)

-- among peers each of which has a number and an address of its own: whatever is output, the bytes that are sent to the address of one are those that are output for it, in order
abbrev pub BytesAreSeen : Type 0
BytesAreSeen = (known : List KnownPeer) (peer : Peer) (addr : Addr) (offers : List Offer) → are_apart known ≡ true → addr_of peer known ≡ Some addr →
    bytes_to addr (sends_of known offers) ≡ texts_seen peer offers

-- the peers of every configuration are so
abbrev pub PeersAreApart : Type 0
PeersAreApart = (text : List ℕ) (directory : Directory) → directory_of text ≡ Ok directory → are_apart directory.peers.known ≡ true

use Rattle.std.proofs.Common.{◌≡◌, Option, Some, None, IfSome, List, refl, sym, ap, subst, ◌∙◌}
use Rattle.mmtel_types.specs.declared.numbers.Peer.{Peer}
use Rattle.mmtel_types.specs.declared.addrs.Addr.{Addr}
use Rattle.mmtel_trust.specs.declared.known_peers.KnownPeer.{KnownPeer}
use Rattle.mmtel_trust.specs.Hashes.{addr_hash}
use Rattle.mmtel_trust.specs.Peers.{peer_at, addr_of}
use Rattle.mmtel_trust.specs.HashIndex.{IsIndex}
use Rattle.mmtel_trust.proofs.PeerTheorems.{at_theirs}
use Rattle.mmtel_trust.proofs.peers.PeerTable.find.Goals as goal

if_found : (o : Option Peer) (a : Addr) (ks : List KnownPeer) → ((p : Peer) → o ≡ Some p → addr_of p ks ≡ Some a) → IfSome o (λ p. addr_of p ks ≡ Some a)
if_found None a ks each = tt
if_found (Some p) a ks each = each p refl

pub returns-clause-theirs : goal.returns-clause-theirs
returns-clause-theirs c =
    let found : c.peer_at.result ≡ peer_at c.args.addr c.self.inside.peers = c.peer_at.ensures ∙ ap (λ ks. peer_at c.args.addr ks) c.items.ensures in
    subst (λ t. IfSome c.peer_at.result (λ p. addr_of p t.known ≡ Some c.args.addr)) c.self.view_is
    (if_found c.peer_at.result c.args.addr c.self.inside.peers (λ p e. at_theirs c.args.addr p c.self.inside.peers c.self.invariant.sound.apart (sym found ∙ e)))

pub peer_at-requires : goal.peer_at-requires
peer_at-requires c = subst (λ (ks : List KnownPeer). IsIndex (λ k. addr_hash k.addr) ks c.self.inside.by_addr) (sym c.items.ensures) c.self.invariant.addrs

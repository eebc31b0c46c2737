use Rattle.std.proofs.Common.{◌≡◌, Option, Some, None, IfSome, List, refl, sym, ap, subst, ◌∙◌}
use Rattle.mmtel_types.specs.declared.numbers.Peer.{Peer}
use Rattle.mmtel_types.specs.declared.addrs.Addr.{Addr}
use Rattle.mmtel_trust.specs.declared.known_peers.KnownPeer.{KnownPeer}
use Rattle.mmtel_trust.specs.Peers.{peer_at, addr_of}
use Rattle.mmtel_trust.specs.HashIndex.{IsIndex}
use Rattle.mmtel_trust.proofs.PeerTheorems.{of_theirs}
use Rattle.mmtel_trust.proofs.peers.PeerTable.addr.Goals as goal

if_found : (o : Option Addr) (p : Peer) (ks : List KnownPeer) → ((a : Addr) → o ≡ Some a → peer_at a ks ≡ Some p) → IfSome o (λ a. peer_at a ks ≡ Some p)
if_found None p ks each = tt
if_found (Some a) p ks each = each a refl

pub returns-clause-theirs : goal.returns-clause-theirs
returns-clause-theirs c =
    let found : c.addr_of.result ≡ addr_of c.args.peer c.self.inside.peers = c.addr_of.ensures ∙ ap (λ ks. addr_of c.args.peer ks) c.items.ensures in
    subst (λ t. IfSome c.addr_of.result (λ a. peer_at a t.known ≡ Some c.args.peer)) c.self.view_is
    (if_found c.addr_of.result c.args.peer c.self.inside.peers (λ a e. of_theirs c.args.peer a c.self.inside.peers c.self.invariant.sound.apart (sym found ∙ e)))

pub addr_of-requires : goal.addr_of-requires
addr_of-requires c = subst (λ (ks : List KnownPeer). IsIndex (λ k. k.peer.0) ks c.self.inside.by_number) (sym c.items.ensures) c.self.invariant.numbers

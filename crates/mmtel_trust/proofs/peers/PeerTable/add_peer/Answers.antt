use Rattle.std.proofs.Common.{◌≡◌, false, List, length, sym, ap, subst, ◌∙◌}
use Rattle.mmtel_trust.specs.Indexes.{IsPeerTableState}
use Rattle.mmtel_trust.specs.Peers.{Peers, has_number, has_addr}
use Rattle.mmtel_trust.specs.declared.known_peers.KnownPeer.{KnownPeer}
use Rattle.mmtel_trust.proofs.Indexing.{peer_more}
use Rattle.mmtel_trust.proofs.peers.PeerTable.add_peer.Goals as goal

pub invariant_of-self-2 : goal.invariant_of-self-2
invariant_of-self-2 c =
    let before : Peers = record { known = c.self.inside.peers; routes = c.self.inside.routes } in
    let number : has_number c.args.peer c.self.inside.peers ≡ false = ap (λ t. has_number c.args.peer t.known) c.self.view_is ∙ (sym c.has_number.ensures ∙ c.if-has_number.false) in
    let addr : has_addr c.args.addr c.self.inside.peers ≡ false = ap (λ t. has_addr c.args.addr t.known) c.self.view_is ∙ (sym c.has_addr.ensures ∙ c.if-has_addr.false) in
    let last : length c.items-place.result.now ≡ length c.self.inside.peers = ap length c.items-place.ensures in
    subst (λ (ks : List KnownPeer). IsPeerTableState (record { known = ks; routes = c.self.inside.routes }) c.add.new.self c.add-2.new.self c.self.inside.by_name c.self.inside.bound) (sym c.in_ok-push.ensures.ok)
    (peer_more before c.args.peer c.args.addr c.args.trusted c.from.result c.addr_hash.result (length c.items-place.result.now)
    c.self.inside.by_number c.add.new.self c.self.inside.by_addr c.add-2.new.self c.self.inside.by_name c.self.inside.bound
    c.self.invariant number addr c.from.ensures c.addr_hash.ensures last c.in_ok-add.ensures.ok c.in_ok-add-2.ensures.ok)

use Rattle.std.proofs.Common.{◌≡◌, ◌≤◌, ℕ, true, List, length, sym, ap, subst, ◌∙◌}
use Rattle.mmtel_trust.specs.Hashes.{name_hash}
use Rattle.mmtel_trust.specs.Indexes.{IsPeerTableState}
use Rattle.mmtel_trust.specs.Peers.{Peers, has_number}
use Rattle.mmtel_trust.specs.declared.known_peers.Route.{Route}
use Rattle.mmtel_trust.proofs.Indexing.{kept_by_name, route_more}
use Rattle.mmtel_trust.proofs.peers.PeerTable.add_route.Goals as goal

pub invariant_of-self-in_err-push : goal.invariant_of-self-in_err-push
invariant_of-self-in_err-push c =
    let before : Peers = record { known = c.self.inside.peers; routes = c.self.inside.routes } in
    let wide : c.self.inside.bound ≤ c.wider_bound-self-inside.result = c.wider_bound-self-inside.ensures.before in
    subst (λ (rs : List Route). IsPeerTableState (record { known = c.self.inside.peers; routes = rs }) c.self.inside.by_number c.self.inside.by_addr c.add.new.self c.wider_bound-self-inside.result)
    (sym c.in_err-push.ensures.err)
    (kept_by_name before c.name_hash.result (length c.items-place.result.now) c.self.inside.by_number c.self.inside.by_addr c.self.inside.by_name c.add.new.self c.self.inside.bound c.wider_bound-self-inside.result
    c.self.invariant c.in_ok-add.ensures.ok wide)

pub invariant_of-self-2 : goal.invariant_of-self-2
invariant_of-self-2 c =
    let before : Peers = record { known = c.self.inside.peers; routes = c.self.inside.routes } in
    let there : has_number c.args.peer c.self.inside.peers ≡ true = ap (λ t. has_number c.args.peer t.known) c.self.view_is ∙ (sym c.has_number.ensures ∙ c.if-not-has_number.false) in
    let hash : c.name_hash.result ≡ name_hash c.args.name = c.name_hash.ensures ∙ ap name_hash c.bytes-2.ensures in
    let last : length c.items-place.result.now ≡ length c.self.inside.routes = ap length c.items-place.ensures in
    let wide : c.self.inside.bound ≤ c.wider_bound-self-inside.result = c.wider_bound-self-inside.ensures.before in
    let fits : length c.args.name ≤ c.wider_bound-self-inside.result = subst (λ (s : List ℕ). length s ≤ c.wider_bound-self-inside.result) c.bytes-3.ensures c.wider_bound-self-inside.ensures.more in
    subst (λ (rs : List Route). IsPeerTableState (record { known = c.self.inside.peers; routes = rs }) c.self.inside.by_number c.self.inside.by_addr c.add.new.self c.wider_bound-self-inside.result)
    (sym c.in_ok-push.ensures.ok)
    (route_more before c.args.name c.args.peer c.name_hash.result
    (length c.items-place.result.now) c.self.inside.by_number c.self.inside.by_addr c.self.inside.by_name c.add.new.self c.self.inside.bound c.wider_bound-self-inside.result
    c.self.invariant there hash last c.in_ok-add.ensures.ok wide fits)

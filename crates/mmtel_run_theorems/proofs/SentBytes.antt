-- What is sent to a peer's address is what is output for the peer.
use Rattle.std.proofs.Common.{◌≡◌, ◌==◌, ℕ, List, [], ◌∷◌, map, refl, sym, ap, ◌∙◌, subst, Bool, true, false, Option, Some, None, inl, inr}
use Rattle.std.specs.Prelude.{if◌then◌else◌}
use Rattle.std.proofs.lemmas.Bool.{cases_Bool}
use Rattle.std.proofs.lemmas.Option.{none-some}
use Rattle.mmtel_delivery.specs.Delivery.{bytes_to, sends_of, with_send}
use Rattle.mmtel_environment.specs.declared.events.Offer.{Offer}
use Rattle.mmtel_environment.specs.declared.events.Offer.TheVariants as offer
use Rattle.mmtel_run_definitions.specs.View.{view}
use Rattle.mmtel_trust.specs.Peers.{addr_of, are_apart}
use Rattle.mmtel_trust.specs.declared.known_peers.KnownPeer.{KnownPeer}
use Rattle.mmtel_types.specs.Addrs.{is_same_addr}
use Rattle.mmtel_types.specs.declared.addrs.Addr.{Addr}
use Rattle.mmtel_types.specs.declared.numbers.Peer.{Peer}
use Rattle.mmtel_run_theorems.proofs.DistinctPeers.{addr_is, addr_self, one_peer, peer_is, peer_self, some_is, turned}
use Rattle.mmtel_run_theorems.specs.SentBytes.{BytesAreSeen, texts_seen}

-- ---- for one peer

module _ (known : List KnownPeer) (apart : are_apart known ≡ true) (p : Peer) (a : Addr) (is : addr_of p known ≡ Some a) where
  -- the address of a peer is this one exactly where the peer is this one
  same_peer : (q : Peer) (b : Addr) → addr_of q known ≡ Some b → is_same_addr b a ≡ (q.0 == p.0)
  same_peer q b found = elim (cases_Bool (is_same_addr b a)) [
    | inl y ↦
        let to : addr_of q known ≡ Some a = found ∙ ap (λ (z : Addr). Some z) (addr_is b a y) in
        let same : q ≡ p = one_peer known q p a apart to is in
        y ∙ sym (subst (λ (z : Peer). (z.0 == p.0) ≡ true) (sym same) (peer_self p))
    | inr n ↦
        let there : (q.0 == p.0) ≡ true → is_same_addr b a ≡ true = λ e.
        subst (λ (z : Addr). is_same_addr z a ≡ true) (sym (some_is b a (sym found ∙ (ap (λ (z : Peer). addr_of z known) (peer_is q p e) ∙ is)))) (addr_self a) in
        n ∙ sym (turned (q.0 == p.0) (is_same_addr b a) there n)
  ]

  -- whoever has none is another
  nobody : (q : Peer) → addr_of q known ≡ None → (q.0 == p.0) ≡ false
  nobody q none = elim (cases_Bool (q.0 == p.0)) [
    | inl y ↦ absurd (none-some a (sym none ∙ (ap (λ (z : Peer). addr_of z known) (peer_is q p y) ∙ is)))
    | inr n ↦ n
  ]

  one_seen : (q : Peer) (at : ℕ) (text : List ℕ) (o : Option Addr) → addr_of q known ≡ o → (sends : List (Addr × List ℕ)) (seen : List (ℕ × List ℕ))
      → bytes_to a sends ≡ map (λ (x : ℕ × List ℕ). x.1) seen
      → bytes_to a (with_send o text sends) ≡ map (λ (x : ℕ × List ℕ). x.1) (if q.0 == p.0 then (at, text) ∷ seen else seen)
  one_seen q at text None none sends seen same = rw (nobody q none) same
  one_seen q at text (Some b) found sends seen same = rw (same_peer q b found) (by (q.0 == p.0))
    where
      by : (c : Bool) → (if c then text ∷ bytes_to a sends else bytes_to a sends) ≡ map (λ (x : ℕ × List ℕ). x.1) (if c then (at, text) ∷ seen else seen)
      by true = ap (λ (l : List (List ℕ)). text ∷ l) same
      by false = same

  all_seen : (offers : List Offer) → bytes_to a (sends_of known offers) ≡ texts_seen p offers
  all_seen [] = refl
  all_seen (offer.To q at text ∷ offers) = one_seen q at text (addr_of q known) refl (sends_of known offers) (view p offers) (all_seen offers)
  all_seen (offer.Web at text ∷ offers) = all_seen offers

pub bytes_seen : BytesAreSeen
bytes_seen known peer addr offers apart is = all_seen known apart peer addr is offers

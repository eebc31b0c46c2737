-- Peers each of which has a number and an address of its own.
use Rattle.std.proofs.Common.{◌≡◌, ◌==◌, ◌&&◌, ◌||◌, not, ℕ, List, [], ◌∷◌, ◌++◌, refl, sym, ap, ap₂, ◌∙◌, subst, Bool, true, false, Some, arith, inl, inr}
use Rattle.std.specs.List.{list_any}
use Rattle.std.specs.Str.{bytes_eq}
use Rattle.std.proofs.lemmas.Bool.{cases_Bool}
use Rattle.std.proofs.lemmas.Bool.Decides.{nat_tests}
use Rattle.std.proofs.lemmas.Slice.Eq.{bytes_eq-Decides}
use Rattle.mmtel_base.proofs.Runs.{and_true}
use Rattle.mmtel_trust.specs.Peers.{addr_of, are_apart, has_addr, has_number, is_at, is_number}
use Rattle.mmtel_trust.specs.declared.known_peers.KnownPeer.{KnownPeer}
use Rattle.mmtel_types.specs.Addrs.{is_same_addr}
use Rattle.mmtel_types.specs.declared.addrs.Addr.{Addr}
use Rattle.mmtel_types.specs.declared.numbers.Peer.{Peer}

-- ---- equal numbers and addresses

pub peer_is : (p q : Peer) → (p.0 == q.0) ≡ true → p ≡ q
peer_is p q e =
    let same : p.0 ≡ q.0 = grind (arith, nat_tests) in
    let of : ℕ → Peer = λ n. record { 0 = n } in
    ap of same

pub peer_self : (p : Peer) → (p.0 == p.0) ≡ true
peer_self p = grind (arith, nat_tests)

pub addr_is : (a b : Addr) → is_same_addr a b ≡ true → a ≡ b
addr_is a b e =
    let both = and_true (bytes_eq a.ip b.ip) (a.port == b.port) e in
    let port : a.port ≡ b.port = let p : (a.port == b.port) ≡ true = both.1 in grind (arith, nat_tests) in
    let of : List ℕ → ℕ → Addr = λ ip port. record { ip = ip; port = port } in
    ap₂ of ((bytes_eq-Decides a.ip b.ip).0 both.0) port

pub addr_self : (a : Addr) → is_same_addr a a ≡ true
addr_self a = rw ((bytes_eq-Decides a.ip a.ip).1 refl) (let same : (a.port == a.port) ≡ true = grind (arith, nat_tests) in same)

pub some_is : {A : Type 0} (x y : A) → Some x ≡ Some y → x ≡ y
some_is x y e = cc

pub turned : (x y : Bool) → (x ≡ true → y ≡ true) → y ≡ false → x ≡ false
turned true y f e = absurd (let t : y ≡ true = f refl in cc)
turned false y f e = refl

pub not_true : (b : Bool) → not b ≡ true → b ≡ false
not_true true e = absurd cc
not_true false e = refl

or_true : (b : Bool) → (b || true) ≡ true
or_true true = refl
or_true false = refl

or_false : (a b : Bool) → (a || b) ≡ false → (a ≡ false) × (b ≡ false)
or_false true b e = absurd cc
or_false false b e = (refl, e)

other_number : (p q : Peer) → (p.0 == q.0) ≡ false → (q.0 == p.0) ≡ false
other_number p q e = turned (q.0 == p.0) (p.0 == q.0) (λ s. rw (peer_is q p s) (peer_self p)) e

other_addr : (a b : Addr) → is_same_addr a b ≡ false → is_same_addr b a ≡ false
other_addr a b e = turned (is_same_addr b a) (is_same_addr a b) (λ s. rw (addr_is b a s) (addr_self a)) e

-- ---- one more peer

not_more : (q : KnownPeer → Bool) (ks : List KnownPeer) (k : KnownPeer) → q k ≡ false → list_any q (ks ++ k ∷ []) ≡ list_any q ks
not_more q [] k e = rw e refl
not_more q (x ∷ xs) k e = ap (λ (b : Bool). q x || b) (not_more q xs k e)

pub apart_more : (ks : List KnownPeer) (k : KnownPeer) → are_apart ks ≡ true → has_number k.peer ks ≡ false → has_addr k.addr ks ≡ false → are_apart (ks ++ k ∷ []) ≡ true
apart_more [] k apart number addr = refl
apart_more (x ∷ xs) k apart number addr =
    let parts = and_true (not (has_number x.peer xs) && not (has_addr x.addr xs)) (are_apart xs) apart in
    let numbers = or_false (is_number k.peer x) (has_number k.peer xs) number in
    let addrs = or_false (is_at k.addr x) (has_addr k.addr xs) addr in
    rw (not_more (is_number x.peer) xs k (other_number x.peer k.peer numbers.0), not_more (is_at x.addr) xs k (other_addr x.addr k.addr addrs.0), parts.0, apart_more xs k parts.1 numbers.1 addrs.1) refl

-- ---- one address

head_apart : (k : KnownPeer) (ks : List KnownPeer) → are_apart (k ∷ ks) ≡ true → (has_addr k.addr ks ≡ false) × (are_apart ks ≡ true)
head_apart k ks e =
    let parts = and_true (not (has_number k.peer ks) && not (has_addr k.addr ks)) (are_apart ks) e in
    let fronts = and_true (not (has_number k.peer ks)) (not (has_addr k.addr ks)) parts.0 in
    (not_true (has_addr k.addr ks) fronts.1, parts.1)

addr_there : (q : Peer) (a : Addr) (ks : List KnownPeer) → addr_of q ks ≡ Some a → has_addr a ks ≡ true
addr_there q a [] e = absurd cc
addr_there q a (k ∷ ks) e =
    elim (cases_Bool (k.peer.0 == q.0)) [
      | inl y ↦
          let same : k.addr ≡ a = some_is k.addr a (rw y at e) in
          subst (λ (z : Addr). has_addr z (k ∷ ks) ≡ true) same (rw (addr_self k.addr) refl)
      | inr n ↦ rw (addr_there q a ks (rw n at e)) (or_true (is_at a k))
    ]

clash : (k : KnownPeer) (ks : List KnownPeer) (q : Peer) (a : Addr) → k.addr ≡ a → has_addr k.addr ks ≡ false → addr_of q ks ≡ Some a → ⊥
clash k ks q a same none e =
    let no : true ≡ false = sym (addr_there q a ks e) ∙ (ap (λ (z : Addr). has_addr z ks) (sym same) ∙ none) in cc

-- two peers of one address are one
pub one_peer : (ks : List KnownPeer) (p q : Peer) (a : Addr) → are_apart ks ≡ true → addr_of p ks ≡ Some a → addr_of q ks ≡ Some a → p ≡ q
one_peer [] p q a apart e f = absurd cc
one_peer (k ∷ ks) p q a apart e f =
    let head = head_apart k ks apart in
    elim (cases_Bool (k.peer.0 == p.0)) [
      | inl x ↦
          elim (cases_Bool (k.peer.0 == q.0)) [
            | inl y ↦ sym (peer_is k.peer p x) ∙ peer_is k.peer q y
            | inr n ↦ absurd (clash k ks q a (some_is k.addr a (rw x at e)) head.0 (rw n at f))
          ]
      | inr m ↦
          elim (cases_Bool (k.peer.0 == q.0)) [
            | inl y ↦ absurd (clash k ks p a (some_is k.addr a (rw y at f)) head.0 (rw m at e))
            | inr n ↦ one_peer ks p q a head.1 (rw m at e) (rw n at f)
          ]
    ]

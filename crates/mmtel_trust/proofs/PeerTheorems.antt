-- Tables in which each number and each address occurs once, and in which each route names a peer of the table.
use Rattle.std.proofs.Common.{◌≡◌, ◌==◌, ℕ, nat_lt, Bool, true, false, not, ◌&&◌, ◌||◌, List, [], ◌∷◌, ◌++◌, length, Option, Some, None, IfSome, codes, refl, sym, ap, ap₂, subst, ◌∙◌, arith, inl, inr}
use Rattle.std.specs.Prelude.{find, filter}
use Rattle.std.specs.Option.{option_map}
use Rattle.std.specs.List.{list_all, list_any}
use Rattle.std.specs.Str.{bytes_eq}
use Rattle.std.proofs.lemmas.Bool.{cases_Bool}
use Rattle.std.proofs.lemmas.Bool.Decides.{nat_tests}
use Rattle.std.proofs.lemmas.Slice.Eq.{bytes_eq-Decides}
use Rattle.mmtel_base.proofs.Runs.{and_true}
use Rattle.mmtel_types.specs.declared.numbers.Peer.{Peer}
use Rattle.mmtel_lex.specs.declared.values.Uri.{Uri}
use Rattle.mmtel_lex.specs.declared.values.Uri.TheVariants.{Sip, Tel}
use Rattle.mmtel_lex.specs.Identity.{without_separators}
use Rattle.mmtel_types.specs.declared.addrs.Addr.{Addr}
use Rattle.mmtel_trust.specs.declared.known_peers.KnownPeer.{KnownPeer}
use Rattle.mmtel_trust.specs.declared.known_peers.Route.{Route}
use Rattle.mmtel_types.specs.Addrs.{is_same_addr}
use Rattle.mmtel_trust.specs.Peers.{is_number, is_at, has_number, has_addr, peer_at, addr_of, are_apart, matches_number, longer, longest, is_route, own_route, or_route, route_of}

-- ---- equal numbers and addresses

pub peer_is : (p q : Peer) → (p.0 == q.0) ≡ true → p ≡ q
peer_is p q e =
    let same : p.0 ≡ q.0 = grind (arith, nat_tests) in
    let of : ℕ → Peer = λ n. record { 0 = n } in
    ap of same

peer_self : (p : Peer) → (p.0 == p.0) ≡ true
peer_self p = grind (arith, nat_tests)

pub addr_is : (a b : Addr) → is_same_addr a b ≡ true → a ≡ b
addr_is a b e =
    let both = and_true (bytes_eq a.ip b.ip) (a.port == b.port) e in
    let port : a.port ≡ b.port = let p : (a.port == b.port) ≡ true = both.1 in grind (arith, nat_tests) in
    let of : List ℕ → ℕ → Addr = λ ip port. record { ip = ip; port = port } in
    ap₂ of ((bytes_eq-Decides a.ip b.ip).0 both.0) port

addr_self : (a : Addr) → is_same_addr a a ≡ true
addr_self a = rw ((bytes_eq-Decides a.ip a.ip).1 refl) (let same : (a.port == a.port) ≡ true = grind (arith, nat_tests) in same)

-- what is not in the list is none of its items
or_false : (a b : Bool) → (a || b) ≡ false → (a ≡ false) × (b ≡ false)
or_false true b e = absurd cc
or_false false b e = (refl, e)

turned : (x y : Bool) → (x ≡ true → y ≡ true) → y ≡ false → x ≡ false
turned true y f e = absurd (let t : y ≡ true = f refl in cc)
turned false y f e = refl

other_number : (p q : Peer) → (p.0 == q.0) ≡ false → (q.0 == p.0) ≡ false
other_number p q e = turned (q.0 == p.0) (p.0 == q.0) (λ s. rw (peer_is q p s) (peer_self p)) e

other_addr : (a b : Addr) → is_same_addr a b ≡ false → is_same_addr b a ≡ false
other_addr a b e = turned (is_same_addr b a) (is_same_addr a b) (λ s. rw (addr_is b a s) (addr_self a)) e

-- ---- a further peer

not_more : (q : KnownPeer → Bool) (ks : List KnownPeer) (k : KnownPeer) → q k ≡ false → list_any q (ks ++ k ∷ []) ≡ list_any q ks
not_more q [] k e = rw e refl
not_more q (x ∷ xs) k e = ap (λ b. q x || b) (not_more q xs k e)

pub apart_more : (ks : List KnownPeer) (k : KnownPeer) → are_apart ks ≡ true → has_number k.peer ks ≡ false → has_addr k.addr ks ≡ false → are_apart (ks ++ k ∷ []) ≡ true
apart_more [] k apart number addr = refl
apart_more (x ∷ xs) k apart number addr =
    let parts = and_true (not (has_number x.peer xs) && not (has_addr x.addr xs)) (are_apart xs) apart in
    let numbers = or_false (is_number k.peer x) (has_number k.peer xs) number in
    let addrs = or_false (is_at k.addr x) (has_addr k.addr xs) addr in
    rw (not_more (is_number x.peer) xs k (other_number x.peer k.peer numbers.0), not_more (is_at x.addr) xs k (other_addr x.addr k.addr addrs.0), parts.0, apart_more xs k parts.1 numbers.1 addrs.1) refl

-- ---- what is found in such a table

head_apart : (k : KnownPeer) (ks : List KnownPeer) → are_apart (k ∷ ks) ≡ true → (has_number k.peer ks ≡ false) × (has_addr k.addr ks ≡ false) × (are_apart ks ≡ true)
head_apart k ks e =
    let parts = and_true (not (has_number k.peer ks) && not (has_addr k.addr ks)) (are_apart ks) e in
    let fronts = and_true (not (has_number k.peer ks)) (not (has_addr k.addr ks)) parts.0 in
    (not_true (has_number k.peer ks) fronts.0, not_true (has_addr k.addr ks) fronts.1, parts.1)
  where
    not_true : (b : Bool) → not b ≡ true → b ≡ false
    not_true true e = absurd cc
    not_true false e = refl

some_is : {A : Type 0} (x y : A) → Some x ≡ Some y → x ≡ y
some_is x y e = cc

-- where the item that a search found passes another test, some item passes that test
found_any : (q : KnownPeer → Bool) (k : KnownPeer) (ks : List KnownPeer) → find q ks ≡ Some k → (t : KnownPeer → Bool) → t k ≡ true → list_any t ks ≡ true
found_any q k [] e t h = absurd cc
found_any q k (x ∷ xs) e t h =
    elim (cases_Bool (q x)) [
      | inl y ↦ let same : x ≡ k = some_is x k (rw y at e) in rw (same, h) refl
      | inr n ↦ rw (found_any q k xs (rw n at e) t h) (or_true (t x))
    ]
  where
    or_true : (b : Bool) → (b || true) ≡ true
    or_true true = refl
    or_true false = refl

mapped : {A B : Type 0} (f : A → B) (o : Option A) (y : B) → option_map f o ≡ Some y → (x : A) × (o ≡ Some x) × (f x ≡ y)
mapped f (Some x) y e = (x, refl, some_is (f x) y e)
mapped f None y e = absurd cc

number_there : (a : Addr) (p : Peer) (ks : List KnownPeer) → peer_at a ks ≡ Some p → has_number p ks ≡ true
number_there a p ks e =
    let m = mapped (λ k. k.peer) (find (is_at a) ks) p e in
    found_any (is_at a) m.0 ks m.1 (is_number p) (rw m.2 (peer_self p))

addr_there : (p : Peer) (a : Addr) (ks : List KnownPeer) → addr_of p ks ≡ Some a → has_addr a ks ≡ true
addr_there p a ks e =
    let m = mapped (λ k. k.addr) (find (is_number p) ks) a e in
    found_any (is_number p) m.0 ks m.1 (is_at a) (rw m.2 (addr_self a))

both_ways : (b : Bool) → b ≡ true → b ≡ false → ⊥
both_ways b t f = let no : true ≡ false = sym t ∙ f in cc

not_first : (p q : Peer) (ks : List KnownPeer) → has_number p ks ≡ false → has_number q ks ≡ true → (p.0 == q.0) ≡ false
not_first p q ks none some = elim (cases_Bool (p.0 == q.0)) [
  | inl y ↦ absurd (both_ways (has_number p ks) (ap (λ z. has_number z ks) (peer_is p q y) ∙ some) none)
  | inr n ↦ n
]

not_first_at : (a b : Addr) (ks : List KnownPeer) → has_addr a ks ≡ false → has_addr b ks ≡ true → is_same_addr a b ≡ false
not_first_at a b ks none some = elim (cases_Bool (is_same_addr a b)) [
  | inl y ↦ absurd (both_ways (has_addr a ks) (ap (λ z. has_addr z ks) (addr_is a b y) ∙ some) none)
  | inr n ↦ n
]

-- the address of the peer that is at an address is this address
pub at_theirs : (a : Addr) (p : Peer) (ks : List KnownPeer) → are_apart ks ≡ true → peer_at a ks ≡ Some p → addr_of p ks ≡ Some a
at_theirs a p [] apart e = absurd cc
at_theirs a p (k ∷ ks) apart e =
    let head = head_apart k ks apart in
    elim (cases_Bool (is_same_addr k.addr a)) [
      | inl y ↦
          let same : k.peer ≡ p = some_is k.peer p (rw y at e) in
          subst (λ z. addr_of z (k ∷ ks) ≡ Some a) same (rw (peer_self k.peer) (ap (λ x. Some x) (addr_is k.addr a y)))
      | inr n ↦
          let later : peer_at a ks ≡ Some p = rw n at e in
          rw (not_first k.peer p ks head.0 (number_there a p ks later)) (at_theirs a p ks head.2 later)
    ]

-- the peer at the address of a peer is this peer
pub of_theirs : (p : Peer) (a : Addr) (ks : List KnownPeer) → are_apart ks ≡ true → addr_of p ks ≡ Some a → peer_at a ks ≡ Some p
of_theirs p a [] apart e = absurd cc
of_theirs p a (k ∷ ks) apart e =
    let head = head_apart k ks apart in
    elim (cases_Bool (k.peer.0 == p.0)) [
      | inl y ↦
          let same : k.addr ≡ a = some_is k.addr a (rw y at e) in
          subst (λ z. peer_at z (k ∷ ks) ≡ Some p) same (rw (addr_self k.addr) (ap (λ x. Some x) (peer_is k.peer p y)))
      | inr n ↦
          let later : addr_of p ks ≡ Some a = rw n at e in
          rw (not_first_at k.addr a ks head.1 (addr_there p a ks later)) (of_theirs p a ks head.2 later)
    ]

-- ---- where each route names a peer of the table

abbrev on : List KnownPeer → List Route → Bool
on ks rs = list_all (λ r. has_number r.peer ks) rs

find_matches : (ks : List KnownPeer) (q : Route → Bool) (rs : List Route) → on ks rs ≡ true → IfSome (find q rs) (λ r. has_number r.peer ks ≡ true)
find_matches ks q [] e = tt
find_matches ks q (r ∷ rs) e =
    let both = and_true (has_number r.peer ks) (on ks rs) e in
    elim (cases_Bool (q r)) [
      | inl y ↦ rw y both.0
      | inr n ↦ rw n (find_matches ks q rs both.1)
    ]

filter_matches : (ks : List KnownPeer) (q : Route → Bool) (rs : List Route) → on ks rs ≡ true → on ks (filter q rs) ≡ true
filter_matches ks q [] e = refl
filter_matches ks q (r ∷ rs) e =
    let both = and_true (has_number r.peer ks) (on ks rs) e in
    elim (cases_Bool (q r)) [
      | inl y ↦ rw (y, both.0) (filter_matches ks q rs both.1)
      | inr n ↦ rw n (filter_matches ks q rs both.1)
    ]

longer_matches : (ks : List KnownPeer) (r : Route) (o : Option Route) → has_number r.peer ks ≡ true → IfSome o (λ s. has_number s.peer ks ≡ true) → IfSome (longer r o) (λ s. has_number s.peer ks ≡ true)
longer_matches ks r None h g = h
longer_matches ks r (Some s) h g = elim (cases_Bool (nat_lt (length r.name) (length s.name))) [
  | inl y ↦ rw y g
  | inr n ↦ rw n h
]

longest_matches : (ks : List KnownPeer) (rs : List Route) → on ks rs ≡ true → IfSome (longest rs) (λ r. has_number r.peer ks ≡ true)
longest_matches ks [] e = tt
longest_matches ks (r ∷ rs) e =
    let both = and_true (has_number r.peer ks) (on ks rs) e in
    longer_matches ks r (longest rs) both.0 (longest_matches ks rs both.1)

own_matches : (ks : List KnownPeer) (u : Uri) (rs : List Route) → on ks rs ≡ true → IfSome (own_route u rs) (λ r. has_number r.peer ks ≡ true)
own_matches ks (Sip user host port params headers) rs e = find_matches ks (is_route host) rs e
own_matches ks (Tel number params) rs e = longest_matches ks (filter (matches_number (without_separators number)) rs) (filter_matches ks (matches_number (without_separators number)) rs e)

or_matches : (ks : List KnownPeer) (o other : Option Route) → IfSome o (λ r. has_number r.peer ks ≡ true) → IfSome other (λ r. has_number r.peer ks ≡ true) →
    IfSome (option_map (λ r. r.peer) (or_route o other)) (λ p. has_number p ks ≡ true)
or_matches ks (Some r) other h g = h
or_matches ks None None h g = tt
or_matches ks None (Some r) h g = g

-- the peer to which a URI is routed is in the table
pub route_matches : (ks : List KnownPeer) (u : Uri) (rs : List Route) → on ks rs ≡ true → IfSome (route_of u rs) (λ p. has_number p ks ≡ true)
route_matches ks u rs e = or_matches ks (own_route u rs) (find (is_route (codes "*")) rs) (own_matches ks u rs e) (find_matches ks (is_route (codes "*")) rs e)

-- a further peer removes none
there_more : (q : KnownPeer → Bool) (ks : List KnownPeer) (k : KnownPeer) → list_any q ks ≡ true → list_any q (ks ++ k ∷ []) ≡ true
there_more q [] k e = absurd cc
there_more q (x ∷ xs) k e = elim (cases_Bool (q x)) [
  | inl y ↦ rw y refl
  | inr n ↦ rw (n, there_more q xs k (rw n at e)) refl
]

pub match_on_more : (ks : List KnownPeer) (k : KnownPeer) (rs : List Route) → list_all (λ r. has_number r.peer ks) rs ≡ true → list_all (λ r. has_number r.peer (ks ++ k ∷ [])) rs ≡ true
match_on_more ks k [] e = refl
match_on_more ks k (r ∷ rs) e =
    let both = and_true (has_number r.peer ks) (list_all (λ r. has_number r.peer ks) rs) e in
    rw (there_more (is_number r.peer) ks k both.0, match_on_more ks k rs both.1) refl

-- ---- a further route

pub matches_on_more : (ks : List KnownPeer) (rs : List Route) (r : Route) → list_all (λ r. has_number r.peer ks) rs ≡ true → has_number r.peer ks ≡ true → list_all (λ r. has_number r.peer ks) (rs ++ r ∷ []) ≡ true
matches_on_more ks [] r e there = rw there refl
matches_on_more ks (x ∷ xs) r e there =
    let both = and_true (has_number x.peer ks) (list_all (λ r. has_number r.peer ks) xs) e in
    rw (both.0, matches_on_more ks xs r both.1 there) refl

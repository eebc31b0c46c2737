-- The orders of match keys and of deadline keys; what a search by match key finds.
use Rattle.std.proofs.Common.{◌≡◌, ℕ, ◌<◌, ◌≤◌, Bool, true, false, cond, not, ◌&&◌, nat_lt, nat_eq, List, [], ◌∷◌, refl, sym, ap, ◌∙◌, arith, Some, None}
use Rattle.std.specs.Prelude.{slice_get, slice_index_or, option_map, ◌==◌}
use Rattle.std.specs.List.{find}
use Rattle.std.specs.List.Sorted.{IsPartitionPoint}
use Rattle.std.specs.Str.{bytes_eq}
use Rattle.std.specs.Cmp.{IsTotalOrder}
use Rattle.std.specs.Cmp.Lexicographic.{slice_cmp}
use Rattle.std.specs.Ordering.{is_lt, nat_cmp, ordering_then}
use Rattle.std.specs.declared.cmp.Ordering.{Ordering}
use Rattle.std.specs.declared.cmp.Ordering.TheVariants.{Less, Equal, Greater}
use Rattle.std.proofs.lemmas.Bool.{and_from, and_parts, eq-eqb, eqb-true}
use Rattle.std.proofs.lemmas.Bool.Decides.{nat_tests}
use Rattle.std.proofs.lemmas.Cmp.{nat_cmp_total, nat_list_cmp_total, on_total, ranked, then_total, tied_itself}
use Rattle.std.proofs.lemmas.Option.{none-some, same_Some}
use Rattle.std.proofs.lemmas.Slice.Eq.{bytes_eq-Decides}
use Rattle.mmtel_timers.specs.Shelves.{lookup_result, comes_before, IsIndex, Rises}
use Rattle.mmtel_timers.proofs.Lookups.{looked}
use Rattle.mmtel_transaction.specs.declared.entries.Entry.{Entry}
use Rattle.mmtel_transaction.specs.declared.match_keys.MatchKey.{MatchKey}
use Rattle.mmtel_transaction.specs.declared.match_keys.DeadlineKey.{DeadlineKey}
use Rattle.mmtel_transaction.specs.Results.{is_client_with, is_server_with}
use Rattle.mmtel_transaction.specs.Indexes.{client_match, deadline_cmp, indexed_client, indexed_server, is_same_match, IsPlaceOf, match_cmp, match_key, server_match, text_cmp}
use Rattle.mmtel_transaction.specs.Hashes.{hash_of}

said_total : IsTotalOrder text_cmp
said_total = then_total (on_total (λ (x : MatchKey). x.id) nat_list_cmp_total) (then_total (on_total (λ (x : MatchKey). x.from) nat_list_cmp_total)
    (then_total (on_total (λ (x : MatchKey). x.method) nat_list_cmp_total) (then_total (on_total (λ (x : MatchKey). x.number) nat_cmp_total) (on_total (λ (x : MatchKey). x.key) nat_cmp_total))))

pub matches_total : IsTotalOrder match_cmp
matches_total = then_total (on_total (λ (x : MatchKey). x.hash) nat_cmp_total) said_total

pub deadlines_total : IsTotalOrder deadline_cmp
deadlines_total = then_total (on_total (λ (x : DeadlineKey). x.at) nat_cmp_total)
    (then_total (on_total (λ (x : DeadlineKey). x.step) nat_cmp_total) (then_total (on_total (λ (x : DeadlineKey). x.order) nat_cmp_total) (on_total (λ (x : DeadlineKey). x.key) nat_cmp_total)))

-- lists that are equal in order are equal
same_first : (x y : ℕ) (xs ys : List ℕ) (r : Ordering) → r ≡ nat_cmp x y → ordering_then r (slice_cmp nat_cmp xs ys) ≡ Equal → (slice_cmp nat_cmp xs ys ≡ Equal → xs ≡ ys) → x ∷ xs ≡ y ∷ ys
same_first x y xs ys Less e q ih = absurd cc
same_first x y xs ys Greater e q ih = absurd cc
same_first x y xs ys Equal e q ih = let same : x ≡ y = ranked x y Equal e in ap (λ z. z ∷ xs) same ∙ ap (λ zs. y ∷ zs) (ih q)

pub same_list : (xs ys : List ℕ) → slice_cmp nat_cmp xs ys ≡ Equal → xs ≡ ys
same_list [] [] q = refl
same_list [] (y ∷ ys) q = absurd cc
same_list (x ∷ xs) [] q = absurd cc
same_list (x ∷ xs) (y ∷ ys) q = same_first x y xs ys (nat_cmp x y) refl q (same_list xs ys)

-- of a search key and a later match key: what does not come before the search key, and comes before the match key, has the same parts
decided : (t a b c d k z : Ordering) → ordering_then t (ordering_then a (ordering_then b (ordering_then c (ordering_then d k)))) ≡ Less →
    is_lt (ordering_then t (ordering_then a (ordering_then b (ordering_then c (ordering_then d z))))) ≡ false → (t ≡ Equal) × (a ≡ Equal) × (b ≡ Equal) × (c ≡ Equal) × (d ≡ Equal) × (k ≡ Less)
decided Less a b c d k z l n = absurd cc
decided Greater a b c d k z l n = absurd cc
decided Equal Less b c d k z l n = absurd cc
decided Equal Greater b c d k z l n = absurd cc
decided Equal Equal Less c d k z l n = absurd cc
decided Equal Equal Greater c d k z l n = absurd cc
decided Equal Equal Equal Less d k z l n = absurd cc
decided Equal Equal Equal Greater d k z l n = absurd cc
decided Equal Equal Equal Equal Less k z l n = absurd cc
decided Equal Equal Equal Equal Greater k z l n = absurd cc
decided Equal Equal Equal Equal Equal k z l n = (refl, refl, refl, refl, refl, l)

-- the same parts have the same hash
pub same_hash : (m x : MatchKey) → is_same_match m x ≡ true → x.hash ≡ m.hash
same_hash m x h =
    let o = and_parts ((x.hash == m.hash) && bytes_eq x.id m.id && bytes_eq x.from m.from && bytes_eq x.method m.method) (x.number == m.number) h in
    let p = and_parts ((x.hash == m.hash) && bytes_eq x.id m.id && bytes_eq x.from m.from) (bytes_eq x.method m.method) o.0 in
    let q = and_parts ((x.hash == m.hash) && bytes_eq x.id m.id) (bytes_eq x.from m.from) p.0 in
    eqb-true x.hash m.hash (and_parts (x.hash == m.hash) (bytes_eq x.id m.id) q.0).0

-- what comes before a search key has no higher hash, and what does not has no lower one
not_higher : (x m : ℕ) (o t : Ordering) → o ≡ nat_cmp x m → is_lt (ordering_then o t) ≡ true → x ≤ m
not_higher x m Less t e l = let less : x < m = ranked x m Less e in omega (arith, less)
not_higher x m Equal t e l = let same : x ≡ m = ranked x m Equal e in omega (arith, same)
not_higher x m Greater t e l = absurd cc

not_lower : (x m : ℕ) (o t : Ordering) → o ≡ nat_cmp x m → is_lt (ordering_then o t) ≡ false → m ≤ x
not_lower x m Less t e l = absurd cc
not_lower x m Equal t e l = let same : x ≡ m = ranked x m Equal e in omega (arith, same)
not_lower x m Greater t e l = let more : m < x = ranked x m Greater e in omega (arith, more)

pub place_by_hash : (mark : MatchKey) (xs : List MatchKey) (p : ℕ) → IsPlaceOf mark xs p → IsPartitionPoint (λ x. x.hash ≤ mark.hash) (λ x. mark.hash ≤ x.hash) xs p
place_by_hash mark xs p at = (
  λ k d s t. let x = slice_index_or xs k d in not_higher x.hash mark.hash (nat_cmp x.hash mark.hash) (text_cmp x mark) refl (at.0 k d s t),
  λ k d s t. let x = slice_index_or xs k d in not_lower x.hash mark.hash (nat_cmp x.hash mark.hash) (text_cmp x mark) refl (at.1 k d s t),
)

module _ (b s m : List ℕ) (n : ℕ) where
  abbrev bound : MatchKey
  bound = match_key b s m n 0

  pub record Equivalent (x : MatchKey) : Type 0 where
    pub hash : x.hash ≡ hash_of b
    pub id : x.id ≡ b
    pub from : x.from ≡ s
    pub method : x.method ≡ m
    pub number : x.number ≡ n

  pub alike : (x : MatchKey) → is_same_match bound x ≡ true → Equivalent x
  alike x h =
      let o = and_parts ((x.hash == hash_of b) && bytes_eq x.id b && bytes_eq x.from s && bytes_eq x.method m) (x.number == n) h in
      let p = and_parts ((x.hash == hash_of b) && bytes_eq x.id b && bytes_eq x.from s) (bytes_eq x.method m) o.0 in
      let q = and_parts ((x.hash == hash_of b) && bytes_eq x.id b) (bytes_eq x.from s) p.0 in
      let r = and_parts (x.hash == hash_of b) (bytes_eq x.id b) q.0 in
      record {
        hash = eqb-true x.hash (hash_of b) r.0;
        id = (bytes_eq-Decides x.id b).0 r.1;
        from = (bytes_eq-Decides x.from s).0 q.1;
        method = (bytes_eq-Decides x.method m).0 p.1;
        number = eqb-true x.number n o.1;
      }

  pub hits : (x : MatchKey) → x.hash ≡ hash_of b → x.id ≡ b → x.from ≡ s → x.method ≡ m → x.number ≡ n → is_same_match bound x ≡ true
  hits x u p q r t =
      and_from _ _ (and_from _ _ (and_from _ _ (and_from _ _ (eq-eqb x.hash (hash_of b) u) ((bytes_eq-Decides x.id b).1 p)) ((bytes_eq-Decides x.from s).1 q)) ((bytes_eq-Decides x.method m).1 r))
      (eq-eqb x.number n t)

  not_less : (k : ℕ) → is_lt (nat_cmp k 0) ≡ false
  not_less k = let w : nat_lt k 0 ≡ false = grind (arith, nat_tests) in rw w (either (nat_eq k 0))
    where
      either : (t : Bool) → is_lt (cond t Equal Greater) ≡ false
      either true = refl
      either false = refl

  same_parts : (o a c d e k : Ordering) → o ≡ Equal → a ≡ Equal → c ≡ Equal → d ≡ Equal → e ≡ Equal → is_lt k ≡ false →
      is_lt (ordering_then o (ordering_then a (ordering_then c (ordering_then d (ordering_then e k))))) ≡ false
  same_parts o a c d e k u p q r t l = rw (u, p, q, r, t) l

  pub not_before : (x : MatchKey) → is_same_match bound x ≡ true → comes_before match_cmp bound x ≡ false
  not_before x h =
      let a = alike x h in
      same_parts (nat_cmp x.hash (hash_of b)) (slice_cmp nat_cmp x.id b) (slice_cmp nat_cmp x.from s) (slice_cmp nat_cmp x.method m) (nat_cmp x.number n) (nat_cmp x.key 0)
      (ap (λ y. nat_cmp y (hash_of b)) a.hash ∙ tied_itself nat_cmp_total (hash_of b))
      (ap (λ y. slice_cmp nat_cmp y b) a.id ∙ tied_itself nat_list_cmp_total b)
      (ap (λ y. slice_cmp nat_cmp y s) a.from ∙ tied_itself nat_list_cmp_total s)
      (ap (λ y. slice_cmp nat_cmp y m) a.method ∙ tied_itself nat_list_cmp_total m)
      (ap (λ y. nat_cmp y n) a.number ∙ tied_itself nat_cmp_total n)
      (not_less x.key)

  -- for one with the same parts the bound says the same
  as_bound : (x y : MatchKey) → Equivalent x → match_cmp y x ≡ Less → ordering_then (nat_cmp y.hash (hash_of b))
      (ordering_then (slice_cmp nat_cmp y.id b) (ordering_then (slice_cmp nat_cmp y.from s) (ordering_then (slice_cmp nat_cmp y.method m) (ordering_then (nat_cmp y.number n) (nat_cmp y.key x.key))))) ≡ Less
  as_bound x y a l =
      ap (λ z. ordering_then (nat_cmp y.hash z)
      (ordering_then (slice_cmp nat_cmp y.id b) (ordering_then (slice_cmp nat_cmp y.from s) (ordering_then (slice_cmp nat_cmp y.method m) (ordering_then (nat_cmp y.number n) (nat_cmp y.key x.key)))))) (sym a.hash)
      ∙ (ap (λ z. ordering_then (nat_cmp y.hash x.hash)
      (ordering_then (slice_cmp nat_cmp y.id z) (ordering_then (slice_cmp nat_cmp y.from s) (ordering_then (slice_cmp nat_cmp y.method m) (ordering_then (nat_cmp y.number n) (nat_cmp y.key x.key)))))) (sym a.id)
      ∙ (ap (λ z. ordering_then (nat_cmp y.hash x.hash)
      (ordering_then (slice_cmp nat_cmp y.id x.id) (ordering_then (slice_cmp nat_cmp y.from z) (ordering_then (slice_cmp nat_cmp y.method m) (ordering_then (nat_cmp y.number n) (nat_cmp y.key x.key)))))) (sym a.from)
      ∙ (ap (λ z. ordering_then (nat_cmp y.hash x.hash) (ordering_then (slice_cmp nat_cmp y.id x.id)
      (ordering_then (slice_cmp nat_cmp y.from x.from) (ordering_then (slice_cmp nat_cmp y.method z) (ordering_then (nat_cmp y.number n) (nat_cmp y.key x.key)))))) (sym a.method)
      ∙ (ap (λ z. ordering_then (nat_cmp y.hash x.hash) (ordering_then (slice_cmp nat_cmp y.id x.id)
      (ordering_then (slice_cmp nat_cmp y.from x.from) (ordering_then (slice_cmp nat_cmp y.method x.method) (ordering_then (nat_cmp y.number z) (nat_cmp y.key x.key)))))) (sym a.number) ∙ l))))

  pub between : (y x : MatchKey) → comes_before match_cmp bound y ≡ false → is_same_match bound x ≡ true → match_cmp y x ≡ Less → (is_same_match bound y ≡ true) × (y.key < x.key)
  between y x t h l =
      let a = alike x h in
      let l : ordering_then (nat_cmp y.hash (hash_of b)) (ordering_then (slice_cmp nat_cmp y.id b)
      (ordering_then (slice_cmp nat_cmp y.from s) (ordering_then (slice_cmp nat_cmp y.method m) (ordering_then (nat_cmp y.number n) (nat_cmp y.key x.key))))) ≡ Less = as_bound x y a l in
      let d = decided (nat_cmp y.hash (hash_of b)) (slice_cmp nat_cmp y.id b) (slice_cmp nat_cmp y.from s) (slice_cmp nat_cmp y.method m) (nat_cmp y.number n) (nat_cmp y.key x.key) (nat_cmp y.key 0) l t in
      (hits y (ranked y.hash (hash_of b) Equal (sym d.0)) (same_list y.id b d.1) (same_list y.from s d.2) (same_list y.method m d.3) (ranked y.number n Equal (sym d.4)), ranked y.key x.key Less (sym d.5))

-- equal bytes have the same hash
pub hash_same : (bytes others : List ℕ) → bytes_eq bytes others ≡ true → (hash_of bytes == hash_of others) ≡ true
hash_same bytes others q = eq-eqb (hash_of bytes) (hash_of others) (ap hash_of ((bytes_eq-Decides bytes others).0 q))

-- of servers
module _ (b s m : List ℕ) where
  server_item : (e : Entry) → is_server_with b s m e ≡ true → (x : MatchKey) × (indexed_server e ≡ Some x) × (is_same_match (match_key b s m 0 0) x ≡ true)
  server_item e q =
      let p = and_parts (e.is_server && bytes_eq e.head.branch b && bytes_eq e.head.sent_by s) (bytes_eq e.head.method m) q in
      let r = and_parts (e.is_server && bytes_eq e.head.branch b) (bytes_eq e.head.sent_by s) p.0 in
      let t = and_parts e.is_server (bytes_eq e.head.branch b) r.0 in
      (server_match e, ap (λ c. cond c (Some (server_match e)) None) t.0, and_from _ _ (and_from _ _ (and_from _ _ (and_from _ _ (hash_same e.head.branch b t.1) t.1) r.1) p.1) refl)

  server_if : (e : Entry) (x : MatchKey) (c : Bool) → e.is_server ≡ c → cond c (Some (server_match e)) None ≡ Some x → (e.is_server ≡ true) × (server_match e ≡ x)
  server_if e x true t q = (t, same_Some (server_match e) x q)
  server_if e x false t q = absurd (none-some x q)

  server_is_of : (e : Entry) (x : MatchKey) → indexed_server e ≡ Some x → is_same_match (match_key b s m 0 0) x ≡ true → is_server_with b s m e ≡ true
  server_is_of e x q h =
      let w = server_if e x e.is_server refl q in
      let a = alike b s m 0 (server_match e) (ap (is_same_match (match_key b s m 0 0)) w.1 ∙ h) in
      and_from _ _ (and_from _ _ (and_from _ _ w.0 ((bytes_eq-Decides e.head.branch b).1 a.id)) ((bytes_eq-Decides e.head.sent_by s).1 a.from)) ((bytes_eq-Decides e.head.method m).1 a.method)

  server_number : (e : Entry) (x : MatchKey) → indexed_server e ≡ Some x → x.key ≡ e.key
  server_number e x q = ap (λ (y : MatchKey). y.key) (sym (server_if e x e.is_server refl q).1)

  pub server_looked : (es : List Entry) (xs : List MatchKey) (p : ℕ) → IsIndex indexed_server match_cmp es xs → Rises (λ (e : Entry). e.key) es →
      IsPartitionPoint (λ x. comes_before match_cmp (match_key b s m 0 0) x ≡ true) (λ x. comes_before match_cmp (match_key b s m 0 0) x ≡ false) xs p →
      lookup_result (is_same_match (match_key b s m 0 0)) (λ (x : MatchKey). x.key) (slice_get xs p) ≡ option_map (λ (e : Entry). e.key) (find (is_server_with b s m) es)
  server_looked = looked indexed_server match_cmp matches_total (is_server_with b s m) (comes_before match_cmp (match_key b s m 0 0)) (is_same_match (match_key b s m 0 0)) (λ (e : Entry). e.key)
      (λ (x : MatchKey). x.key) server_item server_is_of server_number (not_before b s m 0) (between b s m 0)

-- of clients
module _ (b m : List ℕ) where
  client_item : (e : Entry) → is_client_with b m e ≡ true → (x : MatchKey) × (indexed_client e ≡ Some x) × (is_same_match (match_key b [] m 0 0) x ≡ true)
  client_item e q =
      let p = and_parts (not e.is_server && bytes_eq e.head.branch b) (bytes_eq e.head.method m) q in
      let t = and_parts (not e.is_server) (bytes_eq e.head.branch b) p.0 in
      (client_match e, client_there e.is_server t.0, and_from _ _ (and_from _ _ (and_from _ _ (and_from _ _ (hash_same e.head.branch b t.1) t.1) refl) p.1) refl)
    where
      client_there : (c : Bool) → not c ≡ true → cond c None (Some (client_match e)) ≡ Some (client_match e)
      client_there true n = absurd cc
      client_there false n = refl

  client_if : (e : Entry) (x : MatchKey) (c : Bool) → e.is_server ≡ c → cond c None (Some (client_match e)) ≡ Some x → (not e.is_server ≡ true) × (client_match e ≡ x)
  client_if e x true t q = absurd (none-some x q)
  client_if e x false t q = (ap not t, same_Some (client_match e) x q)

  client_is_of : (e : Entry) (x : MatchKey) → indexed_client e ≡ Some x → is_same_match (match_key b [] m 0 0) x ≡ true → is_client_with b m e ≡ true
  client_is_of e x q h =
      let w = client_if e x e.is_server refl q in
      let a = alike b [] m 0 (client_match e) (ap (is_same_match (match_key b [] m 0 0)) w.1 ∙ h) in
      and_from _ _ (and_from _ _ w.0 ((bytes_eq-Decides e.head.branch b).1 a.id)) ((bytes_eq-Decides e.head.method m).1 a.method)

  client_number : (e : Entry) (x : MatchKey) → indexed_client e ≡ Some x → x.key ≡ e.key
  client_number e x q = ap (λ (y : MatchKey). y.key) (sym (client_if e x e.is_server refl q).1)

  pub client_looked : (es : List Entry) (xs : List MatchKey) (p : ℕ) → IsIndex indexed_client match_cmp es xs → Rises (λ (e : Entry). e.key) es →
      IsPartitionPoint (λ x. comes_before match_cmp (match_key b [] m 0 0) x ≡ true) (λ x. comes_before match_cmp (match_key b [] m 0 0) x ≡ false) xs p →
      lookup_result (is_same_match (match_key b [] m 0 0)) (λ (x : MatchKey). x.key) (slice_get xs p) ≡ option_map (λ (e : Entry). e.key) (find (is_client_with b m) es)
  client_looked = looked indexed_client match_cmp matches_total (is_client_with b m) (comes_before match_cmp (match_key b [] m 0 0)) (is_same_match (match_key b [] m 0 0)) (λ (e : Entry). e.key)
      (λ (x : MatchKey). x.key) client_item client_is_of client_number (not_before b [] m 0) (between b [] m 0)

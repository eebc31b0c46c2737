-- By which keys live transactions are looked up, in which order, and the tables that are kept of them.
use Rattle.std.specs.Prelude.{◌≡◌, ◌≤◌, ℕ, ◌-◌, ◌^◌, true, false, insert, remove, slice_get, Bool, not, nat_le, min, ◌&&◌, ◌==◌, if◌then◌else◌}
use Rattle.std.specs.Prelude.{List, [], length, Option, Some, None, count_by}
use Rattle.std.specs.List.{list_any}
use Rattle.std.specs.Str.{bytes_eq}
use Rattle.std.specs.Cmp.Lexicographic.{slice_cmp}
use Rattle.std.specs.Ordering.{nat_cmp, ordering_then}
use Rattle.std.specs.declared.cmp.Ordering.{Ordering}
use Rattle.std.specs.List.Sorted.{IsPartitionPoint}
use Rattle.mmtel_timers.specs.Shelves.{comes_before, IsIndex, Rises}
use Rattle.mmtel_transaction.specs.Heads.{invite}
use Rattle.mmtel_transaction.specs.Hashes.{hash_of}
use Rattle.mmtel_transaction.specs.Results.{is_merged_entry}
use Rattle.mmtel_transaction.specs.Deadlines.{deadline, order_due, step_due}
use Rattle.mmtel_transaction.specs.declared.heads.Head.{Head}
use Rattle.mmtel_transaction.specs.declared.entries.Entry.{Entry}
use Rattle.mmtel_transaction.specs.declared.match_keys.MatchKey.{MatchKey}
use Rattle.mmtel_transaction.specs.declared.match_keys.MatchKeyRef.{MatchKeyRef}
use Rattle.mmtel_transaction.specs.declared.match_keys.DeadlineKey.{DeadlineKey}

-- the order of match keys by their parts, then by the order of opening
abbrev pub text_cmp : MatchKey → MatchKey → Ordering
text_cmp x y =
    ordering_then (slice_cmp nat_cmp x.id y.id)
    (ordering_then (slice_cmp nat_cmp x.from y.from)
    (ordering_then (slice_cmp nat_cmp x.method y.method) (ordering_then (nat_cmp x.number y.number) (nat_cmp x.key y.key))))

-- the order of match keys: first by their hashes, which takes one comparison where keys share many bytes
abbrev pub match_cmp : MatchKey → MatchKey → Ordering
match_cmp x y = ordering_then (nat_cmp x.hash y.hash) (text_cmp x y)

-- a moment as a rank: itself, or the greatest one
abbrev pub moment_rank : ℕ → ℕ
moment_rank at = min at (2 ^ 64 - 1)

-- the order in which deadlines fire
abbrev pub deadline_cmp : DeadlineKey → DeadlineKey → Ordering
deadline_cmp x y = ordering_then (nat_cmp x.at y.at) (ordering_then (nat_cmp x.step y.step) (ordering_then (nat_cmp x.order y.order) (nat_cmp x.key y.key)))

abbrev pub match_key : List ℕ → List ℕ → List ℕ → ℕ → ℕ → MatchKey
match_key id from method number key = record { hash = hash_of id; id = id; from = from; method = method; number = number; key = key }

abbrev pub searched_key : MatchKeyRef → MatchKey
searched_key m = record { hash = m.hash; id = m.id.now; from = m.from.now; method = m.method.now; number = m.number; key = m.key }

-- whether two match keys have the same parts, whatever their transactions
abbrev pub is_same_match : MatchKey → MatchKey → Bool
is_same_match m x = (x.hash == m.hash) && bytes_eq x.id m.id && bytes_eq x.from m.from && bytes_eq x.method m.method && (x.number == m.number)

-- match key by branch, sent-by and method
abbrev pub server_match : Entry → MatchKey
server_match e = match_key e.head.branch e.head.sent_by e.head.method 0 e.key

-- match key by branch and method
abbrev pub client_match : Entry → MatchKey
client_match e = match_key e.head.branch [] e.head.method 0 e.key

-- match key by Call-ID, From tag and CSeq
abbrev pub call_match : Entry → MatchKey
call_match e = match_key e.head.call_id e.head.from_tag e.head.method e.head.number e.key

-- the search key before the match keys of all server transactions with the call and CSeq of this one
abbrev pub merged_match : Entry → MatchKey
merged_match e = match_key e.head.call_id e.head.from_tag e.head.method e.head.number 0

-- the search key before the match keys of all INVITEs whose 2xx this ACK may acknowledge
abbrev pub ack_match : Head → MatchKey
ack_match m = match_key m.call_id m.from_tag invite m.number 0

-- the position in a shelf that separates the match keys before this one from the others
abbrev pub IsPlaceOf : MatchKey → List MatchKey → ℕ → Type 0
IsPlaceOf mark names place = IsPartitionPoint (λ x. comes_before match_cmp mark x ≡ true) (λ x. comes_before match_cmp mark x ≡ false) names place

abbrev pub indexed_server : Entry → Option MatchKey
indexed_server e = if e.is_server then Some (server_match e) else None

abbrev pub indexed_client : Entry → Option MatchKey
indexed_client e = if e.is_server then None else Some (client_match e)

abbrev pub indexed_call : Entry → Option MatchKey
indexed_call e = if e.is_server then Some (call_match e) else None

-- for any transactions whose match keys of calls these are: whether, by the match keys from this position on, another one than that of this key has the same call and CSeq
abbrev pub FindsMerged : MatchKey → ℕ → List MatchKey → ℕ → Bool → Type 0
FindsMerged mark key names from told =
    (e : Entry) (es : List Entry) → mark ≡ merged_match e → key ≡ e.key → IsIndex indexed_call match_cmp es names →
    IsPlaceOf mark names from → told ≡ list_any (is_merged_entry e) es

-- the moment, or one later than all others
abbrev pub or_never : Option ℕ → ℕ
or_never None = 2 ^ 128 - 1
or_never (Some at) = at

abbrev pub deadline_key : Entry → DeadlineKey
deadline_key e = record { at = or_never (deadline e); step = step_due e; order = order_due e; key = e.key }

abbrev pub indexed_deadline : Entry → Option DeadlineKey
indexed_deadline e = Some (deadline_key e)

-- the moment and the key of the first one, if it is due
abbrev pub due_first : ℕ → Option DeadlineKey → Option (ℕ × ℕ)
due_first now None = None
due_first now (Some x) = if nat_le x.at now then Some (x.at, x.key) else None

-- the tables of the live transactions: these, the oldest first; the match keys of servers and of clients, and those of calls of servers; and the deadline keys
pub record AreTables (es : List Entry) (ss cs ts : List MatchKey) (ds : List DeadlineKey) : Type 0 where
  pub rises : Rises (λ (e : Entry). e.key) es
  pub servers : IsIndex indexed_server match_cmp es ss
  pub clients : IsIndex indexed_client match_cmp es cs
  pub calls : IsIndex indexed_call match_cmp es ts
  pub due : IsIndex indexed_deadline deadline_cmp es ds
  pub server_count : length ss ≡ count_by (λ (e : Entry). e.is_server) es
  pub client_count : length cs ≡ count_by (λ (e : Entry). not e.is_server) es

-- an item was removed from a shelf
pub record Removes {X : Type 0} (x : X) (xs ys : List X) : Type 0 where
  pub from : ℕ
  pub at : slice_get xs from ≡ Some x
  pub removed : ys ≡ remove xs from

-- and another one inserted in its order
pub record Moves {X : Type 0} (R : X → X → Ordering) (x y : X) (xs ys : List X) : Type 0 where
  pub from : ℕ
  pub to : ℕ
  pub at : slice_get xs from ≡ Some x
  pub within : to ≤ length (remove xs from)
  pub parted : IsPartitionPoint (λ z. comes_before R y z ≡ true) (λ z. comes_before R y z ≡ false) (remove xs from) to
  pub moved : ys ≡ insert (remove xs from) to y

-- an item was inserted in its order
pub record Puts {X : Type 0} (R : X → X → Ordering) (y : X) (to : ℕ) (xs ys : List X) : Type 0 where
  pub within : to ≤ length xs
  pub parted : IsPartitionPoint (λ z. comes_before R y z ≡ true) (λ z. comes_before R y z ≡ false) xs to
  pub put : ys ≡ insert xs to y

-- Deadlines as they are stored: in the order in which they are taken, and by key. Contracts see them in the order in which they were armed.
use Rattle.std.specs.Prelude.{◌≡◌, ℕ, ◌<◌, Bool, nat_lt, nat_le, if◌then◌else◌, List, [], ◌∷◌, map, Option, Some, None}
use Rattle.std.specs.BTreeMap.{is_at}
use Rattle.std.specs.List.{AllByRecursion}
use Rattle.std.specs.List.Sorted.{IsStrictlySortedBy}
use Rattle.std.specs.Map.{keys_of, lookup, remove_entry}
use Rattle.std.specs.Ordering.{is_eq, nat_cmp, ordering_then}
use Rattle.std.specs.declared.cmp.Ordering.{Ordering}
use Rattle.mmtel_timers.specs.Deadlines.{Deadline, IsEachOnce, is_of}
use Rattle.mmtel_timers.specs.Shelves.{Rises}
use Rattle.mmtel_timers.specs.declared.deadlines.Key.{Key}
use Rattle.mmtel_timers.specs.declared.queues.QueuePosition.{QueuePosition}

-- its place in the order of taking, and the key that is due
abbrev pub Queued : Type 0
Queued = QueuePosition × Key

abbrev pub number_of : Queued → ℕ
number_of q = q.0.number

abbrev pub deadline_of : Queued → Deadline
deadline_of q = (q.0.at, q.1)

-- by moment, and for one moment by the number of its arming
abbrev pub queue_position_cmp : QueuePosition → QueuePosition → Ordering
queue_position_cmp x y = ordering_then (nat_cmp x.at y.at) (nat_cmp x.number y.number)

-- ---- in the order of arming

-- one inserted among others, by the number of its arming
abbrev pub inserted_by_arming : Queued → List Queued → List Queued
inserted_by_arming q [] = q ∷ []
inserted_by_arming q (x ∷ xs) = if nat_lt (number_of q) (number_of x) then q ∷ x ∷ xs else x ∷ inserted_by_arming q xs

abbrev pub by_arming : List Queued → List Queued
by_arming [] = []
by_arming (q ∷ qs) = inserted_by_arming q (by_arming qs)

abbrev pub queue_view : List Queued → List Deadline
queue_view queue = map (λ q. deadline_of q) (by_arming queue)

-- ---- by key

abbrev pub is_same : Key → Key → Bool
is_same key other = is_eq (nat_cmp key.0 other.0)

-- the turn of a key, among the armed deadlines and in the map by key
abbrev pub queue_position_of : Key → List Queued → Option QueuePosition
queue_position_of key [] = None
queue_position_of key (q ∷ qs) = if is_of key (deadline_of q) then Some q.0 else queue_position_of key qs

abbrev pub queue_position_at : Key → List (Key × QueuePosition) → Option QueuePosition
queue_position_at key turns = lookup (is_same key) turns

-- ---- what is stored

-- they are in order, each was armed before the one that is armed next, each has a number of its own and a key of its own, and the keys have these turns
pub record IsQueueState (next : ℕ) (queue : List Queued) (turns : List (Key × QueuePosition)) : Type 0 where
  pub sorted : IsStrictlySortedBy queue_position_cmp (keys_of queue)
  pub below_next : AllByRecursion (λ q. number_of q < next) queue
  pub numbered : Rises (λ q. number_of q) (by_arming queue)
  pub once : IsEachOnce (queue_view queue)
  pub positions_of : (key : Key) → queue_position_at key turns ≡ queue_position_of key (by_arming queue)

-- the keys have the turns that they had, except one
abbrev pub ArePositionsBut : Key → Option QueuePosition → (before after : List (Key × QueuePosition)) → Type 0
ArePositionsBut key turn before after = (k : Key) → queue_position_at k after ≡ (if is_same key k then turn else queue_position_at k before)

-- the deadlines of all other turns
abbrev pub queue_without : Option QueuePosition → List Queued → List Queued
queue_without None queue = queue
queue_without (Some turn) queue = remove_entry (is_at (queue_position_cmp turn)) queue

-- a deadline that is due: not later than now
abbrev pub if_due : ℕ → Option Deadline → Option Deadline
if_due now None = None
if_due now (Some deadline) = if nat_le deadline.0 now then Some deadline else None

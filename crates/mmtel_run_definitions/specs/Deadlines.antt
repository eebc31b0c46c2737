-- The timers of calls, of participants of conferences and of subscriptions, and which of all timers comes first (RFC 3261 §17; §13.3.1.4, TS 24.604 §4.8, RFC 3515 §2.4.5, RFC
-- 6665 §4.2.2).
use Rattle.std.specs.Prelude.{ℕ, ◌==◌, ◌&&◌, ◌||◌, nat_lt, nat_le, Bool, true, false, if◌then◌else◌, List, [], ◌∷◌, Option, Some, None}
use Rattle.mmtel_transaction.specs.Results.{DueEntryView}
use Rattle.mmtel_transaction.specs.Deadlines.{step_due}
use Rattle.mmtel_transaction.specs.declared.words.DueWord.{DueWord}
use Rattle.mmtel_transaction.specs.declared.words.DueWord.TheVariants as due
use Rattle.mmtel_transaction.specs.declared.words.RoomWord.{RoomWord}
use Rattle.mmtel_transaction.specs.declared.words.RoomWord.TheVariants as of_seat
use Rattle.mmtel_types.specs.declared.numbers.CallNo.{CallNo}
use Rattle.mmtel_types.specs.declared.numbers.RoomNo.{RoomNo}
use Rattle.mmtel_types.specs.declared.numbers.SubNo.{SubNo}

-- ---- timers of calls, participants and subscriptions

-- a timer of a call, of a participant of a conference, or of a subscription to a mailbox
pub data ServiceTimer : Type 0 where
  OfCall : (call : CallNo) → (what : DueWord) → ServiceTimer
  OfParticipant : (room : RoomNo) → (seat : ℕ) → (what : RoomWord) → ServiceTimer
  -- the expiration of a subscription, which this SUBSCRIBE of it set
  OfSubscription : (sub : SubNo) → (set : ℕ) → ServiceTimer

-- a timer, its moment, and the step in which it was armed
pub record PendingTimer : Type 0 where
  pub timer : ServiceTimer
  pub at : ℕ
  pub step : ℕ

-- the order of those that were armed in one step for one moment: they are of one call, of one participant, or of one subscription
abbrev pub call_rank : DueWord → ℕ
call_rank (due.NoReply attempt) = 0
call_rank (due.NoPrack answer) = 1
call_rank (due.Cap attempt) = 2
call_rank (due.NoAck success) = 3
call_rank (due.Expired success) = 4

abbrev pub participant_rank : RoomWord → ℕ
participant_rank (of_seat.Cap invitation) = 2
participant_rank (of_seat.NoAck success) = 3

abbrev pub rank : ServiceTimer → ℕ
rank (OfCall call what) = call_rank what
rank (OfParticipant room seat what) = participant_rank what
rank (OfSubscription sub set) = 0

-- by moment, then by the step that armed them, then by that order
abbrev pub is_sooner : PendingTimer → PendingTimer → Bool
is_sooner one other = nat_lt one.at other.at || (one.at == other.at && (nat_lt one.step other.step || (one.step == other.step && nat_lt (rank one.timer) (rank other.timer))))

-- a timer, and the others
pub record FirstTimer : Type 0 where
  pub first : PendingTimer
  pub others : List PendingTimer

abbrev pub first_timer : PendingTimer → List PendingTimer → FirstTimer
first_timer first others = record { first = first; others = others }

-- it, or the one that is chosen from those after it, where that is sooner
abbrev pub sooner_timer : PendingTimer → (others : List PendingTimer) → FirstTimer → FirstTimer
sooner_timer armed others behind = if is_sooner behind.first armed then first_timer behind.first (armed ∷ behind.others) else first_timer armed others

-- for one that is due or not, with what is chosen from those after it
abbrev pub first_timer_if : (is_due : Bool) → PendingTimer → (others : List PendingTimer) → Option FirstTimer → Option FirstTimer
first_timer_if false armed others None = None
first_timer_if false armed others (Some behind) = Some (first_timer behind.first (armed ∷ behind.others))
first_timer_if true armed others None = Some (first_timer armed others)
first_timer_if true armed others (Some behind) = Some (sooner_timer armed others behind)

-- the first of those that are due, and of equal ones the one that was armed first; the others keep their order
abbrev pub first_due_timer : ℕ → List PendingTimer → Option FirstTimer
first_due_timer now [] = None
first_due_timer now (armed ∷ others) = first_timer_if (nat_le armed.at now) armed others (first_due_timer now others)

-- ---- all timers

-- the first one: of a transaction, or of a call, a participant or a subscription, with the remaining ones of these
pub data Deadline : Type 0 where
  OfTransaction : Deadline
  OfServiceTimer : (armed : PendingTimer) → (others : List PendingTimer) → Deadline

-- that of a transaction comes before any other, unless its moment is later, or for one moment its step
abbrev pub comes_before : DueEntryView → PendingTimer → Bool
comes_before next armed = nat_lt next.at armed.at || (next.at == armed.at && nat_le (step_due next.entry) armed.step)

abbrev pub first_deadline : Option DueEntryView → Option FirstTimer → Option Deadline
first_deadline None None = None
first_deadline (Some next) None = Some OfTransaction
first_deadline None (Some foremost) = Some (OfServiceTimer foremost.first foremost.others)
first_deadline (Some next) (Some foremost) = if comes_before next foremost.first then Some OfTransaction else Some (OfServiceTimer foremost.first foremost.others)

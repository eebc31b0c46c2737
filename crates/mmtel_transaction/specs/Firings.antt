-- Successive deadlines: which comes next, in which step it was armed, and that they terminate where nothing else is called between them (RFC 3261 §17).
use Rattle.std.specs.Prelude.{◌≡◌, ◌↔◌, ℕ, zero, suc, ◌+◌, ◌-◌, ◌<◌, ◌≤◌, ◌⊎◌, Bool, nat_le, if◌then◌else◌, List, ◌∷◌, ◌++◌, Option, Some, None, option_map, slice_get}
use Rattle.std.specs.Prelude.{count_by, sum_by}
use Rattle.std.specs.Option.{option_or}
use Rattle.mmtel_types.specs.declared.numbers.Peer.{Peer}
use Rattle.mmtel_message.specs.Message.{Message}
use Rattle.mmtel_message.specs.declared.messages.Start.{Start}
use Rattle.mmtel_transaction.specs.Deadlines.{deadline, is_untimed, last_deadline, order_due, reliable_timers, state_retransmission_at, state_timers, step_due, timer_of, timers}
use Rattle.mmtel_transaction.specs.Operations.{TransactionOp, DidAck, DidAsk, DidBegin, DidReply, DidSettle, live, step_of}
use Rattle.mmtel_transaction.specs.Results.{DueEntryView, after_firing, by_key, next_due, upcoming_of}
use Rattle.mmtel_transaction.specs.declared.entries.TransactionTimer.{TransactionTimer}
use Rattle.mmtel_transaction.specs.declared.entries.Entry.{Entry}
use Rattle.mmtel_transaction.specs.declared.entries.ReliableResponse.{ReliableResponse}

-- of the deadlines of live transactions this moment and this step are the least that is not later than now: the moment, and of the same moment the step
pub record IsLeast (now : ℕ) (h : List TransactionOp) (at step : ℕ) : Type 0 where
  pub not_past : at ≤ now
  pub is_live : (e : Entry) × (by_key e.key (live h) ≡ Some e) × (deadline e ≡ Some at) × (step_due e ≡ step)
  pub least : (key a : ℕ) (e : Entry) → by_key key (live h) ≡ Some e → deadline e ≡ Some a → (at < a) ⊎ ((at ≡ a) × (step ≤ step_due e))

-- what `upcoming` returns is the least one
abbrev pub UpcomingIsLeast : Type 0
UpcomingIsLeast = (h : List TransactionOp) (now at step : ℕ) → upcoming_of (next_due now (live h)) ≡ Some (at, step) → IsLeast now h at step

-- and where it returns none, every deadline is later than now
abbrev pub NoneIsDue : Type 0
NoneIsDue = (h : List TransactionOp) (now key a : ℕ) (e : Entry) → upcoming_of (next_due now (live h)) ≡ None → by_key key (live h) ≡ Some e → deadline e ≡ Some a → now < a

-- a transaction's deadline, as one more operation leaves it, was there before with the same step and order among the next deadlines of its responses and its state
pub record ExistedBefore (h : List TransactionOp) (key a : ℕ) (x : Entry) : Type 0 where
  pub entry : Entry
  pub live : by_key key (live h) ≡ Some entry
  pub place : ℕ
  pub was_timer : slice_get (reliable_timers entry ++ state_timers entry) place ≡ Some (record { at = a; step = step_due x; order = order_due x })

-- a deadline is armed in the step of the operation that caused it
abbrev pub ArmedInItsStep : Type 0
ArmedInItsStep = (c : TransactionOp) (h : List TransactionOp) (key a : ℕ) (x : Entry) → by_key key (live (c ∷ h)) ≡ Some x →
    deadline x ≡ Some a → (step_due x ≡ step_of h) ⊎ ExistedBefore h key a x

-- how long a transaction's deadlines may continue: from the next one to the last one in milliseconds, and one; zero where it has none
abbrev pub remaining_by : Option ℕ → Option ℕ → ℕ
remaining_by None last = 0
remaining_by (Some a) None = 1
remaining_by (Some a) (Some last) = suc (last - a)

abbrev pub state_remaining : Entry → ℕ
state_remaining e = remaining_by (option_or (state_retransmission_at e) (last_deadline e)) (last_deadline e)

-- for a reliable response, which is retransmitted for the last time after 31,500
abbrev pub reliable_remaining : ReliableResponse → ℕ
reliable_remaining answer = remaining_by (option_map (λ alarm. alarm.at) (timer_of answer)) (Some (answer.start + 31500))

abbrev pub time_remaining : Entry → ℕ
time_remaining e = if is_untimed e.state then sum_by reliable_remaining e.reliable else state_remaining e

-- the sum of these over all transactions
abbrev pub total_remaining : List Entry → ℕ
total_remaining es = sum_by time_remaining es

-- it falls with each deadline that fires
abbrev pub FiringsUseUp : Type 0
FiringsUseUp = (h : List TransactionOp) (now : ℕ) (n : DueEntryView) → next_due now (live h) ≡ Some n →
    suc (total_remaining (live (after_firing h (Some n)))) ≤ total_remaining (live h)

-- the operations after so many calls of `due`, one after the other
unfoldable pub after_firings : ℕ → ℕ → List TransactionOp → List TransactionOp
after_firings zero now h = h
after_firings (suc fuel) now h = after_firings fuel now (after_firing h (next_due now (live h)))

-- that many are enough: nothing is due after them
abbrev pub FiringsEnd : Type 0
FiringsEnd = (h : List TransactionOp) (now fuel : ℕ) → total_remaining (live h) ≤ fuel → next_due now (live (after_firings fuel now h)) ≡ None

-- and once nothing is due, more of them change nothing
abbrev pub MoreChangesNothing : Type 0
MoreChangesNothing = (h : List TransactionOp) (now fuel more : ℕ) → next_due now (live (after_firings fuel now h)) ≡ None →
    after_firings (fuel + more) now h ≡ after_firings fuel now h

-- where other operations are called between, as the layers above do when a deadline fires: how many deadlines are not later than a moment
abbrev pub is_not_later : ℕ → TransactionTimer → Bool
is_not_later at alarm = nat_le alarm.at at

abbrev pub due_by : ℕ → List Entry → ℕ
due_by at es = sum_by (λ e. count_by (is_not_later at) (timers e)) es

-- nothing is due exactly where there are none
abbrev pub DueIsCounted : Type 0
DueIsCounted = (h : List TransactionOp) (at : ℕ) → (next_due at (live h) ≡ None) ↔ (due_by at (live h) ≡ 0)

-- the first deadline that fires leaves fewer that are not later than it
abbrev pub FiringsLeaveFewer : Type 0
FiringsLeaveFewer = (h : List TransactionOp) (now : ℕ) (n : DueEntryView) → next_due now (live h) ≡ Some n →
    suc (due_by n.at (live (after_firing h (Some n)))) ≤ due_by n.at (live h)

-- the beginning of a step changes no transaction
abbrev pub BeginsChangeNothing : Type 0
BeginsChangeNothing = (h : List TransactionOp) (step : ℕ) → live (DidBegin step ∷ h) ≡ live h

-- and what is sent at that moment adds none
pub record AddsNone (h : List TransactionOp) : Type 0 where
  pub asks : (p : Peer) (m : Message Start) (at : ℕ) → due_by at (live (DidAsk p m at ∷ h)) ≤ due_by at (live h)
  pub replies : (key : ℕ) (m : Message Start) (at : ℕ) → due_by at (live (DidReply key m at ∷ h)) ≤ due_by at (live h)
  pub acks : (key : ℕ) (m : Message Start) (at : ℕ) → due_by at (live (DidAck key m ∷ h)) ≤ due_by at (live h)
  pub settles : (key : ℕ) (own : Option ℕ) (at : ℕ) → due_by at (live (DidSettle key own ∷ h)) ≤ due_by at (live h)

abbrev pub SendsAddNone : Type 0
SendsAddNone = (h : List TransactionOp) → AddsNone h

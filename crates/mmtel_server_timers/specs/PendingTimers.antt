-- The timers of calls, of participants of conferences and of subscriptions, as the server stores them.
use Rattle.std.specs.Prelude.{◌≡◌, ◌==◌, ◌&&◌, ◌||◌, nat_lt, nat_le, Bool, ℕ, ⊤, List, map, Option, Some}
use Rattle.std.specs.Option.{option_map}
use Rattle.mmtel_run_definitions.specs.Deadlines.{Deadline, FirstTimer, OfCall, OfParticipant, OfServiceTimer}
use Rattle.mmtel_run_definitions.specs.Deadlines.{OfSubscription, OfTransaction, PendingTimer, ServiceTimer, first_timer}
use Rattle.mmtel_server_timers.specs.declared.pending_timers.ServiceTimer as service_timers
use Rattle.mmtel_server_timers.specs.declared.pending_timers.ServiceTimer.TheVariants as service_timer
use Rattle.mmtel_server_timers.specs.declared.pending_timers.PendingTimer as declared
use Rattle.mmtel_server_timers.specs.declared.deadlines.Deadline as deadlines
use Rattle.mmtel_server_timers.specs.declared.deadlines.Deadline.TheVariants as deadline

abbrev pub timer_in : service_timers.ServiceTimer → ServiceTimer
timer_in (service_timer.OfCall call what) = OfCall call what
timer_in (service_timer.OfParticipant room seat what) = OfParticipant room seat what
timer_in (service_timer.OfSubscription sub set) = OfSubscription sub set

abbrev pub pending_in : declared.PendingTimer → PendingTimer
pending_in armed = record { timer = timer_in armed.timer; at = armed.at; step = armed.step }

-- in the order in which they were armed
abbrev pub queue_of : List declared.PendingTimer → List PendingTimer
queue_of armed = map (λ a. pending_in a) armed

-- the first of those that are due
abbrev pub first_in : Option FirstTimer → Option PendingTimer
first_in chosen = option_map (λ c. c.first) chosen

-- one that was removed, and the others
abbrev pub first_and_others : Option declared.PendingTimer → (others : List PendingTimer) → Option FirstTimer
first_and_others taken others = option_map (λ a. first_timer (pending_in a) others) taken

-- which of the two comes first
abbrev pub kind_of : Deadline → deadlines.Deadline
kind_of OfTransaction = deadline.OfTransaction
kind_of (OfServiceTimer armed others) = deadline.OfServiceTimer

-- ---- what private functions alone cite

-- a timer of a transaction, of this moment and step, comes before one of a call, participant or subscription
abbrev pub is_before : (at step : ℕ) → PendingTimer → Bool
is_before at step armed = nat_lt at armed.at || (at == armed.at && nat_le step armed.step)

-- that of a call, participant or subscription is the one that was chosen
abbrev pub IsFirstTimer : Option FirstTimer → Deadline → Type 0
IsFirstTimer chosen OfTransaction = ⊤
IsFirstTimer chosen (OfServiceTimer armed others) = chosen ≡ Some (first_timer armed others)

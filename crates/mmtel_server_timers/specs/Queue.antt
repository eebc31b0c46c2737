-- The timers of calls, of participants and of subscriptions as they are stored: by the number of their arming, and their moments by rank.
use Rattle.std.specs.Prelude.{ℕ, ◌≡◌, ◌<◌, ◌≤◌, ◌==◌, nat_le, if◌then◌else◌, List, [], ◌∷◌, map, Option, Some, None}
use Rattle.std.specs.BTreeMap.{is_at}
use Rattle.std.specs.List.{AllByRecursion, filter}
use Rattle.std.specs.Map.{lookup}
use Rattle.std.specs.Option.{option_map}
use Rattle.std.specs.Ordering.{nat_cmp}
use Rattle.mmtel_timers.specs.Deadlines.{Deadline, soonest}
use Rattle.mmtel_timers.specs.declared.deadlines.Key.{Key}
use Rattle.mmtel_run_definitions.specs.Deadlines as run
use Rattle.mmtel_run_definitions.specs.Deadlines.{is_sooner, rank}
use Rattle.mmtel_server_timers.specs.PendingTimers.{pending_in, timer_in}
use Rattle.mmtel_server_timers.specs.declared.pending_timers.PendingTimer.{PendingTimer}
use Rattle.mmtel_server_timers.specs.declared.ranks.Ranks.{Ranks}

-- a timer that is armed, with the number of its arming
abbrev pub NumberedTimer : Type 0
NumberedTimer = ℕ × PendingTimer

abbrev pub pending_of : NumberedTimer → run.PendingTimer
pending_of e = pending_in e.1

abbrev pub rank_of : NumberedTimer → ℕ
rank_of e = rank (timer_in e.1.timer)

-- ---- those of one rank

-- a number as a key
abbrev pub key_of : ℕ → Key
key_of number = record { 0 = number }

abbrev pub deadline_of : NumberedTimer → Deadline
deadline_of e = (e.1.at, key_of e.0)

abbrev pub of_rank : ℕ → List NumberedTimer → List Deadline
of_rank r entries = map (λ e. deadline_of e) (filter (λ e. rank_of e == r) entries)

-- the deadlines of one rank are changed, and those of the others are kept
abbrev pub in_rank : ℕ → (List Deadline → List Deadline) → Ranks → Ranks
in_rank r change ranks =
    if r == 0 then record ranks { no_replies = change ranks.no_replies }
    else if r == 1 then record ranks { no_pracks = change ranks.no_pracks }
    else if r == 2 then record ranks { caps = change ranks.caps }
    else if r == 3 then record ranks { no_acks = change ranks.no_acks }
    else record ranks { expiries = change ranks.expiries }

-- those of all ranks are changed
abbrev pub in_ranks : (List Deadline → List Deadline) → Ranks → Ranks
in_ranks change ranks = record {
  no_replies = change ranks.no_replies;
  no_pracks = change ranks.no_pracks;
  caps = change ranks.caps;
  no_acks = change ranks.no_acks;
  expiries = change ranks.expiries;
}

-- ---- the first timer

-- the timer with this deadline
abbrev pub timer_at : Option Deadline → List NumberedTimer → Option NumberedTimer
timer_at None entries = None
timer_at (Some deadline) entries = option_map (λ a. (deadline.1.0, a)) (lookup (is_at (nat_cmp deadline.1.0)) entries)

-- the other one where that is sooner
abbrev pub earlier_of : Option NumberedTimer → Option NumberedTimer → Option NumberedTimer
earlier_of None other = other
earlier_of (Some one) None = Some one
earlier_of (Some one) (Some other) = if is_sooner (pending_of other) (pending_of one) then Some other else Some one

-- the first one of a rank
abbrev pub soonest_in : List Deadline → List NumberedTimer → Option NumberedTimer
soonest_in deadlines entries = timer_at (soonest deadlines) entries

-- the first of ranks 0 to 2: those of calls that are offered, and of participants that are invited
abbrev pub first_of_low_ranks : Ranks → List NumberedTimer → Option NumberedTimer
first_of_low_ranks ranks entries = earlier_of (earlier_of (soonest_in ranks.no_replies entries) (soonest_in ranks.no_pracks entries)) (soonest_in ranks.caps entries)

-- the first timer among the first ones of each rank
abbrev pub earliest_timer : Ranks → List NumberedTimer → Option NumberedTimer
earliest_timer ranks entries = earlier_of (earlier_of (first_of_low_ranks ranks entries) (soonest_in ranks.no_acks entries)) (soonest_in ranks.expiries entries)

-- a timer, where it is due
abbrev pub due_by : ℕ → Option NumberedTimer → Option NumberedTimer
due_by now None = None
due_by now (Some e) = if nat_le e.1.at now then Some e else None

-- ---- the invariant

-- numbers increase, and steps do not decrease
abbrev pub AreInOrder : List NumberedTimer → Type 0
AreInOrder [] = Unit {0}
AreInOrder (e ∷ es) = AllByRecursion (λ x. (e.0 < x.0) × (e.1.step ≤ x.1.step)) es × AreInOrder es

-- each was armed before the next one and in no later step than the last one, and each is among those of its rank
pub record TimersInvariant (next step : ℕ) (ranks : Ranks) (entries : List NumberedTimer) : Type 0 where
  pub in_order : AreInOrder entries
  pub below_next : AllByRecursion (λ e. (e.0 < next) × (e.1.step ≤ step)) entries
  pub no_replies : ranks.no_replies ≡ of_rank 0 entries
  pub no_pracks : ranks.no_pracks ≡ of_rank 1 entries
  pub caps : ranks.caps ≡ of_rank 2 entries
  pub no_acks : ranks.no_acks ≡ of_rank 3 entries
  pub expiries : ranks.expiries ≡ of_rank 4 entries

-- and the first one of all is stored
pub record TimersKept (next step : ℕ) (ranks : Ranks) (entries : List NumberedTimer) (first : Option NumberedTimer) : Type 0 where
  pub timers : TimersInvariant next step ranks entries
  pub earliest : first ≡ earliest_timer ranks entries

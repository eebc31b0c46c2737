-- When a condition holds: each part of it that is present does (RFC 4745 §6, TS 24.604 §4.9.1).
--
-- Of the identities of the other party only `asks` counts: a truth value for each identity part of a condition.
use Rattle.std.specs.Prelude.{ℕ, ◌/◌, ℤ, pos, ◌+ℤ◌, unsigned_abs, int_lt, int_le, nat_le, nat_lt, slice_index_or, Bool, true, false, not, ◌&&◌, ◌||◌, List, Option, Some, None}
use Rattle.std.specs.Int.{int_div_euclid, int_rem_euclid}
use Rattle.std.specs.List.{list_any}
use Rattle.std.specs.Option.{option_map_or}
use Rattle.std.specs.Str.{bytes_eq}
use Rattle.mmtel_sheet_values.specs.declared.values.Condition.{Condition}
use Rattle.mmtel_sheet_values.specs.declared.values.EventWord.{EventWord}
use Rattle.mmtel_sheet_values.specs.declared.values.EventWord.TheVariants as Event
use Rattle.mmtel_sheet_values.specs.declared.values.Weekly.{Weekly}
use Rattle.mmtel_sheet_values.specs.declared.values.Who.{Who}
use Rattle.mmtel_sheet_values.specs.declared.values.Window.{Window}
use Rattle.mmtel_rules.specs.Facts.{FactsView}
use Rattle.mmtel_rules.specs.declared.values.When.{When}
use Rattle.mmtel_rules.specs.declared.values.When.TheVariants.{Arrival, Busy, NoAnswer, NotReachable}

-- the other party is one of those that are meant
abbrev pub who_holds : (Who → Bool) → Option Who → Bool
who_holds asks who = option_map_or asks who true

-- the fact is true, where the condition requires it: the caller is anonymous, the call was diverted before, the target is abroad
abbrev pub fact_holds : (is_so asked : Bool) → Bool
fact_holds is_so asked = not asked || is_so

-- the moment is within that time, the end of which is not in it (RFC 4745 §7.3)
abbrev pub window_holds : ℕ → Option Window → Bool
window_holds now None = true
window_holds now (Some w) = int_le w.from (pos now) && int_lt (pos now) w.until

-- the whole minutes since 1970 began, by a clock that is ahead of UTC by so many
abbrev pub local_minutes : (now : ℕ) → (offset : ℤ) → ℤ
local_minutes now offset = pos (now / 60_000) +ℤ offset

-- the day of the week, from Monday on: 1970 began on a Thursday
abbrev pub weekday : ℤ → ℕ
weekday minutes = unsigned_abs (int_rem_euclid (int_div_euclid minutes (pos 1_440) +ℤ pos 3) (pos 7))

-- the minutes since the day began
abbrev pub minute_of_day : ℤ → ℕ
minute_of_day minutes = unsigned_abs (int_rem_euclid minutes (pos 1_440))

-- the moment is within these hours, the end of which is not in them, of one of these days
abbrev pub hours_hold : Weekly → ℤ → Bool
hours_hold w minutes = slice_index_or w.days (weekday minutes) false && (nat_le w.from (minute_of_day minutes) && nat_lt (minute_of_day minutes) w.until)

abbrev pub weekly_holds : ℕ → Option Weekly → Bool
weekly_holds now None = true
weekly_holds now (Some w) = hours_hold w (local_minutes now w.offset)

-- the kind of media is offered, byte for byte
abbrev pub is_offered : List (List ℕ) → List ℕ → Bool
is_offered offered word = list_any (λ kind. bytes_eq kind word) offered

-- one of the kinds is offered
abbrev pub is_one_offered : List (List ℕ) → List (List ℕ) → Bool
is_one_offered offered words = list_any (is_offered offered) words

abbrev pub media_holds : List (List ℕ) → Option (List (List ℕ)) → Bool
media_holds offered None = true
media_holds offered (Some words) = is_one_offered offered words

-- the event happened
abbrev pub is_event : EventWord → When → Bool
is_event Event.NotRegistered (Arrival registered) = not registered
is_event Event.NotRegistered Busy = false
is_event Event.NotRegistered NoAnswer = false
is_event Event.NotRegistered NotReachable = false
is_event Event.Busy (Arrival registered) = false
is_event Event.Busy Busy = true
is_event Event.Busy NoAnswer = false
is_event Event.Busy NotReachable = false
is_event Event.NoAnswer (Arrival registered) = false
is_event Event.NoAnswer Busy = false
is_event Event.NoAnswer NoAnswer = true
is_event Event.NoAnswer NotReachable = false
is_event Event.NotReachable (Arrival registered) = false
is_event Event.NotReachable Busy = false
is_event Event.NotReachable NoAnswer = false
is_event Event.NotReachable NotReachable = true

abbrev pub is_arrival : When → Bool
is_arrival (Arrival registered) = true
is_arrival Busy = false
is_arrival NoAnswer = false
is_arrival NotReachable = false

-- the event of the condition happened; a condition without an event is evaluated on arrival
abbrev pub event_holds : When → Option EventWord → Bool
event_holds when None = is_arrival when
event_holds when (Some event) = is_event event when

-- the parts on where the call goes, whether it was diverted before, and the hours of the week
abbrev pub further_holds : FactsView → Condition → Bool
further_holds k c = fact_holds k.diverted c.diverted && (fact_holds k.abroad c.abroad && weekly_holds k.now c.weekly)

-- each part that is present holds
unfoldable pub condition_holds : FactsView → When → Condition → Bool
condition_holds k when c =
    who_holds k.identity_matches c.identity && (fact_holds k.restricted c.anonymous && (window_holds k.now c.window
    && (media_holds k.media c.media && (further_holds k c && event_holds when c.event))))

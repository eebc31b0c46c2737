-- A timestamp with three decimal places of a second reads back.
use Rattle.std.proofs.Common.{◌≡◌, ◌-ℤ◌, ℕ, ℤ, pos, ◌%◌, ◌<◌, ◌≤ℤ◌, ◌*ℤ◌, ◌==◌, min, take_at, drop_at, true, false, List, [], ◌∷◌, ◌++◌, Some, Ok, refl, arith, int_lt}
use Rattle.std.proofs.lemmas.Bool.Decides.{nat_tests}
use Rattle.std.proofs.lemmas.Int.{ints}
use Rattle.std.proofs.lemmas.List.{append_assoc}
use Rattle.std.specs.Char.{is_ascii_digit}
use Rattle.std.specs.List.{prefix_len}
use Rattle.jiff_core.specs.declared.civil.time.Time.{Time}
use Rattle.jiff_core.specs.declared.civil.datetime.DateTime.{DateTime}
use Rattle.jiff_core.specs.declared.error.Bound.TheVariants as Bd
use Rattle.jiff_core.specs.declared.error.Syntax.TheVariants as Syntax
use Rattle.jiff_core.specs.DateTime.{civil_nanos}
use Rattle.jiff_core.specs.Timestamp.{IsTimestampNanos, nanos_of_seconds}
use Rattle.jiff_core.proofs.SignedLemmas.{signed_arith}
use Rattle.jiff_fmt.specs.Reader.{nanoseconds, temporal_fraction, fraction_value}
use Rattle.jiff_fmt.specs.Text.{pad2, date_text, time_text, datetime_text, zulu_text, places, fraction_part}
use Rattle.jiff_fmt.specs.Temporal.{date_parts, temporal_datetime, time_spec, time_parts, parse_timestamp}
use Rattle.jiff_fmt.specs.Temporal as spec
use Rattle.jiff_fmt.proofs.RoundTrip.{Stops, field-pad2, date_spec-text, offset-zulu, annotations-empty}
use Rattle.jiff_fmt.proofs.TemporalLemmas.{instant-ok}
use Rattle.jiff_fmt.proofs.TextLemmas.{places-read}
use Rattle.mmtel_sheet_grammar.specs.Moments.{moment_of_text, first_moment, whole_milliseconds}
use Rattle.mmtel_sheet_grammar.specs.Printable.{IsMoment}
use Rattle.mmtel_sheets.specs.Times.{moment_text}
use Rattle.mmtel_sheets.proofs.PrintedMoments.{moment_is_printed}

stops_digit : (rest : List ℕ) → Stops rest → prefix_len is_ascii_digit rest ≡ 0
stops_digit [] s = refl
stops_digit (c ∷ rest) s =
    let not_digit : is_ascii_digit c ≡ false = grind (arith, nat_tests, s) in
    rw not_digit

nanoseconds_back : (n : ℕ) (rest : List ℕ) → n < 1_000_000_000 → n % 1_000_000 ≡ 0 → Stops rest → nanoseconds (places 3 1_000_000_000 n ++ rest) ≡ Ok (n, rest)
unfolding nanoseconds
nanoseconds_back n rest high whole s =
    let facts = places-read 3 9 n rest (omega arith) high in
    let count : min (prefix_len is_ascii_digit (places 3 1_000_000_000 n ++ rest)) 9 ≡ 3 = omega (arith, facts.0, stops_digit rest s) in
    let value : fraction_value 9 (places 3 1_000_000_000 n) ≡ n = omega (arith, facts.2, whole) in
    rw (count, take_at (places 3 1_000_000_000 n) rest 3 facts.1, drop_at (places 3 1_000_000_000 n) rest 3 facts.1, value)

fraction_back : (n : ℕ) (rest : List ℕ) → n < 1_000_000_000 → n % 1_000_000 ≡ 0 → Stops rest → temporal_fraction (fraction_part (Some 3) n ++ rest) ≡ Ok (Some n, rest)
unfolding temporal_fraction
fraction_back n rest high whole s = rw (nanoseconds_back n rest high whole s)

time_back : (t : Time) (rest : List ℕ) → t.subsec_nanosecond % 1_000_000 ≡ 0 → Stops rest → time_spec (time_text (Some 3) t ++ rest) ≡ Ok ((time_parts t, true), rest)
unfolding time_spec
time_back t rest whole s =
    let fraction_read = fraction_back t.subsec_nanosecond rest t.subsec_in whole s in
    let fraction_text = fraction_part (Some 3) t.subsec_nanosecond ++ rest in
    let after_minute = 58 ∷ pad2 t.second ++ fraction_text in
    let after_hour = 58 ∷ pad2 t.minute ++ after_minute in
    let shape : time_text (Some 3) t ++ rest ≡ pad2 t.hour ++ after_hour = simp append_assoc refl in
    let hour = field-pad2 Syntax.Hour 0 23 Bd.Hour t.hour after_hour (omega arith) (omega (arith, t.hour_in)) (omega (arith, t.hour_in)) in
    let minute = field-pad2 Syntax.Minute 0 59 Bd.Minute t.minute after_minute (omega arith) (omega (arith, t.minute_in)) (omega (arith, t.minute_in)) in
    let second = field-pad2 Syntax.Second 0 60 Bd.LeapSecond t.second fraction_text (omega arith) (omega (arith, t.second_in)) (omega (arith, t.second_in)) in
    let no_leap : (t.second == 60) ≡ false = grind (arith, nat_tests, t.second_in) in
    rw (shape, hour, minute, second, no_leap, fraction_read)

timestamp_back : (dt : DateTime) (n : ℤ) → dt.time.subsec_nanosecond % 1_000_000 ≡ 0 → IsTimestampNanos n → civil_nanos dt ≡ n
    → parse_timestamp (datetime_text false 84 (Some 3) dt ++ zulu_text false) ≡ Ok n
unfolding temporal_datetime civil_nanos
timestamp_back dt n whole range e =
    let stop : Stops (90 ∷ []) = refl in
    let shape : datetime_text false 84 (Some 3) dt ++ 90 ∷ [] ≡ date_text dt.date ++ (84 ∷ time_text (Some 3) dt.time ++ 90 ∷ []) = append_assoc (date_text dt.date) (84 ∷ time_text (Some 3) dt.time) (90 ∷ []) in
    let clock = time_back dt.time (90 ∷ []) whole stop in
    let value : spec.parts_nanos (date_parts dt.date) (time_parts dt.time) -ℤ nanos_of_seconds (pos 0) ≡ n = omega (arith, signed_arith, e) in
    rw (shape, date_spec-text dt.date (84 ∷ time_text (Some 3) dt.time ++ 90 ∷ []), clock, offset-zulu, annotations-empty, value, instant-ok n range)

year_test : (m : ℤ) → first_moment ≤ℤ m → int_lt m first_moment ≡ false
year_test m h = grind (arith, ints, h)

whole_back : (m : ℤ) → whole_milliseconds (m *ℤ pos 1_000_000) ≡ m
whole_back m = omega (arith, signed_arith)

-- the text of a moment reads back
pub moment_back : (m : ℤ) → IsMoment m → moment_of_text (moment_text m) ≡ Some m
moment_back m h =
    let low = h.0 in
    let high = h.1 in
    let is = moment_is_printed m h in
    let range : IsTimestampNanos (m *ℤ pos 1_000_000) = (omega (arith, signed_arith), omega (arith, signed_arith)) in
    let read = timestamp_back is.clock (m *ℤ pos 1_000_000) is.whole range is.same in
    rw (← is.text, read, whole_back m, year_test m low)

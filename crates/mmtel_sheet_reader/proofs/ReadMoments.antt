-- A moment that was read is one that is printed.
use Rattle.std.proofs.Common.{◌≡◌, ℤ, pos, neg_ℤ, ◌-ℤ◌, ◌≤ℤ◌, int_lt, Bool, true, false, ◌||◌, List, ℕ, Some, None, Result, Ok, Err, refl, arith, cond}
use Rattle.std.proofs.lemmas.Int.{ints}
use Rattle.jiff_core.specs.Timestamp.{IsTimestampNanos, nanos_of_seconds}
use Rattle.jiff_core.specs.declared.error.Error.{Error}
use Rattle.jiff_core.specs.declared.error.Error.TheVariants.{Missing}
use Rattle.jiff_core.specs.declared.error.Part.TheVariants as Part
use Rattle.jiff_core.proofs.SignedLemmas.{signed_arith}
use Rattle.jiff_fmt.specs.Reader.{◌>>=◌, or_err}
use Rattle.jiff_fmt.specs.Offset as Offset
use Rattle.jiff_fmt.specs.Temporal.{DateTimeParts, parts_nanos, full, temporal_datetime, instant, to_timestamp, parse_timestamp}
use Rattle.mmtel_sheet_grammar.specs.Moments.{first_moment, whole_milliseconds, moment_of, moment_of_text}
use Rattle.mmtel_sheet_grammar.specs.Printable.{IsMoment, last_moment}

bind_ok : {A B : Type 0} (r : Result A Error) (f : A → Result B Error) (y : B) → (r >>= f) ≡ Ok y → (x : A) × (r ≡ Ok x) × (f x ≡ Ok y)
bind_ok (Ok x) f y e = (x, refl, e)
bind_ok (Err x) f y e = absurd cc

if_ok : (b : Bool) (x : Error) (z n : ℤ) → cond b (Err x) (Ok z) ≡ Ok n → (b ≡ false) × (z ≡ n)
if_ok true x z n e = absurd cc
if_ok false x z n e = (refl, cc)

instant_in : (z n : ℤ) → instant z ≡ Ok n → IsTimestampNanos n
instant_in z n e =
    let parts = if_ok (int_lt z (neg_ℤ (pos 377_705_023_201_000_000_000)) || int_lt (pos 253_402_207_200_999_999_999) z) _ z n e in
    let inside = parts.0 in
    let same = parts.1 in
    (grind (arith, ints), grind (arith, ints))

moved_in : (r : Result ℤ Error) (f : ℤ → ℤ) (n : ℤ) → (r >>= (λ s. instant (f s))) ≡ Ok n → IsTimestampNanos n
moved_in (Ok s) f n e = instant_in (f s) n e
moved_in (Err x) f n e = absurd cc

parts_in : {T O : Type 0} (time : Result T Error) (offset : Result O Error) (seconds : O → Result ℤ Error) (f : T → ℤ → ℤ) (n : ℤ)
    → (time >>= (λ t. offset >>= (λ o. seconds o >>= (λ s. instant (f t s))))) ≡ Ok n → IsTimestampNanos n
parts_in (Ok t) (Ok o) seconds f n e = moved_in (seconds o) (f t) n e
parts_in (Ok t) (Err x) seconds f n e = absurd cc
parts_in (Err x) offset seconds f n e = absurd cc

timestamp_in : (p : DateTimeParts) (n : ℤ) → to_timestamp p ≡ Ok n → IsTimestampNanos n
timestamp_in p n e = parts_in (or_err (Missing Part.Time) p.time) (or_err (Missing Part.Offset) p.offset) Offset.to_offset (λ t s. parts_nanos p.date t -ℤ nanos_of_seconds s) n e

read_in : (s : List ℕ) (n : ℤ) → parse_timestamp s ≡ Ok n → IsTimestampNanos n
read_in s n e =
    let parts = bind_ok (full (temporal_datetime s)) to_timestamp n e in
    timestamp_in parts.0 n parts.2

years_in : (b : Bool) (m k : ℤ) → cond b None (Some m) ≡ Some k → (b ≡ false) × (m ≡ k)
years_in true m k e = absurd cc
years_in false m k e = (refl, cc)

moment_in : (r : Result ℤ Error) (m : ℤ) → ((n : ℤ) → r ≡ Ok n → IsTimestampNanos n) → moment_of r ≡ Some m → IsMoment m
moment_in (Err x) m range e = absurd cc
moment_in (Ok n) m range e =
    let parts = years_in (int_lt (whole_milliseconds n) first_moment) (whole_milliseconds n) m e in
    let late = parts.0 in
    let same = parts.1 in
    let top = (range n refl).1 in
    let low : first_moment ≤ℤ whole_milliseconds n = grind (arith, ints) in
    let high : whole_milliseconds n ≤ℤ last_moment = omega (arith, signed_arith) in
    rw (← same) (low, high)

pub moment_printable : (s : List ℕ) (m : ℤ) → moment_of_text s ≡ Some m → IsMoment m
moment_printable s m e = moment_in (parse_timestamp s) m (read_in s) e

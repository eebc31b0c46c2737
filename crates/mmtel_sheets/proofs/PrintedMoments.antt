-- The text of a moment is the one that jiff prints, and it reads back.
use Rattle.std.proofs.Common.{◌≡◌, ℕ, ◌*◌, ◌/◌, ◌%◌, ◌<◌, ℤ, pos, ◌*ℤ◌, List, ◌++◌, Some, false, arith, refl, sym, ap, ◌∙◌}
use Rattle.jiff_core.specs.Time.{time_nanos}
use Rattle.jiff_core.specs.DateTime.{civil_nanos}
use Rattle.jiff_core.specs.declared.civil.time.Time.{Time}
use Rattle.jiff_core.specs.declared.civil.datetime.DateTime.{DateTime}
use Rattle.jiff_core.proofs.DateTimeLemmas.{civil_nanos-parts}
use Rattle.jiff_core.proofs.SignedLemmas.{signed_arith}
use Rattle.jiff_fmt.specs.Text.{places, time_text, datetime_text, zulu_text}
use Rattle.jiff_fmt.specs.Printer.{options, datetime_text as printer_text}
use Rattle.jiff_fmt.specs.declared.temporal.printer.DateTimePrinter.{DateTimePrinter}
use Rattle.jiff_zoned.proofs.SameLemmas.{same_datetime}
use Rattle.mmtel_sheet_grammar.specs.Printable.{IsMoment}
use Rattle.mmtel_sheets.specs.Times.{day_of, clock_of, pad3, clock_text, moment_text}
use Rattle.mmtel_sheets.proofs.Calendar.{dated}

three_places : (k : ℕ) → k < 1_000 → places 3 1_000_000_000 (k * 1_000_000) ≡ pad3 k
unfolding places
three_places k h =
    let a : k * 1_000_000 / 100_000_000 ≡ k / 100 = omega arith in
    let b : k * 1_000_000 % 100_000_000 / 10_000_000 ≡ k % 100 / 10 = omega arith in
    let c : k * 1_000_000 % 100_000_000 % 10_000_000 / 1_000_000 ≡ k % 100 % 10 = omega arith in
    rw (a, b, c)

-- the time of day of some milliseconds
pub record IsTimed (ms : ℕ) : Type 0 where
  pub time : Time
  pub same : time_nanos time ≡ ms * 1_000_000
  pub text : time_text (Some 3) time ≡ clock_text ms
  pub whole : time.subsec_nanosecond % 1_000_000 ≡ 0

timed : (ms : ℕ) → ms < 86_400_000 → IsTimed ms
timed ms h = record {
  time = record {
    hour = ms / 3_600_000;
    minute = ms / 60_000 % 60;
    second = ms / 1_000 % 60;
    subsec_nanosecond = ms % 1_000 * 1_000_000;
    hour_in = omega arith;
    minute_in = omega arith;
    second_in = omega arith;
    subsec_in = omega arith;
  };
  same = omega arith;
  text = let fraction = three_places (ms % 1_000) (omega arith) in rw fraction;
  whole = omega arith;
}

-- what jiff's printer prints of a moment
pub record IsPrintedMoment (m : ℤ) : Type 0 where
  pub clock : DateTime
  pub same : civil_nanos clock ≡ m *ℤ pos 1_000_000
  pub text : datetime_text false 84 (Some 3) clock ++ zulu_text false ≡ moment_text m
  pub whole : clock.time.subsec_nanosecond % 1_000_000 ≡ 0

pub moment_is_printed : (m : ℤ) → IsMoment m → IsPrintedMoment m
unfolding moment_text
moment_is_printed m h =
    let d = dated (day_of m) (omega (arith, signed_arith, h.0, h.1), omega (arith, signed_arith, h.0, h.1)) in
    let t = timed (clock_of m) (omega (arith, signed_arith)) in
    record {
      clock = record { date = d.date; time = t.time };
      same = omega (arith, signed_arith, civil_nanos-parts (record { date = d.date; time = t.time }), d.same, t.same);
      text = rw (d.text, t.text);
      whole = t.whole;
    }

-- the printer's text of a moment is its text
pub printed : (m : ℤ) (dt : DateTime) → IsMoment m → civil_nanos dt ≡ m *ℤ pos 1_000_000 → datetime_text false 84 (Some 3) dt ++ zulu_text false ≡ moment_text m
printed m dt h e =
    let is = moment_is_printed m h in
    ap (λ (x : DateTime). datetime_text false 84 (Some 3) x ++ zulu_text false) (same_datetime dt is.clock (e ∙ sym is.same)) ∙ is.text

-- what the printer writes with three decimal places
pub text_of : (p : DateTimePrinter) (dt : DateTime) (text : List ℕ) → options p ≡ (false, 84, Some 3) → text ≡ printer_text p dt ++ zulu_text p.lowercase
    → text ≡ datetime_text false 84 (Some 3) dt ++ zulu_text false
text_of p dt text o h =
    let lower : p.lowercase ≡ false = ap (λ x. x.0) o in
    let separator : p.separator ≡ 84 = ap (λ x. x.1) o in
    let precision : p.precision ≡ Some 3 = ap (λ x. x.2) o in
    h ∙ rw (lower, separator, precision) refl

-- The text of a moment is UTF-8.
use Rattle.std.proofs.Common.{ℕ, suc, ◌+◌, ◌/◌, ◌%◌, ◌<◌, ◌≤◌, ◌++◌, ◌∷◌, [], List, ℤ, pos, negsuc, IsUtf8, subst, arith}
use Rattle.std.proofs.lemmas.Str.{IsUtf8-nil, IsUtf8-append}
use Rattle.jiff_core.specs.Calendar.{IsYear}
use Rattle.jiff_core.specs.declared.civil.date.Date.{Date}
use Rattle.jiff_core.proofs.CalendarLemmas.{days_in_month_bounds}
use Rattle.jiff_core.proofs.SignedLemmas.{signed_arith}
use Rattle.jiff_fmt.proofs.ReaderLemmas.{utf8_cons}
use Rattle.jiff_fmt.specs.Text.{pad2, pad4, year_text, date_text}
use Rattle.mmtel_sheet_grammar.specs.Printable.{IsMoment}
use Rattle.mmtel_sheets.specs.Printing.{hour_text}
use Rattle.mmtel_sheets.specs.Times.{day_of, clock_of, day_text, pad3, clock_text, moment_text}
use Rattle.mmtel_sheets.proofs.Calendar.{dated}

two_digits : (n : ℕ) → n < 100 → IsUtf8 (pad2 n)
two_digits n h = utf8_cons (48 + n / 10) _ (omega arith) (utf8_cons (48 + n % 10) [] (omega arith) IsUtf8-nil)

three_digits : (n : ℕ) → n < 1_000 → IsUtf8 (pad3 n)
three_digits n h = utf8_cons (48 + n / 100) _ (omega arith) (two_digits (n % 100) (omega arith))

four_digits : (n : ℕ) → n < 10_000 → IsUtf8 (pad4 n)
four_digits n h = IsUtf8-append (pad2 (n / 100)) (pad2 (n % 100)) (two_digits (n / 100) (omega arith)) (two_digits (n % 100) (omega arith))

year_utf8 : (y : ℤ) → IsYear y → IsUtf8 (year_text y)
year_utf8 (pos n) is = four_digits n (omega (arith, signed_arith, is.0, is.1))
year_utf8 (negsuc n) is = utf8_cons 45 _ (omega arith) (utf8_cons 48 _ (omega arith) (utf8_cons 48 _ (omega arith) (four_digits (suc n) (omega (arith, signed_arith, is.0, is.1)))))

date_utf8 : (d : Date) → IsUtf8 (date_text d)
date_utf8 d =
    let month : d.month < 100 = omega (arith, d.month_in.1) in
    let day : d.day < 100 = omega (arith, d.day_in.1, (days_in_month_bounds d.year d.month).0) in
    let dash : IsUtf8 (45 ∷ []) = utf8_cons 45 [] (omega arith) IsUtf8-nil in
    let to_month = IsUtf8-append (year_text d.year ++ 45 ∷ []) (pad2 d.month) (IsUtf8-append (year_text d.year) (45 ∷ []) (year_utf8 d.year d.year_in) dash) (two_digits d.month month) in
    IsUtf8-append ((year_text d.year ++ 45 ∷ [] ++ pad2 d.month) ++ 45 ∷ []) (pad2 d.day) (IsUtf8-append (year_text d.year ++ 45 ∷ [] ++ pad2 d.month) (45 ∷ []) to_month dash) (two_digits d.day day)

clock_utf8 : (ms : ℕ) → ms < 86_400_000 → IsUtf8 (clock_text ms)
clock_utf8 ms h =
    IsUtf8-append (pad2 (ms / 3_600_000)) _ (two_digits (ms / 3_600_000) (omega arith)) (utf8_cons 58 _ (omega arith)
    (IsUtf8-append (pad2 (ms / 60_000 % 60)) _ (two_digits (ms / 60_000 % 60) (omega arith)) (utf8_cons 58 _ (omega arith)
    (IsUtf8-append (pad2 (ms / 1_000 % 60)) _ (two_digits (ms / 1_000 % 60) (omega arith)) (utf8_cons 46 _ (omega arith) (three_digits (ms % 1_000) (omega arith)))))))

pub hour_utf8 : (n : ℕ) → n ≤ 1_440 → IsUtf8 (hour_text n)
hour_utf8 n h = IsUtf8-append (pad2 (n / 60)) _ (two_digits (n / 60) (omega arith)) (utf8_cons 58 _ (omega arith) (two_digits (n % 60) (omega arith)))

pub moment_utf8 : (m : ℤ) → IsMoment m → IsUtf8 (moment_text m)
unfolding moment_text
moment_utf8 m h =
    let d = dated (day_of m) (omega (arith, signed_arith, h.0, h.1), omega (arith, signed_arith, h.0, h.1)) in
    let day : IsUtf8 (day_text (day_of m)) = subst (λ (x : List ℕ). IsUtf8 x) d.text (date_utf8 d.date) in
    let clock : IsUtf8 (clock_text (clock_of m)) = clock_utf8 (clock_of m) (omega (arith, signed_arith)) in
    let whole = IsUtf8-append (day_text (day_of m)) (84 ∷ clock_text (clock_of m)) day (utf8_cons 84 (clock_text (clock_of m)) (omega arith) clock) in
    IsUtf8-append (day_text (day_of m) ++ 84 ∷ clock_text (clock_of m)) (90 ∷ []) whole (utf8_cons 90 [] (omega arith) IsUtf8-nil)

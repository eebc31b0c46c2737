-- The text of a moment in a record: YYYY-MM-DDTHH:MM:SS.mmmZ, of the Gregorian calendar at UTC (RFC 3339 §5.6).
use Rattle.std.specs.Prelude.{ℕ, zero, suc, ◌+◌, ◌-◌, ◌/◌, ◌%◌, nat_lt, ℤ, pos, ◌+ℤ◌, ◌-ℤ◌, unsigned_abs, List, [], ◌∷◌, ◌++◌, if◌then◌else◌}
use Rattle.std.specs.Int.{int_div_euclid, int_rem_euclid}
use Rattle.jiff_core.specs.Calendar.{days_from_civil, days_of_months}
use Rattle.jiff_tz.specs.Year.{year_of_day}
use Rattle.jiff_fmt.specs.Text.{pad2, year_text}

-- the day of a moment: 0 for 1970-01-01
abbrev pub day_of : ℤ → ℤ
day_of m = int_div_euclid m (pos 86_400_000)

-- the milliseconds since the midnight before it
abbrev pub clock_of : ℤ → ℕ
clock_of m = unsigned_abs (int_rem_euclid m (pos 86_400_000))

-- the day of the year, from 1
abbrev pub day_in_year : ℤ → ℕ
day_in_year day = unsigned_abs ((day +ℤ pos 1) -ℤ days_from_civil (year_of_day day) 1 1)

-- of the first n + 1 months of the year the last that begins before the day of the year
unfoldable pub month_within : ℤ → ℕ → ℕ → ℕ
month_within year zero place = 1
month_within year (suc n) place = if nat_lt (days_of_months year (suc n)) place then suc (suc n) else month_within year n place

-- the month of a day
abbrev pub month_of : ℤ → ℕ
month_of day = month_within (year_of_day day) 11 (day_in_year day)

-- the day of the month
abbrev pub day_of_month : ℤ → ℕ
day_of_month day = day_in_year day - days_of_months (year_of_day day) (month_of day - 1)

-- YYYY-MM-DD
abbrev pub day_text : ℤ → List ℕ
day_text day = year_text (year_of_day day) ++ 45 ∷ [] ++ pad2 (month_of day) ++ 45 ∷ [] ++ pad2 (day_of_month day)

-- a number below 1000, in three digits
abbrev pub pad3 : ℕ → List ℕ
pad3 n = (48 + n / 100) ∷ pad2 (n % 100)

-- HH:MM:SS.mmm
abbrev pub clock_text : ℕ → List ℕ
clock_text ms = pad2 (ms / 3_600_000) ++ 58 ∷ pad2 (ms / 60_000 % 60) ++ 58 ∷ pad2 (ms / 1_000 % 60) ++ 46 ∷ pad3 (ms % 1_000)

-- the text of a moment
unfoldable pub moment_text : ℤ → List ℕ
moment_text m = day_text (day_of m) ++ 84 ∷ clock_text (clock_of m) ++ 90 ∷ []

-- Each day has a date of the calendar, whose text is that of the day.
use Rattle.std.proofs.Common.{◌≡◌, ℕ, zero, suc, ◌+◌, ◌-◌, ◌≤◌, ◌<◌, ℤ, pos, negsuc, neg_ℤ, ◌+ℤ◌, ◌-ℤ◌, ◌≤ℤ◌, nat_lt, true, false, arith, refl, sym, ap, ◌∙◌, inl, inr, unsigned_abs}
use Rattle.std.proofs.lemmas.Bool.Decides.{leb_tells, nat_tests}
use Rattle.jiff_core.specs.Calendar.{IsYear, IsEpochDay, days_from_civil, days_in_year, days_in_month, day_count, days_of_years, days_of_months, day_of_year}
use Rattle.jiff_core.specs.Date.{epoch_day}
use Rattle.jiff_core.specs.declared.civil.date.Date.{Date}
use Rattle.jiff_core.proofs.CalendarLemmas.{days_from_civil-day_count, days_of_months-zero, days_of_months_more, days_of_months_all, day_count-day_of_year, day_count-end, day_count-min}
use Rattle.jiff_core.proofs.SignedLemmas.{signed_arith}
use Rattle.jiff_fmt.specs.Text.{date_text}
use Rattle.jiff_tz.specs.Year.{years_within, year_of_day}
use Rattle.mmtel_sheets.specs.Times.{day_in_year, month_within, month_of, day_of_month, day_text}

years_step : (n : ℕ) → days_of_years (suc n) ≡ days_of_years n + days_in_year (pos n -ℤ pos 10000)
unfolding days_of_years
years_step n = refl

-- the years that are found fit
years_fit : (n count : ℕ) → days_of_years (years_within n count) ≤ count
unfolding years_within days_of_years
years_fit zero count = omega arith
years_fit (suc n) count = elim (leb_tells (days_of_years (suc n)) count) [
  | inl fits ↦ rw fits.0 fits.1
  | inr over ↦ rw over.0 (years_fit n count)
]

-- and one more does not
years_end : (n count : ℕ) → count < days_of_years (suc n) → count < days_of_years (suc (years_within n count))
unfolding years_within
years_end zero count h = h
years_end (suc n) count h = elim (leb_tells (days_of_years (suc n)) count) [
  | inl fits ↦ rw fits.0 h
  | inr over ↦ rw over.0 (years_end n count (omega (arith, over.1)))
]

years_mono : (a b : ℕ) → a ≤ b → days_of_years a ≤ days_of_years b
years_mono a zero h =
    let same : a ≡ zero = omega arith in rw same (omega arith)
years_mono a (suc b) h = elim (leb_tells a b) [
  | inl below ↦ omega (arith, years_mono a b below.1, years_step b)
  | inr above ↦
      let same : a ≡ suc b = omega (arith, above.1) in rw same (omega arith)
]

-- the first day of a year, counted in whole years
first_day : (y : ℤ) → day_count y 1 1 ≡ days_of_years (unsigned_abs (y +ℤ pos 10000))
unfolding day_count
first_day y = omega (arith, days_of_months-zero y)

all_years : days_of_years 20000 ≡ 7_304_850
all_years = sym (first_day (pos 10000)) ∙ day_count-end

one_year : days_of_years 1 ≡ 366
one_year = sym (first_day (neg_ℤ (pos 9999))) ∙ day_count-min

-- the months that are found: the day of the year is in the last of them
pub record IsMonth (year : ℤ) (n place month : ℕ) : Type 0 where
  pub low : 1 ≤ month
  pub high : month ≤ suc n
  pub after : days_of_months year (month - 1) < place
  pub within : place ≤ days_of_months year month

month_is : (year : ℤ) (n place : ℕ) → 1 ≤ place → place ≤ days_of_months year (suc n) → IsMonth year n place (month_within year n place)
unfolding month_within
month_is year zero place low h = record { low = omega arith; high = omega arith; after = omega (arith, days_of_months-zero year); within = h }
month_is year (suc n) place low h = elim (leb_tells place (days_of_months year (suc n))) [
  | inl within ↦
      let test : nat_lt (days_of_months year (suc n)) place ≡ false = grind (arith, nat_tests, within.1) in
      let had = month_is year n place low within.1 in
      rw test (record { low = had.low; high = omega (arith, had.high); after = had.after; within = had.within })
  | inr over ↦
      let test : nat_lt (days_of_months year (suc n)) place ≡ true = grind (arith, nat_tests, over.1) in
      let here : days_of_months year (suc (suc n) - 1) ≡ days_of_months year (suc n) = ap (λ x. days_of_months year x) (omega arith) in
      rw test (record { low = omega arith; high = omega arith; after = omega (arith, over.1); within = h })
]

-- the first days of the years from -10000 on: the count is in the year after k of them
pub record IsInYear (count k : ℕ) : Type 0 where
  pub fits : days_of_years k ≤ count
  pub ends : count < days_of_years (suc k)
  pub low : 1 ≤ k
  pub high : k < 20000

-- the year of a day, and the day of the year
pub record IsPlace (day year : ℤ) (place : ℕ) : Type 0 where
  pub year_in : IsYear year
  pub low : 1 ≤ place
  pub high : place ≤ days_in_year year
  pub sum : day +ℤ pos 1 ≡ days_from_civil year 1 1 +ℤ pos place

nonneg_abs : (z : ℤ) → pos 0 ≤ℤ z → pos (unsigned_abs z) ≡ z
nonneg_abs (pos n) h = refl
nonneg_abs (negsuc n) h = absurd (omega (arith, signed_arith))

-- the years that fit are 1 to 19999
year_count : (count : ℕ) → 366 ≤ count → count < 7_304_850 → IsInYear count (years_within 20000 count)
year_count count low high =
    let k : ℕ = years_within 20000 count in
    let fits : days_of_years k ≤ count = years_fit 20000 count in
    let more : days_of_years 20000 ≤ days_of_years 20001 = years_mono 20000 20001 (omega arith) in
    let all = all_years in
    let one = one_year in
    let last : count < days_of_years 20001 = omega arith in
    let ends : count < days_of_years (suc k) = years_end 20000 count last in
    let below : k < 20000 = elim (leb_tells 20000 k) [
      | inl far ↦ absurd (let mono = years_mono 20000 k far.1 in omega arith)
      | inr near ↦ near.1
    ] in
    let above : 1 ≤ k = elim (leb_tells 1 k) [
      | inl some ↦ some.1
      | inr none ↦ absurd (let mono = years_mono (suc k) 1 (omega (arith, none.1)) in omega arith)
    ] in
    record { fits = fits; ends = ends; low = above; high = below }

place_from : (day year : ℤ) (count k place : ℕ) → pos count ≡ day +ℤ pos 4_371_953 → year ≡ pos k -ℤ pos 10000 → IsInYear count k
    → place ≡ unsigned_abs ((day +ℤ pos 1) -ℤ days_from_civil year 1 1) → IsPlace day year place
place_from day year count k place counted is_year is is_place =
    let shifted : year +ℤ pos 10000 ≡ pos k = omega (arith, signed_arith) in
    let first : day_count year 1 1 ≡ days_of_years k = first_day year ∙ ap (λ z. days_of_years (unsigned_abs z)) shifted in
    let civil = days_from_civil-day_count year 1 1 in
    let fits = is.fits in
    let ends = is.ends in
    let low = is.low in
    let high = is.high in
    let step : days_of_years (suc k) ≡ days_of_years k + days_in_year year = years_step k ∙ ap (λ z. days_of_years k + days_in_year z) (sym is_year) in
    let positive : pos 0 ≤ℤ ((day +ℤ pos 1) -ℤ days_from_civil year 1 1) = omega (arith, signed_arith) in
    let whole : pos place ≡ (day +ℤ pos 1) -ℤ days_from_civil year 1 1 = ap pos is_place ∙ nonneg_abs ((day +ℤ pos 1) -ℤ days_from_civil year 1 1) positive in
    record {
      year_in = (omega (arith, signed_arith), omega (arith, signed_arith));
      low = omega (arith, signed_arith);
      high = omega (arith, signed_arith);
      sum = omega (arith, signed_arith);
    }

place_is : (day : ℤ) → IsEpochDay day → IsPlace day (year_of_day day) (day_in_year day)
place_is day h =
    let low = h.0 in
    let high = h.1 in
    let counted : pos (unsigned_abs (day +ℤ pos 4_371_953)) ≡ day +ℤ pos 4_371_953 = nonneg_abs (day +ℤ pos 4_371_953) (omega (arith, signed_arith)) in
    place_from day (year_of_day day) (unsigned_abs (day +ℤ pos 4_371_953)) (years_within 20000 (unsigned_abs (day +ℤ pos 4_371_953))) (day_in_year day) counted refl
    (year_count (unsigned_abs (day +ℤ pos 4_371_953)) (omega (arith, signed_arith)) (omega (arith, signed_arith))) refl

-- the date of a day
pub record IsDated (day : ℤ) : Type 0 where
  pub date : Date
  pub same : epoch_day date ≡ day
  pub text : date_text date ≡ day_text day

pub dated : (day : ℤ) → IsEpochDay day → IsDated day
dated day h =
    let year : ℤ = year_of_day day in
    let place : ℕ = day_in_year day in
    let at = place_is day h in
    let all = days_of_months_all year in
    let found = month_is year 11 place at.low (omega (arith, at.high)) in
    let month : ℕ = month_of day in
    let more = days_of_months_more year month found.low in
    let number : ℕ = day_of_month day in
    let is : number ≡ place - days_of_months year (month - 1) = refl in
    let low : 1 ≤ number = omega (arith, found.after) in
    let high : number ≤ days_in_month year month = omega (arith, found.within) in
    let of_year : day_of_year year month number ≡ days_of_months year (month - 1) + number = refl in
    let counted = day_count-day_of_year year month number low in
    record {
      date = record { year = year; month = month; day = number; year_in = at.year_in; month_in = (found.low, found.high); day_in = (low, high) };
      same = omega (arith, signed_arith, days_from_civil-day_count year month number, days_from_civil-day_count year 1 1, at.sum, found.after);
      text = refl;
    }

-- The times that records write: timestamps of Temporal's grammar with an offset (RFC 3339, RFC 9557), as whole milliseconds since 1970-01-01T00:00:00Z.
use Rattle.std.specs.Prelude.{◌≡◌, ℕ, ℤ, pos, negsuc, int_lt, List, Option, Some, None, Result, Ok, Err, if◌then◌else◌}
use Rattle.std.specs.Int.{int_div_euclid}
use Rattle.jiff.specs.Words.{parse_timestamp, Error}

-- 0001-01-01T00:00:00Z
abbrev pub first_moment : ℤ
first_moment = negsuc 62_135_596_799_999

-- the whole milliseconds of some nanoseconds, rounded down
abbrev pub whole_milliseconds : ℤ → ℤ
whole_milliseconds n = int_div_euclid n (pos 1_000_000)

-- the moment, where it is not before the year 1; the timestamps that are read end with the year 9999
abbrev pub in_years : ℤ → Option ℤ
in_years m = if int_lt m first_moment then None else Some m

abbrev pub moment_of : Result ℤ Error → Option ℤ
moment_of (Err e) = None
moment_of (Ok n) = in_years (whole_milliseconds n)

-- the moment that a text writes
abbrev pub moment_of_text : List ℕ → Option ℤ
moment_of_text text = moment_of (parse_timestamp text)

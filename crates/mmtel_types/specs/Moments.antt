-- The range of the clock, in whole milliseconds since 1970-01-01T00:00:00Z without leap seconds.
use Rattle.std.specs.Prelude.{ℕ}

-- the last moment, in the year 9892, so that each has a date of four digits
abbrev pub last_moment : ℕ
last_moment = 250000000000000

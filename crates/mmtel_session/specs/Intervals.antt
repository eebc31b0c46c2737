-- The interval that a request asks for (RFC 4028 §5, §6, §7.1), and when the session of a 2xx expires (§10), by the values of Session-Expires, one per line.
use Rattle.std.specs.Prelude.{ℕ, ◌*◌, max, nat_lt, if◌then◌else◌, List, [], ◌∷◌, Option, Some, None, Result, Ok, Err}
use Rattle.mmtel_session.specs.SessionExpires.{session_of}
use Rattle.mmtel_session.specs.declared.intervals.SessionFault.{SessionFault}
use Rattle.mmtel_session.specs.declared.intervals.SessionFault.TheVariants.{Malformed, Small}
use Rattle.mmtel_session.specs.declared.values.SessionExpires.{SessionExpires}

-- the least interval that is accepted, in seconds (§5: the default of Min-SE)
abbrev pub least_interval : ℕ
least_interval = 90

-- the interval of a value, which is refused where it cannot be read or is too small (§6)
abbrev pub interval_of : Option SessionExpires → Result (Option ℕ) SessionFault
interval_of None = Err Malformed
interval_of (Some session) = if nat_lt session.interval least_interval then Err (Small session.interval) else Ok (Some session.interval)

-- the interval that a request with these values asks for: one value at most (§4)
abbrev pub check : List (List ℕ) → Result (Option ℕ) SessionFault
check [] = Ok None
check (value ∷ []) = interval_of (session_of value)
check (value ∷ other ∷ more) = Err Malformed

-- how long the session of a value lasts, in milliseconds: not less than the least interval
abbrev pub expiry_interval : Option SessionExpires → Option ℕ
expiry_interval None = None
expiry_interval (Some session) = Some (1000 * max session.interval least_interval)

-- how long after a 2xx with these values its session expires: the first value decides, and one that cannot be read sets nothing
abbrev pub expiry_interval_of : List (List ℕ) → Option ℕ
expiry_interval_of [] = None
expiry_interval_of (value ∷ more) = expiry_interval (session_of value)

-- Start lines (RFC 3261 §7.1, §7.2 and §25.1): `Method SP Request-URI SP SIP/2.0`, or `SIP/2.0 SP Status-Code SP Reason-Phrase`.
use Rattle.std.specs.Prelude.{Option, Some, None, ◌==◌, if◌then◌else◌, ℕ, nat_lt, List, length, codes}
use Rattle.std.specs.List.{list_all}
use Rattle.std.specs.Str.{bytes_eq}
use Rattle.mmtel_base.specs.Scanning.{split_once_at, after_byte, after_text}
use Rattle.mmtel_base.specs.Chain.{◌>>=◌}
use Rattle.mmtel_base.specs.Numbers.{number_of}
use Rattle.mmtel_lex.specs.Reading.{token_at}
use Rattle.mmtel_message.specs.Headers.{is_value_byte}
use Rattle.mmtel_message.specs.declared.messages.Start.{Start}
use Rattle.mmtel_message.specs.declared.messages.Start.TheVariants.{Request, Status}

-- a status of 100 to 699, and a reason phrase without byte 0, CR and LF
abbrev pub status_of : List ℕ → ℕ → Option Start
status_of phrase n = if nat_lt n 100 then None else if list_all is_value_byte phrase then Some (Status n phrase) else None

-- what follows `SIP/2.0 `
unfoldable pub status_at : List ℕ → Option Start
status_at s = do
  p ← split_once_at 32 s
  n ← if length p.0 == 3 then number_of 699 p.0 else None
  status_of p.1 n

abbrev pub request_of : List ℕ → List ℕ → List ℕ → Option Start
request_of method uri version = if length uri == 0 then None else if bytes_eq version (codes "SIP/2.0") then Some (Request method uri) else None

unfoldable pub request_at : List ℕ → Option Start
request_at s = do
  m ← token_at s
  u ← after_byte 32 m.1
  p ← split_once_at 32 u
  request_of m.0 p.0 p.1

abbrev pub start_from : Option (List ℕ) → List ℕ → Option Start
start_from None s = request_at s
start_from (Some t) s = status_at t

-- the start line
unfoldable pub start_at : List ℕ → Option Start
start_at s = start_from (after_text (codes "SIP/2.0 ") s) s

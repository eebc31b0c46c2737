-- What a value of Session-Expires is and says (RFC 4028 §4): `delta-seconds *(SEMI se-params)`, where a parameter `refresher` has the word `uac` or `uas`. As in all numbers
-- of the profile there are below 2^31 seconds, which may begin with zeros, and no blanks around ';' and '='.
use Rattle.std.specs.Prelude.{◌≡◌, ℕ, ◌<◌, ◌^◌, ◌++◌, if◌then◌else◌, Bool, true, false, List, Option, Some, None, codes}
use Rattle.std.specs.Str.{bytes_eq}
use Rattle.mmtel_base.specs.Chain.{◌>>=◌}
use Rattle.mmtel_base.specs.Numbers.{Writes, number_of}
use Rattle.mmtel_base.specs.Scanning.{leading_run, after_run}
use Rattle.mmtel_base.specs.declared.classes.Class.TheVariants.{Digit}
use Rattle.mmtel_lex.specs.Grammar.{AreParams, params_text}
use Rattle.mmtel_lex.specs.Params.{has_param, param_value}
use Rattle.mmtel_lex.specs.Reading.{params_of}
use Rattle.mmtel_lex.specs.declared.values.Param.{Param}
use Rattle.mmtel_session.specs.declared.values.SessionExpires.{SessionExpires}

-- whether the side that sends the request is the refresher, by a word; None where it is no word of `refresher`
abbrev pub refresher_of : List ℕ → Option Bool
refresher_of word = if bytes_eq word (codes "uac") then Some true else if bytes_eq word (codes "uas") then Some false else None

-- by the value of a parameter `refresher`, which has to be present
abbrev pub refresher_by : Option (List ℕ) → Option (Option Bool)
refresher_by None = None
refresher_by (Some word) = refresher_of word >>= λ caller. Some (Some caller)

-- by the first parameter `refresher`; without one the refresher is left open
abbrev pub refresher_in : List Param → Option (Option Bool)
refresher_in params = if has_param (codes "refresher") params then refresher_by (param_value (codes "refresher") params) else Some None

-- what a value says
unfoldable pub session_of : List ℕ → Option SessionExpires
session_of s = do
  interval ← number_of 2147483647 (leading_run Digit s)
  params ← params_of (after_run Digit s)
  refresher ← refresher_in params
  Some (record { interval = interval; caller_refreshes = refresher })

-- the bytes are of the grammar, and this is what they say: digits, and parameters after them
pub record IsSession (s : List ℕ) (session : SessionExpires) : Type 0 where
  pub digits : List ℕ
  pub params : List Param
  pub whole : s ≡ digits ++ params_text params
  pub interval : Writes digits session.interval
  pub below : session.interval < 2 ^ 31
  pub params_in : AreParams params
  pub refresher : refresher_in params ≡ Some session.caller_refreshes

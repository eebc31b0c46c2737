-- How an attempt that was offered ended: by a response, a timer, or its caller (RFC 3261 §9, §15, §17.1.1 and §21, TS 24.604 §4.5.2.6).
use Rattle.std.specs.Prelude.{ℕ, ◌==◌, ◌&&◌, ◌||◌, not, nat_le, Bool, true, false, if◌then◌else◌, Option, Some, None}
use Rattle.mmtel_lex.specs.declared.values.Uri.{Uri}
pub use Rattle.mmtel_sip_rules.specs.Statuses.{is_provisional, is_redirection, is_success}
use Rattle.mmtel_precedence.specs.Calls.{AttemptEndView, Answer, Cancel, Unacknowledged, UserBusy, NotReachable, NoReply, Deflection, Other}

-- the outcome of an attempt that was offered
pub data AttemptEvent : Type 0 where
  -- a response with this status, whose first Contact is this target, where it can be read
  Response : (code : ℕ) → (target : Option Uri) → AttemptEvent
  -- no response at all until the client transaction timed out (RFC 3261 §17.1.1.2, Timer B)
  TransactionTimeout : AttemptEvent
  -- the no-reply time of the record passed, which begins with the first ringing response
  NoReplyTime : AttemptEvent
  -- the maximum time of an attempt passed, which begins with the offer
  LongestTime : AttemptEvent
  -- the caller abandoned the call, by CANCEL or BYE (RFC 3261 §9 and §15)
  CallerGaveUp : AttemptEvent
  -- the caller did not acknowledge a reliable response in its time, which begins when the response is sent to it (RFC 3262 §3)
  PrackTime : AttemptEvent

-- the target rings (RFC 3261 §21.1.2 to §21.1.5)
abbrev pub rings : ℕ → Bool
rings code = nat_le 180 code && nat_le code 183

-- user determined user busy (TS 24.615 §4.5.5)
abbrev pub is_user_busy : ℕ → Bool
is_user_busy code = code == 486 || code == 600

-- a target that is out of reach says so, or the network does, before it rings
abbrev pub is_unreachable : ℕ → Bool
is_unreachable code = code == 408 || (code == 500 || code == 503)

-- a 3xx deflects the call where it is a 302 with a target; else it counts as a 480
abbrev pub end_by_redirection : ℕ → Option Uri → (rang : Bool) → AttemptEndView
end_by_redirection code None rang = Other 480
end_by_redirection code (Some target) rang = if code == 302 then Deflection target rang else Other 480

-- a final response with this status, whose first Contact is this target
abbrev pub end_by_final : ℕ → Option Uri → (rang : Bool) → AttemptEndView
end_by_final code target rang =
    if is_success code then Answer
    else if is_user_busy code then UserBusy code
    else if is_unreachable code && not rang then NotReachable code
    else if is_redirection code then end_by_redirection code target rang
    else Other code

abbrev pub end_by_response : ℕ → Option Uri → (rang : Bool) → Option AttemptEndView
end_by_response code target rang = if is_provisional code then None else Some (end_by_final code target rang)

-- the maximum time of an attempt passed
abbrev pub end_by_time : (rang : Bool) → AttemptEndView
end_by_time true = NoReply
end_by_time false = NotReachable 408

-- the end of the attempt, where this outcome is one
abbrev pub end_by : AttemptEvent → (rang : Bool) → Option AttemptEndView
end_by (Response code target) rang = end_by_response code target rang
end_by TransactionTimeout rang = Some (NotReachable 408)
end_by NoReplyTime rang = Some NoReply
end_by LongestTime rang = Some (end_by_time rang)
end_by CallerGaveUp rang = Some Cancel
end_by PrackTime rang = Some Unacknowledged

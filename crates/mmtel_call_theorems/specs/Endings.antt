-- How the attempts of a trace ended, by what was received for them while they were current (RFC 3261 §9, §15, §17.1.1 and §21, RFC 3262 §3, TS 24.604 §4.5.2.6).
use Rattle.std.specs.Prelude.{ℕ, ◌==◌, ◌&&◌, not, Bool, if◌then◌else◌, Option, Some, None, List, [], ◌∷◌, ◌++◌, is_ok, option_to_list}
use Rattle.std.specs.Option.{option_map}
use Rattle.std.specs.Str.{bytes_eq}
use Rattle.mmtel_compose.specs.ReceivedMessages.{MessageView, status_of}
use Rattle.mmtel_leg.specs.declared.dialogues.InFlight.TheVariants as in_flight
use Rattle.mmtel_precedence.specs.Attempts.{end_by, end_by_response}
use Rattle.mmtel_precedence.specs.Calls.{Answer, AttemptEndView, Cancel, Deflection, EndedAttempt, NoReply, NotReachable, Other, Unacknowledged, UserBusy}
use Rattle.mmtel_precedence.specs.Attempts as events
use Rattle.mmtel_reliable.specs.Acks.{AcksView, has_own}
use Rattle.mmtel_transaction.specs.declared.words.DueWord.{DueWord}
use Rattle.mmtel_transaction.specs.declared.words.DueWord.TheVariants as due
use Rattle.mmtel_types.specs.declared.sides.Side.{Side}
use Rattle.mmtel_types.specs.declared.sides.Side.TheVariants.{Caller, Callee}
use Rattle.mmtel_call_services.specs.Decisions.{redirect_of}
use Rattle.mmtel_output.specs.ResponseMatching.{awaited_request_branch, timed_out_branch}
use Rattle.mmtel_call.specs.Requests.{is_bye, request_check}
use Rattle.mmtel_call.specs.declared.calls.Call.{Call}
use Rattle.mmtel_call.specs.declared.calls.Phase.{Phase}
use Rattle.mmtel_call.specs.declared.calls.Phase.TheVariants.{Detached, Established, Offered, Over}
use Rattle.mmtel_call.specs.declared.calls.OfferedAttempt.{OfferedAttempt}
use Rattle.mmtel_call.specs.declared.signals.Signal.{Signal}
use Rattle.mmtel_call.specs.declared.signals.Signal.TheVariants as signal
use Rattle.mmtel_call_theorems.specs.CallTrace.{TraceStart, TraceStep, call_after}

-- ---- what ends the current attempt, if anything

-- whether the INVITE of this branch is that of the attempt
abbrev pub is_branch_of_attempt : OfferedAttempt → List ℕ → Bool
is_branch_of_attempt x branch = bytes_eq x.attempt.invite.branch branch

-- a response to it, by its status
abbrev pub end_on_response : OfferedAttempt → MessageView → Option (List ℕ) → Option AttemptEndView
end_on_response x m None = None
end_on_response x m (Some branch) = if is_branch_of_attempt x branch then end_by_response (status_of m.parsed.start) (redirect_of m) x.attempt.rang else None

-- no response at all; an attempt that rang had a response
abbrev pub end_on_timeout : OfferedAttempt → Option (List ℕ) → Option AttemptEndView
end_on_timeout x None = None
end_on_timeout x (Some branch) = if is_branch_of_attempt x branch && not x.attempt.rang then end_by events.TransactionTimeout x.attempt.rang else None

-- the deadline of the no-reply time, or of the longest time, of this attempt; and that of a reliable response to it that waits for its PRACK (RFC 3262 §3)
abbrev pub end_on_deadline : OfferedAttempt → AcksView → DueWord → Option AttemptEndView
end_on_deadline x acks (due.NoReply number) = if number == x.attempt.number then end_by events.NoReplyTime x.attempt.rang else None
end_on_deadline x acks (due.NoPrack own) = if has_own own acks.waiting then end_by events.PrackTime x.attempt.rang else None
end_on_deadline x acks (due.Cap number) = if number == x.attempt.number then end_by events.LongestTime x.attempt.rang else None
end_on_deadline x acks (due.NoAck number) = None
end_on_deadline x acks (due.Expired number) = None

-- the BYE of the caller, if it is in order
abbrev pub end_on_request : OfferedAttempt → Side → MessageView → Option AttemptEndView
end_on_request x Caller m = if is_ok (request_check x.caller m in_flight.Theirs) && is_bye m then end_by events.CallerGaveUp x.attempt.rang else None
end_on_request x Callee m = None

abbrev pub end_of_attempt : OfferedAttempt → Call → Signal → Option AttemptEndView
end_of_attempt x c (signal.Request side key request) = end_on_request x side request
end_of_attempt x c (signal.Ack side ack) = None
end_of_attempt x c (signal.Cancel key cancel invite) = if invite.0 == c.opening.key.0 then end_by events.CallerGaveUp x.attempt.rang else None
end_of_attempt x c (signal.Answer key response) = end_on_response x response (awaited_request_branch response)
end_of_attempt x c (signal.Silent branch method) = end_on_timeout x (timed_out_branch branch method)
end_of_attempt x c (signal.Due what) = end_on_deadline x c.acks what
end_of_attempt x c (signal.Ended key) = None

-- while no attempt is current, none ends
abbrev pub end_in : Phase → Call → Signal → Option AttemptEndView
end_in (Offered x) c received = end_of_attempt x c received
end_in (Established x stage) c received = None
end_in (Detached detached) c received = None
end_in (Over cause) c received = None

-- ---- in order

abbrev pub ending_at : (at : ℕ) → AttemptEndView → EndedAttempt
ending_at at how = record { at = at; how = how }

abbrev pub ending_by : TraceStep → Call → List EndedAttempt
ending_by x c = option_to_list (option_map (ending_at x.now.at) (end_in c.phase c x.signal))

-- what was received last is first in its list; the endings are in the order in which they occurred
unfoldable pub endings_after : TraceStart → List TraceStep → List EndedAttempt
endings_after s [] = []
endings_after s (x ∷ earlier) = endings_after s earlier ++ ending_by x (call_after s earlier)

-- ---- the answer

abbrev pub answer_moment_of : AttemptEndView → (at : ℕ) → Option ℕ
answer_moment_of Answer at = Some at
answer_moment_of Cancel at = None
answer_moment_of Unacknowledged at = None
answer_moment_of (UserBusy code) at = None
answer_moment_of (NotReachable code) at = None
answer_moment_of NoReply at = None
answer_moment_of (Deflection target rang) at = None
answer_moment_of (Other code) at = None

abbrev pub last_or : Option ℕ → Option ℕ → Option ℕ
last_or None before = before
last_or (Some at) before = Some at

-- when an attempt was answered, if one was
abbrev pub answer_moment : List EndedAttempt → Option ℕ
answer_moment [] = None
answer_moment (ended ∷ later) = last_or (answer_moment later) (answer_moment_of ended.how ended.at)

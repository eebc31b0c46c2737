-- What is observed of the trace of a call from outside: what is observed in each step, its attempts, by what is sent and received while it is offered (RFC 3261 §13.2.1, §13.3.1,
-- §14 and §21, RFC 3262 §3), and its session (RFC 4028 §10).
-- A leg that is detached or put back, or the end without one, concerns an answered call, which has no current attempt.
use Rattle.std.specs.Prelude.{ℕ, Option, None, List, [], ◌∷◌, ◌++◌, option_to_list}
use Rattle.std.specs.Option.{option_map}
use Rattle.mmtel_precedence.specs.Calls.{EndedAttempt}
use Rattle.mmtel_transaction.specs.declared.words.Emit.{Emit}
use Rattle.mmtel_transaction.specs.declared.words.TKey.{TKey}
use Rattle.mmtel_call_services.specs.Decisions.{no_reply_time_of}
use Rattle.mmtel_call_services.specs.Requests.{number_of}
use Rattle.mmtel_call.specs.declared.calls.Call.{Call}
use Rattle.mmtel_call_theorems.specs.Endings.{ending_at}
use Rattle.mmtel_call_theorems.specs.Outcomes.{last_record}
use Rattle.mmtel_call_theorems.specs.Session.Observed.{Session, expiries_of, initial_session, session_after_step, session_after_success}
use Rattle.mmtel_call_theorems.specs.Labels.{Label, labels_of, labels_of_step}
use Rattle.mmtel_call_theorems.specs.CallTrace.{TraceStart, first_step, items_added, opening_in}
use Rattle.mmtel_call_theorems.specs.Attempts.Observed.{AttemptEvent, ObservedAttempts, after_events, end_observed, events_at_start}
use Rattle.mmtel_call_theorems.specs.Attempts.Observed.{events_of, first_last, last_by, nothing_observed, observed_step}
use Rattle.mmtel_b2bua_theorems.specs.Outcomes.{call_inputs_after, outcome_after}
use Rattle.mmtel_b2bua_theorems.specs.TracesWithTransfers.{CallEvent, Finishes, Receives, Releases, Restores, call_after, emits_by}

-- ---- what is observed: INVITEs to its targets, and final responses to its caller

-- of what is sent at this event, except for an INVITE that a side sends within the call and that is relayed to the other side
abbrev pub labels_in : (key : TKey) → CallEvent → List Emit → List Label
labels_in key (Receives x) out = labels_of_step key x.signal out
labels_in key (Releases side) out = labels_of key out
labels_in key (Restores away) out = labels_of key out
labels_in key (Finishes at output) out = labels_of key out

-- in its whole trace, in order
unfoldable pub labels_after : TraceStart → List CallEvent → List Label
labels_after s [] = labels_of s.arrival.key (items_added s.output.out (first_step s).output.out)
labels_after s (x ∷ earlier) = labels_after s earlier ++ labels_in s.arrival.key x (emits_by s.config x (call_after s earlier))

-- ---- the current attempt

-- the number of the last request of the caller that was in order
abbrev pub last_in : Option ℕ → CallEvent → Option ℕ
last_in last (Receives x) = last_by last x.signal
last_in last (Releases side) = last
last_in last (Restores away) = last
last_in last (Finishes at output) = last

unfoldable pub last_after : TraceStart → List CallEvent → Option ℕ
last_after s [] = first_last s
last_after s (x ∷ earlier) = last_in (last_after s earlier) x

-- the INVITEs and deadlines that are sent or armed at this event
abbrev pub attempt_events_in : TraceStart → CallEvent → Call → List AttemptEvent
attempt_events_in s x c = events_of s.config.sip s.arrival.number (emits_by s.config x c)

abbrev pub observed_in : TraceStart → ObservedAttempts → (last : Option ℕ) → CallEvent → List AttemptEvent → ObservedAttempts
observed_in s w last (Receives x) marks = observed_step s.config (opening_in s) x.now.at w last x.signal marks
observed_in s w last (Releases side) marks = w
observed_in s w last (Restores away) marks = w
observed_in s w last (Finishes at output) marks = w

unfoldable pub observed_after : TraceStart → List CallEvent → ObservedAttempts
observed_after s [] = after_events s.now.at (nothing_observed (number_of s.arrival.invite)) (events_at_start s)
observed_after s (x ∷ earlier) = observed_in s (observed_after s earlier) (last_after s earlier) x (attempt_events_in s x (call_after s earlier))

-- ---- how attempts ended, by this alone

abbrev pub ends_in : (key : TKey) → (last : Option ℕ) → ObservedAttempts → CallEvent → List EndedAttempt
ends_in key last w (Receives x) = option_to_list (option_map (ending_at x.now.at) (end_observed key last w x.signal))
ends_in key last w (Releases side) = []
ends_in key last w (Restores away) = []
ends_in key last w (Finishes at output) = []

unfoldable pub endings_observed : TraceStart → List CallEvent → List EndedAttempt
endings_observed s [] = []
endings_observed s (x ∷ earlier) = endings_observed s earlier ++ ends_in s.arrival.key (last_after s earlier) (observed_after s earlier) x

-- ---- how long it may ring

-- if the record of the account that is served at the last target, as it was when the call reached that target, has a rule for no answer
abbrev pub no_reply_after : TraceStart → List CallEvent → Option ℕ
no_reply_after s events = no_reply_time_of (last_record (call_inputs_after s events) 0 (outcome_after s events).targets)

-- ---- the session

-- when a leg is detached or put back nothing is relayed and nothing is sent; where the call ends without one no 2xx is received
abbrev pub session_in : TraceStart → CallEvent → Call → Session → Session
session_in s (Receives x) c w = session_after_step x.now.at s.arrival.number c x.signal (emits_by s.config (Receives x) c) w
session_in s (Releases side) c w = w
session_in s (Restores away) c w = w
session_in s (Finishes at output) c w = session_after_success at w None (expiries_of s.arrival.number (emits_by s.config (Finishes at output) c))

unfoldable pub session_after : TraceStart → List CallEvent → Session
session_after s [] = initial_session s.arrival.number (items_added s.output.out (first_step s).output.out)
session_after s (x ∷ earlier) = session_in s x (call_after s earlier) (session_after s earlier)

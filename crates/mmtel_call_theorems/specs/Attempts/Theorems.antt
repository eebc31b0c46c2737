-- What is claimed of every trace of a call, in the terms of SIP: what it keeps of its attempt is what was sent and received, when its deadlines are due, and which of its reliable
-- responses wait for their PRACK (TS 24.604 §4.5.2.6, RFC 3262 §3).
use Rattle.std.specs.Prelude.{◌≡◌, ◌<◌, ◌≤◌, ◌^◌, ◌+◌, ◌-◌, ℕ, if◌then◌else◌, List, [], ◌∷◌, ◌++◌, Option, Some, None}
use Rattle.mmtel_reliable.specs.Acks.{AcksView}
use Rattle.mmtel_transaction.specs.declared.words.DueWord.{DueWord}
use Rattle.mmtel_transaction.specs.declared.words.DueWord.TheVariants as due
use Rattle.mmtel_call_services.specs.Decisions.{no_reply_time_of}
use Rattle.mmtel_call.specs.AttemptLeg.{AttemptLegView}
use Rattle.mmtel_call.specs.declared.calls.Phase.{Phase}
use Rattle.mmtel_call.specs.declared.calls.Phase.TheVariants.{Detached, Established, Offered, Over}
use Rattle.mmtel_call.specs.declared.calls.OfferedAttempt.{OfferedAttempt}
use Rattle.mmtel_call_theorems.specs.Endings.{endings_after}
pub use Rattle.mmtel_call_theorems.specs.NoInjection.Emits.{Each}
use Rattle.mmtel_call_theorems.specs.Outcomes.{call_inputs_after, last_record, outcome_after}
use Rattle.mmtel_call_theorems.specs.Labels.{Accepted, HaveEmptyOutputs, Invited, Label, Refused, labels_of_targets}
use Rattle.mmtel_call_theorems.specs.CallTrace.{TraceStart, TraceStep, call_after, opening_in}
use Rattle.mmtel_call_theorems.specs.Attempts.Observed.{AttemptInProgress, Deadline, ObservedAttempts, endings_observed, observed_after, rang}

-- ---- the deadlines of an attempt

-- the longest time that it may take, in milliseconds
abbrev pub longest : ℕ
longest = 180000

-- how long it may ring, if the record of the account that is served at the last target, as it was when the call reached that target, has a rule for no answer
abbrev pub no_reply_after : TraceStart → List TraceStep → Option ℕ
no_reply_after s received = no_reply_time_of (last_record (call_inputs_after s received) 0 (outcome_after s received).targets)

abbrev pub no_reply_in : (number : ℕ) → (first : ℕ) → (time : Option ℕ) → List Deadline
no_reply_in number first None = []
no_reply_in number first (Some time) = record { what = due.NoReply number; at = first + time } ∷ []

-- the deadline of the no-reply time of the attempt of this number, if it rang: from the first moment at which it did
abbrev pub no_reply_of : (number : ℕ) → (time : Option ℕ) → (rung : Option ℕ) → List Deadline
no_reply_of number time None = []
no_reply_of number time (Some first) = no_reply_in number first time

-- the deadlines of the attempt of this number whose INVITE was sent at this moment: the longest time from then, and the no-reply time
abbrev pub deadlines_of : (number : ℕ) → (time : Option ℕ) → (since : ℕ) → (rung : Option ℕ) → List Deadline
deadlines_of number time since rung = record { what = due.Cap number; at = since + longest } ∷ no_reply_of number time rung

-- the number of a deadline
abbrev pub number_of_deadline : DueWord → ℕ
number_of_deadline (due.NoReply number) = number
number_of_deadline (due.NoPrack number) = number
number_of_deadline (due.Cap number) = number
number_of_deadline (due.NoAck number) = number
number_of_deadline (due.Expired number) = number

-- the tag of the early dialog of a target, if it has one
abbrev pub early_tag : AttemptLegView → Option (List ℕ)
early_tag callee = if callee.is_early then Some callee.leg.dialogue.remote_tag else None

-- the attempt is the current one, where the configuration has this bound on diversions, and the record of the target's account this no-reply time
pub record IsAttemptObserved (bound : ℕ) (time : Option ℕ) (relayed : AcksView) (x : OfferedAttempt) (w : ObservedAttempts) : Type 0 where
  pub observed : AttemptInProgress
  pub in_progress : w.in_progress ≡ Some observed
  -- its INVITE is the one that was sent: to that peer, which is the peer of the target's leg, with that Request-URI and that branch
  pub peer : x.attempt.invite.dialogue.peer ≡ observed.peer
  pub leg : x.callee.leg.dialogue.peer ≡ observed.peer
  pub uri : x.attempt.invite.dialogue.target ≡ observed.uri
  pub branch : x.attempt.invite.branch ≡ observed.branch
  -- the deadlines that were armed since are its own, of its number, each at its moment: the longest time from its INVITE on, and no other except the no-reply time if it rang
  pub armed : observed.armed ≡ deadlines_of x.attempt.number time observed.since observed.rang_at
  -- and each deadline that was armed before has a lower one: with a configured bound the numbers suffice
  pub few : x.attempt.number ≤ bound + 1
  pub lower : bound < 2 ^ 64 - 2 → Each (λ deadline. number_of_deadline deadline.what < x.attempt.number) w.earlier
  -- it rang if a response to that INVITE said so
  pub rang : x.attempt.rang ≡ rang observed
  -- its early dialog is that of the first response with a tag; and those reliable responses wait for their PRACK that were relayed and not acknowledged
  pub early : early_tag x.callee ≡ observed.early
  pub acks : relayed ≡ w.acks

-- none is current except while the call is offered
abbrev pub PhaseIsObserved : (bound : ℕ) → (time : Option ℕ) → AcksView → Phase → ObservedAttempts → Type 0
PhaseIsObserved bound time acks (Offered x) w = IsAttemptObserved bound time acks x w
PhaseIsObserved bound time acks (Established x stage) w = w.in_progress ≡ None
PhaseIsObserved bound time acks (Detached detached) w = w.in_progress ≡ None
PhaseIsObserved bound time acks (Over cause) w = w.in_progress ≡ None

abbrev pub AttemptsAreObserved : Type 0
AttemptsAreObserved = (s : TraceStart) (received : List TraceStep) → PhaseIsObserved s.config.bound (no_reply_after s received)
    (call_after s received).acks (call_after s received).phase (observed_after s received)

-- so how attempts ended is determined by what was sent and received alone
abbrev pub EndingsAreObserved : Type 0
EndingsAreObserved = (s : TraceStart) (received : List TraceStep) → endings_after s received ≡ endings_observed s received

-- ---- and the target is that of Outcome

-- the Request-URIs of the INVITEs that are observed, and the last of them
abbrev pub uri_in : Label → List (List ℕ)
uri_in (Invited uri) = uri ∷ []
uri_in Accepted = []
uri_in (Refused code) = []

abbrev pub uris_in : List Label → List (List ℕ)
uris_in [] = []
uris_in (sign ∷ later) = uri_in sign ++ uris_in later

abbrev pub or_old : (before found : Option (List ℕ)) → Option (List ℕ)
or_old before None = before
or_old before (Some uri) = Some uri

abbrev pub last_in : List (List ℕ) → Option (List ℕ)
last_in [] = None
last_in (uri ∷ later) = or_old (Some uri) (last_in later)

-- while the call is offered, the Request-URI of its attempt is that of the last of these
abbrev pub IsLastOf : Phase → List Label → Type 0
IsLastOf (Offered x) signs = last_in (uris_in signs) ≡ Some x.attempt.invite.dialogue.target
IsLastOf (Established x stage) signs = Unit {0}
IsLastOf (Detached detached) signs = Unit {0}
IsLastOf (Over cause) signs = Unit {0}

-- of the INVITEs to the targets to which it is offered according to Outcome
abbrev pub TargetsAreObserved : Type 0
TargetsAreObserved = (s : TraceStart) (received : List TraceStep) → HaveEmptyOutputs s received →
    IsLastOf (call_after s received).phase (labels_of_targets (opening_in s) (outcome_after s received).targets)

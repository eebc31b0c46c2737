-- What is claimed of the session of a call, in the terms of SIP: the deadline that counts is that of the last 2xx which the call relayed, a stable or reinviting call is over by
-- it, and no other deadline of a session has any effect (RFC 4028 §7.2, §10).
use Rattle.std.specs.Prelude.{◌≡◌, ◌<◌, ◌≤◌, ◌^◌, ◌+◌, ◌-◌, ℕ, Bool, true, false, if◌then◌else◌, List, [], ◌∷◌, Option, Some, None}
use Rattle.mmtel_output.specs.declared.outputs.StepOutput.{StepOutput}
use Rattle.mmtel_leg.specs.Legs.{Leg}
use Rattle.mmtel_leg.specs.declared.legs.Released.{Released}
use Rattle.mmtel_precedence.specs.Calls.{SnapshotView}
use Rattle.mmtel_session.specs.Intervals.{expiry_interval_of}
use Rattle.mmtel_transaction.specs.declared.words.DueWord.{DueWord}
use Rattle.mmtel_transaction.specs.declared.words.DueWord.TheVariants as due
use Rattle.mmtel_types.specs.declared.causes.Cause.TheVariants as causes
use Rattle.mmtel_types.specs.declared.numbers.Peer.{Peer}
use Rattle.mmtel_types.specs.declared.sides.Side.{Side}
use Rattle.mmtel_call_services.specs.CallConfig.{CallConfigView}
use Rattle.mmtel_call.specs.Closing.{StepResult, step_result}
use Rattle.mmtel_call.specs.Detaching.{call_finish, detached_in, with_leg_restored}
use Rattle.mmtel_call.specs.Table.{step}
use Rattle.mmtel_call.specs.declared.calls.Call.{Call}
use Rattle.mmtel_call.specs.declared.calls.RelayedTransaction.{RelayedTransaction}
use Rattle.mmtel_call.specs.declared.calls.EstablishedLegs.{EstablishedLegs}
use Rattle.mmtel_call.specs.declared.calls.Phase.{Phase}
use Rattle.mmtel_call.specs.declared.calls.Phase.TheVariants.{Detached, Established, Offered, Over}
use Rattle.mmtel_call.specs.declared.calls.Stage.{Stage}
use Rattle.mmtel_call.specs.declared.calls.Stage.TheVariants.{Answered, Departing, Reinviting, Stable}
use Rattle.mmtel_call.specs.declared.signals.Signal.{Signal}
use Rattle.mmtel_call.specs.declared.signals.Signal.TheVariants as signal
use Rattle.mmtel_call_theorems.specs.NoInjection.Emits.{Each}
use Rattle.mmtel_call_theorems.specs.Session.Observed.{RelayedSuccess, Session, session_after_success, byes_of, expiries_of}
use Rattle.mmtel_call_theorems.specs.Session.Observed.{is_numbered_among, session_after, session_after_step, initial_session}
use Rattle.mmtel_call_theorems.specs.Labels.{InFlightHasOtherKeys, Refused, labels_of}
use Rattle.mmtel_call_theorems.specs.CallTrace.{TraceStart, TraceStep, call_after, first_step, items_added}
use Rattle.mmtel_call_theorems.specs.Attempts.Theorems.{number_of_deadline}
use Rattle.mmtel_call_theorems.specs.Attempts.Observed.{Deadline}

-- ---- the deadline that counts

-- of the 2xx of this number, which was relayed at that moment, if it determines when its session expires
abbrev pub expiry_at : (number at : ℕ) → Option ℕ → List Deadline
expiry_at number at None = []
expiry_at number at (Some time) = record { what = due.Expired number; at = at + time } ∷ []

-- of the last one, if sessions have timers: its moment and 1,000 times its interval, which is at least 90; none if it has none that can be parsed (RFC 4028 §10)
abbrev pub expiry_due : (timer : Bool) → (count : ℕ) → Option RelayedSuccess → List Deadline
expiry_due timer count None = []
expiry_due timer count (Some last) = if timer then expiry_at count last.at (expiry_interval_of last.message.parsed.session) else []

abbrev pub number_in : Deadline → ℕ
number_in deadline = number_of_deadline deadline.what

-- what is observed of the session of this call, where sessions have timers or not
pub record IsSessionObserved (timer : Bool) (c : Call) (w : Session) : Type 0 where
  -- the number of the call is that of the last 2xx
  pub number : c.successes ≡ w.count
  pub most : w.count ≤ 2 ^ 64 - 1
  -- the deadlines that were armed in its step and since are that one
  pub armed : w.armed ≡ expiry_due timer w.count w.last
  -- and each that was armed before has no greater number, and a lower one as long as numbers are not exhausted: it has no effect any more
  pub least : Each (λ deadline. number_in deadline ≤ w.count) w.earlier
  pub lower : w.count < 2 ^ 64 - 1 → Each (λ deadline. number_in deadline < w.count) w.earlier

-- this holds as a call opens, and after each step, whatever it receives; also when a leg of it is detached or put back, and where it ends without one
pub record SessionsAreObserved : Type 0 where
  pub opens : (s : TraceStart) → IsSessionObserved s.config.timer (first_step s).call (initial_session s.arrival.number (items_added s.output.out (first_step s).output.out))
  pub steps : (config : CallConfigView) (now : SnapshotView) (received : Signal) (c : Call) (output : StepOutput) (w : Session) → IsSessionObserved config.timer c w →
      IsSessionObserved config.timer (step config now received c output).call
      (session_after_step now.at c.opening.number c received (items_added output.out (step config now received c output).output.out) w)
  pub releases : (timer : Bool) (side : Side) (c : Call) (w : Session) → IsSessionObserved timer c w → IsSessionObserved timer (detached_in c.phase side c) w
  pub restores : (timer : Bool) (away : Released) (c : Call) (w : Session) → IsSessionObserved timer c w → IsSessionObserved timer (with_leg_restored c.phase away c) w
  pub ends : (config : CallConfigView) (at : ℕ) (c : Call) (output : StepOutput) (w : Session) → IsSessionObserved config.timer c w →
      IsSessionObserved config.timer (call_finish config at c output).call
      (session_after_success at w None (expiries_of c.opening.number (items_added output.out (call_finish config at c output).output.out)))
  -- and so in every trace
  pub traces : (s : TraceStart) (received : List TraceStep) → IsSessionObserved s.config.timer (call_after s received) (session_after s received)

-- ---- the effect of a deadline

-- a call that is stable, or that waits for the final response to an INVITE of a side
abbrev pub is_refreshable_at : Stage → Bool
is_refreshable_at (Answered waiting success) = false
is_refreshable_at (Departing waiting success) = false
is_refreshable_at Stable = true
is_refreshable_at (Reinviting asking q) = true

abbrev pub is_refreshable : Phase → Bool
is_refreshable (Offered x) = false
is_refreshable (Established x stage) = is_refreshable_at stage
is_refreshable (Detached detached) = false
is_refreshable (Over cause) = false

-- the peer to which a BYE in this dialog is sent, and its Request-URI
abbrev pub bye_in : Leg → Peer × List ℕ
bye_in leg = (leg.dialogue.peer, leg.dialogue.target)

-- an INVITE of a side that has no final response is refused, if the requests in flight have server transactions of their own
abbrev pub IsRefusedIn : Stage → List RelayedTransaction → (before : StepOutput) → StepResult → Type 0
IsRefusedIn (Answered waiting success) flights before s = Unit {0}
IsRefusedIn (Departing waiting success) flights before s = Unit {0}
IsRefusedIn Stable flights before s = Unit {0}
IsRefusedIn (Reinviting asking q) flights before s = InFlightHasOtherKeys q.key flights → labels_of q.key (items_added before.out s.output.out) ≡ Refused 487 ∷ []

-- the call is over by it, with a BYE to both sides and no other BYE
pub record HasExpired (x : EstablishedLegs) (stage : Stage) (flights : List RelayedTransaction) (before : StepOutput) (s : StepResult) : Type 0 where
  pub over : s.call.phase ≡ Over causes.Ended
  pub byes : byes_of (items_added before.out s.output.out) ≡ bye_in x.caller ∷ bye_in x.callee ∷ []
  pub refused : IsRefusedIn stage flights before s

pub record SessionsExpire : Type 0 where
  -- by the deadline that has the number of the call, of a stable or reinviting call,
  pub expires : (config : CallConfigView) (now : SnapshotView) (x : EstablishedLegs) (stage : Stage) (c : Call) (output : StepOutput) →
      c.phase ≡ Established x stage → is_refreshable_at stage ≡ true →
      HasExpired x stage c.relayed output (step config now (signal.Due (due.Expired c.successes)) c output)
  -- and by no other: on any other deadline such a call is unchanged,
  pub no_other : (config : CallConfigView) (now : SnapshotView) (what : DueWord) (c : Call) (output : StepOutput) →
      is_refreshable c.phase ≡ true → (what ≡ due.Expired c.successes → ⊥) →
      step config now (signal.Due what) c output ≡ step_result c output
  -- and so is every other call on each deadline of a session: the expiry does not take effect later
  pub elsewhere : (config : CallConfigView) (now : SnapshotView) (number : ℕ) (c : Call) (output : StepOutput) → is_refreshable c.phase ≡ false →
      step config now (signal.Due (due.Expired number)) c output ≡ step_result c output

-- ---- the same in every trace, by what is observed

-- this step of the call, with this state before and this observation of its session, on the deadline of a session of this number
pub record ExpiresAsObserved (c : Call) (w : Session) (number : ℕ) (output : StepOutput) (s : StepResult) : Type 0 where
  -- that of the last 2xx ends a stable or reinviting call,
  pub counts : (x : EstablishedLegs) (stage : Stage) → is_numbered_among number w.armed ≡ true → c.phase ≡ Established x stage →
      is_refreshable_at stage ≡ true → HasExpired x stage c.relayed output s
  -- and one that was armed before has no effect
  pub superseded : is_numbered_among number w.earlier ≡ true → w.count < 2 ^ 64 - 1 → s ≡ step_result c output

abbrev pub SessionsExpireAsObserved : Type 0
SessionsExpireAsObserved = (config : CallConfigView) (now : SnapshotView) (number : ℕ) (c : Call) (w : Session) (output : StepOutput) → IsSessionObserved config.timer c w →
    ExpiresAsObserved c w number output (step config now (signal.Due (due.Expired number)) c output)

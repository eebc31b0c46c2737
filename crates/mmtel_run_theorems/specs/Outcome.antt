-- The outcome of each call of a run: the precedence of services over how its attempts ended and over the records, registrations and live calls as they were in the run when
-- it reached each target; the bound on diversions; the 181s; and its CDRs (TS 24.604 §4.5.2.6, TS 24.611 §4.5.2, TS 24.615 §4.5.5, TS 32.260 §5).
use Rattle.std.specs.Prelude.{◌≡◌, ◌≤◌, ℕ, ◌+◌, ◌&&◌, max, Bool, true, false, List, [], ◌∷◌, ◌++◌, Some, count_by, filter, is_some, length}
use Rattle.mmtel_call_services.specs.Opening.{received_history}
use Rattle.mmtel_call.specs.declared.calls.Phase.TheVariants.{Over}
use Rattle.mmtel_call.specs.declared.signals.Signal.TheVariants as signal
use Rattle.mmtel_call_theorems.specs.Charging.{running_meters}
use Rattle.mmtel_call_theorems.specs.Endings.{answer_moment}
use Rattle.mmtel_call_theorems.specs.NoInjection.Emits.{Each}
use Rattle.mmtel_call_theorems.specs.Outcomes.{received_diversions}
use Rattle.mmtel_call_theorems.specs.Labels.{Accepted, Invited, Label, Refused, is_offered, label_of_result, labels_of, labels_of_targets}
use Rattle.mmtel_call_theorems.specs.Session.Theorems.{IsSessionObserved}
use Rattle.mmtel_call_theorems.specs.CallTrace.{TraceStart, TraceStep, first_step, is_over, items_added, opening_in}
use Rattle.mmtel_call_theorems.specs.Attempts.Theorems.{PhaseIsObserved}
use Rattle.mmtel_call_theorems.specs.Notifications.DueNotifications.{notifications_due, notifications_in, own_notifications}
use Rattle.mmtel_charging.specs.declared.rows.Row.{Row}
use Rattle.mmtel_directory.specs.declared.directories.Directory.{Directory}
use Rattle.mmtel_records_in_force.specs.Texts.{Texts}
use Rattle.mmtel_message.specs.Message.{Message}
use Rattle.mmtel_message.specs.declared.messages.Start.{Start as StartLine}
use Rattle.mmtel_precedence.specs.Theorems.{diversions_made}
use Rattle.mmtel_transaction.specs.declared.words.DueWord.TheVariants as due
use Rattle.mmtel_transaction.specs.declared.words.Emit.{Emit}
use Rattle.mmtel_types.specs.declared.causes.Cause.{Cause}
use Rattle.mmtel_types.specs.declared.causes.Cause.TheVariants.{Ended}
use Rattle.mmtel_b2bua_theorems.specs.TracesOfTables.{emits_of, trace_of}
use Rattle.mmtel_b2bua_theorems.specs.Outcomes.{charges_due_after, endings_after, outcome_after, parts_after, snapshot_at_diversion}
use Rattle.mmtel_b2bua_theorems.specs.Theorems.{CallIsExact, ExpiresOn, is_charging_record_of}
use Rattle.mmtel_b2bua_theorems.specs.TracesWithTransfers.{CallEvent, CallTraceWithTransfers, Finishes, Receives, Releases, Restores, call_after, emits_by, emits_while_offered}
use Rattle.mmtel_b2bua_theorems.specs.Observed.{endings_observed, labels_after, no_reply_after, observed_after, session_after}
use Rattle.mmtel_run_definitions.specs.Calls.{call_config}
use Rattle.mmtel_run_definitions.specs.Events.{EventRecord}
use Rattle.mmtel_run_definitions.specs.Run.{IsEnough, state_after}
use Rattle.mmtel_run_definitions.specs.ShortRuns.{IsShortRun}
use Rattle.mmtel_run_definitions.specs.Transitions.{RunState}
use Rattle.mmtel_run_theorems.specs.PendingFinals.{AwaitsItsFinal, CanBeResponded}
use Rattle.mmtel_run_theorems.specs.ChargingRecords.{all_rows, is_call_row}
use Rattle.mmtel_run_theorems.specs.CallOutputs.{FinalIsSent, GoesOut}
use Rattle.mmtel_run_theorems.specs.Snapshots.{ReachedIn, SnapshotIn, inputs_of}

-- ---- what is observed of a call

-- what is observed while it is offered: INVITEs to its targets, and a final response to its caller
abbrev pub labels_of_trace : CallTraceWithTransfers → List Label
labels_of_trace trace = labels_of trace.start.arrival.key (emits_while_offered trace.start trace.events)

abbrev pub is_invited : Label → Bool
is_invited (Invited uri) = true
is_invited Accepted = false
is_invited (Refused code) = false

-- the server's own 181s to its caller, in the output of this event of it: of a signal, or as a leg of it is taken out or put back, or as it ends without one
abbrev pub notifications_by : TraceStart → CallEvent → List Emit → List (Message StartLine)
notifications_by s (Receives x) out = own_notifications s x out
notifications_by s (Releases side) out = notifications_in s.arrival.key out
notifications_by s (Restores away) out = notifications_in s.arrival.key out
notifications_by s (Finishes at output) out = notifications_in s.arrival.key out

-- all of them, in order
unfoldable pub notifications_of : TraceStart → List CallEvent → List (Message StartLine)
notifications_of s [] = notifications_in s.arrival.key (items_added s.output.out (first_step s).output.out)
notifications_of s (x ∷ earlier) = notifications_of s earlier ++ notifications_by s x (emits_by s.config x (call_after s earlier))

-- each leg of it that was taken out, for a conference, was put back by the next event of the call, or the call ended by that; where one `is_away`, it was taken
-- out by the last of these (RFC 4579 §5.6)
abbrev pub AreRestoredAtOnce : (is_away : Bool) → List CallEvent → Type 0
AreRestoredAtOnce false [] = Unit {0}
AreRestoredAtOnce false (Receives x ∷ earlier) = AreRestoredAtOnce false earlier
AreRestoredAtOnce false (Releases side ∷ earlier) = ⊥
AreRestoredAtOnce false (Restores away ∷ earlier) = AreRestoredAtOnce true earlier
AreRestoredAtOnce false (Finishes at output ∷ earlier) = AreRestoredAtOnce true earlier
AreRestoredAtOnce true [] = ⊥
AreRestoredAtOnce true (Receives x ∷ earlier) = ⊥
AreRestoredAtOnce true (Releases side ∷ earlier) = AreRestoredAtOnce false earlier
AreRestoredAtOnce true (Restores away ∷ earlier) = ⊥
AreRestoredAtOnce true (Finishes at output ∷ earlier) = ⊥

-- the CDRs of the call of this number, of those that the keeper accepted and those that wait; a CDR of a participant has the number of a conference
abbrev pub rows_of_call : RunState → (number : ℕ) → List Row
rows_of_call state number = filter (λ row. is_call_row row && is_charging_record_of number row) (all_rows state)

-- ---- the outcome of the call of a number, where its trace in the run is this

-- the statement about the bound, which a configuration sets (RFC 7044 §7)
pub record StaysWithinTheBound (directory : Directory) (trace : CallTraceWithTransfers) : Type 0 where
  -- the diversions that it came with and those that were made are together at most the bound, or the number that it came with where that is more
  pub diversions : received_diversions (opening_in trace.start) + diversions_made (outcome_after trace.start trace.events)
      ≤ max directory.bound (received_diversions (opening_in trace.start))
  -- it reaches at most one target more than the bound, and has no more INVITEs
  pub targets : length (outcome_after trace.start trace.events).targets ≤ directory.bound + 1
  pub attempts : count_by is_invited (labels_of_trace trace) ≤ directory.bound + 1

-- the statement about its CDRs
pub record IsChargedExactly (state : RunState) (number : ℕ) (trace : CallTraceWithTransfers) : Type 0 where
  -- while it has not ended it has no CDR, and the meters that began run
  pub runs : is_over (call_after trace.start trace.events).phase ≡ false →
      (running_meters (call_after trace.start trace.events) ≡ parts_after trace.start trace.events) × (rows_of_call state number ≡ [])
  -- once it has ended no meter runs, and its CDRs are those of the parts that began, in that order, each once
  pub filed : (cause : Cause) → (call_after trace.start trace.events).phase ≡ Over cause →
      (running_meters (call_after trace.start trace.events) ≡ []) × (rows_of_call state number ≡ charges_due_after trace.start trace.events cause)
  -- and where it was answered, their cause is Ended
  pub ended : (cause : Cause) → (call_after trace.start trace.events).phase ≡ Over cause → is_some (answer_moment (endings_after trace.start trace.events)) ≡ true → cause ≡ Ended

-- by its Outcome, which is a function of how its attempts ended and of the states of the run
pub record CallReachesOutcome (directory : Directory) (token : List ℕ) (loaded : Texts) (fuel : ℕ) (recorded : List EventRecord)
    (number : ℕ) (trace : CallTraceWithTransfers) : Type 0 where
  -- its state in the table, its result, what was sent for it, and what was counted of it
  pub exact : CallIsExact (call_config directory) (state_after directory token loaded fuel recorded).call_ops number trace
  -- the INVITEs to its targets, each by the diversion that led there, and its final response are those of Outcome, in order
  pub shown : labels_of_trace trace ≡ labels_of_targets (opening_in trace.start) (outcome_after trace.start trace.events).targets ++
      label_of_result (outcome_after trace.start trace.events).result
  -- and so for its whole trace: it has no other INVITE to a target and no other final response, whatever it receives once it is answered or has ended
  pub throughout : labels_after trace.start trace.events ≡ labels_of_targets (opening_in trace.start) (outcome_after trace.start trace.events).targets ++
      label_of_result (outcome_after trace.start trace.events).result
  -- the server transaction of the INVITE that opened it is live, and of the peer that sent that, as long as no final response was sent in it; so that response is sent to that peer
  pub awaited : AwaitsItsFinal (state_after directory token loaded fuel recorded) trace.start
  -- while it is offered no final response was sent in it, by itself, by another call, by a conference or by the server; so that transaction is live then, without condition
  pub replied : is_offered (call_after trace.start trace.events).phase ≡ true → CanBeResponded (state_after directory token loaded fuel recorded) trace.start
  -- whatever it outputs is sent: each request and each ACK to its peer, and each response to its transaction, which sends it to its peer where it is live
  pub sent : Each (GoesOut (state_after directory token loaded fuel recorded))
      (emits_of (call_config directory) number (state_after directory token loaded fuel recorded).call_ops)
  -- its final response to its caller, where it has one, is sent to the peer that sent that INVITE
  pub answered : Each (FinalIsSent (state_after directory token loaded fuel recorded) trace.start)
      (emits_of (call_config directory) number (state_after directory token loaded fuel recorded).call_ops)
  -- how its attempts ended is what was observed of them: what was sent, and what was received
  pub observed : endings_after trace.start trace.events ≡ endings_observed trace.start trace.events
  -- while it is offered its attempt is the current one, whose timers were armed, each for its moment, and no others, and the reliable responses that wait for their PRACK
  -- are those that were relayed and not acknowledged (RFC 3262 §3); at other times it has no current attempt
  pub watched :
      PhaseIsObserved directory.bound (no_reply_after trace.start trace.events) (call_after trace.start trace.events).acks (call_after trace.start trace.events).phase
      (observed_after trace.start trace.events)
  -- the session timer that counts was armed in the step of the last 2xx which it relayed, for the moment and with the interval of that, and no other since
  pub session : IsSessionObserved directory.timer (call_after trace.start trace.events) (session_after trace.start trace.events)
  -- and when that timer fired it ended, where it was stable or in a re-INVITE, and by none that was armed before (RFC 4028 §10)
  pub expires : (later earlier : List CallEvent) (x : TraceStep) (number : ℕ) → trace.events ≡ later ++ Receives x ∷ earlier → x.signal ≡ signal.Due (due.Expired number) →
      ExpiresOn trace.start earlier x number
  -- it received signals, and no leg of it is detached: one that was taken out was put back by the next operation, or the call ended
  pub restored : AreRestoredAtOnce false trace.events
  -- the server's own 181s to its caller are those of the diversions that its Outcome contains, in order (TS 24.604 §4.5.2.6)
  pub notified : notifications_of trace.start trace.events
      ≡ notifications_due (call_config directory) (opening_in trace.start) (received_history trace.start.arrival.invite) (outcome_after trace.start trace.events).targets
  pub bounded : StaysWithinTheBound directory trace
  pub charged : IsChargedExactly (state_after directory token loaded fuel recorded) number trace
  -- the state was that of the run in the operation by which it opened,
  pub opened : SnapshotIn (inputs_of directory token loaded) fuel recorded number (record { start = trace.start; events = [] }) trace.start.arrival.served.origin trace.start.now
  -- and in the one by which it reached the target of its next diversion after k others
  pub reached : (k : ℕ) → ReachedIn (inputs_of directory token loaded) fuel recorded number trace k (snapshot_at_diversion trace.start trace.events k)

-- ---- of a run

-- this holds for each of its calls
abbrev pub AllCallsReachOutcome : Directory → (token : List ℕ) → (loaded : Texts) → List EventRecord → Type 0
AllCallsReachOutcome directory token loaded recorded =
    (fuel : ℕ) (number : ℕ) (trace : CallTraceWithTransfers) → IsEnough directory token loaded fuel recorded →
    trace_of (call_config directory) number (state_after directory token loaded fuel recorded).call_ops ≡ Some trace →
    CallReachesOutcome directory token loaded fuel recorded number trace

-- of every run within the range of the counters
abbrev pub CallsOfRunsReachOutcome : Type 0
CallsOfRunsReachOutcome = (directory : Directory) (token : List ℕ) (loaded : Texts) (recorded : List EventRecord) → IsShortRun directory token loaded recorded →
    AllCallsReachOutcome directory token loaded recorded

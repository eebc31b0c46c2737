-- What is claimed of every table of calls, in the terms of SIP.
use Rattle.std.specs.Prelude.{◌++◌, ◌≡◌, ◌+◌, ◌==◌, ℕ, Bool, false, true, List, [], ◌∷◌, Some, None, filter, find, is_some}
use Rattle.mmtel_charging.specs.declared.rows.Row.{Row}
use Rattle.mmtel_precedence.specs.Theorems.{diversions_made}
use Rattle.mmtel_transaction.specs.declared.words.DueWord.TheVariants as due
use Rattle.mmtel_types.specs.declared.causes.Cause.{Cause}
use Rattle.mmtel_types.specs.declared.causes.Cause.TheVariants.{Ended}
use Rattle.mmtel_call_services.specs.CallConfig.{CallConfigView}
use Rattle.mmtel_call.specs.Table.{step}
use Rattle.mmtel_call.specs.declared.calls.Phase.TheVariants.{Over}
use Rattle.mmtel_call.specs.declared.signals.Signal.TheVariants as signal
use Rattle.mmtel_call_theorems.specs.Charging.{running_meters}
use Rattle.mmtel_call_theorems.specs.Endings.{answer_moment}
use Rattle.mmtel_call_theorems.specs.Outcomes.{initially_remaining, result_of}
use Rattle.mmtel_call_theorems.specs.Session.Theorems.{ExpiresAsObserved, IsSessionObserved}
use Rattle.mmtel_call_theorems.specs.Labels.{label_of_result, labels_of, labels_of_targets}
use Rattle.mmtel_call_theorems.specs.CallTrace.{TraceStart, TraceStep, is_over, opening_in}
use Rattle.mmtel_call_theorems.specs.Attempts.Theorems.{PhaseIsObserved}
use Rattle.mmtel_b2bua.specs.Entries.{is_numbered}
use Rattle.mmtel_b2bua.specs.Operations.{TableOp, table_after}
use Rattle.mmtel_b2bua_theorems.specs.TracesOfTables.{ArePutBack, HasNumbers, HaveOwnKeys, all_charging_records as rows_of_all}
use Rattle.mmtel_b2bua_theorems.specs.TracesOfTables.{call_of, emits_of, entry_in, out_by, records_handed_after, trace_of}
use Rattle.mmtel_b2bua_theorems.specs.TracesOfTables.{charging_records_of, op_charging_records}
use Rattle.mmtel_b2bua_theorems.specs.Outcomes.{AreFitting, EventsHaveOtherKeys, HaveEmptyOutputs, charges_due_after, endings_after, outcome_after, parts_after}
use Rattle.mmtel_b2bua_theorems.specs.TracesWithTransfers.{CallEvent, CallTraceWithTransfers, Receives, call_after, charging_records_after, emits_after, emits_while_offered}
use Rattle.mmtel_b2bua_theorems.specs.Observed.{endings_observed, labels_after, no_reply_after, observed_after, session_after}

-- ---- the trace of a call, with detached legs

-- the result so far is that of Outcome
abbrev pub TracesReachTheirOutcome : Type 0
TracesReachTheirOutcome = (s : TraceStart) (events : List CallEvent) → result_of (call_after s events) ≡ (outcome_after s events).result

-- while it is offered the targets get the INVITEs that Outcome gives, in order, and then the caller gets one final response, by the result
abbrev pub TracesShowTheirOutcome : Type 0
TracesShowTheirOutcome = (s : TraceStart) (events : List CallEvent) → EventsHaveOtherKeys s.arrival.key events → HaveEmptyOutputs s events →
    labels_of s.arrival.key (emits_while_offered s events) ≡ labels_of_targets (opening_in s) (outcome_after s events).targets ++ label_of_result (outcome_after s events).result

-- and in its whole trace the targets get these INVITEs and no other, and the caller that final response and no other, whatever the call receives later
abbrev pub TracesShowThroughout : Type 0
TracesShowThroughout = (s : TraceStart) (events : List CallEvent) → EventsHaveOtherKeys s.arrival.key events → HaveEmptyOutputs s events →
    labels_after s events ≡ labels_of_targets (opening_in s) (outcome_after s events).targets ++ label_of_result (outcome_after s events).result

-- how its attempts ended is determined by what was sent and received alone
abbrev pub TraceEndingsAreObserved : Type 0
TraceEndingsAreObserved = (s : TraceStart) (events : List CallEvent) → endings_after s events ≡ endings_observed s events

-- while it is offered its attempt is the current one, with its deadlines, each at its moment, and with the reliable responses that wait for their PRACK; otherwise none is current
abbrev pub TraceAttemptsAreObserved : Type 0
TraceAttemptsAreObserved = (s : TraceStart) (events : List CallEvent) →
    PhaseIsObserved s.config.bound (no_reply_after s events) (call_after s events).acks (call_after s events).phase (observed_after s events)

-- the deadline of its session that counts is that of the last 2xx which it relayed
abbrev pub TracesKeepTheirSession : Type 0
TracesKeepTheirSession = (s : TraceStart) (events : List CallEvent) → IsSessionObserved s.config.timer (call_after s events) (session_after s events)

-- by that deadline a stable or reinviting call is over, and by none that was armed before
abbrev pub ExpiresOn : TraceStart → (earlier : List CallEvent) → (x : TraceStep) → (number : ℕ) → Type 0
ExpiresOn s earlier x number =
    ExpiresAsObserved (call_after s earlier) (session_after s earlier) number x.output (step s.config x.now x.signal (call_after s earlier) x.output)

abbrev pub TracesExpireAsObserved : Type 0
TracesExpireAsObserved = (s : TraceStart) (earlier : List CallEvent) (x : TraceStep) (number : ℕ) → x.signal ≡ signal.Due (due.Expired number) → ExpiresOn s earlier x number

-- as many diversions are left as the bound leaves after those that the call came with and those that were made
abbrev pub TraceDiversionsAreCounted : Type 0
TraceDiversionsAreCounted = (s : TraceStart) (events : List CallEvent) →
    (call_after s events).diversions.remaining + diversions_made (outcome_after s events) ≡ initially_remaining s

-- for a trace in which each leg that is put back is of the side that is detached
pub record TracesAreCharged : Type 0 where
  -- it was answered when an attempt was
  pub answered : (s : TraceStart) (events : List CallEvent) → (call_after s events).answered ≡ answer_moment (endings_after s events)
  -- while it is not over no CDR is filed, and the parts that began run
  pub runs : (s : TraceStart) (events : List CallEvent) → AreFitting s events → is_over (call_after s events).phase ≡ false →
      (running_meters (call_after s events) ≡ parts_after s events) × (charging_records_after s events ≡ [])
  -- once it is over no part runs, and for each part that began a CDR was filed, in the order begun
  pub filed : (s : TraceStart) (events : List CallEvent) (cause : Cause) → AreFitting s events → (call_after s events).phase ≡ Over cause →
      (running_meters (call_after s events) ≡ []) × (charging_records_after s events ≡ charges_due_after s events cause)
  -- and if an attempt was answered, with this cause alone
  pub ended : (s : TraceStart) (events : List CallEvent) (cause : Cause) → (call_after s events).phase ≡ Over cause → is_some (answer_moment (endings_after s events)) ≡ true →
      cause ≡ Ended

-- ---- a table

-- each call takes exactly the steps of its own signals: it is in the table as its trace determines, until nothing more may be received for it
abbrev pub CallsTakeTheirSteps : Type 0
CallsTakeTheirSteps = (config : CallConfigView) (ops : List TableOp) (number : ℕ) → HasNumbers config ops →
    find (is_numbered number) (table_after config ops).entries ≡ entry_in (trace_of config number ops)

-- the outputs of its operations are those of its trace
pub record OutputsAreOfTheTrace (config : CallConfigView) (ops : List TableOp) (number : ℕ) (trace : CallTraceWithTransfers) : Type 0 where
  pub opening : (trace.start.config ≡ config) × (trace.start.arrival.number.0 ≡ number)
  pub outputs : HaveEmptyOutputs trace.start trace.events
  pub emits : emits_of config number ops ≡ emits_after trace.start trace.events
  pub rows : charging_records_of config number ops ≡ charging_records_after trace.start trace.events

abbrev pub CallOutputsAreOfTheTrace : Type 0
CallOutputsAreOfTheTrace = (config : CallConfigView) (ops : List TableOp) (number : ℕ) (trace : CallTraceWithTransfers) →
    HasNumbers config ops → trace_of config number ops ≡ Some trace →
    OutputsAreOfTheTrace config ops number trace

-- an operation that belongs to no call has no output
abbrev pub OtherOperationsOutputNothing : Type 0
OtherOperationsOutputNothing = (config : CallConfigView) (op : TableOp) (earlier : List TableOp) → call_of config op (table_after config earlier) ≡ None →
    (out_by config op (table_after config earlier) ≡ []) × (op_charging_records config op (table_after config earlier) ≡ [])

-- the CDRs that were handed over and those that wait are all that were filed, in the order of the operations
abbrev pub ChargingRecordsAreInOrder : Type 0
ChargingRecordsAreInOrder = (config : CallConfigView) (ops : List TableOp) → records_handed_after config ops ++ (table_after config ops).rows ≡ rows_of_all config ops

-- a CDR of the call of this number
abbrev pub is_charging_record_of : (number : ℕ) → Row → Bool
is_charging_record_of number row = row.call.0 == number

-- among all CDRs those of a call are the CDRs of its operations
abbrev pub ChargingRecordsAreOfCalls : Type 0
ChargingRecordsAreOfCalls = (config : CallConfigView) (ops : List TableOp) (number : ℕ) → HasNumbers config ops → ArePutBack config ops →
    filter (is_charging_record_of number) (rows_of_all config ops) ≡ charging_records_of config number ops

-- ---- a call of a table

-- in the form of clauses for a contract over a table: the result of the call of a number, what its operations send, and its CDRs
pub record CallIsExact (config : CallConfigView) (ops : List TableOp) (number : ℕ) (trace : CallTraceWithTransfers) : Type 0 where
  pub in_table : find (is_numbered number) (table_after config ops).entries ≡ entry_in (Some trace)
  pub result : result_of (call_after trace.start trace.events) ≡ (outcome_after trace.start trace.events).result
  pub emits : emits_of config number ops ≡ emits_after trace.start trace.events
  pub shown : HaveOwnKeys ops →
      labels_of trace.start.arrival.key (emits_while_offered trace.start trace.events)
      ≡ labels_of_targets (opening_in trace.start) (outcome_after trace.start trace.events).targets ++ label_of_result (outcome_after trace.start trace.events).result
  pub throughout : HaveOwnKeys ops →
      labels_after trace.start trace.events
      ≡ labels_of_targets (opening_in trace.start) (outcome_after trace.start trace.events).targets ++ label_of_result (outcome_after trace.start trace.events).result
  pub observed : endings_after trace.start trace.events ≡ endings_observed trace.start trace.events
  pub watched :
      PhaseIsObserved config.bound (no_reply_after trace.start trace.events) (call_after trace.start trace.events).acks (call_after trace.start trace.events).phase
      (observed_after trace.start trace.events)
  pub session : IsSessionObserved config.timer (call_after trace.start trace.events) (session_after trace.start trace.events)
  pub expires : (later earlier : List CallEvent) (x : TraceStep) (number : ℕ) → trace.events ≡ later ++ Receives x ∷ earlier → x.signal ≡ signal.Due (due.Expired number) →
      ExpiresOn trace.start earlier x number
  pub counted : (call_after trace.start trace.events).diversions.remaining + diversions_made (outcome_after trace.start trace.events) ≡ initially_remaining trace.start
  pub answered : (call_after trace.start trace.events).answered ≡ answer_moment (endings_after trace.start trace.events)
  pub runs : ArePutBack config ops → is_over (call_after trace.start trace.events).phase ≡ false →
      (running_meters (call_after trace.start trace.events) ≡ parts_after trace.start trace.events) × (charging_records_of config number ops ≡ [])
  pub filed : (cause : Cause) → ArePutBack config ops → (call_after trace.start trace.events).phase ≡ Over cause →
      (running_meters (call_after trace.start trace.events) ≡ []) × (charging_records_of config number ops ≡ charges_due_after trace.start trace.events cause)
  pub ended : (cause : Cause) → (call_after trace.start trace.events).phase ≡ Over cause → is_some (answer_moment (endings_after trace.start trace.events)) ≡ true → cause ≡ Ended

abbrev pub CallsOfTablesAreExact : Type 0
CallsOfTablesAreExact = (config : CallConfigView) (ops : List TableOp) (number : ℕ) (trace : CallTraceWithTransfers) →
    HasNumbers config ops → trace_of config number ops ≡ Some trace →
    CallIsExact config ops number trace

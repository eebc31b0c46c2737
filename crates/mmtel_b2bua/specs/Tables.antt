-- The table of calls: a signal belongs to one call, which takes its step; an INVITE opens a call.
use Rattle.std.specs.Prelude.{ℕ, nat_le, Bool, true, false, if◌then◌else◌, Option, Some, None, List, [], ◌∷◌, ◌++◌, count_by, option_to_list, position, remove, slice_get}
use Rattle.std.specs.Prelude.{slice_set}
use Rattle.mmtel_compose.specs.ReceivedMessages.{MessageView}
use Rattle.mmtel_output.specs.ResponseMatching.{awaited_request_branch, timed_out_branch}
use Rattle.mmtel_call_services.specs.CallConfig.{CallConfigView, calls_among}
use Rattle.mmtel_call_services.specs.declared.openings.Arrival.{Arrival}
use Rattle.mmtel_call.specs.Closing.{StepResult}
use Rattle.mmtel_call.specs.Opening.{call_after_opening}
use Rattle.mmtel_call.specs.Requests.{is_invite}
use Rattle.mmtel_call.specs.Settled.{is_settled}
use Rattle.mmtel_call.specs.Table.{step}
use Rattle.mmtel_call.specs.declared.signals.Signal as calls
use Rattle.mmtel_call.specs.declared.signals.Signal.TheVariants as of_call
use Rattle.mmtel_charging.specs.declared.rows.Row.{Row}
use Rattle.mmtel_output.specs.declared.outputs.StepOutput.{StepOutput}
use Rattle.mmtel_precedence.specs.Calls.{SnapshotView}
use Rattle.mmtel_base.specs.Numbers.{next_number}
use Rattle.mmtel_sheet_values.specs.View.{SheetsInForce, registration_end_in, sheet_in}
use Rattle.mmtel_transaction.specs.declared.words.TKey.{TKey}
use Rattle.mmtel_types.specs.declared.numbers.Account.{Account}
use Rattle.mmtel_types.specs.declared.sides.Side.{Side}
use Rattle.mmtel_types.specs.declared.sides.Side.TheVariants.{Caller}
use Rattle.mmtel_b2bua.specs.Entries.{busy_beside, has_received_key, has_sent_branch, is_live, is_numbered, kept_entry}
use Rattle.mmtel_b2bua.specs.declared.entries.Entry.{Entry}
use Rattle.mmtel_b2bua.specs.declared.entries.InviteKey.{InviteKey}
use Rattle.mmtel_b2bua.specs.declared.signals.Signal.{Signal}
use Rattle.mmtel_b2bua.specs.declared.signals.Signal.TheVariants as signal

pub record Table : Type 0 where
  -- the calls for which something may still be received, in the order in which they were opened
  pub entries : List Entry
  -- the number of the call that was opened last
  pub opened : ℕ
  -- the CDRs that were closed and not yet handed over
  pub rows : List Row

abbrev pub no_calls : Table
no_calls = record { entries = []; opened = 0; rows = [] }

-- ---- the current state

-- at a moment, for a call that keeps these accounts busy beside the others: the records in force, the registrations, and the accounts that the calls keep busy
abbrev pub snapshot_at : (at : ℕ) → SheetsInForce → (busy : List Account) → SnapshotView
snapshot_at at view busy = record { at = at; sheets = sheet_in view; registration_ends = registration_end_in view; live = calls_among busy }

-- ---- a signal of a call

-- the calls after a signal, and the output of the step
pub record TableStep : Type 0 where
  pub entries : List Entry
  pub output : StepOutput

abbrev pub unchanged_step : List Entry → StepOutput → TableStep
unchanged_step es output = record { entries = es; output = output }

-- the call and the output after the step of a call
unfoldable pub call_step : CallConfigView → (at : ℕ) → SheetsInForce → (busy : List Account) → calls.Signal → StepOutput → Entry → StepResult
call_step config at view busy received output e = step config (snapshot_at at view busy) received e.call output

abbrev pub entry_after : (invites : List InviteKey) → StepResult → Entry → Entry
entry_after invites s e = record { call = s.call; invites = e.invites ++ invites }

-- the call at this index is replaced by this one, and leaves the table once nothing more may be received for it
abbrev pub put_at : (place : ℕ) → Entry → List Entry → List Entry
put_at place e es = if is_settled e.call then remove (slice_set es place e) place else slice_set es place e

abbrev pub step_of_entry : (place : ℕ) → (invites : List InviteKey) → Entry → StepResult → List Entry → TableStep
step_of_entry place invites e s es = record { entries = put_at place (entry_after invites s e) es; output = s.output }

-- the call at this index takes the step, and gets these INVITEs in addition
abbrev pub step_of_entry_at : CallConfigView → (at : ℕ) → SheetsInForce → calls.Signal → (invites : List InviteKey) → (place : ℕ) →
    Option Entry → List Entry → StepOutput → TableStep
step_of_entry_at config at view received invites place None es output = unchanged_step es output
step_of_entry_at config at view received invites place (Some e) es output =
    step_of_entry place invites e (call_step config at view (busy_beside e.call.opening.number.0 es) received output e) es

abbrev pub step_in : CallConfigView → (at : ℕ) → SheetsInForce → calls.Signal → (invites : List InviteKey) → Option ℕ → List Entry → StepOutput → TableStep
step_in config at view received invites None es output = unchanged_step es output
step_in config at view received invites (Some place) es output = step_of_entry_at config at view received invites place (slice_get es place) es output

-- the first call that satisfies the predicate takes it, if there is one
abbrev pub step_of_receiver : CallConfigView → (at : ℕ) → SheetsInForce → (whose : Entry → Bool) → calls.Signal → (invites : List InviteKey) → List Entry → StepOutput → TableStep
step_of_receiver config at view whose s invites es output = step_in config at view s invites (position whose es) es output

-- ---- an INVITE that opens a call

-- the accounts that the calls keep busy, where this one is opened
abbrev pub busy_with : Arrival → List Entry → List Account
busy_with a es = option_to_list a.served.origin ++ busy_beside a.number.0 es

unfoldable pub opening_step : CallConfigView → (at : ℕ) → SheetsInForce → (busy : List Account) → Arrival → StepOutput → StepResult
opening_step config at view busy a output = call_after_opening config (snapshot_at at view busy) a output

-- the caller's INVITE is the first of the call
abbrev pub entry_for : TKey → StepResult → Entry
entry_for key s = record { call = s.call; invites = record { key = key; side = Caller } ∷ [] }

abbrev pub step_of_opened : TKey → StepResult → List Entry → TableStep
step_of_opened key s es = record { entries = es ++ kept_entry (entry_for key s); output = s.output }

abbrev pub step_of_arrival : CallConfigView → (at : ℕ) → SheetsInForce → Arrival → List Entry → StepOutput → TableStep
step_of_arrival config at view a es output = step_of_opened a.key (opening_step config at view (busy_with a es) a output) es

-- ---- any signal

-- the server transaction of a request, if the request is an INVITE
abbrev pub invites_by : Side → TKey → MessageView → List InviteKey
invites_by side key m = if is_invite m then record { key = key; side = side } ∷ [] else []

-- where a call that is opened gets this number
unfoldable pub step_of_signal : CallConfigView → (at : ℕ) → SheetsInForce → (number : ℕ) → Signal → List Entry → StepOutput → TableStep
step_of_signal config at view number (signal.Arrived key invite served registration identities) es output =
    step_of_arrival config at view
    (record { number = record { 0 = number }; key = key; invite = invite; served = served; registration = registration; identities = identities }) es output
step_of_signal config at view number (signal.Request call side key request) es output =
    step_of_receiver config at view (is_numbered call.0) (of_call.Request side key request) (invites_by side key request) es output
step_of_signal config at view number (signal.Ack call side ack) es output = step_of_receiver config at view (is_numbered call.0) (of_call.Ack side ack) [] es output
step_of_signal config at view number (signal.Cancel call key cancel invite) es output =
    step_of_receiver config at view (is_numbered call.0) (of_call.Cancel key cancel invite) [] es output
step_of_signal config at view number (signal.Answer key response) es output =
    step_of_receiver config at view (has_sent_branch (awaited_request_branch response)) (of_call.Answer key response) [] es output
step_of_signal config at view number (signal.Silent branch method) es output =
    step_of_receiver config at view (has_sent_branch (timed_out_branch branch method)) (of_call.Silent branch method) [] es output
step_of_signal config at view number (signal.Due call what) es output = step_of_receiver config at view (is_numbered call.0) (of_call.Due what) [] es output
step_of_signal config at view number (signal.Over key) es output = step_of_receiver config at view (has_received_key key) (of_call.Ended key) [] es output

abbrev pub is_opening : Signal → Bool
is_opening (signal.Arrived key invite served registration identities) = true
is_opening (signal.Request call side key request) = false
is_opening (signal.Ack call side ack) = false
is_opening (signal.Cancel call key cancel invite) = false
is_opening (signal.Answer key response) = false
is_opening (signal.Silent branch method) = false
is_opening (signal.Due call what) = false
is_opening (signal.Over key) = false

-- the number of the last call, after a signal
abbrev pub opened_after : Signal → ℕ → ℕ
opened_after s n = if is_opening s then next_number n else n

-- the table after such a step: the CDRs that were closed are added to those that wait
abbrev pub with_step : TableStep → (opened : ℕ) → Table → Table
with_step moved opened table = record { entries = moved.entries; opened = opened; rows = table.rows ++ moved.output.rows }

-- ---- too many calls

-- this many may be live at once
abbrev pub most_calls : ℕ
most_calls = 4096

-- an INVITE would open one more
abbrev pub is_full : Signal → List Entry → Bool
is_full s es = if is_opening s then nat_le most_calls (count_by is_live es) else false

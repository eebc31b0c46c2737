-- Of the records and registrations calls depend only on what is recorded for each account, however it is stored.
use Rattle.std.proofs.Common.{◌≡◌, ℕ, List, [], refl, ap, ◌∙◌, Option, Some, None}
use Rattle.std.specs.Prelude.{Bool, position, slice_get}
use Rattle.mmtel_b2bua.specs.Entries.{busy_beside, has_received_key, has_sent_branch, is_numbered}
use Rattle.mmtel_b2bua.specs.Tables.{busy_with, call_step, invites_by, opening_step, snapshot_at, step_in, step_of_arrival, step_of_entry, step_of_entry_at, step_of_opened, step_of_receiver, step_of_signal}
use Rattle.mmtel_b2bua.specs.declared.entries.Entry.{Entry}
use Rattle.mmtel_b2bua.specs.declared.entries.InviteKey.{InviteKey}
use Rattle.mmtel_b2bua.specs.declared.signals.Signal.{Signal}
use Rattle.mmtel_b2bua.specs.declared.signals.Signal.TheVariants as signal
use Rattle.mmtel_output.specs.ResponseMatching.{awaited_request_branch, timed_out_branch}
use Rattle.mmtel_call_services.specs.CallConfig.{CallConfigView, calls_among}
use Rattle.mmtel_call_services.specs.declared.openings.Arrival.{Arrival}
use Rattle.mmtel_call.specs.Closing.{StepResult}
use Rattle.mmtel_call.specs.Opening.{call_after_opening}
use Rattle.mmtel_call.specs.Table.{step}
use Rattle.mmtel_call.specs.declared.signals.Signal as calls
use Rattle.mmtel_call.specs.declared.signals.Signal.TheVariants as of_call
use Rattle.mmtel_output.specs.declared.outputs.StepOutput.{StepOutput}
use Rattle.mmtel_precedence.specs.Calls.{SnapshotView}
use Rattle.mmtel_sheet_values.specs.View.{SheetsInForce, registration_end_in, sheet_in}
use Rattle.mmtel_sheet_values.specs.declared.values.Sheet.{Sheet}
use Rattle.mmtel_types.specs.declared.numbers.Account.{Account}
use Rattle.mmtel_run_definitions.specs.InForce.{CallsSeeRecordsAlone, HaveSameRecords}

module _ (config : CallConfigView) (at : ℕ) (one other : SheetsInForce) (same : HaveSameRecords one other) where
  -- functions that are equal everywhere are equal
  sheets : sheet_in one ≡ sheet_in other
  sheets = λ i account. same.sheets account i

  ends : registration_end_in one ≡ registration_end_in other
  ends = λ i account. same.ends account i

  snapshot_at_same : (busy : List Account) → snapshot_at at one busy ≡ snapshot_at at other busy
  snapshot_at_same busy =
      ap (λ (f : ℕ → Option Sheet). record { at = at; sheets = f; registration_ends = registration_end_in one; live = calls_among busy }) sheets
      ∙ ap (λ (f : ℕ → Option ℕ). record { at = at; sheets = sheet_in other; registration_ends = f; live = calls_among busy }) ends

  step_same : (busy : List Account) (x : calls.Signal) (output : StepOutput) (e : Entry) → call_step config at one busy x output e ≡ call_step config at other busy x output e
  unfolding call_step
  step_same busy x output e = ap (λ (now : SnapshotView). step config now x e.call output) (snapshot_at_same busy)

  open_same : (busy : List Account) (a : Arrival) (output : StepOutput) → opening_step config at one busy a output ≡ opening_step config at other busy a output
  unfolding opening_step
  open_same busy a output = ap (λ (now : SnapshotView). call_after_opening config now a output) (snapshot_at_same busy)

  at_same : (x : calls.Signal) (invites : List InviteKey) (place : ℕ) (o : Option Entry) (es : List Entry) (output : StepOutput) →
      step_of_entry_at config at one x invites place o es output ≡ step_of_entry_at config at other x invites place o es output
  at_same x invites place None es output = refl
  at_same x invites place (Some e) es output = ap (λ (s : StepResult). step_of_entry place invites e s es) (step_same (busy_beside e.call.opening.number.0 es) x output e)

  in_same : (x : calls.Signal) (invites : List InviteKey) (o : Option ℕ) (es : List Entry) (output : StepOutput) → step_in config at one x invites o es output ≡ step_in config at other x invites o es output
  in_same x invites None es output = refl
  in_same x invites (Some place) es output = at_same x invites place (slice_get es place) es output

  step_of_receiver_same : (whose : Entry → Bool) (x : calls.Signal) (invites : List InviteKey) (es : List Entry) (output : StepOutput) →
      step_of_receiver config at one whose x invites es output ≡ step_of_receiver config at other whose x invites es output
  step_of_receiver_same whose x invites es output = in_same x invites (position whose es) es output

  step_of_arrival_same : (a : Arrival) (es : List Entry) (output : StepOutput) → step_of_arrival config at one a es output ≡ step_of_arrival config at other a es output
  step_of_arrival_same a es output = ap (λ (s : StepResult). step_of_opened a.key s es) (open_same (busy_with a es) a output)

  step_of_signal_same : (number : ℕ) (x : Signal) (es : List Entry) (output : StepOutput) → step_of_signal config at one number x es output ≡ step_of_signal config at other number x es output
  unfolding step_of_signal
  step_of_signal_same number (signal.Arrived key invite served registration identities) es output =
      step_of_arrival_same (record { number = record { 0 = number }; key = key; invite = invite; served = served; registration = registration; identities = identities }) es output
  step_of_signal_same number (signal.Request call side key request) es output = step_of_receiver_same (is_numbered call.0) (of_call.Request side key request) (invites_by side key request) es output
  step_of_signal_same number (signal.Ack call side ack) es output = step_of_receiver_same (is_numbered call.0) (of_call.Ack side ack) [] es output
  step_of_signal_same number (signal.Cancel call key cancel invite) es output = step_of_receiver_same (is_numbered call.0) (of_call.Cancel key cancel invite) [] es output
  step_of_signal_same number (signal.Answer key response) es output = step_of_receiver_same (has_sent_branch (awaited_request_branch response)) (of_call.Answer key response) [] es output
  step_of_signal_same number (signal.Silent branch method) es output = step_of_receiver_same (has_sent_branch (timed_out_branch branch method)) (of_call.Silent branch method) [] es output
  step_of_signal_same number (signal.Due call what) es output = step_of_receiver_same (is_numbered call.0) (of_call.Due what) [] es output
  step_of_signal_same number (signal.Over key) es output = step_of_receiver_same (has_received_key key) (of_call.Ended key) [] es output

pub seen_alone : CallsSeeRecordsAlone
seen_alone config at number one other x es output same = step_of_signal_same config at one other same number x es output

-- A signal split into the index of the call to which it belongs, the INVITE that this call gets in addition, and the signal for that call.
use Rattle.std.specs.Prelude.{ℕ, Option, None, List, [], position}
use Rattle.mmtel_call_services.specs.CallConfig.{CallConfigView}
use Rattle.mmtel_call.specs.declared.signals.Signal.TheVariants as of_call
use Rattle.mmtel_output.specs.ResponseMatching.{awaited_request_branch, timed_out_branch}
use Rattle.mmtel_output.specs.declared.outputs.StepOutput.{StepOutput}
use Rattle.mmtel_sheet_values.specs.View.{SheetsInForce}
use Rattle.mmtel_b2bua.specs.Entries.{has_received_key, has_sent_branch, is_numbered}
use Rattle.mmtel_b2bua.specs.Tables.{TableStep, invites_by, step_in, step_of_arrival}
use Rattle.mmtel_b2bua.specs.declared.entries.Entry.{Entry}
use Rattle.mmtel_b2bua.specs.declared.entries.InviteKey.{InviteKey}
use Rattle.mmtel_b2bua.specs.declared.dispatch.Dispatch.{Dispatch}
use Rattle.mmtel_b2bua.specs.declared.dispatch.Dispatch.TheVariants.{Opens, Receives}
use Rattle.mmtel_b2bua.specs.declared.signals.Signal.{Signal}
use Rattle.mmtel_b2bua.specs.declared.signals.Signal.TheVariants as signal

-- the index of the call to which it belongs
abbrev pub place_of : Signal → List Entry → Option ℕ
place_of (signal.Arrived key invite served registration identities) es = None
place_of (signal.Request call side key request) es = position (is_numbered call.0) es
place_of (signal.Ack call side ack) es = position (is_numbered call.0) es
place_of (signal.Cancel call key cancel invite) es = position (is_numbered call.0) es
place_of (signal.Answer key response) es = position (has_sent_branch (awaited_request_branch response)) es
place_of (signal.Silent branch method) es = position (has_sent_branch (timed_out_branch branch method)) es
place_of (signal.Due call what) es = position (is_numbered call.0) es
place_of (signal.Over key) es = position (has_received_key key) es

-- the INVITE that the call gets in addition
abbrev pub invites_of : Signal → List InviteKey
invites_of (signal.Arrived key invite served registration identities) = []
invites_of (signal.Request call side key request) = invites_by side key request
invites_of (signal.Ack call side ack) = []
invites_of (signal.Cancel call key cancel invite) = []
invites_of (signal.Answer key response) = []
invites_of (signal.Silent branch method) = []
invites_of (signal.Due call what) = []
invites_of (signal.Over key) = []

-- the signal that the call receives; or what opens a call, with this number
abbrev pub dispatch_of : (number : ℕ) → Signal → Dispatch
dispatch_of number (signal.Arrived key invite served registration identities) =
    Opens (record { number = record { 0 = number }; key = key; invite = invite; served = served; registration = registration; identities = identities })
dispatch_of number (signal.Request call side key request) = Receives (of_call.Request side key request)
dispatch_of number (signal.Ack call side ack) = Receives (of_call.Ack side ack)
dispatch_of number (signal.Cancel call key cancel invite) = Receives (of_call.Cancel key cancel invite)
dispatch_of number (signal.Answer key response) = Receives (of_call.Answer key response)
dispatch_of number (signal.Silent branch method) = Receives (of_call.Silent branch method)
dispatch_of number (signal.Due call what) = Receives (of_call.Due what)
dispatch_of number (signal.Over key) = Receives (of_call.Ended key)

-- the calls and the output after a signal that is split in this way
abbrev pub step_of_dispatch : CallConfigView → (at : ℕ) → SheetsInForce → Dispatch → (invites : List InviteKey) → Option ℕ → List Entry → StepOutput → TableStep
step_of_dispatch config at view (Opens arrival) invites place es output = step_of_arrival config at view arrival es output
step_of_dispatch config at view (Receives received) invites place es output = step_in config at view received invites place es output

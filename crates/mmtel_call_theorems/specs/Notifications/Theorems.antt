-- What is claimed of every trace of a call, in the terms of SIP.
use Rattle.std.specs.Prelude.{◌≡◌, ℕ, false, List, []}
use Rattle.mmtel_output.specs.declared.outputs.StepOutput.{StepOutput}
use Rattle.mmtel_precedence.specs.Calls.{SnapshotView}
use Rattle.mmtel_transaction.specs.declared.words.TKey.{TKey}
use Rattle.mmtel_call_services.specs.Opening.{received_history}
use Rattle.mmtel_call_services.specs.CallConfig.{CallConfigView}
use Rattle.mmtel_call.specs.Detaching.{call_finish}
use Rattle.mmtel_call.specs.Table.{step}
use Rattle.mmtel_call.specs.declared.calls.Call.{Call}
use Rattle.mmtel_call.specs.declared.signals.Signal.{Signal}
use Rattle.mmtel_call_theorems.specs.Outcomes.{outcome_after}
use Rattle.mmtel_call_theorems.specs.Labels.{is_offered}
use Rattle.mmtel_call_theorems.specs.CallTrace.{TraceStart, TraceStep, call_after, items_added, opening_in}
use Rattle.mmtel_call_theorems.specs.Notifications.DueNotifications.{history_after_targets, notifications_after, notifications_due, notifications_in}

-- the server's own 181s are those of the diversions that were made according to Outcome, in order
abbrev pub NotifiesItsDiversions : Type 0
NotifiesItsDiversions = (s : TraceStart) (received : List TraceStep) →
    notifications_after s received ≡ notifications_due s.config (opening_in s) (received_history s.arrival.invite) (outcome_after s received).targets

-- the History-Info of the call is what it came with plus the entries of those diversions
abbrev pub KeepsItsHistory : Type 0
KeepsItsHistory = (s : TraceStart) (received : List TraceStep) →
    (call_after s received).diversions.history ≡ history_after_targets (opening_in s) (received_history s.arrival.invite) (outcome_after s received).targets

-- a call that is not offered any more, in any trace, sends no 181: neither on what it receives,
abbrev pub NotifiesNothingLater : Type 0
NotifiesNothingLater = (config : CallConfigView) (now : SnapshotView) (received : Signal) (c : Call) (output : StepOutput) (key : TKey) → is_offered c.phase ≡ false →
    notifications_in key (items_added output.out (step config now received c output).output.out) ≡ []

-- nor where it ends without a leg that was detached from it
abbrev pub EndsWithoutNotification : Type 0
EndsWithoutNotification = (config : CallConfigView) (at : ℕ) (c : Call) (output : StepOutput) (key : TKey) →
    notifications_in key (items_added output.out (call_finish config at c output).output.out) ≡ []

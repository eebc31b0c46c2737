-- A call that is not offered any more sends no 181, whether it is established, a leg of it is detached, or it is over; and none where it ends without that leg.
use Rattle.std.proofs.Common.{◌≡◌, ℕ, true, false, List, [], length, drop, Option, Some, None, refl, ap, subst, sym, ◌∙◌}
use Rattle.std.proofs.lemmas.List.{drop_at}
use Rattle.std.specs.Prelude.{if◌then◌else◌}
use Rattle.mmtel_compose.specs.ReceivedMessages.{MessageView}
use Rattle.mmtel_output.specs.declared.outputs.StepOutput.{StepOutput}
use Rattle.mmtel_leg.specs.Releases.{released_leg}
use Rattle.mmtel_precedence.specs.Calls.{SnapshotView}
use Rattle.mmtel_transaction.specs.declared.words.Emit.{Emit}
use Rattle.mmtel_transaction.specs.declared.words.TKey.{TKey}
use Rattle.mmtel_output.specs.ResponseMatching.{awaited_request_branch, timed_out_branch}
use Rattle.mmtel_call_services.specs.CallConfig.{CallConfigView}
use Rattle.mmtel_call.specs.RelayedTransactions.{output_after_dismissal, without_in_flight}
use Rattle.mmtel_call.specs.Detaching.{call_finish, finish_of_phase}
use Rattle.mmtel_call.specs.Table.{on_response_to, on_timeout_of, step, transition}
use Rattle.mmtel_call.specs.declared.calls.Call.{Call}
use Rattle.mmtel_call.specs.declared.calls.DetachedLeg.{DetachedLeg}
use Rattle.mmtel_call.specs.declared.calls.Phase.{Phase}
use Rattle.mmtel_call.specs.declared.calls.Phase.TheVariants.{Detached, Established, Offered, Over}
use Rattle.mmtel_call.specs.declared.signals.Signal.{Signal}
use Rattle.mmtel_call.specs.declared.signals.Signal.TheVariants as signal
use Rattle.mmtel_call_theorems.specs.Labels.{is_offered}
use Rattle.mmtel_call_theorems.specs.CallTrace.{items_added}
use Rattle.mmtel_call_theorems.specs.Notifications.Theorems.{EndsWithoutNotification, NotifiesNothingLater}
use Rattle.mmtel_call_theorems.specs.Notifications.DueNotifications.{notifications_in}
use Rattle.mmtel_call_theorems.proofs.Notifications.AddedNotifications.{IsUnnotified, adds-then, dismissing-unnotified, gone-unnotified, other-unnotified, unnotified, unnotified-bye}
use Rattle.mmtel_call_theorems.proofs.DiversionBoundSteps.{detached_call, no-leaving}
use Rattle.mmtel_call_theorems.proofs.Notifications.Established.{ended-unnotified, established-unnotified}

-- what was added has none
none-added : (key : TKey) (before after : StepOutput) → IsUnnotified key before after → notifications_in key (items_added before.out after.out) ≡ []
none-added key before after s =
    ap (λ (out : List Emit). notifications_in key (drop (length before.out) out)) s.out ∙ ap (notifications_in key) (drop_at before.out s.new (length before.out) refl) ∙ s.seen

-- ---- while a leg is detached

detached-answered : (key : TKey) (branch : Option (List ℕ)) (config : CallConfigView) (now : SnapshotView) (detached : DetachedLeg) (asked : TKey) (m : MessageView) (c : Call) (output : StepOutput) →
    IsUnnotified key output (on_response_to branch config now asked m (detached_call detached c) output).output
detached-answered key None config now detached asked m c output = unnotified key output
detached-answered key (Some branch) config now detached asked m c output = other-unnotified key config now.at asked m branch (detached_call detached c) output

detached-quiet : (key : TKey) (branch : Option (List ℕ)) (config : CallConfigView) (now : SnapshotView) (detached : DetachedLeg) (c : Call) (output : StepOutput) →
    IsUnnotified key output (on_timeout_of branch config now (detached_call detached c) output).output
detached-quiet key None config now detached c output = unnotified key output
detached-quiet key (Some branch) config now detached c output = gone-unnotified key config branch (detached_call detached c) output

detached-transition : (key : TKey) (config : CallConfigView) (now : SnapshotView) (detached : DetachedLeg) (received : Signal) (c : Call) (output : StepOutput) →
    IsUnnotified key output (transition config now received (detached_call detached c) output).output
unfolding transition
detached-transition key config now detached (signal.Request side asked request) c output = unnotified key output
detached-transition key config now detached (signal.Ack side ack) c output = unnotified key output
detached-transition key config now detached (signal.Cancel asked cancel invite) c output = unnotified key output
detached-transition key config now detached (signal.Answer asked response) c output = detached-answered key (awaited_request_branch response) config now detached asked response c output
detached-transition key config now detached (signal.Silent branch method) c output = detached-quiet key (timed_out_branch branch method) config now detached c output
detached-transition key config now detached (signal.Due what) c output = unnotified key output
detached-transition key config now detached (signal.Ended asked) c output = unnotified key output

detached-unnotified : (key : TKey) (config : CallConfigView) (now : SnapshotView) (detached : DetachedLeg) (received : Signal) (c : Call) (output : StepOutput) →
    IsUnnotified key output (step config now received (detached_call detached c) output).output
unfolding step
detached-unnotified key config now detached received c output =
    let d : Call = detached_call detached c in
    subst (λ b. IsUnnotified key output (if b then transition config now received (without_in_flight d) (output_after_dismissal config d output) else transition config now received d output).output)
    (sym (no-leaving detached received c)) (detached-transition key config now detached received c output)

-- ---- any signal

step-unnotified : (phase : Phase) (key : TKey) (config : CallConfigView) (now : SnapshotView) (received : Signal) (c : Call) (output : StepOutput) → is_offered phase ≡ false →
    IsUnnotified key output (step config now received (record c { phase = phase }) output).output
step-unnotified (Offered x) key config now received c output h = absurd (let e : true ≡ false = h in cc)
step-unnotified (Established x stage) key config now received c output h = established-unnotified key config now x stage received c output
step-unnotified (Detached detached) key config now received c output h = detached-unnotified key config now detached received c output
step-unnotified (Over cause) key config now received c output h = ended-unnotified key config now cause received c output

pub notifies_nothing_later : NotifiesNothingLater
notifies_nothing_later config now received c output key h = none-added key output (step config now received c output).output (step-unnotified c.phase key config now received c output h)

-- ---- the end without a detached leg

ends-unnotified : (phase : Phase) (key : TKey) (config : CallConfigView) (at : ℕ) (c : Call) (output : StepOutput) → IsUnnotified key output (finish_of_phase phase config at (record c { phase = phase }) output).output
ends-unnotified (Offered x) key config at c output = unnotified key output
ends-unnotified (Established x stage) key config at c output = unnotified key output
ends-unnotified (Detached detached) key config at c output =
    let before : StepOutput = output_after_dismissal config (detached_call detached c) output in
    let left = adds-then key output before _ [] [] (dismissing-unnotified key config (detached_call detached c) output) (unnotified-bye key config.sip (released_leg detached.remaining).dialogue before) in
    record { new = left.new; out = left.out; seen = left.seen }
ends-unnotified (Over cause) key config at c output = unnotified key output

finished-unnotified : (key : TKey) (config : CallConfigView) (at : ℕ) (c : Call) (output : StepOutput) → IsUnnotified key output (call_finish config at c output).output
unfolding call_finish
finished-unnotified key config at c output = ends-unnotified c.phase key config at c output

pub ends_without_notification : EndsWithoutNotification
ends_without_notification config at c output key = none-added key output (call_finish config at c output).output (finished-unnotified key config at c output)

-- A call that is not offered, or not any more, notifies its caller of no diversion.
use Rattle.std.proofs.Common.{[], ◌≡◌, ℕ, ◌==◌, Bool, true, false, List, refl, subst, sym}
use Rattle.std.specs.Prelude.{codes, Option, Some, None, if◌then◌else◌, nat_lt, Result, Ok, Err}
use Rattle.mmtel_compose.specs.ReceivedMessages.{MessageView, status_of}
use Rattle.mmtel_output.specs.Outputs.{after_draw}
use Rattle.mmtel_output.specs.SentInvites.{with_provisional}
use Rattle.mmtel_output.specs.Sending.{with_due_cancel, with_final_ack, with_relayed_ack}
use Rattle.mmtel_output.specs.declared.outputs.StepOutput.{StepOutput}
use Rattle.mmtel_leg.specs.declared.dialogues.Dialogue.{Dialogue}
use Rattle.mmtel_leg.specs.declared.dialogues.DialogueFault.{DialogueFault}
use Rattle.mmtel_message.specs.Message.{Line}
use Rattle.mmtel_precedence.specs.Calls.{SnapshotView}
use Rattle.mmtel_transaction.specs.declared.words.TKey.{TKey}
use Rattle.mmtel_trust.specs.ParsedMessage.{ParsedMessage}
use Rattle.mmtel_types.specs.declared.addrs.Addr.{Addr}
use Rattle.mmtel_types.specs.Sides.{other_side}
use Rattle.mmtel_types.specs.declared.causes.Cause.{Cause}
use Rattle.mmtel_types.specs.declared.sides.Side.{Side}
use Rattle.mmtel_types.specs.declared.sides.Side.TheVariants.{Caller, Callee}
use Rattle.mmtel_output.specs.ResponseMatching.{awaited_request_branch, timed_out_branch}
use Rattle.mmtel_call_services.specs.Requests.{is_same_side}
use Rattle.mmtel_call_services.specs.CallConfig.{CallConfigView}
use Rattle.mmtel_call.specs.Answered.{acknowledges, at_stage, copied_across, leg_of, with_ack_and_bye, with_bye_to, with_leg}
use Rattle.mmtel_call.specs.Closing.{established_call_end, step_result}
use Rattle.mmtel_call.specs.RelayedTransactions.{output_after_dismissal, updating_side, without_in_flight}
use Rattle.mmtel_call.specs.Reinvites.{abandoned_across, ends_dialog, on_accepted_reinvite, on_provisional_across, with_byes, with_refusal_back, with_relayed_back}
use Rattle.mmtel_call.specs.Reliable.{on_refused_prack}
use Rattle.mmtel_call.specs.Requests.{is_bye, is_invite, is_prack, is_update, leg_after_receiving, request_check, with_unlisted_response}
use Rattle.mmtel_call.specs.Ringing.{with_abandoned, with_ack_timer}
use Rattle.mmtel_call.specs.Sending.{with_status_to}
use Rattle.mmtel_call.specs.Stages.{after_bye_at, after_timer_at, busy_in, has_departed, is_due_at, on_ack_at, on_bye, on_cancel_at, on_invite, on_request_at_if, on_response_at, on_timeout_at, on_valid_request_at}
use Rattle.mmtel_call.specs.Table.{current_invite_at, is_branch, leaves, on_response_to, on_timeout_of, step, transition}
use Rattle.mmtel_call.specs.Updates.{on_stable_update, on_update_at}
use Rattle.mmtel_call.specs.declared.calls.Call.{Call}
use Rattle.mmtel_call.specs.declared.calls.EstablishedLegs.{EstablishedLegs}
use Rattle.mmtel_call.specs.declared.calls.Reinvite.{Reinvite}
use Rattle.mmtel_call.specs.declared.calls.Stage.{Stage}
use Rattle.mmtel_call.specs.declared.calls.Stage.TheVariants.{Answered, Departing, Reinviting, Stable}
use Rattle.mmtel_call.specs.declared.signals.Signal.{Signal}
use Rattle.mmtel_call.specs.declared.signals.Signal.TheVariants as signal
use Rattle.mmtel_call_theorems.proofs.Continuation.{ended, no-leaving}
use Rattle.mmtel_call_theorems.proofs.Notifications.AddedNotifications.{IsUnnotified, expiry-unnotified, adds-emit, adds-if, adds-then, asked-for-unnotified, dismissing-unnotified, gone-unnotified}
use Rattle.mmtel_call_theorems.proofs.Notifications.AddedNotifications.{other-unnotified, prack-unnotified, unnotified, unnotified-acked, unnotified-bye, unnotified-cancelled, unnotified-drew}
use Rattle.mmtel_call_theorems.proofs.Notifications.AddedNotifications.{unnotified-final-acked, unnotified-reply, unnotified-refused_request, unnotified-unlisted, step-if, unless-unnotified}
use Rattle.mmtel_call_theorems.proofs.Notifications.OwnNotifications.{IsNoNotification, final-notification}
use Rattle.mmtel_session.specs.Intervals.{expiry_interval_of}

-- ---- what is relayed

acked-for-unnotified : (key : TKey) (sip : Addr) (d : Dialogue) (passed : List Line) (m : ParsedMessage) (output : StepOutput) → IsUnnotified key output (with_relayed_ack sip d passed m output)
acked-for-unnotified key sip d passed m output = adds-then key output (after_draw output) _ [] [] (unnotified-drew key output) (adds-emit key (after_draw output) _ [] refl)

bye-to-unnotified : (key : TKey) (config : CallConfigView) (x : EstablishedLegs) (side : Side) (output : StepOutput) → IsUnnotified key output (with_bye_to config x side output)
bye-to-unnotified key config x side output = unnotified-bye key config.sip (leg_of side x).dialogue output

left-unnotified : (key : TKey) (config : CallConfigView) (x : EstablishedLegs) (side : Side) (output : StepOutput) → IsUnnotified key output (with_ack_and_bye config x side output)
left-unnotified key config x side output =
    let acknowledged = Rattle.mmtel_output.specs.Sending.with_ack config.sip (leg_of side x).dialogue output in
    adds-then key output acknowledged _ [] [] (unnotified-acked key config.sip (leg_of side x).dialogue output) (bye-to-unnotified key config x side acknowledged)

both-unnotified : (key : TKey) (config : CallConfigView) (x : EstablishedLegs) (output : StepOutput) → IsUnnotified key output (with_byes config x output)
both-unnotified key config x output =
    adds-then key output (with_bye_to config x Caller output) _ [] [] (bye-to-unnotified key config x Caller output) (bye-to-unnotified key config x Callee (with_bye_to config x Caller output))

-- both sides have left
over-unnotified : (key : TKey) (at : ℕ) (x : EstablishedLegs) (c : Call) (before output : StepOutput) → IsUnnotified key before output → IsUnnotified key before (established_call_end at x c output).output
over-unnotified key at x c before output a = record { new = a.new; out = a.out; seen = a.seen }

-- ---- requests

invite-unnotified : (key : TKey) (stage : Stage) (config : CallConfigView) (x : EstablishedLegs) (side : Side) (asked : TKey) (m : MessageView) (c : Call) (output : StepOutput) →
    IsUnnotified key output (on_invite stage config x side asked m c output).output
invite-unnotified key (Answered waiting success) config x side asked m c output = unnotified key output
invite-unnotified key (Departing waiting success) config x side asked m c output = unnotified key output
invite-unnotified key Stable config x side asked m c output =
    adds-then key output (with_status_to config c asked m 100 output) _ [] [] (unnotified-reply key asked _ _ _ output refl)
    (asked-for-unnotified key config.sip (codes "INVITE") (leg_of (other_side side) x).dialogue (copied_across config c x side m) m.parsed (with_status_to config c asked m 100 output))
invite-unnotified key (Reinviting asking q) config x side asked m c output = unnotified key output

left-by-unnotified : (key : TKey) (stage : Stage) (config : CallConfigView) (at : ℕ) (x : EstablishedLegs) (side : Side) (m : MessageView) (c : Call) (output : StepOutput) →
    IsUnnotified key output (after_bye_at stage config at x side m c output).output
left-by-unnotified key (Answered waiting success) config at x side m c output =
    step-if key output (is_same_side waiting side) _ _ (over-unnotified key at x c output _ (left-unnotified key config x (other_side side) output)) (unnotified key output)
left-by-unnotified key (Departing waiting success) config at x side m c output = over-unnotified key at x c output output (unnotified key output)
left-by-unnotified key Stable config at x side m c output =
    over-unnotified key at x c output _ (asked-for-unnotified key config.sip (codes "BYE") (leg_of (other_side side) x).dialogue (copied_across config c x side m) m.parsed output)
left-by-unnotified key (Reinviting asking q) config at x side m c output =
    let refused = with_status_to config c q.key q.request 487 output in
    over-unnotified key at x (with_abandoned (abandoned_across x asking side q) c) output _
    (adds-then key output refused (with_bye_to config x (other_side side) refused) [] [] (unnotified-reply key q.key _ _ _ output refl) (bye-to-unnotified key config x (other_side side) refused))

bye-unnotified : (key : TKey) (stage : Stage) (config : CallConfigView) (at : ℕ) (x : EstablishedLegs) (side : Side) (asked : TKey) (m : MessageView) (c : Call) (output : StepOutput) →
    IsUnnotified key output (on_bye stage config at x side asked m c output).output
bye-unnotified key stage config at x side asked m c output =
    let answered = with_status_to config c asked m 200 output in
    step-if key output (has_departed stage side) _ _ (unnotified-reply key asked _ _ _ output refl)
    (adds-then key output answered _ [] [] (unnotified-reply key asked _ _ _ output refl) (left-by-unnotified key stage config at x side m c answered))

across-update-unnotified : (key : TKey) (config : CallConfigView) (x : EstablishedLegs) (side : Side) (asked : TKey) (m : MessageView) (c : Call) (output : StepOutput) →
    IsUnnotified key output (on_stable_update config x side asked m c output).output
across-update-unnotified key config x side asked m c output = adds-then key output (after_draw output) _ [] [] (unnotified-drew key output) (adds-emit key (after_draw output) _ [] refl)

update_at-unnotified : (key : TKey) (stage : Stage) (config : CallConfigView) (x : EstablishedLegs) (side : Side) (asked : TKey) (m : MessageView) (c : Call) (output : StepOutput) →
    IsUnnotified key output (on_update_at stage config x side asked m c output).output
update_at-unnotified key (Answered waiting success) config x side asked m c output = unnotified-reply key asked _ _ _ output refl
update_at-unnotified key (Departing waiting success) config x side asked m c output = unnotified-reply key asked _ _ _ output refl
update_at-unnotified key Stable config x side asked m c output =
    unless-unnotified key (updating_side c.relayed) (on_stable_update config x side asked m) config side asked m c output (across-update-unnotified key config x side asked m c output)
update_at-unnotified key (Reinviting asking q) config x side asked m c output = unnotified-reply key asked _ _ _ output refl

received-unnotified : (key : TKey) (stage : Stage) (config : CallConfigView) (at : ℕ) (x : EstablishedLegs) (side : Side) (asked : TKey) (m : MessageView) (c : Call) (output : StepOutput) →
    IsUnnotified key output (on_valid_request_at stage config at x side asked m c output).output
received-unnotified key stage config at x side asked m c output =
    step-if key output (is_invite m) _ _ (invite-unnotified key stage config x side asked m c output)
    (step-if key output (is_bye m) _ _ (bye-unnotified key stage config at x side asked m c output)
    (step-if key output (is_update m) _ _ (update_at-unnotified key stage config x side asked m c output)
    (step-if key output (is_prack m) (on_refused_prack config asked m c output) (step_result c (with_unlisted_response config c asked m output)) (prack-unnotified key config asked m c output)
    (unnotified-unlisted key config c asked m output))))

check-unnotified : (key : TKey) (said : Result (Unit {0}) DialogueFault) (stage : Stage) (config : CallConfigView) (at : ℕ) (x : EstablishedLegs) (side : Side) (asked : TKey) (m : MessageView)
    (c : Call) (output : StepOutput) →
    IsUnnotified key output (on_request_at_if said stage config at x side asked m c output).output
check-unnotified key (Ok received) stage config at x side asked m c output =
    let y = with_leg side (leg_after_receiving (leg_of side x) m) x in received-unnotified key stage config at y side asked m (at_stage y stage c) output
check-unnotified key (Err fault) stage config at x side asked m c output = unnotified-refused_request key config c asked m fault output

-- ---- ACK, CANCEL, deadlines, timeouts

ack-unnotified : (key : TKey) (stage : Stage) (config : CallConfigView) (at : ℕ) (x : EstablishedLegs) (side : Side) (m : MessageView) (c : Call) (output : StepOutput) →
    IsUnnotified key output (on_ack_at stage config at x side m c output).output
ack-unnotified key (Answered waiting success) config at x side m c output =
    step-if key output (acknowledges waiting success side m) _ _ (acked-for-unnotified key config.sip (leg_of (other_side side) x).dialogue (copied_across config c x side m) m.parsed output) (unnotified key output)
ack-unnotified key (Departing waiting success) config at x side m c output =
    step-if key output (acknowledges waiting success side m) _ _ (over-unnotified key at x c output _ (bye-to-unnotified key config x side output)) (unnotified key output)
ack-unnotified key Stable config at x side m c output = unnotified key output
ack-unnotified key (Reinviting asking q) config at x side m c output = unnotified key output

cancel-unnotified : (key : TKey) (stage : Stage) (config : CallConfigView) (x : EstablishedLegs) (invite : TKey) (c : Call) (output : StepOutput) →
    IsUnnotified key output (on_cancel_at stage config x invite c output).output
cancel-unnotified key (Answered waiting success) config x invite c output = unnotified key output
cancel-unnotified key (Departing waiting success) config x invite c output = unnotified key output
cancel-unnotified key Stable config x invite c output = unnotified key output
cancel-unnotified key (Reinviting asking q) config x invite c output = step-if key output (invite.0 == q.key.0) _ _ (unnotified-cancelled key config.sip q.invite output) (unnotified key output)

rung-unnotified : (key : TKey) (stage : Stage) (config : CallConfigView) (at : ℕ) (x : EstablishedLegs) (c : Call) (output : StepOutput) → IsUnnotified key output (after_timer_at stage config at x c output).output
rung-unnotified key (Answered waiting success) config at x c output =
    let left = with_ack_and_bye config x (other_side waiting) output in
    over-unnotified key at x c output _ (adds-then key output left (with_bye_to config x waiting left) [] [] (left-unnotified key config x (other_side waiting) output) (bye-to-unnotified key config x waiting left))
rung-unnotified key (Departing waiting success) config at x c output = over-unnotified key at x c output _ (bye-to-unnotified key config x waiting output)
rung-unnotified key Stable config at x c output = over-unnotified key at x c output _ (both-unnotified key config x output)
rung-unnotified key (Reinviting asking q) config at x c output =
    let refused = with_status_to config c q.key q.request 487 output in
    over-unnotified key at x (with_abandoned (abandoned_across x asking asking q) c) output _
    (adds-then key output refused (with_byes config x refused) [] [] (unnotified-reply key q.key _ _ _ output refl) (both-unnotified key config x refused))

quiet-unnotified : (key : TKey) (stage : Stage) (config : CallConfigView) (at : ℕ) (x : EstablishedLegs) (c : Call) (output : StepOutput) → IsUnnotified key output (on_timeout_at stage config at x c output).output
quiet-unnotified key (Answered waiting success) config at x c output = unnotified key output
quiet-unnotified key (Departing waiting success) config at x c output = unnotified key output
quiet-unnotified key Stable config at x c output = unnotified key output
quiet-unnotified key (Reinviting asking q) config at x c output =
    let refused = with_status_to config c q.key q.request 408 output in
    over-unnotified key at x c output _ (adds-then key output refused (with_byes config x refused) [] [] (unnotified-reply key q.key _ _ _ output refl) (both-unnotified key config x refused))

timeout-unnotified : (key : TKey) (branch : Option (List ℕ)) (stage : Stage) (config : CallConfigView) (now : SnapshotView) (x : EstablishedLegs) (c : Call) (output : StepOutput) →
    IsUnnotified key output (on_timeout_of branch config now (at_stage x stage c) output).output
timeout-unnotified key None stage config now x c output = unnotified key output
timeout-unnotified key (Some branch) stage config now x c output =
    step-if key output (is_branch branch (current_invite_at stage)) _ _ (quiet-unnotified key stage config now.at x (at_stage x stage c) output) (gone-unnotified key config branch (at_stage x stage c) output)

-- ---- responses

back-unnotified : (key : TKey) (config : CallConfigView) (x : EstablishedLegs) (side : Side) (q : Reinvite) (m : MessageView) (c : Call) (output : StepOutput) →
    IsNoNotification (status_of m.parsed.start) → IsUnnotified key output (with_relayed_back config x side q m c output)
back-unnotified key config x side q m c output e = unnotified-reply key q.key _ _ _ output e

refused-unnotified : (key : TKey) (config : CallConfigView) (x : EstablishedLegs) (side : Side) (q : Reinvite) (asked : TKey) (m : MessageView) (c : Call) (output : StepOutput) →
    IsNoNotification (status_of m.parsed.start) → IsUnnotified key output (with_refusal_back config x side q asked m c output)
refused-unnotified key config x side q asked m c output e =
    let acknowledged = with_final_ack config.sip asked q.invite m.parsed output in
    adds-then key output acknowledged _ [] [] (unnotified-final-acked key asked config.sip q.invite m.parsed output) (back-unnotified key config x side q m c acknowledged e)

across-unnotified : (key : TKey) (config : CallConfigView) (at : ℕ) (x : EstablishedLegs) (side : Side) (q : Reinvite) (asked : TKey) (m : MessageView) (c : Call) (output : StepOutput) (provisional success ends : Bool) →
    (provisional ≡ false → IsNoNotification (status_of m.parsed.start)) →
    IsUnnotified key output (
    if provisional then on_provisional_across config x side q asked c output
    else if success then on_accepted_reinvite config at x side q asked m c output
    else if ends then established_call_end at x c (with_byes config x (with_refusal_back config x side q asked m c output))
    else step_result (at_stage x Stable c) (with_refusal_back config x side q asked m c output)).output
across-unnotified key config at x side q asked m c output true success ends e =
    adds-if key output q.cancel_due (with_due_cancel config.sip (with_provisional asked q.invite) output) output [] (unnotified-cancelled key config.sip (with_provisional asked q.invite) output) (unnotified key output)
across-unnotified key config at x side q asked m c output false true ends e =
    let back = with_relayed_back config x side q m c output in
    let waits = with_ack_timer at c back in
    adds-then key output waits _ [] [] (adds-then key output back waits [] [] (back-unnotified key config x side q m c output (e refl)) (adds-emit key back _ [] refl))
    (expiry-unnotified key config.timer (expiry_interval_of m.parsed.session) at c waits)
across-unnotified key config at x side q asked m c output false false true e =
    let refused = with_refusal_back config x side q asked m c output in
    over-unnotified key at x c output _ (adds-then key output refused (with_byes config x refused) [] [] (refused-unnotified key config x side q asked m c output (e refl)) (both-unnotified key config x refused))
across-unnotified key config at x side q asked m c output false false false e = refused-unnotified key config x side q asked m c output (e refl)

response-unnotified : (key : TKey) (stage : Stage) (config : CallConfigView) (at : ℕ) (x : EstablishedLegs) (asked : TKey) (m : MessageView) (c : Call) (output : StepOutput) →
    IsUnnotified key output (on_response_at stage config at x asked m c output).output
response-unnotified key (Answered waiting success) config at x asked m c output = unnotified key output
response-unnotified key (Departing waiting success) config at x asked m c output = unnotified key output
response-unnotified key Stable config at x asked m c output = unnotified key output
response-unnotified key (Reinviting asking q) config at x asked m c output =
    let code = status_of m.parsed.start in across-unnotified key config at x asking q asked m c output (nat_lt code 200) (nat_lt code 300) (ends_dialog code) (final-notification code)

answer-unnotified : (key : TKey) (branch : Option (List ℕ)) (stage : Stage) (config : CallConfigView) (now : SnapshotView) (x : EstablishedLegs) (asked : TKey) (m : MessageView) (c : Call) (output : StepOutput) →
    IsUnnotified key output (on_response_to branch config now asked m (at_stage x stage c) output).output
answer-unnotified key None stage config now x asked m c output = unnotified key output
answer-unnotified key (Some branch) stage config now x asked m c output =
    step-if key output (is_branch branch (current_invite_at stage)) _ _ (response-unnotified key stage config now.at x asked m (at_stage x stage c) output)
    (other-unnotified key config now.at asked m branch (at_stage x stage c) output)

-- ---- any signal

established-transition : (key : TKey) (config : CallConfigView) (now : SnapshotView) (x : EstablishedLegs) (stage : Stage) (received : Signal) (c : Call) (output : StepOutput) →
    IsUnnotified key output (transition config now received (at_stage x stage c) output).output
unfolding transition
established-transition key config now x stage (signal.Request side asked request) c output =
    check-unnotified key (request_check (leg_of side x) request (busy_in stage side)) stage config now.at x side asked request (at_stage x stage c) output
established-transition key config now x stage (signal.Ack side ack) c output = ack-unnotified key stage config now.at x side ack (at_stage x stage c) output
established-transition key config now x stage (signal.Cancel asked cancel invite) c output =
    let answered = with_status_to config (at_stage x stage c) asked cancel 200 output in
    adds-then key output answered _ [] [] (unnotified-reply key asked _ _ _ output refl) (cancel-unnotified key stage config x invite (at_stage x stage c) answered)
established-transition key config now x stage (signal.Answer asked response) c output = answer-unnotified key (awaited_request_branch response) stage config now x asked response c output
established-transition key config now x stage (signal.Silent branch method) c output = timeout-unnotified key (timed_out_branch branch method) stage config now x c output
established-transition key config now x stage (signal.Due what) c output =
    step-if key output (is_due_at stage c.successes what) _ _ (rung-unnotified key stage config now.at x (at_stage x stage c) output) (unnotified key output)
established-transition key config now x stage (signal.Ended asked) c output = unnotified key output

-- the requests in flight are dismissed before, if the signal ends the attempt or the call
established-either : (key : TKey) (config : CallConfigView) (now : SnapshotView) (x : EstablishedLegs) (stage : Stage) (received : Signal) (c : Call) (output : StepOutput) (b : Bool) →
    let d = at_stage x stage c in IsUnnotified key output (if b then transition config now received (without_in_flight d) (output_after_dismissal config d output) else transition config now received d output).output
established-either key config now x stage received c output true =
    let before : StepOutput = output_after_dismissal config (at_stage x stage c) output in
    adds-then key output before _ [] [] (dismissing-unnotified key config (at_stage x stage c) output) (established-transition key config now x stage received (without_in_flight c) before)
established-either key config now x stage received c output false = established-transition key config now x stage received c output

pub established-unnotified : (key : TKey) (config : CallConfigView) (now : SnapshotView) (x : EstablishedLegs) (stage : Stage) (received : Signal) (c : Call) (output : StepOutput) →
    IsUnnotified key output (step config now received (at_stage x stage c) output).output
unfolding step
established-unnotified key config now x stage received c output = established-either key config now x stage received c output (leaves received (at_stage x stage c))

-- ---- a call that is over

ended-answered : (key : TKey) (branch : Option (List ℕ)) (config : CallConfigView) (now : SnapshotView) (cause : Cause) (asked : TKey) (m : MessageView) (c : Call) (output : StepOutput) →
    IsUnnotified key output (on_response_to branch config now asked m (ended cause c) output).output
ended-answered key None config now cause asked m c output = unnotified key output
ended-answered key (Some branch) config now cause asked m c output = other-unnotified key config now.at asked m branch (ended cause c) output

ended-quiet : (key : TKey) (branch : Option (List ℕ)) (config : CallConfigView) (now : SnapshotView) (cause : Cause) (c : Call) (output : StepOutput) →
    IsUnnotified key output (on_timeout_of branch config now (ended cause c) output).output
ended-quiet key None config now cause c output = unnotified key output
ended-quiet key (Some branch) config now cause c output = gone-unnotified key config branch (ended cause c) output

ended-transition : (key : TKey) (config : CallConfigView) (now : SnapshotView) (cause : Cause) (received : Signal) (c : Call) (output : StepOutput) →
    IsUnnotified key output (transition config now received (ended cause c) output).output
unfolding transition
ended-transition key config now cause (signal.Request side asked request) c output = unnotified key output
ended-transition key config now cause (signal.Ack side ack) c output = unnotified key output
ended-transition key config now cause (signal.Cancel asked cancel invite) c output = unnotified key output
ended-transition key config now cause (signal.Answer asked response) c output = ended-answered key (awaited_request_branch response) config now cause asked response c output
ended-transition key config now cause (signal.Silent branch method) c output = ended-quiet key (timed_out_branch branch method) config now cause c output
ended-transition key config now cause (signal.Due what) c output = unnotified key output
ended-transition key config now cause (signal.Ended asked) c output = unnotified key output

pub ended-unnotified : (key : TKey) (config : CallConfigView) (now : SnapshotView) (cause : Cause) (received : Signal) (c : Call) (output : StepOutput) →
    IsUnnotified key output (step config now received (ended cause c) output).output
unfolding step
ended-unnotified key config now cause received c output =
    let d : Call = ended cause c in
    subst (λ b. IsUnnotified key output (if b then transition config now received (without_in_flight d) (output_after_dismissal config d output) else transition config now received d output).output)
    (sym (no-leaving cause received c)) (ended-transition key config now cause received c output)

-- What an answered call does on each signal: it remains established, or both sides leave; and a call that is over does nothing.
use Rattle.std.proofs.Common.{◌≡◌, ℕ, ◌==◌, Bool, true, false, List, refl, subst, sym, ◌∙◌}
use Rattle.std.specs.Prelude.{Option, Some, None, codes, if◌then◌else◌, nat_lt, not, Result, Ok, Err}
use Rattle.mmtel_compose.specs.ReceivedMessages.{MessageView, status_of}
use Rattle.mmtel_charging.specs.declared.rows.Row.{Row}
use Rattle.mmtel_output.specs.SentInvites.{with_provisional}
use Rattle.mmtel_output.specs.Sending.{with_due_cancel}
use Rattle.mmtel_output.specs.declared.outputs.StepOutput.{StepOutput}
use Rattle.mmtel_leg.specs.declared.dialogues.DialogueFault.{DialogueFault}
use Rattle.mmtel_precedence.specs.Calls.{SnapshotView}
use Rattle.mmtel_transaction.specs.declared.words.TKey.{TKey}
use Rattle.mmtel_types.specs.declared.causes.Cause.{Cause}
use Rattle.mmtel_types.specs.declared.sides.Side.{Side}
use Rattle.mmtel_types.specs.declared.sides.Side.TheVariants.{Caller, Callee}
use Rattle.mmtel_output.specs.ResponseMatching.{awaited_request_branch, timed_out_branch}
use Rattle.mmtel_call_services.specs.Requests.{is_same_side}
use Rattle.mmtel_call_services.specs.CallConfig.{CallConfigView}
use Rattle.mmtel_call.specs.Answered.{acknowledges, at_stage, leg_of, with_leg}
use Rattle.mmtel_call.specs.Closing.{StepResult, established_call_end, step_result}
use Rattle.mmtel_call.specs.RelayedTransactions.{leg_after_request, output_after_dismissal, updating_side, without_in_flight}
use Rattle.mmtel_call.specs.Reinvites.{abandoned_across, ends_dialog, on_response_across, with_refusal_back}
use Rattle.mmtel_call.specs.Reliable.{on_refused_prack}
use Rattle.mmtel_call.specs.Requests.{is_bye, is_invite, is_prack, is_update, leg_after_receiving, request_check, with_refused_request, with_unlisted_response}
use Rattle.mmtel_call.specs.Ringing.{with_abandoned}
use Rattle.mmtel_call.specs.Sending.{with_status_to}
use Rattle.mmtel_call.specs.Stages.{after_timer_at, busy_in, is_due_at, on_ack_at, on_bye, on_cancel_at, on_invite, on_request_at_if, on_response_at, on_timeout_at, on_valid_request_at}
use Rattle.mmtel_call.specs.Table.{current_invite_at, is_branch, leaves as leaves_by, leaves_on_response, leaves_on_timeout_of, on_response_to, on_timeout_of, step, transition}
use Rattle.mmtel_call.specs.Updates.{on_early_retry, on_glare, on_stable_update, on_update_at, unless_updating}
use Rattle.mmtel_call.specs.declared.calls.Call.{Call}
use Rattle.mmtel_call.specs.declared.calls.EstablishedLegs.{EstablishedLegs}
use Rattle.mmtel_call.specs.declared.calls.Phase.TheVariants.{Established, Over}
use Rattle.mmtel_call.specs.declared.calls.Reinvite.{Reinvite}
use Rattle.mmtel_call.specs.declared.calls.Stage.{Stage}
use Rattle.mmtel_call.specs.declared.calls.Stage.TheVariants.{Answered, Departing, Reinviting, Stable}
use Rattle.mmtel_call.specs.declared.signals.Signal.{Signal}
use Rattle.mmtel_call.specs.declared.signals.Signal.TheVariants as signal
use Rattle.mmtel_call_theorems.proofs.UnchangedCalls.{SameCall, Untouched, cancelled-rows, dismissing-rows, if-rows, key-untouched, other-untouched, refused_request-rows, timed-out-untouched, unlisted-rows, untouched}

-- it is established
pub record StaysEstablished (x : EstablishedLegs) (c : Call) (rows : List Row) (s : StepResult) (y : EstablishedLegs) (stage : Stage) : Type 0 where
  pub phase : s.call.phase ≡ Established y stage
  pub same : SameCall c s.call
  pub caller : y.caller.meter ≡ x.caller.meter
  pub callee : y.callee.meter ≡ x.callee.meter
  pub none : s.output.rows ≡ rows

-- both sides have left
pub record HasEnded (at : ℕ) (x : EstablishedLegs) (c : Call) (rows : List Row) (s : StepResult) (y : EstablishedLegs) (d : Call) (output : StepOutput) : Type 0 where
  pub is : s ≡ established_call_end at y d output
  pub same : SameCall c d
  pub caller : y.caller.meter ≡ x.caller.meter
  pub callee : y.callee.meter ≡ x.callee.meter
  pub none : output.rows ≡ rows

pub data ContinuesOrEnds (at : ℕ) (x : EstablishedLegs) (c : Call) (rows : List Row) (s : StepResult) : Type 0 where
  Continues : (y : EstablishedLegs) → (stage : Stage) → StaysEstablished x c rows s y stage → ContinuesOrEnds at x c rows s
  Ends : (y : EstablishedLegs) → (d : Call) → (output : StepOutput) → HasEnded at x c rows s y d output → ContinuesOrEnds at x c rows s

goes-if : (at : ℕ) (x : EstablishedLegs) (c : Call) (rows : List Row) (b : Bool) (s s2 : StepResult) → ContinuesOrEnds at x c rows s → ContinuesOrEnds at x c rows s2 → ContinuesOrEnds at x c rows (if b then s else s2)
goes-if at x c rows true s s2 f g = f
goes-if at x c rows false s s2 f g = g

stays-established : (at : ℕ) (x : EstablishedLegs) (c : Call) (rows : List Row) (y : EstablishedLegs) (stage : Stage) (output : StepOutput) → y.caller.meter ≡ x.caller.meter →
    y.callee.meter ≡ x.callee.meter → output.rows ≡ rows →
    ContinuesOrEnds at x c rows (step_result (at_stage y stage c) output)
stays-established at x c rows y stage output e f g = Continues y stage (record { phase = refl; same = record { opening = refl; diversions = refl; answered = refl; past = refl }; caller = e; callee = f; none = g })

ends-now : (at : ℕ) (x : EstablishedLegs) (c : Call) (rows : List Row) (y : EstablishedLegs) (stage : Stage) (output : StepOutput) → y.caller.meter ≡ x.caller.meter →
    y.callee.meter ≡ x.callee.meter → output.rows ≡ rows →
    ContinuesOrEnds at x c rows (established_call_end at y (at_stage y stage c) output)
ends-now at x c rows y stage output e f g = Ends y (at_stage y stage c) output (record { is = refl; same = record { opening = refl; diversions = refl; answered = refl; past = refl }; caller = e; callee = f; none = g })

untouched-established : (at : ℕ) (x : EstablishedLegs) (stage : Stage) (c : Call) (rows : List Row) (s : StepResult) → Untouched (at_stage x stage c) rows s → ContinuesOrEnds at x c rows s
untouched-established at x stage c rows s u =
    Continues x stage (record { phase = u.phase; same = record { opening = u.same.opening; diversions = u.same.diversions; answered = u.same.answered; past = u.same.past }; caller = refl; callee = refl; none = u.none })

-- ---- requests

invite-goes : (stage : Stage) (config : CallConfigView) (at : ℕ) (x y : EstablishedLegs) (side : Side) (key : TKey) (m : MessageView) (c : Call) (output : StepOutput) →
    y.caller.meter ≡ x.caller.meter → y.callee.meter ≡ x.callee.meter →
    ContinuesOrEnds at x c output.rows (on_invite stage config y side key m (at_stage y stage c) output)
invite-goes (Answered waiting success) config at x y side key m c output e f = stays-established at x c output.rows y (Answered waiting success) output e f refl
invite-goes (Departing waiting success) config at x y side key m c output e f = stays-established at x c output.rows y (Departing waiting success) output e f refl
invite-goes Stable config at x y Caller key m c output e f = Continues _ _ (record { phase = refl; same = record { opening = refl; diversions = refl; answered = refl; past = refl }; caller = e; callee = f; none = refl })
invite-goes Stable config at x y Callee key m c output e f = Continues _ _ (record { phase = refl; same = record { opening = refl; diversions = refl; answered = refl; past = refl }; caller = e; callee = f; none = refl })
invite-goes (Reinviting asking q) config at x y side key m c output e f = stays-established at x c output.rows y (Reinviting asking q) output e f refl

bye-goes : (stage : Stage) (config : CallConfigView) (at : ℕ) (x y : EstablishedLegs) (side : Side) (key : TKey) (m : MessageView) (c : Call) (output : StepOutput) → y.caller.meter ≡ x.caller.meter →
    y.callee.meter ≡ x.callee.meter →
    ContinuesOrEnds at x c output.rows (on_bye stage config at y side key m (at_stage y stage c) output)
bye-goes (Answered waiting success) config at x y side key m c output e f =
    goes-if at x c output.rows (is_same_side waiting side) _ _
    (Ends y (at_stage y (Answered waiting success) c) _ (record { is = refl; same = record { opening = refl; diversions = refl; answered = refl; past = refl }; caller = e; callee = f; none = refl }))
    (stays-established at x c output.rows y (Departing waiting success) _ e f refl)
bye-goes (Departing waiting success) config at x y side key m c output e f =
    goes-if at x c output.rows (not (is_same_side waiting side)) _ _
    (stays-established at x c output.rows y (Departing waiting success) (with_status_to config (at_stage y (Departing waiting success) c) key m 481 output) e f refl)
    (ends-now at x c output.rows y (Departing waiting success) (with_status_to config (at_stage y (Departing waiting success) c) key m 200 output) e f refl)
bye-goes Stable config at x y side key m c output e f =
    Ends y (at_stage y Stable c) _ (record { is = refl; same = record { opening = refl; diversions = refl; answered = refl; past = refl }; caller = e; callee = f; none = refl })
bye-goes (Reinviting asking q) config at x y side key m c output e f =
    Ends y (with_abandoned (abandoned_across y asking side q) (at_stage y (Reinviting asking q) c)) _
    (record { is = refl; same = record { opening = refl; diversions = refl; answered = refl; past = refl }; caller = e; callee = f; none = refl })

unless-goes : (flying : Option Side) (f : Call → StepOutput → StepResult) (config : CallConfigView) (at : ℕ) (x y : EstablishedLegs) (stage : Stage) (side : Side) (key : TKey) (m : MessageView)
    (c : Call) (output : StepOutput) → y.caller.meter ≡ x.caller.meter →
    y.callee.meter ≡ x.callee.meter →
    ContinuesOrEnds at x c output.rows (f (at_stage y stage c) output) → ContinuesOrEnds at x c output.rows (unless_updating flying f config side key m (at_stage y stage c) output)
unless-goes None f config at x y stage side key m c output e f2 goes = goes
unless-goes (Some other) f config at x y stage side key m c output e f2 goes =
    goes-if at x c output.rows (is_same_side other side) (on_early_retry config key m (at_stage y stage c) output) (on_glare config key m (at_stage y stage c) output)
    (stays-established at x c output.rows y stage _ e f2 refl) (stays-established at x c output.rows y stage _ e f2 refl)

update-goes : (stage : Stage) (config : CallConfigView) (at : ℕ) (x y : EstablishedLegs) (side : Side) (key : TKey) (m : MessageView) (c : Call) (output : StepOutput) →
    y.caller.meter ≡ x.caller.meter → y.callee.meter ≡ x.callee.meter →
    ContinuesOrEnds at x c output.rows (on_update_at stage config y side key m (at_stage y stage c) output)
update-goes (Answered waiting success) config at x y side key m c output e f = stays-established at x c output.rows y (Answered waiting success) _ e f refl
update-goes (Departing waiting success) config at x y side key m c output e f = stays-established at x c output.rows y (Departing waiting success) _ e f refl
update-goes Stable config at x y Caller key m c output e f =
    unless-goes (updating_side c.relayed) (on_stable_update config y Caller key m) config at x y Stable Caller key m c output e f
    (Continues (with_leg Callee (leg_after_request (codes "UPDATE") y.callee) y) Stable
    (record { phase = refl; same = record { opening = refl; diversions = refl; answered = refl; past = refl }; caller = e; callee = f; none = refl }))
update-goes Stable config at x y Callee key m c output e f =
    unless-goes (updating_side c.relayed) (on_stable_update config y Callee key m) config at x y Stable Callee key m c output e f
    (Continues (with_leg Caller (leg_after_request (codes "UPDATE") y.caller) y) Stable
    (record { phase = refl; same = record { opening = refl; diversions = refl; answered = refl; past = refl }; caller = e; callee = f; none = refl }))
update-goes (Reinviting asking q) config at x y side key m c output e f = stays-established at x c output.rows y (Reinviting asking q) _ e f refl

received-goes : (stage : Stage) (config : CallConfigView) (at : ℕ) (x y : EstablishedLegs) (side : Side) (key : TKey) (m : MessageView) (c : Call) (output : StepOutput) →
    y.caller.meter ≡ x.caller.meter → y.callee.meter ≡ x.callee.meter →
    ContinuesOrEnds at x c output.rows (on_valid_request_at stage config at y side key m (at_stage y stage c) output)
received-goes stage config at x y side key m c output e f =
    let none : StepResult = step_result (at_stage y stage c) (with_unlisted_response config (at_stage y stage c) key m output) in
    let acks : StepResult = if is_prack m then on_refused_prack config key m (at_stage y stage c) output else none in
    let updates : StepResult = if is_update m then on_update_at stage config y side key m (at_stage y stage c) output else acks in
    goes-if at x c output.rows (is_invite m) _ (if is_bye m then on_bye stage config at y side key m (at_stage y stage c) output else updates) (invite-goes stage config at x y side key m c output e f)
    (goes-if at x c output.rows (is_bye m) _ updates (bye-goes stage config at x y side key m c output e f)
    (goes-if at x c output.rows (is_update m) _ acks (update-goes stage config at x y side key m c output e f)
    (goes-if at x c output.rows (is_prack m) _ none (stays-established at x c output.rows y stage _ e f refl)
    (stays-established at x c output.rows y stage (with_unlisted_response config (at_stage y stage c) key m output) e f (unlisted-rows config (at_stage y stage c) key m output)))))

check-goes : (said : Result (Unit {0}) DialogueFault) (stage : Stage) (config : CallConfigView) (at : ℕ) (x : EstablishedLegs) (side : Side) (key : TKey) (m : MessageView) (c : Call) (output : StepOutput) →
    ContinuesOrEnds at x c output.rows (on_request_at_if said stage config at x side key m (at_stage x stage c) output)
check-goes (Ok received) stage config at x Caller key m c output = received-goes stage config at x (with_leg Caller (leg_after_receiving (leg_of Caller x) m) x) Caller key m c output refl refl
check-goes (Ok received) stage config at x Callee key m c output = received-goes stage config at x (with_leg Callee (leg_after_receiving (leg_of Callee x) m) x) Callee key m c output refl refl
check-goes (Err fault) stage config at x side key m c output =
    stays-established at x c output.rows x stage (with_refused_request config (at_stage x stage c) key m fault output) refl refl (refused_request-rows config (at_stage x stage c) key m fault output)

-- ---- ACK, CANCEL, deadlines, timeouts

ack-goes : (stage : Stage) (config : CallConfigView) (at : ℕ) (x : EstablishedLegs) (side : Side) (m : MessageView) (c : Call) (output : StepOutput) →
    ContinuesOrEnds at x c output.rows (on_ack_at stage config at x side m (at_stage x stage c) output)
ack-goes (Answered waiting success) config at x side m c output =
    goes-if at x c output.rows (acknowledges waiting success side m) _ _
    (Continues x Stable (record { phase = refl; same = record { opening = refl; diversions = refl; answered = refl; past = refl }; caller = refl; callee = refl; none = refl }))
    (stays-established at x c output.rows x (Answered waiting success) output refl refl refl)
ack-goes (Departing waiting success) config at x side m c output =
    goes-if at x c output.rows (acknowledges waiting success side m) _ _
    (Ends x (at_stage x (Departing waiting success) c) _ (record { is = refl; same = record { opening = refl; diversions = refl; answered = refl; past = refl }; caller = refl; callee = refl; none = refl }))
    (stays-established at x c output.rows x (Departing waiting success) output refl refl refl)
ack-goes Stable config at x side m c output = stays-established at x c output.rows x Stable output refl refl refl
ack-goes (Reinviting asking q) config at x side m c output = stays-established at x c output.rows x (Reinviting asking q) output refl refl refl

cancel-goes : (stage : Stage) (config : CallConfigView) (at : ℕ) (x : EstablishedLegs) (invite : TKey) (c : Call) (rows : List Row) (output : StepOutput) → output.rows ≡ rows →
    ContinuesOrEnds at x c rows (on_cancel_at stage config x invite (at_stage x stage c) output)
cancel-goes (Answered waiting success) config at x invite c rows output e = stays-established at x c rows x (Answered waiting success) output refl refl e
cancel-goes (Departing waiting success) config at x invite c rows output e = stays-established at x c rows x (Departing waiting success) output refl refl e
cancel-goes Stable config at x invite c rows output e = stays-established at x c rows x Stable output refl refl e
cancel-goes (Reinviting asking q) config at x invite c rows output e =
    goes-if at x c rows (invite.0 == q.key.0) _ _
    (Continues x _ (record { phase = refl; same = record { opening = refl; diversions = refl; answered = refl; past = refl }; caller = refl; callee = refl; none = cancelled-rows config.sip q.invite output ∙ e }))
    (stays-established at x c rows x (Reinviting asking q) output refl refl e)

rung-goes : (stage : Stage) (config : CallConfigView) (at : ℕ) (x : EstablishedLegs) (c : Call) (output : StepOutput) → ContinuesOrEnds at x c output.rows (after_timer_at stage config at x (at_stage x stage c) output)
rung-goes (Answered waiting success) config at x c output =
    Ends x (at_stage x (Answered waiting success) c) _ (record { is = refl; same = record { opening = refl; diversions = refl; answered = refl; past = refl }; caller = refl; callee = refl; none = refl })
rung-goes (Departing waiting success) config at x c output =
    Ends x (at_stage x (Departing waiting success) c) _ (record { is = refl; same = record { opening = refl; diversions = refl; answered = refl; past = refl }; caller = refl; callee = refl; none = refl })
rung-goes Stable config at x c output =
    Ends x (at_stage x Stable c) _ (record { is = refl; same = record { opening = refl; diversions = refl; answered = refl; past = refl }; caller = refl; callee = refl; none = refl })
rung-goes (Reinviting asking q) config at x c output =
    Ends x (with_abandoned (abandoned_across x asking asking q) (at_stage x (Reinviting asking q) c)) _
    (record { is = refl; same = record { opening = refl; diversions = refl; answered = refl; past = refl }; caller = refl; callee = refl; none = refl })

quiet-goes : (stage : Stage) (config : CallConfigView) (at : ℕ) (x : EstablishedLegs) (c : Call) (output : StepOutput) → ContinuesOrEnds at x c output.rows (on_timeout_at stage config at x (at_stage x stage c) output)
quiet-goes (Answered waiting success) config at x c output = stays-established at x c output.rows x (Answered waiting success) output refl refl refl
quiet-goes (Departing waiting success) config at x c output = stays-established at x c output.rows x (Departing waiting success) output refl refl refl
quiet-goes Stable config at x c output = stays-established at x c output.rows x Stable output refl refl refl
quiet-goes (Reinviting asking q) config at x c output =
    Ends x (at_stage x (Reinviting asking q) c) _ (record { is = refl; same = record { opening = refl; diversions = refl; answered = refl; past = refl }; caller = refl; callee = refl; none = refl })

timeout-goes : (branch : Option (List ℕ)) (stage : Stage) (config : CallConfigView) (now : SnapshotView) (x : EstablishedLegs) (c : Call) (output : StepOutput) →
    ContinuesOrEnds now.at x c output.rows (on_timeout_of branch config now (at_stage x stage c) output)
timeout-goes None stage config now x c output = stays-established now.at x c output.rows x stage output refl refl refl
timeout-goes (Some branch) stage config now x c output =
    goes-if now.at x c output.rows (is_branch branch (current_invite_at stage)) _ _ (quiet-goes stage config now.at x c output)
    (untouched-established now.at x stage c output.rows _ (timed-out-untouched config branch (at_stage x stage c) output))

-- ---- responses

across-goes : (config : CallConfigView) (at : ℕ) (x : EstablishedLegs) (side : Side) (q : Reinvite) (key : TKey) (m : MessageView) (code : ℕ) (c : Call) (output : StepOutput) →
    ContinuesOrEnds at x c output.rows (on_response_across config at x side q key m code (at_stage x (Reinviting side q) c) output)
across-goes config at x side q key m code c output =
    goes-if at x c output.rows (nat_lt code 200) _ _
    (Continues x _ (record {
      phase = refl;
      same = record { opening = refl; diversions = refl; answered = refl; past = refl };
      caller = refl;
      callee = refl;
      none = if-rows q.cancel_due (with_due_cancel config.sip (with_provisional key q.invite) output) output output.rows (cancelled-rows config.sip (with_provisional key q.invite) output) refl;
    }))
    (goes-if at x c output.rows (nat_lt code 300) _ _
    (Continues x _ (record { phase = refl; same = record { opening = refl; diversions = refl; answered = refl; past = refl }; caller = refl; callee = refl; none = refl }))
    (goes-if at x c output.rows (ends_dialog code) _ _
    (Ends x (at_stage x (Reinviting side q) c) _ (record { is = refl; same = record { opening = refl; diversions = refl; answered = refl; past = refl }; caller = refl; callee = refl; none = refl }))
    (stays-established at x c output.rows x Stable (with_refusal_back config x side q key m (at_stage x (Reinviting side q) c) output) refl refl refl)))

response-goes : (stage : Stage) (config : CallConfigView) (at : ℕ) (x : EstablishedLegs) (key : TKey) (m : MessageView) (c : Call) (output : StepOutput) →
    ContinuesOrEnds at x c output.rows (on_response_at stage config at x key m (at_stage x stage c) output)
response-goes (Answered waiting success) config at x key m c output = stays-established at x c output.rows x (Answered waiting success) output refl refl refl
response-goes (Departing waiting success) config at x key m c output = stays-established at x c output.rows x (Departing waiting success) output refl refl refl
response-goes Stable config at x key m c output = stays-established at x c output.rows x Stable output refl refl refl
response-goes (Reinviting asking q) config at x key m c output = across-goes config at x asking q key m (status_of m.parsed.start) c output

answer-goes : (branch : Option (List ℕ)) (stage : Stage) (config : CallConfigView) (now : SnapshotView) (x : EstablishedLegs) (key : TKey) (m : MessageView) (c : Call) (output : StepOutput) →
    ContinuesOrEnds now.at x c output.rows (on_response_to branch config now key m (at_stage x stage c) output)
answer-goes None stage config now x key m c output = stays-established now.at x c output.rows x stage output refl refl refl
answer-goes (Some branch) stage config now x key m c output =
    goes-if now.at x c output.rows (is_branch branch (current_invite_at stage)) _ _ (response-goes stage config now.at x key m c output)
    (untouched-established now.at x stage c output.rows _ (other-untouched config now.at key m branch (at_stage x stage c) output))

-- ---- any signal

transition-goes : (config : CallConfigView) (now : SnapshotView) (x : EstablishedLegs) (stage : Stage) (received : Signal) (c : Call) (output : StepOutput) →
    ContinuesOrEnds now.at x c output.rows (transition config now received (at_stage x stage c) output)
unfolding transition
transition-goes config now x stage (signal.Request side key request) c output = check-goes (request_check (leg_of side x) request (busy_in stage side)) stage config now.at x side key request c output
transition-goes config now x stage (signal.Ack side ack) c output = ack-goes stage config now.at x side ack c output
transition-goes config now x stage (signal.Cancel key cancel invite) c output = cancel-goes stage config now.at x invite c output.rows (with_status_to config (at_stage x stage c) key cancel 200 output) refl
transition-goes config now x stage (signal.Answer key response) c output = answer-goes (awaited_request_branch response) stage config now x key response c output
transition-goes config now x stage (signal.Silent branch method) c output = timeout-goes (timed_out_branch branch method) stage config now x c output
transition-goes config now x stage (signal.Due what) c output =
    goes-if now.at x c output.rows (is_due_at stage c.successes what) _ _ (rung-goes stage config now.at x c output) (stays-established now.at x c output.rows x stage output refl refl refl)
transition-goes config now x stage (signal.Ended key) c output = untouched-established now.at x stage c output.rows _ (key-untouched key (at_stage x stage c) output)

-- where nothing is in flight any more, and what was sent before filed no CDR
goes-from : (at : ℕ) (x : EstablishedLegs) (c : Call) (rows before : List Row) (s : StepResult) → rows ≡ before → ContinuesOrEnds at x (without_in_flight c) rows s → ContinuesOrEnds at x c before s
goes-from at x c rows before s e (Continues y stage r) =
    Continues y stage
    (record { phase = r.phase; same = record { opening = r.same.opening; diversions = r.same.diversions; answered = r.same.answered; past = r.same.past }; caller = r.caller; callee = r.callee; none = r.none ∙ e })
goes-from at x c rows before s e (Ends y d output r) =
    Ends y d output
    (record { is = r.is; same = record { opening = r.same.opening; diversions = r.same.diversions; answered = r.same.answered; past = r.same.past }; caller = r.caller; callee = r.callee; none = r.none ∙ e })

pub goes : (config : CallConfigView) (now : SnapshotView) (x : EstablishedLegs) (stage : Stage) (received : Signal) (c : Call) (output : StepOutput) →
    ContinuesOrEnds now.at x c output.rows (step config now received (at_stage x stage c) output)
unfolding step
goes config now x stage received c output =
    let d : Call = at_stage x stage c in
    let left : StepOutput = output_after_dismissal config d output in
    goes-if now.at x c output.rows (leaves_by received d) (transition config now received (without_in_flight d) left) (transition config now received d output)
    (goes-from now.at x c left.rows output.rows (transition config now received (without_in_flight d) left) (dismissing-rows config d output) (transition-goes config now x stage received (without_in_flight c) left))
    (transition-goes config now x stage received c output)

-- ---- a call that is over

abbrev pub ended : Cause → Call → Call
ended cause c = record c { phase = Over cause }

over-timed-out : (branch : Option (List ℕ)) (config : CallConfigView) (now : SnapshotView) (cause : Cause) (c : Call) (output : StepOutput) →
    Untouched (ended cause c) output.rows (on_timeout_of branch config now (ended cause c) output)
over-timed-out None config now cause c output = untouched (ended cause c) output
over-timed-out (Some branch) config now cause c output = timed-out-untouched config branch (ended cause c) output

over-answered : (branch : Option (List ℕ)) (config : CallConfigView) (now : SnapshotView) (cause : Cause) (key : TKey) (m : MessageView) (c : Call) (output : StepOutput) →
    Untouched (ended cause c) output.rows (on_response_to branch config now key m (ended cause c) output)
over-answered None config now cause key m c output = untouched (ended cause c) output
over-answered (Some branch) config now cause key m c output = other-untouched config now.at key m branch (ended cause c) output

over-transition : (config : CallConfigView) (now : SnapshotView) (cause : Cause) (received : Signal) (c : Call) (output : StepOutput) →
    Untouched (ended cause c) output.rows (transition config now received (ended cause c) output)
unfolding transition
over-transition config now cause (signal.Request side key request) c output = untouched (ended cause c) output
over-transition config now cause (signal.Ack side ack) c output = untouched (ended cause c) output
over-transition config now cause (signal.Cancel key cancel invite) c output = untouched (ended cause c) output
over-transition config now cause (signal.Answer key response) c output = over-answered (awaited_request_branch response) config now cause key response c output
over-transition config now cause (signal.Silent branch method) c output = over-timed-out (timed_out_branch branch method) config now cause c output
over-transition config now cause (signal.Due what) c output = untouched (ended cause c) output
over-transition config now cause (signal.Ended key) c output = key-untouched key (ended cause c) output

-- no signal ends an attempt of it, or the call
pub no-leaving : (cause : Cause) (received : Signal) (c : Call) → leaves_by received (ended cause c) ≡ false
no-leaving cause (signal.Request side key request) c = refl
no-leaving cause (signal.Ack side ack) c = refl
no-leaving cause (signal.Cancel key cancel invite) c = refl
no-leaving cause (signal.Answer key response) c = by (awaited_request_branch response)
  where
    by : (branch : Option (List ℕ)) → leaves_on_response branch response (ended cause c) ≡ false
    by None = refl
    by (Some branch) = refl
no-leaving cause (signal.Silent branch method) c = by (timed_out_branch branch method)
  where
    by : (branch : Option (List ℕ)) → leaves_on_timeout_of branch (ended cause c) ≡ false
    by None = refl
    by (Some branch) = refl
no-leaving cause (signal.Due what) c = refl
no-leaving cause (signal.Ended key) c = refl

pub stays-over : (config : CallConfigView) (now : SnapshotView) (cause : Cause) (received : Signal) (c : Call) (output : StepOutput) →
    Untouched (ended cause c) output.rows (step config now received (ended cause c) output)
unfolding step
stays-over config now cause received c output =
    let d : Call = ended cause c in
    subst (λ b. Untouched d output.rows (if b then transition config now received (without_in_flight d) (output_after_dismissal config d output) else transition config now received d output))
    (sym (no-leaving cause received c)) (over-transition config now cause received c output)

-- What a call that is offered does on each signal: it continues to ring, or its attempt ends.
use Rattle.std.proofs.Common.{◌++◌, ◌∷◌, [], ◌≡◌, ℕ, ◌==◌, Bool, true, false, List, refl, ap, ◌∙◌}
use Rattle.std.proofs.lemmas.Bool.Decides.{nat_tests}
use Rattle.std.proofs.Common.{arith}
use Rattle.std.specs.Prelude.{Option, Some, None, codes, if◌then◌else◌, nat_lt, not, ◌&&◌, is_ok, Result, Ok, Err}
use Rattle.mmtel_compose.specs.Responses.{retry_after_lines}
use Rattle.mmtel_compose.specs.ReceivedMessages.{MessageView, status_of}
use Rattle.mmtel_output.specs.Outputs.{with_emit}
use Rattle.mmtel_output.specs.Sending.{with_final_ack}
use Rattle.mmtel_output.specs.declared.outputs.StepOutput.{StepOutput}
use Rattle.mmtel_leg.specs.declared.dialogues.DialogueFault.{DialogueFault}
use Rattle.mmtel_leg.specs.declared.dialogues.InFlight.TheVariants as in_flight
use Rattle.mmtel_leg.specs.declared.remotes.Remote.{Remote}
use Rattle.mmtel_lex.specs.declared.values.Uri.{Uri}
use Rattle.mmtel_precedence.specs.Attempts as attempts
use Rattle.mmtel_precedence.specs.Attempts.{end_by_final, end_by_redirection, end_by_response, end_by_time, rings}
use Rattle.mmtel_precedence.specs.Calls.{Answer, AttemptEndView, Cancel, NoReply, NotReachable, SnapshotView, Unacknowledged}
use Rattle.mmtel_reliable.specs.Acks.{has_own}
use Rattle.mmtel_reliable.specs.declared.racks.Rack.{Rack}
use Rattle.mmtel_transaction.specs.declared.words.DueWord.{DueWord}
use Rattle.mmtel_transaction.specs.declared.words.DueWord.TheVariants as due
use Rattle.mmtel_transaction.specs.declared.words.TKey.{TKey}
use Rattle.mmtel_types.specs.Causes.{status_of as status_by}
use Rattle.mmtel_types.specs.declared.causes.Cause.{Cause}
use Rattle.mmtel_types.specs.declared.causes.Cause.TheVariants as causes
use Rattle.mmtel_types.specs.declared.sides.Side.{Side}
use Rattle.mmtel_types.specs.declared.sides.Side.TheVariants.{Caller, Callee}
use Rattle.mmtel_call_services.specs.Decisions.{no_reply_time_of, redirect_of, service_sheet}
use Rattle.mmtel_output.specs.ResponseMatching.{awaited_request_branch, timed_out_branch}
use Rattle.mmtel_call_services.specs.Reliable.{reliable_number}
use Rattle.mmtel_call_services.specs.Requests.{is_same_side}
use Rattle.mmtel_call_services.specs.CopiedHeaders.{copied_lines}
use Rattle.mmtel_call_services.specs.CallConfig.{CallConfigView}
use Rattle.mmtel_call.specs.Closing.{StepResult, offered_call_end, step_result}
use Rattle.mmtel_call.specs.Diverting.{after_attempt}
use Rattle.mmtel_call.specs.RelayedTransactions.{output_after_dismissal, updating_side, without_in_flight}
use Rattle.mmtel_call.specs.OtherRequests.{on_other_timeout}
use Rattle.mmtel_call.specs.Reliable.{attempt_after_early_request, named_rseq, on_named_prack, on_rack, own_rseq_for, prack_time, rack_in, status_of_refusal, with_reliable_response}
use Rattle.mmtel_call.specs.Requests.{is_bye, is_prack, is_update, request_check, with_refused_request, with_response_to, with_unlisted_response}
use Rattle.mmtel_call.specs.Ringing.{ack_time, next_success, on_answer, with_no_reply_timer, with_no_reply_timer_in, with_attempt_cancel, early_remote_of, on_failure, on_caller_cancel}
use Rattle.mmtel_call.specs.Ringing.{end_before_answer, attempt_after_request, call_without_attempt, leg_with_remote, on_due, on_other, on_prack_of, on_request, on_request_if, on_response}
use Rattle.mmtel_call.specs.Ringing.{attempt_after_provisional, on_provisional, on_provisional_by, on_numbered_provisional, on_plain_provisional, on_attempt_timeout, on_trying}
use Rattle.mmtel_call.specs.Sending.{with_relay_to_caller, with_status_to, with_status_to_caller}
use Rattle.mmtel_call.specs.Table.{leaves, on_response_to, on_timeout_of, step, transition}
use Rattle.mmtel_call.specs.Updates.{accepts_updates, attempt_after_update, on_early_retry, on_early_update, on_update, other_leg, unless_updating}
use Rattle.mmtel_call.specs.declared.calls.Call.{Call}
use Rattle.mmtel_call.specs.declared.calls.EstablishedLegs.{EstablishedLegs}
use Rattle.mmtel_call.specs.declared.calls.Phase.TheVariants.{Established, Offered}
use Rattle.mmtel_call.specs.declared.calls.Stage.{Stage}
use Rattle.mmtel_call.specs.declared.calls.OfferedAttempt.{OfferedAttempt}
use Rattle.mmtel_call.specs.declared.signals.Signal.{Signal}
use Rattle.mmtel_call.specs.declared.signals.Signal.TheVariants as signal
use Rattle.mmtel_call_theorems.specs.Labels.{Accepted, HasOtherKey, InFlightHasOtherKeys, Refused, StageHasOtherKey, final_label, labels_of}
use Rattle.mmtel_call_theorems.proofs.Targets.{relayed-shown, status-labels}
use Rattle.mmtel_sheet_values.specs.declared.values.Sheet.{Sheet}
use Rattle.mmtel_transaction.specs.declared.words.Emit.{Emit}
use Rattle.mmtel_transaction.specs.declared.words.Emit.TheVariants as emit
use Rattle.std.proofs.Common.{◌+◌, sym}
use Rattle.mmtel_call_theorems.proofs.Labels.{Quiet, asked-quiet, dismissing-quiet, labels-more, named-quiet, other-quiet, quiet-cancelled, quiet-emit, quiet-expiry}
use Rattle.mmtel_call_theorems.proofs.Labels.{quiet-final-acked, quiet-if, quiet-provisional, quiet-refused_request, quiet-reply, quiet-unlisted, timed-out-quiet}
use Rattle.std.proofs.lemmas.List.{append-nil}
use Rattle.mmtel_call_theorems.specs.Endings.{end_of_attempt, end_on_deadline, end_on_request, end_on_response, end_on_timeout}
use Rattle.mmtel_call_theorems.proofs.UnchangedCalls.{SameCall, Untouched, cancelled-rows, dismissing-rows, if-rows, key-untouched, other-untouched}
use Rattle.mmtel_call_theorems.proofs.UnchangedCalls.{refused_request-rows, same_call, settled-rows, timed-out-untouched, unlisted-rows}
use Rattle.mmtel_session.specs.Intervals.{expiry_interval_of}

-- it continues to ring
pub record StillRings (P : Type 0) (x : OfferedAttempt) (c : Call) (before : StepOutput) (s : StepResult) (y : OfferedAttempt) : Type 0 where
  pub phase : s.call.phase ≡ Offered y
  pub same : SameCall c s.call
  pub caller : y.caller.meter ≡ x.caller.meter
  pub callee : y.callee.leg.meter ≡ x.callee.leg.meter
  pub service : y.attempt.service ≡ x.attempt.service
  pub none : s.output.rows ≡ before.rows
  pub shown : P → labels_of c.opening.key s.output.out ≡ labels_of c.opening.key before.out

-- a 2xx was received
pub record WasAnswered (P : Type 0) (at : ℕ) (x : OfferedAttempt) (c : Call) (before : StepOutput) (s : StepResult) (y : EstablishedLegs) (stage : Stage) : Type 0 where
  pub phase : s.call.phase ≡ Established y stage
  pub opening : s.call.opening ≡ c.opening
  pub diversions : s.call.diversions ≡ c.diversions
  pub past : s.call.past ≡ c.past
  pub answered : s.call.answered ≡ Some at
  pub awaits : (key : TKey) → StageHasOtherKey key stage
  pub caller : y.caller.meter ≡ x.caller.meter
  pub callee : y.callee.meter ≡ x.callee.leg.meter
  pub none : s.output.rows ≡ before.rows
  pub shown : P → labels_of c.opening.key s.output.out ≡ labels_of c.opening.key before.out ++ Accepted ∷ []

-- how the call ends before it was answered: the caller abandoned it, or did not acknowledge a reliable response
abbrev pub given_how : (by_caller : Bool) → AttemptEndView
given_how true = Cancel
given_how false = Unacknowledged

abbrev pub given_cause : (by_caller : Bool) → Cause
given_cause true = causes.Cancelled
given_cause false = causes.Unacknowledged

-- it ends in this way
pub record WasGivenUp (P : Type 0) (at : ℕ) (cause : Cause) (x : OfferedAttempt) (c : Call) (before : StepOutput) (s : StepResult) (y : OfferedAttempt) (d : Call) (output : StepOutput) : Type 0 where
  pub is : s ≡ offered_call_end at cause y d output
  pub same : SameCall c d
  pub caller : y.caller.meter ≡ x.caller.meter
  pub callee : y.callee.leg.meter ≡ x.callee.leg.meter
  pub none : output.rows ≡ before.rows
  pub shown : P → labels_of c.opening.key output.out ≡ labels_of c.opening.key before.out ++ final_label (status_by cause)

-- the attempt failed
pub record WentOn (P : Type 0) (config : CallConfigView) (now : SnapshotView) (x : OfferedAttempt) (c : Call) (before : StepOutput) (s : StepResult) (how : AttemptEndView) (m : Option MessageView)
    (d : Call) (output : StepOutput) : Type 0 where
  pub is : s ≡ after_attempt config now x how m d output
  pub same : SameCall c d
  pub unanswered : how ≡ Answer → ⊥
  pub none : output.rows ≡ before.rows
  pub shown : P → labels_of c.opening.key output.out ≡ labels_of c.opening.key before.out

pub data AttemptStep (P : Type 0) (config : CallConfigView) (now : SnapshotView) (x : OfferedAttempt) (c : Call) (before : StepOutput) (end : Option AttemptEndView) (s : StepResult) : Type 0 where
  Rings : end ≡ None → (y : OfferedAttempt) → StillRings P x c before s y → AttemptStep P config now x c before end s
  Answers : end ≡ Some Answer → (y : EstablishedLegs) → (stage : Stage) → WasAnswered P now.at x c before s y stage → AttemptStep P config now x c before end s
  GivesUp : (by_caller : Bool) → end ≡ Some (given_how by_caller) → (y : OfferedAttempt) → (d : Call) → (output : StepOutput) → WasGivenUp P now.at (given_cause by_caller) x c before s y d output →
      AttemptStep P config now x c before end s
  GoesOn : (how : AttemptEndView) → end ≡ Some how → (m : Option MessageView) → (d : Call) → (output : StepOutput) → WentOn P config now x c before s how m d output → AttemptStep P config now x c before end s

-- the call as it is offered
abbrev pub offered : OfferedAttempt → Call → Call
offered x c = record c { phase = Offered x }

still : (P : Type 0) (config : CallConfigView) (now : SnapshotView) (x : OfferedAttempt) (c : Call) (before : StepOutput) (y : OfferedAttempt) (output : StepOutput) → y.caller.meter ≡ x.caller.meter →
    y.callee.leg.meter ≡ x.callee.leg.meter → y.attempt.service ≡ x.attempt.service →
    output.rows ≡ before.rows → (P → labels_of c.opening.key output.out ≡ labels_of c.opening.key before.out) → AttemptStep P config now x (offered x c) before None (step_result (offered y c) output)
still P config now x c before y output e f g h q =
    Rings refl y (record { phase = refl; same = record { opening = refl; diversions = refl; answered = refl; past = refl }; caller = e; callee = f; service = g; none = h; shown = q })

same-rings : (P : Type 0) (config : CallConfigView) (now : SnapshotView) (x : OfferedAttempt) (c : Call) (before : StepOutput) (s : StepResult) → Untouched (offered x c) before.rows s →
    (P → labels_of c.opening.key s.output.out ≡ labels_of c.opening.key before.out) →
    AttemptStep P config now x (offered x c) before None s
same-rings P config now x c before s u q = Rings refl x (record { phase = u.phase; same = u.same; caller = refl; callee = refl; service = refl; none = u.none; shown = q })

outcome-if : (P : Type 0) (config : CallConfigView) (now : SnapshotView) (x : OfferedAttempt) (c : Call) (before : StepOutput) (b : Bool) (end end2 : Option AttemptEndView) (s s2 : StepResult) →
    AttemptStep P config now x c before end s → AttemptStep P config now x c before end2 s2 →
    AttemptStep P config now x c before (if b then end else end2) (if b then s else s2)
outcome-if P config now x c before true end end2 s s2 f g = f
outcome-if P config now x c before false end end2 s s2 f g = g

-- ---- the call is abandoned

gives-up-by : (P : Type 0) (by_caller : Bool) (config : CallConfigView) (now : SnapshotView) (x y : OfferedAttempt) (c : Call) (before : StepOutput) (output : StepOutput) →
    y.caller.meter ≡ x.caller.meter → y.callee.leg.meter ≡ x.callee.leg.meter → output.rows ≡ before.rows →
    (P → labels_of c.opening.key output.out ≡ labels_of c.opening.key before.out) →
    AttemptStep P config now x (offered x c) before (Some (given_how by_caller)) (end_before_answer (given_cause by_caller) config now.at y (offered y c) output)
gives-up-by P by_caller config now x y c before output e f h q =
    let code : ℕ = status_by (given_cause by_caller) in
    let told : StepOutput = with_status_to_caller config (offered y c) code output in
    GivesUp by_caller refl y (call_without_attempt y (offered y c)) (with_attempt_cancel config y told) (record {
      is = refl;
      same = record { opening = refl; diversions = refl; answered = refl; past = refl };
      caller = e;
      callee = f;
      none = cancelled-rows config.sip y.attempt.invite told ∙ h;
      shown = λ p. (quiet-cancelled c.opening.key config.sip y.attempt.invite told).labels ∙ status-labels config (offered y c) code output ∙ ap (λ l. l ++ final_label code) (q p);
    })

gives-up : (P : Type 0) (config : CallConfigView) (now : SnapshotView) (x y : OfferedAttempt) (c : Call) (before : StepOutput) (output : StepOutput) → y.caller.meter ≡ x.caller.meter →
    y.callee.leg.meter ≡ x.callee.leg.meter → output.rows ≡ before.rows →
    (P → labels_of c.opening.key output.out ≡ labels_of c.opening.key before.out) → AttemptStep P config now x (offered x c) before (Some Cancel) (on_caller_cancel config now.at y (offered y c) output)
gives-up P config now x y c before output e f h q = gives-up-by P true config now x y c before output e f h q

-- ---- requests

-- after a request of a side was accepted: the call as it is offered then, and its legs
module _ (P : Type 0) (config : CallConfigView) (now : SnapshotView) (x y : OfferedAttempt) (key : TKey) (m : MessageView) (c : Call) (output : StepOutput) (caller : y.caller.meter ≡ x.caller.meter)
    (callee : y.callee.leg.meter ≡ x.callee.leg.meter)
    (service : y.attempt.service ≡ x.attempt.service) (own : P → (key.0 == c.opening.key.0) ≡ false) where
  abbrev Does : StepResult → Type 0
  Does s = AttemptStep P config now x (offered x c) output None s

  does-if : (b : Bool) (one two : StepResult) → Does one → Does two → Does (if b then one else two)
  does-if true one two f g = f
  does-if false one two f g = g

  -- a reply of the server's own
  refused : (output2 : StepOutput) → output2.rows ≡ output.rows → (P → labels_of c.opening.key output2.out ≡ labels_of c.opening.key output.out) → Does (step_result (offered y c) output2)
  refused output2 e q = still P config now x c output y output2 caller callee service e q

  acknowledging-rings : (rack : Rack) (answer : Option ℕ) → Does (on_named_prack config y key m rack answer (offered y c) output)
  acknowledging-rings rack None = refused (with_status_to config (offered y c) key m (status_of_refusal (rack_in m)) output) refl (λ p. (quiet-reply c.opening.key key _ _ _ output (own p)).labels)
  acknowledging-rings rack (Some answer) = Rings refl (attempt_after_early_request (codes "PRACK") y) (record {
    phase = refl;
    same = record { opening = refl; diversions = refl; answered = refl; past = refl };
    caller = caller;
    callee = callee;
    service = service;
    none = settled-rows config (Some rack.answer) (offered y c) output;
    shown = λ p. (named-quiet c.opening.key config y key m rack (Some answer) (offered y c) output (own p)).labels;
  })

  rack-rings : (rack : Option Rack) → Does (on_rack config y key m rack (offered y c) output)
  rack-rings None = refused (with_status_to config (offered y c) key m (status_of_refusal (rack_in m)) output) refl (λ p. (quiet-reply c.opening.key key _ _ _ output (own p)).labels)
  rack-rings (Some rack) = acknowledging-rings rack (named_rseq y (offered y c) rack)

  prack-rings : (side : Side) → Does (on_prack_of side config y key m (offered y c) output)
  prack-rings Caller = rack-rings (rack_in m)
  prack-rings Callee = refused (with_status_to config (offered y c) key m (status_of_refusal (rack_in m)) output) refl (λ p. (quiet-reply c.opening.key key _ _ _ output (own p)).labels)

  later-rings : Does (on_early_retry config key m (offered y c) output)
  later-rings = refused (with_response_to config (offered y c) key m 500 retry_after_lines output) refl (λ p. (quiet-reply c.opening.key key _ _ _ output (own p)).labels)

  across-rings : (side : Side) → (P → labels_of c.opening.key (on_early_update config y side key m (offered y c) output).output.out ≡ labels_of c.opening.key output.out) →
      Does (on_early_update config y side key m (offered y c) output)
  across-rings Caller q = Rings refl (attempt_after_update Caller y)
      (record { phase = refl; same = record { opening = refl; diversions = refl; answered = refl; past = refl }; caller = caller; callee = callee; service = service; none = refl; shown = q })
  across-rings Callee q = Rings refl (attempt_after_update Callee y)
      (record { phase = refl; same = record { opening = refl; diversions = refl; answered = refl; past = refl }; caller = caller; callee = callee; service = service; none = refl; shown = q })

  unless-rings : (side : Side) (other : Option Side) → Does (unless_updating other (on_early_update config y side key m) config side key m (offered y c) output)
  unless-rings side None = across-rings side (λ p. (asked-quiet c.opening.key config.sip (codes "UPDATE") (other_leg side y).dialogue
      (copied_lines config c.opening c.diversions y.attempt.service side (other_leg side y).dialogue.peer m) m.parsed output refl).labels)
  unless-rings side (Some other) =
      does-if (is_same_side other side) _ _ later-rings (refused (with_status_to config (offered y c) key m 491 output) refl (λ p. (quiet-reply c.opening.key key _ _ _ output (own p)).labels))

  update-rings : (side : Side) → Does (on_update config y side key m (offered y c) output)
  update-rings side = does-if (accepts_updates y) _ _ (unless-rings side (updating_side c.relayed)) later-rings

  other-rings : (side : Side) → Does (on_other config y side key m (offered y c) output)
  other-rings side =
      does-if (is_prack m) _ _ (prack-rings side)
      (does-if (is_update m) _ _ (update-rings side)
      (refused (with_unlisted_response config (offered y c) key m output) (unlisted-rows config (offered y c) key m output) (λ p. (quiet-unlisted c.opening.key config (offered y c) key m output (own p)).labels)))

caller-received :
    (P : Type 0) (config : CallConfigView) (now : SnapshotView) (x : OfferedAttempt) (key : TKey) (m : MessageView) (c : Call) (output : StepOutput) (said : Result (Unit {0}) DialogueFault) →
    (P → (key.0 == c.opening.key.0) ≡ false) →
    AttemptStep P config now x (offered x c) output (if is_ok said && is_bye m then Some Cancel else None) (on_request_if said config now.at x Caller key m (offered x c) output)
caller-received P config now x key m c output (Ok received) own =
    let y = attempt_after_request Caller m x in
    outcome-if P config now x (offered x c) output (is_bye m) (Some Cancel) None _ _
    (gives-up P config now x y c output (with_status_to config (offered y c) key m 200 output) refl refl refl (λ p. (quiet-reply c.opening.key key _ _ _ output (own p)).labels))
    (other-rings P config now x y key m c output refl refl refl own Caller)
caller-received P config now x key m c output (Err fault) own =
    still P config now x c output x (with_refused_request config (offered x c) key m fault output) refl refl refl (refused_request-rows config (offered x c) key m fault output)
    (λ p. (quiet-refused_request c.opening.key config (offered x c) key m fault output (own p)).labels)

callee-received :
    (P : Type 0) (config : CallConfigView) (now : SnapshotView) (x : OfferedAttempt) (key : TKey) (m : MessageView) (c : Call) (output : StepOutput) (said : Result (Unit {0}) DialogueFault) →
    (P → (key.0 == c.opening.key.0) ≡ false) →
    AttemptStep P config now x (offered x c) output None (on_request_if said config now.at x Callee key m (offered x c) output)
callee-received P config now x key m c output (Ok received) own = other-rings P config now x (attempt_after_request Callee m x) key m c output refl refl refl own Callee
callee-received P config now x key m c output (Err fault) own =
    still P config now x c output x (with_refused_request config (offered x c) key m fault output) refl refl refl (refused_request-rows config (offered x c) key m fault output)
    (λ p. (quiet-refused_request c.opening.key config (offered x c) key m fault output (own p)).labels)

request-outcome : (P : Type 0) (config : CallConfigView) (now : SnapshotView) (x : OfferedAttempt) (side : Side) (key : TKey) (m : MessageView) (c : Call) (output : StepOutput) →
    (P → (key.0 == c.opening.key.0) ≡ false) →
    AttemptStep P config now x (offered x c) output (end_on_request x side m) (on_request config now.at x side key m (offered x c) output)
request-outcome P config now x Caller key m c output own = caller-received P config now x key m c output (request_check x.caller m in_flight.Theirs) own
request-outcome P config now x Callee key m c output own = callee-received P config now x key m c output (request_check x.callee.leg m in_flight.Own) own

-- ---- deadlines and timeouts

timed : (P : Type 0) (config : CallConfigView) (now : SnapshotView) (x : OfferedAttempt) (how : AttemptEndView) (c : Call) (output : StepOutput) → (how ≡ Answer → ⊥) →
    AttemptStep P config now x (offered x c) output (Some how) (on_attempt_timeout config now x how (offered x c) output)
timed P config now x how c output h = GoesOn how refl None (call_without_attempt x (offered x c)) (with_attempt_cancel config x output) (record {
  is = refl;
  same = record { opening = refl; diversions = refl; answered = refl; past = refl };
  unanswered = h;
  none = cancelled-rows config.sip x.attempt.invite output;
  shown = λ p. (quiet-cancelled c.opening.key config.sip x.attempt.invite output).labels;
})

time-unanswered : (rang : Bool) → end_by_time rang ≡ Answer → ⊥
time-unanswered true e = cc
time-unanswered false e = cc

no-reply-unanswered : NoReply ≡ Answer → ⊥
no-reply-unanswered e = cc

out-of-reach-unanswered : (code : ℕ) → NotReachable code ≡ Answer → ⊥
out-of-reach-unanswered code e = cc

stays : (P : Type 0) (config : CallConfigView) (now : SnapshotView) (x : OfferedAttempt) (c : Call) (output : StepOutput) → AttemptStep P config now x (offered x c) output None (step_result (offered x c) output)
stays P config now x c output = still P config now x c output x output refl refl refl refl (λ p. refl)

due-outcome : (P : Type 0) (config : CallConfigView) (now : SnapshotView) (x : OfferedAttempt) (what : DueWord) (c : Call) (output : StepOutput) →
    AttemptStep P config now x (offered x c) output (end_on_deadline x c.acks what) (on_due config now x what (offered x c) output)
due-outcome P config now x (due.NoReply number) c output =
    outcome-if P config now x (offered x c) output (number == x.attempt.number) _ _ _ _ (timed P config now x NoReply c output no-reply-unanswered) (stays P config now x c output)
due-outcome P config now x (due.NoPrack own) c output =
    outcome-if P config now x (offered x c) output (has_own own c.acks.waiting) _ _ _ _ (gives-up-by P false config now x x c output output refl refl refl (λ p. refl)) (stays P config now x c output)
due-outcome P config now x (due.Cap number) c output =
    outcome-if P config now x (offered x c) output (number == x.attempt.number) _ _ _ _ (timed P config now x (end_by_time x.attempt.rang) c output (time-unanswered x.attempt.rang)) (stays P config now x c output)
due-outcome P config now x (due.NoAck number) c output = stays P config now x c output
due-outcome P config now x (due.Expired number) c output = stays P config now x c output

gone-quiet : (P : Type 0) (config : CallConfigView) (now : SnapshotView) (x : OfferedAttempt) (c : Call) (output : StepOutput) (its rang : Bool) (branch : List ℕ) → (P → InFlightHasOtherKeys c.opening.key c.relayed) →
    AttemptStep P config now x (offered x c) output (if its && not rang then Some (NotReachable 408) else None)
    (if its then (if rang then step_result (offered x c) output else after_attempt config now x (NotReachable 408) None (offered x c) output) else on_other_timeout config branch (offered x c) output)
gone-quiet P config now x c output true true branch fly = stays P config now x c output
gone-quiet P config now x c output true false branch fly =
    GoesOn (NotReachable 408) refl None (offered x c) output (record { is = refl; same = same_call (offered x c); unanswered = out-of-reach-unanswered 408; none = refl; shown = λ p. refl })
gone-quiet P config now x c output false rang branch fly =
    same-rings P config now x c output _ (timed-out-untouched config branch (offered x c) output) (λ p. (timed-out-quiet c.opening.key config branch (offered x c) output (fly p)).labels)

timeout-outcome : (P : Type 0) (config : CallConfigView) (now : SnapshotView) (x : OfferedAttempt) (branch : Option (List ℕ)) (c : Call) (output : StepOutput) → (P → InFlightHasOtherKeys c.opening.key c.relayed) →
    AttemptStep P config now x (offered x c) output (end_on_timeout x branch) (on_timeout_of branch config now (offered x c) output)
timeout-outcome P config now x None c output fly = stays P config now x c output
timeout-outcome P config now x (Some branch) c output fly = gone-quiet P config now x c output (Rattle.mmtel_call_theorems.specs.Endings.is_branch_of_attempt x branch) x.attempt.rang branch fly

-- ---- responses

armed-rows : (time : Option ℕ) (at : ℕ) (x : OfferedAttempt) (c : Call) (output : StepOutput) → (with_no_reply_timer_in time at x.attempt c output).rows ≡ output.rows
armed-rows None at x c output = refl
armed-rows (Some time) at x c output = refl

armed-quiet : (sheet : Option Sheet) (code at : ℕ) (x : OfferedAttempt) (c : Call) (output : StepOutput) →
    Quiet c.opening.key output (if rings code && not x.attempt.rang then with_no_reply_timer_in (no_reply_time_of sheet) at x.attempt c output else output)
armed-quiet sheet code at x c output = quiet-if c.opening.key output (rings code && not x.attempt.rang) (with_no_reply_timer_in (no_reply_time_of sheet) at x.attempt c output) output
    (go (no_reply_time_of sheet)) (Rattle.mmtel_call_theorems.proofs.Labels.quiet c.opening.key output)
  where
    go : (time : Option ℕ) → Quiet c.opening.key output (with_no_reply_timer_in time at x.attempt c output)
    go None = Rattle.mmtel_call_theorems.proofs.Labels.quiet c.opening.key output
    go (Some time) = quiet-emit c.opening.key output _ refl

tries : (P : Type 0) (config : CallConfigView) (now : SnapshotView) (x : OfferedAttempt) (key : TKey) (c : Call) (output : StepOutput) →
    AttemptStep P config now x (offered x c) output None (on_trying key x (offered x c) output)
tries P config now x key c output = Rings refl _ (record {
  phase = refl;
  same = record { opening = refl; diversions = refl; answered = refl; past = refl };
  caller = refl;
  callee = refl;
  service = refl;
  none = refl;
  shown = λ p. refl;
})

met-meter : (remote : Option Remote) (x : OfferedAttempt) → (leg_with_remote remote x.callee).leg.meter ≡ x.callee.leg.meter
met-meter None x = refl
met-meter (Some remote) x = refl

plainly : (P : Type 0) (config : CallConfigView) (now : SnapshotView) (x : OfferedAttempt) (key : TKey) (m : MessageView) (code : ℕ) (c : Call) (output : StepOutput) → nat_lt (status_of m.parsed.start) 200 ≡ true →
    AttemptStep P config now x (offered x c) output None (on_plain_provisional config now.at x key m code (offered x c) output)
plainly P config now x key m code c output low =
    let passed : StepOutput = with_relay_to_caller config (offered x c) x.attempt.service m output in
    Rings refl (attempt_after_provisional x key m code) (record {
      phase = refl;
      same = record { opening = refl; diversions = refl; answered = refl; past = refl };
      caller = refl;
      callee = met-meter (early_remote_of x.callee m) x;
      service = refl;
      none = if-rows (rings code && not x.attempt.rang) _ _ output.rows (armed-rows (no_reply_time_of (service_sheet x.attempt.service)) now.at x (offered x c) passed) refl;
      shown = λ p. (armed-quiet (service_sheet x.attempt.service) code now.at x (offered x c) passed).labels ∙ (quiet-provisional c.opening.key c.opening.key _ _ _ output low).labels;
    })

-- a reliable response
if-relayed : (P : Type 0) (config : CallConfigView) (now : SnapshotView) (x : OfferedAttempt) (key : TKey) (m : MessageView) (code rseq : ℕ) (given : Option ℕ) (c : Call) (output : StepOutput) →
    nat_lt (status_of m.parsed.start) 200 ≡ true →
    AttemptStep P config now x (offered x c) output None (on_numbered_provisional given rseq config now.at x key m code (offered x c) output)
if-relayed P config now x key m code rseq None c output low = tries P config now x key c output
if-relayed P config now x key m code rseq (Some own) c output low =
    let passed : StepOutput = with_reliable_response config (offered x c) x.attempt.service own m output in
    let rung : StepOutput = with_no_reply_timer code now.at x.attempt (offered x c) passed in
    Rings refl (attempt_after_provisional x key m code) (record {
      phase = refl;
      same = record { opening = refl; diversions = refl; answered = refl; past = refl };
      caller = refl;
      callee = met-meter (early_remote_of x.callee m) x;
      service = refl;
      none = if-rows (rings code && not x.attempt.rang) _ _ output.rows (armed-rows (no_reply_time_of (service_sheet x.attempt.service)) now.at x (offered x c) passed) refl;
      shown = λ p.
          (quiet-emit c.opening.key rung (emit.Arm c.opening.number (due.NoPrack own) (now.at + prack_time)) refl).labels
          ∙ (armed-quiet (service_sheet x.attempt.service) code now.at x (offered x c) passed).labels ∙ (quiet-provisional c.opening.key c.opening.key _ _ _ output low).labels;
    })

proceeds-by : (P : Type 0) (config : CallConfigView) (now : SnapshotView) (x : OfferedAttempt) (key : TKey) (m : MessageView) (code : ℕ) (number : Option ℕ) (c : Call) (output : StepOutput) →
    nat_lt (status_of m.parsed.start) 200 ≡ true →
    AttemptStep P config now x (offered x c) output None (on_provisional_by number config now.at x key m code (offered x c) output)
proceeds-by P config now x key m code None c output low = plainly P config now x key m code c output low
proceeds-by P config now x key m code (Some rseq) c output low = if-relayed P config now x key m code rseq (own_rseq_for rseq x m (offered x c)) c output low

proceeds : (P : Type 0) (config : CallConfigView) (now : SnapshotView) (x : OfferedAttempt) (key : TKey) (m : MessageView) (code : ℕ) (c : Call) (output : StepOutput) →
    nat_lt (status_of m.parsed.start) 200 ≡ true → AttemptStep P config now x (offered x c) output None (on_provisional config now.at x key m code (offered x c) output)
proceeds P config now x key m code c output low = proceeds-by P config now x key m code (reliable_number config c.opening m) c output low

answers : (P : Type 0) (config : CallConfigView) (now : SnapshotView) (x : OfferedAttempt) (key : TKey) (m : MessageView) (c : Call) (output : StepOutput) (end : AttemptEndView) →
    final_label (status_of m.parsed.start) ≡ Accepted ∷ [] → end ≡ Answer → AttemptStep P config now x (offered x c) output (Some end) (on_answer config now.at x key m (offered x c) output)
answers P config now x key m c output end accepted e = Answers (ap Some e) _ _ (record {
  phase = refl;
  opening = refl;
  diversions = refl;
  past = refl;
  answered = refl;
  awaits = λ key. tt;
  caller = refl;
  callee = refl;
  none = refl;
  shown = λ p.
      let given = with_relay_to_caller config (offered x c) x.attempt.service m output in
      let arm : Emit = emit.Arm c.opening.number (due.NoAck (next_success (offered x c))) (now.at + ack_time) in
      (quiet-expiry c.opening.key config.timer (expiry_interval_of m.parsed.session) now.at (offered x c) (with_emit arm given)).labels ∙ labels-more c.opening.key given.out arm
      ∙ append-nil (labels_of c.opening.key given.out) ∙ relayed-shown config (offered x c) x.attempt.service m output ∙ ap (λ l. labels_of c.opening.key output.out ++ l) accepted;
})

fails : (P : Type 0) (config : CallConfigView) (now : SnapshotView) (x : OfferedAttempt) (key : TKey) (m : MessageView) (code : ℕ) (c : Call) (output : StepOutput) →
    (end_by_final code (redirect_of m) x.attempt.rang ≡ Answer → ⊥) →
    AttemptStep P config now x (offered x c) output (Some (end_by_final code (redirect_of m) x.attempt.rang)) (on_failure config now x key m code (offered x c) output)
fails P config now x key m code c output h =
    GoesOn (end_by_final code (redirect_of m) x.attempt.rang) refl (Some m) (offered x c) (with_final_ack config.sip key x.attempt.invite m.parsed output)
    (record { is = refl; same = same_call (offered x c); unanswered = h; none = refl; shown = λ p. (quiet-final-acked c.opening.key key config.sip x.attempt.invite m.parsed output).labels })

redirection-unanswered : (code : ℕ) (target : Option Uri) (rang : Bool) → end_by_redirection code target rang ≡ Answer → ⊥
redirection-unanswered code None rang e = cc
redirection-unanswered code (Some target) rang e = go (code == 302) e
  where
    go : (b : Bool) → (if b then Rattle.mmtel_precedence.specs.Calls.Deflection target rang else Rattle.mmtel_precedence.specs.Calls.Other 480) ≡ Answer → ⊥
    go true e = cc
    go false e = cc

-- the end of an attempt by a final response, by its class
abbrev final_by : (success busy unreachable redirection : Bool) → ℕ → Option Uri → (rang : Bool) → AttemptEndView
final_by success busy unreachable redirection code target rang =
    if success then Answer
    else if busy then Rattle.mmtel_precedence.specs.Calls.UserBusy code
    else if unreachable then NotReachable code
    else if redirection then end_by_redirection code target rang
    else Rattle.mmtel_precedence.specs.Calls.Other code

final-unanswered : (success busy unreachable redirection : Bool) (code : ℕ) (target : Option Uri) (rang : Bool) → success ≡ false → final_by success busy unreachable redirection code target rang ≡ Answer → ⊥
final-unanswered true busy unreachable redirection code target rang f e = cc
final-unanswered false true unreachable redirection code target rang f e = cc
final-unanswered false false true redirection code target rang f e = cc
final-unanswered false false false true code target rang f e = redirection-unanswered code target rang e
final-unanswered false false false false code target rang f e = cc

pub final-answered : (success busy unreachable redirection : Bool) (code : ℕ) (target : Option Uri) (rang : Bool) → success ≡ true → final_by success busy unreachable redirection code target rang ≡ Answer
final-answered true busy unreachable redirection code target rang f = refl
final-answered false busy unreachable redirection code target rang f = absurd cc

-- a 2xx is observed as one
accepted-label : (code : ℕ) → nat_lt code 200 ≡ false → nat_lt code 300 ≡ true → final_label code ≡ Accepted ∷ []
accepted-label code e f = go (nat_lt code 200) (nat_lt code 300) e f
  where
    go : (low success : Bool) → low ≡ false → success ≡ true → (if low then [] else if success then Accepted ∷ [] else Refused code ∷ []) ≡ Accepted ∷ []
    go true success e f = absurd cc
    go false true e f = refl
    go false false e f = absurd cc

-- by the class of its status
class-outcome : (P : Type 0) (config : CallConfigView) (now : SnapshotView) (x : OfferedAttempt) (key : TKey) (m : MessageView) (code : ℕ) (c : Call) (output : StepOutput) (trying provisional success : Bool) →
    code ≡ status_of m.parsed.start → provisional ≡ nat_lt code 200 → success ≡ nat_lt code 300 → (trying ≡ true → provisional ≡ true) →
    (provisional ≡ false → success ≡ true → end_by_final code (redirect_of m) x.attempt.rang ≡ Answer) →
    (success ≡ false → end_by_final code (redirect_of m) x.attempt.rang ≡ Answer → ⊥) →
    AttemptStep P config now x (offered x c) output (if provisional then None else Some (end_by_final code (redirect_of m) x.attempt.rang))
    (if trying then on_trying key x (offered x c) output else if provisional then on_provisional config now.at x key m code (offered x c) output else if success
    then on_answer config now.at x key m (offered x c) output else on_failure config now x key m code (offered x c) output)
class-outcome P config now x key m code c output true true success s u v e f g = tries P config now x key c output
class-outcome P config now x key m code c output true false success s u v e f g = absurd (let h : false ≡ true = e refl in cc)
class-outcome P config now x key m code c output false true success s u v e f g = proceeds P config now x key m code c output (ap (λ n. nat_lt n 200) (sym s) ∙ sym u)
class-outcome P config now x key m code c output false false true s u v e f g = answers P config now x key m c output (end_by_final code (redirect_of m) x.attempt.rang)
    (accepted-label (status_of m.parsed.start) (ap (λ n. nat_lt n 200) (sym s) ∙ sym u) (ap (λ n. nat_lt n 300) (sym s) ∙ sym v)) (f refl refl)
class-outcome P config now x key m code c output false false false s u v e f g = fails P config now x key m code c output (g refl)

pub trying-provisional : (code : ℕ) → nat_lt code 101 ≡ true → nat_lt code 200 ≡ true
trying-provisional code e = grind (arith, nat_tests)

pub success-yes : (code : ℕ) → nat_lt code 200 ≡ false → nat_lt code 300 ≡ true → attempts.is_success code ≡ true
success-yes code e f = grind (arith, nat_tests)

success-no : (code : ℕ) → nat_lt code 300 ≡ false → attempts.is_success code ≡ false
success-no code f = grind (arith, nat_tests)

response-outcome : (P : Type 0) (config : CallConfigView) (now : SnapshotView) (x : OfferedAttempt) (key : TKey) (m : MessageView) (code : ℕ) (c : Call) (output : StepOutput) → code ≡ status_of m.parsed.start →
    AttemptStep P config now x (offered x c) output (end_by_response code (redirect_of m) x.attempt.rang) (on_response config now x key m code (offered x c) output)
response-outcome P config now x key m code c output s =
    class-outcome P config now x key m code c output (nat_lt code 101) (nat_lt code 200) (nat_lt code 300) s refl refl (trying-provisional code)
    (λ e f. final-answered (attempts.is_success code) _ _ _ code (redirect_of m) x.attempt.rang (success-yes code e f))
    (λ e. final-unanswered (attempts.is_success code) _ _ _ code (redirect_of m) x.attempt.rang (success-no code e))

answer-outcome : (P : Type 0) (config : CallConfigView) (now : SnapshotView) (x : OfferedAttempt) (key : TKey) (m : MessageView) (branch : Option (List ℕ)) (c : Call) (output : StepOutput) →
    (P → InFlightHasOtherKeys c.opening.key c.relayed) →
    AttemptStep P config now x (offered x c) output (end_on_response x m branch) (on_response_to branch config now key m (offered x c) output)
answer-outcome P config now x key m None c output fly = stays P config now x c output
answer-outcome P config now x key m (Some branch) c output fly =
    outcome-if P config now x (offered x c) output (Rattle.mmtel_call_theorems.specs.Endings.is_branch_of_attempt x branch) _ _ _ _ (response-outcome P config now x key m (status_of m.parsed.start) c output refl)
    (same-rings P config now x c output _ (other-untouched config now.at key m branch (offered x c) output) (λ p. (other-quiet c.opening.key config now.at key m branch (offered x c) output (fly p)).labels))

-- ---- any signal

-- what is received, and the requests that await their responses, have server transactions of their own
abbrev pub IsOwn : Call → Signal → Type 0
IsOwn c received = HasOtherKey c.opening.key received × InFlightHasOtherKeys c.opening.key c.relayed

transition-outcome : (P : Type 0) (config : CallConfigView) (now : SnapshotView) (x : OfferedAttempt) (received : Signal) (c : Call) (output : StepOutput) → (P → HasOtherKey c.opening.key received) →
    (P → InFlightHasOtherKeys c.opening.key c.relayed) →
    AttemptStep P config now x (offered x c) output (end_of_attempt x (offered x c) received) (transition config now received (offered x c) output)
unfolding transition
transition-outcome P config now x (signal.Request side key request) c output own fly = request-outcome P config now x side key request c output own
transition-outcome P config now x (signal.Ack side ack) c output own fly = stays P config now x c output
transition-outcome P config now x (signal.Cancel key cancel invite) c output own fly =
    outcome-if P config now x (offered x c) output (invite.0 == c.opening.key.0) _ _ _ _
    (gives-up P config now x x c output (with_status_to config (offered x c) key cancel 200 output) refl refl refl (λ p. (quiet-reply c.opening.key key _ _ _ output (own p)).labels))
    (still P config now x c output x (with_status_to config (offered x c) key cancel 200 output) refl refl refl refl (λ p. (quiet-reply c.opening.key key _ _ _ output (own p)).labels))
transition-outcome P config now x (signal.Answer key response) c output own fly = answer-outcome P config now x key response (awaited_request_branch response) c output fly
transition-outcome P config now x (signal.Silent branch method) c output own fly = timeout-outcome P config now x (timed_out_branch branch method) c output fly
transition-outcome P config now x (signal.Due what) c output own fly = due-outcome P config now x what c output
transition-outcome P config now x (signal.Ended key) c output own fly = same-rings P config now x c output _ (key-untouched key (offered x c) output) (λ p. refl)

-- the requests in flight were dismissed before
dismissed-outcome : (P : Type 0) (config : CallConfigView) (now : SnapshotView) (x : OfferedAttempt) (c : Call) (output before : StepOutput) (end : Option AttemptEndView) (s : StepResult) →
    before.rows ≡ output.rows → (P → labels_of c.opening.key before.out ≡ labels_of c.opening.key output.out) →
    AttemptStep P config now x (offered x (without_in_flight c)) before end s → AttemptStep P config now x (offered x c) output end s
dismissed-outcome P config now x c output before end s e q (Rings is y r) = Rings is y (record {
  phase = r.phase;
  same = record { opening = r.same.opening; diversions = r.same.diversions; answered = r.same.answered; past = r.same.past };
  caller = r.caller;
  callee = r.callee;
  service = r.service;
  none = r.none ∙ e;
  shown = λ p. r.shown p ∙ q p;
})
dismissed-outcome P config now x c output before end s e q (Answers is y stage r) = Answers is y stage (record {
  phase = r.phase;
  opening = r.opening;
  diversions = r.diversions;
  past = r.past;
  answered = r.answered;
  awaits = r.awaits;
  caller = r.caller;
  callee = r.callee;
  none = r.none ∙ e;
  shown = λ p. r.shown p ∙ ap (λ l. l ++ Accepted ∷ []) (q p);
})
dismissed-outcome P config now x c output before end s e q (GivesUp by_caller is y d last r) = GivesUp by_caller is y d last (record {
  is = r.is;
  same = record { opening = r.same.opening; diversions = r.same.diversions; answered = r.same.answered; past = r.same.past };
  caller = r.caller;
  callee = r.callee;
  none = r.none ∙ e;
  shown = λ p. r.shown p ∙ ap (λ l. l ++ final_label (status_by (given_cause by_caller))) (q p);
})
dismissed-outcome P config now x c output before end s e q (GoesOn how is m d last r) = GoesOn how is m d last (record {
  is = r.is;
  same = record { opening = r.same.opening; diversions = r.same.diversions; answered = r.same.answered; past = r.same.past };
  unanswered = r.unanswered;
  none = r.none ∙ e;
  shown = λ p. r.shown p ∙ q p;
})

pub attempt-step : (config : CallConfigView) (now : SnapshotView) (x : OfferedAttempt) (received : Signal) (c : Call) (output : StepOutput) →
    AttemptStep (IsOwn c received) config now x (offered x c) output (end_of_attempt x (offered x c) received) (step config now received (offered x c) output)
unfolding step
attempt-step config now x received c output =
    let P : Type 0 = IsOwn c received in
    let end : Option AttemptEndView = end_of_attempt x (offered x c) received in
    let before : StepOutput = output_after_dismissal config (offered x c) output in
    either-fares P config now x c output end (leaves received (offered x c)) _ _
    (dismissed-outcome P config now x c output before end _ (dismissing-rows config (offered x c) output) (λ p. (dismissing-quiet c.opening.key config (offered x c) output p.1).labels)
    (transition-outcome P config now x received (without_in_flight c) before (λ p. p.0) (λ p. tt)))
    (transition-outcome P config now x received c output (λ p. p.0) (λ p. p.1))
  where
    either-fares : (P : Type 0) (config : CallConfigView) (now : SnapshotView) (x : OfferedAttempt) (c : Call) (output : StepOutput) (end : Option AttemptEndView) (b : Bool) (one two : StepResult) →
        AttemptStep P config now x (offered x c) output end one → AttemptStep P config now x (offered x c) output end two →
        AttemptStep P config now x (offered x c) output end (if b then one else two)
    either-fares P config now x c output end true one two f g = f
    either-fares P config now x c output end false one two f g = g

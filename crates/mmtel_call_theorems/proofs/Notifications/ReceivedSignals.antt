-- The notifications that a call which is offered sends to its caller on each signal, other than of diversions: none of its own.
use Rattle.std.proofs.Common.{[], ◌≡◌, ℕ, ◌==◌, Bool, true, false, List, refl, ap, sym, subst, ◌∙◌}
use Rattle.std.specs.Prelude.{Option, Some, None, if◌then◌else◌, nat_lt, not, ◌&&◌, is_ok, Result, Ok, Err}
use Rattle.mmtel_compose.specs.ReceivedMessages.{MessageView, status_of}
use Rattle.mmtel_output.specs.Sending.{with_final_ack}
use Rattle.mmtel_output.specs.declared.outputs.StepOutput.{StepOutput}
use Rattle.mmtel_leg.specs.declared.dialogues.DialogueFault.{DialogueFault}
use Rattle.mmtel_leg.specs.declared.dialogues.InFlight.TheVariants as in_flight
use Rattle.mmtel_precedence.specs.Attempts as attempts
use Rattle.mmtel_precedence.specs.Attempts.{end_by_final, end_by_response, end_by_time, rings}
use Rattle.mmtel_precedence.specs.Calls.{Answer, AttemptEndView, Cancel, NoReply, NotReachable, SnapshotView, Unacknowledged}
use Rattle.mmtel_sheet_values.specs.declared.values.Sheet.{Sheet}
use Rattle.mmtel_reliable.specs.Acks.{has_own}
use Rattle.mmtel_reliable.specs.declared.racks.Rack.{Rack}
use Rattle.mmtel_transaction.specs.declared.words.DueWord.{DueWord}
use Rattle.mmtel_transaction.specs.declared.words.DueWord.TheVariants as due
use Rattle.mmtel_transaction.specs.declared.words.TKey.{TKey}
use Rattle.mmtel_types.specs.Causes.{status_of as status_by}
use Rattle.mmtel_types.specs.declared.sides.Side.{Side}
use Rattle.mmtel_types.specs.declared.sides.Side.TheVariants.{Caller, Callee}
use Rattle.mmtel_call_services.specs.Decisions.{no_reply_time_of, redirect_of, service_sheet}
use Rattle.mmtel_output.specs.ResponseMatching.{awaited_request_branch, timed_out_branch}
use Rattle.mmtel_call_services.specs.Reliable.{reliable_number}
use Rattle.mmtel_call_services.specs.Requests.{is_same_side}
use Rattle.mmtel_call_services.specs.CallConfig.{CallConfigView}
use Rattle.mmtel_call.specs.Closing.{StepResult, step_result}
use Rattle.mmtel_call.specs.Diverting.{after_attempt}
use Rattle.mmtel_call.specs.RelayedTransactions.{output_after_dismissal, updating_side, without_in_flight}
use Rattle.mmtel_call.specs.OtherRequests.{on_other_timeout}
use Rattle.mmtel_call.specs.Reliable.{named_rseq, on_named_prack, on_rack, own_rseq_for, rack_in, with_reliable_response}
use Rattle.mmtel_call.specs.Requests.{is_bye, is_prack, is_update, request_check, with_refused_request}
use Rattle.mmtel_call.specs.Ringing.{on_answer, with_no_reply_timer, with_no_reply_timer_in, with_attempt_cancel, on_failure, on_caller_cancel, end_before_answer}
use Rattle.mmtel_call.specs.Ringing.{attempt_after_request, call_without_attempt, on_due, on_other, on_prack_of, on_request, on_request_if, on_response}
use Rattle.mmtel_call.specs.Ringing.{on_provisional, on_provisional_by, on_numbered_provisional, on_plain_provisional, on_attempt_timeout, on_trying, with_ack_timer}
use Rattle.mmtel_call.specs.Sending.{with_relay_to_caller, with_status_to, with_status_to_caller}
use Rattle.mmtel_call.specs.Table.{leaves, on_response_to, on_timeout_of, step, transition}
use Rattle.mmtel_call.specs.Updates.{accepts_updates, on_early_retry, on_early_update, on_glare, unless_updating}
use Rattle.mmtel_call.specs.declared.calls.Call.{Call}
use Rattle.mmtel_call.specs.declared.calls.OfferedAttempt.{OfferedAttempt}
use Rattle.mmtel_call.specs.declared.signals.Signal.{Signal}
use Rattle.mmtel_call.specs.declared.signals.Signal.TheVariants as signal
use Rattle.mmtel_call_theorems.specs.Endings.{end_of_attempt, end_on_deadline, end_on_request, end_on_response, end_on_timeout, is_branch_of_attempt}
use Rattle.mmtel_call_theorems.proofs.AttemptOutcomes.{final-answered, given_cause, given_how, offered, success-yes, trying-provisional}
use Rattle.mmtel_call_theorems.proofs.UnchangedCalls.{SameCall, other-untouched, same_call, timed-out-untouched}
use Rattle.mmtel_call_theorems.specs.Notifications.DueNotifications.{is_relayed_notification}
use Rattle.mmtel_call_theorems.proofs.Notifications.AddedNotifications.{IsQuiet, IsUnnotified, expiry-unnotified, adds-emit, adds-if, adds-reply, adds-then, dismissing-unnotified}
use Rattle.mmtel_call_theorems.proofs.Notifications.AddedNotifications.{gone-unnotified, on-other-unnotified, one-passed, other-unnotified, quiet, quiet-then, unnotified}
use Rattle.mmtel_call_theorems.proofs.Notifications.AddedNotifications.{unnotified-cancelled, unnotified-final-acked, unnotified-reply, unnotified-refused_request}
use Rattle.mmtel_call_theorems.proofs.Notifications.OwnNotifications.{IsFinal, high-notification, its-final, time-final}
use Rattle.mmtel_session.specs.Intervals.{expiry_interval_of}

-- its attempt continues, was answered or was abandoned
abbrev pub EndsAlone : Option AttemptEndView → Type 0
EndsAlone None = Unit {0}
EndsAlone (Some Answer) = Unit {0}
EndsAlone (Some Cancel) = Unit {0}
EndsAlone (Some Unacknowledged) = Unit {0}
EndsAlone (Some how) = ⊥

pub record IsAlone (passed : Bool) (c : Call) (before : StepOutput) (end : Option AttemptEndView) (s : StepResult) : Type 0 where
  pub ends : EndsAlone end
  pub diversions : s.call.diversions ≡ c.diversions
  pub none : IsQuiet passed c.opening.key before s.output

-- the attempt failed
pub record GoesOn (passed : Bool) (config : CallConfigView) (now : SnapshotView) (x : OfferedAttempt) (c : Call) (before : StepOutput) (s : StepResult) (how : AttemptEndView) (m : Option MessageView)
    (d : Call) (output : StepOutput) : Type 0 where
  pub is : s ≡ after_attempt config now x how m d output
  pub same : SameCall c d
  pub final : IsFinal how
  pub none : IsUnnotified c.opening.key before output
  pub own : passed ≡ false

pub data Receives (passed : Bool) (config : CallConfigView) (now : SnapshotView) (x : OfferedAttempt) (c : Call) (before : StepOutput) (end : Option AttemptEndView) (s : StepResult) : Type 0 where
  Stays : IsAlone passed c before end s → Receives passed config now x c before end s
  Goes : (how : AttemptEndView) → end ≡ Some how → (m : Option MessageView) → (d : Call) → (output : StepOutput) → GoesOn passed config now x c before s how m d output → Receives passed config now x c before end s

stays : (passed : Bool) (config : CallConfigView) (now : SnapshotView) (x : OfferedAttempt) (c : Call) (before : StepOutput) (end : Option AttemptEndView) (s : StepResult) → EndsAlone end →
    s.call.diversions ≡ c.diversions → IsUnnotified c.opening.key before s.output → Receives passed config now x c before end s
stays passed config now x c before end s e f g = Stays (record { ends = e; diversions = f; none = quiet passed c.opening.key before s.output g })

receives-if : (passed : Bool) (config : CallConfigView) (now : SnapshotView) (x : OfferedAttempt) (c : Call) (before : StepOutput) (b : Bool) (end end2 : Option AttemptEndView) (s s2 : StepResult) →
    Receives passed config now x c before end s → Receives passed config now x c before end2 s2 →
    Receives passed config now x c before (if b then end else end2) (if b then s else s2)
receives-if passed config now x c before true end end2 s s2 f g = f
receives-if passed config now x c before false end end2 s s2 f g = g

-- ---- the call is abandoned

gives-up-by : (by_caller : Bool) (passed : Bool) (config : CallConfigView) (now : SnapshotView) (x y : OfferedAttempt) (c : Call) (before output : StepOutput) → IsUnnotified c.opening.key before output →
    Receives passed config now x (offered x c) before (Some (given_how by_caller)) (end_before_answer (given_cause by_caller) config now.at y (offered y c) output)
gives-up-by by_caller passed config now x y c before output q =
    let key = c.opening.key in
    let code : ℕ = status_by (given_cause by_caller) in
    let told = with_status_to_caller config (offered y c) code output in
    let gone = with_attempt_cancel config y told in
    let added = adds-then key before told gone [] [] (adds-then key before output told [] [] q (unnotified-reply key key _ _ _ output (by by_caller))) (unnotified-cancelled key config.sip y.attempt.invite told) in
    stays passed config now x (offered x c) before (Some (given_how by_caller)) (end_before_answer (given_cause by_caller) config now.at y (offered y c) output) (alone by_caller) refl
    (record { new = added.new; out = added.out; seen = added.seen })
  where
    by : (by_caller : Bool) → (status_by (given_cause by_caller) == 181) ≡ false
    by true = refl
    by false = refl

    alone : (by_caller : Bool) → EndsAlone (Some (given_how by_caller))
    alone true = tt
    alone false = tt

gives-up : (passed : Bool) (config : CallConfigView) (now : SnapshotView) (x y : OfferedAttempt) (c : Call) (before output : StepOutput) → IsUnnotified c.opening.key before output →
    Receives passed config now x (offered x c) before (Some Cancel) (on_caller_cancel config now.at y (offered y c) output)
gives-up passed config now x y c before output q = gives-up-by true passed config now x y c before output q

-- ---- requests

-- the diversions are unchanged
acknowledging-diversions : (config : CallConfigView) (x : OfferedAttempt) (key : TKey) (m : MessageView) (rack : Rack) (answer : Option ℕ) (c : Call) (output : StepOutput) →
    (on_named_prack config x key m rack answer c output).call.diversions ≡ c.diversions
acknowledging-diversions config x key m rack None c output = refl
acknowledging-diversions config x key m rack (Some answer) c output = refl

rack-diversions : (config : CallConfigView) (x : OfferedAttempt) (key : TKey) (m : MessageView) (rack : Option Rack) (c : Call) (output : StepOutput) →
    (on_rack config x key m rack c output).call.diversions ≡ c.diversions
rack-diversions config x key m None c output = refl
rack-diversions config x key m (Some rack) c output = acknowledging-diversions config x key m rack (named_rseq x c rack) c output

prack-diversions : (side : Side) (config : CallConfigView) (x : OfferedAttempt) (key : TKey) (m : MessageView) (c : Call) (output : StepOutput) → (on_prack_of side config x key m c output).call.diversions ≡ c.diversions
prack-diversions Caller config x key m c output = rack-diversions config x key m (rack_in m) c output
prack-diversions Callee config x key m c output = refl

diversions-if : (c : Call) (b : Bool) (one two : StepResult) → one.call.diversions ≡ c.diversions → two.call.diversions ≡ c.diversions → (if b then one else two).call.diversions ≡ c.diversions
diversions-if c true one two e f = e
diversions-if c false one two e f = f

unless-diversions : (flying : Option Side) (config : CallConfigView) (x : OfferedAttempt) (side : Side) (key : TKey) (m : MessageView) (c : Call) (output : StepOutput) →
    (unless_updating flying (on_early_update config x side key m) config side key m c output).call.diversions ≡ c.diversions
unless-diversions None config x side key m c output = refl
unless-diversions (Some other) config x side key m c output = diversions-if c (is_same_side other side) (on_early_retry config key m c output) (on_glare config key m c output) refl refl

other-diversions : (config : CallConfigView) (x : OfferedAttempt) (side : Side) (key : TKey) (m : MessageView) (c : Call) (output : StepOutput) → (on_other config x side key m c output).call.diversions ≡ c.diversions
other-diversions config x side key m c output =
    diversions-if c (is_prack m) _ _ (prack-diversions side config x key m c output)
    (diversions-if c (is_update m) _ _ (diversions-if c (accepts_updates x) _ _ (unless-diversions (updating_side c.relayed) config x side key m c output) refl) refl)

-- requests of a side, except BYE
others-received : (config : CallConfigView) (now : SnapshotView) (x y : OfferedAttempt) (side : Side) (key : TKey) (m : MessageView) (c : Call) (output : StepOutput) →
    Receives false config now x (offered x c) output None (on_other config y side key m (offered y c) output)
others-received config now x y side key m c output =
    stays false config now x (offered x c) output None (on_other config y side key m (offered y c) output) tt (other-diversions config y side key m (offered y c) output)
    (on-other-unnotified c.opening.key config y side key m (offered y c) output)

caller-received : (config : CallConfigView) (now : SnapshotView) (x : OfferedAttempt) (key : TKey) (m : MessageView) (c : Call) (output : StepOutput) (said : Result (Unit {0}) DialogueFault) →
    Receives false config now x (offered x c) output (if is_ok said && is_bye m then Some Cancel else None) (on_request_if said config now.at x Caller key m (offered x c) output)
caller-received config now x key m c output (Ok received) =
    let y = attempt_after_request Caller m x in
    receives-if false config now x (offered x c) output (is_bye m) (Some Cancel) None _ _
    (gives-up false config now x y c output (with_status_to config (offered y c) key m 200 output) (unnotified-reply c.opening.key key _ _ _ output refl))
    (others-received config now x y Caller key m c output)
caller-received config now x key m c output (Err fault) =
    stays false config now x (offered x c) output None (step_result (offered x c) (with_refused_request config (offered x c) key m fault output)) tt refl
    (unnotified-refused_request c.opening.key config (offered x c) key m fault output)

callee-received : (config : CallConfigView) (now : SnapshotView) (x : OfferedAttempt) (key : TKey) (m : MessageView) (c : Call) (output : StepOutput) (said : Result (Unit {0}) DialogueFault) →
    Receives false config now x (offered x c) output None (on_request_if said config now.at x Callee key m (offered x c) output)
callee-received config now x key m c output (Ok received) = others-received config now x (attempt_after_request Callee m x) Callee key m c output
callee-received config now x key m c output (Err fault) =
    stays false config now x (offered x c) output None (step_result (offered x c) (with_refused_request config (offered x c) key m fault output)) tt refl
    (unnotified-refused_request c.opening.key config (offered x c) key m fault output)

request-receives : (config : CallConfigView) (now : SnapshotView) (x : OfferedAttempt) (side : Side) (key : TKey) (m : MessageView) (c : Call) (output : StepOutput) →
    Receives false config now x (offered x c) output (end_on_request x side m) (on_request config now.at x side key m (offered x c) output)
request-receives config now x Caller key m c output = caller-received config now x key m c output (request_check x.caller m in_flight.Theirs)
request-receives config now x Callee key m c output = callee-received config now x key m c output (request_check x.callee.leg m in_flight.Own)

-- ---- deadlines and timeouts

waits : (passed : Bool) (config : CallConfigView) (now : SnapshotView) (x : OfferedAttempt) (c : Call) (output : StepOutput) → Receives passed config now x (offered x c) output None (step_result (offered x c) output)
waits passed config now x c output = stays passed config now x (offered x c) output None (step_result (offered x c) output) tt refl (unnotified c.opening.key output)

timed : (config : CallConfigView) (now : SnapshotView) (x : OfferedAttempt) (how : AttemptEndView) (c : Call) (output : StepOutput) → IsFinal how →
    Receives false config now x (offered x c) output (Some how) (on_attempt_timeout config now x how (offered x c) output)
timed config now x how c output final = Goes how refl None (call_without_attempt x (offered x c)) (with_attempt_cancel config x output) (record {
  is = refl;
  same = record { opening = refl; diversions = refl; answered = refl; past = refl };
  final = final;
  none = unnotified-cancelled c.opening.key config.sip x.attempt.invite output;
  own = refl;
})

due-receives : (config : CallConfigView) (now : SnapshotView) (x : OfferedAttempt) (what : DueWord) (c : Call) (output : StepOutput) →
    Receives false config now x (offered x c) output (end_on_deadline x c.acks what) (on_due config now x what (offered x c) output)
due-receives config now x (due.NoReply number) c output =
    receives-if false config now x (offered x c) output (number == x.attempt.number) _ _ _ _ (timed config now x NoReply c output tt) (waits false config now x c output)
due-receives config now x (due.NoPrack own) c output =
    receives-if false config now x (offered x c) output (has_own own c.acks.waiting) _ _ _ _ (gives-up-by false false config now x x c output output (unnotified c.opening.key output)) (waits false config now x c output)
due-receives config now x (due.Cap number) c output =
    receives-if false config now x (offered x c) output (number == x.attempt.number) _ _ _ _ (timed config now x (end_by_time x.attempt.rang) c output (time-final x.attempt.rang)) (waits false config now x c output)
due-receives config now x (due.NoAck number) c output = waits false config now x c output
due-receives config now x (due.Expired number) c output = waits false config now x c output

gone-quiet : (config : CallConfigView) (now : SnapshotView) (x : OfferedAttempt) (c : Call) (output : StepOutput) (its rang : Bool) (branch : List ℕ) →
    Receives false config now x (offered x c) output (if its && not rang then Some (NotReachable 408) else None)
    (if its then (if rang then step_result (offered x c) output else after_attempt config now x (NotReachable 408) None (offered x c) output) else on_other_timeout config branch (offered x c) output)
gone-quiet config now x c output true true branch = waits false config now x c output
gone-quiet config now x c output true false branch =
    Goes (NotReachable 408) refl None (offered x c) output (record { is = refl; same = same_call (offered x c); final = refl; none = unnotified c.opening.key output; own = refl })
gone-quiet config now x c output false rang branch =
    stays false config now x (offered x c) output None (on_other_timeout config branch (offered x c) output) tt (timed-out-untouched config branch (offered x c) output).same.diversions
    (gone-unnotified c.opening.key config branch (offered x c) output)

timeout-receives : (config : CallConfigView) (now : SnapshotView) (x : OfferedAttempt) (branch : Option (List ℕ)) (c : Call) (output : StepOutput) →
    Receives false config now x (offered x c) output (end_on_timeout x branch) (on_timeout_of branch config now (offered x c) output)
timeout-receives config now x None c output = waits false config now x c output
timeout-receives config now x (Some branch) c output = gone-quiet config now x c output (is_branch_of_attempt x branch) x.attempt.rang branch

-- ---- responses

-- one that is relayed to the caller
relayed-quiet : (config : CallConfigView) (x : OfferedAttempt) (m : MessageView) (c : Call) (output : StepOutput) →
    IsQuiet (status_of m.parsed.start == 181) c.opening.key output (with_relay_to_caller config (offered x c) x.attempt.service m output)
relayed-quiet config x m c output = record {
  notices = _;
  adds = adds-reply c.opening.key c.opening.key _ _ _ output (status_of m.parsed.start == 181) refl;
  none = one-passed (c.opening.key.0 == c.opening.key.0) (status_of m.parsed.start == 181) _;
}

armed-unnotified : (sheet : Option Sheet) (code at : ℕ) (x : OfferedAttempt) (c : Call) (output : StepOutput) →
    IsUnnotified c.opening.key output (if rings code && not x.attempt.rang then with_no_reply_timer_in (no_reply_time_of sheet) at x.attempt c output else output)
armed-unnotified sheet code at x c output = adds-if c.opening.key output (rings code && not x.attempt.rang) (with_no_reply_timer_in (no_reply_time_of sheet) at x.attempt c output) output []
    (go (no_reply_time_of sheet)) (unnotified c.opening.key output)
  where
    go : (time : Option ℕ) → IsUnnotified c.opening.key output (with_no_reply_timer_in time at x.attempt c output)
    go None = unnotified c.opening.key output
    go (Some time) = adds-emit c.opening.key output _ [] refl

plainly : (config : CallConfigView) (now : SnapshotView) (x : OfferedAttempt) (key : TKey) (m : MessageView) (code : ℕ) (c : Call) (output : StepOutput) →
    Receives (status_of m.parsed.start == 181) config now x (offered x c) output None (on_plain_provisional config now.at x key m code (offered x c) output)
plainly config now x key m code c output =
    let given = with_relay_to_caller config (offered x c) x.attempt.service m output in
    Stays (record {
      ends = tt;
      diversions = refl;
      none = quiet-then (status_of m.parsed.start == 181) c.opening.key output given _ (relayed-quiet config x m c output) (armed-unnotified (service_sheet x.attempt.service) code now.at x (offered x c) given);
    })

-- a reliable response that is relayed
reliably-quiet : (config : CallConfigView) (x : OfferedAttempt) (own : ℕ) (m : MessageView) (c : Call) (output : StepOutput) →
    IsQuiet (status_of m.parsed.start == 181) c.opening.key output (with_reliable_response config (offered x c) x.attempt.service own m output)
reliably-quiet config x own m c output = record {
  notices = _;
  adds = adds-reply c.opening.key c.opening.key _ _ _ output (status_of m.parsed.start == 181) refl;
  none = one-passed (c.opening.key.0 == c.opening.key.0) (status_of m.parsed.start == 181) _;
}

if-relayed : (config : CallConfigView) (now : SnapshotView) (x : OfferedAttempt) (key : TKey) (m : MessageView) (code rseq : ℕ) (own : Option ℕ) (c : Call) (output : StepOutput) →
    Receives (status_of m.parsed.start == 181) config now x (offered x c) output None (on_numbered_provisional own rseq config now.at x key m code (offered x c) output)
if-relayed config now x key m code rseq None c output = stays (status_of m.parsed.start == 181) config now x (offered x c) output None (on_trying key x (offered x c) output) tt refl (unnotified c.opening.key output)
if-relayed config now x key m code rseq (Some own) c output =
    let given = with_reliable_response config (offered x c) x.attempt.service own m output in
    let rung = with_no_reply_timer code now.at x.attempt (offered x c) given in
    Stays (record {
      ends = tt;
      diversions = refl;
      none = quiet-then (status_of m.parsed.start == 181) c.opening.key output given _ (reliably-quiet config x own m c output)
          (adds-then c.opening.key given rung _ [] [] (armed-unnotified (service_sheet x.attempt.service) code now.at x (offered x c) given) (adds-emit c.opening.key rung _ [] refl));
    })

proceeds-by : (config : CallConfigView) (now : SnapshotView) (x : OfferedAttempt) (key : TKey) (m : MessageView) (code : ℕ) (number : Option ℕ) (c : Call) (output : StepOutput) →
    Receives (status_of m.parsed.start == 181) config now x (offered x c) output None (on_provisional_by number config now.at x key m code (offered x c) output)
proceeds-by config now x key m code None c output = plainly config now x key m code c output
proceeds-by config now x key m code (Some rseq) c output = if-relayed config now x key m code rseq (own_rseq_for rseq x m (offered x c)) c output

proceeds : (config : CallConfigView) (now : SnapshotView) (x : OfferedAttempt) (key : TKey) (m : MessageView) (code : ℕ) (c : Call) (output : StepOutput) →
    Receives (status_of m.parsed.start == 181) config now x (offered x c) output None (on_provisional config now.at x key m code (offered x c) output)
proceeds config now x key m code c output = proceeds-by config now x key m code (reliable_number config c.opening m) c output

answers : (passed : Bool) (config : CallConfigView) (now : SnapshotView) (x : OfferedAttempt) (key : TKey) (m : MessageView) (c : Call) (output : StepOutput) (end : AttemptEndView) →
    passed ≡ (status_of m.parsed.start == 181) → end ≡ Answer →
    Receives passed config now x (offered x c) output (Some end) (on_answer config now.at x key m (offered x c) output)
answers passed config now x key m c output end p e =
    let given = with_relay_to_caller config (offered x c) x.attempt.service m output in
    let waits = with_ack_timer now.at (offered x c) given in
    subst (λ (end : AttemptEndView). Receives passed config now x (offered x c) output (Some end) (on_answer config now.at x key m (offered x c) output)) (sym e)
    (subst (λ passed. Receives passed config now x (offered x c) output (Some Answer) (on_answer config now.at x key m (offered x c) output)) (sym p)
    (Stays (record {
      ends = tt;
      diversions = refl;
      none = quiet-then (status_of m.parsed.start == 181) c.opening.key output given _ (relayed-quiet config x m c output)
          (adds-then c.opening.key given waits _ [] [] (adds-emit c.opening.key given _ [] refl) (expiry-unnotified c.opening.key config.timer (expiry_interval_of m.parsed.session) now.at (offered x c) waits));
    })))

-- by the class of its status
class-receives : (config : CallConfigView) (now : SnapshotView) (x : OfferedAttempt) (key : TKey) (m : MessageView) (code : ℕ) (c : Call) (output : StepOutput) (trying provisional success : Bool) →
    code ≡ status_of m.parsed.start → success ≡ nat_lt code 300 → (trying ≡ true → provisional ≡ true) → (provisional ≡ false → success ≡ true → end_by_final code (redirect_of m) x.attempt.rang ≡ Answer) →
    Receives (status_of m.parsed.start == 181) config now x (offered x c) output (if provisional then None else Some (end_by_final code (redirect_of m) x.attempt.rang))
    (if trying then on_trying key x (offered x c) output else if provisional then on_provisional config now.at x key m code (offered x c) output else if success
    then on_answer config now.at x key m (offered x c) output else on_failure config now x key m code (offered x c) output)
class-receives config now x key m code c output true true success s v e f =
    stays (status_of m.parsed.start == 181) config now x (offered x c) output None (on_trying key x (offered x c) output) tt refl (unnotified c.opening.key output)
class-receives config now x key m code c output true false success s v e f = absurd (let h : false ≡ true = e refl in cc)
class-receives config now x key m code c output false true success s v e f = proceeds config now x key m code c output
class-receives config now x key m code c output false false true s v e f = answers (status_of m.parsed.start == 181) config now x key m c output (end_by_final code (redirect_of m) x.attempt.rang) refl (f refl refl)
class-receives config now x key m code c output false false false s v e f =
    Goes (end_by_final code (redirect_of m) x.attempt.rang) refl (Some m) (offered x c) (with_final_ack config.sip key x.attempt.invite m.parsed output) (record {
      is = refl;
      same = same_call (offered x c);
      final = its-final code (redirect_of m) x.attempt.rang (high-notification code (sym v));
      none = unnotified-final-acked c.opening.key key config.sip x.attempt.invite m.parsed output;
      own = ap (λ n. n == 181) (sym s) ∙ high-notification code (sym v);
    })

response-receives : (config : CallConfigView) (now : SnapshotView) (x : OfferedAttempt) (key : TKey) (m : MessageView) (code : ℕ) (c : Call) (output : StepOutput) → code ≡ status_of m.parsed.start →
    Receives (status_of m.parsed.start == 181) config now x (offered x c) output (end_by_response code (redirect_of m) x.attempt.rang) (on_response config now x key m code (offered x c) output)
response-receives config now x key m code c output s =
    class-receives config now x key m code c output (nat_lt code 101) (nat_lt code 200) (nat_lt code 300) s refl (trying-provisional code)
    (λ e f. final-answered (attempts.is_success code) _ _ _ code (redirect_of m) x.attempt.rang (success-yes code e f))

answer-receives : (config : CallConfigView) (now : SnapshotView) (x : OfferedAttempt) (key : TKey) (m : MessageView) (branch : Option (List ℕ)) (c : Call) (output : StepOutput) →
    Receives (status_of m.parsed.start == 181) config now x (offered x c) output (end_on_response x m branch) (on_response_to branch config now key m (offered x c) output)
answer-receives config now x key m None c output = waits (status_of m.parsed.start == 181) config now x c output
answer-receives config now x key m (Some branch) c output =
    receives-if (status_of m.parsed.start == 181) config now x (offered x c) output (is_branch_of_attempt x branch) _ _ _ _ (response-receives config now x key m (status_of m.parsed.start) c output refl)
    (stays (status_of m.parsed.start == 181) config now x (offered x c) output None _ tt (other-untouched config now.at key m branch (offered x c) output).same.diversions
    (other-unnotified c.opening.key config now.at key m branch (offered x c) output))

-- ---- any signal

transition-receives : (config : CallConfigView) (now : SnapshotView) (x : OfferedAttempt) (received : Signal) (c : Call) (output : StepOutput) →
    Receives (is_relayed_notification received) config now x (offered x c) output (end_of_attempt x (offered x c) received) (transition config now received (offered x c) output)
unfolding transition
transition-receives config now x (signal.Request side key request) c output = request-receives config now x side key request c output
transition-receives config now x (signal.Ack side ack) c output = waits false config now x c output
transition-receives config now x (signal.Cancel key cancel invite) c output =
    let replied = with_status_to config (offered x c) key cancel 200 output in
    let added = unnotified-reply c.opening.key key _ _ _ output refl in
    receives-if false config now x (offered x c) output (invite.0 == c.opening.key.0) _ _ _ _ (gives-up false config now x x c output replied added)
    (stays false config now x (offered x c) output None (step_result (offered x c) replied) tt refl added)
transition-receives config now x (signal.Answer key response) c output = answer-receives config now x key response (awaited_request_branch response) c output
transition-receives config now x (signal.Silent branch method) c output = timeout-receives config now x (timed_out_branch branch method) c output
transition-receives config now x (signal.Due what) c output = due-receives config now x what c output
transition-receives config now x (signal.Ended key) c output = stays false config now x (offered x c) output None _ tt refl (unnotified c.opening.key output)

-- the requests in flight were dismissed before
dismissed-receives : (passed : Bool) (config : CallConfigView) (now : SnapshotView) (x : OfferedAttempt) (c : Call) (output before : StepOutput) (end : Option AttemptEndView) (s : StepResult) →
    IsUnnotified c.opening.key output before → Receives passed config now x (offered x (without_in_flight c)) before end s →
    Receives passed config now x (offered x c) output end s
dismissed-receives passed config now x c output before end s q (Stays a) = Stays (record {
  ends = a.ends;
  diversions = a.diversions;
  none = record { notices = a.none.notices; adds = adds-then c.opening.key output before s.output [] a.none.notices q a.none.adds; none = a.none.none };
})
dismissed-receives passed config now x c output before end s q (Goes how is m d last r) = Goes how is m d last (record {
  is = r.is;
  same = record { opening = r.same.opening; diversions = r.same.diversions; answered = r.same.answered; past = r.same.past };
  final = r.final;
  none = adds-then c.opening.key output before last [] [] q r.none;
  own = r.own;
})

one-receives : (passed : Bool) (config : CallConfigView) (now : SnapshotView) (x : OfferedAttempt) (c : Call) (before : StepOutput) (b : Bool) (end : Option AttemptEndView) (s s2 : StepResult) →
    Receives passed config now x c before end s → Receives passed config now x c before end s2 →
    Receives passed config now x c before end (if b then s else s2)
one-receives passed config now x c before true end s s2 f g = f
one-receives passed config now x c before false end s s2 f g = g

pub receives : (config : CallConfigView) (now : SnapshotView) (x : OfferedAttempt) (received : Signal) (c : Call) (output : StepOutput) →
    Receives (is_relayed_notification received) config now x (offered x c) output (end_of_attempt x (offered x c) received) (step config now received (offered x c) output)
unfolding step
receives config now x received c output =
    let before : StepOutput = output_after_dismissal config (offered x c) output in
    one-receives (is_relayed_notification received) config now x (offered x c) output (leaves received (offered x c)) _ _ _
    (dismissed-receives (is_relayed_notification received) config now x c output before _ _ (dismissing-unnotified c.opening.key config (offered x c) output)
    (transition-receives config now x received (without_in_flight c) before)) (transition-receives config now x received c output)

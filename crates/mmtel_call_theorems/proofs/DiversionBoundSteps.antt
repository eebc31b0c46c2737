-- No step raises the number of diversions that are left.
use Rattle.std.proofs.Common.{◌≡◌, ℕ, ◌≤◌, Bool, true, false, List, refl, ap, sym, subst, arith}
use Rattle.std.specs.Prelude.{Option, Some, None, if◌then◌else◌}
use Rattle.mmtel_compose.specs.ReceivedMessages.{MessageView, status_of}
use Rattle.mmtel_output.specs.declared.outputs.StepOutput.{StepOutput}
use Rattle.mmtel_leg.specs.Legs.{Leg}
use Rattle.mmtel_precedence.specs.Calls.{AttemptEndView, SnapshotView}
use Rattle.mmtel_precedence.specs.NextSteps.{EndAnswered, EndDivert, EndRefuse, StepAfterAttemptView}
use Rattle.mmtel_transaction.specs.declared.words.TKey.{TKey}
use Rattle.mmtel_call_services.specs.Decisions.{decision_after, is_status, relayed_status}
use Rattle.mmtel_call_services.specs.Diversions.{DiversionsView}
use Rattle.mmtel_output.specs.ResponseMatching.{awaited_request_branch, timed_out_branch}
use Rattle.mmtel_call_services.specs.CallConfig.{CallConfigView}
use Rattle.mmtel_call_services.specs.declared.openings.Service.{Service}
use Rattle.mmtel_call.specs.Closing.{StepResult, with_past}
use Rattle.mmtel_call.specs.Diverting.{after_attempt, is_diverted, on_end, relayed_refusal}
use Rattle.mmtel_call.specs.RelayedTransactions.{output_after_dismissal, without_in_flight}
use Rattle.mmtel_call.specs.Table.{leaves as leaves_on, leaves_on_response, leaves_on_timeout_of, on_response_to, on_timeout_of, step, transition}
use Rattle.mmtel_call.specs.declared.calls.Call.{Call}
use Rattle.mmtel_call.specs.declared.calls.DetachedLeg.{DetachedLeg}
use Rattle.mmtel_call.specs.declared.calls.Phase.{Phase}
use Rattle.mmtel_call.specs.declared.calls.Phase.TheVariants.{Detached, Established, Offered, Over}
use Rattle.mmtel_call.specs.declared.calls.OfferedAttempt.{OfferedAttempt}
use Rattle.mmtel_call.specs.declared.signals.Signal.{Signal}
use Rattle.mmtel_call.specs.declared.signals.Signal.TheVariants as signal
use Rattle.mmtel_call_theorems.specs.Endings.{end_in}
use Rattle.mmtel_call_theorems.proofs.Continuation as answering
use Rattle.mmtel_call_theorems.proofs.DiversionBound.{Leaves, divert-leaves}
use Rattle.mmtel_call_theorems.proofs.AttemptOutcomes as faring
use Rattle.mmtel_call_theorems.proofs.UnchangedCalls.{Untouched, key-untouched, other-untouched, timed-out-untouched, untouched}

-- as many are left as before
keeps : (c d : Call) → d.diversions ≡ c.diversions → d.diversions.remaining ≤ c.diversions.remaining
keeps c d e = let f : d.diversions.remaining ≡ c.diversions.remaining = ap (λ (v : DiversionsView). v.remaining) e in omega arith

refused-leaves : (config : CallConfigView) (at : ℕ) (caller : Leg) (service : Option Service) (m : Option MessageView) (cause : Rattle.mmtel_types.specs.declared.causes.Cause.Cause) (c : Call)
    (output : StepOutput) → Leaves c.diversions.remaining (relayed_refusal config at caller service m cause c output)
refused-leaves config at caller service None cause c output = omega arith
refused-leaves config at caller service (Some m) cause c output = go (is_status (status_of m.parsed.start) (relayed_status cause))
  where
    go : (b : Bool) →
        Leaves c.diversions.remaining (if b then Rattle.mmtel_call.specs.Closing.call_end at cause caller.meter None c (Rattle.mmtel_call.specs.Sending.with_relay_to_caller config c service m output)
        else Rattle.mmtel_call.specs.Diverting.call_refusal config at caller cause c output)
    go true = omega arith
    go false = omega arith

after-leaves : (config : CallConfigView) (now : SnapshotView) (caller : Leg) (service : Option Service) (m : Option MessageView) (after : StepAfterAttemptView) (c : Call) (output : StepOutput) →
    Leaves c.diversions.remaining (on_end config now caller service m after c output)
after-leaves config now caller service m EndAnswered c output = omega arith
after-leaves config now caller service m (EndDivert due) c output = divert-leaves c.diversions.remaining config now caller service due c output refl
after-leaves config now caller service m (EndRefuse cause) c output = refused-leaves config now.at caller service m cause c output

on-leaves : (config : CallConfigView) (now : SnapshotView) (x : OfferedAttempt) (how : AttemptEndView) (m : Option MessageView) (c : Call) (output : StepOutput) →
    Leaves c.diversions.remaining (after_attempt config now x how m c output)
on-leaves config now x how m c output =
    after-leaves config now x.caller x.attempt.service m (decision_after c.opening now.at (is_diverted c) x.attempt.service how) (with_past x.callee.leg.meter c) output

attempt-step-leaves : (P : Type 0) (config : CallConfigView) (now : SnapshotView) (x : OfferedAttempt) (c : Call) (before : StepOutput) (end : Option AttemptEndView) (s : StepResult) →
    faring.AttemptStep P config now x c before end s → Leaves c.diversions.remaining s
attempt-step-leaves P config now x c before end s (faring.Rings e y r) = keeps c s.call r.same.diversions
attempt-step-leaves P config now x c before end s (faring.Answers e y stage r) = keeps c s.call r.diversions
attempt-step-leaves P config now x c before end s (faring.GivesUp by_caller e y d output r) = subst (Leaves c.diversions.remaining) (sym r.is) (keeps c d r.same.diversions)
attempt-step-leaves P config now x c before end s (faring.GoesOn how e m d output r) =
    let f : d.diversions.remaining ≡ c.diversions.remaining = ap (λ (v : DiversionsView). v.remaining) r.same.diversions in
    subst (Leaves c.diversions.remaining) (sym r.is) (subst (λ n. Leaves n (after_attempt config now x how m d output)) f (on-leaves config now x how m d output))

goes-leaves : (at : ℕ) (x : Rattle.mmtel_call.specs.declared.calls.EstablishedLegs.EstablishedLegs) (c : Call) (rows : List Rattle.mmtel_charging.specs.declared.rows.Row.Row) (s : StepResult) →
    answering.ContinuesOrEnds at x c rows s → Leaves c.diversions.remaining s
goes-leaves at x c rows s (answering.Continues y stage r) = keeps c s.call r.same.diversions
goes-leaves at x c rows s (answering.Ends y d output r) = subst (Leaves c.diversions.remaining) (sym r.is) (keeps c d r.same.diversions)

-- ---- a call whose leg is detached processes no signal

abbrev pub detached_call : DetachedLeg → Call → Call
detached_call detached c = record c { phase = Detached detached }

detached-timed-out : (branch : Option (List ℕ)) (config : CallConfigView) (now : SnapshotView) (detached : DetachedLeg) (c : Call) (output : StepOutput) →
    Untouched (detached_call detached c) output.rows (on_timeout_of branch config now (detached_call detached c) output)
detached-timed-out None config now detached c output = untouched (detached_call detached c) output
detached-timed-out (Some branch) config now detached c output = timed-out-untouched config branch (detached_call detached c) output

detached-answered : (branch : Option (List ℕ)) (config : CallConfigView) (now : SnapshotView) (detached : DetachedLeg) (key : TKey) (m : MessageView) (c : Call) (output : StepOutput) →
    Untouched (detached_call detached c) output.rows (on_response_to branch config now key m (detached_call detached c) output)
detached-answered None config now detached key m c output = untouched (detached_call detached c) output
detached-answered (Some branch) config now detached key m c output = other-untouched config now.at key m branch (detached_call detached c) output

detached-transition : (config : CallConfigView) (now : SnapshotView) (detached : DetachedLeg) (received : Signal) (c : Call) (output : StepOutput) →
    Untouched (detached_call detached c) output.rows (transition config now received (detached_call detached c) output)
unfolding transition
detached-transition config now detached (signal.Request side key request) c output = untouched (detached_call detached c) output
detached-transition config now detached (signal.Ack side ack) c output = untouched (detached_call detached c) output
detached-transition config now detached (signal.Cancel key cancel invite) c output = untouched (detached_call detached c) output
detached-transition config now detached (signal.Answer key response) c output = detached-answered (awaited_request_branch response) config now detached key response c output
detached-transition config now detached (signal.Silent branch method) c output = detached-timed-out (timed_out_branch branch method) config now detached c output
detached-transition config now detached (signal.Due what) c output = untouched (detached_call detached c) output
detached-transition config now detached (signal.Ended key) c output = key-untouched key (detached_call detached c) output

-- no signal ends an attempt of it, or the call
pub no-leaving : (detached : DetachedLeg) (received : Signal) (c : Call) → leaves_on received (detached_call detached c) ≡ false
no-leaving detached (signal.Request side key request) c = refl
no-leaving detached (signal.Ack side ack) c = refl
no-leaving detached (signal.Cancel key cancel invite) c = refl
no-leaving detached (signal.Answer key response) c = by (awaited_request_branch response)
  where
    by : (branch : Option (List ℕ)) → leaves_on_response branch response (detached_call detached c) ≡ false
    by None = refl
    by (Some branch) = refl
no-leaving detached (signal.Silent branch method) c = by (timed_out_branch branch method)
  where
    by : (branch : Option (List ℕ)) → leaves_on_timeout_of branch (detached_call detached c) ≡ false
    by None = refl
    by (Some branch) = refl
no-leaving detached (signal.Due what) c = refl
no-leaving detached (signal.Ended key) c = refl

pub stays-detached : (config : CallConfigView) (now : SnapshotView) (detached : DetachedLeg) (received : Signal) (c : Call) (output : StepOutput) →
    Untouched (detached_call detached c) output.rows (step config now received (detached_call detached c) output)
unfolding step
stays-detached config now detached received c output =
    let d : Call = detached_call detached c in
    subst (λ b. Untouched d output.rows (if b then transition config now received (without_in_flight d) (output_after_dismissal config d output) else transition config now received d output))
    (sym (no-leaving detached received c)) (detached-transition config now detached received c output)

-- ---- any step

leaves-in : (phase : Phase) (config : CallConfigView) (now : SnapshotView) (received : Signal) (c : Call) (output : StepOutput) →
    Leaves c.diversions.remaining (step config now received (record c { phase = phase }) output)
leaves-in (Offered x) config now received c output =
    attempt-step-leaves (faring.IsOwn c received) config now x (faring.offered x c) output (end_in (Offered x) (faring.offered x c) received) _ (faring.attempt-step config now x received c output)
leaves-in (Established x stage) config now received c output = goes-leaves now.at x c output.rows _ (answering.goes config now x stage received c output)
leaves-in (Detached detached) config now received c output = keeps c (step config now received (detached_call detached c) output).call (stays-detached config now detached received c output).same.diversions
leaves-in (Over cause) config now received c output = keeps c (step config now received (answering.ended cause c) output).call (answering.stays-over config now cause received c output).same.diversions

pub step-leaves : (config : CallConfigView) (now : SnapshotView) (received : Signal) (c : Call) (output : StepOutput) → (step config now received c output).call.diversions.remaining ≤ c.diversions.remaining
step-leaves config now received c output = leaves-in c.phase config now received c output

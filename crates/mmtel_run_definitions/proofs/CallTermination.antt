-- The effect of timers on calls: where one outputs anything, the call has fewer ways to proceed than before. So timers come to an end.
use Rattle.std.proofs.Common.{◌≡◌, ℕ, zero, suc, ◌+◌, ◌≤◌, ◌++◌, List, add-one, drop, length, take, refl, ap, ◌∙◌, not, Bool, true, false, Option, Some, None, inl, inr, arith}
use Rattle.std.specs.Prelude.{◌⊎◌, ◌==◌, ◌&&◌, if◌then◌else◌, position, remove, slice_get}
use Rattle.std.proofs.lemmas.List.Edits.{length-remove}
use Rattle.std.proofs.lemmas.Option.{slice_get_within}
use Rattle.mmtel_compose.specs.ReceivedMessages.{MessageView}
use Rattle.mmtel_call_services.specs.Decisions.{decision_after, decision_at, diversion_target, is_status, peer_for, relayed_status, service_at}
use Rattle.mmtel_output.specs.ResponseMatching.{timed_out_branch}
use Rattle.mmtel_call_services.specs.CallConfig.{CallConfigView}
use Rattle.mmtel_call_services.specs.declared.openings.Service.{Service}
use Rattle.mmtel_call.specs.declared.calls.Call.{Call}
use Rattle.mmtel_call.specs.declared.calls.RelayedTransaction.{RelayedTransaction}
use Rattle.mmtel_call.specs.declared.calls.EstablishedLegs.{EstablishedLegs}
use Rattle.mmtel_call.specs.declared.calls.Phase.{Phase}
use Rattle.mmtel_call.specs.declared.calls.Phase.TheVariants.{Detached, Established, Offered, Over}
use Rattle.mmtel_call.specs.declared.calls.Stage.{Stage}
use Rattle.mmtel_call.specs.declared.calls.Stage.TheVariants.{Answered, Departing, Reinviting, Stable}
use Rattle.mmtel_call.specs.declared.calls.OfferedAttempt.{OfferedAttempt}
use Rattle.mmtel_call.specs.Closing.{StepResult, call_end, step_result, with_past}
use Rattle.mmtel_call.specs.Sending.{with_relay_to_caller}
use Rattle.mmtel_call.specs.Diverting.{after_attempt, at_target, call_after_diversion, call_refusal, diversion_refusal, diversion_step, diversion_unless_refused}
use Rattle.mmtel_call.specs.Diverting.{divert, is_diverted, on_end, on_next_step, relayed_refusal, with_notification_of, with_unoffered_meter}
use Rattle.mmtel_call.specs.Dismissal.{leaves_on_due, leaves_on_timeout, leaves_on_timeout_at, leaves_on_timer}
use Rattle.mmtel_call.specs.RelayedTransactions.{is_in_flight, on_timeout_in_flight, on_timeout_relayed, output_after_dismissal, without_in_flight, without_transaction}
use Rattle.mmtel_call.specs.OtherRequests.{on_other_timeout, on_other_timeout_at, without_key, without_timed_out}
use Rattle.mmtel_call.specs.Ringing.{call_without_attempt, end_before_answer, on_attempt_timeout, on_due, with_attempt_cancel}
use Rattle.mmtel_call.specs.Stages.{after_timer_at, is_due_at, on_timeout_at}
use Rattle.mmtel_call.specs.Table.{due_in, is_current, leaves, leaves_on_timeout_of, on_timeout_of, step, timeout_in, transition}
use Rattle.mmtel_call.specs.declared.signals.Signal.{Signal}
use Rattle.mmtel_call.specs.declared.signals.Signal.TheVariants as signal
use Rattle.mmtel_compose.specs.ReceivedMessages.{status_of as status_in}
use Rattle.mmtel_output.specs.AbandonedInvites.{is_of_branch}
use Rattle.mmtel_output.specs.declared.outputs.StepOutput.{StepOutput}
use Rattle.mmtel_leg.specs.Legs.{Leg}
use Rattle.mmtel_precedence.specs.Attempts.{end_by_time}
use Rattle.mmtel_precedence.specs.Calls.{AttemptEndView, NoReply, NotReachable, SnapshotView}
use Rattle.mmtel_precedence.specs.Services.{DueDiversionView}
use Rattle.mmtel_precedence.specs.NextSteps.{EndAnswered, EndDivert, EndRefuse, NextStepView, StepAfterAttemptView, StepDivert, StepOffer, StepRefuse}
use Rattle.mmtel_precedence.specs.Verdicts.{too_many}
use Rattle.mmtel_reliable.specs.Acks.{has_own}
use Rattle.mmtel_served_user.specs.declared.targets.Target.{Target}
use Rattle.mmtel_transaction.specs.declared.words.DueWord.{DueWord}
use Rattle.mmtel_transaction.specs.declared.words.DueWord.TheVariants as due
use Rattle.mmtel_types.specs.declared.causes.Cause.{Cause}
use Rattle.mmtel_types.specs.declared.causes.Cause.TheVariants as causes

-- the number of ways to proceed that a call has: while it is offered the number of remaining diversions plus two; once it is answered one; once it has ended none; and one for each request that
-- is in flight, whose timeout gets a response
abbrev pub ways_in : Phase → (left : ℕ) → ℕ
ways_in (Offered x) left = 2 + left
ways_in (Established x stage) left = 1
ways_in (Detached detached) left = 1
ways_in (Over cause) left = 0

abbrev pub ways : Call → ℕ
ways c = ways_in c.phase c.diversions.remaining + length c.relayed

-- ---- a diversion that is due

-- at most so many remain after the step of this call, not counting what is in flight
abbrev Leaves : ℕ → Call → StepResult → Type 0
Leaves most c s = ways s.call ≤ most + length c.relayed

-- whatever the outcome of a diversion that is due where so many remain
abbrev DivertLeaves : (left : ℕ) → CallConfigView → SnapshotView → Leg → Type 0
DivertLeaves left config now caller = (service : Option Service) (due : DueDiversionView) (c : Call) (output : StepOutput) → Leaves (1 + left) c (divert left config now caller service due c output)

turn-leaves : (left : ℕ) (config : CallConfigView) (now : SnapshotView) (caller : Leg) → DivertLeaves left config now caller →
    (service : Option Service) (cause : Option ℕ) (target : Target) (turn : NextStepView) (c : Call) (output : StepOutput) → c.diversions.remaining ≡ left →
    Leaves (2 + left) c (on_next_step (divert left config now caller) config now.at caller service cause target turn c output)
turn-leaves left config now caller later service cause target (StepOffer peer waiting) c output e = omega (arith, e)
turn-leaves left config now caller later service cause target (StepDivert due) c output e =
    let less : ways (divert left config now caller service due (with_unoffered_meter now.at service c) output).call ≤ 1 + left + length c.relayed = later service due (with_unoffered_meter now.at service c) output in
    omega (arith, less)
turn-leaves left config now caller later service cause target (StepRefuse why) c output e = omega arith

target-leaves : (left : ℕ) (config : CallConfigView) (now : SnapshotView) (caller : Leg) → DivertLeaves left config now caller →
    (cause : Option ℕ) (target : Target) (c : Call) (output : StepOutput) → c.diversions.remaining ≡ left → Leaves (2 + left) c (at_target (divert left config now caller) config now caller cause target c output)
target-leaves left config now caller later cause target c output e =
    turn-leaves left config now caller later (service_at config now c.opening cause target) cause target
    (decision_at config now c.opening (is_diverted c) cause target (service_at config now c.opening cause target) (peer_for config c.opening target)) c output e

unless-leaves : (most : ℕ) (refusal : Option Cause) (onward : Call → StepOutput → StepResult) (config : CallConfigView) (at : ℕ) (caller : Leg) (c : Call) (output : StepOutput) →
    Leaves most c (onward c output) → Leaves most c (diversion_unless_refused refusal onward config at caller c output)
unless-leaves most (Some cause) onward config at caller c output leaves = omega arith
unless-leaves most None onward config at caller c output leaves = leaves

divert-leaves : (left : ℕ) (config : CallConfigView) (now : SnapshotView) (caller : Leg) → DivertLeaves left config now caller
unfolding divert
divert-leaves zero config now caller service due c output =
    unless-leaves 1 (diversion_refusal 0 config now.at service due c) (call_refusal config now.at caller (too_many due.cause)) config now.at caller c output (omega arith)
divert-leaves (suc left) config now caller service due c output =
    let target = diversion_target config due in
    let next = call_after_diversion target now.at left service due c in
    let inner : Leaves (2 + left) next (at_target (divert left config now caller) config now caller (Some due.cause) target next (with_notification_of config due next output)) =
    target-leaves left config now caller (divert-leaves left config now caller) (Some due.cause) target next (with_notification_of config due next output) refl in
    let onward : Call → StepOutput → StepResult = diversion_step (at_target (divert left config now caller) config now caller (Some due.cause) target) config target now.at left service due in
    unless-leaves (1 + suc left) (diversion_refusal (suc left) config now.at service due c) onward config now.at caller c output (omega (arith, inner))

-- ---- after an attempt

call_refusal-leaves : (config : CallConfigView) (at : ℕ) (caller : Leg) (service : Option Service) (m : Option MessageView) (cause : Cause) (c : Call) (output : StepOutput) →
    Leaves 0 c (relayed_refusal config at caller service m cause c output)
call_refusal-leaves config at caller service None cause c output = omega arith
call_refusal-leaves config at caller service (Some m) cause c output = go (is_status (status_in m.parsed.start) (relayed_status cause))
  where
    go : (b : Bool) → Leaves 0 c (if b then call_end at cause caller.meter None c (with_relay_to_caller config c service m output) else call_refusal config at caller cause c output)
    go true = omega arith
    go false = omega arith

end-leaves : (config : CallConfigView) (now : SnapshotView) (caller : Leg) (service : Option Service) (m : Option MessageView) (end : StepAfterAttemptView) (c : Call) (output : StepOutput) →
    Leaves (1 + c.diversions.remaining) c (on_end config now caller service m end c output)
end-leaves config now caller service m EndAnswered c output = omega arith
end-leaves config now caller service m (EndDivert due) c output = divert-leaves c.diversions.remaining config now caller service due c output
end-leaves config now caller service m (EndRefuse cause) c output = let none = call_refusal-leaves config now.at caller service m cause c output in omega (arith, none)

goes-leaves : (config : CallConfigView) (now : SnapshotView) (x : OfferedAttempt) (how : AttemptEndView) (m : Option MessageView) (c : Call) (output : StepOutput) →
    Leaves (1 + c.diversions.remaining) c (after_attempt config now x how m c output)
goes-leaves config now x how m c output =
    end-leaves config now x.caller x.attempt.service m (decision_after c.opening now.at (is_diverted c) x.attempt.service how) (with_past x.callee.leg.meter c) output

-- ---- a step

-- it outputs nothing, and the call has no more ways to proceed than before; or it has fewer
abbrev Fewer : Call → StepResult → Type 0
Fewer c s = suc (ways s.call) ≤ ways c

abbrev pub Wanes : Call → StepOutput → StepResult → Type 0
Wanes c output s = ((s.output.out ≡ output.out) × (ways s.call ≤ ways c)) ⊎ Fewer c s

stays : (c d : Call) (output : StepOutput) → ways d ≡ ways c → Wanes c output (step_result d output)
stays c d output same = inl (refl, omega (arith, same))

-- of a call that is offered
fewer : (x : OfferedAttempt) (c : Call) (s : StepResult) → c.phase ≡ Offered x → Leaves (1 + c.diversions.remaining) c s → Fewer c s
fewer x c s is less = let have : ways_in c.phase c.diversions.remaining ≡ 2 + c.diversions.remaining = ap (λ (p : Phase). ways_in p c.diversions.remaining) is in omega (arith, less, have)

-- of one that was answered
ends : (x : EstablishedLegs) (stage : Stage) (c : Call) (s : StepResult) → c.phase ≡ Established x stage → ways s.call ≡ 0 → Fewer c s
ends x stage c s is none = let have : ways_in c.phase c.diversions.remaining ≡ 1 = ap (λ (p : Phase). ways_in p c.diversions.remaining) is in omega (arith, none, have)

-- ---- no response came to the INVITE whose response it awaits

silenced-fewer : (b : Bool) (config : CallConfigView) (now : SnapshotView) (x : OfferedAttempt) (c : Call) (output : StepOutput) → c.phase ≡ Offered x → not b ≡ true
    → Fewer c (if b then step_result c output else after_attempt config now x (NotReachable 408) None c output)
silenced-fewer true config now x c output is leaves = absurd (let f : false ≡ true = leaves in cc)
silenced-fewer false config now x c output is leaves = fewer x c (after_attempt config now x (NotReachable 408) None c output) is (goes-leaves config now x (NotReachable 408) None c output)

across-fewer : (stage : Stage) (config : CallConfigView) (at : ℕ) (x : EstablishedLegs) (c : Call) (output : StepOutput) → c.phase ≡ Established x stage → leaves_on_timeout_at stage ≡ true →
    Fewer c (on_timeout_at stage config at x c output)
across-fewer (Answered waiting success) config at x c output is leaves = absurd (let f : false ≡ true = leaves in cc)
across-fewer (Departing waiting success) config at x c output is leaves = absurd (let f : false ≡ true = leaves in cc)
across-fewer Stable config at x c output is leaves = absurd (let f : false ≡ true = leaves in cc)
across-fewer (Reinviting asking q) config at x c output is leaves = ends x (Reinviting asking q) c (on_timeout_at (Reinviting asking q) config at x c output) is refl

silence-fewer : (p : Phase) (config : CallConfigView) (now : SnapshotView) (c : Call) (output : StepOutput) → c.phase ≡ p → leaves_on_timeout p ≡ true → Fewer c (timeout_in p config now c output)
silence-fewer (Offered x) config now c output is leaves = silenced-fewer x.attempt.rang config now x c output is leaves
silence-fewer (Established x stage) config now c output is leaves = across-fewer stage config now.at x c output is leaves
silence-fewer (Detached detached) config now c output is leaves = absurd (let f : false ≡ true = leaves in cc)
silence-fewer (Over cause) config now c output is leaves = absurd (let f : false ≡ true = leaves in cc)

-- where that does not change the call
rang-stays : (b : Bool) (config : CallConfigView) (now : SnapshotView) (x : OfferedAttempt) (c : Call) (output : StepOutput) → not b ≡ false →
    Wanes c output (if b then step_result c output else after_attempt config now x (NotReachable 408) None c output)
rang-stays true config now x c output stay = stays c c output refl
rang-stays false config now x c output stay = absurd (let f : true ≡ false = stay in cc)

across-stays : (stage : Stage) (config : CallConfigView) (at : ℕ) (x : EstablishedLegs) (c : Call) (output : StepOutput) → leaves_on_timeout_at stage ≡ false → Wanes c output (on_timeout_at stage config at x c output)
across-stays (Answered waiting success) config at x c output stay = stays c c output refl
across-stays (Departing waiting success) config at x c output stay = stays c c output refl
across-stays Stable config at x c output stay = stays c c output refl
across-stays (Reinviting asking q) config at x c output stay = absurd (let f : true ≡ false = stay in cc)

silence-stays : (p : Phase) (config : CallConfigView) (now : SnapshotView) (c : Call) (output : StepOutput) → leaves_on_timeout p ≡ false → Wanes c output (timeout_in p config now c output)
silence-stays (Offered x) config now c output stay = rang-stays x.attempt.rang config now x c output stay
silence-stays (Established x stage) config now c output stay = across-stays stage config now.at x c output stay
silence-stays (Detached detached) config now c output stay = stays c c output refl
silence-stays (Over cause) config now c output stay = stays c c output refl

-- ---- nor to another request

-- one of those in flight gets its final response
flight-wanes : (place : ℕ) (o : Option RelayedTransaction) (config : CallConfigView) (c : Call) (output : StepOutput) → slice_get c.relayed place ≡ o → Wanes c output (on_timeout_relayed config place o c output)
flight-wanes place None config c output is = stays c c output refl
flight-wanes place (Some flight) config c output is =
    let one : length (remove c.relayed place) + 1 ≡ length c.relayed = length-remove c.relayed place (slice_get_within c.relayed place flight is) in
    let left : length (without_transaction place c).relayed ≡ length (remove c.relayed place) = ap (λ (n : ℕ). length (take place c.relayed ++ drop n c.relayed)) (add-one place) in
    inr (omega (arith, one, left))

flying-wanes : (o : Option ℕ) (config : CallConfigView) (c : Call) (output : StepOutput) → Wanes c output (on_timeout_in_flight config o c output)
flying-wanes None config c output = stays c c output refl
flying-wanes (Some place) config c output = flight-wanes place (slice_get c.relayed place) config c output refl

other-wanes : (o : Option ℕ) (config : CallConfigView) (branch : List ℕ) (c : Call) (output : StepOutput) → Wanes c output (on_other_timeout_at config branch o c output)
other-wanes None config branch c output = flying-wanes (position (is_in_flight branch) c.relayed) config c output
other-wanes (Some at) config branch c output = stays c (without_timed_out branch c) output refl

-- the step, where the attempt or the call is not left, and where it is: what was in flight gets its final response then
abbrev silence_row : (now_on : Bool) → CallConfigView → SnapshotView → (branch : List ℕ) → Call → StepOutput → StepResult
silence_row now_on config now branch c output = if now_on then timeout_in c.phase config now c output else on_other_timeout config branch c output

silent-stays : (b : Bool) (config : CallConfigView) (now : SnapshotView) (branch : List ℕ) (c : Call) (output : StepOutput) → b && leaves_on_timeout c.phase ≡ false →
    Wanes c output (silence_row b config now branch c output)
silent-stays true config now branch c output stay = silence-stays c.phase config now c output stay
silent-stays false config now branch c output stay = other-wanes (position (is_of_branch branch) c.abandoned) config branch c output

silent-fewer : (b : Bool) (config : CallConfigView) (now : SnapshotView) (branch : List ℕ) (c : Call) (output : StepOutput) → b && leaves_on_timeout c.phase ≡ true → Fewer c (silence_row b config now branch c output)
silent-fewer true config now branch c output leave = silence-fewer c.phase config now c output refl leave
silent-fewer false config now branch c output leave = absurd (let f : false ≡ true = leave in cc)

-- of a call without what was in flight
without_in_flight-fewer : (c : Call) (s : StepResult) → Fewer (without_in_flight c) s → Fewer c s
without_in_flight-fewer c s less = let few : suc (ways s.call) ≤ ways_in c.phase c.diversions.remaining + 0 = less in omega (arith, few)

on_timeout_of-stays : (branch : Option (List ℕ)) (config : CallConfigView) (now : SnapshotView) (c : Call) (output : StepOutput) → leaves_on_timeout_of branch c ≡ false →
    Wanes c output (on_timeout_of branch config now c output)
on_timeout_of-stays None config now c output stay = stays c c output refl
on_timeout_of-stays (Some branch) config now c output stay = silent-stays (is_current branch c) config now branch c output stay

on_timeout_of-fewer : (branch : Option (List ℕ)) (config : CallConfigView) (now : SnapshotView) (c : Call) (output : StepOutput) → leaves_on_timeout_of branch c ≡ true →
    Fewer c (on_timeout_of branch config now (without_in_flight c) output)
on_timeout_of-fewer None config now c output leave = absurd (let f : false ≡ true = leave in cc)
on_timeout_of-fewer (Some branch) config now c output leave = without_in_flight-fewer c (silence_row (is_current branch c) config now branch (without_in_flight c) output)
    (silent-fewer (is_current branch c) config now branch (without_in_flight c) output leave)

-- ---- a timer

-- of an attempt
timed-fewer : (b : Bool) (config : CallConfigView) (now : SnapshotView) (x : OfferedAttempt) (how : AttemptEndView) (c : Call) (output : StepOutput) → c.phase ≡ Offered x → b ≡ true →
    Fewer c (if b then on_attempt_timeout config now x how c output else step_result c output)
timed-fewer true config now x how c output is leave = fewer x c (on_attempt_timeout config now x how c output) is (goes-leaves config now x how None (call_without_attempt x c) (with_attempt_cancel config x output))
timed-fewer false config now x how c output is leave = absurd (let f : false ≡ true = leave in cc)

given-fewer : (b : Bool) (config : CallConfigView) (now : SnapshotView) (x : OfferedAttempt) (c : Call) (output : StepOutput) → c.phase ≡ Offered x → b ≡ true
    → Fewer c (if b then end_before_answer causes.Unacknowledged config now.at x c output else step_result c output)
given-fewer true config now x c output is leave = fewer x c (end_before_answer causes.Unacknowledged config now.at x c output) is (omega arith)
given-fewer false config now x c output is leave = absurd (let f : false ≡ true = leave in cc)

offered-fewer : (what : DueWord) (config : CallConfigView) (now : SnapshotView) (x : OfferedAttempt) (c : Call) (output : StepOutput) → c.phase ≡ Offered x → leaves_on_timer x what c ≡ true →
    Fewer c (on_due config now x what c output)
offered-fewer (due.NoReply number) config now x c output is leave = timed-fewer (number == x.attempt.number) config now x NoReply c output is leave
offered-fewer (due.NoPrack own) config now x c output is leave = given-fewer (has_own own c.acks.waiting) config now x c output is leave
offered-fewer (due.Cap number) config now x c output is leave = timed-fewer (number == x.attempt.number) config now x (end_by_time x.attempt.rang) c output is leave
offered-fewer (due.NoAck number) config now x c output is leave = absurd (let f : false ≡ true = leave in cc)
offered-fewer (due.Expired number) config now x c output is leave = absurd (let f : false ≡ true = leave in cc)

rung-fewer : (stage : Stage) (config : CallConfigView) (at : ℕ) (x : EstablishedLegs) (c : Call) (output : StepOutput) → c.phase ≡ Established x stage → Fewer c (after_timer_at stage config at x c output)
rung-fewer (Answered waiting success) config at x c output is = ends x (Answered waiting success) c (after_timer_at (Answered waiting success) config at x c output) is refl
rung-fewer (Departing waiting success) config at x c output is = ends x (Departing waiting success) c (after_timer_at (Departing waiting success) config at x c output) is refl
rung-fewer Stable config at x c output is = ends x Stable c (after_timer_at Stable config at x c output) is refl
rung-fewer (Reinviting asking q) config at x c output is = ends x (Reinviting asking q) c (after_timer_at (Reinviting asking q) config at x c output) is refl

stage-fewer : (b : Bool) (stage : Stage) (config : CallConfigView) (at : ℕ) (x : EstablishedLegs) (c : Call) (output : StepOutput) → c.phase ≡ Established x stage → b ≡ true →
    Fewer c (if b then after_timer_at stage config at x c output else step_result c output)
stage-fewer true stage config at x c output is leave = rung-fewer stage config at x c output is
stage-fewer false stage config at x c output is leave = absurd (let f : false ≡ true = leave in cc)

due-fewer : (p : Phase) (config : CallConfigView) (now : SnapshotView) (what : DueWord) (c : Call) (output : StepOutput) → c.phase ≡ p → leaves_on_due p what c ≡ true → Fewer c (due_in p config now what c output)
due-fewer (Offered x) config now what c output is leave = offered-fewer what config now x c output is leave
due-fewer (Established x stage) config now what c output is leave = stage-fewer (is_due_at stage c.successes what) stage config now.at x c output is leave
due-fewer (Detached detached) config now what c output is leave = absurd (let f : false ≡ true = leave in cc)
due-fewer (Over cause) config now what c output is leave = absurd (let f : false ≡ true = leave in cc)

-- whether it leaves the call does not depend on what is in flight
time-same : (x : OfferedAttempt) (what : DueWord) (c : Call) → leaves_on_timer x what (without_in_flight c) ≡ leaves_on_timer x what c
time-same x (due.NoReply number) c = refl
time-same x (due.NoPrack own) c = refl
time-same x (due.Cap number) c = refl
time-same x (due.NoAck number) c = refl
time-same x (due.Expired number) c = refl

due-same : (p : Phase) (what : DueWord) (c : Call) → leaves_on_due p what (without_in_flight c) ≡ leaves_on_due p what c
due-same (Offered x) what c = time-same x what c
due-same (Established x stage) what c = refl
due-same (Detached detached) what c = refl
due-same (Over cause) what c = refl

-- one that concerns nothing any more
unless-stays : (b : Bool) (s : StepResult) (c : Call) (output : StepOutput) → b ≡ false → Wanes c output (if b then s else step_result c output)
unless-stays true s c output stay = absurd (let f : true ≡ false = stay in cc)
unless-stays false s c output stay = stays c c output refl

offered-stays : (what : DueWord) (config : CallConfigView) (now : SnapshotView) (x : OfferedAttempt) (c : Call) (output : StepOutput) → leaves_on_timer x what c ≡ false →
    Wanes c output (on_due config now x what c output)
offered-stays (due.NoReply number) config now x c output stay = unless-stays (number == x.attempt.number) (on_attempt_timeout config now x NoReply c output) c output stay
offered-stays (due.NoPrack own) config now x c output stay = unless-stays (has_own own c.acks.waiting) (end_before_answer causes.Unacknowledged config now.at x c output) c output stay
offered-stays (due.Cap number) config now x c output stay = unless-stays (number == x.attempt.number) (on_attempt_timeout config now x (end_by_time x.attempt.rang) c output) c output stay
offered-stays (due.NoAck number) config now x c output stay = stays c c output refl
offered-stays (due.Expired number) config now x c output stay = stays c c output refl

due-stays : (p : Phase) (config : CallConfigView) (now : SnapshotView) (what : DueWord) (c : Call) (output : StepOutput) → leaves_on_due p what c ≡ false → Wanes c output (due_in p config now what c output)
due-stays (Offered x) config now what c output stay = offered-stays what config now x c output stay
due-stays (Established x stage) config now what c output stay = unless-stays (is_due_at stage c.successes what) (after_timer_at stage config now.at x c output) c output stay
due-stays (Detached detached) config now what c output stay = stays c c output refl
due-stays (Over cause) config now what c output stay = stays c c output refl

-- the signals of timers to a call
abbrev pub is_of_branch_deadline : Signal → Bool
is_of_branch_deadline (signal.Request side key request) = false
is_of_branch_deadline (signal.Ack side ack) = false
is_of_branch_deadline (signal.Cancel key cancel invite) = false
is_of_branch_deadline (signal.Answer key response) = false
is_of_branch_deadline (signal.Silent branch method) = true
is_of_branch_deadline (signal.Due what) = true
is_of_branch_deadline (signal.Ended key) = true

-- by whether it leaves the attempt, or the call
by_row : (b : Bool) (x : Signal) (config : CallConfigView) (now : SnapshotView) (c : Call) (output : StepOutput) → (b ≡ false → Wanes c output (transition config now x c output)) →
    (b ≡ true → Fewer c (transition config now x (without_in_flight c) (output_after_dismissal config c output)))
    → Wanes c output (if b then transition config now x (without_in_flight c) (output_after_dismissal config c output) else transition config now x c output)
by_row true x config now c output stay leave = inr (leave refl)
by_row false x config now c output stay leave = stay refl

transition-stays : (x : Signal) (config : CallConfigView) (now : SnapshotView) (c : Call) (output : StepOutput) → is_of_branch_deadline x ≡ true → leaves x c ≡ false → Wanes c output (transition config now x c output)
unfolding transition
transition-stays (signal.Request side key request) config now c output is stay = absurd cc
transition-stays (signal.Ack side ack) config now c output is stay = absurd cc
transition-stays (signal.Cancel key cancel invite) config now c output is stay = absurd cc
transition-stays (signal.Answer key response) config now c output is stay = absurd cc
transition-stays (signal.Silent branch method) config now c output is stay = on_timeout_of-stays (timed_out_branch branch method) config now c output stay
transition-stays (signal.Due what) config now c output is stay = due-stays c.phase config now what c output stay
transition-stays (signal.Ended key) config now c output is stay = stays c (without_key key c) output refl

transition-fewer : (x : Signal) (config : CallConfigView) (now : SnapshotView) (c : Call) (output : StepOutput) → is_of_branch_deadline x ≡ true → leaves x c ≡ true →
    Fewer c (transition config now x (without_in_flight c) output)
unfolding transition
transition-fewer (signal.Request side key request) config now c output is leave = absurd cc
transition-fewer (signal.Ack side ack) config now c output is leave = absurd cc
transition-fewer (signal.Cancel key cancel invite) config now c output is leave = absurd cc
transition-fewer (signal.Answer key response) config now c output is leave = absurd cc
transition-fewer (signal.Silent branch method) config now c output is leave = on_timeout_of-fewer (timed_out_branch branch method) config now c output leave
transition-fewer (signal.Due what) config now c output is leave =
    without_in_flight-fewer c (due_in c.phase config now what (without_in_flight c) output) (due-fewer c.phase config now what (without_in_flight c) output refl (due-same c.phase what c ∙ leave))
transition-fewer (signal.Ended key) config now c output is leave = absurd (let f : false ≡ true = leave in cc)

pub wanes : (x : Signal) (config : CallConfigView) (now : SnapshotView) (c : Call) (output : StepOutput) → is_of_branch_deadline x ≡ true → Wanes c output (step config now x c output)
unfolding step
wanes x config now c output is = by_row (leaves x c) x config now c output (transition-stays x config now c output is) (transition-fewer x config now c (output_after_dismissal config c output) is)

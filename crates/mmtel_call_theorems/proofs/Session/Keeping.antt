-- Every step preserves the session as it is observed, and so does every trace.
use Rattle.std.proofs.Common.{◌≡◌, ◌<◌, ◌≤◌, ◌-◌, ◌^◌, ℕ, Bool, true, false, List, [], ◌∷◌, ◌++◌, length, drop, Option, Some, None, refl, ap, sym, subst, ◌∙◌, append-nil, arith}
use Rattle.std.proofs.lemmas.List.{drop_at}
use Rattle.std.specs.List.{list_any}
use Rattle.std.specs.Prelude.{if◌then◌else◌}
use Rattle.mmtel_compose.specs.ReceivedMessages.{MessageView}
use Rattle.mmtel_call.specs.Closing.{StepResult}
use Rattle.mmtel_call.specs.Detaching.{call_finish, detached_in, with_leg_restored}
use Rattle.mmtel_call.specs.Table.{step}
use Rattle.mmtel_call.specs.declared.calls.Call.{Call}
use Rattle.mmtel_call.specs.declared.calls.Phase.{Phase}
use Rattle.mmtel_call.specs.declared.calls.Phase.TheVariants.{Detached, Established, Offered, Over}
use Rattle.mmtel_call.specs.declared.calls.Stage.TheVariants.{Answered, Departing, Reinviting, Stable}
use Rattle.mmtel_call.specs.declared.signals.Signal.{Signal}
use Rattle.mmtel_call_services.specs.CallConfig.{CallConfigView}
use Rattle.mmtel_call_services.specs.declared.openings.Opening.{Opening}
use Rattle.mmtel_output.specs.declared.outputs.StepOutput.{StepOutput}
use Rattle.mmtel_leg.specs.declared.legs.Released.{Released}
use Rattle.mmtel_precedence.specs.Calls.{SnapshotView}
use Rattle.mmtel_base.specs.Numbers.{next_number}
use Rattle.mmtel_session.specs.Intervals.{expiry_interval_of}
use Rattle.mmtel_transaction.specs.declared.words.Emit.{Emit}
use Rattle.mmtel_types.specs.declared.numbers.CallNo.{CallNo}
use Rattle.mmtel_types.specs.declared.sides.Side.{Side}
use Rattle.mmtel_call_theorems.specs.Continuation.{CallsContinue}
use Rattle.mmtel_call_theorems.specs.NoInjection.Emits.{Each}
use Rattle.mmtel_call_theorems.specs.Session.Theorems.{IsSessionObserved, SessionsAreObserved, expiry_at, expiry_due, number_in}
use Rattle.mmtel_call_theorems.specs.Session.Observed.{RelayedSuccess, Session, expiries_of, initial_session, is_accepted, session_after, session_after_step, session_after_success, success_received}
use Rattle.mmtel_call_theorems.specs.CallTrace.{TraceStart, TraceStep, call_after, first_step, items_added}
use Rattle.mmtel_call_theorems.specs.Attempts.Observed.{Deadline}
use Rattle.mmtel_call_theorems.proofs.NoInjection.Sending.{each_append}
use Rattle.mmtel_call_theorems.proofs.Session.Transitions as rows
use Rattle.mmtel_call_theorems.proofs.Session.Transitions.{Goes, Passes, ReceivesNone, SaysNone, if_same}

-- ---- numbers

abbrev greatest : ℕ
greatest = 2 ^ 64 - 1

next_most : (n : ℕ) → next_number n ≤ greatest
next_most n = omega arith

next_least : (m n : ℕ) → n ≤ greatest → m ≤ n → m ≤ next_number n
next_least m n most e = omega (arith, most, e)

next_above : (m n : ℕ) → next_number n < greatest → m ≤ n → m < next_number n
next_above m n less e = omega (arith, less, e)

abbrev AtMost : ℕ → Deadline → Type 0
AtMost n deadline = number_in deadline ≤ n

abbrev IsBelow : ℕ → Deadline → Type 0
IsBelow n deadline = number_in deadline < n

each_more : (P Q : Deadline → Type 0) → ((x : Deadline) → P x → Q x) → (xs : List Deadline) → Each P xs → Each Q xs
each_more P Q more [] e = tt
each_more P Q more (x ∷ xs) e = (more x e.0, each_more P Q more xs e.1)

same_most : (n : ℕ) → n ≤ n
same_most n = omega arith

-- what is due of the last 2xx has its number
due_most : (timer : Bool) (n : ℕ) (last : Option RelayedSuccess) → Each (AtMost n) (expiry_due timer n last)
due_most timer n None = tt
due_most true n (Some last) = by (expiry_interval_of last.message.parsed.session)
  where
    by : (time : Option ℕ) → Each (AtMost n) (expiry_at n last.at time)
    by None = tt
    by (Some time) = (same_most n, tt)
due_most false n (Some last) = tt

-- ---- one step

-- what was added
added_new : (before new out : List Emit) → out ≡ before ++ new → items_added before out ≡ new
added_new before new out is = ap (drop (length before)) is ∙ drop_at before new (length before) refl

module _ (timer : Bool) (c : Call) (w : Session) (seen : IsSessionObserved timer c w) where
  -- no deadline of a session is armed, and the number does not change
  pub kept : (at : ℕ) (d : Call) → d.successes ≡ c.successes → IsSessionObserved timer d (session_after_success at w None [])
  kept at d same = record {
    number = same ∙ seen.number;
    most = seen.most;
    armed = append-nil w.armed ∙ seen.armed;
    least = seen.least;
    lower = seen.lower;
  }

  -- a 2xx starts it anew
  begun : (at : ℕ) (m : MessageView) (d : Call) (armed : List Deadline) → d.successes ≡ next_number c.successes →
      armed ≡ (if timer then expiry_at (next_number c.successes) at (expiry_interval_of m.parsed.session) else []) → IsSessionObserved timer d (session_after_success at w (Some m) armed)
  begun at m d armed number is =
      let had : Each (AtMost w.count) (w.earlier ++ w.armed) =
      each_append (AtMost w.count) w.earlier w.armed seen.least (subst (Each (AtMost w.count)) (sym seen.armed) (due_most timer w.count w.last)) in
      record {
        number = number ∙ ap next_number seen.number;
        most = next_most w.count;
        armed = is ∙ ap (λ n. if timer then expiry_at (next_number n) at (expiry_interval_of m.parsed.session) else []) seen.number;
        least = each_more (AtMost w.count) (AtMost (next_number w.count)) (λ deadline e. next_least (number_in deadline) w.count seen.most e) (w.earlier ++ w.armed) had;
        lower = λ less. each_more (AtMost w.count) (IsBelow (next_number w.count)) (λ deadline e. next_above (number_in deadline) w.count less e) (w.earlier ++ w.armed) had;
      }

-- what is relayed where this was sent and this was received
abbrev passed_in : Option MessageView → List Emit → Option MessageView
passed_in received out = if list_any is_accepted out then received else None

-- the session after a step in which this was received and these were sent
abbrev next_observed : (at : ℕ) → CallNo → Option MessageView → List Emit → Session → Session
next_observed at own received out w = session_after_success at w (passed_in received out) (expiries_of own out)

module _ (config : CallConfigView) (c : Call) (w : Session) (seen : IsSessionObserved config.timer c w) where
  abbrev own : CallNo
  own = c.opening.number

  stays_observed : (at : ℕ) (received : Option MessageView) (accepts : Bool) (before : List Emit) (s : StepResult) → rows.Stays config own c.successes before accepts s →
      ((new : List Emit) → (accepts ≡ false → list_any is_accepted new ≡ false) → passed_in received new ≡ None) →
      IsSessionObserved config.timer s.call (next_observed at own received (items_added before s.output.out) w)
  stays_observed at received accepts before s g none =
      let adds = g.output_in in
      let told : next_observed at own received (items_added before s.output.out) w ≡ session_after_success at w None [] =
      ap (λ out. next_observed at own received out w) (added_new before adds.new s.output.out adds.out)
      ∙ (λ i. session_after_success at w (none adds.new adds.accepted i) (adds.none i)) in
      subst (IsSessionObserved config.timer s.call) (sym told) (kept config.timer c w seen at s.call g.call_in.0)

  goes_observed : (at : ℕ) (received : Option MessageView) (before : List Emit) (s : StepResult) → Goes config own c.successes before at received s →
      IsSessionObserved config.timer s.call (next_observed at own received (items_added before s.output.out) w)
  goes_observed at received before s (Passes m is a) =
      let told : next_observed at own received (items_added before s.output.out) w ≡ session_after_success at w (Some m) (expiries_of own a.new) =
      ap (λ out. next_observed at own received out w) (added_new before a.new s.output.out a.out)
      ∙ (λ i. session_after_success at w (if a.accepted i then is i else None) (expiries_of own a.new)) in
      subst (IsSessionObserved config.timer s.call) (sym told) (begun config.timer c w seen at m s.call (expiries_of own a.new) a.number a.armed)
  goes_observed at received before s (ReceivesNone is g) =
      stays_observed at received true before s g (λ new unsaid. ap (λ o. passed_in o new) is ∙ if_same (list_any is_accepted new) None)
  goes_observed at received before s (SaysNone g) = stays_observed at received false before s g (λ new unsaid. ap (λ b. if b then received else None) (unsaid refl))

-- ---- the theorems

step_observed : (config : CallConfigView) (now : SnapshotView) (received : Signal) (c : Call) (output : StepOutput) (w : Session) → IsSessionObserved config.timer c w →
    IsSessionObserved config.timer (step config now received c output).call (session_after_step now.at c.opening.number c received (items_added output.out (step config now received c output).output.out) w)
step_observed config now received c output w seen =
    goes_observed config c w seen now.at (success_received received c) output.out (step config now received c output)
    (rows.step_goes config c.opening.number c.successes output.out now received c output (refl, refl) refl)

first_observed : (s : TraceStart) → IsSessionObserved s.config.timer (first_step s).call (initial_session s.arrival.number (items_added s.output.out (first_step s).output.out))
first_observed s =
    let g = rows.opened_good s.config s.arrival.number 0 s.output.out s.now s.arrival s.output refl refl refl in
    record {
      number = g.call_in.0;
      most = omega arith;
      armed = ap (expiries_of s.arrival.number) (added_new s.output.out g.output_in.new (first_step s).output.out g.output_in.out) ∙ g.output_in.none;
      least = tt;
      lower = λ few. tt;
    }

same_observed : (timer : Bool) (c d : Call) (w : Session) → d.successes ≡ c.successes → IsSessionObserved timer c w → IsSessionObserved timer d w
same_observed timer c d w same seen = record { number = same ∙ seen.number; most = seen.most; armed = seen.armed; least = seen.least; lower = seen.lower }

detached_same : (phase : Phase) (side : Side) (c : Call) → (detached_in phase side c).successes ≡ c.successes
detached_same (Offered x) side c = refl
detached_same (Established x (Answered waiting success)) side c = refl
detached_same (Established x (Departing waiting success)) side c = refl
detached_same (Established x Stable) side c = refl
detached_same (Established x (Reinviting asking q)) side c = refl
detached_same (Detached detached) side c = refl
detached_same (Over cause) side c = refl

back_same : (phase : Phase) (away : Released) (c : Call) → (with_leg_restored phase away c).successes ≡ c.successes
back_same (Offered x) away c = refl
back_same (Established x stage) away c = refl
back_same (Detached detached) away c = refl
back_same (Over cause) away c = refl

ends_observed : (config : CallConfigView) (at : ℕ) (c : Call) (output : StepOutput) (w : Session) → IsSessionObserved config.timer c w →
    IsSessionObserved config.timer (call_finish config at c output).call (session_after_success at w None (expiries_of c.opening.number (items_added output.out (call_finish config at c output).output.out)))
ends_observed config at c output w seen =
    let own : CallNo = c.opening.number in
    let g = rows.finished_good config own c.successes output.out at c output (refl, refl) (rows.nothing_yet config own c.successes output.out false output refl) in
    let out = (call_finish config at c output).output.out in
    subst (λ armed. IsSessionObserved config.timer (call_finish config at c output).call (session_after_success at w None armed))
    (sym (ap (expiries_of own) (added_new output.out g.output_in.new out g.output_in.out) ∙ g.output_in.none))
    (kept config.timer c w seen at (call_finish config at c output).call g.call_in.0)

traces_observed : CallsContinue → (s : TraceStart) (received : List TraceStep) → IsSessionObserved s.config.timer (call_after s received) (session_after s received)
unfolding call_after session_after
traces_observed law s [] = first_observed s
traces_observed law s (x ∷ earlier) =
    let c : Call = call_after s earlier in
    let number : c.opening.number ≡ s.arrival.number = ap (λ (o : Opening). o.number) (law.opening s earlier) in
    subst (λ own. IsSessionObserved s.config.timer (step s.config x.now x.signal c x.output).call
    (session_after_step x.now.at own c x.signal (items_added x.output.out (step s.config x.now x.signal c x.output).output.out) (session_after s earlier))) number
    (step_observed s.config x.now x.signal c x.output (session_after s earlier) (traces_observed law s earlier))

pub sessions_are_observed : CallsContinue → SessionsAreObserved
sessions_are_observed law = record {
  opens = first_observed;
  steps = step_observed;
  releases = λ timer side c w seen. same_observed timer c (detached_in c.phase side c) w (detached_same c.phase side c) seen;
  restores = λ timer away c w seen. same_observed timer c (with_leg_restored c.phase away c) w (back_same c.phase away c) seen;
  ends = ends_observed;
  traces = traces_observed law;
}

-- What is observed of the trace of a call from outside: its attempts, its INVITEs and its final responses.
use Rattle.std.proofs.Common.{◌≡◌, ℕ, Bool, true, false, List, [], ◌∷◌, ◌++◌, Option, Some, None, refl, ap, sym, subst, ◌∙◌}
use Rattle.std.proofs.lemmas.List.{append-nil}
use Rattle.std.proofs.lemmas.Option.{none-some}
use Rattle.std.specs.Prelude.{if◌then◌else◌, option_to_list}
use Rattle.std.specs.Option.{option_map}
use Rattle.mmtel_output.specs.declared.outputs.StepOutput.{StepOutput}
use Rattle.mmtel_leg.specs.declared.legs.Released.{Released}
use Rattle.mmtel_transaction.specs.declared.words.Emit.{Emit}
use Rattle.mmtel_transaction.specs.declared.words.TKey.{TKey}
use Rattle.mmtel_types.specs.declared.sides.Side.{Side}
use Rattle.mmtel_call_services.specs.Decisions.{no_reply_time_of}
use Rattle.mmtel_call_services.specs.CallConfig.{CallConfigView}
use Rattle.mmtel_call_services.specs.declared.openings.Opening.{Opening}
use Rattle.mmtel_call.specs.Detaching.{call_finish, detached_in, finish_of_phase, with_leg_restored}
use Rattle.mmtel_call.specs.Table.{step}
use Rattle.mmtel_call.specs.declared.calls.Call.{Call}
use Rattle.mmtel_call.specs.declared.calls.Phase.{Phase}
use Rattle.mmtel_call.specs.declared.calls.Phase.TheVariants.{Detached, Established, Offered, Over}
use Rattle.mmtel_call.specs.declared.calls.Stage.TheVariants.{Answered, Departing, Reinviting, Stable}
use Rattle.mmtel_call.specs.declared.signals.Signal.{Signal}
use Rattle.mmtel_call_theorems.specs.Endings.{ending_at}
use Rattle.mmtel_call_theorems.specs.Continuation.{CallsContinue, is_established_in}
use Rattle.mmtel_call_theorems.specs.Outcomes.{last_record}
use Rattle.mmtel_call_theorems.specs.Theorems.{CallHasOtherKeys, ChargingIsExact, ShowsItsOutcome, ShowsNothingLater}
use Rattle.mmtel_call_theorems.specs.Labels.{HasOtherKey, InFlightHasOtherKeys, PhaseHasOtherKey, is_offered, labels_of, labels_of_step}
use Rattle.mmtel_call_theorems.specs.CallTrace as traces
use Rattle.mmtel_call_theorems.specs.CallTrace.{TraceStart, TraceStep, items_added, next_step, opening_in}
use Rattle.mmtel_call_theorems.specs.Attempts.Theorems as trace_attempts
use Rattle.mmtel_call_theorems.specs.Attempts.Theorems.{AttemptsAreObserved, EndingsAreObserved, PhaseIsObserved}
use Rattle.mmtel_call_theorems.specs.Attempts.Observed as trace_observed
use Rattle.mmtel_call_theorems.specs.Attempts.Observed.{AttemptEvent, AttemptInProgress, ObservedAttempts, end_observed, events_of, last_by, observed_end_in, observed_step, observed_step_from}
use Rattle.mmtel_call_theorems.proofs.Labels.{labels-append}
use Rattle.mmtel_b2bua_theorems.specs.Outcomes.{EventsHaveOtherKeys}
use Rattle.mmtel_b2bua_theorems.specs.Theorems.{TraceAttemptsAreObserved, TraceEndingsAreObserved, TracesShowThroughout}
use Rattle.mmtel_b2bua_theorems.specs.TracesWithTransfers.{CallEvent, Finishes, Receives, Releases, Restores, call_after, emits_by, emits_while_offered}
use Rattle.mmtel_b2bua_theorems.specs.Observed.{endings_observed, labels_after, labels_in, last_after, no_reply_after, observed_after}
use Rattle.mmtel_b2bua_theorems.proofs.Outcomes.{known-same, outcome-same, traces_show}
use Rattle.mmtel_b2bua_theorems.proofs.TraceSteps.{Beside, Later, MatchesTrace, Place, Same, after-offered, matches_trace_beside, quiet}

-- ---- a step, where both have the same CSeq number of the caller as long as an attempt is current

abbrev SameLast : ObservedAttempts → (one other : Option ℕ) → Type 0
SameLast w one other = (g : AttemptInProgress) → w.in_progress ≡ Some g → one ≡ other

observed-next : (config : CallConfigView) (o : Opening) (now : ℕ) (w : ObservedAttempts) (going : Option AttemptInProgress) (one other : Option ℕ) (received : Signal) (marks : List AttemptEvent) →
    w.in_progress ≡ going → SameLast w one other →
    observed_step_from config o now w going one received marks ≡ observed_step_from config o now w going other received marks
observed-next config o now w None one other received marks is same = refl
observed-next config o now w (Some g) one other received marks is same = ap (λ last. observed_step_from config o now w (Some g) last received marks) (same g is)

last-next : (config : CallConfigView) (o : Opening) (now : ℕ) (w : ObservedAttempts) (going : Option AttemptInProgress) (one other : Option ℕ) (received : Signal) (marks : List AttemptEvent) →
    w.in_progress ≡ going → SameLast w one other →
    SameLast (observed_step_from config o now w going one received marks) (last_by one received) (last_by other received)
last-next config o now w None one other received marks is same g going = absurd (none-some g (sym is ∙ going))
last-next config o now w (Some before) one other received marks is same g going = ap (λ last. last_by last received) (same before is)

ends-next : (w : ObservedAttempts) (going : Option AttemptInProgress) (key : TKey) (one other : Option ℕ) (received : Signal) → w.in_progress ≡ going → SameLast w one other →
    observed_end_in key one going w.acks received ≡ observed_end_in key other going w.acks received
ends-next w None key one other received is same = refl
ends-next w (Some g) key one other received is same = ap (λ last. observed_end_in key last (Some g) w.acks received) (same g is)

-- none is current, and so none follows
none-next : (config : CallConfigView) (o : Opening) (now : ℕ) (w : ObservedAttempts) (last : Option ℕ) (received : Signal) (marks : List AttemptEvent) → w.in_progress ≡ None →
    observed_step config o now w last received marks ≡ w
none-next config o now w last received marks none = ap (λ going. observed_step_from config o now w going last received marks) none

none-ends : (w : ObservedAttempts) (key : TKey) (last : Option ℕ) (received : Signal) → w.in_progress ≡ None → end_observed key last w received ≡ None
none-ends w key last received none = ap (λ going. observed_end_in key last going w.acks received) none

established-none : (bound : ℕ) (time : Option ℕ) (c : Call) (phase : Phase) (w : ObservedAttempts) → is_established_in phase ≡ true → PhaseIsObserved bound time c.acks phase w → w.in_progress ≡ None
established-none bound time c (Offered x) w stands seen = absurd (let e : false ≡ true = stands in cc)
established-none bound time c (Established x stage) w stands seen = seen
established-none bound time c (Detached detached) w stands seen = seen
established-none bound time c (Over cause) w stands seen = seen

-- ---- a trace beside one of signals

record ObservedEqual (s : TraceStart) (events : List CallEvent) (received : List TraceStep) : Type 0 where
  watch : observed_after s events ≡ trace_observed.observed_after s received
  last : SameLast (observed_after s events) (last_after s events) (trace_observed.last_after_all s received)
  observed : endings_observed s events ≡ trace_observed.endings_observed s received

module _ (attempts : AttemptsAreObserved) (s : TraceStart) where
  -- of a signal that the trace of signals has too
  same-observed : (x : TraceStep) (earlier : List CallEvent) (received : List TraceStep) → call_after s earlier ≡ traces.call_after s received → ObservedEqual s earlier received →
      ObservedEqual s (Receives x ∷ earlier) (x ∷ received)
  unfolding observed_after last_after endings_observed trace_observed.observed_after trace_observed.last_after_all trace_observed.endings_observed
  same-observed x earlier received is r =
      let w = observed_after s earlier in
      let one = last_after s earlier in
      let other = trace_observed.last_after_all s received in
      let key = s.arrival.key in
      let o = opening_in s in
      let marks : Call → List AttemptEvent = λ (c : Call). events_of s.config.sip s.arrival.number (items_added x.output.out (next_step s x c).output.out) in
      let next = observed-next s.config o x.now.at w w.in_progress one other x.signal (marks (call_after s earlier)) refl r.last in
      record {
        watch = next ∙ (λ i. observed_step s.config o x.now.at (r.watch i) other x.signal (marks (is i)));
        last = last-next s.config o x.now.at w w.in_progress one other x.signal (marks (call_after s earlier)) refl r.last;
        observed =
            ap (λ end. endings_observed s earlier ++ option_to_list (option_map (ending_at x.now.at) end)) (ends-next w w.in_progress key one other x.signal refl r.last)
            ∙ (λ i. r.observed i ++ option_to_list (option_map (ending_at x.now.at) (end_observed key other (r.watch i) x.signal)));
      }

  -- after a leg was detached
  later-observed : (x : TraceStep) (earlier : List CallEvent) (received : List TraceStep) → is_established_in (traces.call_after s received).phase ≡ true → ObservedEqual s earlier received →
      ObservedEqual s (Receives x ∷ earlier) (quiet x ∷ received)
  unfolding observed_after last_after endings_observed trace_observed.observed_after trace_observed.last_after_all trace_observed.endings_observed
  later-observed x earlier received stands r =
      let w = observed_after s earlier in
      let told = trace_observed.observed_after s received in
      let key = s.arrival.key in
      let none-told : told.in_progress ≡ None =
      established-none s.config.bound (trace_attempts.no_reply_after s received) (traces.call_after s received) (traces.call_after s received).phase told stands (attempts s received) in
      let none : w.in_progress ≡ None = ap (λ (w : ObservedAttempts). w.in_progress) r.watch ∙ none-told in
      let o = opening_in s in
      let still : observed_after s (Receives x ∷ earlier) ≡ w = none-next s.config o x.now.at w (last_after s earlier) x.signal _ none in
      let still-told : trace_observed.observed_after s (quiet x ∷ received) ≡ told = none-next s.config o x.now.at told (trace_observed.last_after_all s received) (quiet x).signal _ none-told in
      record {
        watch = still ∙ r.watch ∙ sym still-told;
        last = λ g going. absurd (none-some g (sym none ∙ ap (λ (w : ObservedAttempts). w.in_progress) (sym still) ∙ going));
        observed =
            ap (λ end. endings_observed s earlier ++ option_to_list (option_map (ending_at x.now.at) end)) (none-ends w key (last_after s earlier) x.signal none) ∙ ap (λ l. l ++ []) r.observed
            ∙ ap (λ end. trace_observed.endings_observed s received ++ option_to_list (option_map (ending_at x.now.at) end))
            (sym (none-ends told key (trace_observed.last_after_all s received) (quiet x).signal none-told));
      }

  -- what is no signal ends nothing
  observed-beside : Beside s (ObservedEqual s)
  unfolding observed_after last_after endings_observed trace_observed.observed_after trace_observed.last_after_all trace_observed.endings_observed
  observed-beside = record {
    opens = record { watch = refl; last = λ g going. refl; observed = refl };
    same = same-observed;
    later = λ x earlier received stands offered r. later-observed x earlier received stands r;
    releases = λ side earlier received r. record { watch = r.watch; last = r.last; observed = append-nil (endings_observed s earlier) ∙ r.observed };
    restores = λ away earlier received r. record { watch = r.watch; last = r.last; observed = append-nil (endings_observed s earlier) ∙ r.observed };
    finishes = λ at output earlier received r. record { watch = r.watch; last = r.last; observed = append-nil (endings_observed s earlier) ∙ r.observed };
  }

-- ---- how attempts ended

pub endings_observed_so : CallsContinue → ChargingIsExact → AttemptsAreObserved → EndingsAreObserved → TraceEndingsAreObserved
endings_observed_so law charged attempts endings s events =
    let (received, l, r) = matches_trace_beside law charged s (ObservedEqual s) (observed-beside attempts s) events in
    l.endings ∙ endings s received ∙ sym r.observed

-- ---- the current attempt

unoffered : (bound : ℕ) (time : Option ℕ) (c : Call) (phase : Phase) (w : ObservedAttempts) → is_offered phase ≡ false → w.in_progress ≡ None → PhaseIsObserved bound time c.acks phase w
unoffered bound time c (Offered x) w h none = absurd (let e : true ≡ false = h in cc)
unoffered bound time c (Established x stage) w h none = none
unoffered bound time c (Detached detached) w h none = none
unoffered bound time c (Over cause) w h none = none

time-same : (s : TraceStart) (events : List CallEvent) (received : List TraceStep) → MatchesTrace s events received → no_reply_after s events ≡ trace_attempts.no_reply_after s received
time-same s events received l = λ i. no_reply_time_of (last_record (known-same s events received l i) 0 (outcome-same s events received l i).targets)

observed-at : AttemptsAreObserved → (s : TraceStart) (events : List CallEvent) (received : List TraceStep) → MatchesTrace s events received → ObservedEqual s events received → Place s events received →
    PhaseIsObserved s.config.bound (no_reply_after s events) (call_after s events).acks (call_after s events).phase (observed_after s events)
observed-at attempts s events received l r (Same is rows over) =
    subst (λ w. PhaseIsObserved s.config.bound (no_reply_after s events) (call_after s events).acks (call_after s events).phase w) (sym r.watch)
    (subst (λ (c : Call). PhaseIsObserved s.config.bound (no_reply_after s events) c.acks c.phase (trace_observed.observed_after s received)) (sym is)
    (subst (λ time. PhaseIsObserved s.config.bound time (traces.call_after s received).acks (traces.call_after s received).phase (trace_observed.observed_after s received)) (sym (time-same s events received l))
    (attempts s received)))
observed-at attempts s events received l r (Later stands kept after) =
    let none = established-none s.config.bound (trace_attempts.no_reply_after s received) (traces.call_after s received) (traces.call_after s received).phase
    (trace_observed.observed_after s received) stands (attempts s received) in
    unoffered s.config.bound (no_reply_after s events) (call_after s events) (call_after s events).phase (observed_after s events) (after-offered _ _ (traces.call_after s received) (call_after s events) _ after)
    (ap (λ (w : ObservedAttempts). w.in_progress) r.watch ∙ none)

pub attempts_observed : CallsContinue → ChargingIsExact → AttemptsAreObserved → TraceAttemptsAreObserved
attempts_observed law charged attempts s events =
    let (received, l, r) = matches_trace_beside law charged s (ObservedEqual s) (observed-beside attempts s) events in
    observed-at attempts s events received l r l.place

-- ---- what is observed in its whole trace

detached-asks : (key : TKey) (phase : Phase) (side : Side) (c : Call) → PhaseHasOtherKey key phase → PhaseHasOtherKey key (detached_in phase side (record c { phase = phase })).phase
detached-asks key (Offered x) side c a = tt
detached-asks key (Established x (Answered waiting success)) side c a = tt
detached-asks key (Established x (Departing waiting success)) side c a = tt
detached-asks key (Established x Stable) side c a = tt
detached-asks key (Established x (Reinviting asking q)) side c a = a
detached-asks key (Detached detached) side c a = tt
detached-asks key (Over cause) side c a = tt

back-asks : (key : TKey) (phase : Phase) (away : Released) (c : Call) → PhaseHasOtherKey key phase → PhaseHasOtherKey key (with_leg_restored phase away (record c { phase = phase })).phase
back-asks key (Offered x) away c a = tt
back-asks key (Established x stage) away c a = a
back-asks key (Detached detached) away c a = tt
back-asks key (Over cause) away c a = tt

finished-asks : (key : TKey) (phase : Phase) (config : CallConfigView) (at : ℕ) (c : Call) (output : StepOutput) → PhaseHasOtherKey key phase →
    PhaseHasOtherKey key (finish_of_phase phase config at (record c { phase = phase }) output).call.phase
finished-asks key (Offered x) config at c output a = tt
finished-asks key (Established x stage) config at c output a = a
finished-asks key (Detached detached) config at c output a = tt
finished-asks key (Over cause) config at c output a = tt

-- the requests in flight do not change as a leg is detached or put back, and get their final responses as the call ends without it
detached-flies : (key : TKey) (phase : Phase) (side : Side) (c : Call) → InFlightHasOtherKeys key c.relayed → InFlightHasOtherKeys key (detached_in phase side (record c { phase = phase })).relayed
detached-flies key (Offered x) side c f = f
detached-flies key (Established x (Answered waiting success)) side c f = f
detached-flies key (Established x (Departing waiting success)) side c f = f
detached-flies key (Established x Stable) side c f = f
detached-flies key (Established x (Reinviting asking q)) side c f = f
detached-flies key (Detached detached) side c f = f
detached-flies key (Over cause) side c f = f

back-flies : (key : TKey) (phase : Phase) (away : Released) (c : Call) → InFlightHasOtherKeys key c.relayed → InFlightHasOtherKeys key (with_leg_restored phase away (record c { phase = phase })).relayed
back-flies key (Offered x) away c f = f
back-flies key (Established x stage) away c f = f
back-flies key (Detached detached) away c f = f
back-flies key (Over cause) away c f = f

finished-flies : (key : TKey) (phase : Phase) (config : CallConfigView) (at : ℕ) (c : Call) (output : StepOutput) → InFlightHasOtherKeys key c.relayed →
    InFlightHasOtherKeys key (finish_of_phase phase config at (record c { phase = phase }) output).call.relayed
finished-flies key (Offered x) config at c output f = f
finished-flies key (Established x stage) config at c output f = f
finished-flies key (Detached detached) config at c output f = tt
finished-flies key (Over cause) config at c output f = f

waits-after : ShowsNothingLater → (s : TraceStart) (events : List CallEvent) → EventsHaveOtherKeys s.arrival.key events → CallHasOtherKeys s.arrival.key (call_after s events)
unfolding call_after call_finish
waits-after law s [] others = law.opens s s.arrival.key
waits-after law s (Receives x ∷ earlier) others = law.steps s.config x.now x.signal (call_after s earlier) x.output s.arrival.key (waits-after law s earlier others.1) others.0
waits-after law s (Releases side ∷ earlier) others =
    let c = call_after s earlier in
    let w = waits-after law s earlier others.1 in
    (detached-asks s.arrival.key c.phase side c w.0, detached-flies s.arrival.key c.phase side c w.1)
waits-after law s (Restores away ∷ earlier) others =
    let c = call_after s earlier in
    let w = waits-after law s earlier others.1 in
    (back-asks s.arrival.key c.phase away c w.0, back-flies s.arrival.key c.phase away c w.1)
waits-after law s (Finishes at output ∷ earlier) others =
    let c = call_after s earlier in
    let w = waits-after law s earlier others.1 in
    (finished-asks s.arrival.key c.phase s.config at c output w.0, finished-flies s.arrival.key c.phase s.config at c output w.1)

-- everything that is observed of it is observed while it is offered
if-none : (key : TKey) (b : Bool) (out : List Emit) → labels_of key out ≡ [] → labels_of key out ≡ labels_of key (if b then out else [])
if-none key true out none = refl
if-none key false out none = none

shown-received : ShowsNothingLater → (key : TKey) (config : CallConfigView) (x : TraceStep) (c : Call) (b : Bool) → is_offered c.phase ≡ b → CallHasOtherKeys key c → HasOtherKey key x.signal →
    labels_of_step key x.signal (items_added x.output.out (step config x.now x.signal c x.output).output.out)
    ≡ labels_of key (if b then items_added x.output.out (step config x.now x.signal c x.output).output.out else [])
shown-received law key config x c true h asks other = law.all config x.now x.signal c x.output key h
shown-received law key config x c false h asks other = law.none config x.now x.signal c x.output key h asks other

shown-alone : ShowsNothingLater → (s : TraceStart) (x : CallEvent) (earlier : List CallEvent) → EventsHaveOtherKeys s.arrival.key (x ∷ earlier) →
    labels_in s.arrival.key x (emits_by s.config x (call_after s earlier))
    ≡ labels_of s.arrival.key (if is_offered (call_after s earlier).phase then emits_by s.config x (call_after s earlier) else [])
shown-alone law s (Receives x) earlier others =
    let c = call_after s earlier in shown-received law s.arrival.key s.config x c (is_offered c.phase) refl (waits-after law s earlier others.1) others.0
shown-alone law s (Releases side) earlier others = if-none s.arrival.key (is_offered (call_after s earlier).phase) [] refl
shown-alone law s (Restores away) earlier others = if-none s.arrival.key (is_offered (call_after s earlier).phase) [] refl
shown-alone law s (Finishes at output) earlier others =
    let c = call_after s earlier in if-none s.arrival.key (is_offered c.phase) (items_added output.out (call_finish s.config at c output).output.out)
    (law.ends s.config at c output s.arrival.key (waits-after law s earlier others.1).1)

all-shown : ShowsNothingLater → (s : TraceStart) (events : List CallEvent) → EventsHaveOtherKeys s.arrival.key events → labels_after s events ≡ labels_of s.arrival.key (emits_while_offered s events)
unfolding labels_after emits_while_offered
all-shown law s [] others = refl
all-shown law s (x ∷ earlier) others =
    let key = s.arrival.key in
    let out = if is_offered (call_after s earlier).phase then emits_by s.config x (call_after s earlier) else [] in
    (λ i. all-shown law s earlier others.1 i ++ shown-alone law s x earlier others i) ∙ sym (labels-append key (emits_while_offered s earlier) out)

pub traces_show_throughout : CallsContinue → ChargingIsExact → ShowsItsOutcome → ShowsNothingLater → TracesShowThroughout
traces_show_throughout law charged shows later s events others step_outputs = all-shown later s events others ∙ traces_show law charged shows s events others step_outputs

-- Each operation of a run: with what it was received, and in which event; which transactions its requests have; and what was done on conferences.
use Rattle.std.proofs.Common.{◌≡◌, ℕ, List, [], ◌∷◌, ◌++◌, ◌≤◌, None, refl, sym, ap, ◌∙◌, subst, append_assoc, append-nil, le_refl}
use Rattle.mmtel_b2bua.specs.Operations.{Drops, Finishes, ReceivedSignal, Receives, Releases, Restores, TableOp}
use Rattle.mmtel_b2bua_theorems.specs.Legs.{LegsGoBack}
use Rattle.mmtel_call_theorems.specs.NoInjection.Emits.{Each}
use Rattle.mmtel_directory.specs.declared.directories.Directory.{Directory}
use Rattle.mmtel_focus_theorems.specs.Replies.{ConferencesReplyInTheirOwn}
use Rattle.mmtel_records_in_force.specs.Texts.{Texts}
use Rattle.mmtel_run_definitions.specs.Calls.{call_config}
use Rattle.mmtel_run_definitions.specs.Events.{EventRecord, TimedEvent, moment_of, timed_event_of, timed_events}
use Rattle.mmtel_run_definitions.specs.Run.{after_event_in_order, after_events, clock_at, state_after}
use Rattle.mmtel_run_definitions.specs.Transitions.{RunState, initial_state}
use Rattle.mmtel_run_theorems.specs.Snapshots.{inputs_of, operations_after}
use Rattle.mmtel_run_theorems.proofs.OperationsOfEvents.{Adds, AreAwaited, IsKeyed, IsOfRun, IsWhole, Sees, event_adds, in_force_in}

-- ---- a run, event by event

after_events-append : (d : Directory) (token : List ℕ) (fuel : ℕ) (xs ys : List TimedEvent) (w : RunState) → after_events d token fuel (xs ++ ys) w ≡ after_events d token fuel ys (after_events d token fuel xs w)
after_events-append d token fuel [] ys w = refl
after_events-append d token fuel (x ∷ xs) ys w = after_events-append d token fuel xs ys (after_event_in_order d token fuel x w)

timed_events-append : (d : Directory) (xs ys : List EventRecord) → timed_events d (xs ++ ys) ≡ timed_events d xs ++ timed_events d ys
timed_events-append d [] ys = refl
timed_events-append d (x ∷ xs) ys = ap (λ (ns : List TimedEvent). timed_event_of d x ∷ ns) (timed_events-append d xs ys)

module _ (d : Directory) (token : List ℕ) (loaded : Texts) (fuel : ℕ) (whole : List EventRecord) where
  abbrev at_end_of : List EventRecord → RunState
  at_end_of recorded = state_after d token loaded fuel recorded

  one-event : (earlier : List EventRecord) (event : EventRecord) → at_end_of (earlier ++ event ∷ []) ≡ after_event_in_order d token fuel (timed_event_of d event) (at_end_of earlier)
  one-event earlier event =
      ap (λ (ns : List TimedEvent). after_events d token fuel ns (initial_state loaded)) (timed_events-append d earlier (event ∷ []))
      ∙ after_events-append d token fuel (timed_events d earlier) (timed_event_of d event ∷ []) (initial_state loaded)

  -- ---- an operation of a run, where these were done before it

  pub record SeesRecordsInForce (x : ReceivedSignal) (older : List TableOp) : Type 0 where
    pub earlier : List EventRecord
    pub event : EventRecord
    pub later : List EventRecord
    pub in_order : whole ≡ earlier ++ event ∷ later
    pub before : List TableOp
    pub newer : List TableOp
    pub is : older ≡ before ++ operations_after (inputs_of d token loaded) fuel earlier
    pub operations : operations_after (inputs_of d token loaded) fuel (earlier ++ event ∷ []) ≡ newer ++ Receives x ∷ older
    pub view : x.view ≡ in_force_in (at_end_of earlier)
    pub by_then : x.at ≤ clock_at (at_end_of earlier) (moment_of event.event)

  abbrev pub OpSeesInForce : TableOp → List TableOp → Type 0
  OpSeesInForce (Receives x) older = SeesRecordsInForce x older
  OpSeesInForce (Releases number side) older = Unit {0}
  OpSeesInForce (Restores number away) older = Unit {0}
  OpSeesInForce (Finishes number at tokens) older = Unit {0}
  OpSeesInForce (Drops count) older = Unit {0}

  abbrev pub AllSeeInForce : List TableOp → Type 0
  AllSeeInForce [] = Unit {0}
  AllSeeInForce (op ∷ older) = OpSeesInForce op older × AllSeeInForce older

  -- the run of these events, up to that point
  pub record RunSeesInForce (recorded : List EventRecord) : Type 0 where
    pub operations : AllSeeInForce (operations_after (inputs_of d token loaded) fuel recorded)
    pub keyed : IsKeyed d (at_end_of recorded)
    pub detached : IsWhole (call_config d) None (operations_after (inputs_of d token loaded) fuel recorded)
    pub conferences : Each IsOfRun (at_end_of recorded).conference_ops
    pub awaited : AreAwaited d (at_end_of recorded)

  -- ---- those of one event

  module _ (earlier : List EventRecord) (event : EventRecord) (later : List EventRecord) (in_order : whole ≡ earlier ++ event ∷ later) where
    one-sees : (newer : List TableOp) (op : TableOp) (older : List TableOp) →
        operations_after (inputs_of d token loaded) fuel (earlier ++ event ∷ []) ≡ newer ++ op ∷ (older ++ operations_after (inputs_of d token loaded) fuel earlier) →
        Sees (in_force_in (at_end_of earlier)) (clock_at (at_end_of earlier) (moment_of event.event)) op → OpSeesInForce op (older ++ operations_after (inputs_of d token loaded) fuel earlier)
    one-sees newer (Receives x) older is sees =
        record { earlier = earlier; event = event; later = later; in_order = in_order; before = older; newer = newer; is = refl; operations = is; view = sees.0; by_then = sees.1 }
    one-sees newer (Releases number side) older is sees = tt
    one-sees newer (Restores number away) older is sees = tt
    one-sees newer (Finishes number at tokens) older is sees = tt
    one-sees newer (Drops count) older is sees = tt

    event-sees : (newer added : List TableOp) → operations_after (inputs_of d token loaded) fuel (earlier ++ event ∷ []) ≡ newer ++ (added ++ operations_after (inputs_of d token loaded) fuel earlier) →
        Each (Sees (in_force_in (at_end_of earlier)) (clock_at (at_end_of earlier) (moment_of event.event))) added → AllSeeInForce (operations_after (inputs_of d token loaded) fuel earlier) →
        AllSeeInForce (added ++ operations_after (inputs_of d token loaded) fuel earlier)
    event-sees newer [] is sees told = told
    event-sees newer (op ∷ older) is sees told = (
      one-sees newer op older is sees.0,
      event-sees (newer ++ op ∷ []) older (is ∙ sym (append_assoc newer (op ∷ []) (older ++ operations_after (inputs_of d token loaded) fuel earlier))) sees.1 told,
    )

    more-sees : LegsGoBack → ConferencesReplyInTheirOwn → RunSeesInForce earlier → RunSeesInForce (earlier ++ event ∷ [])
    more-sees back own_law told =
        let w : RunState = at_end_of earlier in
        let next : at_end_of (earlier ++ event ∷ []) ≡ after_event_in_order d token fuel (timed_event_of d event) w = one-event earlier event in
        let a : Adds d (clock_at w (moment_of event.event)) w None (after_event_in_order d token fuel (timed_event_of d event) w) =
        event_adds d token back own_law fuel (timed_event_of d event) w told.keyed told.detached told.conferences told.awaited in
        let is : operations_after (inputs_of d token loaded) fuel (earlier ++ event ∷ []) ≡ a.added ++ operations_after (inputs_of d token loaded) fuel earlier = ap (λ (w : RunState). w.call_ops) next ∙ a.is in
        record {
          operations = subst AllSeeInForce (sym is) (event-sees [] a.added is a.sees told.operations);
          keyed = subst (IsKeyed d) (sym next) a.keyed;
          detached = subst (λ (w : RunState). IsWhole (call_config d) None w.call_ops) (sym next) a.whole;
          conferences = subst (λ (w : RunState). Each IsOfRun w.conference_ops) (sym next) a.conferences;
          awaited = subst (AreAwaited d) (sym next) a.awaited;
        }

  -- ---- those of the whole

  rest-sees : LegsGoBack → ConferencesReplyInTheirOwn → (earlier rest : List EventRecord) → whole ≡ earlier ++ rest → RunSeesInForce earlier → RunSeesInForce (earlier ++ rest)
  rest-sees back own_law earlier [] is told = subst RunSeesInForce (sym (append-nil earlier)) told
  rest-sees back own_law earlier (event ∷ rest) is told =
      let join : (earlier ++ event ∷ []) ++ rest ≡ earlier ++ event ∷ rest = append_assoc earlier (event ∷ []) rest in
      subst RunSeesInForce join (rest-sees back own_law (earlier ++ event ∷ []) rest (is ∙ sym join) (more-sees earlier event rest is back own_law told))

  pub all_see_in_force : LegsGoBack → ConferencesReplyInTheirOwn → RunSeesInForce whole
  all_see_in_force back own_law = rest-sees back own_law [] whole refl
      (record { operations = tt; keyed = record { opened = le_refl 0; below = tt; rises = tt; own = tt }; detached = tt; conferences = tt; awaited = record { run = tt; requested = tt; answered = tt } })

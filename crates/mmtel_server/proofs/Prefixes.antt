-- The prefix of a run: what was done in it is a prefix of what is done in the whole.
use Rattle.std.proofs.Common.{◌≡◌, ℕ, List, [], ◌∷◌, ◌++◌, refl, sym, ap, ◌∙◌, subst}
use Rattle.mmtel_directory.specs.declared.directories.Directory.{Directory}
use Rattle.mmtel_records_in_force.specs.Texts.{Texts}
use Rattle.mmtel_environment.specs.declared.events.Offer.{Offer}
use Rattle.mmtel_run_definitions.specs.Events.{EventRecord, TimedEvent, timed_event_of, timed_events}
use Rattle.mmtel_run_definitions.specs.TopTheorem.{GivesAlways}
use Rattle.mmtel_run_definitions.specs.Run.{IsEnough, IsEnoughAfter, after_due_deadlines, after_event_in_order, after_events, clock_at, offers_of_run}
use Rattle.mmtel_run_definitions.specs.ShortRuns.{IsShortRun}
use Rattle.mmtel_run_definitions.specs.Transitions.{RunState, initial_state}
use Rattle.mmtel_server.specs.Representation.{IsPrefixOf, RanFromStart}
use Rattle.mmtel_server.specs.declared.servers.Server.{Server}
use Rattle.mmtel_server.proofs.Grows.{Grows, came_grows, grows_on, prefix_of, same, short_of}
use Rattle.mmtel_server.proofs.Runs.{run_same, stands_by}
use Rattle.mmtel_server.proofs.Settling.{settles}
use Rattle.mmtel_server.specs.Follows.{NumbersNeverFall}

pub notices_both : (d : Directory) (es more : List EventRecord) → timed_events d (es ++ more) ≡ timed_events d es ++ timed_events d more
notices_both d [] more = refl
notices_both d (e ∷ es) more = ap (λ (xs : List TimedEvent). timed_event_of d e ∷ xs) (notices_both d es more)

module _ (d : Directory) (token : List ℕ) where
  after_both : (fuel : ℕ) (xs ys : List TimedEvent) (w : RunState) → after_events d token fuel (xs ++ ys) w ≡ after_events d token fuel ys (after_events d token fuel xs w)
  after_both fuel [] ys w = refl
  after_both fuel (x ∷ xs) ys w = after_both fuel xs ys (after_event_in_order d token fuel x w)

  enough_both : (fuel : ℕ) (xs ys : List TimedEvent) (w : RunState) → IsEnoughAfter d token fuel (xs ++ ys) w → IsEnoughAfter d token fuel xs w
  enough_both fuel [] ys w e = tt
  enough_both fuel (x ∷ xs) ys w e = (e.0, enough_both fuel xs ys (after_event_in_order d token fuel x w) e.1)

  -- ---- runs

  module _ (loaded : Texts) where
    -- the state after a run, where so many firings are enough
    abbrev done : (fuel : ℕ) → List EventRecord → RunState
    done fuel recorded = after_events d token fuel (timed_events d recorded) (initial_state loaded)

    pub enough_of_front : (fuel : ℕ) (es more : List EventRecord) → IsEnough d token loaded fuel (es ++ more) → IsEnough d token loaded fuel es
    enough_of_front fuel es more e =
        enough_both fuel (timed_events d es) (timed_events d more) (initial_state loaded)
        (subst (λ (xs : List TimedEvent). IsEnoughAfter d token fuel xs (initial_state loaded)) (notices_both d es more) e)

    -- all that is due was output, by whatever count is enough
    pub offers_given : (before : List Offer) (es : List EventRecord) (fuel : ℕ) (s : Server) (out : List Offer)
        → RanFromStart d token loaded es before s out → IsEnough d token loaded fuel es → out ≡ before ++ offers_of_run d token loaded fuel es
    offers_given before es fuel s out went e = (stands_by d token loaded es before out s fuel went e).offers

    module _ (law : NumbersNeverFall) where
      one_more_grows : (fuel : ℕ) (x : TimedEvent) (w : RunState) → Grows w (after_event_in_order d token fuel x w)
      one_more_grows fuel x w =
          let at : ℕ = clock_at w x.at in
          let v : RunState = after_due_deadlines d token fuel at w in
          grows_on w v (after_event_in_order d token fuel x w) (settles d token law fuel at w) (came_grows law d token at x.parsed x.accepted v)

      after_grows : (fuel : ℕ) (xs : List TimedEvent) (w : RunState) → Grows w (after_events d token fuel xs w)
      after_grows fuel [] w = same w
      after_grows fuel (x ∷ xs) w =
          grows_on w (after_event_in_order d token fuel x w) (after_events d token fuel (x ∷ xs) w) (one_more_grows fuel x w) (after_grows fuel xs (after_event_in_order d token fuel x w))

      front_grows : (n m : ℕ) (es more : List EventRecord) → IsEnough d token loaded n es → IsEnough d token loaded m (es ++ more) → Grows (done n es) (done m (es ++ more))
      front_grows n m es more e f =
          let same_front : done n es ≡ done m es = run_same d token n m (timed_events d es) (initial_state loaded) e (enough_of_front m es more f) in
          let whole : done m (es ++ more) ≡ after_events d token m (timed_events d more) (done m es) =
          ap (λ (xs : List TimedEvent). after_events d token m xs (initial_state loaded)) (notices_both d es more) ∙ after_both m (timed_events d es) (timed_events d more) (initial_state loaded) in
          subst (λ (u : RunState). Grows u (done m (es ++ more))) (sym same_front)
          (subst (λ (u : RunState). Grows (done m es) u) (sym whole) (after_grows m (timed_events d more) (done m es)))

      -- what is few enough in the whole is so in the prefix
      pub short_front : GivesAlways → (es more : List EventRecord) → IsShortRun d token loaded (es ++ more) → IsShortRun d token loaded es
      short_front always es more short fuel e =
          let found = always d token loaded (es ++ more) in
          short_of (done fuel es) (done found.0 (es ++ more)) (front_grows fuel found.0 es more e found.1) (short found.0 found.1)

      -- the outputs of the prefix are a prefix of those that are due in the whole
      pub offers_front : (before : List Offer) (es more : List EventRecord) (fuel : ℕ) (s : Server) (out : List Offer)
          → RanFromStart d token loaded es before s out → IsEnough d token loaded fuel (es ++ more) → IsPrefixOf out (before ++ offers_of_run d token loaded fuel (es ++ more))
      offers_front before es more fuel s out went e =
          prefix_of before out (done went.fuel es) (done fuel (es ++ more)) (front_grows went.fuel fuel es more went.enough e) went.represents.offers

      -- and so are the outputs of the run themselves
      pub gives_front : (es more : List EventRecord) (fuel : ℕ) → IsEnough d token loaded fuel (es ++ more) → IsPrefixOf (offers_of_run d token loaded fuel es) (offers_of_run d token loaded fuel (es ++ more))
      gives_front es more fuel e = (front_grows fuel fuel es more (enough_of_front fuel es more e) e).front

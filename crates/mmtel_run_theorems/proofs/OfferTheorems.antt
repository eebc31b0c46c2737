-- Exact outputs are indistinguishable: for as many firings as are enough for both runs, since further ones do not change what is compared.
use Rattle.std.proofs.Common.{◌≡◌, ◌<◌, ◌^◌, ◌+◌, ℕ, zero, suc, List, [], ◌∷◌, ◌++◌, Option, None, refl, sym, ap, ◌∙◌, subst, arith}
use Rattle.mmtel_directory.specs.declared.directories.Directory.{Directory}
use Rattle.mmtel_records_in_force.specs.Texts.{Texts}
use Rattle.mmtel_sheet_values.specs.declared.values.Who.{Who}
use Rattle.mmtel_run_definitions.specs.Deadlines.{Deadline}
use Rattle.mmtel_run_definitions.specs.Events.{EventRecord, TimedEvent, timed_events}
use Rattle.mmtel_run_definitions.specs.Run.{IsEnough, IsEnoughAfter, IsSettled, after_deadline_if, after_due_deadlines, after_event_in_order}
use Rattle.mmtel_run_definitions.specs.Run.{after_events, after_one_deadline, clock_at, first_due_deadline, offers_of_run, state_after}
use Rattle.mmtel_run_definitions.specs.InForce.{uploads_of}
use Rattle.mmtel_run_definitions.specs.ShortRuns.{IsShort, IsShortRun}
use Rattle.mmtel_run_definitions.specs.View.{view}
use Rattle.mmtel_run_definitions.specs.Transitions.{RunState, after_event, initial_state, with_next_step}
use Rattle.mmtel_run_theorems.specs.EquivalentStates.{AllEarly, AllLookUpEqually}
use Rattle.mmtel_run_theorems.specs.Noninterference.{Masks, MasksOnce, NoninterferenceInBoth, OffersKeepItInOneConfig, OffersKeepNoninterference, RenamedAreLookedUpEqually, SeenByTimedEvents}
use Rattle.mmtel_run_theorems.specs.Mask.{Mask, MaskedEvent, identities_tested_by, mask, mask_all, mask_event, records_in, records_of, state_at_event}
use Rattle.mmtel_run_theorems.specs.RenamedAccounts.{Neutral, NobodyIsRenamed}
use Rattle.mmtel_run_theorems.proofs.SentOnce.{Once, begins, early_in}

-- ---- more firings change nothing

module _ (d : Directory) (token : List ℕ) where
  done_stays : (more now : ℕ) (w : RunState) → first_due_deadline now w ≡ None → after_due_deadlines d token more now w ≡ w
  done_stays zero now w e = refl
  done_stays (suc more) now w e = ap (λ (o : Option Deadline). after_due_deadlines d token more now (after_deadline_if d token now o w)) e ∙ done_stays more now w e

  after_due_deadlines_more : (n more now : ℕ) (w : RunState) → IsSettled d token n now w → after_due_deadlines d token (n + more) now w ≡ after_due_deadlines d token n now w
  after_due_deadlines_more zero more now w e = let zero_more : zero + more ≡ more = omega arith in rw zero_more (done_stays more now w e)
  after_due_deadlines_more (suc n) more now w e = let one_further : suc n + more ≡ suc (n + more) = omega arith in rw one_further (after_due_deadlines_more n more now (after_one_deadline d token now w) e)

  one_same : (n more : ℕ) (x : TimedEvent) (w : RunState) → IsSettled d token n (clock_at w x.at) w → after_event_in_order d token (n + more) x w ≡ after_event_in_order d token n x w
  one_same n more x w e = ap (after_event d token (clock_at w x.at) x.parsed x.accepted) (after_due_deadlines_more n more (clock_at w x.at) w e)

  state_at_event_same : (n more : ℕ) (x : TimedEvent) (w : RunState) → IsSettled d token n (clock_at w x.at) w → state_at_event d token (n + more) x w ≡ state_at_event d token n x w
  state_at_event_same n more x w e = ap (λ (v : RunState). record (with_next_step v) { clock = clock_at w x.at }) (after_due_deadlines_more n more (clock_at w x.at) w e)

  world_same : (n more : ℕ) (xs : List TimedEvent) (w : RunState) → IsEnoughAfter d token n xs w → after_events d token (n + more) xs w ≡ after_events d token n xs w
  world_same n more [] w e = refl
  world_same n more (x ∷ xs) w e = ap (after_events d token (n + more) xs) (one_same n more x w e.0) ∙ world_same n more xs (after_event_in_order d token n x w) e.1

  mask_same : (tested : List Who) (n more : ℕ) (xs : List TimedEvent) (w : RunState) → IsEnoughAfter d token n xs w → mask_all d token (n + more) tested xs w ≡ mask_all d token n tested xs w
  mask_same tested n more [] w e = refl
  mask_same tested n more (x ∷ xs) w e =
      ap (λ (v : RunState). (x.at, mask_event d tested v x.parsed) ∷ mask_all d token (n + more) tested xs (after_event_in_order d token (n + more) x w)) (state_at_event_same n more x w e.0)
      ∙ (ap (λ (v : RunState). (x.at, mask_event d tested (state_at_event d token n x w) x.parsed) ∷ mask_all d token (n + more) tested xs v) (one_same n more x w e.0)
      ∙ ap (λ (l : List (ℕ × MaskedEvent)). (x.at, mask_event d tested (state_at_event d token n x w) x.parsed) ∷ l) (mask_same tested n more xs (after_event_in_order d token n x w) e.1))

  -- of a whole run
  masked_same : (loaded : Texts) (recorded : List EventRecord) (n more : ℕ) → IsEnough d token loaded n recorded → mask d token loaded (n + more) recorded ≡ mask d token loaded n recorded
  masked_same loaded recorded n more e =
      ap (λ (l : List (ℕ × MaskedEvent)). record { tested = identities_tested_by (records_in d loaded recorded); events = l })
      (mask_same (identities_tested_by (records_in d loaded recorded)) n more (timed_events d recorded) (initial_state loaded) e)

  offers_of_run_same : (loaded : Texts) (recorded : List EventRecord) (n more : ℕ) → IsEnough d token loaded n recorded → offers_of_run d token loaded (n + more) recorded ≡ offers_of_run d token loaded n recorded
  offers_of_run_same loaded recorded n more e = ap (λ (w : RunState). w.offers) (world_same n more (timed_events d recorded) (initial_state loaded) e)

turned : (n m : ℕ) → n + m ≡ m + n
turned n m = omega arith

-- by two counts of firings that are enough, so by any more
masked_by : (d : Directory) (token : List ℕ) (loaded : Texts) (recorded : List EventRecord) (masked : Mask) (more : ℕ) (is : Masks d token loaded recorded masked) → masked ≡ mask d token loaded (is.fuel + more) recorded
masked_by d token loaded recorded masked more is = is.exact ∙ sym (masked_same d token loaded recorded is.fuel more is.enough)

pub masks_once : MasksOnce
masks_once d token loaded recorded masked other is too =
    masked_by d token loaded recorded masked too.fuel is
    ∙ (ap (λ (n : ℕ). mask d token loaded n recorded) (turned is.fuel too.fuel) ∙ sym (masked_by d token loaded recorded other is.fuel too))

-- ---- the run whose outputs are observed

module _ (once : Once) (secret : NoninterferenceInBoth) (looks : RenamedAreLookedUpEqually) where
  -- where few numbers are drawn by so many firings as are enough, few are by more
  early_by : (d : Directory) (token : List ℕ) (loaded : Texts) (recorded : List EventRecord) (n more : ℕ) → IsEnough d token loaded n recorded → IsShortRun d token loaded recorded →
      AllEarly d token (n + more) (timed_events d recorded) (initial_state loaded)
  early_by d token loaded recorded n more enough short =
      let few : (state_after d token loaded n recorded).drawn < 2 ^ 60 = (short n enough).drawn in
      early_in d token once (n + more) (timed_events d recorded) (initial_state loaded) (begins d token loaded)
      (subst (λ (w : RunState). w.drawn < 2 ^ 60) (sym (world_same d token n more (timed_events d recorded) (initial_state loaded) enough)) few)

  pub offers_keep : OffersKeepNoninterference
  offers_keep d token loaded recorded offers given e renamed run others masked seer read short strange renames neutral is too other =
      -- all four counts together
      let a : ℕ = given.fuel in
      let b : ℕ = is.fuel in
      let c : ℕ = too.fuel in
      let f : ℕ = other.fuel in
      let all : ℕ = a + (b + (c + f)) in
      let of_given : offers_of_run d token loaded all recorded ≡ offers_of_run d token loaded a recorded = offers_of_run_same d token loaded recorded a (b + (c + f)) given.enough in
      let of_other : offers_of_run e token loaded all run ≡ offers_of_run e token loaded f run =
      ap (λ (n : ℕ). offers_of_run e token loaded n run) (last a b c f) ∙ offers_of_run_same e token loaded run f (a + (b + c)) other.enough in
      let one : masked ≡ mask d token loaded all recorded = masked_by d token loaded recorded masked (a + (c + f)) is ∙ ap (λ (n : ℕ). mask d token loaded n recorded) (second a b c f) in
      let two : masked ≡ mask e token loaded all run = masked_by e token loaded run masked (a + (b + f)) too ∙ ap (λ (n : ℕ). mask e token loaded n run) (third a b c f) in
      let alike = looks d e renamed (records_in d loaded recorded) masked renames neutral in
      ap (view seer) (given.exact ∙ sym of_given)
      ∙ (secret d e token loaded all recorded run seer read alike.0 (subst (λ (x : Mask). AllLookUpEqually d e x.events) two alike.1)
      (early_by d token loaded recorded a (b + (c + f)) given.enough short) strange (sym one ∙ two)
      ∙ ap (view seer) (of_other ∙ sym other.exact))
    where
      last : (a b c f : ℕ) → a + (b + (c + f)) ≡ f + (a + (b + c))
      last a b c f = omega arith

      second : (a b c f : ℕ) → b + (a + (c + f)) ≡ a + (b + (c + f))
      second a b c f = omega arith

      third : (a b c f : ℕ) → c + (a + (b + f)) ≡ a + (b + (c + f))
      third a b c f = omega arith

  pub offers_keep_in_one : NobodyIsRenamed → OffersKeepItInOneConfig
  offers_keep_in_one nobody d token loaded recorded offers given run others masked seer read short strange is too other =
      let none = nobody d (records_in d loaded recorded) masked in
      offers_keep d token loaded recorded offers given d [] run others masked seer read short strange none.0 none.1 is too other

-- ---- runs that read the same of their events

-- what holds for a run by what it reads of its events alone
abbrev IsShortBy : Directory → List ℕ → Texts → List TimedEvent → Type 0
IsShortBy d token loaded xs = (fuel : ℕ) → IsEnoughAfter d token fuel xs (initial_state loaded) → IsShort (after_events d token fuel xs (initial_state loaded))

abbrev mask_by : Directory → (token : List ℕ) → (loaded : Texts) → (fuel : ℕ) → List TimedEvent → Texts → Mask
mask_by d token loaded fuel xs uploads = record {
  tested = identities_tested_by (records_of (loaded ++ uploads));
  events = mask_all d token fuel (identities_tested_by (records_of (loaded ++ uploads))) xs (initial_state loaded);
}

pub seen_by_notices : SeenByTimedEvents
seen_by_notices d token loaded recorded whole offers same kept sees other renamed run others masked seer read short strange renames neutral is too given =
    sees other renamed run others masked seer read (subst (λ (l : List TimedEvent). IsShortBy d token loaded l) (sym same) short) strange renames
    (subst (λ (u : Texts). Neutral renamed d other (records_of (loaded ++ u)) masked) (sym kept) neutral)
    (record {
      fuel = is.fuel;
      enough = subst (λ (l : List TimedEvent). IsEnoughAfter d token is.fuel l (initial_state loaded)) (sym same) is.enough;
      exact = is.exact ∙ (ap (λ (l : List TimedEvent). mask_by d token loaded is.fuel l (uploads_of d.names whole)) (sym same) ∙ ap (mask_by d token loaded is.fuel (timed_events d recorded)) (sym kept));
    }) too given

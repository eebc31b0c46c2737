-- The outputs for the events that came, turn after turn, where they are appended to a list.
use Rattle.std.proofs.Common.{◌≡◌, ◌+◌, ◌<◌, ◌≤◌, ℕ, Bool, true, false, List, [], ◌∷◌, ◌++◌, length, refl, sym, subst, append-nil, Result, Ok, Err, arith}
use Rattle.mmtel_directory.specs.declared.directories.Directory.{Directory}
use Rattle.mmtel_records_in_force.specs.Texts.{Texts}
use Rattle.mmtel_environment.specs.declared.events.Event.{Event}
use Rattle.mmtel_environment.specs.declared.events.Offer.{Offer}
use Rattle.mmtel_run_definitions.specs.Events.{EventRecord, events_in}
use Rattle.mmtel_run_definitions.specs.TopTheorem.{GivesAlways}
use Rattle.mmtel_run_definitions.specs.Run.{IsEnough, offers_of_run}
use Rattle.mmtel_run_definitions.specs.ShortRuns.{IsShortRun}
use Rattle.mmtel_server.specs.DriveEffects.{AddsOne, ContinuesRunBy, DriveEffect, IsAtEnd, KeepsNoninterference, ReadEach, ReceivesEvent, ReceivesMore, StaysOrRises, StopsInLast}
use Rattle.mmtel_server.specs.Follows.{NumbersNeverFall}
use Rattle.mmtel_server.specs.Theorems.{OffersAreIndistinguishable, RunTheorems}
use Rattle.mmtel_server.specs.States.{LinkState, ServingState, step_of}
use Rattle.mmtel_server.specs.Representation.{AddsPrefixInRun, AddsPrefixWhileServing, IsPrefixOf, RanFromStart}
use Rattle.mmtel_server.specs.StepEffects.{StepAborted, StepEffect, event_record}
use Rattle.mmtel_server.specs.Turns.{DriveEffectSoFar}
use Rattle.mmtel_server.specs.declared.driving.DriveFault.{DriveFault}
use Rattle.mmtel_server.specs.declared.driving.DriveFault.TheVariants.{LinkFault, NoMemory}
use Rattle.mmtel_server.specs.declared.servers.Server.{Server}
use Rattle.mmtel_server.proofs.Prefixes.{enough_of_front, offers_front, offers_given}
use Rattle.mmtel_server.proofs.Received.{read_all_last, read_lost_last, read_nothing, read_then}
use Rattle.mmtel_server.proofs.Keeping.{length_lost, lost_events}
use Rattle.mmtel_server.proofs.Effects.{few, few_first, made_all, made_broken, made_closed, made_failed, made_lost, made_more, made_none, whole}

-- ---- what the server did

went_nothing : (s : Server) (out : List Offer) → ContinuesRunBy [] s out s out
went_nothing s out d token loaded es before went short = subst (λ (l : List EventRecord). RanFromStart d token loaded l before s out) (sym (append-nil es)) went

-- with all of these and then these, the prefix is few enough, and the rest begins where it ended
module _ (law : NumbersNeverFall) (always : GivesAlways) (xs ys : List EventRecord) (s t : Server) (out between : List Offer) (first : ContinuesRunBy xs s out t between) where
  there : (d : Directory) (token : List ℕ) (loaded : Texts) (es : List EventRecord) (before : List Offer) → RanFromStart d token loaded es before s out → IsShortRun d token loaded (es ++ (xs ++ ys))
      → RanFromStart d token loaded (es ++ xs) before t between
  there d token loaded es before went short = first d token loaded es before went (few_first law always xs ys d token loaded es short)

  pub went_then : (u : Server) (now : List Offer) → ContinuesRunBy ys t between u now → ContinuesRunBy (xs ++ ys) s out u now
  went_then u now second d token loaded es before went short =
      subst (λ (l : List EventRecord). RanFromStart d token loaded l before u now) (sym (whole law always xs ys es))
      (second d token loaded (es ++ xs) before (there d token loaded es before went short) (few law always xs ys d token loaded es short))

  -- memory ran out in what came then, and nothing more than a prefix was added
  pub broke_in : (now : List Offer) → length ys ≤ 1
      → ((d : Directory) (token : List ℕ) (loaded : Texts) (before : List Offer) (es : List EventRecord) (fuel : ℕ) → RanFromStart d token loaded es before t between
      → IsShortRun d token loaded (es ++ ys) → IsEnough d token loaded fuel (es ++ ys)
      → IsPrefixOf between now × IsPrefixOf now (before ++ offers_of_run d token loaded fuel (es ++ ys)))
      → StopsInLast (xs ++ ys) s out now
  broke_in now one second = record {
    done = xs;
    last = ys;
    parts = refl;
    one = one;
    offered = λ d token loaded es before fuel went short enough.
        let enough_here : IsEnough d token loaded fuel ((es ++ xs) ++ ys) = subst (λ (l : List EventRecord). IsEnough d token loaded fuel l) (whole law always xs ys es) enough in
        let here : RanFromStart d token loaded (es ++ xs) before t between = there d token loaded es before went short in
        let given : between ≡ before ++ offers_of_run d token loaded fuel (es ++ xs) =
        offers_given d token loaded before (es ++ xs) fuel t between here (enough_of_front d token loaded fuel (es ++ xs) ys enough_here) in
        let broke = second d token loaded before (es ++ xs) fuel here (few law always xs ys d token loaded es short) enough_here in (
          subst (λ (l : List Offer). IsPrefixOf l now) given broke.0,
          subst (λ (l : List EventRecord). IsPrefixOf now (before ++ offers_of_run d token loaded fuel l)) (sym (whole law always xs ys es)) broke.1,
        );
  }

-- memory ran out in processing one more event
pub broke_then : NumbersNeverFall → GivesAlways → (xs : List EventRecord) (one : EventRecord) (s t : Server) (out between now : List Offer) → ContinuesRunBy xs s out t between → AddsPrefixInRun t between now one
    → StopsInLast (xs ++ one ∷ []) s out now
broke_then law always xs one s t out between now first second =
    broke_in law always xs (one ∷ []) s t out between first now (omega arith) (λ d token loaded before es fuel went short enough. second d token loaded es before fuel went short enough)

-- memory ran out before anything of what came then was processed
pub broke_there : NumbersNeverFall → GivesAlways → (xs ys : List EventRecord) (s t : Server) (out now : List Offer) → length ys ≤ 1 → ContinuesRunBy xs s out t now → StopsInLast (xs ++ ys) s out now
broke_there law always xs ys s t out now one first =
    broke_in law always xs ys s t out now first now one
    (λ d token loaded before es fuel went short enough. (([], append-nil now), offers_front d token loaded law before es ys fuel t now went enough))

-- noninterference holds for the outputs
pub kept : OffersAreIndistinguishable → (xs : List EventRecord) (s t : Server) (out now : List Offer) → ContinuesRunBy xs s out t now → KeepsNoninterference xs s out now
kept secret xs s t out now did d token loaded es went short = secret d token loaded (es ++ xs) t now (did d token loaded es [] went short)

-- ---- turn after turn

module _ (laws : RunTheorems) (start : ServingState) (out : List Offer) where
  pub begun : DriveEffectSoFar 0 start start out out
  begun = record {
    recorded = [];
    effect = made_none laws start;
    read = read_nothing start.link.input start.link.delivery_faults start.link.delivery_faults refl;
    runs = went_nothing start.server out;
  }

  module _ (turns : ℕ) (mid : ServingState) (between : List Offer) (d : DriveEffectSoFar turns start mid out between) where
    read_more : (link : LinkState) → ReadEach mid.link.input link.input mid.link.delivery_faults link.delivery_faults → ReadEach start.link.input link.input start.link.delivery_faults link.delivery_faults
    read_more link read =
        read_then start.link.input mid.link.input link.input start.link.delivery_faults mid.link.delivery_faults link.delivery_faults (events_in d.recorded) d.effect.receives d.read read

    -- one turn received an event, and it was processed
    pub goes_on : (new : ServingState) (now : List Offer) (e : Event)
        → ReceivesMore mid.link.input new.link.input (e ∷ []) × ReadEach mid.link.input new.link.input mid.link.delivery_faults new.link.delivery_faults → StepEffect e (step_of mid between) (step_of new now)
        → DriveEffectSoFar (turns + 1) start new out now
    goes_on new now e told step =
        let one : EventRecord = event_record e step.outcome step.rows step.rows_accepted in
        record {
          recorded = d.recorded ++ one ∷ [];
          effect = made_more laws start d.recorded turns mid d.effect new between now e told.0 step;
          read = read_more new.link told.1;
          runs = went_then laws.draws laws.always d.recorded (one ∷ []) start.server mid.server out between d.runs new.server now step.continues;
        }

    module _ (most : ℕ) (less : turns < most) where
      -- it was not processed to its end
      pub breaks : (new : ServingState) (now : List Offer) (e : Event)
          → ReceivesMore mid.link.input new.link.input (e ∷ []) × ReadEach mid.link.input new.link.input mid.link.delivery_faults new.link.delivery_faults
          → StepAborted e (step_of mid between) now new.keeper → DriveEffect most start new out now (Err NoMemory)
      breaks new now e told met =
          let one : EventRecord = event_record e met.outcome met.rows false in
          record {
            recorded = d.recorded ++ one ∷ [];
            effect = made_broken laws start d.recorded turns mid d.effect most less new e
                (λ kept rows. (took : Bool) → AddsPrefixInRun mid.server between now (event_record e kept rows took) × AddsPrefixWhileServing mid.server between now (event_record e kept rows took)) told.0 met;
            read = read_all_last start.link.input new.link.input start.link.delivery_faults new.link.delivery_faults (read_more new.link told.1);
            runs = broke_then laws.draws laws.always d.recorded one start.server mid.server out between now d.runs (met.broke false).0;
            noninterference = tt;
          }

      -- where only the link has changed since
      module _ (link : LinkState) where
        abbrev Ends : Result Bool DriveFault → Type 0
        Ends result = DriveEffect most start (record { link = link; keeper = mid.keeper; server = mid.server }) out between result

        -- memory ran out before the connection was read to its end
        lost : StaysOrRises mid.link.delivery_faults link.delivery_faults → (es : List Event) → length es ≤ 1 → ReceivesMore mid.link.input link.input es × AddsOne mid.link.input link.input → Ends (Err NoMemory)
        lost stands es one told =
            let few_lost : length (lost_events es) ≤ 1 = omega (arith, length_lost es, one) in
            record {
              recorded = d.recorded ++ lost_events es;
              effect = made_lost laws start d.recorded turns mid d.effect most link es one (omega (arith, less, one)) told.0;
              read = read_lost_last start.link.input mid.link.input link.input start.link.delivery_faults mid.link.delivery_faults link.delivery_faults d.read told.1 stands;
              runs = broke_there laws.draws laws.always d.recorded (lost_events es) start.server mid.server out between few_lost d.runs;
              noninterference = tt;
            }

        module _ (secret : OffersAreIndistinguishable) where
          -- the link is closed
          pub closes : ReceivesMore mid.link.input link.input [] × (ReadEach mid.link.input link.input mid.link.delivery_faults link.delivery_faults × IsAtEnd link.input) → Ends (Ok true)
          closes told = record {
            recorded = d.recorded;
            effect = made_closed laws start d.recorded turns mid d.effect most link less told.0 told.1.1;
            read = read_more link told.1.0;
            runs = d.runs;
            noninterference = kept secret d.recorded start.server mid.server out between d.runs;
          }

          -- it failed
          pub fails : StaysOrRises mid.link.delivery_faults link.delivery_faults → (e : DriveFault) → ReceivesEvent mid.link.input link.input mid.link.delivery_faults link.delivery_faults (Err e) → Ends (Err e)
          fails stands LinkFault told = record {
            recorded = d.recorded;
            effect = made_failed laws start d.recorded turns mid d.effect most link less told.0;
            read = read_more link told.1;
            runs = d.runs;
            noninterference = kept secret d.recorded start.server mid.server out between d.runs;
          }
          fails stands NoMemory told = lost stands told.0 told.1 told.2

    -- the turns were done
    pub ends : OffersAreIndistinguishable → (most : ℕ) → turns ≡ most → DriveEffect most start mid out between (Ok false)
    ends secret most all = record {
      recorded = d.recorded;
      effect = made_all laws start d.recorded turns mid d.effect most all;
      read = d.read;
      runs = d.runs;
      noninterference = kept secret d.recorded start.server mid.server out between d.runs;
    }

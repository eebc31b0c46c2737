-- The effect of the events that came, turn after turn, but for the outputs.
use Rattle.std.proofs.Common.{◌≡◌, ◌+◌, ◌<◌, ◌≤◌, ℕ, Bool, true, false, List, [], ◌∷◌, ◌++◌, length, refl, sym, ap, ◌∙◌, subst, append-nil, append_assoc, length-append, Option, Ok, Err, arith}
use Rattle.std.specs.Option.{option_map}
use Rattle.mmtel_charging.specs.declared.rows.Row.{Row}
use Rattle.mmtel_directory.specs.declared.directories.Directory.{Directory}
use Rattle.mmtel_records_in_force.specs.Texts.{Texts}
use Rattle.mmtel_keeper.specs.Contents.{KeeperContents}
use Rattle.mmtel_link.specs.LinkStates.{LinkInput}
use Rattle.mmtel_environment.specs.declared.events.Event.{Event}
use Rattle.mmtel_environment.specs.declared.events.Offer.{Offer}
use Rattle.mmtel_run_definitions.specs.Events.{EventRecord, events_in}
use Rattle.mmtel_run_definitions.specs.TopTheorem.{GivesAlways}
use Rattle.mmtel_run_definitions.specs.InForce.{uploads_of}
use Rattle.mmtel_run_definitions.specs.Run.{IsEnough, state_after}
use Rattle.mmtel_run_definitions.specs.ShortRuns.{IsShortRun}
use Rattle.mmtel_run_theorems.specs.NoInjection.{RunsSendNoInjection}
use Rattle.mmtel_run_theorems.specs.Outcome.{CallsOfRunsReachOutcome}
use Rattle.mmtel_run_theorems.specs.ChargingRecords.{RunParticipantsChargedOnce}
use Rattle.mmtel_web_service.specs.KeeperCalls.{CountsFaults, IsKeeperResult}
use Rattle.mmtel_web.specs.Handling.{KeeperOutcomeView}
use Rattle.mmtel_server.specs.DriveEffects.{CallsReachOutcome, ChargesParticipants, ContinuesServingBy, HoldsUploads, IsAtEnd, KeeperResultsButLast}
use Rattle.mmtel_server.specs.DriveEffects.{KeeperResultsOfRun, ReceivesMore, RunEffect, SendsNoInjectionInRun, with_uploads_and_rows}
use Rattle.mmtel_server.specs.Follows.{NumbersNeverFall}
use Rattle.mmtel_server_timers.specs.Handover.{accepted_rows}
use Rattle.mmtel_server.specs.Theorems.{RunTheorems}
use Rattle.mmtel_server.specs.Representation.{RepresentsRun}
use Rattle.mmtel_server.specs.States.{KeeperState, LinkState, ServingState, StepState, step_of}
use Rattle.mmtel_server.specs.StepEffects.{AbortedKeeperCalls, AsksKeeperInRun, StepEffect, call_of, event_record}
use Rattle.mmtel_server.specs.Turns.{EffectSoFar}
use Rattle.mmtel_server.specs.declared.driving.DriveFault.TheVariants.{LinkFault, NoMemory}
use Rattle.mmtel_server.specs.declared.servers.Server.{Server}
use Rattle.mmtel_server.proofs.Charging.{charged}
use Rattle.mmtel_server.proofs.Prefixes.{enough_of_front, short_front}
use Rattle.mmtel_server.proofs.Received.{receives_nothing, receives_still, receives_then}
use Rattle.mmtel_server.proofs.Keeping.{all_then, counted_last, counted_lost, counted_one, counted_then, events_lost, holds_lost, holds_nothing, holds_one}
use Rattle.mmtel_server.proofs.Keeping.{holds_unaccepted, length_lost, lost_events, results_last, results_lost, results_one, results_then, uploads_both}

-- ---- lists

events_both : (xs ys : List EventRecord) → events_in (xs ++ ys) ≡ events_in xs ++ events_in ys
events_both [] ys = refl
events_both (x ∷ xs) ys = ap (λ (es : List Event). x.event ∷ es) (events_both xs ys)

-- ---- the outcomes of calls, and what is sent

arrival_made : CallsOfRunsReachOutcome → (recorded : List EventRecord) (old : Server) → CallsReachOutcome recorded old
arrival_made law recorded old d token loaded es serves short = law d token loaded (es ++ recorded) short

participants_charged : RunParticipantsChargedOnce → (recorded : List EventRecord) (old : Server) → ChargesParticipants recorded old
participants_charged law recorded old d token loaded es serves short = law d token loaded (es ++ recorded) short

no_injection_sent : RunsSendNoInjection → (recorded : List EventRecord) (old : Server) → SendsNoInjectionInRun recorded old
no_injection_sent law recorded old d token loaded es serves short home text = law d token loaded (es ++ recorded) home text short

-- ---- the run that the server serves in

serves_nothing : (s : Server) → ContinuesServingBy [] s s
serves_nothing s d token loaded es serves short = subst (λ (l : List EventRecord). RepresentsRun d token loaded l s) (sym (append-nil es)) serves

-- with all of these and then these, the prefix is few enough, and the rest begins where it ended
module _ (law : NumbersNeverFall) (always : GivesAlways) (xs ys : List EventRecord) where
  pub whole : (es : List EventRecord) → es ++ (xs ++ ys) ≡ (es ++ xs) ++ ys
  whole es = sym (append_assoc es xs ys)

  pub few : (d : Directory) (token : List ℕ) (loaded : Texts) (es : List EventRecord) → IsShortRun d token loaded (es ++ (xs ++ ys)) → IsShortRun d token loaded ((es ++ xs) ++ ys)
  few d token loaded es short = subst (λ (l : List EventRecord). IsShortRun d token loaded l) (whole es) short

  pub few_first : (d : Directory) (token : List ℕ) (loaded : Texts) (es : List EventRecord) → IsShortRun d token loaded (es ++ (xs ++ ys)) → IsShortRun d token loaded (es ++ xs)
  few_first d token loaded es short = short_front d token loaded law always (es ++ xs) ys (few d token loaded es short)

  module _ (s t : Server) (first : ContinuesServingBy xs s t) where
    pub there : (d : Directory) (token : List ℕ) (loaded : Texts) (es : List EventRecord) → RepresentsRun d token loaded es s → IsShortRun d token loaded (es ++ (xs ++ ys)) → RepresentsRun d token loaded (es ++ xs) t
    there d token loaded es serves short = first d token loaded es serves (few_first d token loaded es short)

    pub serves_then : (u : Server) → ContinuesServingBy ys t u → ContinuesServingBy (xs ++ ys) s u
    serves_then u second d token loaded es serves short =
        subst (λ (l : List EventRecord). RepresentsRun d token loaded l u) (sym (whole es))
        (second d token loaded (es ++ xs) (there d token loaded es serves short) (few d token loaded es short))

    pub asked_then : (old mid new : KeeperState) → KeeperResultsOfRun xs s old mid → KeeperResultsOfRun ys t mid new → KeeperResultsOfRun (xs ++ ys) s old new
    asked_then old mid new one more d token loaded es serves short =
        results_then d.names xs ys old mid new
        (one d token loaded es serves (few_first d token loaded es short))
        (more d token loaded (es ++ xs) (there d token loaded es serves short) (few d token loaded es short))

    -- the keeper holds what was stored and filed in both
    pub holds_then : (held mid left : Option KeeperContents) → HoldsUploads xs s held mid → HoldsUploads ys t mid left → HoldsUploads (xs ++ ys) s held left
    holds_then held mid left one more d token loaded es fuel enough serves short =
        let enough_here : IsEnough d token loaded fuel ((es ++ xs) ++ ys) = subst (λ (l : List EventRecord). IsEnough d token loaded fuel l) (whole es) enough in
        let front = one d token loaded es fuel (enough_of_front d token loaded fuel (es ++ xs) ys enough_here) serves (few_first d token loaded es short) in
        let rest = more d token loaded (es ++ xs) fuel enough_here (there d token loaded es serves short) (few d token loaded es short) in (
          front.0 ++ rest.0,
          ap (λ (l : List EventRecord). (state_after d token loaded fuel l).filed) (whole es)
              ∙ (rest.1
              ∙ (ap (λ (rows : List Row). rows ++ rest.0) front.1 ∙ append_assoc (state_after d token loaded fuel es).filed front.0 rest.0)),
          rest.2
              ∙ (ap (λ (h : Option KeeperContents). option_map (with_uploads_and_rows (uploads_of d.names ys) rest.0) h) front.2
              ∙ (all_then (uploads_of d.names xs) (uploads_of d.names ys) front.0 rest.0 held
              ∙ ap (λ (uploads : Texts). option_map (with_uploads_and_rows uploads (front.0 ++ rest.0)) held) (sym (uploads_both d.names xs ys)))),
        )

-- ---- the effect on the keeper

no_keeper_results : (s : Server) (keeper : KeeperState) → KeeperResultsOfRun [] s keeper keeper
no_keeper_results s keeper d token loaded es serves short = (refl, refl)

-- what it holds after one event that was processed
holds_step : (old new : StepState) (e : Event) → (step : StepEffect e old new) → HoldsUploads (event_record e step.outcome step.rows step.rows_accepted ∷ []) old.server old.keeper.contents new.keeper.contents
holds_step old new e step d token loaded es fuel enough serves short =
    let waited = step.rows_wait d token loaded es fuel serves short enough in (
      accepted_rows step.rows_accepted step.waiting,
      waited.0,
      holds_one d.names (event_record e step.outcome step.rows step.rows_accepted) step.waiting old.keeper.contents step.between.contents new.keeper.contents old.keeper.calls step.between.calls new.keeper.calls
          (step.asks d token loaded es serves short) step.hands_over,
    )

-- ---- turn after turn

module _ (laws : RunTheorems) (start : ServingState) where
  pub made_none : EffectSoFar [] 0 start start
  made_none = record {
    receives = receives_nothing start.link.input;
    each = refl;
    serves = serves_nothing start.server;
    results = no_keeper_results start.server start.keeper;
    holds = holds_nothing start.server start.keeper.contents;
    counts = refl;
  }

  module _ (recorded : List EventRecord) (turns : ℕ) (mid : ServingState) (m : EffectSoFar recorded turns start mid) where
    told_more : (later : Option LinkInput) (ys : List EventRecord) → ReceivesMore mid.link.input later (events_in ys) → ReceivesMore start.link.input later (events_in (recorded ++ ys))
    told_more later ys told =
        subst (λ (es : List Event). ReceivesMore start.link.input later es) (sym (events_both recorded ys))
        (receives_then start.link.input mid.link.input later (events_in recorded) (events_in ys) m.receives told)

    -- one turn received an event, and it was processed
    pub made_more : (new : ServingState) (out offers : List Offer) (e : Event) → ReceivesMore mid.link.input new.link.input (e ∷ [])
        → (step : StepEffect e (step_of mid out) (step_of new offers)) → EffectSoFar (recorded ++ event_record e step.outcome step.rows step.rows_accepted ∷ []) (turns + 1) start new
    made_more new out offers e told step =
        let one : EventRecord = event_record e step.outcome step.rows step.rows_accepted in
        let here : KeeperResultsOfRun (one ∷ []) mid.server mid.keeper new.keeper = λ dir token loaded es serves short.
        results_one dir.names one step.waiting mid.keeper step.between new.keeper (step.asks dir token loaded es serves short) step.hands_over in
        let on : ContinuesServingBy (one ∷ []) mid.server new.server = λ dir token loaded es serves short. (step.adds dir token loaded es serves short).0 in
        record {
          receives = told_more new.link.input (one ∷ []) told;
          each = omega (arith, length-append recorded (one ∷ []), m.each);
          serves = serves_then laws.draws laws.always recorded (one ∷ []) start.server mid.server m.serves new.server on;
          results = asked_then laws.draws laws.always recorded (one ∷ []) start.server mid.server m.serves start.keeper mid.keeper new.keeper m.results here;
          holds = holds_then laws.draws laws.always recorded (one ∷ []) start.server mid.server m.serves start.keeper.contents mid.keeper.contents new.keeper.contents m.holds
              (holds_step (step_of mid out) (step_of new offers) e step);
          counts = counted_then recorded (one ∷ []) start.keeper.faults mid.keeper.faults new.keeper.faults m.counts
              (counted_one one mid.keeper.faults step.between.faults new.keeper.faults step.counts step.handover_faults);
        }

    module _ (most : ℕ) where
      -- it was not processed to its end
      pub made_broken : turns < most → (new : ServingState) (e : Event) (Broke : KeeperOutcomeView → List Row → Type 0) → ReceivesMore mid.link.input new.link.input (e ∷ [])
          → (met : AbortedKeeperCalls Broke (λ kept rows between. (took : Bool) → AsksKeeperInRun mid.server (event_record e kept rows took) mid.keeper between) mid.keeper new.keeper)
          → RunEffect (recorded ++ event_record e met.outcome met.rows false ∷ []) most start new (Err NoMemory)
      made_broken less new e Broke told met =
          let one : EventRecord = event_record e met.outcome met.rows false in
          let here : (dir : Directory) (token : List ℕ) (loaded : Texts) (es : List EventRecord) → RepresentsRun dir token loaded es mid.server → IsShortRun dir token loaded (es ++ one ∷ [])
          → IsKeeperResult (call_of dir.names one.event) one.outcome one.rows mid.keeper.contents new.keeper.contents mid.keeper.calls met.between.calls = λ dir token loaded es serves short.
          subst (λ (h : Option KeeperContents). IsKeeperResult (call_of dir.names one.event) one.outcome one.rows mid.keeper.contents h mid.keeper.calls met.between.calls) (sym met.handover_aborted.0)
          (met.asks false dir token loaded es serves short) in
          let stopped : KeeperResultsButLast (recorded ++ one ∷ []) start.server start.keeper new.keeper = λ dir token loaded es serves short.
          results_last dir.names recorded one start.keeper mid.keeper new.keeper met.between.calls refl
          (m.results dir token loaded es serves (few_first laws.draws laws.always recorded (one ∷ []) dir token loaded es short))
          (here dir token loaded (es ++ recorded) (there laws.draws laws.always recorded (one ∷ []) start.server mid.server m.serves dir token loaded es serves short)
          (few laws.draws laws.always recorded (one ∷ []) dir token loaded es short)) met.handover_aborted.1.0 in
          record {
            receives = told_more new.link.input (one ∷ []) told;
            ends = omega (arith, length-append recorded (one ∷ []), m.each, less);
            keeper = record {
              results = stopped;
              holds = holds_then laws.draws laws.always recorded (one ∷ []) start.server mid.server m.serves start.keeper.contents mid.keeper.contents new.keeper.contents m.holds
                  (holds_unaccepted one mid.server mid.keeper.contents new.keeper.contents mid.keeper.calls met.between.calls refl here);
              counts = counted_last recorded one start.keeper.faults mid.keeper.faults new.keeper.faults m.counts
                  (subst (λ (n : ℕ). CountsFaults met.outcome mid.keeper.faults n) (sym met.handover_aborted.1.1) met.counts);
            };
            charges = charged laws.filed laws.none_waits (recorded ++ one ∷ []) start.server;
            outcome = arrival_made laws.outcome (recorded ++ one ∷ []) start.server;
            participants = participants_charged laws.participants (recorded ++ one ∷ []) start.server;
            no_injection = no_injection_sent laws.no_injection (recorded ++ one ∷ []) start.server;
          }

      -- where only the link has changed since
      module _ (link : LinkState) where
        abbrev since : ServingState
        since = record { link = link; keeper = mid.keeper; server = mid.server }

        -- memory ran out before the connection was read to its end
        pub made_lost : (es : List Event) → length es ≤ 1 → turns + length es ≤ most → ReceivesMore mid.link.input link.input es
            → RunEffect (recorded ++ lost_events es) most start since (Err NoMemory)
        made_lost es one less told =
            let ys : List EventRecord = lost_events es in
            let stopped : KeeperResultsButLast (recorded ++ ys) start.server start.keeper mid.keeper = λ dir token loaded earlier serves short.
            results_lost dir.names recorded es start.keeper mid.keeper one
            (m.results dir token loaded earlier serves (few_first laws.draws laws.always recorded ys dir token loaded earlier short)) in
            record {
              receives = told_more link.input ys (subst (λ (l : List Event). ReceivesMore mid.link.input link.input l) (sym (events_lost es)) told);
              ends = omega (arith, length-append recorded ys, m.each, less, length_lost es);
              keeper = record {
                results = stopped;
                holds = holds_then laws.draws laws.always recorded ys start.server mid.server m.serves start.keeper.contents mid.keeper.contents mid.keeper.contents m.holds
                    (holds_lost es mid.server mid.keeper.contents mid.keeper.calls one);
                counts = counted_lost recorded es start.keeper.faults mid.keeper.faults one m.counts;
              };
              charges = charged laws.filed laws.none_waits (recorded ++ ys) start.server;
              outcome = arrival_made laws.outcome (recorded ++ ys) start.server;
              participants = participants_charged laws.participants (recorded ++ ys) start.server;
              no_injection = no_injection_sent laws.no_injection (recorded ++ ys) start.server;
            }

        -- the link is closed
        pub made_closed : turns < most → ReceivesMore mid.link.input link.input [] → IsAtEnd link.input → RunEffect recorded most start since (Ok true)
        made_closed less told over = record {
          receives = receives_still start.link.input mid.link.input link.input (events_in recorded) m.receives told;
          ends = (omega (arith, m.each, less), over);
          keeper = record { results = m.results; holds = m.holds; counts = m.counts };
          charges = charged laws.filed laws.none_waits recorded start.server;
          outcome = arrival_made laws.outcome recorded start.server;
          participants = participants_charged laws.participants recorded start.server;
          no_injection = no_injection_sent laws.no_injection recorded start.server;
        }

        -- it failed
        pub made_failed : turns < most → ReceivesMore mid.link.input link.input [] → RunEffect recorded most start since (Err LinkFault)
        made_failed less told = record {
          receives = receives_still start.link.input mid.link.input link.input (events_in recorded) m.receives told;
          ends = omega (arith, m.each, less);
          keeper = record { results = m.results; holds = m.holds; counts = m.counts };
          charges = charged laws.filed laws.none_waits recorded start.server;
          outcome = arrival_made laws.outcome recorded start.server;
          participants = participants_charged laws.participants recorded start.server;
          no_injection = no_injection_sent laws.no_injection recorded start.server;
        }

      -- the turns were done
      pub made_all : turns ≡ most → RunEffect recorded most start mid (Ok false)
      made_all all = record {
        receives = m.receives;
        ends = m.each ∙ all;
        keeper = record { results = m.results; holds = m.holds; counts = m.counts };
        charges = charged laws.filed laws.none_waits recorded start.server;
        outcome = arrival_made laws.outcome recorded start.server;
        participants = participants_charged laws.participants recorded start.server;
        no_injection = no_injection_sent laws.no_injection recorded start.server;
      }

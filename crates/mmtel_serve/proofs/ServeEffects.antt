-- The effect of the turns of `serve`, turn after turn.
use Rattle.std.proofs.Common.{◌≡◌, ◌+◌, ◌<◌, ◌≤◌, ℕ, Bool, true, false, List, [], ◌∷◌, ◌++◌, length, sym, ◌∙◌, subst, append-nil, Option, Ok, Err, arith, inl, inr}
use Rattle.std.specs.Prelude.{◌⊎◌}
use Rattle.mmtel_delivery.specs.Delivery.{Delivered, DeliveredAll, RoseBy, new_losses}
use Rattle.mmtel_delivery.specs.Theorems.{NothingIsDelivered, PartsAreDelivered}
use Rattle.mmtel_link.specs.LinkStates.{LinkInput, LinkOutput}
use Rattle.mmtel_environment.specs.declared.events.Event.{Event}
use Rattle.mmtel_run_definitions.specs.Events.{EventRecord, events_in}
use Rattle.mmtel_run_theorems.specs.SentBytes.{BytesAreSeen}
use Rattle.mmtel_run_theorems.specs.Noninterference.{OffersKeepNoninterference}
use Rattle.mmtel_base.specs.declared.memory.NoMemory as memory
use Rattle.mmtel_server.specs.DriveEffects.{AddsOne, IsAtEnd, ReadEach, ReceivesEvent, ReceivesMore, StaysOrRises}
use Rattle.mmtel_server.specs.Theorems.{RunTheorems}
use Rattle.mmtel_server.specs.States.{LinkState, ServingState}
use Rattle.mmtel_server.specs.Representation.{AddsPrefixInRun, AddsPrefixWhileServing}
use Rattle.mmtel_server.specs.StepEffects.{event_record}
use Rattle.mmtel_server.specs.declared.driving.DriveFault.{DriveFault}
use Rattle.mmtel_server.specs.declared.driving.DriveFault.TheVariants.{LinkFault, NoMemory}
use Rattle.mmtel_server.proofs.Received.{receives_nothing}
use Rattle.mmtel_server.proofs.Keeping.{length_lost, lost_events}
use Rattle.mmtel_server.proofs.Effects.{made_all, made_broken, made_closed, made_failed, made_lost, made_more, made_none}
use Rattle.mmtel_serve.specs.ServeEffects.{DeliveredOn, DeliveryAborted, KeepsNoninterference, KeepsNoninterferenceSoFar, ReadsBetween, ReadsButLast, ServeEffect}
use Rattle.mmtel_serve.specs.Turns.{EventAborted, EventEffect, ServeEffectSoFar}
use Rattle.mmtel_serve.proofs.Delivery.{delivered_nothing, gave_part, gave_still, gave_then}
use Rattle.mmtel_serve.proofs.Noninterference.{front_of, kept_of}
use Rattle.mmtel_serve.proofs.Reading.{reads_all_last, reads_lost, reads_lost_last, reads_nothing, reads_then}

module _ (laws : RunTheorems) (none : NothingIsDelivered) (both : PartsAreDelivered) (keeps : OffersKeepNoninterference) (bytes : BytesAreSeen) (start : ServingState) where
  pub begun : ServeEffectSoFar 0 start start
  begun = record {
    recorded = [];
    effect = made_none laws start;
    read = reads_nothing start.link.input start.link.output start.link.delivery_faults;
    delivered_all = delivered_nothing none start.server start.link.output;
  }

  module _ (turns : ℕ) (mid : ServingState) (s : ServeEffectSoFar turns start mid) where
    -- where only the link has changed since
    abbrev since : LinkState → ServingState
    since link = record { link = link; keeper = mid.keeper; server = mid.server }

    -- it received an event, or none
    abbrev ReadsOn : LinkState → Type 0
    ReadsOn link = ReadEach mid.link.input link.input mid.link.delivery_faults link.delivery_faults

    read_more : (link : LinkState) → ReadsOn link → ReadsBetween start.link.input link.input start.link.output mid.link.output start.link.delivery_faults link.delivery_faults
    read_more link each =
        reads_then start.link.input mid.link.input link.input start.link.output mid.link.output start.link.delivery_faults mid.link.delivery_faults link.delivery_faults
        (events_in s.recorded) s.effect.receives s.read each

    front_kept : (recorded : List EventRecord) (given : Option LinkOutput) → DeliveryAborted recorded start.server start.link.output given → KeepsNoninterferenceSoFar recorded start.server start.link.output given
    front_kept recorded given gave = front_of keeps laws.always bytes recorded start.server start.link.output given gave

    secret_kept : KeepsNoninterference s.recorded start.server start.link.output mid.link.output
    secret_kept = kept_of keeps laws.always bytes s.recorded start.server start.link.output mid.link.output s.delivered_all

    -- nothing was passed to the link as the event was read, and it received nothing as the outputs were passed
    module _ (read : LinkState) (new : ServingState) (e : Event) (told : ReceivesMore mid.link.input read.input (e ∷ []) × ReadsOn read) (same : read.output ≡ mid.link.output)
        (received : new.link.input ≡ read.input) (rose : RoseBy (new_losses read.output new.link.output) read.delivery_faults new.link.delivery_faults) where
      received_new : ReceivesMore mid.link.input new.link.input (e ∷ [])
      received_new = subst (λ (input : Option LinkInput). ReceivesMore mid.link.input input (e ∷ [])) (sym received) told.0

      -- something may have been lost in passing the outputs
      read_new : ReadsBetween start.link.input new.link.input start.link.output new.link.output start.link.delivery_faults new.link.delivery_faults
      read_new =
          subst (λ (input : Option LinkInput). ReadsBetween start.link.input input start.link.output new.link.output start.link.delivery_faults new.link.delivery_faults) (sym received)
          (reads_lost start.link.input read.input start.link.output mid.link.output new.link.output start.link.delivery_faults read.delivery_faults new.link.delivery_faults (read_more read told.1)
          (subst (λ (given : Option LinkOutput). RoseBy (new_losses given new.link.output) read.delivery_faults new.link.delivery_faults) same rose))

      -- it was processed and its outputs were passed
      pub goes_on : (x : Unit {0}) → EventEffect e (since read) new (Ok x) → ServeEffectSoFar (turns + 1) start new
      goes_on x served =
          let one : EventRecord = event_record e served.step.outcome served.step.rows served.step.rows_accepted in
          record {
            recorded = s.recorded ++ one ∷ [];
            effect = made_more laws start s.recorded turns mid s.effect new [] served.offers e received_new served.step;
            read = read_new;
            delivered_all = gave_then laws.draws laws.always both s.recorded start.server mid.server s.effect.serves start.link.output mid.link.output s.delivered_all one new.server served.offers
                served.step.adds served.known served.peers new.link.output
                (subst (λ (given : Option LinkOutput). Delivered served.known served.offers given new.link.output) same served.delivered);
          }

      module _ (most : ℕ) (less : turns < most) where
        -- memory ran out in processing it
        stopped : EventAborted e (since read) new → ServeEffect most start new (Err NoMemory)
        stopped ev =
            let one : EventRecord = event_record e ev.aborted.outcome ev.aborted.rows false in
            let gave_none : DeliveryAborted (s.recorded ++ one ∷ []) start.server start.link.output new.link.output =
            subst (λ (given : Option LinkOutput). DeliveryAborted (s.recorded ++ one ∷ []) start.server start.link.output given) (sym (ev.same_output ∙ same))
            (gave_still laws.draws laws.always both s.recorded start.server mid.server s.effect.serves start.link.output mid.link.output s.delivered_all (one ∷ []) (omega arith)) in
            record {
              recorded = s.recorded ++ one ∷ [];
              effect = made_broken laws start s.recorded turns mid s.effect most less new e
                  (λ kept rows. (took : Bool) → AddsPrefixInRun mid.server [] ev.offers (event_record e kept rows took) × AddsPrefixWhileServing mid.server [] ev.offers (event_record e kept rows took))
                  received_new ev.aborted;
              read = reads_all_last start.link.input new.link.input start.link.output new.link.output start.link.delivery_faults new.link.delivery_faults read_new;
              delivered_all = gave_none;
              noninterference = front_kept (s.recorded ++ one ∷ []) new.link.output gave_none;
            }

        -- or in passing its outputs
        cut : (x : memory.NoMemory) → EventEffect e (since read) new (Err x) → ServeEffect most start new (Err NoMemory)
        cut x ev =
            let one : EventRecord = event_record e ev.step.outcome ev.step.rows ev.step.rows_accepted in
            let made = made_more laws start s.recorded turns mid s.effect new [] ev.offers e received_new ev.step in
            let gave_some : DeliveryAborted ((s.recorded ++ one ∷ []) ++ lost_events []) start.server start.link.output new.link.output =
            subst (λ (l : List EventRecord). DeliveryAborted l start.server start.link.output new.link.output) (sym (append-nil (s.recorded ++ one ∷ [])))
            (gave_part laws.draws laws.always both s.recorded start.server mid.server s.effect.serves start.link.output mid.link.output s.delivered_all one new.server ev.offers
            ev.step.adds ev.known ev.peers new.link.output x
            (subst (λ (given : Option LinkOutput). DeliveredAll ev.known ev.offers given new.link.output (Err x)) same ev.delivered)) in
            record {
              recorded = (s.recorded ++ one ∷ []) ++ lost_events [];
              effect = made_lost laws start (s.recorded ++ one ∷ []) (turns + 1) new made most new.link [] (omega arith) (omega (arith, less)) (receives_nothing new.link.input);
              read = reads_all_last start.link.input new.link.input start.link.output new.link.output start.link.delivery_faults new.link.delivery_faults read_new;
              delivered_all = gave_some;
              noninterference = front_kept ((s.recorded ++ one ∷ []) ++ lost_events []) new.link.output gave_some;
            }

        pub breaks : (x : memory.NoMemory) → EventAborted e (since read) new ⊎ EventEffect e (since read) new (Err x) → ServeEffect most start new (Err NoMemory)
        breaks x (inl ev) = stopped ev
        breaks x (inr ev) = cut x ev

    -- nothing is passed to the link in a turn that receives no event
    module _ (most : ℕ) (less : turns < most) (link : LinkState) (same : link.output ≡ mid.link.output) where
      read_still : ReadsOn link → ReadsBetween start.link.input link.input start.link.output link.output start.link.delivery_faults link.delivery_faults
      read_still each =
          subst (λ (given : Option LinkOutput). ReadsBetween start.link.input link.input start.link.output given start.link.delivery_faults link.delivery_faults) (sym same) (read_more link each)

      gave_then_none : DeliveredOn s.recorded start.server start.link.output link.output
      gave_then_none = subst (λ (given : Option LinkOutput). DeliveredOn s.recorded start.server start.link.output given) (sym same) s.delivered_all

      kept_still : KeepsNoninterference s.recorded start.server start.link.output link.output
      kept_still = subst (λ (given : Option LinkOutput). KeepsNoninterference s.recorded start.server start.link.output given) (sym same) secret_kept

      -- memory ran out before the connection was read to its end
      lost_one : StaysOrRises mid.link.delivery_faults link.delivery_faults → (es : List Event) → length es ≤ 1 → ReceivesMore mid.link.input link.input es × AddsOne mid.link.input link.input
          → ServeEffect most start (since link) (Err NoMemory)
      lost_one stands es one told =
          let few_lost : length (lost_events es) ≤ 1 = omega (arith, length_lost es, one) in
          let gave_none : DeliveryAborted (s.recorded ++ lost_events es) start.server start.link.output link.output =
          subst (λ (given : Option LinkOutput). DeliveryAborted (s.recorded ++ lost_events es) start.server start.link.output given) (sym same)
          (gave_still laws.draws laws.always both s.recorded start.server mid.server s.effect.serves start.link.output mid.link.output s.delivered_all (lost_events es) few_lost) in
          record {
            recorded = s.recorded ++ lost_events es;
            effect = made_lost laws start s.recorded turns mid s.effect most link es one (omega (arith, less, one)) told.0;
            read = subst (λ (given : Option LinkOutput). ReadsButLast start.link.input link.input start.link.output given start.link.delivery_faults link.delivery_faults) (sym same)
                (reads_lost_last start.link.input mid.link.input link.input start.link.output mid.link.output start.link.delivery_faults mid.link.delivery_faults link.delivery_faults s.read told.1 stands);
            delivered_all = gave_none;
            noninterference = front_kept (s.recorded ++ lost_events es) link.output gave_none;
          }

      -- the link is closed
      pub closes : ReceivesMore mid.link.input link.input [] × (ReadsOn link × IsAtEnd link.input) → ServeEffect most start (since link) (Ok true)
      closes told = record {
        recorded = s.recorded;
        effect = made_closed laws start s.recorded turns mid s.effect most link less told.0 told.1.1;
        read = read_still told.1.0;
        delivered_all = (s.effect.serves, gave_then_none);
        noninterference = kept_still;
      }

      -- it failed
      pub fails : StaysOrRises mid.link.delivery_faults link.delivery_faults → (e : DriveFault) → ReceivesEvent mid.link.input link.input mid.link.delivery_faults link.delivery_faults (Err e) →
          ServeEffect most start (since link) (Err e)
      fails stands LinkFault told = record {
        recorded = s.recorded;
        effect = made_failed laws start s.recorded turns mid s.effect most link less told.0;
        read = read_still told.1;
        delivered_all = (s.effect.serves, gave_then_none);
        noninterference = kept_still;
      }
      fails stands NoMemory told = lost_one stands told.0 told.1 told.2

    -- the turns were done
    pub ends : (most : ℕ) → turns ≡ most → ServeEffect most start mid (Ok false)
    ends most all = record {
      recorded = s.recorded;
      effect = made_all laws start s.recorded turns mid s.effect most all;
      read = s.read;
      delivered_all = (s.effect.serves, s.delivered_all);
      noninterference = secret_kept;
    }

-- The effect of one turn.
use Rattle.std.proofs.Common.{◌≡◌, List, [], subst, Result, Ok, Err}
use Rattle.std.specs.Prelude.{OnErr, OnOk}
use Rattle.mmtel_delivery.specs.Delivery.{DeliveredAll}
use Rattle.mmtel_environment.specs.declared.events.Event.{Event}
use Rattle.mmtel_environment.specs.declared.events.Offer.{Offer}
use Rattle.mmtel_base.specs.declared.memory.NoMemory.{NoMemory}
use Rattle.mmtel_server.specs.States.{ServingState, step_of}
use Rattle.mmtel_server.specs.StepEffects.{StepAborted, StepEffect}
use Rattle.mmtel_trust.specs.declared.known_peers.KnownPeer.{KnownPeer}
use Rattle.mmtel_serve.specs.Turns.{ArePeersOf, EventAborted, EventEffect}

pub any_ok : {A E : Type 0} (r : Result A E) (P : Type 0) → P → OnOk r P
any_ok (Ok x) P p = p
any_ok (Err e) P p = tt

pub any_err : {A E : Type 0} (r : Result A E) (P : Type 0) → P → OnErr r P
any_err (Ok x) P p = tt
any_err (Err e) P p = p

module _ (event : Event) (old new : ServingState) (start out : List Offer) (none : start ≡ []) where
  -- the step began with an empty list, and what was in it then was passed, or a prefix of it
  pub served_of : (result : Result (Unit {0}) NoMemory) (items : List Offer) (known : List KnownPeer) → items ≡ out → StepEffect event (step_of old start) (step_of new out)
      → ArePeersOf known new.server → DeliveredAll known items old.link.output new.link.output result → EventEffect event old new result
  served_of result items known same step peers gave = record {
    offers = out;
    step = subst (λ (l : List Offer). StepEffect event (step_of old l) (step_of new out)) none step;
    known = known;
    peers = peers;
    delivered = subst (λ (l : List Offer). DeliveredAll known l old.link.output new.link.output result) same gave;
  }

  -- or it failed
  pub stopped_of : new.link.output ≡ old.link.output → StepAborted event (step_of old start) out new.keeper → EventAborted event old new
  stopped_of stands met = record {
    same_output = stands;
    offers = out;
    aborted = subst (λ (l : List Offer). StepAborted event (step_of old l) out new.keeper) none met;
  }

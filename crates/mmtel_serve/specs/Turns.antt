-- What one turn of `serve` passed to a link, and what the turns so far passed to it.
use Rattle.std.specs.Prelude.{◌≡◌, ℕ, List, [], Result}
use Rattle.mmtel_directory.specs.declared.directories.Directory.{Directory}
use Rattle.mmtel_delivery.specs.Delivery.{DeliveredAll}
use Rattle.mmtel_records_in_force.specs.Texts.{Texts}
use Rattle.mmtel_environment.specs.declared.events.Event.{Event}
use Rattle.mmtel_environment.specs.declared.events.Offer.{Offer}
use Rattle.mmtel_run_definitions.specs.Events.{EventRecord}
use Rattle.mmtel_base.specs.declared.memory.NoMemory.{NoMemory}
use Rattle.mmtel_server.specs.States.{ServingState, step_of}
use Rattle.mmtel_server.specs.Representation.{RepresentsRun}
use Rattle.mmtel_server.specs.StepEffects.{StepAborted, StepEffect}
use Rattle.mmtel_server.specs.Turns.{EffectSoFar}
use Rattle.mmtel_server.specs.declared.servers.Server.{Server}
use Rattle.mmtel_trust.specs.declared.known_peers.KnownPeer.{KnownPeer}
use Rattle.mmtel_serve.specs.ServeEffects.{DeliveredOn, ReadsBetween}

-- these are the peers of whatever run the server serves in
abbrev pub ArePeersOf : List KnownPeer → Server → Type 0
ArePeersOf known server = (directory : Directory) (token : List ℕ) (loaded : Texts) (recorded : List EventRecord) → RepresentsRun directory token loaded recorded server →
    known ≡ directory.peers.known

-- one event was processed with an empty list of outputs, and the outputs were passed to the link; or, where memory ran out meanwhile, a prefix of them
pub record EventEffect (event : Event) (old new : ServingState) (result : Result (Unit {0}) NoMemory) : Type 0 where
  pub offers : List Offer
  pub step : StepEffect event (step_of old []) (step_of new offers)
  pub known : List KnownPeer
  pub peers : ArePeersOf known new.server
  pub delivered : DeliveredAll known offers old.link.output new.link.output result

-- memory ran out in processing it, and nothing was passed
pub record EventAborted (event : Event) (old new : ServingState) : Type 0 where
  pub same_output : new.link.output ≡ old.link.output
  pub offers : List Offer
  pub aborted : StepAborted event (step_of old []) offers new.keeper

-- so many turns received an event each, and the server processed them all and its outputs were passed
pub record ServeEffectSoFar (turns : ℕ) (old new : ServingState) : Type 0 where
  pub recorded : List EventRecord
  pub effect : EffectSoFar recorded turns old new
  pub read : ReadsBetween old.link.input new.link.input old.link.output new.link.output old.link.delivery_faults new.link.delivery_faults
  pub delivered_all : DeliveredOn recorded old.server old.link.output new.link.output

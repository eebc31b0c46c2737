-- What contracts observe of a link and of a keeper from outside, and the server over them: each is one value before an operation and one after it.
use Rattle.std.specs.Prelude.{ℕ, List, Option}
use Rattle.mmtel_keeper.specs.Contents.{KeeperCalls, KeeperContents}
use Rattle.mmtel_keeper.specs.declared.keepers.Keeper.{Ghosts as Keeper}
use Rattle.mmtel_link.specs.LinkStates.{LinkCalls, LinkInput, LinkOutput}
use Rattle.mmtel_link.specs.declared.links.Link.{Ghosts as Link}
use Rattle.mmtel_environment.specs.declared.events.Offer.{Offer}
use Rattle.mmtel_server.specs.declared.servers.Server.{Server}

-- of a link: its input, its output and its calls, where it exposes them, and the counts of its arrival and delivery faults
pub record LinkState : Type 0 where
  pub input : Option LinkInput
  pub output : Option LinkOutput
  pub calls : Option LinkCalls
  pub arrival_faults : ℕ
  pub delivery_faults : ℕ

abbrev pub link_state : {N : Type 0} → Link N → N → LinkState
link_state ghosts link = record {
  input = ghosts.input link;
  output = ghosts.output link;
  calls = ghosts.calls link;
  arrival_faults = ghosts.arrival_faults link;
  delivery_faults = ghosts.delivery_faults link;
}

-- of a keeper: its contents and its calls, where it exposes them, and the count of its faults
pub record KeeperState : Type 0 where
  pub contents : Option KeeperContents
  pub calls : Option KeeperCalls
  pub faults : ℕ

abbrev pub keeper_state : {K : Type 0} → Keeper K → K → KeeperState
keeper_state ghosts keeper = record { contents = ghosts.contents keeper; calls = ghosts.calls keeper; faults = ghosts.faults keeper }

-- a server, its outputs, and its keeper
pub record StepState : Type 0 where
  pub server : Server
  pub offers : List Offer
  pub keeper : KeeperState

abbrev pub step_state : {K : Type 0} → Server → List Offer → Keeper K → K → StepState
step_state server offers ghosts keeper = record { server = server; offers = offers; keeper = keeper_state ghosts keeper }

-- a link, a keeper, and the server over them
pub record ServingState : Type 0 where
  pub link : LinkState
  pub keeper : KeeperState
  pub server : Server

abbrev pub serving_state : {N K : Type 0} → Link N → N → Keeper K → K → Server → ServingState
serving_state link_ghosts link keeper_ghosts keeper server = record { link = link_state link_ghosts link; keeper = keeper_state keeper_ghosts keeper; server = server }

-- what a step needs of these: the server and its keeper, with the list to which it adds its outputs
abbrev pub step_of : ServingState → List Offer → StepState
step_of state offers = record { server = state.server; offers = offers; keeper = state.keeper }

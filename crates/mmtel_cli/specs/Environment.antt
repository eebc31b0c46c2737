-- What contracts observe of the link and of the keeper of a run, as one value: one before an operation, and one after it.
use Rattle.mmtel_keeper.specs.declared.keepers.Keeper.{Ghosts as Keeper}
use Rattle.mmtel_link.specs.declared.links.Link.{Ghosts as Link}
use Rattle.mmtel_server.specs.States.{KeeperState, LinkState, keeper_state, link_state}

pub record Environment : Type 0 where
  pub link : LinkState
  pub keeper : KeeperState

abbrev pub environment_of : {L K : Type 0} → Link L → L → Keeper K → K → Environment
environment_of link_ghosts link keeper_ghosts keeper = record { link = link_state link_ghosts link; keeper = keeper_state keeper_ghosts keeper }

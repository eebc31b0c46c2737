-- The result of a keeper's call in the program, as the value of the definitions.
use Rattle.mmtel_web_service.specs.declared.keeper_outcomes.KeeperOutcome.{KeeperOutcome}
use Rattle.mmtel_web_service.specs.declared.keeper_outcomes.KeeperOutcome.TheVariants as outcome
use Rattle.mmtel_web.specs.Handling.{KeeperOutcomeView, made, failed, no_memory}

abbrev pub keeper_outcome_view : KeeperOutcome → KeeperOutcomeView
keeper_outcome_view outcome.Made = made
keeper_outcome_view outcome.Failed = failed
keeper_outcome_view outcome.NoMemory = no_memory

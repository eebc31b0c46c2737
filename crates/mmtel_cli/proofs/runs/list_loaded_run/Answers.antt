use Rattle.mmtel_cli.proofs.Listed.{listed_if}
use Rattle.mmtel_cli.proofs.OutOfMemory.{aborted_after_run}
use Rattle.mmtel_cli.proofs.runs.list_loaded_run.Goals as goal

pub returns-clause-stopped : goal.returns-clause-stopped
returns-clause-stopped g c = aborted_after_run c.listing.result _ _ _ _ _ _ c.in_ok-offers.offers c.in_ok-offers.ensures.run

pub returns-clause-lists : goal.returns-clause-lists
returns-clause-lists g c = listed_if c.listing.result _ _ _ _ _ _ c.in_ok-offers.offers c.in_ok-offers.ensures.run c.listing.ensures.text

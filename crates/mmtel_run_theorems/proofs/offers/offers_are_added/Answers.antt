use Rattle.mmtel_run_theorems.proofs.Additions.{deadlines_add, events_add, runs_add}
use Rattle.mmtel_run_theorems.proofs.offers.offers_are_added.Goals as goal

pub returns : goal.returns
returns c = record { events = events_add; deadlines = deadlines_add; runs = runs_add }

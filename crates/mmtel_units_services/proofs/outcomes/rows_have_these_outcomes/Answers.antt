use Rattle.mmtel_units_services.proofs.Computed.{are_ends, are_outcomes}
use Rattle.mmtel_units_services.proofs.outcomes.rows_have_these_outcomes.Goals as goal

pub returns : goal.returns
returns c = record { rows = are_outcomes; ends = are_ends }

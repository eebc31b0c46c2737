use Rattle.mmtel_call_theorems.proofs.Noninterference.Queries.{public_parts_determine_queries}
use Rattle.mmtel_call_theorems.proofs.noninterference_theorems.public_parts_determine_queries.Goals as goal

pub returns : goal.returns
returns c = record { law = public_parts_determine_queries }

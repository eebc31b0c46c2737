use Rattle.mmtel_masked_messages.proofs.WorkedExampleTheorems.{heads, invites, remotes}
use Rattle.mmtel_masked_messages.proofs.theorems.worked_example_computes.Goals as goal

pub returns : goal.returns
returns c = record { masked = invites; heads = heads; remotes = remotes }

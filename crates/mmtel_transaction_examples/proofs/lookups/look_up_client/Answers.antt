use Rattle.std.proofs.Common.{arith}
use Rattle.mmtel_transaction.specs.Operations.{live}
use Rattle.mmtel_transaction.specs.Results.{clients}
use Rattle.mmtel_transaction_examples.proofs.FewSteps.{few, no_step}
use Rattle.mmtel_transaction_examples.proofs.lookups.look_up_client.Goals as goal

pub returns-clause-thousand : goal.returns-clause-thousand
returns-clause-thousand g c h st q = few (clients (live h)) 1000 10 c.args.steps.now c.client_of.new.steps q (c.client_of.ensures.cost h st) (omega arith)

pub returns-clause-none : goal.returns-clause-none
returns-clause-none g c h st q = no_step (clients (live h)) c.args.steps.now c.client_of.new.steps q (c.client_of.ensures.cost h st) c.client_of.ensures.rise

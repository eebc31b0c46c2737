use Rattle.std.proofs.Common.{arith}
use Rattle.mmtel_transaction.specs.Operations.{live}
use Rattle.mmtel_transaction.specs.Results.{servers}
use Rattle.mmtel_transaction_examples.proofs.FewSteps.{few, no_step}
use Rattle.mmtel_transaction_examples.proofs.lookups.look_up_server.Goals as goal

pub returns-clause-thousand : goal.returns-clause-thousand
returns-clause-thousand g c h st q = few (servers (live h)) 1000 10 c.args.steps.now c.server_of.new.steps q (c.server_of.ensures.cost h st) (omega arith)

pub returns-clause-most : goal.returns-clause-most
returns-clause-most g c h st q = few (servers (live h)) 16384 15 c.args.steps.now c.server_of.new.steps q (c.server_of.ensures.cost h st) (omega arith)

pub returns-clause-none : goal.returns-clause-none
returns-clause-none g c h st q = no_step (servers (live h)) c.args.steps.now c.server_of.new.steps q (c.server_of.ensures.cost h st) c.server_of.ensures.rise

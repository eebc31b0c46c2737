use Rattle.mmtel_transaction_examples.proofs.MatchingExamples.{requests, responses}
use Rattle.mmtel_transaction_examples.proofs.theorems.matching_computes.Goals as goal

pub returns : goal.returns
returns c = record { requests = requests; responses = responses }

use Rattle.std.proofs.Common.{◌≡◌, length}
use Rattle.mmtel_transaction.specs.Changes.{without_rseq}
use Rattle.mmtel_transaction.proofs.entries.drop_responses.Given as goal

abbrev pub invariant-responses : goal.invariant-responses
invariant-responses l = without_rseq l.rseq l.responses ≡ without_rseq l.rseq l.initial.responses

abbrev pub decreases-responses : goal.decreases-responses
decreases-responses l = length l.responses

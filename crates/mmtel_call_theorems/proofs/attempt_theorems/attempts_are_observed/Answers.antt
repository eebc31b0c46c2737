use Rattle.mmtel_call_theorems.proofs.Attempts.Traces.{attempts_are_observed, endings_are_observed}
use Rattle.mmtel_call_theorems.proofs.Attempts.Targets.{targets_are_observed}
use Rattle.mmtel_call_theorems.proofs.attempt_theorems.attempts_are_observed.Goals as goal

pub returns : goal.returns
returns c = record {
  attempts = attempts_are_observed c.calls_continue.ensures.law;
  endings = endings_are_observed c.calls_continue.ensures.law;
  targets = targets_are_observed (attempts_are_observed c.calls_continue.ensures.law) c.calls_reach_their_outcome.ensures.law c.calls_show_their_outcome.ensures.law;
}

use Rattle.std.proofs.Common.{arith}
use Rattle.mmtel_history.proofs.ListTheorems.{after_counts, after_most, appended_counts, marked_counts}
use Rattle.mmtel_history.proofs.CallerHistoryTheorems.{for_caller_counts}
use Rattle.mmtel_history.proofs.theorems.diversions_are_counted.Goals as goal

pub returns : goal.returns
returns c = record {
  one_more = λ h made. omega arith;
  appended = appended_counts;
  marked = marked_counts;
  reported = for_caller_counts;
  list = after_counts;
  never_fewer = after_most;
}

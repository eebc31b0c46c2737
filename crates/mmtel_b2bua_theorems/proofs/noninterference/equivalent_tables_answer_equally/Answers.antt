use Rattle.mmtel_b2bua_theorems.proofs.Queries.{equivalent_tables_answer_equally}
use Rattle.mmtel_b2bua_theorems.proofs.EquivalentSignals.{OfCalls}
use Rattle.mmtel_b2bua_theorems.proofs.noninterference.equivalent_tables_answer_equally.Goals as goal

pub returns : goal.returns
returns c =
    let laws : OfCalls = record {
      determine = c.public_parts_determine_queries.ensures.law;
      steps = c.calls_are_equivalent_in_both.ensures.steps;
      stay = c.calls_are_equivalent_in_both.ensures.calls;
      openings = c.calls_are_equivalent_in_both.ensures.openings;
      lending = c.detached_calls_stay_equivalent.ensures.law;
      ends = c.lookups_alone_are_seen.ensures.ends;
      keep = c.calls_keep_their_invariant.ensures.law;
    } in
    record { law = equivalent_tables_answer_equally laws }

use Rattle.mmtel_b2bua_theorems.proofs.Invariants.{tables_keep_their_invariant}
use Rattle.mmtel_b2bua_theorems.proofs.noninterference.tables_keep_their_invariant.Goals as goal

pub returns : goal.returns
returns c = record { law = tables_keep_their_invariant c.calls_keep_their_invariant.ensures.law }

use Rattle.std.proofs.Common.{◌≡◌}
use Rattle.mmtel_trust.specs.Asserted.{asserted_values, first_uri}
use Rattle.mmtel_trust.proofs.SchemeTheorems.{all_values}
use Rattle.mmtel_trust.proofs.identities.first_uri.Given as goal

abbrev pub invariant-loop-values : goal.invariant-loop-values
invariant-loop-values l =
    (goal.iterator-loop-values).can_next l.values-iterator ×
    (goal.iterator-loop-values).is_finite l.values-iterator ×
    (first_uri l.scheme (all_values l.values-iterator) ≡ first_uri l.scheme (asserted_values l.message.lines))

use Rattle.std.proofs.Common.{ap, sym, ◌∙◌}
use Rattle.std.specs.Prelude.{is_some}
use Rattle.mmtel_rules.specs.Facts.{with_identity_matches}
use Rattle.mmtel_precedence.proofs.EquivalentCallers.{BarsSame, verdicts-alike}
use Rattle.mmtel_precedence.proofs.theorems.verdicts_depend_on_matches.Goals as goal

pub returns : goal.returns
returns c =
    let bars : BarsSame = λ asks asks2 k rules h.
    sym (c.barred_where_no_rule_allows.ensures.barred (with_identity_matches k asks) rules)
    ∙ ap is_some (c.bar_depends_on_matches.ensures.same asks asks2 k rules h)
    ∙ c.barred_where_no_rule_allows.ensures.barred (with_identity_matches k asks2) rules in
    record { law = verdicts-alike c.first_rule_depends_on_matches.ensures.same bars }

use Rattle.std.proofs.Common.{ap, ◌∙◌}
use Rattle.mmtel_rules.specs.Facts.{facts_view}
use Rattle.mmtel_precedence.specs.Services.{refusal_or, first_decision, services_after_barring}
use Rattle.mmtel_precedence.specs.Verdicts.{decision_by}
use Rattle.mmtel_precedence.specs.Views.{served_account_view}
use Rattle.mmtel_precedence.proofs.Barrings.{said_by-arrival}
use Rattle.mmtel_precedence.proofs.decisions.arrival_decision.Goals as goal

pub returns : goal.returns
returns c =
    c.decision_unless_refused.ensures
    ∙ ap (λ refusal. decision_by (refusal_or refusal (first_decision (services_after_barring (facts_view c.args.call_facts.now) (served_account_view c.args.served_account.now)))) c.args.served_account.now.live)
    c.incoming.ensures.exact
    ∙ ap (λ says. decision_by says c.args.served_account.now.live) (said_by-arrival c.barred_where_no_rule_allows.ensures.barred (facts_view c.args.call_facts.now) (served_account_view c.args.served_account.now))

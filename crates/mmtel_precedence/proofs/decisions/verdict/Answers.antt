use Rattle.std.proofs.Common.{ap, ◌∙◌}
use Rattle.mmtel_rules.specs.Facts.{facts_view}
use Rattle.mmtel_precedence.specs.Services.{ServedAccountView, first_decision, services_on_arrival}
use Rattle.mmtel_precedence.specs.Verdicts.{decision_by}
use Rattle.mmtel_precedence.proofs.decisions.verdict.Goals as goal

pub returns-in-Arrived : goal.returns-in-Arrived
returns-in-Arrived c = record {
  exact = rw c.in-Arrived.is
      (c.verdict_on_arrival.ensures ∙ c.arrival_decision.ensures
      ∙ ap (λ (account : ServedAccountView). decision_by (first_decision (services_on_arrival (facts_view c.args.call_facts.now.facts) account)) account.live) c.called_account.ensures);
}

use Rattle.std.proofs.Common.{ap, ◌∙◌}
use Rattle.std.specs.Option.{option_map}
use Rattle.mmtel_rules.specs.Facts.{facts_view}
use Rattle.mmtel_precedence.specs.Views.{reached_target_view, served_account_view}
use Rattle.mmtel_precedence.proofs.NextSteps.{turn_of_account}
use Rattle.mmtel_precedence.proofs.next_steps.next_step_at.Goals as goal

pub returns-in-Some : goal.returns-in-Some
returns-in-Some c = record {
  exact =
      c.next_step_of_account.ensures
      ∙ turn_of_account (facts_view c.args.call_facts.now) (reached_target_view c.args.call_facts.now.now c.args.target.now) (served_account_view c.in-Some.account) (ap (option_map served_account_view) c.in-Some.is);
}

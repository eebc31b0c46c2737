use Rattle.std.proofs.Common.{ap, ◌∙◌}
use Rattle.std.specs.Prelude.{is_some}
use Rattle.mmtel_rules.specs.Facts.{facts_view}
use Rattle.mmtel_precedence.proofs.Barrings.{is_some-outgoing}
use Rattle.mmtel_precedence.proofs.decisions.bars_outgoing.Goals as goal

pub returns : goal.returns
returns c = c.is_some.ensures ∙ ap is_some c.outgoing.ensures.exact ∙ is_some-outgoing c.barred_where_no_rule_allows.ensures.barred (facts_view c.args.call_facts.now) c.args.sheet.now

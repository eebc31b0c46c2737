use Rattle.std.proofs.Common.{ap, ◌∙◌}
use Rattle.mmtel_b2bua.specs.Invariant.{box_values}
use Rattle.mmtel_b2bua.specs.Queries.{live}
use Rattle.mmtel_b2bua.specs.Tables.{Table}
use Rattle.mmtel_b2bua.proofs.Counting.{live_counted}
use Rattle.mmtel_b2bua.proofs.call_table.CallTable.live.Goals as goal

pub returns : goal.returns
returns c =
    c.live.ensures.exact
    ∙ live_counted (box_values c.self.inside.entries.items) c.self.inside.busy c.args.account.0 (c.self.invariant.counts c.args.account.0)
    ∙ ap (λ (t : Table). live c.args.account.0 t.entries) c.self.view_is

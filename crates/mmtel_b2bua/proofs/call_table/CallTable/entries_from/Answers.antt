use Rattle.std.proofs.Common.{ap, drop, ◌∙◌}
use Rattle.mmtel_b2bua.specs.Invariant.{box_values}
use Rattle.mmtel_b2bua.specs.Tables.{Table}
use Rattle.mmtel_b2bua.proofs.Keeping.{rest_boxes}
use Rattle.mmtel_b2bua.proofs.call_table.CallTable.entries_from.Goals as goal

pub returns : goal.returns
returns c =
    rest_boxes c.deref-entries.result.now c.args.from
    ∙ (ap (λ l. drop c.args.from (box_values l)) c.deref-entries.ensures.value ∙ ap (λ (t : Table). drop c.args.from t.entries) c.self.view_is)

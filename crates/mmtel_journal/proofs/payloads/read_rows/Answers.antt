use Rattle.std.proofs.Common.{List, [], ◌∷◌, ◌++◌, ◌∙◌, ap, arith, append_assoc}
use Rattle.mmtel_charging.specs.declared.rows.Row.{Row}
use Rattle.mmtel_journal.specs.Fields.{row_at}
use Rattle.mmtel_journal.proofs.CountedLists.{stopped, stepped, ended}
use Rattle.mmtel_journal.proofs.ReadPayloads.{no_rows, ends_rows}
use Rattle.mmtel_journal.proofs.payloads.read_rows.Goals as goal

pub returns-in_default-row_at : goal.returns-in_default-row_at
returns-in_default-row_at c =
    let inv = c.loop-left.invariant in
    no_rows c.args.tail.now [] []
    (stopped row_at c.args.tail.now inv.0 c.loop-left.left c.loop-left.rest.now (omega (arith, c.loop-left-test.true)) c.in_default-row_at.ensures inv.1)

pub loop-left-preserved : goal.loop-left-preserved
loop-left-preserved c =
    let inv = c.loop-left.invariant in
    let row : Row = c.in-Some-row_at.row in (
      inv.0 ++ row ∷ [],
      stepped row_at c.args.tail.now inv.0 c.loop-left.left c.loop-left.rest.now c.in-Some-row_at.further.now row
          (omega (arith, c.loop-left-test.true)) c.in-Some-row_at.ensures inv.1,
      c.push_reserved.ensures.items ∙ ap (λ (l : List Row). l ++ row ∷ []) (c.reserve.ensures.items ∙ inv.2) ∙ append_assoc c.args.rows.now.items inv.0 (row ∷ []),
    )

pub returns : goal.returns
returns c =
    let inv = c.loop-left.invariant in
    ends_rows c.args.tail.now c.args.rows.now.items c.loop-left.rows.items inv.0 c.loop-left.rest.now c.is_empty.result (λ i. omega (arith, c.type_inv.tail i)) c.is_empty.ensures
    (ended row_at c.args.tail.now inv.0 c.loop-left.left c.loop-left.rest.now (omega (arith, c.loop-left-test.false)) inv.1) inv.2

use Rattle.std.proofs.Common.{◌+◌, ◌<◌, length, subst, sym, arith}
use Rattle.mmtel_b2bua.specs.Invariant.{box_values}
use Rattle.mmtel_b2bua.specs.Tables.{Table}
use Rattle.mmtel_b2bua.proofs.Keeping.{length_boxes}
use Rattle.mmtel_b2bua.proofs.call_table.CallTable.absolute_place.Goals as goal

pub place_after-requires : goal.place_after-requires
place_after-requires c =
    let p = c.in-Some.place in
    let h : c.args.from + p < length (box_values c.self.inside.entries.items) = subst (λ (t : Table). c.args.from + p < length t.entries) (sym c.self.view_is) (c.requires p c.in-Some.is) in
    let g = length_boxes c.self.inside.entries.items in
    omega (arith, h, g, c.len.ensures)

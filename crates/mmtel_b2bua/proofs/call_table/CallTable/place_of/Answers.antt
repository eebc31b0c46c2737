use Rattle.std.proofs.Common.{subst, sym}
use Rattle.mmtel_output.specs.Marks.{Ascend}
use Rattle.mmtel_b2bua.specs.Invariant.{box_values, number_of}
use Rattle.mmtel_b2bua.proofs.Keeping.{boxes_ascend}
use Rattle.mmtel_b2bua.proofs.call_table.CallTable.place_of.Goals as goal

pub place_in-requires : goal.place_in-requires
place_in-requires c = boxes_ascend 0 c.self.inside.opened c.deref.result.now (subst (λ l. Ascend number_of 0 (box_values l) c.self.inside.opened) (sym c.deref.ensures.value) c.self.invariant.ascend)

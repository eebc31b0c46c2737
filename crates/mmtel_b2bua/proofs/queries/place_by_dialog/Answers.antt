use Rattle.std.proofs.Common.{ℕ, subst, take, ◌∙◌}
use Rattle.mmtel_b2bua.specs.Queries.{has_side, side_by_dialog}
use Rattle.mmtel_b2bua.specs.Invariant.{box_values}
use Rattle.mmtel_b2bua.specs.Marks.{marks_of}
use Rattle.mmtel_output.proofs.Marking.{place_fits, place_found}
use Rattle.mmtel_output.specs.Marks.{AreUnmarked}
use Rattle.mmtel_transaction.specs.Hashes.{hash_of}
use Rattle.mmtel_output.specs.declared.marks.Mark.TheVariants.{LocalTag}
use Rattle.mmtel_b2bua.proofs.Finding.{named_marked}
use Rattle.mmtel_b2bua.proofs.Keeping.{position_boxes}
use Rattle.mmtel_b2bua.proofs.queries.place_by_dialog.Goals as goal

pub absolute_place-requires : goal.absolute_place-requires
absolute_place-requires c =
    let n = c.args.name in
    place_fits marks_of (has_side (side_by_dialog n.call_id.now n.local.now n.remote.now)) c.args.table.now.entries c.first_place_for-start.result c.first_place_for-start.ensures.within
    (box_values c.entries_from.result.now) c.entries_from.ensures c.box_by_dialog-place.result
    (c.box_by_dialog-place.ensures ∙ position_boxes (has_side (side_by_dialog n.call_id.now n.local.now n.remote.now)) c.entries_from.result.now)

pub returns : goal.returns
returns c =
    let n = c.args.name in
    place_found marks_of (has_side (side_by_dialog n.call_id.now n.local.now n.remote.now)) c.args.table.now.entries c.first_place_for-start.result c.first_place_for-start.ensures.within
    (box_values c.entries_from.result.now) c.entries_from.ensures c.box_by_dialog-place.result
    (c.box_by_dialog-place.ensures ∙ position_boxes (has_side (side_by_dialog n.call_id.now n.local.now n.remote.now)) c.entries_from.result.now)
    (LocalTag (hash_of n.local.now)) (named_marked n.call_id.now n.local.now n.remote.now)
    (subst (λ (x : ℕ). AreUnmarked marks_of (LocalTag x) (take c.first_place_for-start.result c.args.table.now.entries)) c.hash_of.ensures c.first_place_for-start.ensures.none)
    c.absolute_place.result c.absolute_place.ensures

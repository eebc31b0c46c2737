use Rattle.std.proofs.Common.{◌∙◌}
use Rattle.mmtel_b2bua.specs.Queries.{has_side, side_by_invite_key}
use Rattle.mmtel_b2bua.specs.Invariant.{box_values}
use Rattle.mmtel_b2bua.specs.Marks.{marks_of}
use Rattle.mmtel_output.proofs.Marking.{place_fits, place_found}
use Rattle.mmtel_output.specs.declared.marks.Mark.TheVariants.{ServerTransaction}
use Rattle.mmtel_b2bua.proofs.Finding.{asked_marked}
use Rattle.mmtel_b2bua.proofs.Keeping.{position_boxes}
use Rattle.mmtel_b2bua.proofs.queries.place_by_invite_key.Goals as goal

pub absolute_place-requires : goal.absolute_place-requires
absolute_place-requires c =
    place_fits marks_of (has_side (side_by_invite_key c.args.key)) c.args.table.now.entries c.first_place_for-start.result c.first_place_for-start.ensures.within (box_values c.entries_from.result.now)
    c.entries_from.ensures c.box_by_invite_key-place.result (c.box_by_invite_key-place.ensures ∙ position_boxes (has_side (side_by_invite_key c.args.key)) c.entries_from.result.now)

pub returns : goal.returns
returns c =
    place_found marks_of (has_side (side_by_invite_key c.args.key)) c.args.table.now.entries c.first_place_for-start.result c.first_place_for-start.ensures.within (box_values c.entries_from.result.now)
    c.entries_from.ensures c.box_by_invite_key-place.result (c.box_by_invite_key-place.ensures ∙ position_boxes (has_side (side_by_invite_key c.args.key)) c.entries_from.result.now)
    (ServerTransaction c.args.key.0) (asked_marked c.args.key) c.first_place_for-start.ensures.none c.absolute_place.result c.absolute_place.ensures

use Rattle.std.proofs.Common.{ℕ, subst, take}
use Rattle.mmtel_output.proofs.Marking.{place_fits, place_found}
use Rattle.mmtel_output.specs.Marks.{AreUnmarked}
use Rattle.mmtel_transaction.specs.Hashes.{hash_of}
use Rattle.mmtel_output.specs.declared.marks.Mark.TheVariants.{LocalTag}
use Rattle.mmtel_focus.specs.Marks.{marks_of}
use Rattle.mmtel_focus.specs.Queries.{has_dialog}
use Rattle.mmtel_focus.proofs.MarksFound.{having_marked}
use Rattle.mmtel_focus.proofs.queries.conference_place_with_dialog.Goals as goal

pub absolute_place-requires : goal.absolute_place-requires
absolute_place-requires c =
    let n = c.args.name in
    place_fits marks_of (has_dialog n.call_id.now n.local.now n.remote.now) c.args.live.now.items c.first_place_for-start.result c.first_place_for-start.ensures.within c.conferences_from.result.now
    c.conferences_from.ensures
    c.place_in_with_dialog-place.result c.place_in_with_dialog-place.ensures

pub returns : goal.returns
returns c =
    let n = c.args.name in
    place_found marks_of (has_dialog n.call_id.now n.local.now n.remote.now) c.args.live.now.items c.first_place_for-start.result c.first_place_for-start.ensures.within c.conferences_from.result.now
    c.conferences_from.ensures
    c.place_in_with_dialog-place.result c.place_in_with_dialog-place.ensures (LocalTag (hash_of n.local.now)) (having_marked n.call_id.now n.local.now n.remote.now)
    (subst (λ (m : ℕ). AreUnmarked marks_of (LocalTag m) (take c.first_place_for-start.result c.args.live.now.items)) c.hash_of.ensures c.first_place_for-start.ensures.none)
    c.absolute_place.result c.absolute_place.ensures

use Rattle.std.proofs.Common.{ℕ, subst, take}
use Rattle.mmtel_output.proofs.Marking.{place_fits, place_found}
use Rattle.mmtel_output.specs.Marks.{AreUnmarked}
use Rattle.mmtel_transaction.specs.Hashes.{hash_of}
use Rattle.mmtel_output.specs.declared.marks.Mark.TheVariants.{Branch}
use Rattle.mmtel_focus.specs.Marks.{marks_of}
use Rattle.mmtel_focus.specs.Table.{conference_has_branch}
use Rattle.mmtel_focus.proofs.MarksFound.{asking_marked}
use Rattle.mmtel_focus.proofs.dispatch.conference_place_by_branch.Goals as goal

pub absolute_place-requires : goal.absolute_place-requires
absolute_place-requires c =
    place_fits marks_of (conference_has_branch c.args.branch.now) c.args.live.now.items c.first_place_for-start.result c.first_place_for-start.ensures.within c.conferences_from.result.now
    c.conferences_from.ensures c.place_by_branch-place.result c.place_by_branch-place.ensures

pub returns : goal.returns
returns c =
    place_found marks_of (conference_has_branch c.args.branch.now) c.args.live.now.items c.first_place_for-start.result c.first_place_for-start.ensures.within c.conferences_from.result.now
    c.conferences_from.ensures c.place_by_branch-place.result c.place_by_branch-place.ensures
    (Branch (hash_of c.args.branch.now)) (asking_marked c.args.branch.now)
    (subst (λ (n : ℕ). AreUnmarked marks_of (Branch n) (take c.first_place_for-start.result c.args.live.now.items)) c.hash_of.ensures c.first_place_for-start.ensures.none) c.absolute_place.result c.absolute_place.ensures

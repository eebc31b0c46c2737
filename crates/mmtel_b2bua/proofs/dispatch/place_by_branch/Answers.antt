use Rattle.std.proofs.Common.{◌≡◌, ℕ, List, None, Option, ap, position, subst, sym, take, true, ◌∙◌}
use Rattle.std.specs.Option.{option_copied}
use Rattle.mmtel_b2bua.specs.Entries.{has_sent_branch}
use Rattle.mmtel_b2bua.specs.Invariant.{box_values}
use Rattle.mmtel_b2bua.specs.Marks.{marks_of}
use Rattle.mmtel_output.proofs.Marking.{place_fits, place_found}
use Rattle.mmtel_output.specs.Marks.{AreUnmarked, Has}
use Rattle.mmtel_transaction.specs.Hashes.{hash_of}
use Rattle.mmtel_output.specs.declared.marks.Mark.TheVariants.{Branch}
use Rattle.mmtel_b2bua.proofs.Finding.{none_sent, sent_marked}
use Rattle.mmtel_b2bua.proofs.Keeping.{position_boxes}
use Rattle.mmtel_b2bua.proofs.dispatch.place_by_branch.Goals as goal

pub absolute_place-requires : goal.absolute_place-requires
absolute_place-requires c =
    place_fits marks_of (has_sent_branch (option_copied c.args.branch)) c.args.table.now.entries c.first_place_for-start.result c.first_place_for-start.ensures.within (box_values c.entries_from.result.now)
    c.entries_from.ensures c.box_by_branch-place.result (c.box_by_branch-place.ensures ∙ position_boxes (has_sent_branch (option_copied c.args.branch)) c.entries_from.result.now)

pub returns-in-Some : goal.returns-in-Some
returns-in-Some c =
    place_found marks_of (has_sent_branch (option_copied c.args.branch)) c.args.table.now.entries c.first_place_for-start.result c.first_place_for-start.ensures.within (box_values c.entries_from.result.now)
    c.entries_from.ensures c.box_by_branch-place.result (c.box_by_branch-place.ensures ∙ position_boxes (has_sent_branch (option_copied c.args.branch)) c.entries_from.result.now)
    (Branch (hash_of c.in-Some.bytes.now))
    (λ e. subst (λ (b : Option (List ℕ)). has_sent_branch b e ≡ true → Has (Branch (hash_of c.in-Some.bytes.now)) (marks_of e)) (sym (ap option_copied c.in-Some.is)) (sent_marked c.in-Some.bytes.now e))
    (subst (λ (x : ℕ). AreUnmarked marks_of (Branch x) (take c.first_place_for-start.result c.args.table.now.entries)) c.hash_of.ensures c.first_place_for-start.ensures.none)
    c.absolute_place.result c.absolute_place.ensures

pub returns-in-None : goal.returns-in-None
returns-in-None c = subst (λ (b : Option (List ℕ)). None ≡ position (has_sent_branch b) c.args.table.now.entries) (sym (ap option_copied c.in-None.is)) (none_sent c.args.table.now.entries)

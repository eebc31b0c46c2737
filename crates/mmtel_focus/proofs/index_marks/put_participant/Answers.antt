use Rattle.std.proofs.Common.{◌∷◌, [], ℕ, ap, subst, ◌∙◌, List}
use Rattle.mmtel_output.proofs.Marking.{joined}
use Rattle.mmtel_output.specs.Marks.{MarkUpdate}
use Rattle.mmtel_transaction.specs.Hashes.{hash_of}
use Rattle.mmtel_output.specs.declared.marks.Mark.TheVariants.{LocalTag}
use Rattle.mmtel_focus.specs.Marks.{sent_invite_marks}
use Rattle.mmtel_focus.specs.Participants.{tag_of}
use Rattle.mmtel_focus.proofs.index_marks.put_participant.Goals as goal

pub returns : goal.returns
returns c =
    let s = c.args.stays in
    let n = c.args.room in
    let named = subst (λ (m : ℕ). MarkUpdate s n (LocalTag m ∷ []) c.args.index.now c.put.new.self) (c.hash_of.ensures ∙ ap (λ (l : List ℕ). hash_of l) c.tag.ensures.tag) c.put.ensures in
    joined s n (LocalTag (hash_of (tag_of c.args.participant.now)) ∷ []) (sent_invite_marks c.args.participant.now.invite) c.args.index.now c.put.new.self c.put_invite.new.index named c.put_invite.ensures

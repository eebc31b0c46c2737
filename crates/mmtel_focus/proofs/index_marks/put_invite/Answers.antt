use Rattle.std.proofs.Common.{◌∷◌, [], ℕ, Option, ap, subst, sym, ◌∙◌, List}
use Rattle.mmtel_output.proofs.Marking.{none_written}
use Rattle.mmtel_output.specs.Marks.{MarkUpdate}
use Rattle.mmtel_transaction.specs.Hashes.{hash_of}
use Rattle.mmtel_output.specs.declared.marks.Mark.TheVariants.{Branch}
use Rattle.mmtel_focus.specs.Marks.{sent_invite_marks}
use Rattle.mmtel_focus.specs.Conferences.{Invite}
use Rattle.mmtel_focus.proofs.index_marks.put_invite.Goals as goal

pub returns-in-None : goal.returns-in-None
returns-in-None c =
    subst (λ (o : Option Invite). MarkUpdate c.args.stays c.args.room (sent_invite_marks o) c.args.index.now c.args.index.now) (sym c.in-None.is) (none_written c.args.stays c.args.room c.args.index.now)

pub returns-in-Some : goal.returns-in-Some
returns-in-Some c =
    subst (λ (o : Option Invite). MarkUpdate c.args.stays c.args.room (sent_invite_marks o) c.args.index.now c.put.new.self) (sym c.in-Some.is)
    (subst (λ (n : ℕ). MarkUpdate c.args.stays c.args.room (Branch n ∷ []) c.args.index.now c.put.new.self) (c.hash_of.ensures ∙ ap (λ (l : List ℕ). hash_of l) c.branch_of.ensures) c.put.ensures)

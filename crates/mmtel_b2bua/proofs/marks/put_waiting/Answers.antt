use Rattle.std.proofs.Common.{ℕ, Option, [], ◌∷◌, subst, List, ap, ◌∙◌}
use Rattle.mmtel_output.specs.declared.sent_invites.SentInvite.{SentInvite}
use Rattle.mmtel_b2bua.specs.Marks.{waiting_marks}
use Rattle.mmtel_output.specs.Marks.{MarkUpdate}
use Rattle.mmtel_transaction.specs.Hashes.{hash_of}
use Rattle.mmtel_output.specs.declared.marks.Mark.TheVariants.{Branch}
use Rattle.mmtel_output.proofs.Marking.{none_written}
use Rattle.mmtel_b2bua.proofs.marks.put_waiting.Goals as goal

pub returns-in-None : goal.returns-in-None
returns-in-None c =
    subst (λ (o : Option SentInvite). MarkUpdate c.args.stays c.args.call.0 (waiting_marks o) c.args.index.now c.args.index.now) c.in-None.ensures (none_written c.args.stays c.args.call.0 c.args.index.now)

pub returns-in-Some : goal.returns-in-Some
returns-in-Some c =
    subst (λ (o : Option SentInvite). MarkUpdate c.args.stays c.args.call.0 (waiting_marks o) c.args.index.now c.put.new.self) c.in-Some.ensures
    (subst (λ (n : ℕ). MarkUpdate c.args.stays c.args.call.0 (Branch n ∷ []) c.args.index.now c.put.new.self) (c.hash_of.ensures ∙ ap (λ (l : List ℕ). hash_of l) c.bytes.ensures) c.put.ensures)

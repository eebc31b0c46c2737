use Rattle.std.proofs.Common.{ℕ, [], ◌∷◌, subst, List, ap, ◌∙◌}
use Rattle.mmtel_b2bua.specs.Marks.{client_key_marks}
use Rattle.mmtel_output.specs.Marks.{MarkUpdate}
use Rattle.mmtel_transaction.specs.Hashes.{hash_of}
use Rattle.mmtel_output.specs.declared.marks.Mark.TheVariants.{Branch}
use Rattle.mmtel_output.proofs.Marking.{joined}
use Rattle.mmtel_b2bua.proofs.marks.put_sent_invite.Goals as goal

pub returns : goal.returns
returns c =
    let i = c.args.sent_invite.now in
    let first = subst (λ (n : ℕ). MarkUpdate c.args.stays c.args.call.0 (Branch n ∷ []) c.args.index.now c.put.new.self) (c.hash_of.ensures ∙ ap (λ (l : List ℕ). hash_of l) c.bytes.ensures) c.put.ensures in
    joined c.args.stays c.args.call.0 (Branch (hash_of i.branch) ∷ []) (client_key_marks i.key) c.args.index.now c.put.new.self c.put_client_key.new.index first c.put_client_key.ensures

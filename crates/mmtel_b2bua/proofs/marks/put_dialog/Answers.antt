use Rattle.std.proofs.Common.{ℕ, [], ◌∷◌, subst, List, ap, ◌∙◌}
use Rattle.mmtel_output.specs.Marks.{MarkUpdate}
use Rattle.mmtel_transaction.specs.Hashes.{hash_of}
use Rattle.mmtel_output.specs.declared.marks.Mark.TheVariants.{LocalTag}
use Rattle.mmtel_b2bua.proofs.marks.put_dialog.Goals as goal

pub returns : goal.returns
returns c = subst (λ (n : ℕ). MarkUpdate c.args.stays c.args.call.0 (LocalTag n ∷ []) c.args.index.now c.put.new.self) (c.hash_of.ensures ∙ ap (λ (l : List ℕ). hash_of l) c.bytes.ensures) c.put.ensures

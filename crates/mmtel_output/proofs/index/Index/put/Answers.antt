use Rattle.std.proofs.Common.{Bool, [], ◌∷◌, subst, sym}
use Rattle.mmtel_output.specs.Marks.{MarkUpdate}
use Rattle.mmtel_output.proofs.index.Index.put.Goals as goal

pub returns-then-stays : goal.returns-then-stays
returns-then-stays c = subst (λ (b : Bool). MarkUpdate b c.args.owner (c.args.mark ∷ []) c.args.self.now c.insert_mark.new.self) (sym c.if-stays.true) c.insert_mark.ensures

pub returns-else-stays : goal.returns-else-stays
returns-else-stays c = subst (λ (b : Bool). MarkUpdate b c.args.owner (c.args.mark ∷ []) c.args.self.now c.remove_mark.new.self) (sym c.if-stays.false) c.remove_mark.ensures

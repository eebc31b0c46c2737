use Rattle.std.proofs.Common.{false, refl, subst, ap, ◌∙◌, ◌++◌, ◌∷◌, []}
use Rattle.std.specs.BTreeSet.{UpdatesBy}
use Rattle.mmtel_output.specs.Marks.{key_cmp, key_of}
use Rattle.mmtel_output.specs.declared.index.Index.{Index}
use Rattle.mmtel_output.specs.declared.marks.Key.{Key}
use Rattle.mmtel_output.proofs.Marking.{goes_on, put_out}
use Rattle.mmtel_output.proofs.index.Index.remove_mark.Goals as goal

pub returns-in-Ok : goal.returns-in-Ok
returns-in-Ok c =
    let mid = c.remove_others.new.self in
    let new : Index = record { keys = mid.keys; pending_removals = c.push.new.self; is_complete = mid.is_complete } in
    goes_on c.args.mark c.args.owner c.args.self.now new mid c.remove_others.ensures refl refl
    (c.in-Ok.ensures.items ∙ ap (λ (k : Key). mid.pending_removals.items ++ k ∷ []) c.of-key.ensures)

pub returns-in-Err : goal.returns-in-Err
returns-in-Err c =
    let mid = c.remove_others.new.self in
    let new : Index = record { keys = c.remove.new.self; pending_removals = c.push.new.self; is_complete = mid.is_complete } in
    let u : UpdatesBy key_cmp (key_cmp (key_of c.args.mark c.args.owner)) mid.keys c.remove.new.self false =
    subst (λ (k : Key). UpdatesBy key_cmp (key_cmp k) mid.keys c.remove.new.self false) c.of-key.ensures c.remove.ensures.updates in
    put_out c.args.mark c.args.owner c.args.self.now new mid c.remove_others.ensures refl u.2 c.in-Err.ensures.items

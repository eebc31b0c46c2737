use Rattle.std.proofs.Common.{◌≡◌, refl, true, subst}
use Rattle.std.specs.BTreeSet.{Updates}
use Rattle.mmtel_output.specs.Marks.{key_cmp, key_of}
use Rattle.mmtel_output.specs.declared.index.Index.{Index}
use Rattle.mmtel_output.specs.declared.marks.Key.{Key}
use Rattle.mmtel_output.proofs.Marking.{broken, kept_of, put_in}
use Rattle.mmtel_output.proofs.index.Index.insert_mark.Goals as goal

pub returns-in-Ok : goal.returns-in-Ok
returns-in-Ok c =
    let old = c.args.self.now in
    let new : Index = record { keys = c.insert.new.self; pending_removals = c.keep_key.new.pending; is_complete = old.is_complete } in
    let u : Updates key_cmp old.keys c.insert.new.self (key_of c.args.mark c.args.owner) true =
    subst (λ (k : Key). Updates key_cmp old.keys c.insert.new.self k true) c.of-key.ensures c.in-Ok.ensures.updates in
    let stays : c.keep_key.new.pending.items ≡ kept_of (key_of c.args.mark c.args.owner) old.pending_removals.items =
    subst (λ (k : Key). c.keep_key.new.pending.items ≡ kept_of k old.pending_removals.items) c.of-key.ensures c.keep_key.ensures in
    put_in c.args.mark c.args.owner old new true refl u.0 u.1 stays

pub returns-in-Err : goal.returns-in-Err
returns-in-Err c = broken c.args.mark c.args.owner c.args.self.now _ true refl

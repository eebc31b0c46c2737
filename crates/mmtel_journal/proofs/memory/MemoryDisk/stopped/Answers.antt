use Rattle.std.proofs.Common.{◌≡◌, ◌∙◌, List, ℕ, ap, sym, subst, take}
use Rattle.mmtel_journal.specs.Images.{contents_are_an_image}
use Rattle.mmtel_journal.specs.Memory.{bytes_after_ops, crash_image_of}
use Rattle.mmtel_journal.specs.declared.memory.DiskOp.{DiskOp}
use Rattle.mmtel_journal.proofs.memory.MemoryDisk.stopped.Goals as goal

pub returns-clause-image : goal.returns-clause-image
returns-clause-image c =
    let first : List ℕ = c.args.self.now.first.items in
    let calls : List DiskOp = take c.args.calls c.args.self.now.calls.items in
    let is : c.in_ok-first.first.items ≡ bytes_after_ops first calls =
    c.in_ok-first.ensures.shown ∙ ap (λ (f : List ℕ). bytes_after_ops f (take c.args.calls c.deref.result.now)) c.as_slice.ensures.value
    ∙ ap (λ (l : List DiskOp). bytes_after_ops first (take c.args.calls l)) c.deref.ensures.value in
    subst (crash_image_of first calls) (sym is) (contents_are_an_image first calls)

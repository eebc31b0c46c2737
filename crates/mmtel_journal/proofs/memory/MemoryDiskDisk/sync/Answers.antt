use Rattle.std.proofs.Common.{ℕ, List, [], ◌∷◌, ◌++◌, ap, sym, subst, ◌∙◌}
use Rattle.mmtel_journal.specs.Memory.{bytes_after_ops, crash_image_of}
use Rattle.mmtel_journal.specs.Images.{contents_are_an_image}
use Rattle.mmtel_journal.specs.declared.memory.DiskOp.{DiskOp}
use Rattle.mmtel_journal.specs.declared.memory.DiskOp.TheVariants.{Synced, Unchanged}
use Rattle.mmtel_journal.proofs.Crashes.{only_synced, missed, bytes_after_sync, elapses_keep, elapses_more}
use Rattle.mmtel_journal.proofs.memory.MemoryDiskDisk.sync.Goals as goal

pub returns-in_err-reserve-clause-stop : goal.returns-in_err-reserve-clause-stop
returns-in_err-reserve-clause-stop c = λ h d left. subst (λ (l : List DiskOp). crash_image_of c.args.self.now.first.items l d) c.reserve.ensures.items left

pub returns-in_err-reserve-clause-time : goal.returns-in_err-reserve-clause-time
returns-in_err-reserve-clause-time c = λ h. elapses_keep c.args.self.now.first.items c.args.self.now.calls.items c.reserve.new.self.items c.reserve.ensures.items

pub returns-then-fails-clause-stop : goal.returns-then-fails-clause-stop
returns-then-fails-clause-stop c =
    λ h d left. let more = c.push_reserved.ensures.items ∙ ap (λ (l : List DiskOp). l ++ Unchanged ∷ []) c.reserve.ensures.items in
    missed c.args.self.now.first.items c.args.self.now.calls.items c.push_reserved.new.self.items d more left

pub returns-then-fails-clause-time : goal.returns-then-fails-clause-time
returns-then-fails-clause-time c =
    λ h. let more = c.push_reserved.ensures.items ∙ ap (λ (l : List DiskOp). l ++ Unchanged ∷ []) c.reserve.ensures.items in
    elapses_more c.args.self.now.first.items c.args.self.now.calls.items c.push_reserved.new.self.items Unchanged more

pub returns-clause-shown : goal.returns-clause-shown
returns-clause-shown c =
    λ h. let more = c.push_reserved-2.ensures.items ∙ ap (λ (l : List DiskOp). l ++ Synced ∷ []) c.reserve.ensures.items in
    ap (bytes_after_ops c.args.self.now.first.items) more ∙ bytes_after_sync c.args.self.now.calls.items c.args.self.now.first.items

pub returns-clause-durable : goal.returns-clause-durable
returns-clause-durable c =
    λ h. let more = c.push_reserved-2.ensures.items ∙ ap (λ (l : List DiskOp). l ++ Synced ∷ []) c.reserve.ensures.items in
    only_synced c.args.self.now.first.items c.args.self.now.calls.items c.push_reserved-2.new.self.items more

pub returns-clause-stop : goal.returns-clause-stop
returns-clause-stop c = λ h d left. let more = c.push_reserved-2.ensures.items ∙ ap (λ (l : List DiskOp). l ++ Synced ∷ []) c.reserve.ensures.items in
    subst (λ (b : List ℕ). crash_image_of c.args.self.now.first.items c.args.self.now.calls.items b)
    (sym (only_synced c.args.self.now.first.items c.args.self.now.calls.items c.push_reserved-2.new.self.items more d left))
    (contents_are_an_image c.args.self.now.first.items c.args.self.now.calls.items)

pub returns-clause-time : goal.returns-clause-time
returns-clause-time c =
    λ h. let more = c.push_reserved-2.ensures.items ∙ ap (λ (l : List DiskOp). l ++ Synced ∷ []) c.reserve.ensures.items in
    elapses_more c.args.self.now.first.items c.args.self.now.calls.items c.push_reserved-2.new.self.items Synced more

use Rattle.std.proofs.Common.{List, [], ◌∷◌, ◌++◌, ◌∙◌, ap}
use Rattle.mmtel_journal.specs.declared.memory.DiskOp.{DiskOp}
use Rattle.mmtel_journal.specs.declared.memory.DiskOp.TheVariants.{Unchanged}
use Rattle.mmtel_journal.proofs.Crashes.{kept_leaves, unchanged_leaves, kept_elapses, unchanged_elapses, same_calls_same_bytes, unchanged_same_bytes}
use Rattle.mmtel_journal.proofs.memory.MemoryDiskDisk.read.Goals as goal

pub returns-in_err-bytes-clause-shown : goal.returns-in_err-bytes-clause-shown
returns-in_err-bytes-clause-shown c = λ h. same_calls_same_bytes c.args.self.now.first.items _ c.args.self.now.calls.items _ (ap (λ v. v.items) c.contents.ensures.first) c.contents.ensures.calls

pub returns-in_err-bytes-clause-stop : goal.returns-in_err-bytes-clause-stop
returns-in_err-bytes-clause-stop c = λ h. kept_leaves c.args.self.now.first.items _ c.args.self.now.calls.items _ (ap (λ v. v.items) c.contents.ensures.first) c.contents.ensures.calls

pub returns-in_err-bytes-clause-time : goal.returns-in_err-bytes-clause-time
returns-in_err-bytes-clause-time c = λ h. kept_elapses c.args.self.now.first.items _ c.args.self.now.calls.items _ (ap (λ v. v.items) c.contents.ensures.first) c.contents.ensures.calls

pub returns-then-fails-clause-shown : goal.returns-then-fails-clause-shown
returns-then-fails-clause-shown c = λ h.
    unchanged_same_bytes c.args.self.now.first.items _ c.args.self.now.calls.items _ (ap (λ v. v.items) c.contents.ensures.first)
    (c.push_reserved.ensures.items ∙ ap (λ (l : List DiskOp). l ++ Unchanged ∷ []) c.contents.ensures.calls)

pub returns-then-fails-clause-stop : goal.returns-then-fails-clause-stop
returns-then-fails-clause-stop c = λ h.
    unchanged_leaves c.args.self.now.first.items _ c.args.self.now.calls.items _ (ap (λ v. v.items) c.contents.ensures.first)
    (c.push_reserved.ensures.items ∙ ap (λ (l : List DiskOp). l ++ Unchanged ∷ []) c.contents.ensures.calls)

pub returns-then-fails-clause-time : goal.returns-then-fails-clause-time
returns-then-fails-clause-time c = λ h.
    unchanged_elapses c.args.self.now.first.items _ c.args.self.now.calls.items _ (ap (λ v. v.items) c.contents.ensures.first)
    (c.push_reserved.ensures.items ∙ ap (λ (l : List DiskOp). l ++ Unchanged ∷ []) c.contents.ensures.calls)

pub returns-clause-shown : goal.returns-clause-shown
returns-clause-shown c = λ h.
    unchanged_same_bytes c.args.self.now.first.items _ c.args.self.now.calls.items _ (ap (λ v. v.items) c.contents.ensures.first)
    (c.push_reserved.ensures.items ∙ ap (λ (l : List DiskOp). l ++ Unchanged ∷ []) c.contents.ensures.calls)

pub returns-clause-stop : goal.returns-clause-stop
returns-clause-stop c = λ h.
    unchanged_leaves c.args.self.now.first.items _ c.args.self.now.calls.items _ (ap (λ v. v.items) c.contents.ensures.first)
    (c.push_reserved.ensures.items ∙ ap (λ (l : List DiskOp). l ++ Unchanged ∷ []) c.contents.ensures.calls)

pub returns-clause-time : goal.returns-clause-time
returns-clause-time c = λ h.
    unchanged_elapses c.args.self.now.first.items _ c.args.self.now.calls.items _ (ap (λ v. v.items) c.contents.ensures.first)
    (c.push_reserved.ensures.items ∙ ap (λ (l : List DiskOp). l ++ Unchanged ∷ []) c.contents.ensures.calls)

use Rattle.std.proofs.Common.{List, [], ◌∷◌, ◌++◌, length, ap, ◌∙◌}
use Rattle.mmtel_journal.specs.Memory.{with_write, bytes_after_ops}
use Rattle.mmtel_journal.specs.declared.memory.DiskOp.{DiskOp}
use Rattle.mmtel_journal.specs.declared.memory.DiskOp.TheVariants.{Wrote, Tore}
use Rattle.mmtel_journal.proofs.Crashes.{follow_write, follow_tore, follow_same, follow_keep, bytes_after_write, elapses_same, elapses_keep, elapses_more}
use Rattle.mmtel_journal.proofs.memory.MemoryDiskDisk.write_at.Goals as goal

pub returns-in_err-bytes-clause-stop : goal.returns-in_err-bytes-clause-stop
returns-in_err-bytes-clause-stop c = λ h. follow_same c.args.self.now.first.items c.args.self.now.calls.items c.args.at (length c.args.bytes.now)

pub returns-in_err-bytes-clause-time : goal.returns-in_err-bytes-clause-time
returns-in_err-bytes-clause-time c = λ h. elapses_same c.args.self.now.first.items c.args.self.now.calls.items

pub returns-in_err-reserve-clause-stop : goal.returns-in_err-reserve-clause-stop
returns-in_err-reserve-clause-stop c =
    λ h. follow_keep c.args.self.now.first.items c.args.self.now.calls.items c.reserve.new.self.items c.args.at (length c.args.bytes.now) c.reserve.ensures.items

pub returns-in_err-reserve-clause-time : goal.returns-in_err-reserve-clause-time
returns-in_err-reserve-clause-time c = λ h. elapses_keep c.args.self.now.first.items c.args.self.now.calls.items c.reserve.new.self.items c.reserve.ensures.items

pub returns-then-fails-clause-stop : goal.returns-then-fails-clause-stop
returns-then-fails-clause-stop c =
    λ h. let more = c.push_reserved.ensures.items ∙ ap (λ (l : List DiskOp). l ++ Tore c.args.at c.in_ok-bytes.bytes ∷ []) c.reserve.ensures.items in
    follow_tore c.args.self.now.first.items c.args.self.now.calls.items c.push_reserved.new.self.items c.args.at c.in_ok-bytes.bytes c.args.bytes.now c.in_ok-bytes.ensures.items
    more

pub returns-then-fails-clause-time : goal.returns-then-fails-clause-time
returns-then-fails-clause-time c =
    λ h. let more = c.push_reserved.ensures.items ∙ ap (λ (l : List DiskOp). l ++ Tore c.args.at c.in_ok-bytes.bytes ∷ []) c.reserve.ensures.items in
    elapses_more c.args.self.now.first.items c.args.self.now.calls.items c.push_reserved.new.self.items (Tore c.args.at c.in_ok-bytes.bytes) more

pub returns-clause-written : goal.returns-clause-written
returns-clause-written c =
    λ h le. let more = c.push_reserved-2.ensures.items ∙ ap (λ (l : List DiskOp). l ++ Wrote c.args.at c.in_ok-bytes.bytes ∷ []) c.reserve.ensures.items in
    ap (bytes_after_ops c.args.self.now.first.items) more ∙ bytes_after_write c.args.self.now.calls.items c.args.self.now.first.items c.args.at c.in_ok-bytes.bytes
    ∙ ap (with_write (bytes_after_ops c.args.self.now.first.items c.args.self.now.calls.items) c.args.at) c.in_ok-bytes.ensures.items

pub returns-clause-stop : goal.returns-clause-stop
returns-clause-stop c =
    λ h. let more = c.push_reserved-2.ensures.items ∙ ap (λ (l : List DiskOp). l ++ Wrote c.args.at c.in_ok-bytes.bytes ∷ []) c.reserve.ensures.items in
    follow_write c.args.self.now.first.items c.args.self.now.calls.items c.push_reserved-2.new.self.items c.args.at c.in_ok-bytes.bytes c.args.bytes.now
    c.in_ok-bytes.ensures.items more

pub returns-clause-time : goal.returns-clause-time
returns-clause-time c =
    λ h. let more = c.push_reserved-2.ensures.items ∙ ap (λ (l : List DiskOp). l ++ Wrote c.args.at c.in_ok-bytes.bytes ∷ []) c.reserve.ensures.items in
    elapses_more c.args.self.now.first.items c.args.self.now.calls.items c.push_reserved-2.new.self.items (Wrote c.args.at c.in_ok-bytes.bytes) more

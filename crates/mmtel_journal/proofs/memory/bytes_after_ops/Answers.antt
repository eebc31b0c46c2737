use Rattle.mmtel_journal.proofs.Crashes.{replay_more}
use Rattle.mmtel_journal.proofs.memory.bytes_after_ops.Goals as goal

pub loop-done-preserved : goal.loop-done-preserved
loop-done-preserved c =
    replay_more c.args.first.now c.args.calls.now c.loop-done.done-index c.done-item.result c.loop-done.bytes.items _ c.loop-done-test.true c.done-item.is c.loop-done.invariant
    c.in_ok-bytes-2.ensures.shown

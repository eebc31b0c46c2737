use Rattle.mmtel_history.proofs.Marks.{set_marks}
use Rattle.mmtel_history.proofs.histories.hide_if.Goals as goal

pub returns-then-hide : goal.returns-then-hide
returns-then-hide c = rw c.if-hide.true (set_marks c.args.entries.now.items c.args.index c.index_mut.result.now c.requires c.index_mut.ensures.value)

use Rattle.std.proofs.Common.{◌≡◌, ◌∙◌, ap, List, length, arith}
use Rattle.std.proofs.lemmas.Grind.{common_steps}
use Rattle.mmtel_history.specs.declared.entries.Entry.{Entry}
use Rattle.mmtel_history.proofs.Marks.{length-hidden}
use Rattle.mmtel_history.proofs.histories.hide_for_caller.Goals as goal

pub hide_if-requires-2 : goal.hide_if-requires-2
hide_if-requires-2 c =
    let same : length c.hide_if.new.entries.items ≡ length c.args.entries.now.items =
    ap (λ (h : List Entry). length h) c.hide_if.ensures ∙ length-hidden c.args.hide_diverting c.saturating_sub.result c.args.entries.now.items in
    grind (arith, common_steps, same)

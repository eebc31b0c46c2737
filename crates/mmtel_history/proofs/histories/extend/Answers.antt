use Rattle.std.proofs.Common.{◌∙◌, sym, ◌<◌, length, arith}
use Rattle.std.proofs.lemmas.Grind.{common_steps}
use Rattle.mmtel_history.proofs.Marks.{started_is, on_ok_by}
use Rattle.mmtel_history.proofs.histories.extend.Goals as goal

pub returns-else-is_empty-clause-ok : goal.returns-else-is_empty-clause-ok
returns-else-is_empty-clause-ok c =
    let filled : 0 < length c.args.entries.now.items = grind (arith, common_steps) in
    on_ok_by c.add_target.result c.add_target.ensures.ok
    (λ added. added ∙ sym (started_is c.args.entries.now.items c.args.from.now c.args.target.now c.args.cause c.args.hide_last filled))

use Rattle.std.proofs.Common.{◌≡◌, ◌∙◌, ap, List, [], ◌∷◌, ◌++◌}
use Rattle.std.specs.Prelude.{codes}
use Rattle.mmtel_history.specs.HistoryInfo.{entry_with, with_target, list_after_diversion}
use Rattle.mmtel_history.specs.declared.entries.Entry.{Entry}
use Rattle.mmtel_history.proofs.histories.add_first.Goals as goal

pub returns-in-Ok-clause-ok : goal.returns-in-Ok-clause-ok
unfolding list_after_diversion
returns-in-Ok-clause-ok c =
    let before : c.push.new.self.items ≡ entry_with c.args.from.now (codes "1") [] ∷ [] =
    c.in_ok-push.ensures.items ∙ ap (λ (h : List Entry). h ++ c.in_ok-first_entry.field-0 ∷ []) c.requires ∙ ap (λ (e : Entry). e ∷ []) c.in_ok-first_entry.ensures in
    c.in-Ok.ensures.ok ∙ ap (λ (h : List Entry). with_target h c.args.target.now c.args.cause c.args.hide_last) before

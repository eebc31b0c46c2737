use Rattle.std.proofs.Common.{◌≡◌, ◌∙◌, ap, ◌-◌, List, ℕ, length, arith}
use Rattle.std.proofs.lemmas.Grind.{common_steps}
use Rattle.mmtel_history.specs.HistoryInfo.{last_index, list_hidden_if, target_entry, with_target}
use Rattle.mmtel_history.specs.declared.entries.Entry.{Entry}
use Rattle.mmtel_history.proofs.Marks.{target_added, length-with_target}
use Rattle.mmtel_history.proofs.histories.add_target.Goals as goal
use Rattle.mmtel_history.proofs.histories.add_target.Goals.{After-hide_if}

added : (c : After-hide_if) → c.hide_if.new.entries.items ≡ with_target c.args.entries.now.items c.args.target.now c.args.cause c.args.hide_last
added c =
    let place : c.len-last.result - 1 ≡ length c.args.entries.now.items - 1 = grind (arith, common_steps) in
    let index : c.last_index.result.now ≡ last_index c.args.entries.now.items = c.last_index.ensures ∙ ap (λ (h : List Entry). last_index h) c.as_slice.ensures.value in
    let entry : c.in_ok-entry.entry ≡ target_entry (last_index c.args.entries.now.items) c.args.target.now c.args.cause =
    c.in_ok-entry.ensures ∙ ap (λ (i : List ℕ). target_entry i c.args.target.now c.args.cause) index in
    c.hide_if.ensures ∙ ap (λ (h : List Entry). list_hidden_if c.args.hide_last (c.len-last.result - 1) h) c.in_ok-push.ensures.items
    ∙ target_added c.args.hide_last c.args.entries.now.items (c.len-last.result - 1) c.in_ok-entry.entry _ place c.requires entry

pub returns-clause-ok : goal.returns-clause-ok
returns-clause-ok c = added c

pub returns-clause-grows : goal.returns-clause-grows
returns-clause-grows c =
    omega (arith, ap (λ (h : List Entry). length h) (added c), length-with_target c.args.entries.now.items c.args.target.now c.args.cause c.args.hide_last)

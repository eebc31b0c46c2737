use Rattle.std.proofs.Common.{◌≡◌, Some, None, sym, ◌∙◌, subst}
use Rattle.std.specs.List.{position}
use Rattle.std.specs.Box.{with_value}
use Rattle.mmtel_timers.specs.Shelves.{Has, IsIndex, unboxed_items}
use Rattle.mmtel_transaction.specs.Results.{is_of}
use Rattle.mmtel_transaction.specs.Changes.{after_ack_2xx}
use Rattle.mmtel_transaction.specs.Indexes.{Moves, deadline_cmp, deadline_key, indexed_deadline}
use Rattle.mmtel_transaction.proofs.Changing.{not_hit}
use Rattle.mmtel_transaction.proofs.Lists.{keeps_acked_2xx}
use Rattle.mmtel_transaction.proofs.Placing.{box_at, set_unboxed}
use Rattle.mmtel_transaction.proofs.Settled.{due_moved, waits_there, was_set}
use Rattle.mmtel_transaction.proofs.tables.ack_key.Goals as goal

pub rearm-requires-clause-there : goal.rearm-requires-clause-there
rearm-requires-clause-there g c =
    let k = c.args.key in
    let f = after_ack_2xx c.args.step c.args.head.now in
    let items = c.args.entries.now.items in
    let es = unboxed_items items in
    let at : position (is_of k) es ≡ Some c.in-Ok.place = c.in-Ok.ensures.found in
    let is = box_at k items c.in-Ok.place c.index_mut.result.now c.deref_mut-entry.result.now at c.index_mut.ensures.value c.deref_mut-entry.ensures.value in
    subst (λ w. Has w c.args.due.now) (sym c.deadline_key_of-before.ensures)
    (waits_there k f (keeps_acked_2xx c.args.step c.args.head.now) es c.args.due.now c.requires.rises c.requires.due c.in-Ok.place at c.deref_mut-entry.result.now is)

pub returns-in-Ok-clause-entries : goal.returns-in-Ok-clause-entries
returns-in-Ok-clause-entries g c =
    let k = c.args.key in
    let f = after_ack_2xx c.args.step c.args.head.now in
    let items = c.args.entries.now.items in
    let es = unboxed_items items in
    let at : position (is_of k) es ≡ Some c.in-Ok.place = c.in-Ok.ensures.found in
    let is = box_at k items c.in-Ok.place c.index_mut.result.now c.deref_mut-entry.result.now at c.index_mut.ensures.value c.deref_mut-entry.ensures.value in
    set_unboxed items c.in-Ok.place (with_value c.index_mut.result.now c.ack_2xx_entry.new.entry)
    ∙ was_set k f (keeps_acked_2xx c.args.step c.args.head.now) es c.args.due.now c.requires.rises c.requires.due c.in-Ok.place at c.deref_mut-entry.result.now is c.ack_2xx_entry.new.entry c.ack_2xx_entry.ensures

pub returns-in-Ok-clause-due : goal.returns-in-Ok-clause-due
returns-in-Ok-clause-due g c =
    let k = c.args.key in
    let f = after_ack_2xx c.args.step c.args.head.now in
    let items = c.args.entries.now.items in
    let es = unboxed_items items in
    let at : position (is_of k) es ≡ Some c.in-Ok.place = c.in-Ok.ensures.found in
    let is = box_at k items c.in-Ok.place c.index_mut.result.now c.deref_mut-entry.result.now at c.index_mut.ensures.value c.deref_mut-entry.ensures.value in
    let x = c.ack_2xx_entry.new.entry in
    let m = subst (λ w. Moves deadline_cmp w (deadline_key x) c.args.due.now c.rearm.new.due) c.deadline_key_of-before.ensures
    (subst (λ w. Moves deadline_cmp c.deadline_key_of-before.result w c.args.due.now c.rearm.new.due) c.deadline_key_of-after.ensures c.rearm.ensures.moved) in
    let set = set_unboxed items c.in-Ok.place (with_value c.index_mut.result.now x)
    ∙ was_set k f (keeps_acked_2xx c.args.step c.args.head.now) es c.args.due.now c.requires.rises c.requires.due c.in-Ok.place at c.deref_mut-entry.result.now is x c.ack_2xx_entry.ensures in
    subst (λ xs. IsIndex indexed_deadline deadline_cmp xs c.rearm.new.due) (sym set)
    (due_moved k f (keeps_acked_2xx c.args.step c.args.head.now) es c.args.due.now c.requires.rises c.requires.due c.in-Ok.place at c.deref_mut-entry.result.now is x c.rearm.new.due c.ack_2xx_entry.ensures m)

pub returns-in_default-clause-entries : goal.returns-in_default-clause-entries
returns-in_default-clause-entries g c =
    let k = c.args.key in
    let none : position (is_of k) (unboxed_items c.args.entries.now.items) ≡ None = c.in_default.ensures.absent in
    sym (not_hit k (after_ack_2xx c.args.step c.args.head.now) (unboxed_items c.args.entries.now.items) none)

pub returns-in_default-clause-due : goal.returns-in_default-clause-due
returns-in_default-clause-due g c = c.requires.due

use Rattle.std.proofs.Common.{◌≡◌, Some, None, sym, ap, ◌∙◌, subst}
use Rattle.std.specs.List.{position}
use Rattle.std.specs.Box.{with_value}
use Rattle.mmtel_timers.specs.Shelves.{Has, unboxed_items}
use Rattle.mmtel_transaction.specs.Results.{is_of}
use Rattle.mmtel_transaction.specs.Table.{change_effect, table_after_change}
use Rattle.mmtel_transaction.specs.Indexes.{AreTables, Moves, Removes, deadline_cmp, deadline_key}
use Rattle.mmtel_transaction.proofs.Lists.{keeps_made}
use Rattle.mmtel_transaction.proofs.Places.{absent}
use Rattle.mmtel_transaction.proofs.Placing.{box_at, removed_boxed, set_unboxed}
use Rattle.mmtel_transaction.proofs.Settled.{call_there, changed_client, changed_live, changed_server, client_there, server_there, waits_there}
use Rattle.mmtel_transaction.proofs.tables.Tables.change.Goals as goal

pub rearm-requires-clause-there : goal.rearm-requires-clause-there
rearm-requires-clause-there g c =
    let k = c.args.key in
    let f = change_effect c.args.change in
    let es = unboxed_items c.self.inside.entries.items in
    let at : position (is_of k) es ≡ Some c.in-Ok.place = c.in-Ok.ensures.found in
    subst (λ w. Has w c.self.inside.due) (sym c.deadline_key_of-before.ensures) (waits_there k f (keeps_made c.args.change) es c.self.inside.due c.self.invariant.rises c.self.invariant.due c.in-Ok.place at
    c.deref_mut-entry.result.now (box_at k c.self.inside.entries.items c.in-Ok.place c.index_mut.result.now c.deref_mut-entry.result.now at c.index_mut.ensures.value c.deref_mut-entry.ensures.value))

pub invariant_of-self : goal.invariant_of-self
invariant_of-self g c =
    let k = c.args.key in
    let f = change_effect c.args.change in
    let es = unboxed_items c.self.inside.entries.items in
    let at : position (is_of k) es ≡ Some c.in-Ok.place = c.in-Ok.ensures.found in
    let m = subst (λ w. Moves deadline_cmp w (deadline_key c.change_entry.new.entry) c.self.inside.due c.rearm.new.due) c.deadline_key_of-before.ensures
    (subst (λ w. Moves deadline_cmp c.deadline_key_of-before.result w c.self.inside.due c.rearm.new.due) c.deadline_key_of-after.ensures c.rearm.ensures.moved) in
    let done = changed_live k f (keeps_made c.args.change) es c.self.inside.servers c.self.inside.clients c.self.inside.calls c.self.inside.due c.self.invariant c.in-Ok.place at
    c.deref_mut-entry.result.now (box_at k c.self.inside.entries.items c.in-Ok.place c.index_mut.result.now c.deref_mut-entry.result.now at c.index_mut.ensures.value c.deref_mut-entry.ensures.value)
    c.change_entry.new.entry c.rearm.new.due c.change_entry.ensures c.if-not-entry.true m in
    subst (λ xs. AreTables xs c.self.inside.servers c.self.inside.clients c.self.inside.calls c.rearm.new.due)
    (sym (set_unboxed c.self.inside.entries.items c.in-Ok.place (with_value c.index_mut.result.now c.change_entry.new.entry))) done.0

pub returns-then-not-entry : goal.returns-then-not-entry
returns-then-not-entry g c =
    let k = c.args.key in
    let f = change_effect c.args.change in
    let es = unboxed_items c.self.inside.entries.items in
    let at : position (is_of k) es ≡ Some c.in-Ok.place = c.in-Ok.ensures.found in
    let m = subst (λ w. Moves deadline_cmp w (deadline_key c.change_entry.new.entry) c.self.inside.due c.rearm.new.due) c.deadline_key_of-before.ensures
    (subst (λ w. Moves deadline_cmp c.deadline_key_of-before.result w c.self.inside.due c.rearm.new.due) c.deadline_key_of-after.ensures c.rearm.ensures.moved) in
    let done = changed_live k f (keeps_made c.args.change) es c.self.inside.servers c.self.inside.clients c.self.inside.calls c.self.inside.due c.self.invariant c.in-Ok.place at
    c.deref_mut-entry.result.now (box_at k c.self.inside.entries.items c.in-Ok.place c.index_mut.result.now c.deref_mut-entry.result.now at c.index_mut.ensures.value c.deref_mut-entry.ensures.value)
    c.change_entry.new.entry c.rearm.new.due c.change_entry.ensures c.if-not-entry.true m in
    set_unboxed c.self.inside.entries.items c.in-Ok.place (with_value c.index_mut.result.now c.change_entry.new.entry) ∙ (done.1 ∙ ap (table_after_change k f) c.self.view_is)

pub remove_deadline-requires-clause-there : goal.remove_deadline-requires-clause-there
remove_deadline-requires-clause-there g c =
    let k = c.args.key in
    let f = change_effect c.args.change in
    let es = unboxed_items c.self.inside.entries.items in
    let at : position (is_of k) es ≡ Some c.in-Ok.place = c.in-Ok.ensures.found in
    subst (λ w. Has w c.self.inside.due) (sym c.deadline_key_of-before.ensures) (waits_there k f (keeps_made c.args.change) es c.self.inside.due c.self.invariant.rises c.self.invariant.due c.in-Ok.place at
    c.deref_mut-entry.result.now (box_at k c.self.inside.entries.items c.in-Ok.place c.index_mut.result.now c.deref_mut-entry.result.now at c.index_mut.ensures.value c.deref_mut-entry.ensures.value))

pub remove_match-requires-clause-there : goal.remove_match-requires-clause-there
remove_match-requires-clause-there g c =
    let k = c.args.key in
    let f = change_effect c.args.change in
    let es = unboxed_items c.self.inside.entries.items in
    let at : position (is_of k) es ≡ Some c.in-Ok.place = c.in-Ok.ensures.found in
    subst (λ n. Has n c.self.inside.servers) (sym c.server_search_key.ensures)
    (server_there k f (keeps_made c.args.change) es c.self.inside.servers c.self.inside.clients c.self.inside.calls c.self.inside.due c.self.invariant c.in-Ok.place at c.deref_mut-entry.result.now
    (box_at k c.self.inside.entries.items c.in-Ok.place c.index_mut.result.now c.deref_mut-entry.result.now at c.index_mut.ensures.value c.deref_mut-entry.ensures.value) c.change_entry.new.entry
    c.change_entry.ensures c.if-entry.true)

pub remove_match-requires-then-entry-clause-there : goal.remove_match-requires-then-entry-clause-there
remove_match-requires-then-entry-clause-there g c =
    let k = c.args.key in
    let f = change_effect c.args.change in
    let es = unboxed_items c.self.inside.entries.items in
    let at : position (is_of k) es ≡ Some c.in-Ok.place = c.in-Ok.ensures.found in
    subst (λ n. Has n c.self.inside.calls) (sym c.call_search_key.ensures)
    (call_there k f (keeps_made c.args.change) es c.self.inside.servers c.self.inside.clients c.self.inside.calls c.self.inside.due c.self.invariant c.in-Ok.place at c.deref_mut-entry.result.now
    (box_at k c.self.inside.entries.items c.in-Ok.place c.index_mut.result.now c.deref_mut-entry.result.now at c.index_mut.ensures.value c.deref_mut-entry.ensures.value) c.change_entry.new.entry
    c.change_entry.ensures c.if-entry.true)

pub invariant_of-self-then-entry : goal.invariant_of-self-then-entry
invariant_of-self-then-entry g c =
    let k = c.args.key in
    let f = change_effect c.args.change in
    let es = unboxed_items c.self.inside.entries.items in
    let at : position (is_of k) es ≡ Some c.in-Ok.place = c.in-Ok.ensures.found in
    let m = subst (λ w. Removes w c.self.inside.due c.remove_deadline.new.due) c.deadline_key_of-before.ensures c.remove_deadline.ensures.removed in
    let n = subst (λ w. Removes w c.self.inside.servers c.remove_match.new.names) c.server_search_key.ensures c.remove_match.ensures.removed in
    let o = subst (λ w. Removes w c.self.inside.calls c.remove_match-then-entry.new.names) c.call_search_key.ensures c.remove_match-then-entry.ensures.removed in
    let done = changed_server k f (keeps_made c.args.change) es c.self.inside.servers c.self.inside.clients c.self.inside.calls c.self.inside.due c.self.invariant c.in-Ok.place at
    c.deref_mut-entry.result.now (box_at k c.self.inside.entries.items c.in-Ok.place c.index_mut.result.now c.deref_mut-entry.result.now at c.index_mut.ensures.value c.deref_mut-entry.ensures.value)
    c.change_entry.new.entry c.remove_deadline.new.due c.remove_match.new.names c.remove_match-then-entry.new.names c.change_entry.ensures c.if-not-entry.false c.if-entry.true m n o in
    subst (λ xs. AreTables xs c.remove_match.new.names c.self.inside.clients c.remove_match-then-entry.new.names c.remove_deadline.new.due)
    (sym (removed_boxed c.self.inside.entries.items c.remove_entry.new.entries.items c.in-Ok.place (with_value c.index_mut.result.now c.change_entry.new.entry) c.remove_entry.ensures)) done.0

pub returns-then-entry : goal.returns-then-entry
returns-then-entry g c =
    let k = c.args.key in
    let f = change_effect c.args.change in
    let es = unboxed_items c.self.inside.entries.items in
    let at : position (is_of k) es ≡ Some c.in-Ok.place = c.in-Ok.ensures.found in
    let m = subst (λ w. Removes w c.self.inside.due c.remove_deadline.new.due) c.deadline_key_of-before.ensures c.remove_deadline.ensures.removed in
    let n = subst (λ w. Removes w c.self.inside.servers c.remove_match.new.names) c.server_search_key.ensures c.remove_match.ensures.removed in
    let o = subst (λ w. Removes w c.self.inside.calls c.remove_match-then-entry.new.names) c.call_search_key.ensures c.remove_match-then-entry.ensures.removed in
    let done = changed_server k f (keeps_made c.args.change) es c.self.inside.servers c.self.inside.clients c.self.inside.calls c.self.inside.due c.self.invariant c.in-Ok.place at
    c.deref_mut-entry.result.now (box_at k c.self.inside.entries.items c.in-Ok.place c.index_mut.result.now c.deref_mut-entry.result.now at c.index_mut.ensures.value c.deref_mut-entry.ensures.value)
    c.change_entry.new.entry c.remove_deadline.new.due c.remove_match.new.names c.remove_match-then-entry.new.names c.change_entry.ensures c.if-not-entry.false c.if-entry.true m n o in
    (removed_boxed c.self.inside.entries.items c.remove_entry.new.entries.items c.in-Ok.place (with_value c.index_mut.result.now c.change_entry.new.entry) c.remove_entry.ensures)
    ∙ (done.1 ∙ ap (table_after_change k f) c.self.view_is)

pub remove_deadline-requires-else-entry-clause-there : goal.remove_deadline-requires-else-entry-clause-there
remove_deadline-requires-else-entry-clause-there g c =
    let k = c.args.key in
    let f = change_effect c.args.change in
    let es = unboxed_items c.self.inside.entries.items in
    let at : position (is_of k) es ≡ Some c.in-Ok.place = c.in-Ok.ensures.found in
    subst (λ w. Has w c.self.inside.due) (sym c.deadline_key_of-before.ensures) (waits_there k f (keeps_made c.args.change) es c.self.inside.due c.self.invariant.rises c.self.invariant.due c.in-Ok.place at
    c.deref_mut-entry.result.now (box_at k c.self.inside.entries.items c.in-Ok.place c.index_mut.result.now c.deref_mut-entry.result.now at c.index_mut.ensures.value c.deref_mut-entry.ensures.value))

pub remove_match-requires-else-entry-clause-there : goal.remove_match-requires-else-entry-clause-there
remove_match-requires-else-entry-clause-there g c =
    let k = c.args.key in
    let f = change_effect c.args.change in
    let es = unboxed_items c.self.inside.entries.items in
    let at : position (is_of k) es ≡ Some c.in-Ok.place = c.in-Ok.ensures.found in
    subst (λ n. Has n c.self.inside.clients) (sym c.client_search_key.ensures)
    (client_there k f (keeps_made c.args.change) es c.self.inside.servers c.self.inside.clients c.self.inside.calls c.self.inside.due c.self.invariant c.in-Ok.place at c.deref_mut-entry.result.now
    (box_at k c.self.inside.entries.items c.in-Ok.place c.index_mut.result.now c.deref_mut-entry.result.now at c.index_mut.ensures.value c.deref_mut-entry.ensures.value) c.change_entry.new.entry
    c.change_entry.ensures c.if-entry.false)

pub invariant_of-self-else-entry : goal.invariant_of-self-else-entry
invariant_of-self-else-entry g c =
    let k = c.args.key in
    let f = change_effect c.args.change in
    let es = unboxed_items c.self.inside.entries.items in
    let at : position (is_of k) es ≡ Some c.in-Ok.place = c.in-Ok.ensures.found in
    let m = subst (λ w. Removes w c.self.inside.due c.remove_deadline-else-entry.new.due) c.deadline_key_of-before.ensures c.remove_deadline-else-entry.ensures.removed in
    let n = subst (λ w. Removes w c.self.inside.clients c.remove_match-else-entry.new.names) c.client_search_key.ensures c.remove_match-else-entry.ensures.removed in
    let done = changed_client k f (keeps_made c.args.change) es c.self.inside.servers c.self.inside.clients c.self.inside.calls c.self.inside.due c.self.invariant c.in-Ok.place at
    c.deref_mut-entry.result.now (box_at k c.self.inside.entries.items c.in-Ok.place c.index_mut.result.now c.deref_mut-entry.result.now at c.index_mut.ensures.value c.deref_mut-entry.ensures.value)
    c.change_entry.new.entry c.remove_deadline-else-entry.new.due c.remove_match-else-entry.new.names c.change_entry.ensures c.if-not-entry.false c.if-entry.false m n in
    subst (λ xs. AreTables xs c.self.inside.servers c.remove_match-else-entry.new.names c.self.inside.calls c.remove_deadline-else-entry.new.due)
    (sym (removed_boxed c.self.inside.entries.items c.remove_entry-else-entry.new.entries.items c.in-Ok.place (with_value c.index_mut.result.now c.change_entry.new.entry) c.remove_entry-else-entry.ensures)) done.0

pub returns-else-entry : goal.returns-else-entry
returns-else-entry g c =
    let k = c.args.key in
    let f = change_effect c.args.change in
    let es = unboxed_items c.self.inside.entries.items in
    let at : position (is_of k) es ≡ Some c.in-Ok.place = c.in-Ok.ensures.found in
    let m = subst (λ w. Removes w c.self.inside.due c.remove_deadline-else-entry.new.due) c.deadline_key_of-before.ensures c.remove_deadline-else-entry.ensures.removed in
    let n = subst (λ w. Removes w c.self.inside.clients c.remove_match-else-entry.new.names) c.client_search_key.ensures c.remove_match-else-entry.ensures.removed in
    let done = changed_client k f (keeps_made c.args.change) es c.self.inside.servers c.self.inside.clients c.self.inside.calls c.self.inside.due c.self.invariant c.in-Ok.place at
    c.deref_mut-entry.result.now (box_at k c.self.inside.entries.items c.in-Ok.place c.index_mut.result.now c.deref_mut-entry.result.now at c.index_mut.ensures.value c.deref_mut-entry.ensures.value)
    c.change_entry.new.entry c.remove_deadline-else-entry.new.due c.remove_match-else-entry.new.names c.change_entry.ensures c.if-not-entry.false c.if-entry.false m n in
    (removed_boxed c.self.inside.entries.items c.remove_entry-else-entry.new.entries.items c.in-Ok.place (with_value c.index_mut.result.now c.change_entry.new.entry) c.remove_entry-else-entry.ensures)
    ∙ (done.1 ∙ ap (table_after_change k f) c.self.view_is)

pub returns-in_default : goal.returns-in_default
returns-in_default g c =
    let k = c.args.key in
    let f = change_effect c.args.change in
    let es = unboxed_items c.self.inside.entries.items in
    let none : position (is_of k) es ≡ None = c.in_default.ensures.absent in
    sym c.self.view_is ∙ (absent k f es (sym none) ∙ ap (table_after_change k f) c.self.view_is)

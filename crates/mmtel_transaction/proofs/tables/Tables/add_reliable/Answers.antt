use Rattle.std.proofs.Common.{◌≡◌, Some, None, Result, Ok, Err, OnErr, set, sym, ap, ◌∙◌, subst, map}
use Rattle.std.specs.List.{position}
use Rattle.std.specs.Box.{with_value}
use Rattle.std.proofs.lemmas.List.{set-get_or}
use Rattle.mmtel_timers.specs.Shelves.{Has, unboxed_items}
use Rattle.mmtel_transaction.specs.Results.{is_of}
use Rattle.mmtel_transaction.specs.Changes.{change_of_key, with_reliable}
use Rattle.mmtel_transaction.specs.Indexes.{AreTables, Moves, deadline_cmp, deadline_key}
use Rattle.mmtel_transaction.proofs.Changing.{not_hit, tables_mapped}
use Rattle.mmtel_transaction.proofs.Lists.{keeps_hit, keeps_with}
use Rattle.mmtel_transaction.proofs.Placing.{box_at, set_unboxed}
use Rattle.mmtel_transaction.proofs.Settled.{due_moved, waits_there, was_set}
use Rattle.mmtel_transaction.proofs.tables.Tables.add_reliable.Goals as goal

pub rearm-requires-clause-there : goal.rearm-requires-clause-there
rearm-requires-clause-there g c =
    let k = c.args.key in
    let es = unboxed_items c.self.inside.entries.items in
    let at : position (is_of k) es ≡ Some c.in-Ok.place = c.in-Ok.ensures.found in
    let is = box_at k c.self.inside.entries.items c.in-Ok.place c.index_mut.result.now c.deref_mut-entry.result.now at c.index_mut.ensures.value c.deref_mut-entry.ensures.value in
    subst (λ w. Has w c.self.inside.due) (sym c.deadline_key_of-before.ensures)
    (waits_there k (with_reliable c.args.response) (keeps_with (Some c.args.response)) es c.self.inside.due c.self.invariant.rises c.self.invariant.due c.in-Ok.place at c.deref_mut-entry.result.now is)

OnErr-from : {T E P : Type 0} (r : Result T E) → P → OnErr r P
OnErr-from (Ok x) p = tt
OnErr-from (Err e) p = p

-- where it could not be added
pub invariant_of-self : goal.invariant_of-self
invariant_of-self g c =
    let t = c.self.inside in
    let es = unboxed_items t.entries.items in
    let at : position (is_of c.args.key) es ≡ Some c.in-Ok.place = c.in-Ok.ensures.found in
    let is = box_at c.args.key t.entries.items c.in-Ok.place c.index_mut.result.now c.deref_mut-entry.result.now at c.index_mut.ensures.value c.deref_mut-entry.ensures.value in
    let same : unboxed_items (set t.entries.items c.in-Ok.place (with_value c.index_mut.result.now c.add_reliable.new.entry)) ≡ es =
    set_unboxed t.entries.items c.in-Ok.place (with_value c.index_mut.result.now c.add_reliable.new.entry)
    ∙ (ap (set es c.in-Ok.place) (c.in_err-add_reliable-in-Ok.ensures.err ∙ is) ∙ set-get_or es c.in-Ok.place c.deref_mut-entry.result.now) in
    subst (λ xs. AreTables xs t.servers t.clients t.calls t.due) (sym same) c.self.invariant

pub returns-in_err-add_reliable-in-Ok-clause-err : goal.returns-in_err-add_reliable-in-Ok-clause-err
returns-in_err-add_reliable-in-Ok-clause-err g c =
    let t = c.self.inside in
    let es = unboxed_items t.entries.items in
    let at : position (is_of c.args.key) es ≡ Some c.in-Ok.place = c.in-Ok.ensures.found in
    let is = box_at c.args.key t.entries.items c.in-Ok.place c.index_mut.result.now c.deref_mut-entry.result.now at c.index_mut.ensures.value c.deref_mut-entry.ensures.value in
    OnErr-from c.from_residual.result (set_unboxed t.entries.items c.in-Ok.place (with_value c.index_mut.result.now c.add_reliable.new.entry)
    ∙ (ap (set es c.in-Ok.place) (c.in_err-add_reliable-in-Ok.ensures.err ∙ is) ∙ (set-get_or es c.in-Ok.place c.deref_mut-entry.result.now ∙ c.self.view_is)))

-- where it was added
pub invariant_of-self-in-Ok : goal.invariant_of-self-in-Ok
invariant_of-self-in-Ok g c =
    let k = c.args.key in
    let f = with_reliable c.args.response in
    let t = c.self.inside in
    let es = unboxed_items t.entries.items in
    let at : position (is_of k) es ≡ Some c.in-Ok.place = c.in-Ok.ensures.found in
    let is = box_at k t.entries.items c.in-Ok.place c.index_mut.result.now c.deref_mut-entry.result.now at c.index_mut.ensures.value c.deref_mut-entry.ensures.value in
    let x = c.add_reliable.new.entry in
    let keeps = keeps_with (Some c.args.response) in
    let m = subst (λ w. Moves deadline_cmp w (deadline_key x) t.due c.rearm.new.due) c.deadline_key_of-before.ensures
    (subst (λ w. Moves deadline_cmp c.deadline_key_of-before.result w t.due c.rearm.new.due) c.deadline_key_of-after.ensures c.rearm.ensures.moved) in
    let added = c.in_ok-add_reliable-in-Ok.ensures.ok in
    let set_so = set_unboxed t.entries.items c.in-Ok.place (with_value c.index_mut.result.now x)
    ∙ was_set k f keeps es t.due c.self.invariant.rises c.self.invariant.due c.in-Ok.place at c.deref_mut-entry.result.now is x added in
    let moved = due_moved k f keeps es t.due c.self.invariant.rises c.self.invariant.due c.in-Ok.place at c.deref_mut-entry.result.now is x c.rearm.new.due added m in
    subst (λ xs. AreTables xs t.servers t.clients t.calls c.rearm.new.due) (sym set_so)
    (tables_mapped (change_of_key k f) (λ e. keeps_hit k f e (keeps e)) es t.servers t.clients t.calls t.due c.rearm.new.due c.self.invariant moved)

pub returns-in_ok-add_reliable-in-Ok-clause-ok : goal.returns-in_ok-add_reliable-in-Ok-clause-ok
returns-in_ok-add_reliable-in-Ok-clause-ok g c =
    let k = c.args.key in
    let f = with_reliable c.args.response in
    let t = c.self.inside in
    let es = unboxed_items t.entries.items in
    let at : position (is_of k) es ≡ Some c.in-Ok.place = c.in-Ok.ensures.found in
    let is = box_at k t.entries.items c.in-Ok.place c.index_mut.result.now c.deref_mut-entry.result.now at c.index_mut.ensures.value c.deref_mut-entry.ensures.value in
    let x = c.add_reliable.new.entry in
    set_unboxed t.entries.items c.in-Ok.place (with_value c.index_mut.result.now x) ∙ (was_set k f (keeps_with (Some c.args.response)) es t.due c.self.invariant.rises c.self.invariant.due
    c.in-Ok.place at c.deref_mut-entry.result.now is x c.in_ok-add_reliable-in-Ok.ensures.ok ∙ ap (map (change_of_key k f)) c.self.view_is)

pub returns-in-Err-clause-ok : goal.returns-in-Err-clause-ok
returns-in-Err-clause-ok g c =
    let none : position (is_of c.args.key) (unboxed_items c.self.inside.entries.items) ≡ None = c.in-Err.ensures.absent in
    let f = change_of_key c.args.key (with_reliable c.args.response) in
    sym c.self.view_is ∙ (sym (not_hit c.args.key (with_reliable c.args.response) (unboxed_items c.self.inside.entries.items) none) ∙ ap (map f) c.self.view_is)

use Rattle.std.proofs.Common.{sym, subst, ap, ◌∙◌, ◌++◌, ◌∷◌, []}
use Rattle.mmtel_timers.specs.Shelves.{Has, unboxed_items}
use Rattle.mmtel_transaction.specs.Indexes.{AreTables, deadline_cmp, match_cmp}
use Rattle.mmtel_transaction.proofs.Placing.{push_unboxed}
use Rattle.mmtel_transaction.proofs.Pushed.{pushed_client, undone}
use Rattle.mmtel_transaction.proofs.tables.Tables.push_client.Goals as goal

pub invariant_of-self-in-Err : goal.invariant_of-self-in-Err
invariant_of-self-in-Err g c =
    let es = unboxed_items c.self.inside.entries.items in
    let due = undone deadline_cmp c.deadline_key_of-waits.result c.in_ok-due.due c.self.inside.due c.insert_deadline.new.due c.remove.new.self c.in_ok-due.ensures.ok c.remove.ensures.rest in
    subst (λ cs. AreTables es c.self.inside.servers cs c.self.inside.calls c.remove.new.self) (sym c.in-Err.ensures.err)
    (subst (λ ds. AreTables es c.self.inside.servers c.self.inside.clients c.self.inside.calls ds) (sym due) c.self.invariant)

pub invariant_of-self-in-Ok-push_back : goal.invariant_of-self-in-Ok-push_back
invariant_of-self-in-Ok-push_back g c =
    let es = unboxed_items c.self.inside.entries.items in
    let more = ap unboxed_items c.in-Ok-push_back.ensures.items ∙ (push_unboxed c.self.inside.entries.items c.in_ok-entry.entry ∙ ap (λ e. es ++ e ∷ []) c.in_ok-entry.ensures.value) in
    subst (λ xs. AreTables xs c.self.inside.servers c.insert_match.new.names c.self.inside.calls c.insert_deadline.new.due) (sym more)
    (pushed_client c.args.entry es c.self.inside.servers c.self.inside.clients c.self.inside.calls c.self.inside.due c.insert_deadline.new.due c.deadline_key_of-waits.result c.in_ok-due.due
    c.self.invariant (λ x h. c.requires.above x (subst (λ xs. Has x xs) c.self.view_is h)) c.deadline_key_of-waits.ensures c.in_ok-due.ensures.ok
    c.insert_match.new.names c.in_ok-name.name c.in-Ok.client c.requires.kind c.in_ok-name.ensures.name c.in-Ok.ensures.ok)

pub invariant_of-self-in-Err-push_back : goal.invariant_of-self-in-Err-push_back
invariant_of-self-in-Err-push_back g c =
    let es = unboxed_items c.self.inside.entries.items in
    let due = undone deadline_cmp c.deadline_key_of-waits.result c.in_ok-due.due c.self.inside.due c.insert_deadline.new.due c.remove-in-Err-push_back.new.self c.in_ok-due.ensures.ok
    c.remove-in-Err-push_back.ensures.rest in
    let clients = undone match_cmp c.in_ok-name.name c.in-Ok.client c.self.inside.clients c.insert_match.new.names c.remove-in-Err-push_back-2.new.self c.in-Ok.ensures.ok c.remove-in-Err-push_back-2.ensures.rest in
    subst (λ xs. AreTables xs c.self.inside.servers c.remove-in-Err-push_back-2.new.self c.self.inside.calls c.remove-in-Err-push_back.new.self) (sym (ap unboxed_items c.in-Err-push_back.ensures.items))
    (subst (λ cs. AreTables es c.self.inside.servers cs c.self.inside.calls c.remove-in-Err-push_back.new.self) (sym clients)
    (subst (λ ds. AreTables es c.self.inside.servers c.self.inside.clients c.self.inside.calls ds) (sym due) c.self.invariant))

pub returns-clause-ok : goal.returns-clause-ok
returns-clause-ok g c =
    let es = unboxed_items c.self.inside.entries.items in
    ap unboxed_items c.in-Ok-push_back.ensures.items
    ∙ (push_unboxed c.self.inside.entries.items c.in_ok-entry.entry ∙ (ap (λ e. es ++ e ∷ []) c.in_ok-entry.ensures.value ∙ ap (λ xs. xs ++ c.args.entry ∷ []) c.self.view_is))

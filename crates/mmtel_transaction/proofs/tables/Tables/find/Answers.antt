use Rattle.std.proofs.Common.{◌≡◌, Some, None, ap, ◌∙◌, subst}
use Rattle.std.specs.List.{position}
use Rattle.mmtel_timers.specs.Shelves.{Rises, unboxed_items}
use Rattle.mmtel_transaction.specs.declared.entries.Entry.{Entry}
use Rattle.mmtel_transaction.specs.Results.{by_key, is_of}
use Rattle.mmtel_transaction.proofs.Placing.{box_at, found_there, not_there}
use Rattle.mmtel_transaction.proofs.tables.Tables.find.Goals as goal

pub returns-in-Ok-clause-found : goal.returns-in-Ok-clause-found
returns-in-Ok-clause-found c =
    let k = c.args.key in
    let items = c.self.inside.entries.items in
    let at : position (is_of k) (unboxed_items items) ≡ Some c.in-Ok.place = c.in-Ok.ensures.found in
    found_there k (unboxed_items items) c.in-Ok.place c.as_ref.result.now at (box_at k items c.in-Ok.place c.index.result.now c.as_ref.result.now at c.index.ensures c.as_ref.ensures) ∙ ap (by_key k) c.self.view_is

pub returns-in-Err-clause-found : goal.returns-in-Err-clause-found
returns-in-Err-clause-found c =
    let k = c.args.key in
    let none : position (is_of k) (unboxed_items c.self.inside.entries.items) ≡ None = c.in-Err.ensures.absent in
    not_there k (unboxed_items c.self.inside.entries.items) none ∙ ap (by_key k) c.self.view_is

pub returns-in-Ok-clause-rises : goal.returns-in-Ok-clause-rises
returns-in-Ok-clause-rises c = subst (Rises (λ (e : Entry). e.key)) c.self.view_is c.self.invariant.rises

pub returns-in-Err-clause-rises : goal.returns-in-Err-clause-rises
returns-in-Err-clause-rises c = subst (Rises (λ (e : Entry). e.key)) c.self.view_is c.self.invariant.rises

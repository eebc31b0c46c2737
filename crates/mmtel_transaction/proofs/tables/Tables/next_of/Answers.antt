use Rattle.std.proofs.Common.{◌≡◌, Some, None, ap, ◌∙◌}
use Rattle.mmtel_timers.specs.Shelves.{unboxed_items}
use Rattle.mmtel_transaction.specs.Results.{next_due}
use Rattle.mmtel_transaction.specs.Indexes.{due_first}
use Rattle.mmtel_transaction.proofs.Soonest.{moment_and_key, next_first, next_is, next_lost, none_next}
use Rattle.mmtel_transaction.proofs.tables.Tables.next_of.Goals as goal

pub returns-in-None-clause-next : goal.returns-in-None-clause-next
returns-in-None-clause-next g c =
    let now = c.args.now in
    let es = unboxed_items c.self.inside.entries.items in
    let said : None ≡ moment_and_key (next_due now es) = c.in-None.ensures ∙ (ap (due_first now) c.look.ensures.item ∙ next_first now c.ranges.now.fits es c.self.invariant.rises c.self.inside.due c.self.invariant.due) in
    none_next now es said ∙ ap (next_due now) c.self.view_is

pub returns-in-None-find-clause-next : goal.returns-in-None-find-clause-next
returns-in-None-find-clause-next g c =
    let now = c.args.now in
    let es = unboxed_items c.self.inside.entries.items in
    let said : Some (c.in-Some.at, c.in-Some.key) ≡ moment_and_key (next_due now c.args.self.now) = c.in-Some.ensures
    ∙ (ap (due_first now) c.look.ensures.item ∙ (next_first now c.ranges.now.fits es c.self.invariant.rises c.self.inside.due c.self.invariant.due ∙ ap (λ xs. moment_and_key (next_due now xs)) c.self.view_is)) in
    absurd (next_lost now c.args.self.now c.find.ensures.rises c.in-Some.at c.in-Some.key said c.in-None-find.ensures.found)

pub returns-in-Some-find-clause-next : goal.returns-in-Some-find-clause-next
returns-in-Some-find-clause-next g c =
    let now = c.args.now in
    let es = unboxed_items c.self.inside.entries.items in
    let said : Some (c.in-Some.at, c.in-Some.key) ≡ moment_and_key (next_due now c.args.self.now) = c.in-Some.ensures
    ∙ (ap (due_first now) c.look.ensures.item ∙ (next_first now c.ranges.now.fits es c.self.invariant.rises c.self.inside.due c.self.invariant.due ∙ ap (λ xs. moment_and_key (next_due now xs)) c.self.view_is)) in
    next_is now c.args.self.now c.find.ensures.rises c.in-Some.at c.in-Some.key said c.in-Some-find.of.now c.in-Some-find.ensures.found

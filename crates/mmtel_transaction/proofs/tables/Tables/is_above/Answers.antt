use Rattle.std.proofs.Common.{◌≡◌, ◌<◌, ◌-◌, Some, length, refl, sym, subst, arith}
use Rattle.std.specs.Prelude.{slice_get}
use Rattle.std.proofs.lemmas.Bool.Decides.{nat_tests}
use Rattle.mmtel_timers.specs.Shelves.{Has, unboxed_items}
use Rattle.mmtel_transaction.proofs.Placing.{last_boxed, last_greatest, last_of_queue}
use Rattle.mmtel_transaction.proofs.tables.Tables.is_above.Goals as goal

pub returns-in-Some : goal.returns-in-Some
returns-in-Some c less e h =
    let q = c.self.inside.entries in
    let last = c.deref.result.now in
    let l : last.key < c.args.key = grind (arith, nat_tests) in
    let there : Some c.in-Some.last.now ≡ slice_get q.items (length q.items - 1) = last_of_queue q.items c.in-Some.last.now q.len q.ok.0 (c.in-Some.ensures.variant.0 refl) c.in-Some.ensures.lookup in
    last_greatest (unboxed_items q.items) last c.self.invariant.rises (last_boxed q.items c.in-Some.last.now last there c.deref.ensures) c.args.key l e (subst (Has e) (sym c.self.view_is) h)

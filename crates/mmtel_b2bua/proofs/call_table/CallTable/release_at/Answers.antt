use Rattle.std.proofs.Common.{None, MatchResult, ◌≡◌, ◌<◌, Bool, List, Option, Some, length, subst, sym, ap, ◌∙◌, false, ◌+◌}
use Rattle.std.specs.Prelude.{ℕ, slice_get, set, sum_by}
use Rattle.std.specs.Box.{with_value}
use Rattle.mmtel_b2bua.specs.Entries.{is_live}
use Rattle.mmtel_b2bua.specs.Invariant.{TableInvariant, box_values, busy_count, number_of, one_if}
use Rattle.mmtel_b2bua.specs.Tables.{Table}
use Rattle.mmtel_b2bua.specs.declared.entries.Entry.{Entry}
use Rattle.mmtel_leg.specs.declared.legs.Released.{Released}
use Rattle.mmtel_call.specs.declared.calls.Call.{Call}
use Rattle.mmtel_b2bua.specs.Detaching.{entry_after_release, leg_in_entry, released_at}
use Rattle.mmtel_b2bua.proofs.DetachedLegs.{busy_after_release, live_after_release, same_number}
use Rattle.mmtel_b2bua.proofs.Keeping.{left_kept, said_after, set_boxes, stands_at, table_after}
use Rattle.mmtel_b2bua.proofs.call_table.CallTable.release_at.Goals as goal

pub invariant_of-self : goal.invariant_of-self
invariant_of-self c =
    let bs = c.self.inside.entries.items in
    let es = box_values bs in
    let k = c.args.place in
    let e = c.deref_mut-entry.result.now in
    let within : k < length es = subst (λ (t : Table). k < length t.entries) (sym c.self.view_is) c.requires in
    let is : slice_get es k ≡ Some e = stands_at bs k c.index_mut.result.now e within c.index_mut.ensures.value c.deref_mut-entry.ensures.value in
    let y : Entry = record { call = c.release-leg.new.self; invites = e.invites } in
    let made : y ≡ entry_after_release c.args.side e = ap (λ (call : Call). let x : Entry = record { call = call; invites = e.invites } in x) c.release-leg.ensures.call in
    let now = set_boxes bs k (with_value c.index_mut.result.now y) in
    let live : is_live y ≡ is_live e = ap is_live made ∙ live_after_release c.args.side e in
    let again = λ (n : ℕ). ap (λ (m : ℕ). m + busy_count n e) (c.self.invariant.counts n) ∙ ap (λ (m : ℕ). sum_by (busy_count n) es + m) (sym (ap (busy_count n) made ∙ busy_after_release n c.args.side e)) in
    subst (λ (l : List Entry). TableInvariant l c.self.inside.opened c.self.inside.live_count c.put_call-2.new.index c.self.inside.busy) (sym now)
    (left_kept es c.self.inside.opened c.self.inside.live_count c.self.inside.index c.self.inside.busy k e y c.self.invariant is false c.self.inside.live_count c.put_call.new.index
    c.put_call-2.new.index c.self.inside.busy c.put_call.ensures c.put_call-2.ensures (λ stays. ap number_of made ∙ same_number e.call.phase c.args.side e.call)
    (ap (λ (b : Bool). c.self.inside.live_count + one_if b) (sym live)) again)

pub returns-clause-table : goal.returns-clause-table
returns-clause-table c =
    let bs = c.self.inside.entries.items in
    let es = box_values bs in
    let k = c.args.place in
    let e = c.deref_mut-entry.result.now in
    let within : k < length es = subst (λ (t : Table). k < length t.entries) (sym c.self.view_is) c.requires in
    let is : slice_get es k ≡ Some e = stands_at bs k c.index_mut.result.now e within c.index_mut.ensures.value c.deref_mut-entry.ensures.value in
    let y : Entry = record { call = c.release-leg.new.self; invites = e.invites } in
    let made : y ≡ entry_after_release c.args.side e = ap (λ (call : Call). let x : Entry = record { call = call; invites = e.invites } in x) c.release-leg.ensures.call in
    let now = set_boxes bs k (with_value c.index_mut.result.now y) in
    let t : Table = record { entries = es; opened = c.self.inside.opened; rows = c.self.inside.rows } in
    table_after t c.args.self.now c.self.view_is k e is (λ o xs. released_at c.args.side k o xs) _ (now ∙ ap (λ (x : Entry). set es k x) made)

pub returns-clause-leg : goal.returns-clause-leg
returns-clause-leg c =
    let bs = c.self.inside.entries.items in
    let es = box_values bs in
    let k = c.args.place in
    let e = c.deref_mut-entry.result.now in
    let within : k < length es = subst (λ (t : Table). k < length t.entries) (sym c.self.view_is) c.requires in
    let is : slice_get es k ≡ Some e = stands_at bs k c.index_mut.result.now e within c.index_mut.ensures.value c.deref_mut-entry.ensures.value in
    let t : Table = record { entries = es; opened = c.self.inside.opened; rows = c.self.inside.rows } in
    subst (λ (o : Option Released). MatchResult c.release-leg.result (λ leg. o ≡ Some leg) (λ refused. o ≡ None))
    (said_after t c.args.self.now c.self.view_is k e is (λ o xs. leg_in_entry c.args.side o)) c.release-leg.ensures.leg

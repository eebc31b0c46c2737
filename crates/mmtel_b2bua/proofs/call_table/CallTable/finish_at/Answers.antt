use Rattle.std.proofs.Common.{◌≡◌, ◌<◌, ◌≤◌, ◌+◌, ℕ, Bool, List, [], Some, OnOk, length, subst, sym, ap, ◌∙◌}
use Rattle.std.specs.Prelude.{if◌then◌else◌, slice_get, set}
use Rattle.std.specs.Box.{with_value}
use Rattle.std.proofs.lemmas.Result.{on_ok_weaker}
use Rattle.mmtel_call.specs.Closing.{StepResult}
use Rattle.mmtel_call.specs.Settled.{is_settled}
use Rattle.mmtel_call_services.specs.Busy.{calls_of}
use Rattle.mmtel_b2bua.specs.Entries.{is_live}
use Rattle.mmtel_b2bua.specs.Invariant.{TableInvariant, box_values, busy_count, lives_on, number_of, one_if}
use Rattle.mmtel_b2bua.specs.Tables.{Table}
use Rattle.mmtel_b2bua.specs.declared.entries.Entry.{Entry}
use Rattle.mmtel_b2bua.specs.Detaching.{finish_step, step_of_finish_at}
use Rattle.mmtel_b2bua.specs.Tables.{entry_after}
use Rattle.mmtel_b2bua.proofs.DetachedLegs.{written}
use Rattle.mmtel_b2bua.proofs.Counting.{recounted}
use Rattle.mmtel_b2bua.proofs.Keeping.{in_err, in_ok, left, left_boxes, left_kept, left_put, not_gone, recount, said_after, set_boxes, stands_at, still_if, still_on, table_after, was_counted}
use Rattle.mmtel_b2bua.proofs.call_table.CallTable.finish_at.Goals as goal
use Rattle.mmtel_b2bua.proofs.call_table.CallTable.finish_at.Goals.{in-Ok, in-Err}

pub new_live_count-self-inside-requires-clause-there : goal.new_live_count-self-inside-requires-clause-there
new_live_count-self-inside-requires-clause-there c =
    let bs = c.self.inside.entries.items in
    let es = box_values bs in
    let k = c.args.place in
    let e = c.deref_mut-entry.result.now in
    let within : k < length es = subst (λ (t : Table). k < length t.entries) (sym c.self.view_is) c.requires.place in
    let is : slice_get es k ≡ Some e = stands_at bs k c.index_mut.result.now e within c.index_mut.ensures.value c.deref_mut-entry.ensures.value in
    subst (λ (x : Bool). one_if x ≤ c.self.inside.live_count) (sym c.is_live-old_live.ensures)
    (was_counted es c.self.inside.opened c.self.inside.live_count c.self.inside.index c.self.inside.busy k e e c.self.invariant is)

pub invariant_of-self : goal.invariant_of-self
invariant_of-self c =
    let bs = c.self.inside.entries.items in
    let es = box_values bs in
    let k = c.args.place in
    let e = c.deref_mut-entry.result.now in
    let within : k < length es = subst (λ (t : Table). k < length t.entries) (sym c.self.view_is) c.requires.place in
    let is : slice_get es k ≡ Some e = stands_at bs k c.index_mut.result.now e within c.index_mut.ensures.value c.deref_mut-entry.ensures.value in
    let y = c.finish-finished.new.self in
    let b = with_value c.index_mut.result.now y in
    let gone = c.is_gone-gone.result in
    let now : box_values c.keep_at-new_live.new.entries.items ≡ left gone es k y = ap box_values c.keep_at-new_live.ensures.entries ∙ left_boxes bs k gone b in
    let there : slice_get (box_values (set bs k b)) k ≡ Some y = ap (λ (l : List Entry). slice_get l k) (set_boxes bs k b) ∙ written es k e y is in
    let after : c.keep_at-new_live.result ≡ lives_on gone y = c.keep_at-new_live.ensures.live y there in
    let alive = recount c.new_live_count-self-inside.result c.self.inside.live_count c.is_live-old_live.result c.keep_at-new_live.result (is_live e)
    (lives_on gone y) c.is_live-old_live.ensures after c.new_live_count-self-inside.ensures in
    let same : OnOk c.count_again-counted.result (number_of y ≡ number_of e) = still_on _ c.finish-finished.result c.count_again-counted.result c.count_again-counted.ensures.received c.finish-finished.ensures.number in
    let into = λ (n : ℕ). c.count_again-counted.ensures.counted n ∙ ap (λ (x : Bool). calls_of c.remove_from.new.busy n + (if x then 0 else busy_count n y)) (sym c.is_gone-gone.ensures) in
    let again = recounted es k e y is gone c.self.inside.busy c.count_again-counted.new.busy c.self.invariant.counts c.remove_from.new.busy c.remove_from.ensures into in
    subst (λ (l : List Entry). TableInvariant l c.self.inside.opened c.new_live_count-self-inside.result c.put_call-2.new.index c.count_again-counted.new.busy) (sym now)
    (left_kept es c.self.inside.opened c.self.inside.live_count c.self.inside.index c.self.inside.busy k e y c.self.invariant is gone c.new_live_count-self-inside.result c.put_call.new.index
    c.put_call-2.new.index c.count_again-counted.new.busy c.put_call.ensures c.put_call-2.ensures
    (λ stays. not_gone c.count_again-counted.result (number_of y ≡ number_of e) same (sym c.is_gone-gone.ensures ∙ stays)) alive again)

pub returns-clause-table : goal.returns-clause-table
returns-clause-table c =
    let bs = c.self.inside.entries.items in
    let es = box_values bs in
    let k = c.args.place in
    let e = c.deref_mut-entry.result.now in
    let within : k < length es = subst (λ (t : Table). k < length t.entries) (sym c.self.view_is) c.requires.place in
    let is : slice_get es k ≡ Some e = stands_at bs k c.index_mut.result.now e within c.index_mut.ensures.value c.deref_mut-entry.ensures.value in
    let y = c.finish-finished.new.self in
    let b = with_value c.index_mut.result.now y in
    let gone = c.is_gone-gone.result in
    let now : box_values c.keep_at-new_live.new.entries.items ≡ left gone es k y = ap box_values c.keep_at-new_live.ensures.entries ∙ left_boxes bs k gone b in
    let made : StepResult = finish_step c.args.config.now c.args.at c.args.output.now e in
    let entry = still_on _ c.finish-finished.result c.count_again-counted.result c.count_again-counted.ensures.received c.finish-finished.ensures.entry in
    let settled = still_if (λ settled. settled ≡ is_settled made.call) c.finish-finished.result c.count_again-counted.result c.count_again-counted.ensures.received c.finish-finished.ensures.settled in
    let put = left_put c.count_again-counted.result gone c.is_gone-gone.ensures es k y (entry_after [] made e) entry settled in
    let t : Table = record { entries = es; opened = c.self.inside.opened; rows = c.self.inside.rows } in
    let done = on_ok_weaker c.count_again-counted.result (λ are. table_after t c.args.self.now c.self.view_is k e is
    (λ o xs. (step_of_finish_at c.args.config.now c.args.at k o xs c.args.output.now).entries) (box_values c.keep_at-new_live.new.entries.items) (now ∙ are)) put in
    elim c.match-counted.branch [
      | in-Ok w ↦ in_ok c.count_again-counted.result _ c.match-counted.result _ _ w.in-Ok.is w.result-is done
      | in-Err w ↦ in_err c.match-counted.result _ _ w.result-is
    ]

pub returns-clause-output : goal.returns-clause-output
returns-clause-output c =
    let bs = c.self.inside.entries.items in
    let es = box_values bs in
    let k = c.args.place in
    let e = c.deref_mut-entry.result.now in
    let within : k < length es = subst (λ (t : Table). k < length t.entries) (sym c.self.view_is) c.requires.place in
    let is : slice_get es k ≡ Some e = stands_at bs k c.index_mut.result.now e within c.index_mut.ensures.value c.deref_mut-entry.ensures.value in
    let t : Table = record { entries = es; opened = c.self.inside.opened; rows = c.self.inside.rows } in
    let said = still_on _ c.finish-finished.result c.count_again-counted.result c.count_again-counted.ensures.received c.finish-finished.ensures.output in
    let done = on_ok_weaker c.count_again-counted.result (λ are. are ∙ said_after t c.args.self.now c.self.view_is k e is (λ o xs. (step_of_finish_at c.args.config.now c.args.at k o xs c.args.output.now).output)) said in
    elim c.match-counted.branch [
      | in-Ok w ↦ in_ok c.count_again-counted.result _ c.match-counted.result _ _ w.in-Ok.is w.result-is done
      | in-Err w ↦ in_err c.match-counted.result _ _ w.result-is
    ]

use Rattle.std.proofs.Common.{◌≡◌, ◌<◌, ◌≤◌, ◌+◌, ◌-◌, ℕ, Bool, List, Some, OnOk, length, subst, sym, ap, ◌∙◌}
use Rattle.std.specs.Prelude.{if◌then◌else◌, option_to_list, slice_get, set}
use Rattle.std.specs.Box.{with_value}
use Rattle.std.proofs.lemmas.Result.{on_ok_weaker}
use Rattle.mmtel_call.specs.Closing.{StepResult}
use Rattle.mmtel_call.specs.Settled.{is_settled}
use Rattle.mmtel_call.specs.Table.{step}
use Rattle.mmtel_call_services.specs.Busy.{calls_of}
use Rattle.mmtel_b2bua.specs.Entries.{busy_beside, is_live}
use Rattle.mmtel_b2bua.specs.Invariant.{TableInvariant, box_values, busy_count, lives_on, number_of, one_if}
use Rattle.mmtel_b2bua.specs.Tables.{Table, call_step, entry_after, put_at, step_of_entry_at}
use Rattle.mmtel_b2bua.specs.declared.entries.Entry.{Entry}
use Rattle.mmtel_b2bua.proofs.DetachedLegs.{written}
use Rattle.mmtel_b2bua.proofs.Counting.{by_counts, parted, stepped}
use Rattle.mmtel_b2bua.proofs.Keeping.{in_err, in_ok, left, left_boxes, left_kept, left_put, not_gone, recount, said_after, set_boxes, stands_at, still_if, still_on, table_after, was_counted}
use Rattle.mmtel_b2bua.proofs.call_table.CallTable.receive_at.Goals as goal
use Rattle.mmtel_b2bua.proofs.call_table.CallTable.receive_at.Goals.{in-Ok, in-Err}

pub new_live_count-self-inside-requires-clause-there : goal.new_live_count-self-inside-requires-clause-there
new_live_count-self-inside-requires-clause-there c =
    let bs = c.self.inside.entries.items in
    let es = box_values bs in
    let k = c.args.place in
    let e = c.deref_mut-entry.result.now in
    let within : k < length es = subst (λ (t : Table). k < length t.entries) (sym c.self.view_is) c.requires in
    let is : slice_get es k ≡ Some e = stands_at bs k c.index_mut.result.now e within c.index_mut.ensures.value c.deref_mut-entry.ensures.value in
    subst (λ (x : Bool). one_if x ≤ c.self.inside.live_count) (sym c.is_live-old_live.ensures)
    (was_counted es c.self.inside.opened c.self.inside.live_count c.self.inside.index c.self.inside.busy k e e c.self.invariant is)

pub invariant_of-self : goal.invariant_of-self
invariant_of-self c =
    let bs = c.self.inside.entries.items in
    let es = box_values bs in
    let k = c.args.place in
    let e = c.deref_mut-entry.result.now in
    let within : k < length es = subst (λ (t : Table). k < length t.entries) (sym c.self.view_is) c.requires in
    let is : slice_get es k ≡ Some e = stands_at bs k c.index_mut.result.now e within c.index_mut.ensures.value c.deref_mut-entry.ensures.value in
    let y = c.receive-step_result.new.self in
    let b = with_value c.index_mut.result.now y in
    let gone = c.is_gone-gone.result in
    let now : box_values c.keep_at-new_live.new.entries.items ≡ left gone es k y = ap box_values c.keep_at-new_live.ensures.entries ∙ left_boxes bs k gone b in
    let there : slice_get (box_values (set bs k b)) k ≡ Some y = ap (λ (l : List Entry). slice_get l k) (set_boxes bs k b) ∙ written es k e y is in
    let after : c.keep_at-new_live.result ≡ lives_on gone y = c.keep_at-new_live.ensures.live y there in
    let alive = recount c.new_live_count-self-inside.result c.self.inside.live_count c.is_live-old_live.result c.keep_at-new_live.result (is_live e)
    (lives_on gone y) c.is_live-old_live.ensures after c.new_live_count-self-inside.ensures in
    let same : OnOk c.count_again-counted.result (number_of y ≡ number_of e) =
    still_on _ c.receive-step_result.result c.count_again-counted.result c.count_again-counted.ensures.received c.receive-step_result.ensures.number in
    let into = λ (n : ℕ). c.count_again-counted.ensures.counted n ∙ ap (λ (x : Bool). calls_of c.remove_account.new.busy n + (if x then 0 else busy_count n y)) (sym c.is_gone-gone.ensures) in
    let again = parted es k e y is gone c.self.inside.busy c.remove_account-2.new.busy c.self.invariant.counts c.remove_account.new.busy c.count_again-counted.new.busy c.served.result
    c.origin-origin.result c.served.ensures c.origin-origin.ensures c.remove_account.ensures into c.remove_account-2.ensures in
    subst (λ (l : List Entry). TableInvariant l c.self.inside.opened c.new_live_count-self-inside.result c.put_call-2.new.index c.remove_account-2.new.busy) (sym now)
    (left_kept es c.self.inside.opened c.self.inside.live_count c.self.inside.index c.self.inside.busy k e y c.self.invariant is gone c.new_live_count-self-inside.result c.put_call.new.index
    c.put_call-2.new.index c.remove_account-2.new.busy c.put_call.ensures c.put_call-2.ensures
    (λ stays. not_gone c.count_again-counted.result (number_of y ≡ number_of e) same (sym c.is_gone-gone.ensures ∙ stays)) alive again)

pub returns-clause-table : goal.returns-clause-table
returns-clause-table c =
    let bs = c.self.inside.entries.items in
    let es = box_values bs in
    let k = c.args.place in
    let e = c.deref_mut-entry.result.now in
    let within : k < length es = subst (λ (t : Table). k < length t.entries) (sym c.self.view_is) c.requires in
    let is : slice_get es k ≡ Some e = stands_at bs k c.index_mut.result.now e within c.index_mut.ensures.value c.deref_mut-entry.ensures.value in
    let y = c.receive-step_result.new.self in
    let b = with_value c.index_mut.result.now y in
    let gone = c.is_gone-gone.result in
    let invites = option_to_list c.args.invite in
    let now : box_values c.keep_at-new_live.new.entries.items ≡ left gone es k y = ap box_values c.keep_at-new_live.ensures.entries ∙ left_boxes bs k gone b in
    let made : StepResult = step c.args.step.now.config.now (by_counts c.args.step.now.config.now c.args.step.now.at c.args.step.now.sheets.now c.remove_account.new.busy) c.args.signal e.call c.args.output.now in
    let same : made ≡ call_step c.args.step.now.config.now c.args.step.now.at c.args.step.now.sheets.now (busy_beside (number_of e) es) c.args.signal c.args.output.now e =
    stepped c.args.step.now.config.now c.args.step.now.at c.args.step.now.sheets.now c.remove_account.new.busy es c.self.inside.opened k e c.self.inside.busy c.served.result c.self.invariant.ascend is
    c.self.invariant.counts c.served.ensures c.remove_account.ensures c.args.signal c.args.output.now in
    let entry = still_on _ c.receive-step_result.result c.count_again-counted.result c.count_again-counted.ensures.received c.receive-step_result.ensures.entry in
    let settled = still_if (λ settled. settled ≡ is_settled made.call) c.receive-step_result.result c.count_again-counted.result c.count_again-counted.ensures.received c.receive-step_result.ensures.settled in
    let put = left_put c.count_again-counted.result gone c.is_gone-gone.ensures es k y (entry_after invites made e) entry settled in
    let t : Table = record { entries = es; opened = c.self.inside.opened; rows = c.self.inside.rows } in
    let done = on_ok_weaker c.count_again-counted.result (λ are. table_after t c.args.self.now c.self.view_is k e is
    (λ o xs. (step_of_entry_at c.args.step.now.config.now c.args.step.now.at c.args.step.now.sheets.now c.args.signal invites k o xs c.args.output.now).entries) (box_values c.keep_at-new_live.new.entries.items)
    (now ∙ (are ∙ ap (λ (s : StepResult). put_at k (entry_after invites s e) es) same))) put in
    elim c.match-counted.branch [
      | in-Ok w ↦ in_ok c.count_again-counted.result _ c.match-counted.result _ _ w.in-Ok.is w.result-is done
      | in-Err w ↦ in_err c.match-counted.result _ _ w.result-is
    ]

pub returns-clause-output : goal.returns-clause-output
returns-clause-output c =
    let bs = c.self.inside.entries.items in
    let es = box_values bs in
    let k = c.args.place in
    let e = c.deref_mut-entry.result.now in
    let within : k < length es = subst (λ (t : Table). k < length t.entries) (sym c.self.view_is) c.requires in
    let is : slice_get es k ≡ Some e = stands_at bs k c.index_mut.result.now e within c.index_mut.ensures.value c.deref_mut-entry.ensures.value in
    let same = stepped c.args.step.now.config.now c.args.step.now.at c.args.step.now.sheets.now c.remove_account.new.busy es c.self.inside.opened k e c.self.inside.busy c.served.result
    c.self.invariant.ascend is c.self.invariant.counts c.served.ensures c.remove_account.ensures c.args.signal c.args.output.now in
    let said = still_on _ c.receive-step_result.result c.count_again-counted.result c.count_again-counted.ensures.received c.receive-step_result.ensures.output in
    let t : Table = record { entries = es; opened = c.self.inside.opened; rows = c.self.inside.rows } in
    let done = on_ok_weaker c.count_again-counted.result (λ are. are ∙ (ap (λ (s : StepResult). s.output) same ∙ said_after t c.args.self.now c.self.view_is k e is
    (λ o xs. (step_of_entry_at c.args.step.now.config.now c.args.step.now.at c.args.step.now.sheets.now c.args.signal (option_to_list c.args.invite) k o xs c.args.output.now).output))) said in
    elim c.match-counted.branch [
      | in-Ok w ↦ in_ok c.count_again-counted.result _ c.match-counted.result _ _ w.in-Ok.is w.result-is done
      | in-Err w ↦ in_err c.match-counted.result _ _ w.result-is
    ]

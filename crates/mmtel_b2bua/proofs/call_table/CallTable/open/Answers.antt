use Rattle.std.proofs.Common.{◌≡◌, ◌+◌, ◌-◌, ◌<◌, ◌^◌, ℕ, arith, min, subst, sym, ap, ◌∙◌}
use Rattle.std.proofs.lemmas.Result.{IfOk-weaker, on_ok_weaker}
use Rattle.mmtel_call.specs.Closing.{StepResult}
use Rattle.mmtel_call.specs.declared.calls.Call.{Call}
use Rattle.mmtel_base.specs.Numbers.{next_number}
use Rattle.mmtel_call_services.specs.Busy.{BusyCountsView, calls_of}
use Rattle.mmtel_b2bua.specs.Invariant.{TableInvariant, box_values}
use Rattle.mmtel_b2bua.specs.Tables.{Table, busy_with, opening_step}
use Rattle.mmtel_b2bua.proofs.Counting.{begun}
use Rattle.mmtel_b2bua.proofs.Keeping.{same_kept}
use Rattle.mmtel_b2bua.proofs.OpenedCalls.{opened_number}
use Rattle.mmtel_b2bua.proofs.call_table.CallTable.open.Goals as goal

pub invariant_of-self : goal.invariant_of-self
invariant_of-self c =
    let same : (n : ℕ) → calls_of c.remove_account.new.busy n ≡ calls_of c.self.inside.busy n = λ n.
    let a = c.in-Ok.ensures.more n in
    let b = c.remove_account.ensures n in
    omega (arith, a, b) in
    same_kept (box_values c.self.inside.entries.items) c.self.inside.opened c.self.inside.live_count c.self.inside.index c.self.inside.busy c.remove_account.new.busy c.self.invariant same

pub returns-in-Ok-clause-call : goal.returns-in-Ok-clause-call
returns-in-Ok-clause-call c =
    let es = box_values c.self.inside.entries.items in
    let number = c.requires ∙ ap (λ (t : Table). next_number t.opened) (sym c.self.view_is) in
    let below = c.if-self.false in
    let next : c.self.inside.opened < min (c.self.inside.opened + 1) (2 ^ 64 - 1) = omega (arith, c.self.ranges.1.0.1, below) in
    let above : c.self.inside.opened < c.args.arrival.number.0 = omega (arith, next, number) in
    let same = begun c.args.step.now.config.now c.args.step.now.at c.args.step.now.sheets.now c.add_account.new.busy es c.self.inside.opened c.args.arrival c.self.inside.busy c.self.invariant.ascend
    above c.self.invariant.counts c.in-Ok.ensures.more c.args.output.now in
    IfOk-weaker c.open-call.result _ _ (λ call is. is ∙ (ap (λ (x : StepResult). x.call) same
    ∙ ap (λ (t : Table). (opening_step c.args.step.now.config.now c.args.step.now.at c.args.step.now.sheets.now (busy_with c.args.arrival t.entries) c.args.arrival c.args.output.now).call) c.self.view_is))
    c.open-call.ensures.call

pub returns-in-Ok-clause-output : goal.returns-in-Ok-clause-output
returns-in-Ok-clause-output c =
    let es = box_values c.self.inside.entries.items in
    let number = c.requires ∙ ap (λ (t : Table). next_number t.opened) (sym c.self.view_is) in
    let below = c.if-self.false in
    let next : c.self.inside.opened < min (c.self.inside.opened + 1) (2 ^ 64 - 1) = omega (arith, c.self.ranges.1.0.1, below) in
    let above : c.self.inside.opened < c.args.arrival.number.0 = omega (arith, next, number) in
    let same = begun c.args.step.now.config.now c.args.step.now.at c.args.step.now.sheets.now c.add_account.new.busy es c.self.inside.opened c.args.arrival c.self.inside.busy c.self.invariant.ascend
    above c.self.invariant.counts c.in-Ok.ensures.more c.args.output.now in
    on_ok_weaker c.open-call.result (λ is. is ∙ (ap (λ (x : StepResult). x.output) same
    ∙ ap (λ (t : Table). (opening_step c.args.step.now.config.now c.args.step.now.at c.args.step.now.sheets.now (busy_with c.args.arrival t.entries) c.args.arrival c.args.output.now).output) c.self.view_is))
    c.open-call.ensures.output

pub returns-in-Ok-clause-number : goal.returns-in-Ok-clause-number
returns-in-Ok-clause-number c =
    IfOk-weaker c.open-call.result _ _
    (λ call is. ap (λ (x : Call). x.opening.number) is ∙ opened_number c.calls_continue.ensures.law c.args.step.now.config.now _ c.args.arrival c.args.output.now) c.open-call.ensures.call

pub invariant_of-self-in-Err : goal.invariant_of-self-in-Err
invariant_of-self-in-Err c =
    subst (λ (b : BusyCountsView). TableInvariant (box_values c.self.inside.entries.items) c.self.inside.opened c.self.inside.live_count c.self.inside.index b) (sym c.in-Err.ensures.same) c.self.invariant

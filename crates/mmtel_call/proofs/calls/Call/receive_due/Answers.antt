-- what is done is stated by the phase that was replaced
use Rattle.std.proofs.Common.{◌≡◌, Result, Ok, Err, OnOk, refl, subst}
use Rattle.mmtel_call_services.specs.CallConfig.{snapshot_of}
use Rattle.mmtel_call.specs.Calls.{Phase}
use Rattle.mmtel_call.specs.Table.{due_in}
use Rattle.mmtel_call.proofs.calls.Call.receive_due.Goals as goal

always : {T E P : Type 0} (r : Result T E) → P → OnOk r P
always (Ok x) p = p
always (Err e) p = tt

pub returns-in-Offered-clause-call : goal.returns-in-Offered-clause-call
returns-in-Offered-clause-call c =
    subst (λ (p : Phase). OnOk c.fire_offered.result
    (c.fire_offered.new.self ≡ (due_in p c.args.step.now.config.now (snapshot_of c.args.step.now.snapshot) c.args.what (record c.args.self.now { phase = p }) c.args.output.now).call))
    c.in-Offered.ensures.value c.fire_offered.ensures.call

pub returns-in-Offered-clause-output : goal.returns-in-Offered-clause-output
returns-in-Offered-clause-output c =
    subst (λ (p : Phase). OnOk c.fire_offered.result
    (c.fire_offered.new.output ≡ (due_in p c.args.step.now.config.now (snapshot_of c.args.step.now.snapshot) c.args.what (record c.args.self.now { phase = p }) c.args.output.now).output))
    c.in-Offered.ensures.value c.fire_offered.ensures.output

pub returns-in-Established-clause-call : goal.returns-in-Established-clause-call
returns-in-Established-clause-call c =
    subst (λ (p : Phase). OnOk c.fire_at.result
    (c.fire_at.new.self ≡ (due_in p c.args.step.now.config.now (snapshot_of c.args.step.now.snapshot) c.args.what (record c.args.self.now { phase = p }) c.args.output.now).call))
    c.in-Established.ensures.value c.fire_at.ensures.call

pub returns-in-Established-clause-output : goal.returns-in-Established-clause-output
returns-in-Established-clause-output c =
    subst (λ (p : Phase). OnOk c.fire_at.result
    (c.fire_at.new.output ≡ (due_in p c.args.step.now.config.now (snapshot_of c.args.step.now.snapshot) c.args.what (record c.args.self.now { phase = p }) c.args.output.now).output))
    c.in-Established.ensures.value c.fire_at.ensures.output

pub returns-in-Detached-clause-call : goal.returns-in-Detached-clause-call
returns-in-Detached-clause-call c =
    subst (λ (p : Phase). OnOk c.stay.result (c.stay.new.self
    ≡ (due_in p c.args.step.now.config.now (snapshot_of c.args.step.now.snapshot) c.args.what (record c.args.self.now { phase = p }) c.args.output.now).call))
    c.in-Detached.ensures.value (always c.stay.result c.stay.ensures)

pub returns-in-Detached-clause-output : goal.returns-in-Detached-clause-output
returns-in-Detached-clause-output c =
    subst (λ (p : Phase). OnOk c.stay.result (c.args.output.now
    ≡ (due_in p c.args.step.now.config.now (snapshot_of c.args.step.now.snapshot) c.args.what (record c.args.self.now { phase = p }) c.args.output.now).output))
    c.in-Detached.ensures.value (always c.stay.result refl)

pub returns-in-Over-clause-call : goal.returns-in-Over-clause-call
returns-in-Over-clause-call c =
    subst (λ (p : Phase). OnOk c.stay-in-Over.result (c.stay-in-Over.new.self
    ≡ (due_in p c.args.step.now.config.now (snapshot_of c.args.step.now.snapshot) c.args.what (record c.args.self.now { phase = p }) c.args.output.now).call))
    c.in-Over.ensures.value (always c.stay-in-Over.result c.stay-in-Over.ensures)

pub returns-in-Over-clause-output : goal.returns-in-Over-clause-output
returns-in-Over-clause-output c =
    subst (λ (p : Phase). OnOk c.stay-in-Over.result (c.args.output.now
    ≡ (due_in p c.args.step.now.config.now (snapshot_of c.args.step.now.snapshot) c.args.what (record c.args.self.now { phase = p }) c.args.output.now).output))
    c.in-Over.ensures.value (always c.stay-in-Over.result refl)

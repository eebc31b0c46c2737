-- what is done is stated by the phase that was replaced
use Rattle.std.proofs.Common.{◌≡◌, Result, Ok, Err, OnOk, refl, subst}
use Rattle.mmtel_call.specs.Calls.{Phase}
use Rattle.mmtel_call.specs.Table.{ack_in}
use Rattle.mmtel_call.proofs.calls.Call.receive_ack.Goals as goal

always : {T E P : Type 0} (r : Result T E) → P → OnOk r P
always (Ok x) p = p
always (Err e) p = tt

pub returns-in-Established-clause-call : goal.returns-in-Established-clause-call
returns-in-Established-clause-call c =
    subst (λ (p : Phase). OnOk c.receive_ack_at.result
    (c.receive_ack_at.new.self ≡ (ack_in p c.args.step.now.config.now c.args.step.now.snapshot.at c.args.side c.args.message.now (record c.args.self.now { phase = p }) c.args.output.now).call))
    c.in-Established.ensures.value c.receive_ack_at.ensures.call

pub returns-in-Established-clause-output : goal.returns-in-Established-clause-output
returns-in-Established-clause-output c =
    subst (λ (p : Phase). OnOk c.receive_ack_at.result
    (c.receive_ack_at.new.output ≡ (ack_in p c.args.step.now.config.now c.args.step.now.snapshot.at c.args.side c.args.message.now (record c.args.self.now { phase = p }) c.args.output.now).output))
    c.in-Established.ensures.value c.receive_ack_at.ensures.output

pub returns-in-Offered-clause-call : goal.returns-in-Offered-clause-call
returns-in-Offered-clause-call c =
    subst (λ (p : Phase). OnOk c.stay.result (c.stay.new.self
    ≡ (ack_in p c.args.step.now.config.now c.args.step.now.snapshot.at c.args.side c.args.message.now (record c.args.self.now { phase = p }) c.args.output.now).call))
    c.in-Offered.ensures.value (always c.stay.result c.stay.ensures)

pub returns-in-Offered-clause-output : goal.returns-in-Offered-clause-output
returns-in-Offered-clause-output c =
    subst (λ (p : Phase). OnOk c.stay.result (c.args.output.now
    ≡ (ack_in p c.args.step.now.config.now c.args.step.now.snapshot.at c.args.side c.args.message.now (record c.args.self.now { phase = p }) c.args.output.now).output))
    c.in-Offered.ensures.value (always c.stay.result refl)

pub returns-in-Detached-clause-call : goal.returns-in-Detached-clause-call
returns-in-Detached-clause-call c =
    subst (λ (p : Phase). OnOk c.stay-in-Detached.result (c.stay-in-Detached.new.self
    ≡ (ack_in p c.args.step.now.config.now c.args.step.now.snapshot.at c.args.side c.args.message.now (record c.args.self.now { phase = p }) c.args.output.now).call))
    c.in-Detached.ensures.value (always c.stay-in-Detached.result c.stay-in-Detached.ensures)

pub returns-in-Detached-clause-output : goal.returns-in-Detached-clause-output
returns-in-Detached-clause-output c =
    subst (λ (p : Phase). OnOk c.stay-in-Detached.result (c.args.output.now
    ≡ (ack_in p c.args.step.now.config.now c.args.step.now.snapshot.at c.args.side c.args.message.now (record c.args.self.now { phase = p }) c.args.output.now).output))
    c.in-Detached.ensures.value (always c.stay-in-Detached.result refl)

pub returns-in-Over-clause-call : goal.returns-in-Over-clause-call
returns-in-Over-clause-call c =
    subst (λ (p : Phase). OnOk c.stay-in-Over.result (c.stay-in-Over.new.self
    ≡ (ack_in p c.args.step.now.config.now c.args.step.now.snapshot.at c.args.side c.args.message.now (record c.args.self.now { phase = p }) c.args.output.now).call))
    c.in-Over.ensures.value (always c.stay-in-Over.result c.stay-in-Over.ensures)

pub returns-in-Over-clause-output : goal.returns-in-Over-clause-output
returns-in-Over-clause-output c =
    subst (λ (p : Phase). OnOk c.stay-in-Over.result (c.args.output.now
    ≡ (ack_in p c.args.step.now.config.now c.args.step.now.snapshot.at c.args.side c.args.message.now (record c.args.self.now { phase = p }) c.args.output.now).output))
    c.in-Over.ensures.value (always c.stay-in-Over.result refl)

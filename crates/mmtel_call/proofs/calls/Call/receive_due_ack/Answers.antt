-- what is done is stated by the stage that the call had
use Rattle.std.proofs.Common.{◌≡◌, Result, Ok, Err, OnOk, refl, subst, sym}
use Rattle.mmtel_call.specs.Calls.{Established, Stage}
use Rattle.mmtel_call.specs.Stages.{after_ack_at}
use Rattle.mmtel_call.proofs.calls.Call.receive_due_ack.Goals as goal

always : {T E P : Type 0} (r : Result T E) → P → OnOk r P
always (Ok x) p = p
always (Err e) p = tt

pub returns-in-Answered-clause-call : goal.returns-in-Answered-clause-call
returns-in-Answered-clause-call c =
    subst (λ (s : Stage). OnOk c.acknowledge_across-acked.result (c.acknowledge_across-acked.new.self
    ≡ (after_ack_at s c.args.step.now.config.now c.args.step.now.snapshot.at c.args.legs c.args.side c.args.message.now (record c.args.self.now { phase = Established c.args.legs s }) c.args.output.now).call))
    (sym c.in-Answered.is) c.acknowledge_across-acked.ensures.call

pub returns-in-Answered-clause-output : goal.returns-in-Answered-clause-output
returns-in-Answered-clause-output c =
    subst (λ (s : Stage). OnOk c.acknowledge_across-acked.result (c.acknowledge_across-acked.new.output
    ≡ (after_ack_at s c.args.step.now.config.now c.args.step.now.snapshot.at c.args.legs c.args.side c.args.message.now (record c.args.self.now { phase = Established c.args.legs s }) c.args.output.now).output))
    (sym c.in-Answered.is) c.acknowledge_across-acked.ensures.output

pub returns-in-Departing-clause-call : goal.returns-in-Departing-clause-call
returns-in-Departing-clause-call c =
    subst (λ (s : Stage). OnOk c.end_departing.result (c.end_departing.new.self
    ≡ (after_ack_at s c.args.step.now.config.now c.args.step.now.snapshot.at c.args.legs c.args.side c.args.message.now (record c.args.self.now { phase = Established c.args.legs s }) c.args.output.now).call))
    (sym c.in-Departing.is) c.end_departing.ensures.call

pub returns-in-Departing-clause-output : goal.returns-in-Departing-clause-output
returns-in-Departing-clause-output c =
    subst (λ (s : Stage). OnOk c.end_departing.result (c.end_departing.new.output
    ≡ (after_ack_at s c.args.step.now.config.now c.args.step.now.snapshot.at c.args.legs c.args.side c.args.message.now (record c.args.self.now { phase = Established c.args.legs s }) c.args.output.now).output))
    (sym c.in-Departing.is) c.end_departing.ensures.output

pub returns-in-Stable-clause-call : goal.returns-in-Stable-clause-call
returns-in-Stable-clause-call c =
    subst (λ (s : Stage). OnOk c.stay.result (c.stay.new.self
    ≡ (after_ack_at s c.args.step.now.config.now c.args.step.now.snapshot.at c.args.legs c.args.side c.args.message.now (record c.args.self.now { phase = Established c.args.legs s }) c.args.output.now).call))
    (sym c.in-Stable.is) (always c.stay.result c.stay.ensures)

pub returns-in-Stable-clause-output : goal.returns-in-Stable-clause-output
returns-in-Stable-clause-output c =
    subst (λ (s : Stage). OnOk c.stay.result (c.args.output.now
    ≡ (after_ack_at s c.args.step.now.config.now c.args.step.now.snapshot.at c.args.legs c.args.side c.args.message.now (record c.args.self.now { phase = Established c.args.legs s }) c.args.output.now).output))
    (sym c.in-Stable.is) (always c.stay.result refl)

pub returns-in-Reinviting-clause-call : goal.returns-in-Reinviting-clause-call
returns-in-Reinviting-clause-call c =
    subst (λ (s : Stage). OnOk c.stay-in-Reinviting.result (c.stay-in-Reinviting.new.self
    ≡ (after_ack_at s c.args.step.now.config.now c.args.step.now.snapshot.at c.args.legs c.args.side c.args.message.now (record c.args.self.now { phase = Established c.args.legs s }) c.args.output.now).call))
    (sym c.in-Reinviting.is) (always c.stay-in-Reinviting.result c.stay-in-Reinviting.ensures)

pub returns-in-Reinviting-clause-output : goal.returns-in-Reinviting-clause-output
returns-in-Reinviting-clause-output c =
    subst (λ (s : Stage). OnOk c.stay-in-Reinviting.result (c.args.output.now
    ≡ (after_ack_at s c.args.step.now.config.now c.args.step.now.snapshot.at c.args.legs c.args.side c.args.message.now (record c.args.self.now { phase = Established c.args.legs s }) c.args.output.now).output))
    (sym c.in-Reinviting.is) (always c.stay-in-Reinviting.result refl)

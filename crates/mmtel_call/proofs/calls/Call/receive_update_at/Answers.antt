-- what is done is stated by the stage that the call had
use Rattle.std.proofs.Common.{◌≡◌, OnOk, subst, sym}
use Rattle.mmtel_call.specs.Calls.{Established, Stage}
use Rattle.mmtel_call.specs.Updates.{on_update_at}
use Rattle.mmtel_call.proofs.calls.Call.receive_update_at.Goals as goal

pub returns-in-Stable-clause-call : goal.returns-in-Stable-clause-call
returns-in-Stable-clause-call c =
    subst (λ (s : Stage). OnOk c.receive_update_stable.result (c.receive_update_stable.new.self
    ≡ (on_update_at s c.args.step.now.config.now c.args.legs c.args.request.side c.args.request.key c.args.request.message (record c.args.self.now { phase = Established c.args.legs s }) c.args.output.now).call))
    (sym c.in-Stable.is) c.receive_update_stable.ensures.call

pub returns-in-Stable-clause-output : goal.returns-in-Stable-clause-output
returns-in-Stable-clause-output c =
    subst (λ (s : Stage). OnOk c.receive_update_stable.result (c.receive_update_stable.new.output
    ≡ (on_update_at s c.args.step.now.config.now c.args.legs c.args.request.side c.args.request.key c.args.request.message (record c.args.self.now { phase = Established c.args.legs s }) c.args.output.now).output))
    (sym c.in-Stable.is) c.receive_update_stable.ensures.output

pub returns-in-Answered-clause-call : goal.returns-in-Answered-clause-call
returns-in-Answered-clause-call c =
    subst (λ (s : Stage). OnOk c.refuse_update.result (c.refuse_update.new.self
    ≡ (on_update_at s c.args.step.now.config.now c.args.legs c.args.request.side c.args.request.key c.args.request.message (record c.args.self.now { phase = Established c.args.legs s }) c.args.output.now).call))
    (sym c.in-Answered.is) c.refuse_update.ensures.call

pub returns-in-Answered-clause-output : goal.returns-in-Answered-clause-output
returns-in-Answered-clause-output c =
    subst (λ (s : Stage). OnOk c.refuse_update.result (c.refuse_update.new.output
    ≡ (on_update_at s c.args.step.now.config.now c.args.legs c.args.request.side c.args.request.key c.args.request.message (record c.args.self.now { phase = Established c.args.legs s }) c.args.output.now).output))
    (sym c.in-Answered.is) c.refuse_update.ensures.output

pub returns-in-Departing-clause-call : goal.returns-in-Departing-clause-call
returns-in-Departing-clause-call c =
    subst (λ (s : Stage). OnOk c.refuse_update-in-Departing.result (c.refuse_update-in-Departing.new.self
    ≡ (on_update_at s c.args.step.now.config.now c.args.legs c.args.request.side c.args.request.key c.args.request.message (record c.args.self.now { phase = Established c.args.legs s }) c.args.output.now).call))
    (sym c.in-Departing.is) c.refuse_update-in-Departing.ensures.call

pub returns-in-Departing-clause-output : goal.returns-in-Departing-clause-output
returns-in-Departing-clause-output c =
    subst (λ (s : Stage). OnOk c.refuse_update-in-Departing.result (c.refuse_update-in-Departing.new.output
    ≡ (on_update_at s c.args.step.now.config.now c.args.legs c.args.request.side c.args.request.key c.args.request.message (record c.args.self.now { phase = Established c.args.legs s }) c.args.output.now).output))
    (sym c.in-Departing.is) c.refuse_update-in-Departing.ensures.output

pub returns-in-Reinviting-clause-call : goal.returns-in-Reinviting-clause-call
returns-in-Reinviting-clause-call c =
    subst (λ (s : Stage). OnOk c.refuse_update-in-Reinviting.result (c.refuse_update-in-Reinviting.new.self
    ≡ (on_update_at s c.args.step.now.config.now c.args.legs c.args.request.side c.args.request.key c.args.request.message (record c.args.self.now { phase = Established c.args.legs s }) c.args.output.now).call))
    (sym c.in-Reinviting.is) c.refuse_update-in-Reinviting.ensures.call

pub returns-in-Reinviting-clause-output : goal.returns-in-Reinviting-clause-output
returns-in-Reinviting-clause-output c =
    subst (λ (s : Stage). OnOk c.refuse_update-in-Reinviting.result (c.refuse_update-in-Reinviting.new.output
    ≡ (on_update_at s c.args.step.now.config.now c.args.legs c.args.request.side c.args.request.key c.args.request.message (record c.args.self.now { phase = Established c.args.legs s }) c.args.output.now).output))
    (sym c.in-Reinviting.is) c.refuse_update-in-Reinviting.ensures.output

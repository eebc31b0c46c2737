-- what is done is stated by the stage that the call had
use Rattle.std.proofs.Common.{◌≡◌, OnOk, refl, subst, sym}
use Rattle.mmtel_call.specs.Calls.{Established, Stage}
use Rattle.mmtel_call.specs.Stages.{on_invite}
use Rattle.mmtel_call.proofs.calls.Call.receive_invite.Goals as goal

pub returns-in-Stable-clause-call : goal.returns-in-Stable-clause-call
returns-in-Stable-clause-call c =
    subst (λ (s : Stage). OnOk c.relay_invite_across.result (c.relay_invite_across.new.self
    ≡ (on_invite s c.args.step.now.config.now c.args.legs c.args.request.side c.args.request.key c.args.request.message (record c.args.self.now { phase = Established c.args.legs s }) c.args.output.now).call))
    (sym c.in-Stable.is) c.relay_invite_across.ensures.call

pub returns-in-Stable-clause-output : goal.returns-in-Stable-clause-output
returns-in-Stable-clause-output c =
    subst (λ (s : Stage). OnOk c.relay_invite_across.result (c.relay_invite_across.new.output
    ≡ (on_invite s c.args.step.now.config.now c.args.legs c.args.request.side c.args.request.key c.args.request.message (record c.args.self.now { phase = Established c.args.legs s }) c.args.output.now).output))
    (sym c.in-Stable.is) c.relay_invite_across.ensures.output

pub returns-in-Answered-clause-call : goal.returns-in-Answered-clause-call
returns-in-Answered-clause-call c =
    subst (λ (s : Stage). c.skip_request.new.self
    ≡ (on_invite s c.args.step.now.config.now c.args.legs c.args.request.side c.args.request.key c.args.request.message (record c.args.self.now { phase = Established c.args.legs s }) c.args.output.now).call)
    (sym c.in-Answered.is) c.skip_request.ensures

pub returns-in-Answered-clause-output : goal.returns-in-Answered-clause-output
returns-in-Answered-clause-output c =
    subst (λ (s : Stage). c.args.output.now
    ≡ (on_invite s c.args.step.now.config.now c.args.legs c.args.request.side c.args.request.key c.args.request.message (record c.args.self.now { phase = Established c.args.legs s }) c.args.output.now).output)
    (sym c.in-Answered.is) refl

pub returns-in-Departing-clause-call : goal.returns-in-Departing-clause-call
returns-in-Departing-clause-call c =
    subst (λ (s : Stage). c.skip_request-in-Departing.new.self
    ≡ (on_invite s c.args.step.now.config.now c.args.legs c.args.request.side c.args.request.key c.args.request.message (record c.args.self.now { phase = Established c.args.legs s }) c.args.output.now).call)
    (sym c.in-Departing.is) c.skip_request-in-Departing.ensures

pub returns-in-Departing-clause-output : goal.returns-in-Departing-clause-output
returns-in-Departing-clause-output c =
    subst (λ (s : Stage). c.args.output.now
    ≡ (on_invite s c.args.step.now.config.now c.args.legs c.args.request.side c.args.request.key c.args.request.message (record c.args.self.now { phase = Established c.args.legs s }) c.args.output.now).output)
    (sym c.in-Departing.is) refl

pub returns-in-Reinviting-clause-call : goal.returns-in-Reinviting-clause-call
returns-in-Reinviting-clause-call c =
    subst (λ (s : Stage). c.skip_request-in-Reinviting.new.self
    ≡ (on_invite s c.args.step.now.config.now c.args.legs c.args.request.side c.args.request.key c.args.request.message (record c.args.self.now { phase = Established c.args.legs s }) c.args.output.now).call)
    (sym c.in-Reinviting.is) c.skip_request-in-Reinviting.ensures

pub returns-in-Reinviting-clause-output : goal.returns-in-Reinviting-clause-output
returns-in-Reinviting-clause-output c =
    subst (λ (s : Stage). c.args.output.now
    ≡ (on_invite s c.args.step.now.config.now c.args.legs c.args.request.side c.args.request.key c.args.request.message (record c.args.self.now { phase = Established c.args.legs s }) c.args.output.now).output)
    (sym c.in-Reinviting.is) refl

-- what is done is stated by the stage that the call had
use Rattle.std.proofs.Common.{◌≡◌, OnOk, subst, sym}
use Rattle.mmtel_call.specs.Calls.{Established, Stage}
use Rattle.mmtel_call.specs.Stages.{after_bye_at}
use Rattle.mmtel_call.proofs.calls.Call.end_by_bye.Goals as goal

pub returns-in-Answered-clause-call : goal.returns-in-Answered-clause-call
returns-in-Answered-clause-call c =
    subst (λ (s : Stage). OnOk c.receive_bye_before_ack.result (c.receive_bye_before_ack.new.self
    ≡ (after_bye_at s c.args.step.now.config.now c.args.step.now.snapshot.at c.args.legs c.args.side c.args.message.now (record c.args.self.now { phase = Established c.args.legs s }) c.args.output.now).call))
    (sym c.in-Answered.is) c.receive_bye_before_ack.ensures.call

pub returns-in-Answered-clause-output : goal.returns-in-Answered-clause-output
returns-in-Answered-clause-output c =
    subst (λ (s : Stage). OnOk c.receive_bye_before_ack.result (c.receive_bye_before_ack.new.output
    ≡ (after_bye_at s c.args.step.now.config.now c.args.step.now.snapshot.at c.args.legs c.args.side c.args.message.now (record c.args.self.now { phase = Established c.args.legs s }) c.args.output.now).output))
    (sym c.in-Answered.is) c.receive_bye_before_ack.ensures.output

pub returns-in-Departing-clause-call : goal.returns-in-Departing-clause-call
returns-in-Departing-clause-call c =
    subst (λ (s : Stage). OnOk c.end_established.result (c.end_established.new.self
    ≡ (after_bye_at s c.args.step.now.config.now c.args.step.now.snapshot.at c.args.legs c.args.side c.args.message.now (record c.args.self.now { phase = Established c.args.legs s }) c.args.output.now).call))
    (sym c.in-Departing.is) c.end_established.ensures.call

pub returns-in-Departing-clause-output : goal.returns-in-Departing-clause-output
returns-in-Departing-clause-output c =
    subst (λ (s : Stage). OnOk c.end_established.result (c.end_established.new.output
    ≡ (after_bye_at s c.args.step.now.config.now c.args.step.now.snapshot.at c.args.legs c.args.side c.args.message.now (record c.args.self.now { phase = Established c.args.legs s }) c.args.output.now).output))
    (sym c.in-Departing.is) c.end_established.ensures.output

pub returns-in-Stable-clause-call : goal.returns-in-Stable-clause-call
returns-in-Stable-clause-call c =
    subst (λ (s : Stage). OnOk c.receive_bye_across.result (c.receive_bye_across.new.self
    ≡ (after_bye_at s c.args.step.now.config.now c.args.step.now.snapshot.at c.args.legs c.args.side c.args.message.now (record c.args.self.now { phase = Established c.args.legs s }) c.args.output.now).call))
    (sym c.in-Stable.is) c.receive_bye_across.ensures.call

pub returns-in-Stable-clause-output : goal.returns-in-Stable-clause-output
returns-in-Stable-clause-output c =
    subst (λ (s : Stage). OnOk c.receive_bye_across.result (c.receive_bye_across.new.output
    ≡ (after_bye_at s c.args.step.now.config.now c.args.step.now.snapshot.at c.args.legs c.args.side c.args.message.now (record c.args.self.now { phase = Established c.args.legs s }) c.args.output.now).output))
    (sym c.in-Stable.is) c.receive_bye_across.ensures.output

pub returns-in-Reinviting-clause-call : goal.returns-in-Reinviting-clause-call
returns-in-Reinviting-clause-call c =
    subst (λ (s : Stage). OnOk c.receive_bye_reinviting.result (c.receive_bye_reinviting.new.self
    ≡ (after_bye_at s c.args.step.now.config.now c.args.step.now.snapshot.at c.args.legs c.args.side c.args.message.now (record c.args.self.now { phase = Established c.args.legs s }) c.args.output.now).call))
    (sym c.in-Reinviting.is) c.receive_bye_reinviting.ensures.call

pub returns-in-Reinviting-clause-output : goal.returns-in-Reinviting-clause-output
returns-in-Reinviting-clause-output c =
    subst (λ (s : Stage). OnOk c.receive_bye_reinviting.result (c.receive_bye_reinviting.new.output
    ≡ (after_bye_at s c.args.step.now.config.now c.args.step.now.snapshot.at c.args.legs c.args.side c.args.message.now (record c.args.self.now { phase = Established c.args.legs s }) c.args.output.now).output))
    (sym c.in-Reinviting.is) c.receive_bye_reinviting.ensures.output

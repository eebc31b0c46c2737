-- what is done is stated by the stage that the call had
use Rattle.std.proofs.Common.{◌≡◌, OnOk, subst, sym}
use Rattle.mmtel_call.specs.Calls.{Established, Stage}
use Rattle.mmtel_call.specs.Stages.{after_timer_at}
use Rattle.mmtel_call.proofs.calls.Call.fire_stage_timer.Goals as goal

pub returns-in-Answered-clause-call : goal.returns-in-Answered-clause-call
returns-in-Answered-clause-call c =
    subst (λ (s : Stage). OnOk c.end_unacknowledged.result (c.end_unacknowledged.new.self
    ≡ (after_timer_at s c.args.step.now.config.now c.args.step.now.snapshot.at c.args.legs (record c.args.self.now { phase = Established c.args.legs s }) c.args.output.now).call))
    (sym c.in-Answered.is) c.end_unacknowledged.ensures.call

pub returns-in-Answered-clause-output : goal.returns-in-Answered-clause-output
returns-in-Answered-clause-output c =
    subst (λ (s : Stage). OnOk c.end_unacknowledged.result (c.end_unacknowledged.new.output
    ≡ (after_timer_at s c.args.step.now.config.now c.args.step.now.snapshot.at c.args.legs (record c.args.self.now { phase = Established c.args.legs s }) c.args.output.now).output))
    (sym c.in-Answered.is) c.end_unacknowledged.ensures.output

pub returns-in-Departing-clause-call : goal.returns-in-Departing-clause-call
returns-in-Departing-clause-call c =
    subst (λ (s : Stage). OnOk c.end_departing.result (c.end_departing.new.self
    ≡ (after_timer_at s c.args.step.now.config.now c.args.step.now.snapshot.at c.args.legs (record c.args.self.now { phase = Established c.args.legs s }) c.args.output.now).call))
    (sym c.in-Departing.is) c.end_departing.ensures.call

pub returns-in-Departing-clause-output : goal.returns-in-Departing-clause-output
returns-in-Departing-clause-output c =
    subst (λ (s : Stage). OnOk c.end_departing.result (c.end_departing.new.output
    ≡ (after_timer_at s c.args.step.now.config.now c.args.step.now.snapshot.at c.args.legs (record c.args.self.now { phase = Established c.args.legs s }) c.args.output.now).output))
    (sym c.in-Departing.is) c.end_departing.ensures.output

pub returns-in-Stable-clause-call : goal.returns-in-Stable-clause-call
returns-in-Stable-clause-call c =
    subst (λ (s : Stage). OnOk c.expire.result (c.expire.new.self
    ≡ (after_timer_at s c.args.step.now.config.now c.args.step.now.snapshot.at c.args.legs (record c.args.self.now { phase = Established c.args.legs s }) c.args.output.now).call))
    (sym c.in-Stable.is) c.expire.ensures.call

pub returns-in-Stable-clause-output : goal.returns-in-Stable-clause-output
returns-in-Stable-clause-output c =
    subst (λ (s : Stage). OnOk c.expire.result (c.expire.new.output
    ≡ (after_timer_at s c.args.step.now.config.now c.args.step.now.snapshot.at c.args.legs (record c.args.self.now { phase = Established c.args.legs s }) c.args.output.now).output))
    (sym c.in-Stable.is) c.expire.ensures.output

pub returns-in-Reinviting-clause-call : goal.returns-in-Reinviting-clause-call
returns-in-Reinviting-clause-call c =
    subst (λ (s : Stage). OnOk c.expire_reinviting.result (c.expire_reinviting.new.self
    ≡ (after_timer_at s c.args.step.now.config.now c.args.step.now.snapshot.at c.args.legs (record c.args.self.now { phase = Established c.args.legs s }) c.args.output.now).call))
    (sym c.in-Reinviting.is) c.expire_reinviting.ensures.call

pub returns-in-Reinviting-clause-output : goal.returns-in-Reinviting-clause-output
returns-in-Reinviting-clause-output c =
    subst (λ (s : Stage). OnOk c.expire_reinviting.result (c.expire_reinviting.new.output
    ≡ (after_timer_at s c.args.step.now.config.now c.args.step.now.snapshot.at c.args.legs (record c.args.self.now { phase = Established c.args.legs s }) c.args.output.now).output))
    (sym c.in-Reinviting.is) c.expire_reinviting.ensures.output

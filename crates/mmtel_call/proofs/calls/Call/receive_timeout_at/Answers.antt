-- what is done is stated by the stage that the call had
use Rattle.std.proofs.Common.{◌≡◌, Result, Ok, Err, OnOk, refl, subst, sym}
use Rattle.mmtel_call.specs.Calls.{Established, Stage}
use Rattle.mmtel_call.specs.Stages.{on_timeout_at}
use Rattle.mmtel_call.proofs.calls.Call.receive_timeout_at.Goals as goal

always : {T E P : Type 0} (r : Result T E) → P → OnOk r P
always (Ok x) p = p
always (Err e) p = tt

pub returns-in-Answered-clause-call : goal.returns-in-Answered-clause-call
returns-in-Answered-clause-call c =
    subst (λ (s : Stage). OnOk c.stay.result (c.stay.new.self
    ≡ (on_timeout_at s c.args.step.now.config.now c.args.step.now.snapshot.at c.args.legs (record c.args.self.now { phase = Established c.args.legs s }) c.args.output.now).call))
    (sym c.in-Answered.is) (always c.stay.result c.stay.ensures)

pub returns-in-Answered-clause-output : goal.returns-in-Answered-clause-output
returns-in-Answered-clause-output c =
    subst (λ (s : Stage). OnOk c.stay.result (c.args.output.now
    ≡ (on_timeout_at s c.args.step.now.config.now c.args.step.now.snapshot.at c.args.legs (record c.args.self.now { phase = Established c.args.legs s }) c.args.output.now).output))
    (sym c.in-Answered.is) (always c.stay.result refl)

pub returns-in-Departing-clause-call : goal.returns-in-Departing-clause-call
returns-in-Departing-clause-call c =
    subst (λ (s : Stage). OnOk c.stay-in-Departing.result (c.stay-in-Departing.new.self
    ≡ (on_timeout_at s c.args.step.now.config.now c.args.step.now.snapshot.at c.args.legs (record c.args.self.now { phase = Established c.args.legs s }) c.args.output.now).call))
    (sym c.in-Departing.is) (always c.stay-in-Departing.result c.stay-in-Departing.ensures)

pub returns-in-Departing-clause-output : goal.returns-in-Departing-clause-output
returns-in-Departing-clause-output c =
    subst (λ (s : Stage). OnOk c.stay-in-Departing.result (c.args.output.now
    ≡ (on_timeout_at s c.args.step.now.config.now c.args.step.now.snapshot.at c.args.legs (record c.args.self.now { phase = Established c.args.legs s }) c.args.output.now).output))
    (sym c.in-Departing.is) (always c.stay-in-Departing.result refl)

pub returns-in-Stable-clause-call : goal.returns-in-Stable-clause-call
returns-in-Stable-clause-call c =
    subst (λ (s : Stage). OnOk c.stay-in-Stable.result (c.stay-in-Stable.new.self
    ≡ (on_timeout_at s c.args.step.now.config.now c.args.step.now.snapshot.at c.args.legs (record c.args.self.now { phase = Established c.args.legs s }) c.args.output.now).call))
    (sym c.in-Stable.is) (always c.stay-in-Stable.result c.stay-in-Stable.ensures)

pub returns-in-Stable-clause-output : goal.returns-in-Stable-clause-output
returns-in-Stable-clause-output c =
    subst (λ (s : Stage). OnOk c.stay-in-Stable.result (c.args.output.now
    ≡ (on_timeout_at s c.args.step.now.config.now c.args.step.now.snapshot.at c.args.legs (record c.args.self.now { phase = Established c.args.legs s }) c.args.output.now).output))
    (sym c.in-Stable.is) (always c.stay-in-Stable.result refl)

pub returns-in-Reinviting-clause-call : goal.returns-in-Reinviting-clause-call
returns-in-Reinviting-clause-call c =
    subst (λ (s : Stage). OnOk c.end_by_timeout.result (c.end_by_timeout.new.self
    ≡ (on_timeout_at s c.args.step.now.config.now c.args.step.now.snapshot.at c.args.legs (record c.args.self.now { phase = Established c.args.legs s }) c.args.output.now).call))
    (sym c.in-Reinviting.is) c.end_by_timeout.ensures.call

pub returns-in-Reinviting-clause-output : goal.returns-in-Reinviting-clause-output
returns-in-Reinviting-clause-output c =
    subst (λ (s : Stage). OnOk c.end_by_timeout.result (c.end_by_timeout.new.output
    ≡ (on_timeout_at s c.args.step.now.config.now c.args.step.now.snapshot.at c.args.legs (record c.args.self.now { phase = Established c.args.legs s }) c.args.output.now).output))
    (sym c.in-Reinviting.is) c.end_by_timeout.ensures.output

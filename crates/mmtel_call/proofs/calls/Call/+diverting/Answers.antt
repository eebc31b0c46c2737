-- the cause that refuses a diversion, and the result where nothing does
use Rattle.std.proofs.Common.{◌≡◌, ◌∙◌, OnOk, Some, sym, subst}
use Rattle.std.specs.Option.{option_copied}
use Rattle.mmtel_precedence.specs.Views.{due_diversion_view}
use Rattle.mmtel_call_services.specs.CallConfig.{snapshot_of}
use Rattle.mmtel_call.specs.Closing.{StepResult}
use Rattle.mmtel_call.specs.Diverting.{diversion_refusal}
use Rattle.mmtel_call.proofs.DueDiversions.{divert-refused, divert-step, some-left}
use Rattle.mmtel_call.proofs.calls.Call.+diverting.Goals as goal

pub divert-returns-in-Some-clause-call : goal.divert-returns-in-Some-clause-call
divert-returns-in-Some-clause-call t c =
    let refusal : diversion_refusal c.args.self.now.diversions.remaining c.args.step.now.config.now c.args.step.now.snapshot.at (option_copied c.args.service)
    (due_diversion_view c.args.due.now) c.args.self.now ≡ Some c.in-Some.cause = sym c.in-Ok.ensures.refusal ∙ c.in-Some.is in
    let same = divert-refused c.args.self.now.diversions.remaining c.args.step.now.config.now (snapshot_of c.args.step.now.snapshot) c.args.caller (option_copied c.args.service)
    (due_diversion_view c.args.due.now) c.args.self.now c.args.output.now c.in-Some.cause refusal in
    subst (λ (s : StepResult). OnOk c.refuse.result (c.refuse.new.self ≡ s.call)) (sym same) c.refuse.ensures.call

pub divert-returns-in-Some-clause-output : goal.divert-returns-in-Some-clause-output
divert-returns-in-Some-clause-output t c =
    let refusal : diversion_refusal c.args.self.now.diversions.remaining c.args.step.now.config.now c.args.step.now.snapshot.at (option_copied c.args.service)
    (due_diversion_view c.args.due.now) c.args.self.now ≡ Some c.in-Some.cause = sym c.in-Ok.ensures.refusal ∙ c.in-Some.is in
    let same = divert-refused c.args.self.now.diversions.remaining c.args.step.now.config.now (snapshot_of c.args.step.now.snapshot) c.args.caller (option_copied c.args.service)
    (due_diversion_view c.args.due.now) c.args.self.now c.args.output.now c.in-Some.cause refusal in
    subst (λ (s : StepResult). OnOk c.refuse.result (c.refuse.new.output ≡ s.output)) (sym same) c.refuse.ensures.output

pub divert_to-make_diversion-requires : goal.divert_to-make_diversion-requires
divert_to-make_diversion-requires t c =
    some-left c.args.self.now.diversions.remaining c.args.step.now.config.now c.args.step.now.snapshot.at (option_copied c.args.service) (due_diversion_view c.args.due.now) c.args.self.now c.requires.passed

pub divert_to-returns-in-Ok-clause-call : goal.divert_to-returns-in-Ok-clause-call
divert_to-returns-in-Ok-clause-call t c =
    let same =
    divert-step c.args.self.now.diversions.remaining c.args.step.now.config.now (snapshot_of c.args.step.now.snapshot) c.args.caller (option_copied c.args.service) (due_diversion_view c.args.due.now)
    c.args.self.now c.args.output.now c.args.target c.make_diversion.new.self c.make_diversion.new.output c.requires.passed c.requires.target c.in-Ok.ensures.call c.in-Ok.ensures.output in
    subst (λ (s : StepResult). OnOk c.reach_target.result (c.reach_target.new.self ≡ s.call)) same c.reach_target.ensures.call

pub divert_to-returns-in-Ok-clause-output : goal.divert_to-returns-in-Ok-clause-output
divert_to-returns-in-Ok-clause-output t c =
    let same =
    divert-step c.args.self.now.diversions.remaining c.args.step.now.config.now (snapshot_of c.args.step.now.snapshot) c.args.caller (option_copied c.args.service) (due_diversion_view c.args.due.now)
    c.args.self.now c.args.output.now c.args.target c.make_diversion.new.self c.make_diversion.new.output c.requires.passed c.requires.target c.in-Ok.ensures.call c.in-Ok.ensures.output in
    subst (λ (s : StepResult). OnOk c.reach_target.result (c.reach_target.new.output ≡ s.output)) same c.reach_target.ensures.output

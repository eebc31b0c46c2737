-- the number of the response is that under which it is processed
use Rattle.std.proofs.Common.{◌≡◌, ℕ, Option, Some, OnOk, subst}
use Rattle.mmtel_call_services.specs.Reliable.{reliable_number}
use Rattle.mmtel_call.specs.Ringing.{on_provisional_by}
use Rattle.mmtel_call.proofs.calls.Call.receive_provisional.Goals as goal

pub returns-in-Ok-Some-clause-output : goal.returns-in-Ok-Some-clause-output
returns-in-Ok-Some-clause-output c =
    let number : Some c.in-Ok-Some.rseq ≡ reliable_number c.args.step.now.config.now c.args.self.now.opening c.args.message.now = rw c.in-Ok-Some.field-0-is at c.in-Ok-Some.ensures.exact in
    subst (λ (n : Option ℕ). OnOk c.receive_reliable.result (c.receive_reliable.new.output
    ≡ (on_provisional_by n c.args.step.now.config.now c.args.step.now.snapshot.at c.args.offered c.args.key c.args.message.now c.args.code c.args.self.now c.args.output.now).output))
    number c.receive_reliable.ensures.output

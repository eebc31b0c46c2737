use Rattle.std.proofs.Common.{ap, ◌∙◌}
use Rattle.mmtel_call.specs.declared.calls.Call.{Call}
use Rattle.mmtel_b2bua.proofs.DetachedLegs.{number_ended}
use Rattle.mmtel_b2bua.proofs.entries.Entry.finish.Goals as goal

pub returns-clause-number : goal.returns-clause-number
returns-clause-number c =
    ap (λ (call : Call). call.opening.number.0) c.in_ok-finish.ensures.call ∙ number_ended c.args.config.now c.args.at c.args.self.now.call c.args.output.now

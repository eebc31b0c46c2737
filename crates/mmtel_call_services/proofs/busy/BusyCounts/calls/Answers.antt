use Rattle.std.proofs.Common.{ap, ◌∙◌}
use Rattle.mmtel_call_services.specs.Busy.{calls_of, or_zero}
use Rattle.mmtel_call_services.proofs.Counting.{counted}
use Rattle.mmtel_call_services.proofs.busy.BusyCounts.calls.Goals as goal

pub returns-in-None : goal.returns-in-None
returns-in-None c =
    ap or_zero c.in-None.ensures.value
    ∙ counted c.self.inside.counts.entries c.args.account.0
    ∙ ap (λ counts. calls_of counts c.args.account.0) c.self.view_is

pub returns-in-Some : goal.returns-in-Some
returns-in-Some c =
    ap or_zero c.in-Some.ensures.value
    ∙ counted c.self.inside.counts.entries c.args.account.0
    ∙ ap (λ counts. calls_of counts c.args.account.0) c.self.view_is

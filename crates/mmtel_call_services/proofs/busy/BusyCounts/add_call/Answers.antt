use Rattle.std.proofs.Common.{◌+◌, ℕ, ap, sym, ◌∙◌}
use Rattle.mmtel_call_services.specs.Busy.{BusyCountsView, calls_of, one_of}
use Rattle.mmtel_call_services.proofs.Counting.{added}
use Rattle.mmtel_call_services.proofs.busy.BusyCounts.add_call.Goals as goal

pub returns-clause-more : goal.returns-clause-more
returns-clause-more c = λ number.
    added c.self.inside.counts.entries c.insert.new.self.entries c.args.account (c.calls-count.result + 1)
    (ap (λ (n : ℕ). n + 1) (c.calls-count.ensures ∙ ap (λ (v : BusyCountsView). calls_of v c.args.account.0) (sym c.self.view_is))) c.in_ok-insert.ensures.updates.0 number
    ∙ ap (λ (v : BusyCountsView). calls_of v number + one_of c.args.account number) c.self.view_is

use Rattle.std.proofs.Common.{◌≡◌, ◌-◌, ℕ, None, Some, arith, ap, sym, ◌∙◌}
use Rattle.std.specs.FinMap.{from_entries}
use Rattle.mmtel_call_services.specs.Busy.{BusyCountsView, calls_of, one_of, or_zero}
use Rattle.mmtel_call_services.proofs.Counting.{counted, removed}
use Rattle.mmtel_call_services.proofs.busy.BusyCounts.remove_call.Goals as goal

pub returns-then-count-le1 : goal.returns-then-count-le1
returns-then-count-le1 c =
    let old = c.self.inside.counts.entries in
    let had : c.calls-count.result ≡ calls_of (from_entries old) c.args.account.0 = c.calls-count.ensures ∙ ap (λ (v : BusyCountsView). calls_of v c.args.account.0) (sym c.self.view_is) in
    let few = c.if-count-le1.true in
    let none : 0 ≡ calls_of (from_entries old) c.args.account.0 - 1 = omega (arith, few, had) in
    record {
      less = λ number. removed old c.remove.new.self.entries c.args.account None none c.remove.ensures.updates.0 number ∙ ap (λ (v : BusyCountsView). calls_of v number - one_of c.args.account number) c.self.view_is;
    }

pub returns : goal.returns
returns c =
    let old = c.self.inside.counts.entries in
    let had : c.calls-count.result ≡ calls_of (from_entries old) c.args.account.0 = c.calls-count.ensures ∙ ap (λ (v : BusyCountsView). calls_of v c.args.account.0) (sym c.self.view_is) in
    record {
      less = λ number. removed old c.insert.new.self.entries c.args.account (Some (c.calls-count.result - 1)) (ap (λ (n : ℕ). n - 1) had) c.in-Ok.ensures.updates.0 number
          ∙ ap (λ (v : BusyCountsView). calls_of v number - one_of c.args.account number) c.self.view_is;
    }

pub unreachable-requires : goal.unreachable-requires
unreachable-requires c =
    let old = c.self.inside.counts.entries in
    let had : c.calls-count.result ≡ calls_of (from_entries old) c.args.account.0 = c.calls-count.ensures ∙ ap (λ (v : BusyCountsView). calls_of v c.args.account.0) (sym c.self.view_is) in
    let none : 0 ≡ calls_of (from_entries old) c.args.account.0 = ap or_zero (sym c.in-Err.ensures.absent) ∙ counted old c.args.account.0 in
    let many = c.if-count-le1.false in
    omega (arith, many, had, none)

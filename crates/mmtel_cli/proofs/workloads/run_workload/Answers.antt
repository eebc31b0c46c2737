use Rattle.std.proofs.Common.{ap}
use Rattle.mmtel_link.specs.LinkStates.{LinkInput}
use Rattle.mmtel_cli.proofs.Working.{counts_written}
use Rattle.mmtel_cli.proofs.workloads.run_workload.Goals as goal

pub returns : goal.returns
returns g c = record {
  counts = counts_written _ _ _ _ _ _ _ _ _ (ap (λ (input : LinkInput). input.events) c.in-Ok.ensures.no_arrivals) c.new-keeper.ensures.fresh c.in_ok-rows.ensures.rows c.in_ok-offers.ensures.run
      (rw (c.from.ensures, c.items.ensures, c.items-2.ensures) at c.write_counts.ensures.text);
}

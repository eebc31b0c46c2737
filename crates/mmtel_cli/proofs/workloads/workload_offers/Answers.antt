use Rattle.std.proofs.Common.{refl}
use Rattle.mmtel_cli.proofs.Working.{offers_work}
use Rattle.mmtel_cli.proofs.workloads.workload_offers.Goals as goal

pub returns : goal.returns
returns g c = record { run = offers_work _ c.run_offers.result _ _ _ _ _ refl (rw c.in-Ok.ensures refl) c.run_offers.ensures.run }

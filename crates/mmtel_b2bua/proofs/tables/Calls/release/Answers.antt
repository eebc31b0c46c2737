use Rattle.std.proofs.Common.{ap}
use Rattle.mmtel_b2bua.specs.Tables.{Table}
use Rattle.mmtel_b2bua.proofs.DetachedLegs.{detached_after_release, fits_after}
use Rattle.mmtel_b2bua.proofs.tables.Calls.release.Goals as goal

pub returns-clause-detached : goal.returns-clause-detached
returns-clause-detached c =
    detached_after_release c.args.call.0 c.args.side c.self.inside.table.entries c.release.new.table.entries c.release.result _ (ap (λ (t : Table). t.entries) c.release.ensures.table) c.release.ensures.leg

pub returns-clause-fits : goal.returns-clause-fits
returns-clause-fits c =
    fits_after c.args.call.0 c.args.side c.self.inside.table.entries c.release.new.table.entries c.release.result _ (ap (λ (t : Table). t.entries) c.release.ensures.table) c.release.ensures.leg

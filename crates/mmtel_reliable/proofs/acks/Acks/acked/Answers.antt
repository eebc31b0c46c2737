use Rattle.std.proofs.Common.{rules, ◌∷◌, subst, sym}
use Rattle.mmtel_reliable.specs.Acks.{AcksView}
use Rattle.mmtel_reliable.specs.Traces.{Acknowledges, Represents}
use Rattle.mmtel_reliable.proofs.Representation.{stands_acknowledged}
use Rattle.mmtel_reliable.proofs.acks.Acks.acked.Goals as goal

pub returns-in-Some-clause-after : goal.returns-in-Some-clause-after
returns-in-Some-clause-after c = search rules

pub returns-in-Some-clause-represents : goal.returns-in-Some-clause-represents
returns-in-Some-clause-represents c ops stands =
    subst (λ (acks : AcksView). Represents acks (Acknowledges c.args.rack.now ∷ ops)) (sym (returns-in-Some-clause-after c)) (stands_acknowledged c.args.self.now ops stands c.args.rack.now)

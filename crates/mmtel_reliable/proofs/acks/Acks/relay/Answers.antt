use Rattle.std.proofs.Common.{rules, ◌∷◌, subst, sym}
use Rattle.mmtel_reliable.specs.Acks.{AcksView}
use Rattle.mmtel_reliable.specs.Traces.{Relays, Represents}
use Rattle.mmtel_reliable.proofs.Representation.{stands_relayed}
use Rattle.mmtel_reliable.proofs.acks.Acks.relay.Goals as goal

pub returns-clause-after : goal.returns-clause-after
returns-clause-after c = search rules

pub returns-clause-represents : goal.returns-clause-represents
returns-clause-represents c ops stands =
    subst (λ (acks : AcksView). Represents acks (Relays c.args.rseq ∷ ops)) (sym (returns-clause-after c)) (stands_relayed c.args.self.now ops stands c.args.rseq)

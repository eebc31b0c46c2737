use Rattle.mmtel_barring.specs.Barring.{rules_of}
use Rattle.mmtel_barring.proofs.BarringTheorems.{outgoing_same}
use Rattle.mmtel_barring.proofs.theorems.outgoing_depends_on_matches.Goals as goal

pub returns : goal.returns
returns c = record { same = λ asks asks2 k part a. outgoing_same asks asks2 k part (c.bar_depends_on_matches.ensures.same asks asks2 k (rules_of part) a) }

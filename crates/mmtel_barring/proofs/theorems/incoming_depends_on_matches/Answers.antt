use Rattle.std.proofs.Common.{ap, ◌∙◌}
use Rattle.mmtel_rules.specs.Identities.{has_identity, identity_holds}
use Rattle.mmtel_barring.specs.Barring.{incoming_refusal, rules_of}
use Rattle.mmtel_barring.proofs.BarringTheorems.{incoming_same}
use Rattle.mmtel_barring.proofs.theorems.incoming_depends_on_matches.Goals as goal

pub returns : goal.returns
returns c = record {
  same = λ asks asks2 k part a. incoming_same asks asks2 k part (c.bar_depends_on_matches.ensures.same asks asks2 k (rules_of part) a);
  callers = λ i j k part a e.
      ap (λ known. incoming_refusal (record k { identity_matches = identity_holds i; has_identity = known }) part) e
      ∙ incoming_same (identity_holds i) (identity_holds j) (record k { has_identity = has_identity j }) part
      (c.bar_depends_on_matches.ensures.same (identity_holds i) (identity_holds j) (record k { has_identity = has_identity j }) (rules_of part) a);
}

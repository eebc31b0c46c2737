use Rattle.mmtel_lex.proofs.IdentityTheorems.{reflexive, symmetric}
use Rattle.mmtel_lex.proofs.theorems.identity_is_mutual.Goals as goal

pub returns : goal.returns
returns c = record { reflexive = reflexive; symmetric = symmetric }

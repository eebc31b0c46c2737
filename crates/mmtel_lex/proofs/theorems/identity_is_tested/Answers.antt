use Rattle.mmtel_lex.proofs.SameIdentityTheorems.{identity_is, is_identity}
use Rattle.mmtel_lex.proofs.theorems.identity_is_tested.Goals as goal

pub returns : goal.returns
returns c = record { exact = λ u v. (identity_is u v, is_identity u v) }

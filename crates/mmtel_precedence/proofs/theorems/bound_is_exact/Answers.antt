use Rattle.mmtel_precedence.proofs.Bound.{is_bound_exact}
use Rattle.mmtel_precedence.proofs.theorems.bound_is_exact.Goals as goal

pub returns : goal.returns
returns c = record { law = is_bound_exact }

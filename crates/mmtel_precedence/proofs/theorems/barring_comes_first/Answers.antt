use Rattle.mmtel_precedence.proofs.FirstServices.{barring_comes_first}
use Rattle.mmtel_precedence.proofs.theorems.barring_comes_first.Goals as goal

pub returns : goal.returns
returns c = record { law = barring_comes_first }

use Rattle.mmtel_lex.proofs.PercentTheorems.{escaped, other, plain}
use Rattle.mmtel_lex.proofs.theorems.escapes_stand_for_their_byte.Goals as goal

pub returns : goal.returns
returns c = record { plain = plain; other = other; escaped = escaped }

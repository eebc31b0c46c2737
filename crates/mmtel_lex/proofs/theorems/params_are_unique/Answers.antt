use Rattle.mmtel_lex.specs.Reading.{params_of}
use Rattle.mmtel_lex.proofs.Exact.{one_of}
use Rattle.mmtel_lex.proofs.ParamTheorems.{whole_params_again}
use Rattle.mmtel_lex.proofs.theorems.params_are_unique.Goals as goal

pub returns : goal.returns
returns c = record { one = λ s ps qs is also. one_of (params_of s) ps qs (whole_params_again s ps is) (whole_params_again s qs also) }

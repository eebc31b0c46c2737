use Rattle.std.proofs.Common.{sym, ◌∙◌}
use Rattle.mmtel_lex.proofs.theorems.tel_identity_is_number.Goals as goal

pub returns : goal.returns
returns c = record { same = λ number number2 other params params2 other_params e. (λ is. sym e ∙ is, λ is. e ∙ is) }

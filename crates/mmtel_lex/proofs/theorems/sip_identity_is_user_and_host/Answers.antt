use Rattle.std.proofs.Common.{sym, ◌∙◌}
use Rattle.mmtel_lex.proofs.theorems.sip_identity_is_user_and_host.Goals as goal

pub returns : goal.returns
returns c = record { same = λ user other_user host host2 other_host port port2 other_port params params2 other_params headers headers2 other_headers e. (λ is. (is.0, sym e ∙ is.1), λ is. (is.0, e ∙ is.1)) }

use Rattle.std.proofs.Common.{◌≡◌, take}
use Rattle.mmtel_lex.specs.Grammar.{params_text}
use Rattle.mmtel_lex.proofs.printing.params_text.Given as goal

abbrev pub invariant-loop-param : goal.invariant-loop-param
invariant-loop-param l = l.out ≡ params_text (take l.param-index l.params)

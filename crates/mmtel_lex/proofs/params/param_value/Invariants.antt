use Rattle.std.proofs.Common.{◌≡◌, drop}
use Rattle.mmtel_lex.specs.Params.{param_value}
use Rattle.mmtel_lex.proofs.params.param_value.Given as goal

abbrev pub invariant-loop-param : goal.invariant-loop-param
invariant-loop-param l = param_value l.name l.params ≡ param_value l.name (drop l.param-index l.params)

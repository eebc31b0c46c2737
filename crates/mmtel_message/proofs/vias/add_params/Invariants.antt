use Rattle.std.proofs.Common.{◌≡◌, ◌++◌, take}
use Rattle.std.specs.List.{flat_map}
use Rattle.mmtel_message.specs.Vias.{sourced_param_text}
use Rattle.mmtel_message.proofs.vias.add_params.Given as goal

abbrev pub invariant-loop-param : goal.invariant-loop-param
invariant-loop-param l = l.out ≡ l.fn.out ++ flat_map (sourced_param_text l.port) (take l.param-index l.params)

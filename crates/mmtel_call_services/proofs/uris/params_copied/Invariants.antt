use Rattle.std.proofs.Common.{◌≡◌, take}
use Rattle.mmtel_call_services.proofs.uris.params_copied.Given as goal

abbrev pub invariant-loop-param : goal.invariant-loop-param
invariant-loop-param l = l.copy ≡ take l.param-index l.params

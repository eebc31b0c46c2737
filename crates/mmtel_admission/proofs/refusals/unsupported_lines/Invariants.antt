use Rattle.std.proofs.Common.{◌≡◌, filter, map, take}
use Rattle.mmtel_run_definitions.specs.OwnResponses.{is_unsupported, unsupported_line}
use Rattle.mmtel_admission.proofs.refusals.unsupported_lines.Given as goal

abbrev pub invariant-loop-option : goal.invariant-loop-option
invariant-loop-option l = l.lines ≡ map unsupported_line (filter (λ option. is_unsupported l.directory option) (take l.option-index l.option-items))

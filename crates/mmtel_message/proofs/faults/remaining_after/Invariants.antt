use Rattle.std.proofs.Common.{◌≡◌, ◌+◌, length, map}
use Rattle.std.specs.Option.{option_map_or, option_copied}
use Rattle.mmtel_message.specs.Faults.{remaining_after}
use Rattle.mmtel_message.specs.Headers.{trim}
use Rattle.mmtel_message.specs.Values.{values_of, rest_parts}
use Rattle.mmtel_message.specs.declared.values.Mode.TheVariants.{Plain}
use Rattle.mmtel_message.proofs.faults.remaining_after.Given as goal

abbrev pub invariant-parts : goal.invariant-parts
invariant-parts l = remaining_after l.fn.remaining (length (values_of l.fn.value)) ≡ remaining_after l.left (length (map trim (rest_parts Plain (option_copied l.rest))))

abbrev pub decreases-parts : goal.decreases-parts
decreases-parts l = option_map_or (λ r. length r.now + 1) l.rest 0

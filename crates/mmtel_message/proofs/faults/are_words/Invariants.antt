use Rattle.std.proofs.Common.{◌≡◌, ◌+◌, length, map}
use Rattle.std.specs.Option.{option_map_or, option_copied}
use Rattle.mmtel_message.specs.Faults.{are_words}
use Rattle.mmtel_message.specs.Headers.{trim}
use Rattle.mmtel_message.specs.Values.{values_in, rest_parts}
use Rattle.mmtel_message.specs.declared.values.Mode.TheVariants.{Words}
use Rattle.mmtel_message.proofs.faults.are_words.Given as goal

abbrev pub invariant-parts : goal.invariant-parts
invariant-parts l = are_words (values_in Words l.fn.value) ≡ are_words (map trim (rest_parts Words (option_copied l.rest)))

abbrev pub decreases-parts : goal.decreases-parts
decreases-parts l = option_map_or (λ r. length r.now + 1) l.rest 0

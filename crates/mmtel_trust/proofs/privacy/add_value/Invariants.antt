use Rattle.std.proofs.Common.{◌≡◌, ◌++◌, ◌+◌, length, map}
use Rattle.std.specs.List.{flat_map}
use Rattle.std.specs.Option.{option_map_or, option_copied}
use Rattle.mmtel_message.specs.Headers.{trim}
use Rattle.mmtel_message.specs.Values.{rest_parts, values_in}
use Rattle.mmtel_message.specs.declared.values.Mode.TheVariants.{Words}
use Rattle.mmtel_trust.specs.WrittenWords.{separated_word}
use Rattle.mmtel_trust.proofs.privacy.add_value.Given as goal

abbrev pub invariant-words : goal.invariant-words
invariant-words l = l.fn.out ++ flat_map separated_word (values_in Words l.fn.value) ≡ l.out ++ flat_map separated_word (map trim (rest_parts Words (option_copied l.rest)))

abbrev pub decreases-words : goal.decreases-words
decreases-words l = option_map_or (λ r. length r.now + 1) l.rest 0

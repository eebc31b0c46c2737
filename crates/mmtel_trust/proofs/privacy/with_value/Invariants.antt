use Rattle.std.proofs.Common.{◌≡◌, ◌+◌, length, map}
use Rattle.std.specs.Option.{option_map_or, option_copied}
use Rattle.mmtel_message.specs.Headers.{trim}
use Rattle.mmtel_message.specs.Values.{rest_parts, values_in}
use Rattle.mmtel_message.specs.declared.values.Mode.TheVariants.{Words}
use Rattle.mmtel_trust.specs.FoundWords.{with_words}
use Rattle.mmtel_trust.proofs.privacy.with_value.Given as goal

abbrev pub invariant-words : goal.invariant-words
invariant-words l = with_words l.fn.found (values_in Words l.fn.value) ≡ with_words l.found (map trim (rest_parts Words (option_copied l.rest)))

abbrev pub decreases-words : goal.decreases-words
decreases-words l = option_map_or (λ r. length r.now + 1) l.rest 0

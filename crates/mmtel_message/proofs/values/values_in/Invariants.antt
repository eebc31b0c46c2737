use Rattle.std.proofs.Common.{◌≡◌, ◌++◌, ◌+◌, length, map}
use Rattle.std.specs.Option.{option_map_or, option_copied}
use Rattle.mmtel_message.specs.Headers.{trim}
use Rattle.mmtel_message.specs.Values.{values_in, rest_parts}
use Rattle.mmtel_message.proofs.values.values_in.Given as goal

abbrev pub invariant-parts : goal.invariant-parts
invariant-parts l = values_in l.mode l.fn.bytes ≡ l.values ++ map trim (rest_parts l.mode (option_copied l.rest))

abbrev pub decreases-parts : goal.decreases-parts
decreases-parts l = option_map_or (λ r. length r.now + 1) l.rest 0

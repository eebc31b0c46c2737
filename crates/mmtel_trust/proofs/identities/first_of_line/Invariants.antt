use Rattle.std.proofs.Common.{◌≡◌, ◌+◌, length, map}
use Rattle.std.specs.Option.{option_map_or, option_copied}
use Rattle.mmtel_message.specs.Headers.{trim}
use Rattle.mmtel_message.specs.Values.{rest_parts, values_of}
use Rattle.mmtel_message.specs.declared.values.Mode.TheVariants.{Plain}
use Rattle.mmtel_trust.specs.Asserted.{first_uri}
use Rattle.mmtel_trust.proofs.identities.first_of_line.Given as goal

abbrev pub invariant-values : goal.invariant-values
invariant-values l = first_uri l.scheme (values_of l.fn.values) ≡ first_uri l.scheme (map trim (rest_parts Plain (option_copied l.rest)))

abbrev pub decreases-values : goal.decreases-values
decreases-values l = option_map_or (λ r. length r.now + 1) l.rest 0

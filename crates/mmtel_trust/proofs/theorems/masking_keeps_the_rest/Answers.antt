use Rattle.std.proofs.Common.{refl}
use Rattle.mmtel_trust.proofs.IndexKeeping.{named-masked, first-masked, values-masked, wants-masked, from_tag-masked, to_tag-masked}
use Rattle.mmtel_trust.proofs.theorems.masking_keeps_the_rest.Goals as goal

pub returns : goal.returns
returns c = record {
  lines = named-masked;
  first = first-masked;
  values = values-masked;
  words = wants-masked;
  from_tag = from_tag-masked;
  to_tag = to_tag-masked;
  start = λ p m. refl;
  body = λ p m. refl;
}

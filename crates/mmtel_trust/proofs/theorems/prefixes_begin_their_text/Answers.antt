use Rattle.mmtel_trust.proofs.PrefixTheorems.{begins_is, is_prefixed}
use Rattle.mmtel_trust.proofs.theorems.prefixes_begin_their_text.Goals as goal

pub returns : goal.returns
returns c = record { front = begins_is; begins = is_prefixed }

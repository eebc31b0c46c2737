use Rattle.std.proofs.Common.{refl}
use Rattle.mmtel_trust.proofs.IndexKeeping.{passed-entries, from-entries}
use Rattle.mmtel_trust.proofs.Masked.{passed-masked}
use Rattle.mmtel_trust.proofs.theorems.masked_shows_the_same.Goals as goal

pub returns : goal.returns
returns c = record { lines = passed-masked; from = λ p tag ls. refl; entries = passed-entries; entries_from = from-entries }

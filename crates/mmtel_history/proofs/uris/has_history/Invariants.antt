use Rattle.std.proofs.Common.{◌≡◌, length}
use Rattle.std.specs.List.{list_any}
use Rattle.mmtel_history.specs.EntryUri.{escaped_parts, is_history}
use Rattle.mmtel_history.proofs.uris.has_history.Given as goal

abbrev pub invariant-parts : goal.invariant-parts
invariant-parts l = list_any is_history (escaped_parts l.fn.value) ≡ list_any is_history (escaped_parts l.rest)

abbrev pub decreases-parts : goal.decreases-parts
decreases-parts l = length l.rest

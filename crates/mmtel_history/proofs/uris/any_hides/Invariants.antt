use Rattle.std.proofs.Common.{◌≡◌, length}
use Rattle.std.specs.List.{list_any}
use Rattle.mmtel_lex.specs.UriParts.{parts}
use Rattle.mmtel_history.specs.EntryUri.{hides}
use Rattle.mmtel_history.proofs.uris.any_hides.Given as goal

abbrev pub invariant-parts : goal.invariant-parts
invariant-parts l = list_any hides (parts 38 l.fn.headers) ≡ list_any hides (parts 38 l.rest)

abbrev pub decreases-parts : goal.decreases-parts
decreases-parts l = length l.rest

use Rattle.std.proofs.Common.{◌≡◌, length}
use Rattle.std.specs.List.{find}
use Rattle.mmtel_lex.specs.UriParts.{is_named, parts}
use Rattle.mmtel_lex.proofs.uri_parts.find_named.Given as goal

abbrev pub invariant-parts : goal.invariant-parts
invariant-parts l = find (is_named l.fn.name) (parts l.fn.byte l.fn.bytes) ≡ find (is_named l.fn.name) (parts l.fn.byte l.rest)

abbrev pub decreases-parts : goal.decreases-parts
decreases-parts l = length l.rest

use Rattle.std.proofs.Common.{◌≡◌, ◌++◌, length}
use Rattle.std.specs.Option.{option_map}
use Rattle.mmtel_lex.specs.Percent.{unescaped_parts}
use Rattle.mmtel_lex.specs.UriParts.{parts}
use Rattle.mmtel_lex.proofs.percent.add_all_unescaped.Given as goal

abbrev pub invariant-parts : goal.invariant-parts
invariant-parts l = option_map (λ t. l.fn.out ++ t) (unescaped_parts (parts 37 l.fn.bytes)) ≡ option_map (λ t. l.out ++ t) (unescaped_parts (parts 37 l.rest))

abbrev pub decreases-parts : goal.decreases-parts
decreases-parts l = length l.rest

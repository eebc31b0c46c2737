use Rattle.std.proofs.Common.{◌≡◌, ◌++◌, ◌∷◌, length, not}
use Rattle.std.specs.Prelude.{filter}
use Rattle.std.specs.List.{flat_map}
use Rattle.mmtel_lex.specs.UriParts.{parts}
use Rattle.mmtel_history.specs.EntryUri.{is_cause}
use Rattle.mmtel_history.proofs.uris.add_other_params.Given as goal

abbrev pub invariant-parts : goal.invariant-parts
invariant-parts l = l.fn.out ++ flat_map (λ p. 59 ∷ p) (filter (λ p. not (is_cause p)) (parts 59 l.fn.params)) ≡ l.out ++ flat_map (λ p. 59 ∷ p) (filter (λ p. not (is_cause p)) (parts 59 l.rest))

abbrev pub decreases-parts : goal.decreases-parts
decreases-parts l = length l.rest

use Rattle.std.proofs.Common.{◌≡◌, length}
use Rattle.mmtel_lex.specs.Identity.{without_separators}
use Rattle.mmtel_rules.specs.Abroad.{is_prefix_of}
use Rattle.mmtel_rules.proofs.countries.is_prefix_of.Given as goal

abbrev pub invariant-bytes : goal.invariant-bytes
invariant-bytes l = is_prefix_of l.wanted (without_separators l.rest) ≡ is_prefix_of l.digits (without_separators l.number)

abbrev pub decreases-bytes : goal.decreases-bytes
decreases-bytes l = length l.rest

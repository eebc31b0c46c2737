use Rattle.std.proofs.Common.{◌≡◌, ◌++◌, length}
use Rattle.mmtel_script.specs.Listing.{data_lines}
use Rattle.mmtel_script.proofs.listings.add_data.Given as goal

abbrev pub invariant-pieces : goal.invariant-pieces
invariant-pieces l = l.out ++ data_lines l.rest ≡ l.fn.out ++ data_lines l.bytes

abbrev pub decreases-pieces : goal.decreases-pieces
decreases-pieces l = length l.rest

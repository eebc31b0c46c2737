use Rattle.std.proofs.Common.{◌≡◌, ◌++◌, take}
use Rattle.std.specs.List.{flat_map}
use Rattle.std.specs.Prelude.{codes}
use Rattle.mmtel_script.specs.Listing.{hex_pair}
use Rattle.mmtel_script.proofs.listings.add_hex_line.Given as goal

abbrev pub invariant-loop-byte : goal.invariant-loop-byte
invariant-loop-byte l = l.out ≡ l.fn.out ++ codes "x" ++ flat_map hex_pair (take l.byte-index l.bytes)

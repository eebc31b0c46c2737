use Rattle.std.proofs.Common.{◌≡◌, drop}
use Rattle.mmtel_lex.specs.Identity.{without_separators}
use Rattle.mmtel_trust.specs.Hashes.{hash_with}
use Rattle.mmtel_trust.proofs.hashes.hash_with_number.Given as goal

abbrev pub invariant-loop-byte : goal.invariant-loop-byte
invariant-loop-byte l = hash_with l.hash (without_separators l.number) ≡ hash_with l.so_far (without_separators (drop l.byte-index l.number))

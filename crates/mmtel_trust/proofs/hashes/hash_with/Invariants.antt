use Rattle.std.proofs.Common.{◌≡◌, drop}
use Rattle.mmtel_trust.specs.Hashes.{hash_with}
use Rattle.mmtel_trust.proofs.hashes.hash_with.Given as goal

abbrev pub invariant-loop-byte : goal.invariant-loop-byte
invariant-loop-byte l = hash_with l.hash l.bytes ≡ hash_with l.so_far (drop l.byte-index l.bytes)

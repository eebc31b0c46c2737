use Rattle.std.proofs.Common.{◌≡◌, drop}
use Rattle.std.specs.Str.{str_to_ascii_lowercase}
use Rattle.mmtel_trust.specs.Hashes.{hash_with}
use Rattle.mmtel_trust.proofs.hashes.hash_with_lower.Given as goal

abbrev pub invariant-loop-byte : goal.invariant-loop-byte
invariant-loop-byte l = hash_with l.hash (str_to_ascii_lowercase l.bytes) ≡ hash_with l.so_far (str_to_ascii_lowercase (drop l.byte-index l.bytes))

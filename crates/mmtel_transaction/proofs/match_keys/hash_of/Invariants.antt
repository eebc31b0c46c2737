use Rattle.std.proofs.Common.{◌≡◌, take}
use Rattle.mmtel_transaction.specs.Hashes.{hash_of}
use Rattle.mmtel_transaction.proofs.match_keys.hash_of.Given as goal

abbrev pub invariant-loop-byte : goal.invariant-loop-byte
invariant-loop-byte l = l.sum ≡ hash_of (take l.byte-index l.bytes)

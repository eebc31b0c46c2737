use Rattle.std.proofs.Common.{refl}
use Rattle.mmtel_transaction.proofs.Hashing.{hash_next}
use Rattle.mmtel_transaction.proofs.match_keys.hash_of.Goals as goal

pub loop-byte-init : goal.loop-byte-init
loop-byte-init c = refl

pub loop-byte-preserved : goal.loop-byte-preserved
loop-byte-preserved c = hash_next c.args.bytes.now c.loop-byte.byte-index c.loop-byte.sum c.from.result c.loop-byte-test.true c.loop-byte.invariant c.from.ensures

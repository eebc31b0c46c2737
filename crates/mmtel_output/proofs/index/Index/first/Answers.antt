use Rattle.std.proofs.Common.{arith}
use Rattle.mmtel_output.proofs.index.Index.first.Goals as goal

pub returns : goal.returns
returns c number there = omega arith

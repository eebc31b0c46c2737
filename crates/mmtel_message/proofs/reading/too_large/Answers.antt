use Rattle.std.proofs.Common.{length-take, arith}
use Rattle.mmtel_message.proofs.reading.too_large.Goals as goal

pub slice_bounds-large_reply-end : goal.slice_bounds-large_reply-end
slice_bounds-large_reply-end c = omega (arith, length-take 16384 c.args.bytes.now, c.requires)

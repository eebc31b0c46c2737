use Rattle.std.proofs.Common.{◌+◌, arith}
use Rattle.mmtel_server.proofs.Received.{calls_then}
use Rattle.mmtel_server.proofs.driving.read_request.Goals as goal

pub returns-in_err-read_more-clause-calls : goal.returns-in_err-read_more-clause-calls
returns-in_err-read_more-clause-calls g c = (c.loop-read._read + 1, omega arith, calls_then _ _ _ _ _ c.loop-read.invariant.calls c.read_more.ensures.calls)

pub returns-then-not-branch-clause-calls : goal.returns-then-not-branch-clause-calls
returns-then-not-branch-clause-calls g c = (c.loop-read._read + 1, omega arith, calls_then _ _ _ _ _ c.loop-read.invariant.calls c.read_more.ensures.calls)

use Rattle.std.proofs.Common.{drop}
use Rattle.std.specs.Option.{option_copied}
use Rattle.mmtel_trust.proofs.PrefixWalk.{IsWalked}
use Rattle.mmtel_trust.proofs.peers.prefix_route.Given as goal

abbrev pub invariant-loop-byte : goal.invariant-loop-byte
invariant-loop-byte l = IsWalked l.number (drop l.byte-index l.number) l.length l.hash (option_copied l.best) l.routes

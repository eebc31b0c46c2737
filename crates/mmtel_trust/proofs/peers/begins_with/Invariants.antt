use Rattle.std.proofs.Common.{◌≡◌, drop}
use Rattle.mmtel_lex.specs.Identity.{without_separators}
use Rattle.mmtel_trust.specs.Peers.{begins_with}
use Rattle.mmtel_trust.proofs.peers.begins_with.Given as goal

abbrev pub invariant-loop-byte : goal.invariant-loop-byte
invariant-loop-byte l = begins_with (without_separators l.fn.number) l.fn.prefix ≡ begins_with (without_separators (drop l.byte-index l.number)) l.rest

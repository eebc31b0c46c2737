use Rattle.std.proofs.Common.{◌≡◌, take}
use Rattle.mmtel_lex.specs.Identity.{without_separators}
use Rattle.mmtel_served_user.proofs.targets.without_separators.Given as goal

abbrev pub invariant-loop-byte : goal.invariant-loop-byte
invariant-loop-byte l = l.out ≡ without_separators (take l.byte-index l.number)

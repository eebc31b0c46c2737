use Rattle.std.proofs.Common.{◌≡◌, ◌+◌, drop, false}
use Rattle.std.specs.Option.{option_map}
use Rattle.mmtel_base.specs.Scanning.{closing_quote_from}
use Rattle.mmtel_base.proofs.scanning.quote_position.Given as goal

abbrev pub invariant-loop-i : goal.invariant-loop-i
invariant-loop-i l = closing_quote_from false l.bytes ≡ option_map (λ n. l.i + n) (closing_quote_from l.escaped (drop l.i l.bytes))

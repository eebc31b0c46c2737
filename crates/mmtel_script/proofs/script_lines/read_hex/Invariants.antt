use Rattle.std.proofs.Common.{◌≡◌, ◌++◌, length}
use Rattle.std.specs.Option.{option_map}
use Rattle.mmtel_script.specs.Script.{hex_bytes}
use Rattle.mmtel_script.proofs.script_lines.read_hex.Given as goal

abbrev pub invariant-pairs : goal.invariant-pairs
invariant-pairs l = option_map (λ more. l.bytes ++ more) (hex_bytes l.rest) ≡ hex_bytes l.digits

abbrev pub decreases-pairs : goal.decreases-pairs
decreases-pairs l = length l.rest

use Rattle.std.proofs.Common.{◌≡◌, drop, codes}
use Rattle.std.specs.Option.{option_copied}
use Rattle.mmtel_message.specs.Fields.{only_value}
use Rattle.mmtel_message.specs.FiveLines.{first_behind, only_behind}
use Rattle.mmtel_message.specs.Message.{first_value}
use Rattle.mmtel_message.proofs.five_lines.five_lines.Given as goal

abbrev pub invariant-loop-i : goal.invariant-loop-i
invariant-loop-i l =
    (first_behind (codes "Via") (option_copied l.found.via) (drop l.i l.lines.values) ≡ first_value (codes "Via") l.lines.values) ×
    (only_behind (codes "From") l.found.from (drop l.i l.lines.values) ≡ only_value (codes "From") l.lines.values) ×
    (only_behind (codes "To") l.found.to (drop l.i l.lines.values) ≡ only_value (codes "To") l.lines.values) ×
    (only_behind (codes "Call-ID") l.found.call_id (drop l.i l.lines.values) ≡ only_value (codes "Call-ID") l.lines.values) ×
    (only_behind (codes "CSeq") l.found.cseq (drop l.i l.lines.values) ≡ only_value (codes "CSeq") l.lines.values)

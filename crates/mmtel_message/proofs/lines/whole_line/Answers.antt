use Rattle.std.proofs.Common.{◌∙◌, ℕ, List, ap}
use Rattle.mmtel_message.specs.Held.{bytes_at}
use Rattle.mmtel_message.specs.Lines.{logical_lines}
use Rattle.mmtel_message.proofs.FoldTheorems.{stands_alone}
use Rattle.mmtel_message.proofs.lines.whole_line.Goals as goal

pub returns-in-None-clause-line : goal.returns-in-None-clause-line
returns-in-None-clause-line c =
    ap (λ (l : List (List ℕ)). logical_lines l) c.next_line-after.ensures.lines
    ∙ stands_alone (bytes_at c.args.head.now c.next_line-after.result.0) c.args.head.now c.next_line-after.result.1 c.in-None.ensures

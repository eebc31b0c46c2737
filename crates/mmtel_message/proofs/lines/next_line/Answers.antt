use Rattle.std.proofs.Common.{sym}
use Rattle.std.proofs.lemmas.List.{take_rest}
use Rattle.mmtel_message.proofs.LineTheorems.{line_alone, line_first}
use Rattle.mmtel_message.proofs.lines.next_line.Goals as goal

pub returns-in-None-clause-lines : goal.returns-in-None-clause-lines
returns-in-None-clause-lines c =
    line_alone c.args.head.now c.args.from (rw (take_rest c.args.head.now c.args.from) at (sym c.in-None.ensures.place))

pub returns-in-Some-clause-lines : goal.returns-in-Some-clause-lines
returns-in-Some-clause-lines c =
    line_first c.args.head.now c.args.from c.in-Some.len (rw (take_rest c.args.head.now c.args.from) at (sym c.in-Some.ensures.place))

use Rattle.std.proofs.Common.{◌<◌, length, sym, arith}
use Rattle.std.proofs.lemmas.Bool.Decides.{nat_tests}
use Rattle.mmtel_directory.proofs.LineTheorems.{lines_alone, lines_first, lines_shorter}
use Rattle.mmtel_directory.proofs.lines.next_line.Goals as goal

pub returns-in-Some-clause-line : goal.returns-in-Some-clause-line
returns-in-Some-clause-line c = lines_first c.args.bytes.now _ (sym c.in-Some.ensures)

pub returns-in-Some-clause-shorter : goal.returns-in-Some-clause-shorter
returns-in-Some-clause-shorter c = lines_shorter c.args.bytes.now _ (sym c.in-Some.ensures)

pub returns-in-None-clause-line : goal.returns-in-None-clause-line
returns-in-None-clause-line c =
    let filled : 0 < length c.args.bytes.now = grind (arith, nat_tests, c.if-is_empty.ensures) in
    lines_alone c.args.bytes.now (sym c.in-None.ensures) filled

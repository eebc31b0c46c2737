use Rattle.std.proofs.Common.{◌++◌, drop, sym}
use Rattle.mmtel_message.specs.Message.{line, lines_named}
use Rattle.mmtel_message.proofs.WalkTheorems.{no_more, one_more}
use Rattle.mmtel_message.proofs.building.append_named.Goals as goal

pub lines-preserved : goal.lines-preserved
unfolding line
lines-preserved c =
    let name = c.args.name.now in
    let ls = c.args.lines.now.values in
    rw c.in_ok-add_bytes.ensures.added (one_more c.lines.out (lines_named name (drop c.lines.from ls)) (lines_named name (drop c.in-Some.line.next ls)) (c.args.out.now ++ lines_named name ls)
    (c.in-Some.line.name.now, c.in-Some.line.value.now) c.lines.invariant c.in-Some.ensures.line)

pub returns : goal.returns
returns c =
    let name = c.args.name.now in
    let ls = c.args.lines.now.values in
    sym (no_more c.lines.out (lines_named name (drop c.lines.from ls)) (c.args.out.now ++ lines_named name ls) c.lines.invariant c.in_default.ensures.line)

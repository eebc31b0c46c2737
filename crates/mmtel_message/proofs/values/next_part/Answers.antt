use Rattle.std.proofs.Common.{◌+◌, sym}
use Rattle.std.proofs.lemmas.List.{take_rest}
use Rattle.mmtel_message.proofs.CommaTheorems.{parts_none, parts_some}
use Rattle.mmtel_message.proofs.values.next_part.Goals as goal

pub returns-in-None-clause-parts : goal.returns-in-None-clause-parts
returns-in-None-clause-parts c = parts_none c.args.mode c.args.bytes.now (sym c.in-None.ensures.place)

pub returns-in-Some-clause-parts : goal.returns-in-Some-clause-parts
returns-in-Some-clause-parts c =
    rw (take_rest c.args.bytes.now (c.in-Some.at + 1)) (parts_some c.args.mode c.args.bytes.now c.in-Some.at (sym c.in-Some.ensures.place))

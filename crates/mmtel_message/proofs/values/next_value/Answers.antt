use Rattle.std.proofs.Common.{sym}
use Rattle.std.proofs.lemmas.List.{take_rest}
use Rattle.mmtel_message.proofs.PartTheorems.{value_last, value_first}
use Rattle.mmtel_message.proofs.values.next_value.Goals as goal

pub returns-in-None-clause-values : goal.returns-in-None-clause-values
returns-in-None-clause-values c =
    rw c.trimmed_span.ensures.bytes (value_last c.args.mode c.args.text.now c.args.from (sym (rw (take_rest c.args.text.now c.args.from) at c.in-None.ensures.place)))

pub returns-in-Some-clause-values : goal.returns-in-Some-clause-values
returns-in-Some-clause-values c =
    rw c.trimmed_span-in-Some.ensures.bytes (value_first c.args.mode c.args.text.now c.args.from c.in-Some.at c.requires.base (sym (rw (take_rest c.args.text.now c.args.from) at c.in-Some.ensures.place)))

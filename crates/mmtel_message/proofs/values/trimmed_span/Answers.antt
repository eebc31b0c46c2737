use Rattle.std.proofs.Common.{◌-◌, arith}
use Rattle.mmtel_message.proofs.PartTheorems.{trimmed_is_there, trimmed_within}
use Rattle.mmtel_message.proofs.values.trimmed_span.Goals as goal

pub returns-clause-bytes : goal.returns-clause-bytes
returns-clause-bytes c = rw (c.trim_end.ensures, c.split_run.ensures.rest, c.split_run.ensures.front) (trimmed_is_there c.args.text.now c.args.from (c.args.to - c.args.from))

pub returns-clause-within : goal.returns-clause-within
returns-clause-within c = rw (c.trim_end.ensures, c.split_run.ensures.rest, c.split_run.ensures.front)
    (trimmed_within c.args.text.now c.args.from (c.args.to - c.args.from) (omega (arith, c.requires.order, c.requires.within)))

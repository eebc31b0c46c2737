use Rattle.std.proofs.Common.{sym}
use Rattle.mmtel_message.proofs.CommaTheorems.{no_separator}
use Rattle.mmtel_message.proofs.values.next_separator.Goals as goal

pub returns-in-None-clause-place : goal.returns-in-None-clause-place
returns-in-None-clause-place c = sym (no_separator c.args.mode c.args.bytes.now (rw c.separator.ensures at c.in-None.ensures))

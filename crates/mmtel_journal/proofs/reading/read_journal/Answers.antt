use Rattle.std.proofs.Common.{rules}
use Rattle.mmtel_journal.proofs.Unique.{only_found}
use Rattle.mmtel_journal.proofs.reading.read_journal.Goals as goal

pub returns-clause-only : goal.returns-clause-only
returns-clause-only c = only_found c.args.bytes.now c.walk.result (search rules) c.walk.ensures.found c.walk.ensures.broken

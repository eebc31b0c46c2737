use Rattle.mmtel_message.proofs.ReadTheorems.{canonical_read}
use Rattle.mmtel_message.proofs.reading.read_held.Goals as goal

pub returns-clause-canonical : goal.returns-clause-canonical
returns-clause-canonical c = canonical_read c.args.bytes c.read_bytes.result c.read_bytes.ensures

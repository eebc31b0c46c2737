use Rattle.std.proofs.Common.{arith}
use Rattle.mmtel_journal.proofs.Frames.{framed_found, framed_none}
use Rattle.mmtel_journal.proofs.reading.framed_payload.Goals as goal

pub returns-clause-found : goal.returns-clause-found
returns-clause-found c = framed_found (λ x. (x.0.now, x.1.now)) c.args.bytes.now c.long_text_at.result (λ i. omega (arith, c.type_inv.bytes i)) c.long_text_at.ensures

pub returns-clause-none : goal.returns-clause-none
returns-clause-none c = framed_none (λ x. (x.0.now, x.1.now)) c.args.bytes.now c.long_text_at.result c.long_text_at.ensures

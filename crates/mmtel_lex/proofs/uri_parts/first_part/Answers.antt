use Rattle.mmtel_lex.proofs.UriPartTheorems.{first_by, shorter_by}
use Rattle.mmtel_lex.proofs.uri_parts.first_part.Goals as goal

pub returns-clause-parts : goal.returns-clause-parts
returns-clause-parts c = first_by c.args.byte c.args.bytes.now c.split_once_at.result (λ x. (x.0.now, x.1.now)) c.split_once_at.ensures

pub returns-clause-shorter : goal.returns-clause-shorter
returns-clause-shorter c = shorter_by c.args.byte c.args.bytes.now c.split_once_at.result (λ x. (x.0.now, x.1.now)) c.split_once_at.ensures

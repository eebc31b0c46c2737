use Rattle.std.proofs.Common.{◌∙◌}
use Rattle.mmtel_server.proofs.servers.Server.rows_waiting.Goals as goal

pub returns : goal.returns
returns c = record { waiting = λ directory token loaded recorded serves. c.items.ensures ∙ serves.represents.waiting }

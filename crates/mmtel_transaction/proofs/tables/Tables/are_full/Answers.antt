use Rattle.std.proofs.Common.{ap, ◌∙◌}
use Rattle.std.specs.Prelude.{nat_le}
use Rattle.mmtel_transaction.specs.Results.{max_servers, servers}
use Rattle.mmtel_transaction.proofs.tables.Tables.are_full.Goals as goal

pub returns : goal.returns
returns c = ap (nat_le max_servers) (c.len.ensures ∙ (c.self.invariant.server_count ∙ ap servers c.self.view_is))

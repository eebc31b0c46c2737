use Rattle.std.proofs.Common.{◌∙◌}
use Rattle.mmtel_transaction.specs.Results.{is_server_with}
use Rattle.mmtel_transaction.proofs.Placing.{by_its_key, nothing_found}
use Rattle.mmtel_transaction.proofs.tables.Tables.find_server.Goals as goal

pub returns-in-Some-clause-found : goal.returns-in-Some-clause-found
returns-in-Some-clause-found g c =
    c.find.ensures.found ∙ by_its_key (is_server_with c.args.branch.now c.args.sent_by.now c.args.method.now) c.args.self.now c.in-Some.key c.find.ensures.rises c.in-Some.ensures.found

pub returns-in-None-clause-found : goal.returns-in-None-clause-found
returns-in-None-clause-found g c = nothing_found (is_server_with c.args.branch.now c.args.sent_by.now c.args.method.now) c.args.self.now c.in-None.ensures.found

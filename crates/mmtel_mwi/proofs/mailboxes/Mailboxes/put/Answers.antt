use Rattle.std.proofs.Common.{ap, ◌∙◌}
use Rattle.std.specs.FinMap.{insert}
use Rattle.mmtel_mwi.specs.Boxes.{Mailboxes}
use Rattle.mmtel_mwi.proofs.MailboxMaps.{inserted}
use Rattle.mmtel_mwi.proofs.mailboxes.Mailboxes.put.Goals as goal

pub returns-clause-put : goal.returns-clause-put
returns-clause-put c =
    inserted c.self.inside.kept.entries c.insert.new.self.entries c.args.account.0 c.args.counts c.in_ok-insert.ensures.updates.0
    ∙ ap (λ (m : Mailboxes). insert m c.args.account.0 c.args.counts) c.self.view_is

use Rattle.std.proofs.Common.{None, ap, ◌∙◌}
use Rattle.std.specs.FinMap.{get}
use Rattle.mmtel_mwi.specs.Boxes.{Mailboxes, or_zero}
use Rattle.mmtel_mwi.proofs.MailboxMaps.{told}
use Rattle.mmtel_mwi.proofs.mailboxes.Mailboxes.counts.Goals as goal

pub returns-in-None : goal.returns-in-None
returns-in-None c =
    c.none.ensures.none
    ∙ told c.self.inside.kept.entries c.args.account.0 None c.in-None.ensures.value
    ∙ ap (λ (m : Mailboxes). or_zero (get m c.args.account.0)) c.self.view_is

pub returns-in-Some : goal.returns-in-Some
returns-in-Some c =
    told c.self.inside.kept.entries c.args.account.0 _ c.in-Some.ensures.value
    ∙ ap (λ (m : Mailboxes). or_zero (get m c.args.account.0)) c.self.view_is

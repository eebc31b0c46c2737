use Rattle.std.proofs.Common.{ap, ◌∙◌}
use Rattle.mmtel_sheet_values.specs.View.{with_sheet}
use Rattle.mmtel_sheet_values.proofs.Tables.{put_in}
use Rattle.mmtel_sheet_values.proofs.view.SheetView.put.Goals as goal

pub returns-clause-ok : goal.returns-clause-ok
returns-clause-ok c =
    put_in c.self.inside.slots.entries c.insert.new.self.entries c.self.inside.registration_ends.entries c.args.account.0 c.in_ok-sheet.sheet c.in_ok-insert.ensures.updates.0
    ∙ ap (λ v. with_sheet v c.args.account.0 c.in_ok-sheet.sheet) c.self.view_is
    ∙ ap (λ s. with_sheet c.args.self.now c.args.account.0 s) c.in_ok-sheet.ensures.its

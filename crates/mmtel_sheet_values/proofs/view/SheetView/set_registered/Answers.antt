use Rattle.std.proofs.Common.{None, ap, sym, ◌∙◌}
use Rattle.std.specs.Prelude.{Some}
use Rattle.mmtel_sheet_values.specs.View.{with_registration_end}
use Rattle.mmtel_sheet_values.proofs.Tables.{end_set, end_taken}
use Rattle.mmtel_sheet_values.proofs.view.SheetView.set_registered.Goals as goal

pub returns-in-None-clause-ok : goal.returns-in-None-clause-ok
returns-in-None-clause-ok c =
    end_taken c.self.inside.slots.entries c.self.inside.registration_ends.entries c.remove.new.self.entries c.args.account.0 c.remove.ensures.updates.0
    ∙ ap (λ v. with_registration_end v c.args.account.0 None) c.self.view_is
    ∙ ap (λ until. with_registration_end c.args.self.now c.args.account.0 until) (sym c.in-None.is)

pub returns-in_ok-insert-in-Some-clause-ok : goal.returns-in_ok-insert-in-Some-clause-ok
returns-in_ok-insert-in-Some-clause-ok c =
    end_set c.self.inside.slots.entries c.self.inside.registration_ends.entries c.insert.new.self.entries c.args.account.0 c.in-Some.moment c.in_ok-insert-in-Some.ensures.updates.0
    ∙ ap (λ v. with_registration_end v c.args.account.0 (Some c.in-Some.moment)) c.self.view_is
    ∙ ap (λ until. with_registration_end c.args.self.now c.args.account.0 until) (sym c.in-Some.is)

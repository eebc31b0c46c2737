use Rattle.std.proofs.Common.{None, ap, sym, ◌∙◌}
use Rattle.std.specs.Prelude.{Some, is_some}
use Rattle.mmtel_sheet_values.specs.View.{sheet_in, has_space}
use Rattle.mmtel_sheet_values.proofs.Tables.{IfSome-from, has_place, in_force}
use Rattle.mmtel_sheet_values.proofs.view.SheetView.slot.Goals as goal

pub returns-in-Some-clause-its : goal.returns-in-Some-clause-its
returns-in-Some-clause-its c =
    c.as_ref.ensures.value
    ∙ in_force c.self.inside.slots.entries c.self.inside.registration_ends.entries c.args.account.0 (Some c.in-Some.place.now) c.in-Some.ensures.value
    ∙ ap (λ v. sheet_in v c.args.account.0) c.self.view_is

pub returns-in-Some-clause-capacity : goal.returns-in-Some-clause-capacity
returns-in-Some-clause-capacity c =
    IfSome-from c.as_ref.result
    (ap (λ v. has_space v c.args.account.0) (sym c.self.view_is) ∙ has_place c.self.inside.slots.entries c.self.inside.registration_ends.entries c.args.account.0 (sym (ap is_some c.in-Some.ensures.value)))

pub returns-in-None-clause-its : goal.returns-in-None-clause-its
returns-in-None-clause-its c =
    in_force c.self.inside.slots.entries c.self.inside.registration_ends.entries c.args.account.0 None c.in-None.ensures.value
    ∙ ap (λ v. sheet_in v c.args.account.0) c.self.view_is

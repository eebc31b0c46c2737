use Rattle.std.proofs.Common.{ap, ◌∙◌}
use Rattle.mmtel_sheet_values.specs.View.{sheet_in, has_space, with_sheet}
use Rattle.mmtel_sheet_values.proofs.Tables.{put_in, in_force, has_no_place}
use Rattle.mmtel_sheet_values.proofs.view.SheetView.replace.Goals as goal

pub unreachable-requires : goal.unreachable-requires
unreachable-requires c =
    has_no_place c.self.inside.slots.entries c.self.inside.registration_ends.entries c.args.account.0 c.in-Err.ensures.absent
    (ap (λ v. has_space v c.args.account.0) c.self.view_is ∙ c.requires)

pub returns-clause-put : goal.returns-clause-put
returns-clause-put c =
    put_in c.self.inside.slots.entries c.insert.new.self.entries c.self.inside.registration_ends.entries c.args.account.0 c.args.sheet c.in-Ok.ensures.updates.0
    ∙ ap (λ v. with_sheet v c.args.account.0 c.args.sheet) c.self.view_is

pub returns-clause-before : goal.returns-clause-before
returns-clause-before c =
    c.flatten.ensures
    ∙ in_force c.self.inside.slots.entries c.self.inside.registration_ends.entries c.args.account.0 c.in-Ok.before c.in-Ok.ensures.old
    ∙ ap (λ v. sheet_in v c.args.account.0) c.self.view_is

use Rattle.std.proofs.Common.{ap, sym, ◌∙◌}
use Rattle.mmtel_sheet_values.specs.View.{has_space, with_space}
use Rattle.mmtel_sheet_values.proofs.OtherAccounts.{inserted}
use Rattle.mmtel_sheet_values.proofs.Tables.{room_made, room_there, has_place}
use Rattle.mmtel_sheet_values.proofs.view.SheetView.reserve.Goals as goal

pub returns-then-contains_key-clause-ok : goal.returns-then-contains_key-clause-ok
returns-then-contains_key-clause-ok c =
    sym c.self.view_is
    ∙ room_there c.self.inside.slots.entries c.self.inside.registration_ends.entries c.args.account.0 (sym c.contains_key.ensures ∙ c.if-contains_key.true)
    ∙ ap (λ v. with_space v c.args.account.0) c.self.view_is

pub returns-then-contains_key-clause-capacity : goal.returns-then-contains_key-clause-capacity
returns-then-contains_key-clause-capacity c =
    ap (λ v. has_space v c.args.account.0) (sym c.self.view_is)
    ∙ has_place c.self.inside.slots.entries c.self.inside.registration_ends.entries c.args.account.0 (sym c.contains_key.ensures ∙ c.if-contains_key.true)

pub returns-clause-ok : goal.returns-clause-ok
returns-clause-ok c =
    room_made c.self.inside.slots.entries c.insert.new.self.entries c.self.inside.registration_ends.entries c.args.account.0 (sym c.contains_key.ensures ∙ c.if-contains_key.false) c.in_ok-insert.ensures.updates.0
    ∙ ap (λ v. with_space v c.args.account.0) c.self.view_is

pub returns-clause-capacity : goal.returns-clause-capacity
returns-clause-capacity c =
    ap (λ v. has_space v c.args.account.0)
    (room_made c.self.inside.slots.entries c.insert.new.self.entries c.self.inside.registration_ends.entries c.args.account.0 (sym c.contains_key.ensures ∙ c.if-contains_key.false) c.in_ok-insert.ensures.updates.0)
    ∙ inserted _ c.args.account.0

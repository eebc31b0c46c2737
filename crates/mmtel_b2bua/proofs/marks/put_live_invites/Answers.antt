use Rattle.std.proofs.Common.{Bool, List, subst, sym, ◌∙◌}
use Rattle.std.specs.Prelude.{flat_map}
use Rattle.mmtel_b2bua.specs.Marks.{invite_marks, live_invite_marks}
use Rattle.mmtel_output.specs.Marks.{MarkUpdate}
use Rattle.mmtel_b2bua.specs.declared.entries.InviteKey.{InviteKey}
use Rattle.mmtel_output.proofs.Marking.{none_written}
use Rattle.mmtel_b2bua.proofs.marks.put_live_invites.Goals as goal

pub returns-then-not-is_live : goal.returns-then-not-is_live
returns-then-not-is_live c =
    subst (λ (b : Bool). MarkUpdate c.args.stays c.args.call.0 (live_invite_marks b c.args.entry.now.invites) c.args.index.now c.args.index.now) (sym c.if-not-is_live.true ∙ c.is_live.ensures)
    (none_written c.args.stays c.args.call.0 c.args.index.now)

pub returns : goal.returns
returns c =
    subst (λ (b : Bool). MarkUpdate c.args.stays c.args.call.0 (live_invite_marks b c.args.entry.now.invites) c.args.index.now c.put_invites.new.index) (sym c.if-not-is_live.false ∙ c.is_live.ensures)
    (subst (λ (l : List InviteKey). MarkUpdate c.args.stays c.args.call.0 (flat_map invite_marks l) c.args.index.now c.put_invites.new.index) c.items.ensures c.put_invites.ensures)

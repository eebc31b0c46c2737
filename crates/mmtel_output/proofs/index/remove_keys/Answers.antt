use Rattle.std.proofs.Common.{sym, ap, ◌∙◌}
use Rattle.std.specs.List.{list_any}
use Rattle.mmtel_output.specs.Marks.{is_same}
use Rattle.mmtel_output.proofs.Marking.{last_goes, same_at}
use Rattle.mmtel_output.proofs.index.remove_keys.Goals as goal

pub pending-init : goal.pending-init
pending-init c k held stays = (held, stays)

pub pending-preserved : goal.pending-preserved
pending-preserved c k held stays =
    let inv = c.pending.invariant k held stays in
    let w = last_goes k c.pop.new.self.items c.in-Some.key (ap (list_any (is_same k)) (sym c.in-Some.ensures.items) ∙ inv.1) in
    (c.remove.ensures.updates.2 k (same_at c.in-Some.key k w.1) ∙ inv.0, w.0)

pub returns-clause-others : goal.returns-clause-others
returns-clause-others c k held stays = (c.pending.invariant k held stays).0

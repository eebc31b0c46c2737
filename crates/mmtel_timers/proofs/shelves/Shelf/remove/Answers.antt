use Rattle.mmtel_timers.specs.Ranks.{item_of}
use Rattle.mmtel_timers.proofs.Mapped.{left, unchanged}
use Rattle.mmtel_timers.proofs.shelves.Shelf.remove.Goals as goal

pub returns-clause-rest : goal.returns-clause-rest
returns-clause-rest g c =
    let said = c.remove.ensures in
    let q = c.self.inside.items in
    let stays = unchanged (λ p. p.items) c.remove.result c.remove.new.self q said.unchanged in
    left item_of q.items c.remove.new.self.items c.args.place q.len c.remove.result c.args.self.now q.ok.0 said.variant said.items stays c.self.view_is

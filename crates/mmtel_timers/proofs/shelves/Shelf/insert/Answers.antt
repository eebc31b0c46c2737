use Rattle.mmtel_timers.specs.declared.shelves.Slot.{Slot}
use Rattle.mmtel_timers.specs.Ranks.{item_of}
use Rattle.mmtel_timers.proofs.Mapped.{put_in}
use Rattle.mmtel_timers.proofs.shelves.Shelf.insert.Goals as goal

pub returns-clause-ok : goal.returns-clause-ok
returns-clause-ok g c =
    let slot : Slot g.row.T.Denot = record { rank = c.rank-rank.result; block = c.in-Ok.block } in
    put_in item_of c.self.inside.items.items c.insert.new.self.items c.args.place slot c.args.item c.args.self.now c.self.view_is c.in-Ok.ensures.ok c.in_default.ensures.items

use Rattle.std.proofs.Common.{◌≡◌, take}
use Rattle.mmtel_delivery.proofs.delivery.deliver_each.Given as goal
use Rattle.mmtel_delivery.specs.Delivery.{Delivered, IsBoundStill, LostOnlyWhereRose, RoseBy, new_losses}

-- what was passed so far is a prefix of the outputs
abbrev pub invariant-loop-offer : goal.invariant-loop-offer
invariant-loop-offer g l = record {
  delivered : Delivered l.peers.known (take l.offer-index l.offers) (g.L.Link.output l.fn.link) (g.L.Link.output l.link);
  lost : LostOnlyWhereRose (g.L.Link.output l.fn.link) (g.L.Link.output l.link) (g.L.Link.delivery_faults l.fn.link) (g.L.Link.delivery_faults l.link);
  counted : RoseBy (new_losses (g.L.Link.output l.fn.link) (g.L.Link.output l.link)) (g.L.Link.delivery_faults l.fn.link) (g.L.Link.delivery_faults l.link);
  received : g.L.Link.input l.link ≡ g.L.Link.input l.fn.link;
  bound : IsBoundStill (g.L.Link.calls l.fn.link) (g.L.Link.calls l.link);
  arrival_faults : g.L.Link.arrival_faults l.link ≡ g.L.Link.arrival_faults l.fn.link;
}

use Rattle.std.proofs.Common.{◌∷◌, [], List, Option, take, refl, sym, ◌∙◌, subst}
use Rattle.mmtel_link.specs.LinkStates.{LinkOutput}
use Rattle.mmtel_environment.specs.declared.events.Offer.{Offer}
use Rattle.mmtel_delivery.proofs.Deliveries.{counted_none, counted_then, delivered_more, delivered_none, delivered_prefix, lost_none, lost_then, take_next}
use Rattle.mmtel_delivery.proofs.delivery.deliver_each.Goals as goal
use Rattle.mmtel_delivery.specs.Delivery.{Delivered}

pub loop-offer-init : goal.loop-offer-init
loop-offer-init g c = record {
  delivered = delivered_none c.args.peers.now.known (g.L.Link.output c.args.link.now);
  lost = lost_none (g.L.Link.output c.args.link.now) (g.L.Link.delivery_faults c.args.link.now);
  counted = counted_none (g.L.Link.output c.args.link.now) (g.L.Link.delivery_faults c.args.link.now);
  received = refl;
  bound = refl;
  arrival_faults = refl;
}

pub loop-offer-preserved : goal.loop-offer-preserved
loop-offer-preserved g c =
    let known = c.args.peers.now.known in
    let i = c.loop-offer.offer-index in
    let es = c.args.offers.now in
    record {
      delivered = subst (λ (l : List Offer). Delivered known l (g.L.Link.output c.args.link.now) (g.L.Link.output c.deliver.new.link))
          (sym (take_next i es c.offer-item.result c.loop-offer-test.true c.offer-item.is))
          (delivered_more known (take i es) (c.offer-item.result ∷ []) _ _ _ c.loop-offer.invariant.delivered c.in_ok-deliver.ensures.delivered);
      lost = lost_then _ _ _ _ _ _ c.loop-offer.invariant.lost c.deliver.ensures.lost;
      counted = counted_then _ _ _ _ _ _ c.loop-offer.invariant.counted c.deliver.ensures.counted;
      received = c.deliver.ensures.received ∙ c.loop-offer.invariant.received;
      bound = c.deliver.ensures.bound ∙ c.loop-offer.invariant.bound;
      arrival_faults = c.deliver.ensures.arrival_faults ∙ c.loop-offer.invariant.arrival_faults;
    }

pub returns-in_err-deliver-clause-delivered : goal.returns-in_err-deliver-clause-delivered
returns-in_err-deliver-clause-delivered g c =
    delivered_prefix c.args.peers.now.known c.loop-offer.offer-index c.args.offers.now _ _ c.from_residual.result c.from_residual.ensures.0
    (subst (λ (o : Option LinkOutput). Delivered c.args.peers.now.known (take c.loop-offer.offer-index c.args.offers.now) (g.L.Link.output c.args.link.now) o)
    (sym c.in_err-deliver.ensures.none) c.loop-offer.invariant.delivered)

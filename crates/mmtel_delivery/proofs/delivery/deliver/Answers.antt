use Rattle.std.proofs.Common.{◌∷◌, [], List, ℕ, sym, subst}
use Rattle.std.proofs.lemmas.Result.{on_ok_weaker}
use Rattle.mmtel_link.specs.LinkStates.{DeliversIfExposed, with_reply}
use Rattle.mmtel_environment.specs.declared.events.Offer.{Offer}
use Rattle.mmtel_delivery.proofs.Deliveries.{replies_one_more, sent_nowhere}
use Rattle.mmtel_delivery.proofs.delivery.deliver.Goals as goal
use Rattle.mmtel_delivery.specs.Delivery.{Delivered}

pub returns-in-None-clause-delivered : goal.returns-in-None-clause-delivered
returns-in-None-clause-delivered g c =
    subst (λ (o : Offer). Delivered c.args.peers.now.known (o ∷ []) (g.L.Link.output c.args.link.now) (g.L.Link.output c.args.link.now)) (sym c.in-To.is)
    (sent_nowhere c.args.peers.now.known c.in-To.peer c.in-To.at c.in-To.text (sym c.in-None.ensures.exact) (g.L.Link.output c.args.link.now))

pub returns-in-Web-clause-delivered : goal.returns-in-Web-clause-delivered
returns-in-Web-clause-delivered g c = on_ok_weaker c.lost_or_sent-in-Web.result (λ not.
    subst (λ (o : Offer). Delivered c.args.peers.now.known (o ∷ []) (g.L.Link.output c.args.link.now) (g.L.Link.output c.web_reply.new.self)) (sym c.in-Web.is)
    (replies_one_more c.args.peers.now.known c.in-Web.at c.in-Web.text _ _ c.web_reply.result
    (subst (λ (t : List ℕ). DeliversIfExposed (g.L.Link.output c.args.link.now) (g.L.Link.output c.web_reply.new.self) (with_reply t) c.web_reply.result) c.bytes-in-Web.ensures c.web_reply.ensures.output) not))
    c.lost_or_sent-in-Web.ensures.ok

use Rattle.std.proofs.Common.{ap, inl, inr, refl}
use Rattle.mmtel_trust.specs.Peers.{Peers}
use Rattle.mmtel_serve.proofs.Turning.{any_err, any_ok, served_of, stopped_of}
use Rattle.mmtel_serve.proofs.serving.serve_event.Goals as goal

pub returns-in-Ok-clause-done : goal.returns-in-Ok-clause-done
returns-in-Ok-clause-done g c = any_ok c.deliver_each.result _
    (served_of _ _ _ c.new-out.result c.step.new.out c.new-out.ensures c.deliver_each.result c.items.result.now c.peers.result.now.known c.items.ensures c.in-Ok.ensures.done
    (λ directory token loaded recorded serves. ap (λ (p : Peers). p.known) (c.peers.ensures.peers directory token loaded recorded serves)) c.deliver_each.ensures.delivered)

pub returns-in-Ok-clause-stopped : goal.returns-in-Ok-clause-stopped
returns-in-Ok-clause-stopped g c = any_err c.deliver_each.result _
    (inr (served_of _ _ _ c.new-out.result c.step.new.out c.new-out.ensures c.deliver_each.result c.items.result.now c.peers.result.now.known c.items.ensures c.in-Ok.ensures.done
    (λ directory token loaded recorded serves. ap (λ (p : Peers). p.known) (c.peers.ensures.peers directory token loaded recorded serves)) c.deliver_each.ensures.delivered))

pub returns-clause-stopped : goal.returns-clause-stopped
returns-clause-stopped g c = inl (stopped_of _ _ _ c.new-out.result c.step.new.out c.new-out.ensures refl c.in-Err.ensures.aborted)

pub returns-clause-lost : goal.returns-clause-lost
returns-clause-lost g c = inl (refl, refl)

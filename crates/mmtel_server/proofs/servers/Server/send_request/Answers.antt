use Rattle.std.proofs.Common.{◌≡◌, ◌++◌, ◌∷◌, [], ◌∙◌, ap, ℕ, length}
use Rattle.std.proofs.lemmas.Result.{on_ok_weaker}
use Rattle.mmtel_environment.specs.declared.events.Offer.TheVariants as offer
use Rattle.mmtel_transaction.specs.Results.{tkey}
use Rattle.mmtel_transaction.specs.Operations.{DidAsk, openings}
use Rattle.mmtel_server.proofs.Operations.{request_sent}
use Rattle.mmtel_server.proofs.servers.Server.send_request.Goals as goal

pub returns-clause-done : goal.returns-clause-done
returns-clause-done g c = on_ok_weaker c.offer_to.result (λ offered.
    request_sent c.numbers_are_distinct.ensures.few c.args.self.now c.take_outgoing-text.new.self c.args.out.now c.offer_to.new.out c.args.peer c.args.message.now c.args.context.now.at c.take_outgoing-text.result
    (λ h. c.in_ok-ask.field-0 ≡ tkey (length (openings h)))
    (λ h st room. let d = c.in_ok-ask.ensures.done h st room in (c.take_outgoing-text.ensures.represents (DidAsk c.args.peer c.args.message.now c.args.context.now.at ∷ h) d.0, d.1))
    (c.take_outgoing-text.ensures.text ∙ c.in_ok-ask.ensures.offered)
    (offered ∙ ap (λ (at : ℕ). c.args.out.now ++ offer.To c.args.peer at c.take_outgoing-text.result ∷ []) c.ms.ensures.number))
    c.offer_to.ensures.done

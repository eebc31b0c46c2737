use Rattle.std.proofs.Common.{◌++◌, ◌∷◌, ◌∙◌, ap, ℕ}
use Rattle.std.proofs.lemmas.Result.{on_ok_weaker}
use Rattle.mmtel_message.specs.Texts.{message_text}
use Rattle.mmtel_run_definitions.specs.Transitions.{to_peer}
use Rattle.mmtel_transaction.specs.Operations.{DidReply}
use Rattle.mmtel_server.proofs.Operations.{sent_to}
use Rattle.mmtel_server.proofs.servers.Server.send_response.Goals as goal

pub returns-clause-done : goal.returns-clause-done
returns-clause-done g c = on_ok_weaker c.offer_to_peer.result (λ offered d token before w did short.
    sent_to (DidReply c.args.key.0 c.args.message.now c.args.context.now.at) c.args.self.now c.take_outgoing-text.new.self c.args.out.now c.offer_to_peer.new.out c.args.key.0 c.args.context.now.at
    c.take_outgoing-text.result (message_text c.args.message.now) c.peer-peer.result
    (λ h st. c.take_outgoing-text.ensures.represents (DidReply c.args.key.0 c.args.message.now c.args.context.now.at ∷ h) (c.in_ok-reply.ensures.done h st))
    c.peer-peer.ensures.live
    (c.take_outgoing-text.ensures.text ∙ c.in_ok-reply.ensures.offered)
    (offered ∙ ap (λ (at : ℕ). c.args.out.now ++ to_peer at c.take_outgoing-text.result c.peer-peer.result) c.ms.ensures.number)
    d token before w did)
    c.offer_to_peer.ensures.done

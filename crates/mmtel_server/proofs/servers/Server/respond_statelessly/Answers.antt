use Rattle.std.proofs.Common.{ℕ, List, ap, ◌∙◌}
use Rattle.std.proofs.lemmas.Result.{on_ok_weaker}
use Rattle.mmtel_compose.specs.ReceivedMessages.{MessageView}
use Rattle.mmtel_admission.specs.Dispositions.{response_in}
use Rattle.mmtel_message.specs.Texts.{message_text}
use Rattle.mmtel_run_definitions.specs.OwnResponses.{response_to, to_tag_in}
use Rattle.mmtel_transaction.specs.declared.words.Emit.TheVariants as emit
use Rattle.mmtel_types.specs.declared.numbers.Peer.{Peer}
use Rattle.mmtel_server.proofs.Operations.{tags_one}
use Rattle.mmtel_server.proofs.servers.Server.respond_statelessly.Goals as goal

pub returns-clause-done : goal.returns-clause-done
returns-clause-done c =
    let m = c.args.request.now in
    let a = response_in c.args.status_response.now in
    on_ok_weaker c.send_text.result (tags_one (λ d tag. emit.Plain m.peer (message_text (response_to d.sip tag m a)))
    (to_tag_in c.request.inside.message.lines) m.parsed.to_tag c.args.context.now.at c.args.self.now c.draw_tag.new.tokens c.send_text.new.self c.args.out.now c.send_text.new.out c.in_ok-tag.tag
    (emit.Plain c.request.inside.peer c.bytes-2.result.now)
    (ap (λ (x : MessageView). x.parsed.to_tag) c.request.view_is) c.in_ok-tag.ensures.drawn c.in_ok-tag.ensures.tag
    (ap (λ (x : Peer). emit.Plain x c.bytes-2.result.now) (ap (λ (x : MessageView). x.peer) c.request.view_is)
    ∙ ap (λ (x : List ℕ). emit.Plain m.peer x)
    (c.bytes-2.ensures ∙ (c.in_ok-text.ensures.text
    ∙ ap message_text (c.in_ok-response.ensures.message ∙ ap (λ (x : List ℕ). response_to c.args.self.now.directory.sip x m a) c.bytes.ensures)))))
    c.send_text.ensures.done

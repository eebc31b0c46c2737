use Rattle.std.proofs.Common.{ℕ, List, ap, ◌∙◌, refl}
use Rattle.std.proofs.lemmas.Result.{on_ok_weaker}
use Rattle.mmtel_message.specs.Texts.{message_text}
use Rattle.mmtel_run_definitions.specs.OwnResponses.{completed_reply, to_tag_in}
use Rattle.mmtel_transaction.specs.declared.words.Emit.TheVariants as emit
use Rattle.mmtel_server.proofs.Operations.{tags_one}
use Rattle.mmtel_server.proofs.servers.Server.respond_to_unreadable.Goals as goal

pub returns-clause-done : goal.returns-clause-done
returns-clause-done c =
    let m = c.args.reply.now in
    on_ok_weaker c.send_text.result (tags_one (λ d tag. emit.Plain c.args.peer (message_text (completed_reply tag c.args.source m))) (to_tag_in m.lines)
    (to_tag_in m.lines) c.args.context.now.at c.args.self.now c.draw_tag.new.tokens c.send_text.new.self c.args.out.now c.send_text.new.out c.in_ok-tag.tag (emit.Plain c.args.peer c.bytes-2.result.now)
    refl c.in_ok-tag.ensures.drawn c.in_ok-tag.ensures.tag
    (ap (λ (x : List ℕ). emit.Plain c.args.peer x)
    (c.bytes-2.ensures ∙ (c.in_ok-text.ensures.text ∙ ap message_text (c.in_ok-response.ensures.message ∙ ap (λ (x : List ℕ). completed_reply x c.args.source m) c.bytes.ensures)))))
    c.send_text.ensures.done

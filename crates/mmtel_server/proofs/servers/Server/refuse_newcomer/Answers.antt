use Rattle.std.proofs.Common.{List, ℕ, ap, ◌∙◌}
use Rattle.std.proofs.lemmas.Result.{on_ok_weaker}
use Rattle.mmtel_directory.specs.declared.directories.Directory.{Directory}
use Rattle.mmtel_message.specs.Message.{Message}
use Rattle.mmtel_message.specs.declared.messages.Start.{Start}
use Rattle.mmtel_run_definitions.specs.OwnResponses.{StatusResponse, plain_response, response_to}
use Rattle.mmtel_run_definitions.specs.Transitions.{with_emit}
use Rattle.mmtel_transaction.specs.declared.words.Emit.TheVariants as emit
use Rattle.mmtel_server.proofs.Owners.{follows_so}
use Rattle.mmtel_server.proofs.servers.Server.refuse_newcomer.Goals as goal

pub returns-clause-done : goal.returns-clause-done
returns-clause-done g c = on_ok_weaker c.send_response-done.result (λ follows.
    let s = c.args.self.now in
    let said = c.args.newcomer.now.invite.now in
    follows_so c.in_ok-response.response (λ d w. response_to d.sip c.args.newcomer.now.tag.now said (plain_response c.args.code))
    (λ (m : Message Start) d token. with_emit c.args.context.now.at (emit.Reply c.args.newcomer.now.key m)) s c.args.out.now
    (λ d token w have.
    c.in_ok-response.ensures.message
    ∙ (ap (λ (a : StatusResponse). response_to s.directory.sip c.bytes.result.now said a) c.plain_response.ensures.response
    ∙ (ap (λ (t : List ℕ). response_to s.directory.sip t said (plain_response c.args.code)) c.bytes.ensures
    ∙ ap (λ (x : Directory). response_to x.sip c.args.newcomer.now.tag.now said (plain_response c.args.code)) have.same_directory)))
    c.send_response-done.new.self c.send_response-done.new.out follows)
    c.send_response-done.ensures.done

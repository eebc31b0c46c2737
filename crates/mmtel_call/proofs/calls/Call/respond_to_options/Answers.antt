-- the further header fields are those of the methods that the server supports
use Rattle.std.proofs.Common.{◌≡◌, ◌∙◌, List, ap, subst}
use Rattle.std.specs.Prelude.{OnOk}
use Rattle.mmtel_compose.specs.Responses.{allow_lines}
use Rattle.mmtel_compose.specs.declared.responses.FurtherMethods.{FurtherMethods}
use Rattle.mmtel_message.specs.Message.{Line}
use Rattle.mmtel_call.specs.Requests.{with_response_to}
use Rattle.mmtel_call.proofs.calls.Call.respond_to_options.Goals as goal

pub returns : goal.returns
returns c =
    subst (λ (ls : List Line). OnOk c.respond_to-answered.result (c.respond_to-answered.new.output ≡ with_response_to c.args.step.now.config.now c.args.self.now c.args.key c.args.request.now 200 ls c.args.output.now))
    (c.in_ok-named.ensures.lines ∙ ap (λ (x : FurtherMethods). allow_lines x) c.further_methods.ensures) c.respond_to-answered.ensures

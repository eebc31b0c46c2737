use Rattle.std.proofs.Common.{ap, sym, ◌∙◌}
use Rattle.mmtel_compose.specs.ReceivedMessages.{MessageView}
use Rattle.mmtel_output.specs.ResponseMatching.{is_awaited_response}
use Rattle.mmtel_output.proofs.FirstVia.{method_awaited, none_awaited}
use Rattle.mmtel_output.proofs.response_matching.is_awaited_response.Goals as goal

pub returns-in-None : goal.returns-in-None
returns-in-None c = sym (none_awaited c.response.inside.message.lines (sym c.in-None.ensures)) ∙ ap (λ (x : MessageView). is_awaited_response x.parsed.cseq) c.response.view_is

pub returns-in-Some : goal.returns-in-Some
returns-in-Some c =
    c.is_awaited_method.ensures
    ∙ sym (method_awaited c.response.inside.message.lines c.in-Some.method.now (sym c.in-Some.ensures))
    ∙ ap (λ (x : MessageView). is_awaited_response x.parsed.cseq) c.response.view_is

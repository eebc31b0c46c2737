use Rattle.std.proofs.Common.{ap, ◌∙◌}
use Rattle.mmtel_compose.specs.ReceivedMessages.{MessageView}
use Rattle.mmtel_output.specs.ResponseMatching.{first_branch_in}
use Rattle.mmtel_output.proofs.FirstVia.{branch_read}
use Rattle.mmtel_output.proofs.response_matching.first_branch.Goals as goal

pub returns : goal.returns
returns c = c.first_branch.ensures ∙ branch_read c.response.inside.message.lines ∙ ap (λ (x : MessageView). first_branch_in x.parsed.vias) c.response.view_is

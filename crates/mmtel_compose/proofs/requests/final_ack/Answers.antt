use Rattle.std.proofs.Common.{◌≡◌, ◌∙◌, ap, subst, codes}
use Rattle.mmtel_leg.specs.Requests.{RequestPartsView, request_numbered}
use Rattle.mmtel_leg.specs.declared.dialogues.Dialogue.{Dialogue}
use Rattle.std.specs.Prelude.{IfOk}
use Rattle.mmtel_compose.specs.Requests.{bare_parts, with_to}
use Rattle.mmtel_compose.proofs.requests.final_ack.Goals as goal

pub returns : goal.returns
returns c = record {
  message =
      subst (λ (d : Dialogue). IfOk c.request_numbered.result (λ m. m ≡ request_numbered d c.args.number (codes "ACK") (bare_parts c.args.sip c.args.branch.now)))
      (c.with_to-answered.ensures ∙ ap (λ (d : Dialogue). with_to d c.args.to) c.in_ok-copied.ensures.copy)
      (subst (λ (g : RequestPartsView). IfOk c.request_numbered.result (λ m. m ≡ request_numbered c.with_to-answered.result c.args.number (codes "ACK") g)) c.bare_parts.ensures.parts c.request_numbered.ensures.message);
}

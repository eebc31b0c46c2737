use Rattle.std.proofs.Common.{◌≡◌, IfOk, ap, subst}
use Rattle.mmtel_leg.specs.Legs.{Leg}
use Rattle.mmtel_leg.specs.Requests.{RequestPartsView, request_of}
use Rattle.mmtel_leg.specs.declared.dialogues.Dialogue.{Dialogue}
use Rattle.mmtel_leg.proofs.legs.LegOf.request.Goals as goal

pub returns-clause-message : goal.returns-clause-message
returns-clause-message g c =
    let of_leg = subst (λ (d : Dialogue). IfOk c.request.result (λ m. m ≡ request_of d c.args.method.now c.of-parts.result)) (ap (λ (leg : Leg). leg.dialogue) c.self.view_is) c.request.ensures.message in
    subst (λ (given : RequestPartsView). IfOk c.request.result (λ m. m ≡ request_of c.args.self.now.dialogue c.args.method.now given)) c.of-parts.ensures.parts of_leg

use Rattle.std.proofs.Common.{◌≡◌, ℕ, List, subst}
use Rattle.std.specs.Prelude.{IfOk}
use Rattle.mmtel_message.proofs.ViaTheorems.{sourced_is}
use Rattle.mmtel_message.proofs.vias.sourced_via.Goals as goal

pub returns : goal.returns
returns c = subst (λ (x : List ℕ). IfOk c.sourced_text.result (λ t. t ≡ x)) (sourced_is c.args.source c.args.via.now) c.sourced_text.ensures

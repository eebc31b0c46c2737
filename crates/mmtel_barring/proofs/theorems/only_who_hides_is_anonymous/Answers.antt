use Rattle.mmtel_barring.proofs.BarringTheorems.{nobody, opened, unasked}
use Rattle.mmtel_barring.proofs.theorems.only_who_hides_is_anonymous.Goals as goal

pub returns : goal.returns
returns c = record { nobody = nobody; shown = opened; unasked = unasked }

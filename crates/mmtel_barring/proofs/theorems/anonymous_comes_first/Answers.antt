use Rattle.mmtel_barring.proofs.BarringTheorems.{refused}
use Rattle.mmtel_barring.proofs.theorems.anonymous_comes_first.Goals as goal

pub returns : goal.returns
returns c = record { refused = refused }

use Rattle.mmtel_call_parties.proofs.UntrustedSenders.{origin-first, said-first}
use Rattle.mmtel_call_parties.proofs.theorems.first_served_user_counts.Goals as goal

pub returns : goal.returns
returns c = record { unchanged = said-first; origin = origin-first }

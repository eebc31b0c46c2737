-- What one peer observes of a run.
use Rattle.std.specs.Prelude.{ℕ, ◌==◌, if◌then◌else◌, List, [], ◌∷◌}
use Rattle.mmtel_environment.specs.declared.events.Offer.{Offer}
use Rattle.mmtel_environment.specs.declared.events.Offer.TheVariants as offer
use Rattle.mmtel_types.specs.declared.numbers.Peer.{Peer}

-- the messages that are sent to this peer: each with its moment, in order
abbrev pub view : Peer → List Offer → List (ℕ × List ℕ)
view seer [] = []
view seer (offer.To peer at text ∷ offers) = if peer.0 == seer.0 then (at, text) ∷ view seer offers else view seer offers
view seer (offer.Web at text ∷ offers) = view seer offers

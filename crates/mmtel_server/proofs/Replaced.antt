-- What is put into the reserved place comes after the rest.
use Rattle.std.proofs.Common.{◌≡◌, ◌∙◌, ◌++◌, ℕ, List, [], ◌∷◌, length, slice_set}
use Rattle.std.proofs.Math.Seq.{set-append_seam}
use Rattle.mmtel_environment.specs.declared.events.Offer.{Offer}

pub put_behind : (out made put : List Offer) (room reply : Offer) (place : ℕ) → made ≡ out ++ room ∷ [] → place ≡ length out → put ≡ slice_set made place reply → put ≡ out ++ reply ∷ []
put_behind out made put room reply place is_made is_place is_put = is_put ∙ rw (is_made, is_place) (set-append_seam out room [] reply)

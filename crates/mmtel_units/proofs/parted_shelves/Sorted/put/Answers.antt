use Rattle.std.proofs.Common.{◌≡◌, ℕ, ◌≤◌, true, false, nat_lt, arith}
use Rattle.std.specs.Prelude.{slice_index_or}
use Rattle.std.proofs.lemmas.Bool.Decides.{nat_tests}
use Rattle.mmtel_units.proofs.parted_shelves.Sorted.put.Goals as goal

lower : (a b : ℕ) → nat_lt a b ≡ true → a ≤ b
lower a b t = grind (arith, nat_tests)

higher : (a b : ℕ) → nat_lt a b ≡ false → b ≤ a
higher a b f = grind (arith, nat_tests)

pub insert-requires-clause-ranked : goal.insert-requires-clause-ranked
insert-requires-clause-ranked g c =
    let items = c.args.self.now.shelf in
    let hash = c.args.item.hash in
    (λ k d s t. lower (slice_index_or items k d).hash hash (c.seek-place.ensures.parted.0 k d s t), λ k d s t. higher (slice_index_or items k d).hash hash (c.seek-place.ensures.parted.1 k d s t))

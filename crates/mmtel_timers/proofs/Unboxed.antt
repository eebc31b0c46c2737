-- Lists of blocks, and of their contents.
use Rattle.std.proofs.Common.{◌≡◌, ℕ, ◌<◌, List, length, remove}
use Rattle.std.specs.Prelude.{Box, slice_index_or}
use Rattle.std.proofs.lemmas.List.{length-map}
use Rattle.mmtel_timers.specs.Shelves.{unboxed_items}
use Rattle.mmtel_timers.proofs.Mapped.{read_mapped, remove_mapped}

pub length_unboxed : {X A : Type 0} (bs : List (Box X A)) → length (unboxed_items bs) ≡ length bs
length_unboxed bs = length-map bs (λ b. b.value)

pub remove_unboxed : {X A : Type 0} (bs : List (Box X A)) (i : ℕ) → unboxed_items (remove bs i) ≡ remove (unboxed_items bs) i
remove_unboxed bs i = remove_mapped (λ b. b.value) bs i

-- the contents of a block that is looked up
pub read_unboxed : {X A : Type 0} (bs : List (Box X A)) (i : ℕ) (b : Box X A) (x : X) (xs : List X) → i < length (unboxed_items bs) → b ≡ slice_index_or bs i b → x ≡ b.value →
    unboxed_items bs ≡ xs → x ≡ slice_index_or xs i x
read_unboxed bs i b x xs l q is same = read_mapped (λ b. b.value) bs i b x xs l q is same

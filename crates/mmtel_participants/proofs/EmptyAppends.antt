-- Appending nothing to a list leaves it unchanged.
use Rattle.std.proofs.Common.{◌≡◌, ◌++◌, append-nil, List, []}

pub and_nothing : {A : Type 0} → (l : List A) → l ++ [] ≡ l
and_nothing l = append-nil l

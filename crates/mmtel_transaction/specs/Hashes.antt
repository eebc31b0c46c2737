-- A hash of bytes: equal bytes have equal hashes. Different bytes may have the same one too, so what is found by it is compared with what is sought.
use Rattle.std.specs.Prelude.{ℕ, ◌+◌, ◌*◌, ◌%◌, ◌^◌, List, [], ◌∷◌}

abbrev pub hash_step : ℕ → ℕ → ℕ
hash_step sum byte = ((sum * 1099511628211) % (2 ^ 64) + byte) % (2 ^ 64)

abbrev pub hash_from : ℕ → List ℕ → ℕ
hash_from sum [] = sum
hash_from sum (b ∷ bs) = hash_from (hash_step sum b) bs

abbrev pub hash_of : List ℕ → ℕ
hash_of bytes = hash_from 0 bytes

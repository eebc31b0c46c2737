-- The hash of bytes, byte by byte.
use Rattle.std.proofs.Common.{◌≡◌, ℕ, ◌+◌, ◌<◌, List, [], ◌∷◌, ◌++◌, length, get_or, refl, sym, ap, ◌∙◌, take}
use Rattle.std.proofs.lemmas.List.{take_more}
use Rattle.mmtel_transaction.specs.Hashes.{hash_from, hash_of, hash_step}

hash_more : (bytes : List ℕ) (b : ℕ) → hash_step (hash_of bytes) b ≡ hash_of (bytes ++ b ∷ [])
hash_more bytes b = go 0 bytes
  where
    go : (sum : ℕ) (bs : List ℕ) → hash_step (hash_from sum bs) b ≡ hash_from sum (bs ++ b ∷ [])
    go sum [] = refl
    go sum (x ∷ xs) = go (hash_step sum x) xs

pub hash_next : (bytes : List ℕ) (at sum b : ℕ) → at < length bytes → sum ≡ hash_of (take at bytes) → b ≡ get_or bytes at 0 → hash_step sum b ≡ hash_of (take (at + 1) bytes)
hash_next bytes at sum b l so is =
    ap (λ (n : ℕ). hash_step n b) so ∙ (hash_more (take at bytes) b ∙ sym (ap (λ (l : List ℕ). hash_of l) (take_more bytes at 0 l ∙ ap (λ (y : ℕ). take at bytes ++ y ∷ []) (sym is))))

-- Bytes that are read, and one record more.
use Rattle.std.proofs.Common.{◌≡◌, inl, inr, ℕ, ◌-◌, ◌<◌, ◌≤◌, Bool, true, false, cond, List, [], ◌∷◌, ◌++◌, length, get_or, take, drop, Some, None, refl, sym, ap, ◌∙◌, arith}
use Rattle.std.specs.Int.{w64, to_be_bytes}
use Rattle.std.proofs.lemmas.Bool.{cases_lt}
use Rattle.std.proofs.lemmas.List.{length-take, get_or-take, get_or_past, take_all}
use Rattle.mmtel_journal.specs.Journal.{encoded_records, record_bytes}
use Rattle.mmtel_journal.proofs.Records.{spelled_push}

abbrev pub IsBytes : List ℕ → Type 0
IsBytes bytes = (i : ℕ) → get_or bytes i 0 < 256

pub IsBytes-take : (n : ℕ) (bytes : List ℕ) → IsBytes bytes → IsBytes (take n bytes)
IsBytes-take n bytes h i =
    elim (cases_lt i n) [
      | inl lt ↦ rw (get_or-take n bytes i 0 lt) (h i)
      | inr le ↦ rw (get_or_past (take n bytes) i 0 (omega (arith, length-take n bytes))) (omega arith)
    ]

pub guard_some : {A : Type 0} (b : Bool) (x y : A) → cond b None (Some x) ≡ Some y → (b ≡ false) × (x ≡ y)
guard_some true x y e = absurd cc
guard_some false x y e = (refl, cc)

-- one record more
record_more : (bytes : List ℕ) (ps : List (List ℕ)) (tail p after : List ℕ) → bytes ≡ encoded_records ps ++ 1 ∷ tail → tail ≡ to_be_bytes w64 (length p) ++ p ++ after
    → bytes ≡ encoded_records (ps ++ p ∷ []) ++ after
unfolding record_bytes
record_more bytes ps tail p after so_far is =
    so_far ∙ ap (λ (l : List ℕ). encoded_records ps ++ 1 ∷ l) is ∙ sym (spelled_push ps p after)

-- what begins with an open gate
pub record Opens (rest tail : List ℕ) : Type 0 where
  pub long : 1 ≤ length rest
  pub gate : get_or rest 0 0 ≡ 1
  pub behind : tail ≡ take (length rest - 1) (drop 1 rest)

pub opens_is : (rest tail : List ℕ) → Opens rest tail → rest ≡ 1 ∷ tail
opens_is [] tail opens = absurd (omega (arith, opens.long))
opens_is (g ∷ behind) tail opens =
    let all : take (length (g ∷ behind) - 1) behind ≡ behind = take_all (length (g ∷ behind) - 1) behind (omega arith) in
    ap (λ (k : ℕ). k ∷ behind) opens.gate ∙ ap (λ (l : List ℕ). 1 ∷ l) (sym (opens.behind ∙ all))

pub record_next : (bytes : List ℕ) (ps : List (List ℕ)) (rest tail p after : List ℕ) → bytes ≡ encoded_records ps ++ rest → Opens rest tail
    → tail ≡ to_be_bytes w64 (length p) ++ p ++ after
    → bytes ≡ encoded_records (ps ++ p ∷ []) ++ after
record_next bytes ps rest tail p after so_far opens is = record_more bytes ps tail p after (so_far ∙ ap (λ (l : List ℕ). encoded_records ps ++ l) (opens_is rest tail opens)) is

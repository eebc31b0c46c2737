-- Bytes in hexadecimal digits, one after another.
use Rattle.std.proofs.Common.{◌≡◌, ◌<◌, ℕ, suc, List, [], ◌∷◌, ◌++◌, length, Option, Some, None, refl, ap, sym, subst, ◌∙◌, append_assoc, arith}
use Rattle.std.specs.Option.{option_map}
use Rattle.mmtel_base.specs.Chain.{◌>>=◌}
use Rattle.mmtel_base.proofs.ChainTheorems.{some_is, some_none}
use Rattle.mmtel_script.specs.Script.{hex_byte, hex_bytes, leading_byte, with_first}

abbrev paired : Option ℕ → List ℕ → Option (ℕ × List ℕ)
paired v s = v >>= λ b. Some (b, s)

first_by : (v : Option ℕ) (s : List ℕ) (x : ℕ × List ℕ) → paired v s ≡ Some x → (v >>= λ byte. with_first byte (hex_bytes s)) ≡ with_first x.0 (hex_bytes x.1)
first_by None s x e = absurd (some_none x None refl e)
first_by (Some b) s x e = subst (λ (y : ℕ × List ℕ). with_first b (hex_bytes s) ≡ with_first y.0 (hex_bytes y.1)) (some_is (b, s) x e) refl

pub first_byte : (s : List ℕ) (x : ℕ × List ℕ) → leading_byte s ≡ Some x → hex_bytes s ≡ with_first x.0 (hex_bytes x.1)
first_byte [] x e = absurd (some_none x None refl e)
first_byte (high ∷ []) x e = absurd (some_none x None refl e)
first_byte (high ∷ low ∷ s) x e = first_by (hex_byte high low) s x e

no_byte_by : (v : Option ℕ) (s : List ℕ) → paired v s ≡ None → (v >>= λ byte. with_first byte (hex_bytes s)) ≡ None
no_byte_by None s e = refl
no_byte_by (Some b) s e = absurd (some_none (b, s) (Some (b, s)) e refl)

pub no_byte : (s : List ℕ) → 0 < length s → leading_byte s ≡ None → hex_bytes s ≡ None
no_byte [] filled e = absurd (omega arith)
no_byte (high ∷ []) filled e = refl
no_byte (high ∷ low ∷ s) filled e = no_byte_by (hex_byte high low) s e

shorter_by : (v : Option ℕ) (s : List ℕ) (x : ℕ × List ℕ) → paired v s ≡ Some x → length x.1 < suc (suc (length s))
shorter_by None s x e = absurd (some_none x None refl e)
shorter_by (Some b) s x e = subst (λ (y : ℕ × List ℕ). length y.1 < suc (suc (length s))) (some_is (b, s) x e) (omega arith)

pub shorter : (s : List ℕ) (x : ℕ × List ℕ) → leading_byte s ≡ Some x → length x.1 < length s
shorter [] x e = absurd (some_none x None refl e)
shorter (high ∷ []) x e = absurd (some_none x None refl e)
shorter (high ∷ low ∷ s) x e = shorter_by (hex_byte high low) s x e

-- ---- the loop that reads one pair after another

onto : (bytes : List ℕ) (byte : ℕ) (w : Option (List ℕ)) → option_map (λ m. (bytes ++ byte ∷ []) ++ m) w ≡ option_map (λ m. bytes ++ m) (with_first byte w)
onto bytes byte None = refl
onto bytes byte (Some m) = ap (λ (l : List ℕ). Some l) (append_assoc bytes (byte ∷ []) m)

pub next_pair : (bytes new s : List ℕ) (byte : ℕ) (more : List ℕ) (all : Option (List ℕ)) → new ≡ bytes ++ byte ∷ [] →
    hex_bytes s ≡ with_first byte (hex_bytes more) → option_map (λ m. bytes ++ m) (hex_bytes s) ≡ all → option_map (λ m. new ++ m) (hex_bytes more) ≡ all
next_pair bytes new s byte more all pushed first before =
    subst (λ (n : List ℕ). option_map (λ m. n ++ m) (hex_bytes more) ≡ all) (sym pushed)
    (onto bytes byte (hex_bytes more) ∙ ap (λ (o : Option (List ℕ)). option_map (λ m. bytes ++ m) o) (sym first) ∙ before)

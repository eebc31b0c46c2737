-- A word that is UTF-8 has a first character after its dash.
use Rattle.std.proofs.Common.{◌≡◌, ℕ, ◌==◌, cond, true, false, refl, List, [], ◌∷◌, Some, None, slice_get, Bool, arith}
use Rattle.std.proofs.lemmas.Bool.Decides.{nat_tests}
use Rattle.std.specs.Str.{chars, IsUtf8, encode_utf8_all}
use Rattle.std.proofs.lemmas.Str.{encodes-chars}
use Rattle.std.specs.Char.{encode_utf8}
use Rattle.clap.specs.Words.{Text}
use Rattle.clap.specs.Lexer.{short_of}
use Rattle.mmtel_words.proofs.Auto.{Readable, AllReadable}
use Rattle.mmtel_words.specs.CommandLine.{EachText}

nope : (flags : Text) → None ≡ Some flags → ⊥
nope flags e = cc

tail-of : (flags : Text) → IsUtf8 (45 ∷ flags) → encode_utf8_all (chars flags) ≡ flags
unfolding chars encode_utf8
tail-of [] h = refl
tail-of (y ∷ ys) h = let e = encodes-chars (45 ∷ y ∷ ys) h in cc

empty : (y : ℕ) (ys : Text) → [] ≡ y ∷ ys → ⊥
empty y ys e = cc

first-char : (cs : List ℕ) (y : ℕ) (ys : Text) → encode_utf8_all cs ≡ y ∷ ys → (c : ℕ) × (slice_get cs 0 ≡ Some c)
first-char [] y ys e = absurd (empty y ys e)
first-char (c ∷ cs) y ys e = (c, refl)

by-dash : (b : ℕ) (rest flags : Text) (d : Bool) → (b == 45) ≡ d → IsUtf8 (b ∷ rest) → short_of (b ∷ rest) ≡ Some flags → (y : ℕ) × (ys : Text) × (c : ℕ) × (flags ≡ y ∷ ys) × (slice_get (chars (y ∷ ys)) 0 ≡ Some c)
by-dash b [] flags true e h s = absurd (nope flags (rw e at s))
by-dash b (y ∷ ys) flags true e h s =
    let dash : b ≡ 45 = grind (arith, nat_tests) in
    let whole : IsUtf8 (45 ∷ y ∷ ys) = rw (← dash) h in
    let c = first-char (chars (y ∷ ys)) y ys (tail-of (y ∷ ys) whole) in
    (y, ys, c.0, flags-are (y == 45) (rw e at s), c.1)
  where
    flags-are : (t : Bool) → cond t None (Some (y ∷ ys)) ≡ Some flags → flags ≡ y ∷ ys
    flags-are true s = absurd (nope flags s)
    flags-are false s = cc
by-dash b rest flags false e h s = absurd (nope flags (rw e at s))

pub readable : (x : Text) → IsUtf8 x → Readable x
readable [] h flags s = absurd (nope flags s)
readable (b ∷ rest) h flags s = by-dash b rest flags (b == 45) refl h s

pub all-readable : (ws : List Text) → EachText ws → AllReadable ws
all-readable [] h = tt
all-readable (x ∷ xs) h = (readable x h.0, all-readable xs h.1)

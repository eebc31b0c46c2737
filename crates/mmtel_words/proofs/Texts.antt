-- Words that are UTF-8, one more, and one of them.
use Rattle.std.proofs.Common.{◌≡◌, ◌∙◌, ℕ, zero, suc, ◌+◌, ◌<◌, List, [], ◌∷◌, ◌++◌, length, get_or, map, take, refl, sym, ap, subst, arith}
use Rattle.std.proofs.lemmas.List.{take_more}
use Rattle.std.specs.Borrow.{Bor}
use Rattle.std.specs.Prelude.{IsUtf8}
use Rattle.clap.specs.Words.{Text}
use Rattle.mmtel_words.specs.CommandLine.{EachText}

pub each_more : (ws : List Text) (w : Text) → EachText ws → IsUtf8 w → EachText (ws ++ w ∷ [])
each_more [] w h is = (is, tt)
each_more (v ∷ ws) w h is = (h.0, each_more ws w h.1 is)

pub each_at : (ws : List Text) (i : ℕ) (d : Text) → i < length ws → EachText ws → IsUtf8 (get_or ws i d)
each_at [] i d lt h = absurd (omega arith)
each_at (w ∷ ws) zero d lt h = h.0
each_at (w ∷ ws) (suc i) d lt h = each_at ws i d (omega arith) h.1

-- one word more, as a text of characters
pub now_more : (xs : List (Bor Text)) (x : Bor Text) → map (λ w. w.now) (xs ++ x ∷ []) ≡ map (λ w. w.now) xs ++ x.now ∷ []
now_more [] x = refl
now_more (y ∷ xs) x = ap (λ l. y.now ∷ l) (now_more xs x)

-- so far the same words, each UTF-8, and the next one
pub next_text : (words : List Text) (i : ℕ) (d : Text) (texts now : List (Bor Text)) (x : Bor Text) → i < length words → d ≡ get_or words i d → x.now ≡ d → IsUtf8 d
    → now ≡ texts ++ x ∷ [] → (map (λ w. w.now) texts ≡ take i words) × EachText (take i words) → (map (λ w. w.now) now ≡ take (i + 1) words) × EachText (take (i + 1) words)
next_text words i d texts now x lt is same utf8 pushed so =
    let more : take (i + 1) words ≡ take i words ++ d ∷ [] = take_more words i d lt ∙ ap (λ w. take i words ++ w ∷ []) (sym is) in (
      ap (map (λ w. w.now)) pushed ∙ now_more texts x ∙ ap (λ w. map (λ w. w.now) texts ++ w ∷ []) same ∙ ap (λ l. l ++ d ∷ []) so.0 ∙ sym more,
      subst EachText (sym more) (each_more (take i words) d so.1 utf8),
    )

-- a word that is none
pub no_text : (words : List Text) (i : ℕ) (d b : Text) → i < length words → d ≡ get_or words i d → b ≡ d → (IsUtf8 b → ⊥) → EachText words → ⊥
no_text words i d b lt is same none each = none (subst IsUtf8 (sym is ∙ sym same) (each_at words i d lt each))

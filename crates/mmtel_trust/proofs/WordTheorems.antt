-- Words that are written after their ';'.
use Rattle.std.proofs.Common.{◌≡◌, ℕ, List, [], ◌∷◌, ◌++◌, refl, sym, ap, ◌∙◌, Bool, true, false, not, drop, cond, inl, inr, codes, append_assoc}
use Rattle.std.specs.Prelude.{filter}
use Rattle.std.specs.List.{flat_map}
use Rattle.std.specs.Str.{str_eq_ignore_ascii_case}
use Rattle.std.proofs.lemmas.Bool.{cases_Bool}
use Rattle.mmtel_message.specs.Values.{joined_by}
use Rattle.mmtel_message.specs.Message.{Line}
use Rattle.mmtel_trust.specs.Privacy.{words, has_word, restricted_words, restricted_text}
use Rattle.mmtel_trust.specs.WrittenWords.{separated_word}

-- a word after its ';'
abbrev behind : List ℕ → List ℕ
behind w = 59 ∷ w

abbrev is_other : List ℕ → Bool
is_other v = not (str_eq_ignore_ascii_case v (codes "none"))

kept_are : (vs : List (List ℕ)) → flat_map separated_word vs ≡ flat_map behind (filter is_other vs)
kept_are [] = refl
kept_are (v ∷ vs) = elim (cases_Bool (str_eq_ignore_ascii_case v (codes "none"))) [
  | inl y ↦ rw y (kept_are vs)
  | inr n ↦ rw n (ap (λ s. (59 ∷ v) ++ s) (kept_are vs))
]

behind_more : (vs ws : List (List ℕ)) → flat_map behind (vs ++ ws) ≡ flat_map behind vs ++ flat_map behind ws
behind_more [] ws = refl
behind_more (v ∷ vs) ws = ap (λ s. (59 ∷ v) ++ s) (behind_more vs ws) ∙ sym (append_assoc (59 ∷ v) (flat_map behind vs) (flat_map behind ws))

id_behind : (b : Bool) → flat_map behind (cond b [] (codes "id" ∷ [])) ≡ cond b [] (codes ";id")
id_behind true = refl
id_behind false = refl

-- the words that are written, each after its ';'
pub words_behind : (ls : List Line) → flat_map separated_word (words ls) ++ cond (has_word (codes "id") ls) [] (codes ";id") ≡ flat_map behind (restricted_words ls)
words_behind ls =
    ap (λ s. s ++ cond (has_word (codes "id") ls) [] (codes ";id")) (kept_are (words ls))
    ∙ (ap (λ s. flat_map behind (filter is_other (words ls)) ++ s) (sym (id_behind (has_word (codes "id") ls)))
    ∙ sym (behind_more (filter is_other (words ls)) (cond (has_word (codes "id") ls) [] (codes "id" ∷ []))))

-- with the first ';' removed, they are joined
pub joined_behind : (ws : List (List ℕ)) → drop 1 (flat_map behind ws) ≡ joined_by (codes ";") ws
joined_behind [] = refl
joined_behind (w ∷ ws) = refl

pub behind_text : (ls : List Line) (s : List ℕ) → s ≡ flat_map separated_word (words ls) ++ cond (has_word (codes "id") ls) [] (codes ";id") → drop 1 s ≡ restricted_text ls
behind_text ls s e = ap (drop 1) (e ∙ words_behind ls) ∙ joined_behind (restricted_words ls)

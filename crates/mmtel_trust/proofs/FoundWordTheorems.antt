-- The known words of Privacy, found in one walk over the values of its lines.
use Rattle.std.proofs.Common.{◌≡◌, ℕ, List, [], ◌∷◌, ◌++◌, refl, ap, ◌∙◌, Bool, ◌||◌, codes}
use Rattle.std.proofs.Math.Bool.{or-false, or_assoc}
use Rattle.std.specs.List.{list_any, flat_map}
use Rattle.std.specs.Str.{str_eq_ignore_ascii_case}
use Rattle.mmtel_message.specs.Message.{Line, line_texts}
use Rattle.mmtel_message.specs.Values.{values_in}
use Rattle.mmtel_message.specs.declared.values.Mode.TheVariants.{Words}
use Rattle.mmtel_types.specs.declared.privacy.PrivacySet.{PrivacySet}
use Rattle.mmtel_trust.specs.FoundWords.{with_word, with_words}
use Rattle.mmtel_trust.specs.Privacy.{wants, words}
use Rattle.mmtel_trust.proofs.LineWalks.{values_are}

-- ---- words

pub found_more : (found : PrivacySet) (vs ws : List (List ℕ)) → with_words found (vs ++ ws) ≡ with_words (with_words found vs) ws
found_more found [] ws = refl
found_more found (v ∷ vs) ws = found_more (with_word found v) vs ws

abbrev has : List ℕ → List (List ℕ) → Bool
has word vs = list_any (λ v. str_eq_ignore_ascii_case v word) vs

-- the words found before and those of a list, each compared with the whole list
abbrev found_in : PrivacySet → List (List ℕ) → PrivacySet
found_in found vs = record {
  header = found.header || has (codes "header") vs;
  session = found.session || has (codes "session") vs;
  user = found.user || has (codes "user") vs;
  none = found.none || has (codes "none") vs;
  critical = found.critical || has (codes "critical") vs;
  id = found.id || has (codes "id") vs;
  history = found.history || has (codes "history") vs;
}

found_are : (found : PrivacySet) (vs : List (List ℕ)) → with_words found vs ≡ found_in found vs
found_are found [] = rw (or-false found.header, or-false found.session, or-false found.user, or-false found.none, or-false found.critical, or-false found.id, or-false found.history) refl
found_are found (v ∷ vs) = found_are (with_word found v) vs ∙ simp or_assoc

-- ---- the values of lines

-- the words of the values
abbrev pub words_of : List (List ℕ) → List (List ℕ)
words_of values = flat_map (λ v. values_in Words v) values

pub words_are : (ls : List Line) → words_of (line_texts (codes "Privacy") ls) ≡ words ls
words_are ls = values_are Words (codes "Privacy") ls

-- all of them
pub all_found : (ls : List Line) → with_words (wants []) (words_of (line_texts (codes "Privacy") ls)) ≡ wants ls
all_found ls = ap (λ (ws : List (List ℕ)). with_words (wants []) ws) (words_are ls) ∙ found_are (wants []) (words ls)

-- one more value
pub value_found : (found : PrivacySet) (value : List ℕ) (values : List (List ℕ)) → with_words found (words_of (value ∷ values)) ≡ with_words (with_words found (values_in Words value)) (words_of values)
value_found found value values = found_more found (values_in Words value) (words_of values)

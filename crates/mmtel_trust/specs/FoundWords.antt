-- Which of the known words of Privacy have been found after some of the words were read (RFC 3323 §4.2).
use Rattle.std.specs.Prelude.{ℕ, List, [], ◌∷◌, codes, ◌||◌}
use Rattle.std.specs.Str.{str_eq_ignore_ascii_case}
use Rattle.mmtel_types.specs.declared.privacy.PrivacySet.{PrivacySet}

-- those found before, and this word
abbrev pub with_word : PrivacySet → List ℕ → PrivacySet
with_word found v = record {
  header = found.header || str_eq_ignore_ascii_case v (codes "header");
  session = found.session || str_eq_ignore_ascii_case v (codes "session");
  user = found.user || str_eq_ignore_ascii_case v (codes "user");
  none = found.none || str_eq_ignore_ascii_case v (codes "none");
  critical = found.critical || str_eq_ignore_ascii_case v (codes "critical");
  id = found.id || str_eq_ignore_ascii_case v (codes "id");
  history = found.history || str_eq_ignore_ascii_case v (codes "history");
}

-- those found before, and these words
abbrev pub with_words : PrivacySet → List (List ℕ) → PrivacySet
with_words found [] = found
with_words found (v ∷ vs) = with_words (with_word found v) vs

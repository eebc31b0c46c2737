-- The words of Privacy (RFC 3323 §4.2, RFC 3325 §9.3, RFC 7044 §10.1), compared without case. Several lines are one list of words.
use Rattle.std.specs.Prelude.{ℕ, Bool, not, List, [], ◌∷◌, ◌++◌, codes, if◌then◌else◌, filter}
use Rattle.std.specs.List.{list_any}
use Rattle.std.specs.Str.{str_eq_ignore_ascii_case}
use Rattle.mmtel_message.specs.Message.{Line, values_named}
use Rattle.mmtel_message.specs.Values.{joined_by}
use Rattle.mmtel_message.specs.declared.values.Mode.TheVariants.{Words}
use Rattle.mmtel_types.specs.declared.privacy.PrivacySet.{PrivacySet}

-- the words of all Privacy lines, as received
abbrev pub words : List Line → List (List ℕ)
words ls = values_named Words (codes "Privacy") ls

abbrev pub has_word : List ℕ → List Line → Bool
has_word w ls = list_any (λ v. str_eq_ignore_ascii_case v w) (words ls)

-- which of the known words are present
abbrev pub wants : List Line → PrivacySet
wants ls = record {
  header = has_word (codes "header") ls;
  session = has_word (codes "session") ls;
  user = has_word (codes "user") ls;
  none = has_word (codes "none") ls;
  critical = has_word (codes "critical") ls;
  id = has_word (codes "id") ls;
  history = has_word (codes "history") ls;
}

-- the words other than none, with id last where it is absent
abbrev pub restricted_words : List Line → List (List ℕ)
restricted_words ls = filter (λ v. not (str_eq_ignore_ascii_case v (codes "none"))) (words ls) ++ (if has_word (codes "id") ls then [] else codes "id" ∷ [])

-- the value of Privacy of a restricted call towards a trusted peer
abbrev pub restricted_text : List Line → List ℕ
restricted_text ls = joined_by (codes ";") (restricted_words ls)

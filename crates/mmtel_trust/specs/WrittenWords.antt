-- How the words of Privacy are written: each after a ';', the first of which is removed at the end.
use Rattle.std.specs.Prelude.{ℕ, List, [], ◌∷◌, codes, if◌then◌else◌}
use Rattle.std.specs.Str.{str_eq_ignore_ascii_case}

-- a word after its ';', unless it is none
abbrev pub separated_word : List ℕ → List ℕ
separated_word v = if str_eq_ignore_ascii_case v (codes "none") then [] else 59 ∷ v

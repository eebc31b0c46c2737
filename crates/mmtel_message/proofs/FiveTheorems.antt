-- A line whose name has another length than a given name adds nothing to what was found of the given name.
use Rattle.std.proofs.Common.{◌≡◌, ◌≢◌, ◌==◌, if◌then◌else◌, ℕ, List, ◌∷◌, length, Option, Some, None, refl, sym, ap, ◌∙◌}
use Rattle.std.proofs.lemmas.List.Sums.{length-filter}
use Rattle.std.specs.Prelude.{count_by}
use Rattle.mmtel_message.specs.Fields.{only_value}
use Rattle.mmtel_message.specs.FiveLines.{first_behind, only_behind}
use Rattle.mmtel_message.specs.Message.{Line, first_value, is_line, lines_named}
use Rattle.mmtel_message.specs.declared.five_lines.Only.{Only}
use Rattle.mmtel_message.specs.declared.five_lines.Only.TheVariants.{Nothing, One, Several}
use Rattle.mmtel_message.proofs.PartTheorems.{other_length}

first_other : (X : List ℕ) (l : Line) (ls : List Line) → length l.0 ≢ length X → first_value X (l ∷ ls) ≡ first_value X ls
first_other X l ls differ = rw (other_length l.0 X differ) refl

count_other : (X : List ℕ) (l : Line) (ls : List Line) → length l.0 ≢ length X → count_by (λ k. is_line X k) (l ∷ ls) ≡ count_by (λ k. is_line X k) ls
count_other X l ls differ =
    let same : lines_named X (l ∷ ls) ≡ lines_named X ls = rw (other_length l.0 X differ) refl in
    sym (length-filter (λ k. is_line X k) (l ∷ ls)) ∙ ap (λ (ks : List Line). length ks) same ∙ length-filter (λ k. is_line X k) ls

same_only : (X : List ℕ) (ks ls : List Line) → count_by (λ k. is_line X k) ks ≡ count_by (λ k. is_line X k) ls → first_value X ks ≡ first_value X ls → only_value X ks ≡ only_value X ls
same_only X ks ls count first = rw (count, first) refl

pub first_over : (X name value : List ℕ) (found : Option (List ℕ)) (ls : List Line) → length name ≢ length X → first_behind X found ((name, value) ∷ ls) ≡ first_behind X found ls
first_over X name value None ls differ = first_other X (name, value) ls differ
first_over X name value (Some v) ls differ = refl

pub only_over : (X name value : List ℕ) (found : Only) (ls : List Line) → length name ≢ length X → only_behind X found ((name, value) ∷ ls) ≡ only_behind X found ls
only_over X name value Nothing ls differ = same_only X ((name, value) ∷ ls) ls (count_other X (name, value) ls differ) (first_other X (name, value) ls differ)
only_over X name value (One v) ls differ = ap (λ (n : ℕ). if n == 0 then Some v.now else None) (count_other X (name, value) ls differ)
only_over X name value Several ls differ = refl

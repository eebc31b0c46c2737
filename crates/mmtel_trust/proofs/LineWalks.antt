-- Walks over the lines of a message: which lines are passed, and the values of the lines of a name.
use Rattle.std.proofs.Common.{◌≡◌, ℕ, ◌+◌, Bool, List, [], ◌∷◌, ◌++◌, take, refl, ap, inl, inr}
use Rattle.std.proofs.lemmas.Bool.{cases_Bool}
use Rattle.std.proofs.lemmas.List.Elements.{filter-append}
use Rattle.std.specs.List.{flat_map}
use Rattle.mmtel_message.proofs.WalkTheorems.{grows}
use Rattle.mmtel_message.specs.Message.{Line, is_line, line_texts, values_named}
use Rattle.mmtel_message.specs.Values.{values_in}
use Rattle.mmtel_message.specs.declared.values.Mode.{Mode}
use Rattle.mmtel_trust.specs.HeaderTable.{is_shown, other_lines}
use Rattle.mmtel_trust.specs.declared.header_table.Facing.{Facing}

pub others_grow : (f : Facing) (to_trusted : Bool) (ls : List Line) (i : ℕ) (x : Line) (before out new : List Line) → take (i + 1) ls ≡ take i ls ++ x ∷ [] →
    out ≡ before ++ other_lines f to_trusted (take i ls) → new ≡ out ++ other_lines f to_trusted (x ∷ []) → new ≡ before ++ other_lines f to_trusted (take (i + 1) ls)
others_grow f to_trusted ls i x before out new last so_far made =
    grows (λ (l : List Line). other_lines f to_trusted l) (filter-append (is_shown f to_trusted)) ls i x before out new last so_far made

-- the values of the lines of a name are those that each line has
pub values_are : (m : Mode) (name : List ℕ) (ls : List Line) → flat_map (λ v. values_in m v) (line_texts name ls) ≡ values_named m name ls
values_are m name [] = refl
values_are m name (l ∷ ls) = elim (cases_Bool (is_line name l)) [
  | inl y ↦ rw y (ap (λ (vs : List (List ℕ)). values_in m l.1 ++ vs) (values_are m name ls))
  | inr n ↦ rw n (values_are m name ls)
]

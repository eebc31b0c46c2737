-- A pass over the lines of a message: what it has produced so far, and what one more line adds; and what is found of a name among the lines.
use Rattle.std.proofs.Common.{◌≡◌, ℕ, ◌+◌, Bool, true, false, List, [], ◌∷◌, ◌++◌, Option, Some, None, take, map, refl, sym, ap, inl, inr, append-nil, append_assoc, ◌∙◌}
use Rattle.std.proofs.lemmas.Bool.{cases_Bool}
use Rattle.std.proofs.lemmas.List.{map-append}
use Rattle.std.proofs.lemmas.List.Elements.{filter-append}
use Rattle.std.specs.Prelude.{MatchOption, is_some}
use Rattle.mmtel_message.specs.Message.{Line, first_value, has_line, is_line, lines_named}
use Rattle.mmtel_message.specs.Responses.{to_line}

-- what is produced from the parts of a list, one after another
pub grows : {A B : Type 0} (f : List A → List B) → ((xs ys : List A) → f (xs ++ ys) ≡ f xs ++ f ys) → (xs : List A) (i : ℕ) (x : A) (before out new : List B) → take (i + 1) xs ≡ take i xs ++ x ∷ [] →
    out ≡ before ++ f (take i xs) → new ≡ out ++ f (x ∷ []) → new ≡ before ++ f (take (i + 1) xs)
grows {A} {B} f parted xs i x before out new last so_far made =
    made ∙ ap (λ (o : List B). o ++ f (x ∷ [])) so_far ∙ append_assoc before (f (take i xs)) (f (x ∷ [])) ∙ ap (λ (l : List B). before ++ l) (sym (ap f last ∙ parted (take i xs) (x ∷ [])))

abbrev to_lines : List ℕ → List ℕ → List Line → List Line
to_lines tag name ls = map (to_line tag) (lines_named name ls)

to_lines_split : (tag name : List ℕ) (xs ys : List Line) → to_lines tag name (xs ++ ys) ≡ to_lines tag name xs ++ to_lines tag name ys
to_lines_split tag name xs ys =
    ap (λ (l : List Line). map (to_line tag) l) (filter-append (λ (l : Line). is_line name l) xs ys) ∙ map-append (to_line tag) (lines_named name xs) (lines_named name ys)

pub to_lines_grow : (tag name : List ℕ) (ls : List Line) (i : ℕ) (x : Line) (before out new : List Line) → take (i + 1) ls ≡ take i ls ++ x ∷ [] →
    out ≡ before ++ map (to_line tag) (lines_named name (take i ls)) → new ≡ out ++ map (to_line tag) (lines_named name (x ∷ [])) →
    new ≡ before ++ map (to_line tag) (lines_named name (take (i + 1) ls))
to_lines_grow tag name ls i x before out new last so_far made =
    grows (λ (l : List Line). to_lines tag name l) (to_lines_split tag name) ls i x before out new last so_far made

-- ---- what is found of a name among the lines

abbrev pub head_value : List Line → Option (List ℕ)
head_value [] = None
head_value (l ∷ ls) = Some l.1

pub first_named : (X : List ℕ) (ls : List Line) → first_value X ls ≡ head_value (lines_named X ls)
first_named X [] = refl
first_named X (l ∷ ls) =
    elim (cases_Bool (is_line X l)) [
      | inl y ↦ rw y refl
      | inr n ↦ rw n (first_named X ls)
    ]

abbrev is_filled : List Line → Bool
is_filled [] = false
is_filled (l ∷ ls) = true

has_named : (X : List ℕ) (ls : List Line) → has_line X ls ≡ is_filled (lines_named X ls)
has_named X [] = refl
has_named X (l ∷ ls) =
    elim (cases_Bool (is_line X l)) [
      | inl y ↦ rw y refl
      | inr n ↦ rw n (has_named X ls)
    ]

found_is_filled : {A : Type 0} (o : Option A) (ls : List Line) (f : A → Line) (g : A → List Line) → MatchOption o (ls ≡ []) (λ a. ls ≡ f a ∷ g a) → is_some o ≡ is_filled ls
found_is_filled None ls f g e = rw e refl
found_is_filled (Some a) ls f g e = rw e refl

-- there is a line of the name where one is found
pub found_there : {A : Type 0} (o : Option A) (X : List ℕ) (ls : List Line) (f : A → Line) (g : A → List Line) → MatchOption o (lines_named X ls ≡ []) (λ a. lines_named X ls ≡ f a ∷ g a) → is_some o ≡ has_line X ls
found_there o X ls f g e = found_is_filled o (lines_named X ls) f g e ∙ sym (has_named X ls)

-- one more line of the name
pub one_more : {A : Type 0} (out more rest whole : List A) (x : A) → whole ≡ out ++ more → more ≡ x ∷ rest → whole ≡ (out ++ x ∷ []) ++ rest
one_more out more rest whole x so_far e = (rw e at so_far) ∙ sym (append_assoc out (x ∷ []) rest)

pub no_more : {A : Type 0} (out more whole : List A) → whole ≡ out ++ more → more ≡ [] → whole ≡ out
no_more out more whole so_far e = (rw e at so_far) ∙ append-nil out

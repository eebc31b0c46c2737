-- Lines as they are held: prefixes of them, and edits, first among the received lines and then among the added ones.
use Rattle.std.proofs.Common.{◌≡◌, ℕ, zero, suc, slice_set, inl, inr, ◌+◌, ◌-◌, ◌≤◌, ◌<◌, not, List, [], ◌∷◌, ◌++◌, length, take, drop, filter}
use Rattle.std.proofs.Common.{Some, None, refl, sym, ap, subst, get_or, slice_get, drop-cons, take-suc, add-one, append-nil, ◌∙◌, arith}
use Rattle.std.proofs.lemmas.Option.{slice_get_within, unwrap_or-slice_get}
use Rattle.std.proofs.lemmas.Bool.{cases_Bool}
use Rattle.std.proofs.lemmas.List.{drop_all, drop-map, length-map, map-append, take-append-le, take-map}
use Rattle.std.proofs.lemmas.List.Elements.{filter-append}
use Rattle.std.proofs.Math.Seq.{take-append-add}
use Rattle.std.specs.Option.{option_map, unwrap_or}
use Rattle.std.specs.Prelude.{position}
use Rattle.std.specs.Str.{str_eq_ignore_ascii_case}
use Rattle.mmtel_base.proofs.Positions.{position_no, position_yes}
use Rattle.mmtel_message.proofs.EditTheorems.{set_there, there}
use Rattle.mmtel_message.proofs.LineTheorems.{mapped, unmapped}
use Rattle.mmtel_message.specs.Held.{held_line, held_lines, lines_of}
use Rattle.mmtel_message.specs.Message.{Line, is_line, lines_named, lines_with, lines_without}
use Rattle.mmtel_message.specs.declared.held.HeldValue.{HeldValue}
use Rattle.mmtel_message.specs.declared.held.HeldValue.TheVariants.{Edited}

-- a prefix of the received lines is a prefix of all
pub front_within : (s : List ℕ) (hs : List (List ℕ × HeldValue)) (added : List Line) (n : ℕ) → n ≤ length hs → lines_of s (take n hs) [] ≡ take n (lines_of s hs added)
front_within s hs added n le =
    let long : n ≤ length (held_lines s hs) = subst (λ (k : ℕ). n ≤ k) (sym (length-map hs (λ h. held_line s h))) le in
    append-nil (held_lines s (take n hs)) ∙ sym (take-append-le n (held_lines s hs) added long ∙ take-map (λ h. held_line s h) n hs)

-- a prefix that contains all of the received lines
pub front_beyond : (s : List ℕ) (hs : List (List ℕ × HeldValue)) (added : List Line) (n : ℕ) → length hs ≤ n → lines_of s hs (take (n - length hs) added) ≡ take n (lines_of s hs added)
front_beyond s hs added n le =
    let many : length (held_lines s hs) + (n - length hs) ≡ n = rw (length-map hs (λ h. held_line s h)) (omega arith) in
    sym (subst (λ (k : ℕ). take k (lines_of s hs added) ≡ held_lines s hs ++ take (n - length hs) added) many (take-append-add (held_lines s hs) added (n - length hs)))

here : (ls : List Line) (i : ℕ) (x : Line) → slice_get ls i ≡ Some x → x ≡ get_or ls i x
here ls i x e =
    let found : unwrap_or (slice_get ls i) x ≡ get_or ls i x = unwrap_or-slice_get ls i x in
    rw e at found

-- the line at a place is the first of those from there on
pub first_from : (ls : List Line) (i : ℕ) (x : Line) → slice_get ls i ≡ Some x → drop i ls ≡ x ∷ drop (i + 1) ls
first_from ls i x e = rw (add-one, drop-cons ls i x (slice_get_within ls i x e), sym (here ls i x e)) refl

-- and the last of those up to there
pub last_to : (ls : List Line) (i : ℕ) (x : Line) → slice_get ls i ≡ Some x → take (i + 1) ls ≡ take i ls ++ x ∷ []
last_to ls i x e = rw (add-one, take-suc ls i x (slice_get_within ls i x e), sym (here ls i x e)) refl

-- ---- the next line of a name

drop_split : {A : Type 0} (xs ys : List A) (n : ℕ) → drop n (xs ++ ys) ≡ drop n xs ++ drop (n - length xs) ys
drop_split [] ys zero = refl
drop_split [] ys (suc n) =
    let same : suc n - 0 ≡ suc n = omega arith in
    ap (λ (k : ℕ). drop k ys) (sym same)
drop_split (x ∷ xs) ys zero =
    let none : 0 - length (x ∷ xs) ≡ 0 = omega arith in
    sym (ap (λ (k : ℕ). x ∷ (xs ++ drop k ys)) none)
drop_split (x ∷ xs) ys (suc n) =
    let less : n - length xs ≡ suc n - length (x ∷ xs) = omega arith in
    drop_split xs ys n ∙ ap (λ (k : ℕ). drop n xs ++ drop k ys) less

named_held : (s name : List ℕ) (hs : List (List ℕ × HeldValue)) → lines_named name (held_lines s hs) ≡ held_lines s (filter (λ h. str_eq_ignore_ascii_case h.0 name) hs)
named_held s name [] = refl
named_held s name (h ∷ hs) =
    elim (cases_Bool (str_eq_ignore_ascii_case h.0 name)) [
      | inl y ↦ rw y (ap (λ (ls : List Line). held_line s h ∷ ls) (named_held s name hs))
      | inr n ↦ rw n (named_held s name hs)
    ]

-- the lines of a name from a place on: those among the received lines, then those among the added lines
named_split : (s name : List ℕ) (hs : List (List ℕ × HeldValue)) (added : List Line) (n : ℕ) →
    lines_named name (drop n (lines_of s hs added)) ≡ held_lines s (filter (λ h. str_eq_ignore_ascii_case h.0 name) (drop n hs)) ++ lines_named name (drop (n - length hs) added)
named_split s name hs added n =
    let many : length (held_lines s hs) ≡ length hs = length-map hs (λ h. held_line s h) in
    let front : drop n (held_lines s hs) ≡ held_lines s (drop n hs) = drop-map (λ h. held_line s h) n hs in
    let parts : drop n (lines_of s hs added) ≡ held_lines s (drop n hs) ++ drop (n - length hs) added =
    drop_split (held_lines s hs) added n ∙ ap (λ (k : ℕ). drop n (held_lines s hs) ++ drop (n - k) added) many ∙ ap (λ (ls : List Line). ls ++ drop (n - length hs) added) front in
    ap (λ (ls : List Line). lines_named name ls) parts
    ∙ filter-append (λ l. is_line name l) (held_lines s (drop n hs)) (drop (n - length hs) added)
    ∙ ap (λ (ls : List Line). ls ++ lines_named name (drop (n - length hs) added)) (named_held s name (drop n hs))

-- the next one is among the received lines
pub next_received : (s name : List ℕ) (hs : List (List ℕ × HeldValue)) (added : List Line) (from : ℕ) (h : List ℕ × HeldValue) (after : ℕ) → from < after →
    after ≤ length hs → filter (λ x. str_eq_ignore_ascii_case x.0 name) (drop from hs) ≡ h ∷ filter (λ x. str_eq_ignore_ascii_case x.0 name) (drop after hs) →
    lines_named name (drop from (lines_of s hs added)) ≡ held_line s h ∷ lines_named name (drop after (lines_of s hs added))
next_received s name hs added from h after later within found =
    let same : from - length hs ≡ after - length hs = omega arith in
    let first : held_lines s (filter (λ x. str_eq_ignore_ascii_case x.0 name) (drop from hs)) ++ lines_named name (drop (from - length hs) added)
    ≡ held_line s h ∷ (held_lines s (filter (λ x. str_eq_ignore_ascii_case x.0 name) (drop after hs)) ++ lines_named name (drop (after - length hs) added)) =
    ap (λ (k : ℕ). held_lines s (filter (λ x. str_eq_ignore_ascii_case x.0 name) (drop from hs)) ++ lines_named name (drop k added)) same
    ∙ ap (λ (xs : List (List ℕ × HeldValue)). held_lines s xs ++ lines_named name (drop (after - length hs) added)) found in
    named_split s name hs added from ∙ first ∙ ap (λ (ls : List Line). held_line s h ∷ ls) (sym (named_split s name hs added after))

none_received : (s name : List ℕ) (hs : List (List ℕ × HeldValue)) (added : List Line) (from : ℕ) → filter (λ x. str_eq_ignore_ascii_case x.0 name) (drop from hs) ≡ [] →
    lines_named name (drop from (lines_of s hs added)) ≡ lines_named name (drop (from - length hs) added)
none_received s name hs added from none = named_split s name hs added from ∙ ap (λ (xs : List (List ℕ × HeldValue)). held_lines s xs ++ lines_named name (drop (from - length hs) added)) none

-- the added lines follow the received ones
behind_received : (s name : List ℕ) (hs : List (List ℕ × HeldValue)) (added : List Line) (n : ℕ) → lines_named name (drop (length hs + n) (lines_of s hs added)) ≡ lines_named name (drop n added)
behind_received s name hs added n =
    let rest : length hs + n - length hs ≡ n = omega arith in
    none_received s name hs added (length hs + n) (ap (λ (xs : List (List ℕ × HeldValue)). filter (λ x. str_eq_ignore_ascii_case x.0 name) xs) (drop_all (length hs + n) hs (omega arith)))
    ∙ ap (λ (k : ℕ). lines_named name (drop k added)) rest

-- the next one is among the added lines
pub next_added : (s name : List ℕ) (hs : List (List ℕ × HeldValue)) (added : List Line) (from : ℕ) (l : Line) (after : ℕ) →
    filter (λ x. str_eq_ignore_ascii_case x.0 name) (drop from hs) ≡ [] → lines_named name (drop (from - length hs) added) ≡ l ∷ lines_named name (drop after added) →
    lines_named name (drop from (lines_of s hs added)) ≡ l ∷ lines_named name (drop (length hs + after) (lines_of s hs added))
next_added s name hs added from l after none found =
    none_received s name hs added from none ∙ found ∙ ap (λ (ls : List Line). l ∷ ls) (sym (behind_received s name hs added after))

-- there is none
pub next_nowhere : (s name : List ℕ) (hs : List (List ℕ × HeldValue)) (added : List Line) (from : ℕ) → filter (λ x. str_eq_ignore_ascii_case x.0 name) (drop from hs) ≡ [] →
    lines_named name (drop (from - length hs) added) ≡ [] → lines_named name (drop from (lines_of s hs added)) ≡ []
next_nowhere s name hs added from none nothing = none_received s name hs added from none ∙ nothing

-- ---- edits

dropped_held : (s name : List ℕ) (hs : List (List ℕ × HeldValue)) → held_lines s (filter (λ h. not (str_eq_ignore_ascii_case h.0 name)) hs) ≡ lines_without name (held_lines s hs)
dropped_held s name [] = refl
dropped_held s name (h ∷ hs) =
    elim (cases_Bool (str_eq_ignore_ascii_case h.0 name)) [
      | inl y ↦ rw y (dropped_held s name hs)
      | inr n ↦ rw n (ap (λ (ls : List Line). held_line s h ∷ ls) (dropped_held s name hs))
    ]

-- without the lines of a name: the received and the added lines, each without them
pub dropped_lines : (s name : List ℕ) (hs : List (List ℕ × HeldValue)) (added : List Line) →
    lines_of s (filter (λ h. not (str_eq_ignore_ascii_case h.0 name)) hs) (lines_without name added) ≡ lines_without name (lines_of s hs added)
dropped_lines s name hs added =
    ap (λ (ls : List Line). ls ++ lines_without name added) (dropped_held s name hs) ∙ sym (filter-append (λ l. not (is_line name l)) (held_lines s hs) added)

-- the first line of a name, among the received lines
span_held : (s name : List ℕ) (hs : List (List ℕ × HeldValue)) → position (λ l. is_line name l) (held_lines s hs) ≡ position (λ h. str_eq_ignore_ascii_case h.0 name) hs
span_held s name [] = refl
span_held s name (h ∷ hs) =
    elim (cases_Bool (str_eq_ignore_ascii_case h.0 name)) [
      | inl y ↦ position_yes (λ l. is_line name l) (held_line s h) (held_lines s hs) y ∙ sym (position_yes (λ (x : List ℕ × HeldValue). str_eq_ignore_ascii_case x.0 name) h hs y)
      | inr n ↦
          position_no (λ l. is_line name l) (held_line s h) (held_lines s hs) n ∙ (ap (λ o. option_map (λ m. m + 1) o) (span_held s name hs)
          ∙ sym (position_no (λ (x : List ℕ × HeldValue). str_eq_ignore_ascii_case x.0 name) h hs n))
    ]

replaced_within : (name value : List ℕ) (ls added : List Line) (n : ℕ) → position (λ l. is_line name l) ls ≡ Some n → lines_with name value (ls ++ added) ≡ lines_with name value ls ++ lines_without name added
replaced_within name value [] added n e = absurd cc
replaced_within name value (l ∷ ls) added n e =
    elim (cases_Bool (is_line name l)) [
      | inl y ↦ rw y (ap (λ (ks : List Line). (name, value) ∷ ks) (filter-append (λ k. not (is_line name k)) ls added))
      | inr other ↦
          let p = mapped (position (λ m. is_line name m) ls) n (rw (position_no (λ m. is_line name m) l ls other) at e) in
          rw other (ap (λ (ks : List Line). l ∷ ks) (replaced_within name value ls added p.0 p.1))
    ]

replaced_behind : (name value : List ℕ) (ls added : List Line) → position (λ l. is_line name l) ls ≡ None → lines_with name value (ls ++ added) ≡ ls ++ lines_with name value added
replaced_behind name value [] added e = refl
replaced_behind name value (l ∷ ls) added e =
    elim (cases_Bool (is_line name l)) [
      | inl y ↦ let f = rw (position_yes (λ m. is_line name m) l ls y) at e in absurd cc
      | inr other ↦
          let f = unmapped (position (λ m. is_line name m) ls) (rw (position_no (λ m. is_line name m) l ls other) at e) in
          rw other (ap (λ (ks : List Line). l ∷ ks) (replaced_behind name value ls added f))
    ]

set_held : (s : List ℕ) (hs : List (List ℕ × HeldValue)) (n : ℕ) (h : List ℕ × HeldValue) → held_lines s (slice_set hs n h) ≡ slice_set (held_lines s hs) n (held_line s h)
set_held s [] n h = refl
set_held s (x ∷ hs) zero h = refl
set_held s (x ∷ hs) (suc n) h = ap (λ (ls : List Line). held_line s x ∷ ls) (set_held s hs n h)

-- a line of the name among the received lines is replaced, and further ones are removed
pub set_received : (s name value : List ℕ) (hs : List (List ℕ × HeldValue)) (added : List Line) (n : ℕ) → position (λ h. str_eq_ignore_ascii_case h.0 name) hs ≡ Some n →
    lines_of s (take (n + 1) (slice_set hs n (name, Edited value)) ++ filter (λ h. not (str_eq_ignore_ascii_case h.0 name)) (drop (n + 1) (slice_set hs n (name, Edited value))))
    (lines_without name added) ≡ lines_with name value (lines_of s hs added)
set_received s name value hs added n e =
    let at_line : position (λ l. is_line name l) (held_lines s hs) ≡ Some n = span_held s name hs ∙ e in
    let ks : List (List ℕ × HeldValue) = slice_set hs n (name, Edited value) in
    let front : held_lines s (take (n + 1) ks) ≡ take (n + 1) (slice_set (held_lines s hs) n (name, value)) =
    sym (take-map (λ h. held_line s h) (n + 1) ks) ∙ ap (λ (ls : List Line). take (n + 1) ls) (set_held s hs n (name, Edited value)) in
    let back : held_lines s (filter (λ h. not (str_eq_ignore_ascii_case h.0 name)) (drop (n + 1) ks)) ≡ lines_without name (drop (n + 1) (slice_set (held_lines s hs) n (name, value))) =
    dropped_held s name (drop (n + 1) ks)
    ∙ ap (λ (ls : List Line). lines_without name ls) (sym (drop-map (λ h. held_line s h) (n + 1) ks) ∙ ap (λ (ls : List Line). drop (n + 1) ls) (set_held s hs n (name, Edited value))) in
    let whole : held_lines s (take (n + 1) ks ++ filter (λ h. not (str_eq_ignore_ascii_case h.0 name)) (drop (n + 1) ks)) ≡ lines_with name value (held_lines s hs) =
    map-append (λ h. held_line s h) (take (n + 1) ks) (filter (λ h. not (str_eq_ignore_ascii_case h.0 name)) (drop (n + 1) ks))
    ∙ (rw (front, back) refl ∙ set_there name value (held_lines s hs) n (there name (held_lines s hs) n at_line) at_line) in
    ap (λ (ls : List Line). ls ++ lines_without name added) whole ∙ sym (replaced_within name value (held_lines s hs) added n at_line)

-- where none of the received lines has the name, the added ones are searched
pub set_behind : (s name value : List ℕ) (hs : List (List ℕ × HeldValue)) (added : List Line) → position (λ h. str_eq_ignore_ascii_case h.0 name) hs ≡ None →
    lines_of s hs (lines_with name value added) ≡ lines_with name value (lines_of s hs added)
set_behind s name value hs added e = sym (replaced_behind name value (held_lines s hs) added (span_held s name hs ∙ e))

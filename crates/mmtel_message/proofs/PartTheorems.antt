-- The values of a text as places in it, and lines whose values are places.
use Rattle.std.proofs.Common.{◌≡◌, ◌≢◌, ◌==◌, ◌||◌, Bool, true, false, inl, inr, codes, ℕ, ◌+◌, ◌-◌, ◌≤◌, ◌<◌, List, [], ◌∷◌, ◌++◌, length, map, take}
use Rattle.std.proofs.Common.{drop, get_or, Some, None, refl, sym, ap, ◌∙◌, arith, append_assoc, append-nil, add-one, drop-cons, take-suc, take_all}
use Rattle.std.proofs.lemmas.List.{length-append, length-take, take-append-drop, take_rest, take_at, drop_at, drop-drop, drop_all, map-append, length-map}
use Rattle.std.proofs.lemmas.Bool.{cases_Bool}
use Rattle.std.proofs.lemmas.Slice.Eq.{bytes_eq-Decides}
use Rattle.std.specs.Char.{to_ascii_lowercase}
use Rattle.std.specs.Bool.{OnFalse}
use Rattle.std.specs.List.{list_any}
use Rattle.std.specs.Prelude.{Option, is_some}
use Rattle.std.specs.Str.{str_to_ascii_lowercase, str_eq_ignore_ascii_case}
use Rattle.mmtel_base.specs.Scanning.{leading_run, after_run, without_trailing}
use Rattle.mmtel_base.specs.declared.classes.Class.TheVariants.{Blank}
use Rattle.mmtel_base.proofs.Runs.{run_whole, after_run_nil}
use Rattle.mmtel_base.proofs.Trims.{trimmed_takes, trimmed_again}
use Rattle.mmtel_message.specs.Headers.{trim}
use Rattle.mmtel_message.specs.Message.{Line, is_line}
use Rattle.mmtel_message.specs.Held.{bytes_at, value_of, held_line, held_lines}
use Rattle.mmtel_message.specs.Values.{base, next_separator, parts, values_from, values_in, values_of}
use Rattle.mmtel_message.specs.Expansion.{merged_text, listed_names, is_listed, lines_for, expanded_from}
use Rattle.mmtel_message.specs.declared.values.Mode.{Mode}
use Rattle.mmtel_message.specs.declared.held.HeldValue.{HeldValue}
use Rattle.mmtel_message.specs.declared.held.Span.{Span}
use Rattle.mmtel_message.specs.declared.values.Mode.TheVariants.{Plain}
use Rattle.mmtel_message.proofs.CommaTheorems.{parts_none, parts_some}

-- ---- a part of a text without the blanks around it

middle : (s a b c : List ℕ) (from n : ℕ) → take n (drop from s) ≡ a ++ (b ++ c) → take (length b) (drop (from + length a) s) ≡ b
middle s a b c from n e =
    let d : List ℕ = drop from s in
    let r : List ℕ = drop n d in
    let whole : d ≡ a ++ ((b ++ c) ++ r) = sym (take-append-drop n d) ∙ ap (λ (l : List ℕ). l ++ r) e ∙ append_assoc a (b ++ c) r in
    let behind : drop (from + length a) s ≡ (b ++ c) ++ r = sym (drop-drop (length a) from s) ∙ ap (λ (l : List ℕ). drop (length a) l) whole ∙ drop_at a ((b ++ c) ++ r) (length a) refl in
    ap (λ (l : List ℕ). take (length b) l) (behind ∙ append_assoc b c r) ∙ take_at b (c ++ r) (length b) refl

pub trimmed_is_there : (s : List ℕ) (from n : ℕ) → take (length (trim (take n (drop from s)))) (drop (from + length (leading_run Blank (take n (drop from s)))) s) ≡ trim (take n (drop from s))
trimmed_is_there s from n =
    let p : List ℕ = take n (drop from s) in
    let t = trimmed_takes Blank (after_run Blank p) in
    middle s (leading_run Blank p) (trim p) t.back from n (run_whole Blank p ∙ ap (λ (l : List ℕ). leading_run Blank p ++ l) t.whole)

pub trimmed_within : (s : List ℕ) (from n : ℕ) → from + n ≤ length s → from + length (leading_run Blank (take n (drop from s))) + length (trim (take n (drop from s))) ≤ length s
trimmed_within s from n le =
    let p : List ℕ = take n (drop from s) in
    let t = trimmed_takes Blank (after_run Blank p) in
    let one : length p ≡ length (leading_run Blank p) + length (after_run Blank p) = ap (λ (l : List ℕ). length l) (run_whole Blank p) ∙ length-append (leading_run Blank p) (after_run Blank p) in
    let two : length (after_run Blank p) ≡ length (trim p) + length t.back = ap (λ (l : List ℕ). length l) t.whole ∙ length-append (trim p) t.back in
    let cut = length-take n (drop from s) in
    omega arith

-- ---- the values of a text from a place on

pub value_last : (m : Mode) (s : List ℕ) (from : ℕ) → next_separator m (drop from s) ≡ None → values_in m (drop from s) ≡ trim (take (length s - from) (drop from s)) ∷ []
value_last m s from e = rw (parts_none m (drop from s) e, take_rest s from) refl

pub value_first : (m : Mode) (s : List ℕ) (from at_n : ℕ) → base m ≡ m → next_separator m (drop from s) ≡ Some at_n →
    values_in m (drop from s) ≡ trim (take (from + at_n - from) (drop from s)) ∷ values_in m (drop (from + at_n + 1) s)
value_first m s from at_n is e =
    let width : from + at_n - from ≡ at_n = omega arith in
    let next : from + (at_n + 1) ≡ from + at_n + 1 = omega arith in
    let behind : drop (at_n + 1) (drop from s) ≡ drop (from + at_n + 1) s = drop-drop (at_n + 1) from s ∙ ap (λ (k : ℕ). drop k s) next in
    rw (parts_some m (drop from s) at_n e, is, behind, width) refl

-- ---- lines that are held

held_more : (s : List ℕ) (out : List (List ℕ × HeldValue)) (name : List ℕ) (v : HeldValue) (x : List ℕ) → value_of s v ≡ x → held_lines s (out ++ (name, v) ∷ []) ≡ held_lines s out ++ (name, x) ∷ []
held_more s out name v x e = map-append (λ h. held_line s h) out ((name, v) ∷ []) ∙ ap (λ (y : List ℕ). held_lines s out ++ (name, y) ∷ []) e

-- one more line of a name
pub values_over : (s name : List ℕ) (out : List (List ℕ × HeldValue)) (v : HeldValue) (x : List ℕ) (rest after : List (List ℕ)) (whole : List Line) → value_of s v ≡ x → rest ≡ x ∷ after →
    whole ≡ held_lines s out ++ map (λ y. (name, y)) rest → whole ≡ held_lines s (out ++ (name, v) ∷ []) ++ map (λ y. (name, y)) after
values_over s name out v x rest after whole e more so_far =
    rw (held_more s out name v x e) ((rw more at so_far) ∙ sym (append_assoc (held_lines s out) ((name, x) ∷ []) (map (λ y. (name, y)) after)))

-- one more line expanded
pub held_over : (privacy allow s : List ℕ) (ls : List (List ℕ × HeldValue)) (out : List Line) (i : ℕ) (x : List ℕ × HeldValue) (whole : List Line) →
    i < length ls → x ≡ get_or ls i x → whole ≡ out ++ expanded_from privacy allow (held_lines s (take i ls)) (held_lines s (drop i ls)) →
    whole ≡ (out ++ lines_for privacy allow (held_lines s (take i ls)) (held_line s x)) ++ expanded_from privacy allow (held_lines s (take (i + 1) ls)) (held_lines s (drop (i + 1) ls))
unfolding expanded_from
held_over privacy allow s ls out i x whole lt at_i so_far =
    let one : drop i ls ≡ x ∷ drop (i + 1) ls = rw (add-one, drop-cons ls i x lt, sym at_i) refl in
    let more : take i ls ++ x ∷ [] ≡ take (i + 1) ls = rw (add-one, take-suc ls i x lt, sym at_i) refl in
    let held : held_lines s (take i ls) ++ held_line s x ∷ [] ≡ held_lines s (take (i + 1) ls) = sym (map-append (λ h. held_line s h) (take i ls) (x ∷ [])) ∙ ap (λ (l : List (List ℕ × HeldValue)). held_lines s l) more in
    (rw (one, held) at so_far) ∙ sym (append_assoc out (lines_for privacy allow (held_lines s (take i ls)) (held_line s x)) (expanded_from privacy allow (held_lines s (take (i + 1) ls)) (held_lines s (drop (i + 1) ls))))

pub held_all : (privacy allow s : List ℕ) (ls : List (List ℕ × HeldValue)) (out : List Line) (i : ℕ) (whole : List Line) → i ≡ length ls →
    whole ≡ out ++ expanded_from privacy allow (held_lines s (take i ls)) (held_lines s (drop i ls)) → whole ≡ out
unfolding expanded_from
held_all privacy allow s ls out i whole e so_far = (rw (drop_all i ls (omega arith)) at so_far) ∙ append-nil out

-- ---- no text of a name

trim_nil : trim [] ≡ []
trim_nil = ap (λ (l : List ℕ). without_trailing Blank l) (after_run_nil Blank) ∙ trimmed_again Blank [] [] refl tt

-- merging no texts gives none
pub merged_none : (m : Mode) (parting between : List ℕ) → merged_text m parting between [] ≡ []
unfolding parts
merged_none m parting between = ap (λ (l : List ℕ). trim (l ++ [])) trim_nil ∙ trim_nil

-- ---- a line of a listed name

pub listed_lines : (privacy allow : List ℕ) (before : List Line) (h : Line) → (length h.0 == 0) ≡ false → is_line (codes "Privacy") h ≡ false → is_line (codes "Allow") h ≡ false → is_listed h ≡ true →
    lines_for privacy allow before h ≡ map (λ v. (h.0, v)) (values_of h.1)
listed_lines privacy allow before h named x y l = rw (named, x, y, l) refl

-- ---- lines that are unchanged in the canonical text

-- a text that is its first value, with none after it
pub one_value : (s : List ℕ) (p : Span) (after : Option ℕ) → values_in Plain (drop 0 s) ≡ bytes_at s p ∷ values_from Plain s after → is_some after ≡ false → length s ≤ p.len →
    p.from + p.len ≤ length s → values_of s ≡ s ∷ []
one_value s p (Some n) values none long within = absurd cc
one_value s p None values none long within =
    let front : p.from ≡ 0 = omega (arith, long, within) in
    let whole : bytes_at s p ≡ s = ap (λ (n : ℕ). take p.len (drop n s)) front ∙ take_all p.len s long in
    values ∙ ap (λ (v : List ℕ). v ∷ []) whole

-- a line of another name
pub plain_is_there : (name value : List ℕ) (privacy allow : List ℕ) (before : List Line) → (length name == 0) ≡ false → is_line (codes "Privacy") (name, value) ≡ false →
    is_line (codes "Allow") (name, value) ≡ false → is_listed (name, value) ≡ false → lines_for privacy allow before (name, value) ≡ (name, value) ∷ []
plain_is_there name value privacy allow before named x y l = rw (named, x, y, l) refl

-- a line of a listed name with one value
pub listed_is_there : (b : Bool) (name value v : List ℕ) → v ≡ value → (length name == 0) ≡ false → is_line (codes "Privacy") (name, value) ≡ false → is_line (codes "Allow") (name, value) ≡ false →
    is_listed (name, value) ≡ true → OnFalse b (values_of v ≡ v ∷ []) → OnFalse b ((privacy allow : List ℕ) (before : List Line) → lines_for privacy allow before (name, value) ≡ (name, value) ∷ [])
listed_is_there true name value v e named x y l one = tt
listed_is_there false name value v e named x y l one = λ privacy allow before.
    let single : values_of value ≡ value ∷ [] = ap (λ (w : List ℕ). values_of w) (sym e) ∙ one ∙ ap (λ (w : List ℕ). w ∷ []) e in
    listed_lines privacy allow before (name, value) named x y l ∙ ap (λ (vs : List (List ℕ)). map (λ w. (name, w)) vs) single

-- one more unchanged line
pub stood_over : (privacy allow s : List ℕ) (ls : List (List ℕ × HeldValue)) (i : ℕ) (x : List ℕ × HeldValue) (whole : List Line) →
    i < length ls → x ≡ get_or ls i x → lines_for privacy allow (held_lines s (take i ls)) (held_line s x) ≡ held_line s x ∷ [] →
    whole ≡ held_lines s (take i ls) ++ expanded_from privacy allow (held_lines s (take i ls)) (held_lines s (drop i ls)) →
    whole ≡ held_lines s (take (i + 1) ls) ++ expanded_from privacy allow (held_lines s (take (i + 1) ls)) (held_lines s (drop (i + 1) ls))
stood_over privacy allow s ls i x whole lt at_i stands so_far =
    let more : take i ls ++ x ∷ [] ≡ take (i + 1) ls = rw (add-one, take-suc ls i x lt, sym at_i) refl in
    let held : held_lines s (take i ls) ++ held_line s x ∷ [] ≡ held_lines s (take (i + 1) ls) = sym (map-append (λ h. held_line s h) (take i ls) (x ∷ [])) ∙ ap (λ (l : List (List ℕ × HeldValue)). held_lines s l) more in
    let front : held_lines s (take i ls) ++ lines_for privacy allow (held_lines s (take i ls)) (held_line s x) ≡ held_lines s (take (i + 1) ls) = ap (λ (l : List Line). held_lines s (take i ls) ++ l) stands ∙ held in
    held_over privacy allow s ls (held_lines s (take i ls)) i x whole lt at_i so_far
    ∙ ap (λ (l : List Line). l ++ expanded_from privacy allow (held_lines s (take (i + 1) ls)) (held_lines s (drop (i + 1) ls))) front

pub stood_all : (privacy allow s : List ℕ) (ls : List (List ℕ × HeldValue)) (i : ℕ) (whole : List Line) → i ≡ length ls →
    whole ≡ held_lines s (take i ls) ++ expanded_from privacy allow (held_lines s (take i ls)) (held_lines s (drop i ls)) → whole ≡ held_lines s ls
stood_all privacy allow s ls i whole e so_far =
    held_all privacy allow s ls (held_lines s (take i ls)) i whole e so_far
    ∙ ap (λ (l : List (List ℕ × HeldValue)). held_lines s l) (take_all i ls (omega (arith, e)))

-- ---- names

-- names of different lengths differ
pub other_length : (a b : List ℕ) → length a ≢ length b → str_eq_ignore_ascii_case a b ≡ false
other_length a b differ =
    elim (cases_Bool (str_eq_ignore_ascii_case a b)) [
      | inl y ↦
          let same : str_to_ascii_lowercase a ≡ str_to_ascii_lowercase b = (bytes_eq-Decides (str_to_ascii_lowercase a) (str_to_ascii_lowercase b)).0 y in
          absurd (differ (sym (length-map a to_ascii_lowercase) ∙ (ap (λ (l : List ℕ). length l) same ∙ length-map b to_ascii_lowercase)))
      | inr n ↦ n
    ]

either_ends : (x y : Bool) → (x || y) ≡ (x || (y || false))
either_ends true y = refl
either_ends false true = refl
either_ends false false = refl

-- the listed names of twelve letters
pub listed_of_12 : (name : List ℕ) → length name ≡ 12 →
    (str_eq_ignore_ascii_case name (codes "Record-Route") || str_eq_ignore_ascii_case name (codes "History-Info")) ≡ list_any (λ listed. str_eq_ignore_ascii_case name listed) listed_names
listed_of_12 name e =
    rw (
      other_length name (codes "Via") (omega (arith, e)),
      other_length name (codes "Route") (omega (arith, e)),
      other_length name (codes "Contact") (omega (arith, e)),
      other_length name (codes "P-Asserted-Identity") (omega (arith, e)),
      other_length name (codes "Supported") (omega (arith, e)),
      other_length name (codes "Require") (omega (arith, e)),
    )
    (either_ends (str_eq_ignore_ascii_case name (codes "Record-Route")) (str_eq_ignore_ascii_case name (codes "History-Info")))

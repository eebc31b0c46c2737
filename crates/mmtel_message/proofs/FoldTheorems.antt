-- A line that others continue: a prefix that has no blank at its end, a gap, and the piece that was read last.
use Rattle.std.proofs.Common.{◌≡◌, ◌==◌, ◌<◌, ◌≤◌, Bool, true, false, ℕ, List, [], ◌∷◌, ◌++◌, length, map, take, drop, reverse, Option, Some, None, refl, sym, ap, subst, ◌∙◌, arith, append_assoc, inl, inr}
use Rattle.std.proofs.lemmas.List.{append-nil, map-append, reverse-append, length-reverse, length-take, nil_from_length}
use Rattle.std.proofs.lemmas.Bool.{cases_Bool}
use Rattle.std.proofs.lemmas.Bool.Decides.{nat_tests}
use Rattle.std.specs.Prelude.{IfSome}
use Rattle.mmtel_base.proofs.Runs.{and_true}
use Rattle.mmtel_base.specs.Classes.{in_class, IsAll, Stops}
use Rattle.mmtel_base.specs.Scanning.{after_run, without_trailing}
use Rattle.mmtel_base.specs.declared.classes.Class.{Class}
use Rattle.mmtel_base.specs.declared.classes.Class.TheVariants.{Blank}
use Rattle.mmtel_base.proofs.Trims.{Trims, all_append, trimmed_again, trimmed_takes}
use Rattle.mmtel_message.specs.declared.held.HeldValue.{HeldValue}
use Rattle.mmtel_message.specs.declared.held.HeldValue.TheVariants.{Received, Edited}
use Rattle.mmtel_message.specs.Held.{value_of}
use Rattle.mmtel_message.specs.Lines.{crlf, begins_with_byte, put, split, starts_blank, continued_line, logical_lines, logical_lines_from}
use Rattle.mmtel_message.specs.Spans.{IsBehind, IsWithin, continues, rest_at}
use Rattle.mmtel_message.proofs.LineTheorems.{split_is_cons}
use Rattle.mmtel_message.proofs.SpanTheorems.{within_front}

-- ---- blanks at the end

-- nothing is added where the piece is of blanks alone
pub nothing_kept : (front gap piece : List ℕ) → IsAll Blank gap → Stops Blank (reverse front) → length (without_trailing Blank piece) ≡ 0 → front ≡ without_trailing Blank (front ++ gap ++ piece)
nothing_kept front gap piece gap_in ends e =
    let takes : Trims Blank piece [] = subst (λ (l : List ℕ). Trims Blank piece l) (nil_from_length (without_trailing Blank piece) e) (trimmed_takes Blank piece) in
    let piece_in : IsAll Blank piece = rw takes.whole takes.back_in in
    let behind : without_trailing Blank (front ++ (gap ++ piece)) ≡ front = trimmed_again Blank front (gap ++ piece) (all_append Blank gap piece gap_in piece_in) ends in
    sym (rw (append_assoc front gap piece) behind)

-- no blank is last where none is last in the second part, and that part is not empty
stops_append : (k : Class) (a b : List ℕ) → 0 < length b → Stops k b → Stops k (b ++ a)
stops_append k a [] pos stops = absurd (omega arith)
stops_append k a (c ∷ b) pos stops = stops

stops_behind : (k : Class) (a b : List ℕ) → 0 < length b → Stops k (reverse b) → Stops k (reverse (a ++ b))
stops_behind k a b pos stops =
    rw (reverse-append a b) (stops_append k (reverse a) (reverse b) (rw (length-reverse b) pos) stops)

-- the trimmed piece is appended, and what comes before it stays
pub some_kept : (before piece : List ℕ) → 0 < length (without_trailing Blank piece) → before ++ without_trailing Blank piece ≡ without_trailing Blank (before ++ piece)
some_kept before piece pos =
    let takes : Trims Blank piece (without_trailing Blank piece) = trimmed_takes Blank piece in
    let parted : before ++ piece ≡ (before ++ without_trailing Blank piece) ++ takes.back = ap (λ (l : List ℕ). before ++ l) takes.whole ∙ sym (append_assoc before (without_trailing Blank piece) takes.back) in
    let ends : Stops Blank (reverse (before ++ without_trailing Blank piece)) = stops_behind Blank before (without_trailing Blank piece) pos takes.ends in
    sym (ap (λ (l : List ℕ). without_trailing Blank l) parted ∙ trimmed_again Blank (before ++ without_trailing Blank piece) takes.back takes.back_in ends)

-- ---- lines that continue

-- the first byte of a text is the first byte of its first line
abbrev first_blank : List (List ℕ) → Bool
first_blank [] = false
first_blank (l ∷ ls) = starts_blank l

put_blank : (b : ℕ) (ls : List (List ℕ)) (line : List ℕ) (others : List (List ℕ)) → put b ls ≡ line ∷ others → starts_blank line ≡ in_class Blank b
unfolding in_class
put_blank b [] line others e = ap (λ (l : List (List ℕ)). first_blank l) (sym e)
put_blank b (l ∷ ls) line others e =
    elim (cases_Bool (crlf (b ∷ l))) [
      | inl y ↦
          let is_return : (b == 13) ≡ true = (and_true (b == 13) (begins_with_byte 10 l) y).0 in
          let none : false ≡ in_class Blank b = grind (arith, nat_tests, is_return) in
          ap (λ (x : List (List ℕ)). first_blank x) (sym (rw y at e)) ∙ none
      | inr n ↦ ap (λ (x : List (List ℕ)). first_blank x) (sym (rw n at e))
    ]

split_blank : (s line : List ℕ) (others : List (List ℕ)) → split s ≡ line ∷ others → starts_blank line ≡ starts_blank s
unfolding split
split_blank [] line others e = ap (λ (l : List (List ℕ)). first_blank l) (sym e)
split_blank (b ∷ s) line others e = put_blank b (split s) line others e

-- a line that others continue, where these lines follow
pub record ReadsOn (total : List (List ℕ)) (front gap piece : List ℕ) (rest : List (List ℕ)) : Type 0 where
  pub lines : total ≡ logical_lines_from (front ++ gap ++ piece) rest
  pub gap_in : IsAll Blank gap
  pub ends : Stops Blank (reverse front)

unfolds_on : (current line s : List ℕ) (others : List (List ℕ)) → split s ≡ line ∷ others → starts_blank s ≡ true → logical_lines_from current (split s) ≡ logical_lines_from (continued_line current line) others
unfolding logical_lines_from
unfolds_on current line s others e blank = rw (e, split_blank s line others e ∙ blank) refl

pub joins_on : (total : List (List ℕ)) (front gap piece line s : List ℕ) (others : List (List ℕ)) → split s ≡ line ∷ others → starts_blank s ≡ true → ReadsOn total front gap piece (split s) →
    ReadsOn total (without_trailing Blank (front ++ gap ++ piece)) (32 ∷ []) (after_run Blank line) others
unfolding in_class
joins_on total front gap piece line s others e blank so_far =
    let takes : Trims Blank (front ++ gap ++ piece) (without_trailing Blank (front ++ gap ++ piece)) = trimmed_takes Blank (front ++ gap ++ piece) in
    record {
      lines = rw (append_assoc (without_trailing Blank (front ++ gap ++ piece)) (32 ∷ []) (after_run Blank line)) (so_far.lines ∙ unfolds_on (front ++ gap ++ piece) line s others e blank);
      gap_in = refl;
      ends = takes.ends;
    }

new_line : (current s : List ℕ) → starts_blank s ≡ false → logical_lines_from current (split s) ≡ current ∷ logical_lines (split s)
unfolding logical_lines_from
new_line current s blank =
    let p = split_is_cons s in
    rw (p.2, split_blank s p.0 p.1 p.2 ∙ blank) refl

-- a line that nothing continues is complete
pub stands_alone : (current s : List ℕ) (next : Option ℕ) → continues s next ≡ false → logical_lines_from current (rest_at s next) ≡ current ∷ logical_lines (rest_at s next)
unfolding logical_lines_from
stands_alone current s None e = refl
stands_alone current s (Some n) e = new_line current (drop n s) e

pub done_on : (total : List (List ℕ)) (front gap piece s : List ℕ) (next : Option ℕ) → continues s next ≡ false → ReadsOn total front gap piece (rest_at s next) →
    total ≡ (front ++ gap ++ piece) ∷ logical_lines (rest_at s next)
done_on total front gap piece s next e so_far = so_far.lines ∙ stands_alone (front ++ gap ++ piece) s next e

pub still_after : (next : Option ℕ) (s : List ℕ) (first from : ℕ) → first ≤ from → IfSome next (λ n. IsBehind from s n) → IfSome next (λ n. (first ≤ n) × (n ≤ length s))
still_after None s first from le later = tt
still_after (Some n) s first from le later = (omega (arith, later.0), later.1)

-- ---- all lines

pub record ReadsLines (total s : List ℕ) (made : List HeldValue) (next : Option ℕ) : Type 0 where
  pub lines : logical_lines (split s) ≡ map (value_of total) made ++ logical_lines (rest_at s next)
  pub within : IfSome next (λ n. n ≤ length s)

among : (total : List ℕ) (end : ℕ) (value : HeldValue) → IsWithin (take end total) value → value_of (take end total) value ≡ value_of total value
among total end (Received p) within =
    let cut = length-take end total in
    within_front total end p.from p.len (omega arith)
among total end (Edited t) within = refl

still_within : (next : Option ℕ) (s : List ℕ) (from : ℕ) → IfSome next (λ n. IsBehind from s n) → IfSome next (λ n. n ≤ length s)
still_within None s from later = tt
still_within (Some n) s from later = later.1

pub adds_line : (total : List ℕ) (end from : ℕ) (made : List HeldValue) (line : HeldValue) (next : Option ℕ) → ReadsLines total (take end total) made (Some from) →
    logical_lines (split (drop from (take end total))) ≡ value_of (take end total) line ∷ logical_lines (rest_at (take end total) next) → IsWithin (take end total) line →
    IfSome next (λ n. IsBehind from (take end total) n) → ReadsLines total (take end total) (made ++ line ∷ []) next
adds_line total end from made line next so_far e within later =
    let s : List ℕ = take end total in
    let one : logical_lines (split (drop from (take end total))) ≡ value_of total line ∷ logical_lines (rest_at (take end total) next) = rw (among total end line within) at e in
    let pushed : map (value_of total) (made ++ line ∷ []) ≡ map (value_of total) made ++ value_of total line ∷ [] = map-append (value_of total) made (line ∷ []) in
    record {
      lines = so_far.lines ∙ ap (λ (l : List (List ℕ)). map (value_of total) made ++ l) one
          ∙ sym (append_assoc (map (value_of total) made) (value_of total line ∷ []) (logical_lines (rest_at (take end total) next)))
          ∙ ap (λ (l : List (List ℕ)). l ++ logical_lines (rest_at (take end total) next)) (sym pushed);
      within = still_within next (take end total) from later;
    }

pub all_lines : (total s : List ℕ) (made : List HeldValue) → ReadsLines total s made None → map (value_of total) made ≡ logical_lines (split s)
all_lines total s made so_far = sym (so_far.lines ∙ append-nil (map (value_of total) made))

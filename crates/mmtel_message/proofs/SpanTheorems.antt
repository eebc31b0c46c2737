-- Places among bytes: places within a place, and what follows a prefix.
use Rattle.std.proofs.Common.{◌≡◌, ℕ, ◌+◌, ◌-◌, ◌≤◌, List, [], ◌∷◌, ◌++◌, length, take, drop, Some, sym, ap, ◌∙◌, arith, append_assoc}
use Rattle.std.proofs.lemmas.List.{length-append, length-take, take-take, drop-take, drop-drop, drop_at}
use Rattle.mmtel_base.specs.declared.classes.Class.{Class}
use Rattle.mmtel_base.specs.Scanning.{leading_run, after_run, after_byte}
use Rattle.mmtel_base.proofs.ChainTheorems.{after_byte_whole}
use Rattle.mmtel_base.proofs.Runs.{run_whole}
use Rattle.mmtel_message.specs.Held.{bytes_at}
use Rattle.mmtel_message.specs.declared.held.Span.{Span}

-- ---- a place within a place

-- what is within a prefix of the bytes is at the same place among all
pub within_front : (s : List ℕ) (n from len : ℕ) → from + len ≤ n → take len (drop from (take n s)) ≡ take len (drop from s)
within_front s n from len le =
    let parts : from + (n - from) ≡ n = omega arith in
    let cut : drop from (take n s) ≡ take (n - from) (drop from s) = rw parts at (drop-take from (n - from) s) in
    rw cut (take-take len (n - from) (drop from s) (omega arith))

-- the place of a part of what is at a place
abbrev pub part_span : Span → Span → Span
part_span p part = record { from = p.from + part.from; len = part.len }

span_len : (s : List ℕ) (p : Span) → length (bytes_at s p) ≤ p.len
span_len s p = let cut = length-take p.len (drop p.from s) in omega arith

pub part_at : (s : List ℕ) (p part : Span) → part.from + part.len ≤ length (bytes_at s p) → bytes_at s (part_span p part) ≡ bytes_at (bytes_at s p) part
part_at s p part le =
    let short = span_len s p in
    let inner : bytes_at (bytes_at s p) part ≡ take part.len (drop part.from (drop p.from s)) = within_front (drop p.from s) p.len part.from part.len (omega arith) in
    let moved : drop part.from (drop p.from s) ≡ drop (p.from + part.from) s = drop-drop part.from p.from s in
    sym (inner ∙ ap (λ (l : List ℕ). take part.len l) moved)

-- ---- what follows a prefix

pub record Ends (s r : List ℕ) : Type 0 where
  pub front : List ℕ
  pub whole : s ≡ front ++ r

pub ends_behind : (s r t : List ℕ) → Ends s r → Ends r t → Ends s t
ends_behind s r t a b = record { front = a.front ++ b.front; whole = a.whole ∙ ap (λ (l : List ℕ). a.front ++ l) b.whole ∙ sym (append_assoc a.front b.front t) }

pub ends_run : (k : Class) (s : List ℕ) → Ends s (after_run k s)
ends_run k s = record { front = leading_run k s; whole = run_whole k s }

-- the rest begins as many bytes before the end as it is long
pub ends_at : (s r : List ℕ) → Ends s r → drop (length s - length r) s ≡ r
ends_at s r e =
    let len : length s ≡ length e.front + length r = ap (λ (l : List ℕ). length l) e.whole ∙ length-append e.front r in
    ap (λ (l : List ℕ). drop (length s - length r) l) e.whole ∙ drop_at e.front r (length s - length r) (omega arith)

pub ends_byte : (b : ℕ) (s t : List ℕ) → after_byte b s ≡ Some t → Ends s t
ends_byte b s t e = record { front = b ∷ []; whole = after_byte_whole b s t e }

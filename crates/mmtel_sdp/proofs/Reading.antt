-- Reading lines one after the other, as a loop does.
use Rattle.std.proofs.Common.{◌≡◌, ◌==◌, true, false, ℕ, List, [], ◌∷◌, ◌++◌, length, Option, Some, None, if◌then◌else◌, refl, sym, ap, ◌∙◌, append_assoc}
use Rattle.std.proofs.lemmas.List.{append-nil}
use Rattle.mmtel_base.specs.Chain.{◌>>=◌}
use Rattle.mmtel_base.specs.Scanning.{split_once_at}
use Rattle.mmtel_sdp.specs.Lines.{line_at, lines_in, lines_of}
use Rattle.mmtel_sdp.specs.declared.lines.Line.{Line}
use Rattle.mmtel_sdp.proofs.Parts.{cut, cut_more, cut_one, has_first}

-- what was read before, and what remains to be read
abbrev pub with_front : {A : Type 0} → List A → Option (List A) → Option (List A)
with_front front read = read >>= λ more. Some (front ++ more)

abbrev pub next_lines : Option Line → Option (List Line) → Option (List Line)
next_lines line more = line >>= λ l. more >>= λ ls. Some (l ∷ ls)

cut_on : (b : ℕ) (raw s : List ℕ) → lines_in (raw ∷ cut b s) ≡ next_lines (line_at raw) (lines_in (cut b s))
cut_on b raw s = let first = has_first b s in rw first.1 refl

pub lines_more : (s : List ℕ) (x : List ℕ × List ℕ) → split_once_at 10 s ≡ Some x → lines_of s ≡ next_lines (line_at x.0) (lines_of x.1)
unfolding lines_of
lines_more s x e = rw (cut_more 10 s x e) (cut_on 10 x.0 x.1)

lines_last : (s : List ℕ) → split_once_at 10 s ≡ None → lines_of s ≡ (if length s == 0 then Some [] else None)
unfolding lines_of
lines_last s e = rw (cut_one 10 s e) refl

regroup : (front : List Line) (line : Line) (read : Option (List Line)) → with_front front (next_lines (Some line) read) ≡ with_front (front ++ line ∷ []) read
regroup front line (Some more) = ap (λ (lines : List Line). Some lines) (simp append_assoc)
regroup front line None = refl

pub goes_on : (front : List Line) (rest whole : List ℕ) (x : List ℕ × List ℕ) (line : Line) → lines_of whole ≡ with_front front (lines_of rest) → Some x ≡ split_once_at 10 rest →
    Some line ≡ line_at x.0 → lines_of whole ≡ with_front (front ++ line ∷ []) (lines_of x.1)
goes_on front rest whole x line so_far e is =
    so_far ∙ rw (lines_more rest x (sym e), ← is) (regroup front line (lines_of x.1))

pub fails_at : (front : List Line) (rest whole : List ℕ) (x : List ℕ × List ℕ) → lines_of whole ≡ with_front front (lines_of rest) → Some x ≡ split_once_at 10 rest → None ≡ line_at x.0 → lines_of whole ≡ None
fails_at front rest whole x so_far e is = so_far ∙ rw (lines_more rest x (sym e), ← is) refl

pub is_done : (front : List Line) (rest whole : List ℕ) → lines_of whole ≡ with_front front (lines_of rest) → None ≡ split_once_at 10 rest → (length rest == 0) ≡ true → lines_of whole ≡ Some front
is_done front rest whole so_far e ended = so_far ∙ rw (lines_last rest (sym e), ended) (ap (λ (lines : List Line). Some lines) (append-nil front))

pub is_cut_off : (front : List Line) (rest whole : List ℕ) → lines_of whole ≡ with_front front (lines_of rest) → None ≡ split_once_at 10 rest → (length rest == 0) ≡ false → lines_of whole ≡ None
is_cut_off front rest whole so_far e open_end = so_far ∙ rw (lines_last rest (sym e), open_end) refl

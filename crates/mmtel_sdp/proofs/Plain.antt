-- Lines without CR and LF in them: those of a text that was read, and those that are read back.
use Rattle.std.proofs.Common.{◌≡◌, ◌==◌, Bool, true, false, not, ◌&&◌, ◌||◌, ℕ, zero, suc, List, [], ◌∷◌, ◌++◌, length, drop, Option, Some, None, refl, sym, ap, ◌∙◌, subst, inl, inr, arith, append_assoc}
use Rattle.std.specs.List.{list_all}
use Rattle.std.specs.Str.{byte}
use Rattle.std.proofs.lemmas.List.Folds.{list_all-append}
use Rattle.std.proofs.lemmas.Bool.{cases_Bool}
use Rattle.std.proofs.lemmas.Bool.Decides.{nat_tests}
use Rattle.mmtel_base.specs.Chain.{◌>>=◌}
use Rattle.mmtel_base.specs.Scanning.{split_once_at, IsFree}
use Rattle.mmtel_base.proofs.ChainTheorems.{bind_some, guard_some, some_is}
use Rattle.mmtel_base.proofs.Runs.{and_true, split_again}
use Rattle.mmtel_sdp.specs.Lines.{text_from, line_of, line_at, lines_in, lines_of, line_text_of, text_of}
use Rattle.mmtel_sdp.specs.declared.lines.Line.{Line}
use Rattle.mmtel_sdp.proofs.Parts.{cut, cut_more, cut_one, has_first}
use Rattle.mmtel_sdp.proofs.Reading.{next_lines, lines_more}

abbrev pub plain_byte : ℕ → Bool
plain_byte b = not (b == 10) && not (b == 13)

abbrev pub IsPlain : List ℕ → Type 0
IsPlain s = list_all plain_byte s ≡ true

abbrev pub plain_line : Line → Bool
plain_line line = plain_byte line.letter && list_all plain_byte line.value

abbrev pub ArePlain : List Line → Type 0
ArePlain lines = list_all plain_line lines ≡ true

-- ---- tests of each byte

pub both_true : (a b : Bool) → a ≡ true → b ≡ true → (a && b) ≡ true
both_true true true x y = refl
both_true true false x y = absurd cc
both_true false b x y = absurd cc

pub weaker : (p q : ℕ → Bool) → ((b : ℕ) → p b ≡ true → q b ≡ true) → (s : List ℕ) → list_all p s ≡ true → list_all q s ≡ true
weaker p q less [] all = refl
weaker p q less (b ∷ s) all =
    let both = and_true (p b) (list_all p s) all in
    both_true (q b) (list_all q s) (less b both.0) (weaker p q less s both.1)

pub all_both : {A : Type 0} (p : A → Bool) (a b : List A) → list_all p a ≡ true → list_all p b ≡ true → list_all p (a ++ b) ≡ true
all_both p a b x y = rw (list_all-append, x, y) refl

pub all_behind : (p : ℕ → Bool) (n : ℕ) (s : List ℕ) → list_all p s ≡ true → list_all p (drop n s) ≡ true
all_behind p zero s all = all
all_behind p (suc n) [] all = refl
all_behind p (suc n) (b ∷ s) all = all_behind p n s (and_true (p b) (list_all p s) all).1

-- where each byte is the one at which the list is split, or passes a test, each byte of each part passes
pub parts_pass : (b : ℕ) (p : ℕ → Bool) (s : List ℕ) → list_all (λ c. c == b || p c) s ≡ true → list_all (λ part. list_all p part) (cut b s) ≡ true
parts_pass b p [] all = refl
parts_pass b p (c ∷ s) all =
    let both = and_true (c == b || p c) (list_all (λ x. x == b || p x) s) all in
    let more = parts_pass b p s both.1 in
    let first = has_first b s in
    elim (cases_Bool (c == b)) [
      | inl y ↦ rw y more
      | inr n ↦
          let here : p c ≡ true = rw n at both.0 in
          rw (n, first.1, here) (rw first.1 at more)
    ]

-- ---- what was read has no CR and no LF

cr_or_plain : (c : ℕ) → not (c == 10) ≡ true → (c == 13 || plain_byte c) ≡ true
cr_or_plain c e = grind (arith, nat_tests)

raw_parts : (raw : List ℕ) → IsFree 10 raw → list_all (λ part. list_all plain_byte part) (cut 13 raw) ≡ true
raw_parts raw free = parts_pass 13 plain_byte raw (weaker (λ c. not (c == 10)) (λ c. c == 13 || plain_byte c) cr_or_plain raw free)

text_plain : (raw : List ℕ) (o : Option (List ℕ × List ℕ)) (text : List ℕ) → IsFree 10 raw → split_once_at 13 raw ≡ o → text_from o raw ≡ Some text → IsPlain text
text_plain raw None text free e is =
    let parts = rw (cut_one 13 raw e) at (raw_parts raw free) in
    let all : IsPlain raw = (and_true (list_all plain_byte raw) true parts).0 in
    subst (λ (t : List ℕ). IsPlain t) (some_is raw text is) all
text_plain raw (Some p) text free e is =
    let parts = rw (cut_more 13 raw p e) at (raw_parts raw free) in
    let all : IsPlain p.0 = (and_true (list_all plain_byte p.0) (list_all (λ part. list_all plain_byte part) (cut 13 p.1)) parts).0 in
    let same = guard_some (length p.1 == 0) p.0 text is in
    subst (λ (t : List ℕ). IsPlain t) same.1 all

line_plain : (text : List ℕ) (line : Line) → IsPlain text → line_of text ≡ Some line → plain_line line ≡ true
line_plain [] line all is = absurd cc
line_plain (x ∷ []) line all is = absurd cc
line_plain (x ∷ e ∷ value) line all is =
    let first = and_true (plain_byte x) (plain_byte e && list_all plain_byte value) all in
    let second = and_true (plain_byte e) (list_all plain_byte value) first.1 in
    let same = guard_some (e == 61) (record { letter = x; value = value }) line is in
    subst (λ (l : Line). plain_line l ≡ true) same.1 (both_true (plain_byte x) (list_all plain_byte value) first.0 second.1)

at_plain : (raw : List ℕ) (line : Line) → IsFree 10 raw → line_at raw ≡ Some line → plain_line line ≡ true
unfolding line_at
at_plain raw line free is =
    let x = bind_some (text_from (split_once_at 13 raw) raw) (λ text. line_of text) line is in
    line_plain x.0 line (text_plain raw (split_once_at 13 raw) x.0 free refl x.1) x.2

in_plain : (parts : List (List ℕ)) (lines : List Line) → list_all (λ part. list_all (λ c. not (c == 10)) part) parts ≡ true → lines_in parts ≡ Some lines → ArePlain lines
in_plain [] lines free is = absurd cc
in_plain (last ∷ []) lines free is =
    let same = guard_some (length last == 0) [] lines is in
    subst (λ (ls : List Line). ArePlain ls) same.1 refl
in_plain (raw ∷ next ∷ more) lines free is =
    let both = and_true (list_all (λ c. not (c == 10)) raw) (list_all (λ part. list_all (λ c. not (c == 10)) part) (next ∷ more)) free in
    let x = bind_some (line_at raw) (λ line. lines_in (next ∷ more) >>= λ ls. Some (line ∷ ls)) lines is in
    let y = bind_some (lines_in (next ∷ more)) (λ ls. Some (x.0 ∷ ls)) lines x.2 in
    let whole : ArePlain (x.0 ∷ y.0) = both_true (plain_line x.0) (list_all plain_line y.0) (at_plain raw x.0 both.0 x.1) (in_plain (next ∷ more) y.0 both.1 y.1) in
    subst (λ (ls : List Line). ArePlain ls) (some_is (x.0 ∷ y.0) lines y.2) whole

lf_or_not : (s : List ℕ) → list_all (λ c. c == 10 || not (c == 10)) s ≡ true
lf_or_not [] = refl
lf_or_not (c ∷ s) = elim (cases_Bool (c == 10)) [ inl y ↦ rw y (lf_or_not s) | inr n ↦ rw n (lf_or_not s) ]

pub lines_plain : (s : List ℕ) (lines : List Line) → lines_of s ≡ Some lines → ArePlain lines
unfolding lines_of
lines_plain s lines is = in_plain (cut 10 s) lines (parts_pass 10 (λ c. not (c == 10)) s (lf_or_not s)) is

-- ---- such lines are read back

plain_no_lf : (b : ℕ) → plain_byte b ≡ true → not (b == 10) ≡ true
plain_no_lf b e = (and_true (not (b == 10)) (not (b == 13)) e).0

plain_no_cr : (b : ℕ) → plain_byte b ≡ true → not (b == 13) ≡ true
plain_no_cr b e = (and_true (not (b == 10)) (not (b == 13)) e).1

abbrev front_of : Line → List ℕ
front_of line = line.letter ∷ byte "=" ∷ (line.value ++ 13 ∷ [])

abbrev bare : Line → List ℕ
bare line = line.letter ∷ byte "=" ∷ line.value

bare_plain : (line : Line) → plain_line line ≡ true → IsPlain (bare line)
bare_plain line e = e

line_again : (line : Line) → plain_line line ≡ true → line_at (front_of line) ≡ Some line
unfolding line_at
line_again line e =
    let free : IsFree 13 (bare line) = weaker plain_byte (λ b. not (b == 13)) plain_no_cr (bare line) (bare_plain line e) in
    let at : split_once_at 13 (front_of line) ≡ Some (bare line, []) = split_again 13 (bare line) [] free in
    rw at refl

at_lf : (line : Line) (more : List ℕ) → line_text_of line ++ more ≡ front_of line ++ 10 ∷ more
at_lf line more = ap (λ (s : List ℕ). line.letter ∷ byte "=" ∷ s) (append_assoc line.value (13 ∷ 10 ∷ []) more ∙ sym (append_assoc line.value (13 ∷ []) (10 ∷ more)))

front_free : (line : Line) → plain_line line ≡ true → IsFree 10 (front_of line)
front_free line e = all_both (λ b. not (b == 10)) (bare line) (13 ∷ []) (weaker plain_byte (λ b. not (b == 10)) plain_no_lf (bare line) (bare_plain line e)) refl

none_again : lines_of [] ≡ Some []
unfolding lines_of
none_again = refl

pub lines_again : (lines : List Line) → ArePlain lines → lines_of (text_of lines) ≡ Some lines
lines_again [] all = none_again
lines_again (line ∷ lines) all =
    let both = and_true (plain_line line) (list_all plain_line lines) all in
    let next : lines_of (front_of line ++ 10 ∷ text_of lines) ≡ next_lines (line_at (front_of line)) (lines_of (text_of lines)) =
    lines_more (front_of line ++ 10 ∷ text_of lines) (front_of line, text_of lines) (split_again 10 (front_of line) (text_of lines) (front_free line both.0)) in
    ap (λ (s : List ℕ). lines_of s) (at_lf line (text_of lines)) ∙ next ∙ rw (line_again line both.0, lines_again lines both.1) refl

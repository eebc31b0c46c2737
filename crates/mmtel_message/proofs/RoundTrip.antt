-- A canonical text is read back.
use Rattle.std.proofs.Common.{◌≡◌, ◌==◌, true, false, not, ◌&&◌, ℕ, suc, ◌+◌, ◌<◌, ◌≤◌, List, [], ◌∷◌, ◌++◌, length, drop, Option, Some}
use Rattle.std.proofs.Common.{None, refl, sym, ap, subst, inl, inr, ◌∙◌, arith, append_assoc, append-nil, map, Ok, Err, Result, nat_lt}
use Rattle.std.specs.Prelude.{IfOk}
use Rattle.mmtel_base.specs.declared.memory.NoMemory.{NoMemory}
use Rattle.std.proofs.lemmas.List.{length-append, take_at}
use Rattle.std.specs.List.{list_all}
use Rattle.std.proofs.lemmas.Bool.{cases_Bool}
use Rattle.mmtel_message.specs.Starts.{start_at}
use Rattle.std.specs.Option.{option_map}
use Rattle.std.proofs.lemmas.Bool.Decides.{nat_tests}
use Rattle.mmtel_base.specs.Scanning.{IsFree}
use Rattle.mmtel_base.proofs.Runs.{and_true, run_again, after_run_again, after_run_cons}
use Rattle.mmtel_base.specs.Classes.{in_class}
use Rattle.mmtel_base.specs.Scanning.{leading_run, after_run}
use Rattle.mmtel_base.specs.Classes.{IsAll, Stops}
use Rattle.mmtel_base.specs.declared.classes.Class.TheVariants.{Token, Blank}
use Rattle.mmtel_message.specs.Headers.{header_at, header_line, is_value_byte}
use Rattle.mmtel_message.specs.Message.{Message}
use Rattle.mmtel_message.specs.Texts.{start_text, line_text, lines_text, message_text}
use Rattle.mmtel_message.specs.Datagram.{tail_text, datagram, IsWhole, AreWhole, AreUnfolded}
use Rattle.mmtel_message.specs.Reads.{Read, head_in_lines, after_head, after_start, read_result}
use Rattle.mmtel_message.proofs.LineTheorems.{and_false, unmapped, split_none}
use Rattle.mmtel_message.specs.Canonical.{IsCanonicalLine, AreCanonicalLines, IsCanonical, IsWithinLimits}
use Rattle.mmtel_message.specs.declared.messages.Start.{Start}
use Rattle.mmtel_message.specs.Lines.{crlf, begins_with_byte, first_break, split, starts_blank, logical_lines_from}
use Rattle.mmtel_message.specs.declared.lines.Break.TheVariants.{Head, Line}

abbrev end_of_line : List ℕ → List ℕ
end_of_line s = 13 ∷ 10 ∷ s

other_byte : (b : ℕ) → not (b == 13) ≡ true → (b == 13) ≡ false
other_byte b e = grind (arith, nat_tests, e)

-- ---- the end of the head

abbrev plus : ℕ → Option ℕ → Option ℕ
plus n o = option_map (λ m. n + m) o

plus_one : (n : ℕ) (o : Option ℕ) → option_map (λ m. m + 1) (plus n o) ≡ plus (suc n) o
plus_one n None = refl
plus_one n (Some m) = ap (λ (k : ℕ). Some k) (omega arith)

plus_zero : (o : Option ℕ) → o ≡ plus 0 o
plus_zero None = refl
plus_zero (Some m) = ap (λ (k : ℕ). Some k) (omega arith)

pub not_here : (b : ℕ) (r : List ℕ) → IsWhole (b ∷ r) → crlf (b ∷ r) ≡ false
unfolding first_break
not_here b r e =
    elim (cases_Bool (crlf (b ∷ r))) [
      | inl y ↦ let f = rw y at e in absurd cc
      | inr n ↦ n
    ]

pub whole_rest : (b : ℕ) (r : List ℕ) → IsWhole (b ∷ r) → IsWhole r
unfolding first_break
whole_rest b r e = unmapped (first_break Line r) (rw (not_here b r e) at e)

-- no line end arises where a line is followed by what does not begin with LF
pub not_longer : (b : ℕ) (r t : List ℕ) → crlf (b ∷ r) ≡ false → begins_with_byte 10 t ≡ false → crlf (b ∷ (r ++ t)) ≡ false
not_longer b [] t e f = rw f (and_false (b == 13))
not_longer b (c ∷ r) t e f = e

pass : (r t : List ℕ) → IsWhole r → begins_with_byte 10 t ≡ false → first_break Head (r ++ t) ≡ plus (length r) (first_break Head t)
unfolding first_break
pass [] t e f = plus_zero (first_break Head t)
pass (b ∷ r) t e f =
    rw (not_longer b r t (not_here b r e) f, pass r t (whole_rest b r e) f) (plus_one (length r) (first_break Head t))

not_end : (r t : List ℕ) → IsWhole r → 0 < length r → begins_with_byte 10 t ≡ false → crlf (r ++ t) ≡ false
not_end [] t e filled f = absurd (omega arith)
not_end (b ∷ r) t e filled f = not_longer b r t (not_here b r e) f

two_more : (o : Option ℕ) → option_map (λ m. m + 1) (option_map (λ m. m + 1) o) ≡ plus 2 o
two_more None = refl
two_more (Some m) = ap (λ (k : ℕ). Some k) (omega arith)

over_end : (s : List ℕ) → crlf s ≡ false → first_break Head (13 ∷ 10 ∷ s) ≡ plus 2 (first_break Head s)
unfolding first_break
over_end s e = rw e (two_more (first_break Head s))

plus_plus : (a b : ℕ) (o : Option ℕ) → plus a (plus b o) ≡ plus (a + b) o
plus_plus a b None = refl
plus_plus a b (Some m) = ap (λ (k : ℕ). Some k) (omega arith)

abbrev close : List ℕ → List ℕ
close body = 13 ∷ 10 ∷ 13 ∷ 10 ∷ body

tail_led : (rs : List (List ℕ)) (body : List ℕ) → begins_with_byte 10 (tail_text rs ++ close body) ≡ false
tail_led [] body = refl
tail_led (r ∷ rs) body = refl

head_tail : (rs : List (List ℕ)) (body : List ℕ) → AreWhole rs → first_break Head (tail_text rs ++ close body) ≡ Some (length (tail_text rs))
unfolding first_break
head_tail [] body e = refl
head_tail (r ∷ rs) body e =
    let rest : List ℕ = tail_text rs ++ close body in
    let parts : (r ++ tail_text rs) ++ close body ≡ r ++ rest = append_assoc r (tail_text rs) (close body) in
    let led = tail_led rs body in
    rw (parts, over_end (r ++ rest) (not_end r rest e.0.0 e.0.1 led), pass r rest e.0.0 led, head_tail rs body e.1) (ap (λ (k : ℕ). Some k) (omega (arith, length-append r (tail_text rs))))

pub head_is : (first : List ℕ) (rs : List (List ℕ)) (body : List ℕ) → IsWhole first → AreWhole rs → first_break Head ((first ++ tail_text rs) ++ close body) ≡ Some (length (first ++ tail_text rs))
head_is first rs body e each =
    let parts : (first ++ tail_text rs) ++ close body ≡ first ++ (tail_text rs ++ close body) = append_assoc first (tail_text rs) (close body) in
    rw (parts, pass first (tail_text rs ++ close body) e (tail_led rs body), head_tail rs body each) (ap (λ (k : ℕ). Some k) (omega (arith, length-append first (tail_text rs))))

-- ---- lines

split_end : (s : List ℕ) (l : List ℕ) (ls : List (List ℕ)) → split s ≡ l ∷ ls → split (13 ∷ 10 ∷ s) ≡ [] ∷ l ∷ ls
unfolding split
split_end s l ls e = rw e refl

split_more : (r s : List ℕ) (ls : List (List ℕ)) → IsWhole r → split s ≡ [] ∷ ls → split (r ++ s) ≡ r ∷ ls
unfolding split
split_more [] s ls e more = more
split_more (b ∷ r) s ls e more = rw (split_more r s ls (whole_rest b r e) more, not_here b r e) refl

split_tail : (r : List ℕ) (rs : List (List ℕ)) → IsWhole r → AreWhole rs → split (r ++ tail_text rs) ≡ r ∷ rs
split_tail r [] e each = rw (append-nil r) (split_none r e)
split_tail r (q ∷ rs) e each = split_more r (tail_text (q ∷ rs)) (q ∷ rs) e (split_end (q ++ tail_text rs) q rs (split_tail q rs each.0.0 each.1))

unfolded_tail : (r : List ℕ) (rs : List (List ℕ)) → AreUnfolded rs → logical_lines_from r rs ≡ r ∷ rs
unfolding logical_lines_from
unfolded_tail r [] each = refl
unfolded_tail r (q ∷ rs) each = rw (each.0, unfolded_tail q rs each.1) refl

-- ---- header lines

abbrev Header : Type 0
Header = List ℕ × List ℕ

abbrev pub raw_of : Header → List ℕ
raw_of l = l.0 ++ (58 ∷ 32 ∷ l.1)

colon_stops : (s : List ℕ) → Stops Token (58 ∷ s)
unfolding in_class
colon_stops s = refl

colon_no_blank : (s : List ℕ) → Stops Blank (58 ∷ s)
unfolding in_class
colon_no_blank s = refl

space_blank : in_class Blank 32 ≡ true
unfolding in_class
space_blank = refl

token_byte : (b : ℕ) → in_class Token b ≡ true → not (b == 13) ≡ true
unfolding in_class
token_byte b e = grind (arith, nat_tests, e)

token_led : (b : ℕ) → in_class Token b ≡ true → in_class Blank b ≡ false
unfolding in_class
token_led b e = grind (arith, nat_tests, e)

token_free : (s : List ℕ) → IsAll Token s → IsFree 13 s
token_free [] e = refl
token_free (b ∷ s) e =
    let both = and_true (in_class Token b) (list_all (in_class Token) s) e in
    rw (token_byte b both.0, token_free s both.1) refl

value_free : (s : List ℕ) → list_all is_value_byte s ≡ true → IsFree 13 s
value_free [] e = refl
value_free (b ∷ s) e =
    let both = and_true (is_value_byte b) (list_all is_value_byte s) e in
    let first = and_true (not (b == 0) && not (b == 13)) (not (b == 10)) both.0 in
    let second = and_true (not (b == 0)) (not (b == 13)) first.0 in
    rw (second.1, value_free s both.1) refl

free_append : (a b : List ℕ) → IsFree 13 a → IsFree 13 b → IsFree 13 (a ++ b)
free_append [] b e f = f
free_append (x ∷ a) b e f =
    let both = and_true (not (x == 13)) (list_all (λ y. not (y == 13)) a) e in
    rw (both.0, free_append a b both.1 f) refl

pub led : (s t : List ℕ) → IsAll Token s → 0 < length s → starts_blank (s ++ t) ≡ false
led [] t e filled = absurd (omega arith)
led (b ∷ s) t e filled = token_led b (and_true (in_class Token b) (list_all (in_class Token) s) e).0

-- what has no CR has no line end
pub free_whole : (r : List ℕ) → IsFree 13 r → IsWhole r
unfolding first_break
free_whole [] e = refl
free_whole (b ∷ r) e =
    let both = and_true (not (b == 13)) (list_all (λ x. not (x == 13)) r) e in
    rw (other_byte b both.0, free_whole r both.1) refl

raw_is : (l : Header) → IsCanonicalLine l → IsWhole (raw_of l) × (0 < length (raw_of l))
raw_is l is =
    (free_whole (raw_of l) (free_append l.0 (58 ∷ 32 ∷ l.1) (token_free l.0 is.name_in.each) (value_free l.1 is.value_in)), omega (arith, length-append l.0 (58 ∷ 32 ∷ l.1)))

pub header_again : (l : Header) → IsCanonicalLine l → header_at (raw_of l) ≡ Some l
unfolding header_at
header_again l is =
    let v : List ℕ = 58 ∷ 32 ∷ l.1 in
    let name : leading_run Token (l.0 ++ v) ≡ l.0 = run_again Token l.0 v is.name_in.each (colon_stops (32 ∷ l.1)) in
    let rest : after_run Token (l.0 ++ v) ≡ v = after_run_again Token l.0 v is.name_in.each (colon_stops (32 ∷ l.1)) in
    let blanks : after_run Blank v ≡ v = after_run_again Blank [] v refl (colon_no_blank (32 ∷ l.1)) in
    let filled : (length l.0 == 0) ≡ false = grind (arith, nat_tests, is.name_in.filled) in
    let space : after_run Blank (32 ∷ l.1) ≡ after_run Blank l.1 = after_run_cons Blank 32 l.1 space_blank in
    rw (rest, name, blanks, filled, space, is.trimmed, is.value_in, is.spelled) refl

headers_again : (ls : List Header) → AreCanonicalLines ls → map header_line (map raw_of ls) ≡ ls
headers_again [] each = refl
headers_again (l ∷ ls) each = rw (header_again l each.0, headers_again ls each.1) refl

raws_are : (ls : List Header) → AreCanonicalLines ls → AreWhole (map raw_of ls)
raws_are [] each = tt
raws_are (l ∷ ls) each = (raw_is l each.0, raws_are ls each.1)

raws_unfolded : (ls : List Header) → AreCanonicalLines ls → AreUnfolded (map raw_of ls)
raws_unfolded [] each = tt
raws_unfolded (l ∷ ls) each = (led l.0 (58 ∷ 32 ∷ l.1) each.0.name_in.each each.0.name_in.filled, raws_unfolded ls each.1)

-- ---- the whole text

line_is : (l : Header) → line_text l ≡ raw_of l ++ (13 ∷ 10 ∷ [])
line_is l = sym (append_assoc l.0 (58 ∷ 32 ∷ l.1) (13 ∷ 10 ∷ []))

tail_is : (ls : List Header) (rest : List ℕ) → 13 ∷ 10 ∷ (lines_text ls ++ rest) ≡ tail_text (map raw_of ls) ++ (13 ∷ 10 ∷ rest)
tail_is [] rest = refl
tail_is (l ∷ ls) rest =
    let r : List ℕ = raw_of l in
    let one : (line_text l ++ lines_text ls) ++ rest ≡ r ++ (13 ∷ 10 ∷ (lines_text ls ++ rest)) =
    rw (line_is l) (append_assoc (r ++ (13 ∷ 10 ∷ [])) (lines_text ls) rest ∙ append_assoc r (13 ∷ 10 ∷ []) (lines_text ls ++ rest)) in
    let two : r ++ (tail_text (map raw_of ls) ++ (13 ∷ 10 ∷ rest)) ≡ (r ++ tail_text (map raw_of ls)) ++ (13 ∷ 10 ∷ rest) = sym (append_assoc r (tail_text (map raw_of ls)) (13 ∷ 10 ∷ rest)) in
    ap (λ (t : List ℕ). 13 ∷ 10 ∷ t) (one ∙ (ap (λ (t : List ℕ). r ++ t) (tail_is ls rest) ∙ two))

text_is : (start : List ℕ) (ls : List Header) (body : List ℕ) → start ++ (13 ∷ 10 ∷ (lines_text ls ++ (13 ∷ 10 ∷ body))) ≡ (start ++ tail_text (map raw_of ls)) ++ close body
text_is start ls body = rw (tail_is ls (13 ∷ 10 ∷ body)) (sym (append_assoc start (tail_text (map raw_of ls)) (close body)))

past : (a body : List ℕ) → drop (length a + 4) (a ++ close body) ≡ body
past [] body = refl
past (x ∷ a) body = let four : suc (length a) + 4 ≡ suc (length a + 4) = omega arith in rw (four, past a body) refl

-- reading, from the lines on
abbrev pub after_lines : List ℕ → List (List ℕ) → Read
after_lines rest ls = after_head (head_in_lines ls) rest

-- bytes that are these lines and this body are read from the lines, each with those that continue it
pub reads_folded : (first : List ℕ) (rs : List (List ℕ)) (body : List ℕ) → IsWhole first → AreWhole rs → length (datagram first rs body) ≤ 16384 →
    read_result (datagram first rs body) ≡ after_lines body (logical_lines_from first rs)
reads_folded first rs body e each le =
    let head : List ℕ = first ++ tail_text rs in
    let fits : nat_lt 16384 (length (head ++ close body)) ≡ false = grind (arith, nat_tests, le) in
    rw (fits, head_is first rs body e each, past head body, take_at head (close body) (length head) refl, split_tail first rs e each) refl

pub reads_lines : (first : List ℕ) (rs : List (List ℕ)) (body : List ℕ) → IsWhole first → AreWhole rs → AreUnfolded rs → length (datagram first rs body) ≤ 16384 →
    read_result (datagram first rs body) ≡ after_start (map header_line rs) body (start_at first)
reads_lines first rs body e each plain le = rw (reads_folded first rs body e each le, unfolded_tail first rs plain) refl

sound_reads : (m : Message Start) → IsCanonical m → length m.lines ≤ 128 → after_start m.lines m.body (Some m.start) ≡ Ok m
sound_reads m is le =
    let few : nat_lt 128 (length m.lines) ≡ false = grind (arith, nat_tests, le) in
    rw (is.sound.five_in, few, is.sound.faultless, is.whole_body, is.single) refl

pub reads_back : (m : Message Start) → IsCanonical m → IsWithinLimits m → read_result (message_text m) ≡ Ok m
reads_back m is within =
    let first : List ℕ = start_text m.start in
    let raws : List (List ℕ) = map raw_of m.lines in
    let text : message_text m ≡ (first ++ tail_text raws) ++ close m.body = text_is first m.lines m.body in
    let fits : length ((first ++ tail_text raws) ++ close m.body) ≤ 16384 = subst (λ (t : List ℕ). length t ≤ 16384) text within.fits in
    ap (λ (t : List ℕ). read_result t) text
    ∙ (reads_lines first raws m.body is.start_in.one_line (raws_are m.lines is.lines_in) (raws_unfolded m.lines is.lines_in) fits
    ∙ (ap (λ (hs : List Header). after_start hs m.body (start_at first)) (headers_again m.lines is.lines_in)
    ∙ (ap (λ (start : Option Start). after_start m.lines m.body start) is.start_in.reads_back
    ∙ sound_reads m is within.few)))

pub text_reads_back : (m : Message Start) → IsCanonical m → IsWithinLimits m → (r : Result (List ℕ) NoMemory) → IfOk r (λ t. t ≡ message_text m) → IfOk r (λ t. read_result t ≡ Ok m)
text_reads_back m is within (Ok t) e = rw e (reads_back m is within)
text_reads_back m is within (Err f) e = tt

-- The text of a clean message, split at its line ends.
use Rattle.std.proofs.Common.{◌≡◌, ◌==◌, Bool, true, false, ℕ, suc, ◌+◌, List, [], ◌∷◌, ◌++◌, length, take, drop, map, Option, Some, None, refl, sym, ap, ◌∙◌, arith, append_assoc, append-nil}
use Rattle.std.specs.Prelude.{codes, if◌then◌else◌}
use Rattle.std.specs.Option.{option_map}
use Rattle.std.specs.List.{list_all}
use Rattle.std.proofs.lemmas.Bool.Decides.{nat_tests}
use Rattle.std.proofs.lemmas.List.{length-append, take_at}
use Rattle.mmtel_base.proofs.Runs.{and_true}
use Rattle.mmtel_message.specs.Headers.{is_value_byte}
use Rattle.mmtel_message.specs.Datagram.{tail_text}
use Rattle.mmtel_message.specs.Lines.{crlf, first_break, put, split}
use Rattle.mmtel_message.specs.Message.{Line, Message}
use Rattle.mmtel_message.specs.Texts.{line_text, lines_text, message_text, start_text}
use Rattle.mmtel_message.specs.declared.lines.Break.TheVariants.{Head}
use Rattle.mmtel_message.specs.declared.messages.Start.{Start}
use Rattle.mmtel_call_theorems.specs.NoInjection.Messages.{HasNoInjection, HaveNoInjection, LinesHaveNoInjection, MessageHasNoInjection, line_has_no_injection, written_line}
use Rattle.mmtel_call_theorems.proofs.NoInjection.Bytes.{all_cons, all_map, line_parts, start_no_injection, written_no_injection}

no_return : (b : ℕ) → is_value_byte b ≡ true → (b == 13) ≡ false
no_return b e = grind (arith, nat_tests, e)

no_feed : (b : ℕ) → is_value_byte b ≡ true → (b == 10) ≡ false
no_feed b e = grind (arith, nat_tests, e)

-- ---- lines

put_some : (b : ℕ) (ls : List (List ℕ)) → (l : List ℕ) × (rest : List (List ℕ)) × (put b ls ≡ l ∷ rest)
put_some b [] = (b ∷ [], [], refl)
put_some b (l ∷ ls) = by (crlf (b ∷ l))
  where
    by : (t : Bool) → (m : List ℕ) × (rest : List (List ℕ)) × ((if t then [] ∷ drop 1 l ∷ ls else (b ∷ l) ∷ ls) ≡ m ∷ rest)
    by true = ([], drop 1 l ∷ ls, refl)
    by false = (b ∷ l, ls, refl)

-- there is a first line
split_some : (s : List ℕ) → (l : List ℕ) × (rest : List (List ℕ)) × (split s ≡ l ∷ rest)
unfolding split
split_some [] = ([], [], refl)
split_some (b ∷ s) = put_some b (split s)

split_end : (s : List ℕ) → split (13 ∷ 10 ∷ s) ≡ [] ∷ split s
unfolding split
split_end s = let some = split_some s in rw some.2 refl

-- a line, its end, and what follows
split_line : (r s : List ℕ) → HasNoInjection r → split (r ++ (13 ∷ 10 ∷ s)) ≡ r ∷ split s
unfolding split
split_line [] s e = split_end s
split_line (b ∷ r) s e =
    let parts = and_true (is_value_byte b) (list_all is_value_byte r) e in
    rw (split_line r s parts.1, no_return b parts.0) refl

split_alone : (r : List ℕ) → HasNoInjection r → split r ≡ r ∷ []
unfolding split
split_alone [] e = refl
split_alone (b ∷ r) e =
    let parts = and_true (is_value_byte b) (list_all is_value_byte r) e in
    rw (split_alone r parts.1, no_return b parts.0) refl

-- ---- the text, line by line

abbrev ended : List (List ℕ) → List ℕ → List ℕ
ended [] rest = rest
ended (r ∷ rs) rest = r ++ (13 ∷ 10 ∷ ended rs rest)

line_is : (l : Line) (rest : List ℕ) → line_text l ++ rest ≡ written_line l ++ (13 ∷ 10 ∷ rest)
line_is l rest =
    append_assoc l.0 (codes ": " ++ (l.1 ++ codes "\r\n")) rest
    ∙ ap (λ t. l.0 ++ t) (append_assoc (codes ": ") (l.1 ++ codes "\r\n") rest ∙ ap (λ t. codes ": " ++ t) (append_assoc l.1 (codes "\r\n") rest))
    ∙ sym (append_assoc l.0 (codes ": " ++ l.1) (13 ∷ 10 ∷ rest) ∙ ap (λ t. l.0 ++ t) (append_assoc (codes ": ") l.1 (13 ∷ 10 ∷ rest)))

lines_are : (ls : List Line) (rest : List ℕ) → lines_text ls ++ rest ≡ ended (map written_line ls) rest
lines_are [] rest = refl
lines_are (l ∷ ls) rest =
    append_assoc (line_text l) (lines_text ls) rest ∙ line_is l (lines_text ls ++ rest) ∙ ap (λ t. written_line l ++ (13 ∷ 10 ∷ t)) (lines_are ls rest)

text_is : (m : Message Start) → message_text m ≡ ended (start_text m.start ∷ map written_line m.lines) (13 ∷ 10 ∷ m.body)
text_is m = ap (λ t. start_text m.start ++ (13 ∷ 10 ∷ t)) (lines_are m.lines (13 ∷ 10 ∷ m.body))

lines_no_injection : (m : Message Start) → MessageHasNoInjection m → HaveNoInjection (start_text m.start ∷ map written_line m.lines)
lines_no_injection m is =
    all_cons (list_all is_value_byte) (start_text m.start) (map written_line m.lines) (start_no_injection m.start is.start_in)
    (all_map line_has_no_injection (list_all is_value_byte) written_line written_no_injection m.lines is.lines_in)

split_ended : (rs : List (List ℕ)) (rest : List ℕ) → HaveNoInjection rs → split (ended rs rest) ≡ rs ++ split rest
split_ended [] rest e = refl
split_ended (r ∷ rs) rest e =
    let parts = and_true (list_all is_value_byte r) (list_all (list_all is_value_byte) rs) e in
    split_line r (ended rs rest) parts.0 ∙ ap (λ ls. r ∷ ls) (split_ended rs rest parts.1)

pub splits : (m : Message Start) → MessageHasNoInjection m → split (message_text m) ≡ start_text m.start ∷ (map written_line m.lines ++ [] ∷ split m.body)
splits m is =
    let lines : List (List ℕ) = start_text m.start ∷ map written_line m.lines in
    ap (λ t. split t) (text_is m) ∙ split_ended lines (13 ∷ 10 ∷ m.body) (lines_no_injection m is) ∙ ap (λ ls. lines ++ ls) (split_end m.body)

pub cleans : (m : Message Start) → MessageHasNoInjection m → HaveNoInjection (start_text m.start ∷ map written_line m.lines)
cleans m is = lines_no_injection m is

-- ---- the end of the head

abbrev close : List ℕ → List ℕ
close body = 13 ∷ 10 ∷ 13 ∷ 10 ∷ body

abbrev plus : ℕ → Option ℕ → Option ℕ
plus n o = option_map (λ m. n + m) o

plus_one : (n : ℕ) (o : Option ℕ) → option_map (λ m. m + 1) (plus n o) ≡ plus (suc n) o
plus_one n None = refl
plus_one n (Some m) = ap (λ (k : ℕ). Some k) (omega arith)

plus_zero : (o : Option ℕ) → o ≡ plus 0 o
plus_zero None = refl
plus_zero (Some m) = ap (λ (k : ℕ). Some k) (omega arith)

two_more : (o : Option ℕ) → option_map (λ m. m + 1) (option_map (λ m. m + 1) o) ≡ plus 2 o
two_more None = refl
two_more (Some m) = ap (λ (k : ℕ). Some k) (omega arith)

pass : (r t : List ℕ) → HasNoInjection r → first_break Head (r ++ t) ≡ plus (length r) (first_break Head t)
unfolding first_break
pass [] t e = plus_zero (first_break Head t)
pass (b ∷ r) t e =
    let parts = and_true (is_value_byte b) (list_all is_value_byte r) e in
    rw (no_return b parts.0, pass r t parts.1) (plus_one (length r) (first_break Head t))

over_end : (s : List ℕ) → crlf s ≡ false → first_break Head (13 ∷ 10 ∷ s) ≡ plus 2 (first_break Head s)
unfolding first_break
over_end s e = rw e (two_more (first_break Head s))

-- a line does not contain the end of a line
not_end : (name value t : List ℕ) → HasNoInjection name → crlf ((name ++ (codes ": " ++ value)) ++ t) ≡ false
not_end [] value t e = refl
not_end (b ∷ name) value t e =
    let parts = and_true (is_value_byte b) (list_all is_value_byte name) e in
    rw (no_return b parts.0) refl

head_tail : (ls : List Line) (body : List ℕ) → LinesHaveNoInjection ls → first_break Head (tail_text (map written_line ls) ++ close body) ≡ Some (length (tail_text (map written_line ls)))
unfolding first_break
head_tail [] body e = refl
head_tail (l ∷ ls) body e =
    let both = and_true (line_has_no_injection l) (list_all line_has_no_injection ls) e in
    let r : List ℕ = written_line l in
    let tail : List ℕ = tail_text (map written_line ls) in
    let rest : List ℕ = tail ++ close body in
    let parts : (r ++ tail) ++ close body ≡ r ++ rest = append_assoc r tail (close body) in
    let no : crlf (r ++ rest) ≡ false = not_end l.0 l.1 rest (line_parts l both.0).0 in
    rw (parts, over_end (r ++ rest) no, pass r rest (written_no_injection l both.0), head_tail ls body both.1) (ap (λ (k : ℕ). Some k) (omega (arith, length-append r tail)))

head_is : (first : List ℕ) (ls : List Line) (body : List ℕ) → HasNoInjection first → LinesHaveNoInjection ls →
    first_break Head ((first ++ tail_text (map written_line ls)) ++ close body) ≡ Some (length (first ++ tail_text (map written_line ls)))
head_is first ls body e each =
    let tail : List ℕ = tail_text (map written_line ls) in
    let parts : (first ++ tail) ++ close body ≡ first ++ (tail ++ close body) = append_assoc first tail (close body) in
    rw (parts, pass first (tail ++ close body) e, head_tail ls body each) (ap (λ (k : ℕ). Some k) (omega (arith, length-append first tail)))

tail_is : (rs : List (List ℕ)) (body : List ℕ) → 13 ∷ 10 ∷ ended rs (13 ∷ 10 ∷ body) ≡ tail_text rs ++ close body
tail_is [] body = refl
tail_is (r ∷ rs) body =
    ap (λ t. 13 ∷ 10 ∷ t) (ap (λ t. r ++ t) (tail_is rs body) ∙ sym (append_assoc r (tail_text rs) (close body)))

split_tail : (r : List ℕ) (rs : List (List ℕ)) → HasNoInjection r → HaveNoInjection rs → split (r ++ tail_text rs) ≡ r ∷ rs
split_tail r [] e each = rw (append-nil r) (split_alone r e)
split_tail r (q ∷ rs) e each =
    let both = and_true (list_all is_value_byte q) (list_all (list_all is_value_byte) rs) each in
    split_line r (q ++ tail_text rs) e ∙ ap (λ ls. r ∷ ls) (split_tail q rs both.0 both.1)

past : (a body : List ℕ) → drop (length a + 4) (a ++ close body) ≡ body
past [] body = refl
past (x ∷ a) body = let four : suc (length a) + 4 ≡ suc (length a + 4) = omega arith in rw (four, past a body) refl

-- the head is these lines, and the body follows it
pub record IsHead (m : Message Start) (n : ℕ) : Type 0 where
  pub ends : first_break Head (message_text m) ≡ Some n
  pub lines : split (take n (message_text m)) ≡ start_text m.start ∷ map written_line m.lines
  pub rest : drop (n + 4) (message_text m) ≡ m.body

pub heads : (m : Message Start) → MessageHasNoInjection m → (n : ℕ) × IsHead m n
heads m is =
    let first : List ℕ = start_text m.start in
    let rs : List (List ℕ) = map written_line m.lines in
    let head : List ℕ = first ++ tail_text rs in
    let each = lines_no_injection m is in
    let two = and_true (list_all is_value_byte first) (list_all (list_all is_value_byte) rs) each in
    let text : message_text m ≡ head ++ close m.body = text_is m ∙ ap (λ t. first ++ t) (tail_is rs m.body) ∙ sym (append_assoc first (tail_text rs) (close m.body)) in (
      length head,
      record {
        ends = rw text (head_is first m.lines m.body two.0 is.lines_in);
        lines = rw (text, take_at head (close m.body) (length head) refl) (split_tail first rs two.0 two.1);
        rest = rw text (past head m.body);
      },
    )

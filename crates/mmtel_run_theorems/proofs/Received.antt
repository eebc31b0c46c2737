-- What is read of bytes has no injected header fields, whatever they are: the header fields of a message, and the reply to what is refused as it is read.
use Rattle.std.proofs.Common.{◌≡◌, ◌==◌, Bool, true, false, ℕ, List, [], ◌∷◌, ◌++◌, ◌+◌, length, Option, Some, None, refl, sym, subst, arith, IfSome, Ok, Err, map, take, drop, nat_lt}
use Rattle.std.specs.Prelude.{codes, cond, if◌then◌else◌}
use Rattle.std.specs.List.{list_all}
use Rattle.std.specs.Str.{bytes_eq}
use Rattle.std.proofs.lemmas.Bool.Decides.{nat_tests}
use Rattle.std.proofs.lemmas.Option.{none-some}
use Rattle.mmtel_compose.specs.ReceivedMessages.{phrase_in}
use Rattle.mmtel_call_theorems.specs.NoInjection.Messages.{HasNoInjection, HaveNoInjection, LinesHaveNoInjection, MessageHasNoInjection, line_has_no_injection}
use Rattle.mmtel_call_theorems.proofs.NoInjection.Building.{if_lines, lines_joined, response_no_injection}
use Rattle.mmtel_call_theorems.proofs.NoInjection.Bytes.{all_cons, all_map, both, line_no_injection, line_parts}
use Rattle.mmtel_call_theorems.proofs.NoInjection.Reading.{joined_by_no_injection, texts_no_injection, trim_no_injection, values_no_injection}
use Rattle.mmtel_lex.specs.Reading.{token_at}
use Rattle.mmtel_message.specs.Expansion.{allow_text, at_first, expanded_from, expanded_lines, is_listed, lines_for, merged_text, privacy_text}
use Rattle.mmtel_message.specs.Faults.{first_fault, or_absent, fault_from, start_fault}
use Rattle.mmtel_message.specs.Fields.{five_at}
use Rattle.mmtel_message.specs.Headers.{header_at, header_line, header_of, is_value_byte, or_unnamed, trim}
use Rattle.mmtel_message.specs.Lines.{first_break, logical_lines, split, whole_end}
use Rattle.mmtel_message.specs.Message.{Line, Message, has_line, is_line, line_texts}
use Rattle.mmtel_message.specs.Names.{compact_forms, content_names, caller_names, long_name, more_compact_forms, network_names, of_forms, of_names, or_else, routing_names}
use Rattle.mmtel_message.specs.Reads.{MessageHead, Read, after_faults, after_head, head_in, head_in_lines, large_of, large_reply, limit, most_lines, read_result, read_split_at}
use Rattle.mmtel_message.specs.Replies.{bare_reply, is_answerable, reply_to, reply_with}
use Rattle.mmtel_message.specs.Starts.{request_at, request_of, start_at, start_from, status_at, status_of}
use Rattle.mmtel_message.specs.Values.{joined_by, values_in, values_of}
use Rattle.mmtel_message.specs.declared.fields.Five.{Five}
use Rattle.mmtel_message.specs.declared.lines.Break.TheVariants.{Head}
use Rattle.mmtel_message.specs.declared.messages.Start.{Start}
use Rattle.mmtel_message.specs.declared.messages.Start.TheVariants.{Request, Status}
use Rattle.mmtel_message.specs.declared.reading.ReadFault.TheVariants as fault
use Rattle.mmtel_message.specs.declared.values.Mode.{Mode}
use Rattle.mmtel_message.specs.declared.values.Mode.TheVariants.{Plain, Words}
use Rattle.mmtel_base.specs.Chain.{◌>>=◌}
use Rattle.mmtel_base.specs.Classes.{IsAll, in_class}
use Rattle.mmtel_base.specs.Numbers.{number_of}
use Rattle.mmtel_base.specs.Scanning.{after_byte, after_run, after_text, leading_run, split_once_at}
use Rattle.mmtel_base.specs.declared.classes.Class.TheVariants.{Blank, Token}
use Rattle.mmtel_base.proofs.ChainTheorems.{bind_some, some_is, unless_some, where_some}
use Rattle.mmtel_base.proofs.Runs.{and_true, run_each}

-- ---- header fields

token_byte : (b : ℕ) → in_class Token b ≡ true → is_value_byte b ≡ true
unfolding in_class
token_byte b e = grind (arith, nat_tests, e)

token_all : (s : List ℕ) → IsAll Token s → HasNoInjection s
token_all [] e = refl
token_all (b ∷ s) e =
    let halves = and_true (in_class Token b) (list_all (in_class Token) s) e in
    both (is_value_byte b) (list_all is_value_byte s) (token_byte b halves.0) (token_all s halves.1)

token_run : (s : List ℕ) → HasNoInjection (leading_run Token s)
token_run s = token_all (leading_run Token s) (run_each Token s)

or_else_no_injection : (o : Option (List ℕ)) (n : List ℕ) → IfSome o HasNoInjection → HasNoInjection n → HasNoInjection (or_else o n)
or_else_no_injection None n h g = g
or_else_no_injection (Some long) n h g = h

abbrev is_clean_form : List ℕ × List ℕ → Bool
is_clean_form x = list_all is_value_byte x.1

forms_no_injection : (forms : List (List ℕ × List ℕ)) (n : List ℕ) → list_all is_clean_form forms ≡ true → IfSome (of_forms forms n) HasNoInjection
forms_no_injection [] n e = tt
forms_no_injection (x ∷ forms) n e =
    let halves = and_true (is_clean_form x) (list_all is_clean_form forms) e in
    go _ halves.0 (forms_no_injection forms n halves.1)
  where
    go : (t : Bool) → HasNoInjection x.1 → IfSome (of_forms forms n) HasNoInjection → IfSome (if t then Some x.1 else of_forms forms n) HasNoInjection
    go true h g = h
    go false h g = g

names_no_injection : (names : List (List ℕ)) (n : List ℕ) → HaveNoInjection names → IfSome (of_names names n) HasNoInjection
names_no_injection [] n e = tt
names_no_injection (x ∷ names) n e =
    let halves = and_true (list_all is_value_byte x) (list_all (list_all is_value_byte) names) e in
    go _ halves.0 (names_no_injection names n halves.1)
  where
    go : (t : Bool) → HasNoInjection x → IfSome (of_names names n) HasNoInjection → IfSome (if t then Some x else of_names names n) HasNoInjection
    go true h g = h
    go false h g = g

long_no_injection : (n : List ℕ) → HasNoInjection n → HasNoInjection (long_name n)
long_no_injection n h =
    or_else_no_injection (of_forms compact_forms n) _ (forms_no_injection compact_forms n refl)
    (or_else_no_injection (of_forms more_compact_forms n) _ (forms_no_injection more_compact_forms n refl)
    (or_else_no_injection (of_names routing_names n) _ (names_no_injection routing_names n refl)
    (or_else_no_injection (of_names content_names n) _ (names_no_injection content_names n refl)
    (or_else_no_injection (of_names caller_names n) _ (names_no_injection caller_names n refl)
    (or_else_no_injection (of_names network_names n) _ (names_no_injection network_names n refl) h)))))

abbrev HeaderHasNoInjection : Option (List ℕ × List ℕ) → Type 0
HeaderHasNoInjection o = line_has_no_injection (or_unnamed o) ≡ true

of_no_injection : (name : List ℕ) (o : Option (List ℕ)) → HasNoInjection name → HeaderHasNoInjection (header_of name o)
of_no_injection name None h = refl
of_no_injection name (Some value) h = go (list_all is_value_byte (trim value)) refl
  where
    go : (t : Bool) → list_all is_value_byte (trim value) ≡ t → HeaderHasNoInjection (if t then Some (long_name name, trim value) else None)
    go true e = line_no_injection (long_name name) (trim value) (long_no_injection name h) e
    go false e = refl

header_no_injection : (line : List ℕ) → line_has_no_injection (header_line line) ≡ true
unfolding header_at
header_no_injection line = go (length (leading_run Token line) == 0)
  where
    go : (t : Bool) → HeaderHasNoInjection (if t then None else header_of (leading_run Token line) (after_byte 58 (after_run Blank (after_run Token line))))
    go true = refl
    go false = of_no_injection (leading_run Token line) (after_byte 58 (after_run Blank (after_run Token line))) (token_run line)

headers_no_injection : (ls : List (List ℕ)) → LinesHaveNoInjection (map header_line ls)
headers_no_injection [] = refl
headers_no_injection (l ∷ ls) = all_cons line_has_no_injection (header_line l) (map header_line ls) (header_no_injection l) (headers_no_injection ls)

-- ---- one value for each field

merged_no_injection : (m : Mode) (parting between : List ℕ) (texts : List (List ℕ)) → HasNoInjection parting → HasNoInjection between → HaveNoInjection texts → HasNoInjection (merged_text m parting between texts)
merged_no_injection m parting between texts p b e =
    trim_no_injection (joined_by between (values_in m (joined_by parting texts)))
    (joined_by_no_injection between (values_in m (joined_by parting texts)) b (values_no_injection m (joined_by parting texts) (joined_by_no_injection parting texts p e)))

first_no_injection : (name text : List ℕ) (before : List Line) (h : Line) → HasNoInjection h.0 → HasNoInjection text → LinesHaveNoInjection (at_first name text before h)
first_no_injection name text before h n e = if_lines (has_line name before) [] ((h.0, text) ∷ []) refl (all_cons line_has_no_injection (h.0, text) [] (line_no_injection h.0 text n e) refl)

for_no_injection : (privacy allow : List ℕ) (before : List Line) (h : Line) → HasNoInjection privacy → HasNoInjection allow → line_has_no_injection h ≡ true → LinesHaveNoInjection (lines_for privacy allow before h)
for_no_injection privacy allow before h p a e =
    let parts = line_parts h e in
    if_lines (length h.0 == 0) [] _ refl
    (if_lines (is_line (codes "Privacy") h) _ _ (first_no_injection (codes "Privacy") privacy before h parts.0 p)
    (if_lines (is_line (codes "Allow") h) _ _ (first_no_injection (codes "Allow") allow before h parts.0 a)
    (if_lines (is_listed h) _ _
    (all_map (list_all is_value_byte) line_has_no_injection (λ v. (h.0, v)) (λ v g. line_no_injection h.0 v parts.0 g) (values_of h.1) (values_no_injection Plain h.1 parts.1))
    (all_cons line_has_no_injection h [] e refl))))

from_no_injection : (privacy allow : List ℕ) (before hs : List Line) → HasNoInjection privacy → HasNoInjection allow → LinesHaveNoInjection hs → LinesHaveNoInjection (expanded_from privacy allow before hs)
unfolding expanded_from
from_no_injection privacy allow before [] p a e = refl
from_no_injection privacy allow before (h ∷ hs) p a e =
    let halves = and_true (line_has_no_injection h) (list_all line_has_no_injection hs) e in
    lines_joined (lines_for privacy allow before h) _ (for_no_injection privacy allow before h p a halves.0) (from_no_injection privacy allow (before ++ h ∷ []) hs p a halves.1)

pub expanded_lines_no_injection : (hs : List Line) → LinesHaveNoInjection hs → LinesHaveNoInjection (expanded_lines hs)
expanded_lines_no_injection hs e =
    from_no_injection (privacy_text hs) (allow_text hs) [] hs (merged_no_injection Words (codes ";") (codes ";") (line_texts (codes "Privacy") hs) refl refl (texts_no_injection (codes "Privacy") hs e))
    (merged_no_injection Plain (codes ",") (codes ", ") (line_texts (codes "Allow") hs) refl refl (texts_no_injection (codes "Allow") hs e)) e

-- ---- start lines

abbrev PhraseHasNoInjection : Start → Type 0
PhraseHasNoInjection s = HasNoInjection (phrase_in s)

status_phrase : (t : List ℕ) (s : Start) → status_at t ≡ Some s → PhraseHasNoInjection s
unfolding status_at
status_phrase t s e =
    let p = bind_some (split_once_at 32 t) (λ p. (cond (length p.0 == 3) (number_of 699 p.0) None) >>= λ n. status_of p.1 n) s e in
    let n = bind_some (cond (length p.0.0 == 3) (number_of 699 p.0.0) None) (λ n. status_of p.0.1 n) s p.2 in
    let g = unless_some (nat_lt n.0 100) (cond (list_all is_value_byte p.0.1) (Some (Status n.0 p.0.1)) None) s n.2 in
    let v = where_some (list_all is_value_byte p.0.1) (Some (Status n.0 p.0.1)) s g.1 in
    subst PhraseHasNoInjection (some_is (Status n.0 p.0.1) s v.1) v.0

request_phrase : (line : List ℕ) (s : Start) → request_at line ≡ Some s → PhraseHasNoInjection s
unfolding request_at
request_phrase line s e =
    let m = bind_some (token_at line) (λ m. after_byte 32 m.1 >>= λ u. split_once_at 32 u >>= λ p. request_of m.0 p.0 p.1) s e in
    let u = bind_some (after_byte 32 m.0.1) (λ u. split_once_at 32 u >>= λ p. request_of m.0.0 p.0 p.1) s m.2 in
    let p = bind_some (split_once_at 32 u.0) (λ p. request_of m.0.0 p.0 p.1) s u.2 in
    let g = unless_some (length p.0.0 == 0) (cond (bytes_eq p.0.1 (codes "SIP/2.0")) (Some (Request m.0.0 p.0.0)) None) s p.2 in
    let v = where_some (bytes_eq p.0.1 (codes "SIP/2.0")) (Some (Request m.0.0 p.0.0)) s g.1 in
    subst PhraseHasNoInjection (some_is (Request m.0.0 p.0.0) s v.1) refl

start_phrase : (line : List ℕ) (s : Start) → start_at line ≡ Some s → PhraseHasNoInjection s
unfolding start_at
start_phrase line s e = by (after_text (codes "SIP/2.0 ") line) e
  where
    by : (o : Option (List ℕ)) → start_from o line ≡ Some s → PhraseHasNoInjection s
    by None f = request_phrase line s f
    by (Some t) f = status_phrase t s f

-- ---- what was read

-- a message: its header fields, its phrase where it has one, and a Request-URI that is not malformed
pub record IsReadWell (m : Message Start) : Type 0 where
  pub lines_in : LinesHaveNoInjection m.lines
  pub phrase_in : HasNoInjection (phrase_in m.start)
  pub uri_in : start_fault m.start ≡ false

abbrev pub ReadResultHasNoInjection : Read → Type 0
ReadResultHasNoInjection (Ok m) = IsReadWell m
ReadResultHasNoInjection (Err (fault.TooLarge reply)) = IfSome reply MessageHasNoInjection
ReadResultHasNoInjection (Err fault.NotSip) = Unit {0}
ReadResultHasNoInjection (Err (fault.TooMany reply)) = IfSome reply MessageHasNoInjection
ReadResultHasNoInjection (Err (fault.Bad at reply)) = IfSome reply MessageHasNoInjection
ReadResultHasNoInjection (Err fault.NoMemory) = Unit {0}

with_no_injection : (code : ℕ) (phrase : List ℕ) (ls : List Line) → HasNoInjection phrase → LinesHaveNoInjection ls → MessageHasNoInjection (reply_with code phrase ls)
unfolding reply_with
with_no_injection code phrase ls p e = response_no_injection (Status code phrase) ls (bare_reply code phrase) e (record { phrase_in = p; tag_in = refl; contact_in = refl; passed_in = refl; named_in = refl })

reply_no_injection : (start : Start) (code : ℕ) (phrase : List ℕ) (hs : List Line) → HasNoInjection phrase → LinesHaveNoInjection hs → IfSome (reply_to start code phrase hs) MessageHasNoInjection
unfolding reply_to
reply_no_injection start code phrase hs p e = go (is_answerable start)
  where
    go : (t : Bool) → IfSome (if t then Some (reply_with code phrase (expanded_lines hs)) else None) MessageHasNoInjection
    go true = with_no_injection code phrase (expanded_lines hs) p (expanded_lines_no_injection hs e)
    go false = tt

-- a head
record HeadHasNoInjection (head : MessageHead) : Type 0 where
  lines_in : LinesHaveNoInjection head.lines
  start_in : PhraseHasNoInjection head.start

head_by : (start : Option Start) (five : Option Five) (hs : List Line) → IfSome start PhraseHasNoInjection → LinesHaveNoInjection hs →
    IfSome (start >>= λ s. five >>= λ f. Some (record { start = s; lines = hs; five = f })) HeadHasNoInjection
head_by None five hs p e = tt
head_by (Some s) None hs p e = tt
head_by (Some s) (Some f) hs p e = record { lines_in = e; start_in = p }

if_start : (o : Option Start) (P : Start → Type 0) → ((s : Start) → o ≡ Some s → P s) → IfSome o P
if_start None P f = tt
if_start (Some s) P f = f s refl

head_lines_no_injection : (ls : List (List ℕ)) → IfSome (head_in_lines ls) HeadHasNoInjection
head_lines_no_injection [] = tt
head_lines_no_injection (l ∷ ls) = head_by (start_at l) (five_at (map header_line ls)) (map header_line ls) (if_start (start_at l) PhraseHasNoInjection (start_phrase l)) (headers_no_injection ls)

large_no_injection : (o : Option MessageHead) → IfSome o HeadHasNoInjection → IfSome (large_of o) MessageHasNoInjection
large_no_injection None h = tt
large_no_injection (Some head) h = reply_no_injection head.start 513 (codes "Message Too Large") head.lines refl h.lines_in

large_reply_no_injection : (s : List ℕ) (o : Option ℕ) → IfSome (o >>= λ n. large_of (head_in (take n s))) MessageHasNoInjection
large_reply_no_injection s None = tt
large_reply_no_injection s (Some n) = large_no_injection (head_in (take n s)) (head_lines_no_injection (logical_lines (split (take n s))))

-- where nothing is wrong, the Request-URI is not malformed
no_fault : (t : Bool) (o : Option ℕ) → (if t then Some 0 else o) ≡ None → t ≡ false
no_fault true o e = absurd (none-some 0 (sym e))
no_fault false o e = refl

faults_no_injection : (start : Start) (hs : List Line) (rest : List ℕ) (o : Option ℕ) → PhraseHasNoInjection start → LinesHaveNoInjection hs → (o ≡ None → start_fault start ≡ false) →
    ReadResultHasNoInjection (after_faults start hs rest o)
faults_no_injection start hs rest (Some at) p e f = reply_no_injection start 400 (codes "Bad Request") hs refl e
faults_no_injection start hs rest None p e f = record { lines_in = expanded_lines_no_injection hs e; phrase_in = p; uri_in = f refl }

after_head_no_injection : (o : Option MessageHead) (rest : List ℕ) → IfSome o HeadHasNoInjection → ReadResultHasNoInjection (after_head o rest)
after_head_no_injection None rest h = tt
after_head_no_injection (Some head) rest h = go (nat_lt most_lines (length head.lines))
  where
    go : (t : Bool) → ReadResultHasNoInjection (if t then Err (fault.TooMany (reply_to head.start 513 (codes "Message Too Large") head.lines))
        else after_faults head.start head.lines rest (first_fault head.start head.five (length rest) head.lines))
    go true = reply_no_injection head.start 513 (codes "Message Too Large") head.lines refl h.lines_in
    go false =
        faults_no_injection head.start head.lines rest (first_fault head.start head.five (length rest) head.lines) h.start_in h.lines_in
        (λ none. no_fault (start_fault head.start) (or_absent head.start head.lines (fault_from head.start head.five (length rest) [] head.lines)) none)

split_once_at_no_injection : (s : List ℕ) (o : Option ℕ) → ReadResultHasNoInjection (read_split_at s o)
split_once_at_no_injection s None = tt
split_once_at_no_injection s (Some n) = after_head_no_injection (head_in (take n s)) (drop (n + 4) s) (head_lines_no_injection (logical_lines (split (take n s))))

pub read_result_no_injection : (s : List ℕ) → ReadResultHasNoInjection (read_result s)
read_result_no_injection s = go (nat_lt limit (length s))
  where
    go : (t : Bool) → ReadResultHasNoInjection (if t then Err (fault.TooLarge (large_reply (take limit s))) else read_split_at s (first_break Head s))
    go true = large_reply_no_injection (take limit s) (whole_end (take limit s))
    go false = split_once_at_no_injection s (first_break Head s)

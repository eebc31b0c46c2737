-- What is read of any bytes is canonical.
use Rattle.std.proofs.Common.{◌≡◌, ◌==◌, ◌&&◌, not, cond, ◌⊎◌, Bool, true, false, ℕ, ◌+◌, List, [], ◌∷◌, ◌++◌, length, take, drop, Option, Some, None, Ok, Err, refl, sym, ap, subst, ◌∙◌, inl, inr, map, codes, nat_lt}
use Rattle.std.specs.Prelude.{IfOk}
use Rattle.std.proofs.lemmas.Bool.{cases_Bool}
use Rattle.std.proofs.lemmas.List.Folds.{list_all-append}
use Rattle.std.specs.List.{list_all, flat_map}
use Rattle.mmtel_base.specs.Chain.{◌>>=◌}
use Rattle.mmtel_base.specs.Classes.{in_class}
use Rattle.mmtel_base.specs.Scanning.{leading_run, after_run, after_byte, after_text, split_once_at, without_trailing}
use Rattle.mmtel_base.specs.declared.classes.Class.TheVariants.{Blank, Token}
use Rattle.mmtel_base.proofs.ChainTheorems.{bind_some, where_some, unless_some, filled_by, some_is}
use Rattle.mmtel_base.proofs.Runs.{and_true, run_whole, run_each}
use Rattle.mmtel_base.proofs.Trims.{trimmed_takes}
use Rattle.mmtel_lex.specs.Grammar.{IsToken}
use Rattle.mmtel_lex.specs.Reading.{token_at}
use Rattle.mmtel_lex.proofs.ParamTheorems.{token_takes}
use Rattle.mmtel_message.specs.Lines.{begins_with_byte, crlf, first_break, put, split, starts_blank, continued_line, logical_lines, logical_lines_from}
use Rattle.mmtel_message.specs.Names.{long_name}
use Rattle.mmtel_message.specs.Headers.{trim, is_value_byte, header_of, header_at, header_line, or_unnamed}
use Rattle.mmtel_message.specs.Message.{Message, is_line, has_line, line_texts}
use Rattle.mmtel_message.specs.Values.{put_byte, parts, is_separator, mode_after, base, values_in, joined_by}
use Rattle.mmtel_message.specs.Starts.{start_from, start_at, request_at, request_of}
use Rattle.mmtel_message.specs.Texts.{start_text}
use Rattle.mmtel_message.specs.Fields.{five_at}
use Rattle.mmtel_message.specs.Faults.{is_method, start_fault, line_fault, fault_from, or_absent, first_fault}
use Rattle.mmtel_message.specs.Expansion.{is_listed, lines_for, expanded_from, expanded_lines, privacy_text, allow_text, merged_text}
use Rattle.mmtel_message.specs.Reads.{Read, MessageHead, body_of, message_of, head_in_lines, after_faults, after_head, after_start, read_split_at, limit, most_lines, read_result, IsReadResult}
use Rattle.mmtel_message.specs.Datagram.{IsWhole, AreApart}
use Rattle.mmtel_message.specs.Canonical.{IsCanonicalLine, AreCanonicalLines, IsCanonicalStart, IsCanonical}
use Rattle.mmtel_message.specs.declared.lines.Break.TheVariants.{Head}
use Rattle.mmtel_message.specs.declared.values.Mode.{Mode}
use Rattle.mmtel_message.specs.declared.values.Mode.TheVariants.{Plain, Words}
use Rattle.mmtel_message.specs.declared.fields.Five.{Five}
use Rattle.mmtel_message.specs.declared.messages.Start.{Start}
use Rattle.mmtel_message.proofs.LineTheorems.{and_false}
use Rattle.mmtel_message.proofs.NameTheorems.{long_fixed}
use Rattle.mmtel_message.proofs.StartTheorems.{text_again, after_text_whole}
use Rattle.mmtel_message.proofs.RoundTrip.{not_here, whole_rest, not_longer, led}
use Rattle.mmtel_message.proofs.ValueTheorems.{around, trim_again}
use Rattle.mmtel_message.proofs.ExpansionTheorems.{Clean, clean_from, clean_to, named_by, Rel, all_kept}
use Rattle.mmtel_message.proofs.CanonicalTheorems.{needs_words, five_kept, length_kept, expanded_again, body_again, body_clean}

abbrev Header : Type 0
Header = List ℕ × List ℕ

-- ---- no line end occurs within a line

shorter : (b : ℕ) (a x : List ℕ) → crlf (b ∷ (a ++ x)) ≡ false → crlf (b ∷ a) ≡ false
shorter b [] x e = and_false (b == 13)
shorter b (c ∷ a) x e = e

front_line : (a x : List ℕ) → IsWhole (a ++ x) → IsWhole a
unfolding first_break
front_line [] x e = refl
front_line (b ∷ a) x e =
    let here : crlf (b ∷ (a ++ x)) ≡ false = not_here b (a ++ x) e in
    rw (shorter b a x here, front_line a x (whole_rest b (a ++ x) e)) refl

rest_line : (a x : List ℕ) → IsWhole (a ++ x) → IsWhole x
rest_line [] x e = e
rest_line (b ∷ a) x e = rest_line a x (whole_rest b (a ++ x) e)

both_lines : (a x : List ℕ) → IsWhole a → IsWhole x → begins_with_byte 10 x ≡ false → IsWhole (a ++ x)
unfolding first_break
both_lines [] x e f g = f
both_lines (b ∷ a) x e f g = rw (not_longer b a x (not_here b a e) g, both_lines a x (whole_rest b a e) f g) refl

space_line : (s : List ℕ) → IsWhole s → IsWhole (32 ∷ s)
unfolding first_break
space_line s e = rw e refl

tail_line : (l : List ℕ) → IsWhole l → IsWhole (drop 1 l)
tail_line [] e = e
tail_line (b ∷ l) e = whole_rest b l e

no_bytes : IsWhole []
unfolding first_break
no_bytes = refl

put_lines : (b : ℕ) (ls : List (List ℕ)) → AreApart ls → AreApart (put b ls)
unfolding first_break
put_lines b [] e = (rw (and_false (b == 13)) refl, tt)
put_lines b (l ∷ ls) e =
    elim (cases_Bool (crlf (b ∷ l))) [
      | inl y ↦ rw y (no_bytes, (tail_line l e.0, e.1))
      | inr n ↦ rw n (rw (n, e.0) refl, e.1)
    ]

pub split_lines : (s : List ℕ) → AreApart (split s)
unfolding split
split_lines [] = (no_bytes, tt)
split_lines (b ∷ s) = put_lines b (split s) (split_lines s)

joined_line : (l more : List ℕ) → IsWhole l → IsWhole more → IsWhole (continued_line l more)
joined_line l more e f =
    let t = trimmed_takes Blank l in
    let front : IsWhole (without_trailing Blank l) = front_line (without_trailing Blank l) t.back (subst (λ (x : List ℕ). IsWhole x) t.whole e) in
    let rest : IsWhole (after_run Blank more) = rest_line (leading_run Blank more) (after_run Blank more) (subst (λ (x : List ℕ). IsWhole x) (run_whole Blank more) f) in
    both_lines (without_trailing Blank l) (32 ∷ after_run Blank more) front (space_line (after_run Blank more) rest) refl

unfolded_lines : (l : List ℕ) (ls : List (List ℕ)) → IsWhole l → AreApart ls → AreApart (logical_lines_from l ls)
unfolding logical_lines_from
unfolded_lines l [] e f = (e, tt)
unfolded_lines l (k ∷ ls) e f =
    elim (cases_Bool (starts_blank k)) [
      | inl y ↦ rw y (unfolded_lines (continued_line l k) ls (joined_line l k e f.0) f.1)
      | inr n ↦ rw n (e, unfolded_lines k ls f.0 f.1)
    ]

all_lines : (ls : List (List ℕ)) → AreApart ls → AreApart (logical_lines ls)
all_lines [] e = tt
all_lines (l ∷ ls) e = unfolded_lines l ls e.0 e.1

-- ---- the start line

request_led : (line : List ℕ) (s : Start) → request_at line ≡ Some s → starts_blank line ≡ false
unfolding request_at
request_led line s e =
    let m = bind_some (token_at line) (λ m. after_byte 32 m.1 >>= λ u. split_once_at 32 u >>= λ p. request_of m.0 p.0 p.1) s e in
    let t = token_takes line m.0 m.1 in
    subst (λ (x : List ℕ). starts_blank x ≡ false) (sym t.0) (led m.0.0 m.0.1 t.1.each t.1.filled)

space_led : (t : List ℕ) → starts_blank (codes "SIP/2.0 " ++ t) ≡ false
unfolding in_class
space_led t = refl

start_led_by : (o : Option (List ℕ)) (line : List ℕ) (s : Start) → after_text (codes "SIP/2.0 ") line ≡ o → start_from o line ≡ Some s → starts_blank line ≡ false
start_led_by None line s is e = request_led line s e
start_led_by (Some t) line s is e = subst (λ (x : List ℕ). starts_blank x ≡ false) (sym (after_text_whole (codes "SIP/2.0 ") line t is)) (space_led t)

canonical_start : (line : List ℕ) (s : Start) → IsWhole line → start_at line ≡ Some s → IsCanonicalStart s
unfolding start_at
canonical_start line s whole e =
    let same : start_text s ≡ line = text_again line s e in
    record {
      reads_back = ap (λ (x : List ℕ). start_at x) same ∙ e;
      one_line = subst (λ (x : List ℕ). IsWhole x) (sym same) whole;
      not_folded = subst (λ (x : List ℕ). starts_blank x ≡ false) (sym same) (start_led_by (after_text (codes "SIP/2.0 ") line) line s refl e);
    }

-- ---- header lines

-- a canonical line, or one without a name
abbrev IsReadLine : Header → Type 0
IsReadLine h = (h ≡ ([], [])) ⊎ IsCanonicalLine h

header_takes : (name : List ℕ) (o : Option (List ℕ)) (h : Header) → IsToken name → header_of name o ≡ Some h → IsCanonicalLine h
header_takes name None h token e = absurd cc
header_takes name (Some value) h token e =
    let made : Header = (long_name name, trim value) in
    let w = where_some (list_all is_value_byte (trim value)) (Some (long_name name, trim value)) h e in
    let is : made ≡ h = some_is made h w.1 in
    let fixed = long_fixed name token in
    subst (λ (x : Header). IsCanonicalLine x) is (record { name_in = fixed.token; spelled = fixed.spelled; trimmed = trim_again value; value_in = w.0 })

header_read : (line : List ℕ) (h : Header) → header_at line ≡ Some h → IsCanonicalLine h
unfolding header_at
header_read line h e =
    let u = unless_some (length (leading_run Token line) == 0) (header_of (leading_run Token line) (after_byte 58 (after_run Blank (after_run Token line)))) h e in
    header_takes (leading_run Token line) (after_byte 58 (after_run Blank (after_run Token line))) h (record { filled = filled_by (length (leading_run Token line)) u.0; each = run_each Token line }) u.1

read_by : (line : List ℕ) (o : Option Header) → header_at line ≡ o → IsReadLine (or_unnamed o)
read_by line None e = inl refl
read_by line (Some h) e = inr (header_read line h e)

abbrev AreReadLines : List Header → Type 0
AreReadLines [] = Unit {0}
AreReadLines (h ∷ hs) = IsReadLine h × AreReadLines hs

all_read : (ls : List (List ℕ)) → AreReadLines (map header_line ls)
all_read [] = tt
all_read (l ∷ ls) = (read_by l (header_at l) refl, all_read ls)

-- ---- the bytes of values

abbrev IsText : List ℕ → Type 0
IsText s = list_all is_value_byte s ≡ true

abbrev are_texts : List (List ℕ) → Bool
are_texts vs = list_all (λ v. list_all is_value_byte v) vs

both_texts : (a b : List ℕ) → IsText (a ++ b) → IsText a × IsText b
both_texts a b e = and_true (list_all is_value_byte a) (list_all is_value_byte b) (sym (list_all-append is_value_byte a b) ∙ e)

more_text : (a b : List ℕ) → IsText a → IsText b → IsText (a ++ b)
more_text a b e f = rw (list_all-append is_value_byte a b, e, f) refl

trim_text : (s : List ℕ) → IsText s → IsText (trim s)
trim_text s e =
    let a = around s in
    let whole : IsText (a.front ++ (trim s ++ a.back)) = subst (λ (x : List ℕ). IsText x) a.whole e in
    (both_texts (trim s) a.back (both_texts a.front (trim s ++ a.back) whole).1).0

put_texts : (b : ℕ) (ps : List (List ℕ)) → is_value_byte b ≡ true → are_texts ps ≡ true → are_texts (put_byte b ps) ≡ true
put_texts b [] e f = rw e refl
put_texts b (p ∷ ps) e f = let both = and_true (list_all is_value_byte p) (are_texts ps) f in rw (e, both.0, both.1) refl

parts_texts : (m : Mode) (s : List ℕ) → IsText s → are_texts (parts m s) ≡ true
unfolding parts
parts_texts m [] e = refl
parts_texts m (b ∷ s) e =
    let both = and_true (is_value_byte b) (list_all is_value_byte s) e in
    elim (cases_Bool (is_separator m b)) [
      | inl y ↦ rw y (parts_texts (base m) s both.1)
      | inr n ↦ rw n (put_texts b (parts (mode_after m b) s) both.0 (parts_texts (mode_after m b) s both.1))
    ]

trim_texts : (ps : List (List ℕ)) → are_texts ps ≡ true → are_texts (map trim ps) ≡ true
trim_texts [] e = refl
trim_texts (p ∷ ps) e =
    let both = and_true (list_all is_value_byte p) (are_texts ps) e in
    rw (trim_text p both.0, trim_texts ps both.1) refl

tail_texts : (between : List ℕ) (vs : List (List ℕ)) → IsText between → are_texts vs ≡ true → IsText (flat_map (λ w. between ++ w) vs)
tail_texts between [] e f = refl
tail_texts between (v ∷ vs) e f =
    let both = and_true (list_all is_value_byte v) (are_texts vs) f in
    more_text (between ++ v) (flat_map (λ w. between ++ w) vs) (more_text between v e both.0) (tail_texts between vs e both.1)

joined_text : (between : List ℕ) (vs : List (List ℕ)) → IsText between → are_texts vs ≡ true → IsText (joined_by between vs)
joined_text between [] e f = refl
joined_text between (v ∷ vs) e f =
    let both = and_true (list_all is_value_byte v) (are_texts vs) f in
    more_text v (flat_map (λ w. between ++ w) vs) both.0 (tail_texts between vs e both.1)

-- a value that may occur in a canonical line
abbrev IsValueText : List ℕ → Type 0
IsValueText s = (trim s ≡ s) × IsText s

merged_is : (k : Mode) (parting between : List ℕ) (texts : List (List ℕ)) → IsText parting → IsText between → are_texts texts ≡ true → IsValueText (merged_text k parting between texts)
merged_is k parting between texts e f g =
    let whole : List ℕ = joined_by parting texts in
    let values : are_texts (values_in k whole) ≡ true = trim_texts (parts k whole) (parts_texts k whole (joined_text parting texts e g)) in
    (trim_again (joined_by between (values_in k whole)), trim_text (joined_by between (values_in k whole)) (joined_text between (values_in k whole) f values))

value_of : (h : Header) → IsReadLine h → IsText h.1
value_of h (inl e) = rw e refl
value_of h (inr is) = is.value_in

line_texts_are : (X : List ℕ) (hs : List Header) → AreReadLines hs → are_texts (line_texts X hs) ≡ true
line_texts_are X [] e = refl
line_texts_are X (h ∷ hs) e =
    elim (cases_Bool (is_line X h)) [
      | inl y ↦ rw (y, value_of h e.0, line_texts_are X hs e.1) refl
      | inr n ↦ rw n (line_texts_are X hs e.1)
    ]

-- ---- canonical lines

lines_append : (xs ys : List Header) → AreCanonicalLines xs → AreCanonicalLines ys → AreCanonicalLines (xs ++ ys)
lines_append [] ys e f = f
lines_append (x ∷ xs) ys e f = (e.0, lines_append xs ys e.1 f)

with_value : (h : Header) (v : List ℕ) → IsCanonicalLine h → IsValueText v → IsCanonicalLine (h.0, v)
with_value h v is e = record { name_in = is.name_in; spelled = is.spelled; trimmed = e.0; value_in = e.1 }

values_lines : (h : Header) (ps : List (List ℕ)) → IsCanonicalLine h → are_texts ps ≡ true → AreCanonicalLines (map (λ (v : List ℕ). (h.0, v)) (map trim ps))
values_lines h [] is e = tt
values_lines h (p ∷ ps) is e =
    let both = and_true (list_all is_value_byte p) (are_texts ps) e in
    (with_value h (trim p) is (trim_again p, trim_text p both.0), values_lines h ps is both.1)

lines_for_are : (p a : List ℕ) (B : List Header) (h : Header) → IsValueText p → IsValueText a → IsCanonicalLine h → AreCanonicalLines (lines_for p a B h)
lines_for_are p a B h ep ea is =
    elim (cases_Bool (length h.0 == 0)) [
      | inl y ↦ rw y tt
      | inr f ↦ elim (cases_Bool (is_line (codes "Privacy") h)) [
        | inl y ↦ elim (cases_Bool (has_line (codes "Privacy") B)) [ inl z ↦ rw (f, y, z) tt | inr z ↦ rw (f, y, z) (with_value h p is ep, tt) ]
        | inr x ↦ elim (cases_Bool (is_line (codes "Allow") h)) [
          | inl y ↦ elim (cases_Bool (has_line (codes "Allow") B)) [ inl z ↦ rw (f, x, y, z) tt | inr z ↦ rw (f, x, y, z) (with_value h a is ea, tt) ]
          | inr y ↦ elim (cases_Bool (is_listed h)) [
            | inl l ↦ rw (f, x, y, l) (values_lines h (parts Plain h.1) is (parts_texts Plain h.1 is.value_in))
            | inr l ↦ rw (f, x, y, l) (is, tt)
          ]
        ]
      ]
    ]

canonical_of : (start : Start) (five : Five) (room : ℕ) (B : List Header) (h : Header) → line_fault start five room B h ≡ false → IsReadLine h → IsCanonicalLine h
canonical_of start five room B h e (inr is) = is
canonical_of start five room B h e (inl empty) =
    let none : (length h.0 == 0) ≡ true = rw empty refl in
    let f : true ≡ false = sym none ∙ named_by start five room B h e in
    absurd cc

expanded_are : (start : Start) (five : Five) (room : ℕ) (p a : List ℕ) (B hs : List Header) → IsValueText p → IsValueText a → AreReadLines hs → Clean start five room B hs → AreCanonicalLines (expanded_from p a B hs)
unfolding expanded_from
expanded_are start five room p a B [] ep ea read e = tt
expanded_are start five room p a B (h ∷ hs) ep ea read e =
    lines_append (lines_for p a B h) (expanded_from p a (B ++ h ∷ []) hs) (lines_for_are p a B h ep ea (canonical_of start five room B h e.0 read.0)) (expanded_are start five room p a (B ++ h ∷ []) hs ep ea read.1 e.1)

-- ---- the message

none_of_cond : (b : Bool) (n : ℕ) → cond b (Some n) None ≡ None → b ≡ false
none_of_cond true n e = absurd cc
none_of_cond false n e = refl

pub absent_parts : (start : Start) (hs : List Header) (o : Option ℕ) → or_absent start hs o ≡ None → (o ≡ None) × ((is_method (codes "INVITE") start && not (has_line (codes "Contact") hs)) ≡ false)
absent_parts start hs (Some n) e = absurd cc
absent_parts start hs None e = (refl, none_of_cond (is_method (codes "INVITE") start && not (has_line (codes "Contact") hs)) (length hs + 1) e)

pub fault_parts : (start : Start) (five : Five) (room : ℕ) (hs : List Header) → first_fault start five room hs ≡ None → (start_fault start ≡ false) × (or_absent start hs (fault_from start five room [] hs) ≡ None)
fault_parts start five room hs e =
    elim (cases_Bool (start_fault start)) [
      | inl y ↦ let f = rw y at e in absurd cc
      | inr n ↦ (n, rw n at e)
    ]

same_rel : Rel [] []
same_rel = record { has = λ X. refl; hist = refl }

canonical_message : (start : Start) (five : Five) (line : List ℕ) (hs : List Header) (rest : List ℕ) → IsWhole line → start_at line ≡ Some start → AreReadLines hs → five_at hs ≡ Some five →
    first_fault start five (length rest) hs ≡ None → IsCanonical (message_of start hs rest)
canonical_message start five line hs rest whole is read found e =
    let p : List ℕ = privacy_text hs in
    let a : List ℕ = allow_text hs in
    let f = fault_parts start five (length rest) hs e in
    let o = absent_parts start hs (fault_from start five (length rest) [] hs) f.1 in
    let clean = clean_from start five (length rest) [] hs o.0 in
    let words = needs_words start five (length rest) hs clean in
    let k = all_kept start five (length rest) p a [] [] hs same_rel clean words in
    let body : List ℕ = body_of hs rest in
    let fits = body_clean start five hs rest clean in
    let k' = all_kept start five (length body) p a [] [] hs same_rel fits words in
    let here : fault_from start five (length body) [] (expanded_lines hs) ≡ None = clean_to start five (length body) [] (expanded_lines hs) k'.clean in
    let contact : has_line (codes "Contact") (expanded_lines hs) ≡ has_line (codes "Contact") hs = k.rel.has (codes "Contact") in
    let privacy_is = merged_is Words (codes ";") (codes ";") (line_texts (codes "Privacy") hs) refl refl (line_texts_are (codes "Privacy") hs read) in
    let allow_is = merged_is Plain (codes ",") (codes ", ") (line_texts (codes "Allow") hs) refl refl (line_texts_are (codes "Allow") hs read) in
    record {
      start_in = canonical_start line start whole is;
      lines_in = expanded_are start five (length rest) p a [] hs privacy_is allow_is read clean;
      single = expanded_again start five (length rest) hs clean k.same;
      sound = record { five = five; five_in = five_kept p a start five (length rest) hs clean ∙ found; faultless = rw (f.0, here, contact, o.1) refl };
      whole_body = body_again hs (expanded_lines hs) rest (length_kept p a start five (length rest) hs clean);
    }

-- ---- reading

abbrev pub good : Message Start → Read
good m = Ok m

pub ok_is : (m n : Message Start) → good m ≡ good n → m ≡ n
ok_is m n e = cc

of_faults : (start : Start) (five : Five) (line : List ℕ) (hs : List Header) (rest : List ℕ) (m : Message Start) (o : Option ℕ) → IsWhole line → start_at line ≡ Some start → AreReadLines hs →
    five_at hs ≡ Some five → first_fault start five (length rest) hs ≡ o → after_faults start hs rest o ≡ Ok m → IsCanonical m
of_faults start five line hs rest m (Some n) whole is read found none e = absurd cc
of_faults start five line hs rest m None whole is read found none e =
    subst (λ (x : Message Start). IsCanonical x) (ok_is (message_of start hs rest) m e) (canonical_message start five line hs rest whole is read found none)

-- a head with these fields
abbrev pub with_five : Start → List Header → Option Five → Option MessageHead
with_five start hs o = o >>= λ five. Some (record { start = start; lines = hs; five = five })

of_lines : (start : Start) (line : List ℕ) (hs : List Header) (rest : List ℕ) (m : Message Start) (o : Option Five) → IsWhole line → start_at line ≡ Some start → AreReadLines hs → five_at hs ≡ o →
    after_head (with_five start hs o) rest ≡ Ok m → IsCanonical m
of_lines start line hs rest m None whole is read found e = absurd cc
of_lines start line hs rest m (Some five) whole is read found e =
    elim (cases_Bool (nat_lt most_lines (length hs))) [
      | inl y ↦ let f = rw y at e in absurd cc
      | inr n ↦ of_faults start five line hs rest m (first_fault start five (length rest) hs) whole is read found refl (rw n at e)
    ]

of_start : (line : List ℕ) (hs : List Header) (rest : List ℕ) (m : Message Start) (o : Option Start) → IsWhole line → start_at line ≡ o → AreReadLines hs → after_start hs rest o ≡ Ok m → IsCanonical m
of_start line hs rest m None whole is read e = absurd cc
of_start line hs rest m (Some start) whole is read e = of_lines start line hs rest m (five_at hs) whole is read refl e

of_head : (ls : List (List ℕ)) (rest : List ℕ) (m : Message Start) → AreApart ls → after_head (head_in_lines ls) rest ≡ Ok m → IsCanonical m
of_head [] rest m each e = absurd cc
of_head (l ∷ ls) rest m each e = of_start l (map header_line ls) rest m (start_at l) each.0 refl (all_read ls) e

of_bytes : (s : List ℕ) (m : Message Start) (o : Option ℕ) → read_split_at s o ≡ Ok m → IsCanonical m
of_bytes s m None e = absurd cc
of_bytes s m (Some n) e = of_head (logical_lines (split (take n s))) (drop (n + 4) s) m (all_lines (split (take n s)) (split_lines (take n s))) e

pub canonical : (s : List ℕ) (m : Message Start) → read_result s ≡ Ok m → IsCanonical m
canonical s m e =
    elim (cases_Bool (nat_lt limit (length s))) [
      | inl y ↦ let f = rw y at e in absurd cc
      | inr n ↦ of_bytes s m (first_break Head s) (rw n at e)
    ]

pub canonical_read : (s : List ℕ) (r : Read) → IsReadResult r (read_result s) → IfOk r (λ m. IsCanonical m)
canonical_read s (Ok m) e = canonical s m e
canonical_read s (Err f) e = tt

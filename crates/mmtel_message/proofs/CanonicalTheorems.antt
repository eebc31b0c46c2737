-- Each message that is read is canonical.
use Rattle.std.proofs.Common.{◌≡◌, ◌==◌, ◌||◌, Bool, true, false, ℕ, ◌<◌, ◌≤◌, List, [], ◌∷◌, ◌++◌, length, take, Option, Some}
use Rattle.std.proofs.Common.{None, refl, sym, ap, subst, ◌∙◌, inl, inr, map, arith, append-nil, codes, count_by, length-take}
use Rattle.std.specs.Prelude.{if◌then◌else◌, is_none}
use Rattle.std.proofs.lemmas.Bool.{cases_Bool}
use Rattle.std.proofs.lemmas.List.{take_all}
use Rattle.std.proofs.lemmas.List.Sums.{length-filter}
use Rattle.std.proofs.lemmas.List.Elements.{filter-append}
use Rattle.std.proofs.lemmas.List.{map-append}
use Rattle.std.proofs.lemmas.List.Folds.{list_all-append}
use Rattle.std.specs.List.{list_all}
use Rattle.std.specs.Str.{str_to_ascii_lowercase}
use Rattle.mmtel_base.specs.Chain.{◌>>=◌}
use Rattle.mmtel_base.specs.Numbers.{number_of}
use Rattle.mmtel_base.specs.Classes.{in_class, IsAll}
use Rattle.mmtel_base.specs.declared.classes.Class.TheVariants.{Blank}
use Rattle.mmtel_base.proofs.Runs.{and_true}
use Rattle.mmtel_base.proofs.NumberTheorems.{number_takes, number_again}
use Rattle.mmtel_message.specs.Headers.{trim}
use Rattle.mmtel_message.specs.Message.{is_line, has_line, lines_named, first_value, line_texts}
use Rattle.mmtel_message.specs.Values.{put_byte, next_separator, parts, is_separator, base, values_in, values_of, joined_by}
use Rattle.mmtel_message.specs.Faults.{are_words, is_word, line_fault}
use Rattle.mmtel_message.specs.Fields.{only_value, first_part, via_at, five_at, via_in, parties_in, call_in}
use Rattle.mmtel_message.specs.Reads.{cut_body, body_of}
use Rattle.mmtel_message.specs.Expansion.{is_listed, lines_for, expanded_from, expanded_lines, privacy_text, allow_text, merged_text}
use Rattle.mmtel_message.specs.declared.values.Mode.{Mode}
use Rattle.mmtel_message.specs.declared.values.Mode.TheVariants.{Plain, Words}
use Rattle.mmtel_message.specs.declared.fields.Five.{Five}
use Rattle.mmtel_message.specs.declared.messages.Start.{Start}
use Rattle.mmtel_message.proofs.CommaTheorems.{parts_none}
use Rattle.mmtel_message.proofs.ValueTheorems.{parts_is_cons, parts_closed, merged_values, merged_again, trim_again, trim_whole}
use Rattle.mmtel_message.proofs.ExpansionTheorems.{Line, Clean, line_named, not_false, named_by, NeedsWords, has_more}
use Rattle.mmtel_message.proofs.WalkTheorems.{first_named, head_value}

-- ---- the words of Privacy

put_append : (b : ℕ) (p : List ℕ) (ps qs : List (List ℕ)) → put_byte b ((p ∷ ps) ++ qs) ≡ put_byte b (p ∷ ps) ++ qs
put_append b p ps qs = refl

put_both : (b : ℕ) (ps qs : List (List ℕ)) (c : (p : List ℕ) × (rest : List (List ℕ)) × (ps ≡ p ∷ rest)) → put_byte b (ps ++ qs) ≡ put_byte b ps ++ qs
put_both b ps qs c = rw c.2 refl

words_part : (s t : List ℕ) → parts Words (s ++ 59 ∷ t) ≡ parts Words s ++ parts Words t
unfolding parts
words_part [] t = refl
words_part (b ∷ s) t =
    elim (cases_Bool (b == 59)) [
      | inl y ↦ rw (y, words_part s t) refl
      | inr n ↦ rw (n, words_part s t) (put_both b (parts Words s) (parts Words t) (parts_is_cons Words s))
    ]

words_append : (s t : List ℕ) → values_in Words (s ++ 59 ∷ t) ≡ values_in Words s ++ values_in Words t
words_append s t = ap (λ (l : List (List ℕ)). map trim l) (words_part s t) ∙ map-append trim (parts Words s) (parts Words t)

abbrev has_words : List ℕ → Bool
has_words t = are_words (values_in Words t)

words_from : (t : List ℕ) (ts : List (List ℕ)) → has_words t ≡ true → list_all has_words ts ≡ true → has_words (joined_by (codes ";") (t ∷ ts)) ≡ true
words_from t [] e f = rw (append-nil t) e
words_from t (u ∷ ts) e f =
    let both = and_true (has_words u) (list_all has_words ts) f in
    let rest = words_from u ts both.0 both.1 in
    let split = words_append t (joined_by (codes ";") (u ∷ ts)) in
    rw (split, list_all-append is_word (values_in Words t) (values_in Words (joined_by (codes ";") (u ∷ ts))), e, rest) refl

words_joined : (ts : List (List ℕ)) → 0 < length ts → list_all has_words ts ≡ true → has_words (joined_by (codes ";") ts) ≡ true
words_joined [] filled e = absurd (omega arith)
words_joined (t ∷ ts) filled e = let both = and_true (has_words t) (list_all has_words ts) e in words_from t ts both.0 both.1

texts_filled : (X : List ℕ) (hs : List Line) → has_line X hs ≡ true → 0 < length (line_texts X hs)
texts_filled X [] e = absurd cc
texts_filled X (h ∷ hs) e =
    elim (cases_Bool (is_line X h)) [
      | inl y ↦ rw y (omega arith)
      | inr n ↦ rw n (texts_filled X hs (rw n at e))
    ]

privacy_of : (start : Start) (five : Five) (room : ℕ) (B : List Line) (h : Line) → line_fault start five room B h ≡ false → is_line (codes "Privacy") h ≡ true → has_words h.1 ≡ true
privacy_of start five room B h e y =
    let q : str_to_ascii_lowercase h.0 ≡ codes "privacy" = line_named (codes "Privacy") h y in
    not_false (has_words h.1) (rw (named_by start five room B h e, q) at e)

words_all : (start : Start) (five : Five) (room : ℕ) (B hs : List Line) → Clean start five room B hs → list_all has_words (line_texts (codes "Privacy") hs) ≡ true
words_all start five room B [] e = refl
words_all start five room B (h ∷ hs) e =
    elim (cases_Bool (is_line (codes "Privacy") h)) [
      | inl y ↦ rw (y, privacy_of start five room B h e.0 y, words_all start five room (B ++ h ∷ []) hs e.1) refl
      | inr n ↦ rw n (words_all start five room (B ++ h ∷ []) hs e.1)
    ]

pub needs_words : (start : Start) (five : Five) (room : ℕ) (hs : List Line) → Clean start five room [] hs → NeedsWords (privacy_text hs) hs
needs_words start five room hs e there =
    let texts : List (List ℕ) = line_texts (codes "Privacy") hs in
    let same : values_in Words (privacy_text hs) ≡ values_in Words (joined_by (codes ";") texts) = merged_values Words 59 59 [] texts refl refl refl in
    ap (λ (vs : List (List ℕ)). are_words vs) same ∙ words_joined texts (texts_filled (codes "Privacy") hs there) (words_all start five room [] hs e)

-- ---- the lines of one name among those that are expanded

none_of : (X n : List ℕ) (vs : List (List ℕ)) → is_line X (n, []) ≡ false → lines_named X (map (λ (v : List ℕ). (n, v)) vs) ≡ []
none_of X n [] e = refl
none_of X n (v ∷ vs) e = rw e (none_of X n vs e)

-- a line of another name is replaced by lines of other names
pub named_other : (X p a : List ℕ) (B : List Line) (h : Line) → is_line X h ≡ false → lines_named X (lines_for p a B h) ≡ []
named_other X p a B h e =
    elim (cases_Bool (length h.0 == 0)) [
      | inl y ↦ rw y refl
      | inr f ↦ elim (cases_Bool (is_line (codes "Privacy") h)) [
        | inl y ↦ elim (cases_Bool (has_line (codes "Privacy") B)) [ inl z ↦ rw (f, y, z) refl | inr z ↦ rw (f, y, z, e) refl ]
        | inr x ↦ elim (cases_Bool (is_line (codes "Allow") h)) [
          | inl y ↦ elim (cases_Bool (has_line (codes "Allow") B)) [ inl z ↦ rw (f, x, y, z) refl | inr z ↦ rw (f, x, y, z, e) refl ]
          | inr y ↦ elim (cases_Bool (is_listed h)) [
            | inl l ↦ rw (f, x, y, l) (none_of X h.0 (values_of h.1) e)
            | inr l ↦ rw (f, x, y, l, e) refl
          ]
        ]
      ]
    ]

-- names whose lines are not changed by expansion
abbrev IsPlainName : List ℕ → Type 0
IsPlainName X = (p a : List ℕ) (B : List Line) (h : Line) → (length h.0 == 0) ≡ false → is_line X h ≡ true → lines_for p a B h ≡ h ∷ []

from_plain : IsPlainName (codes "From")
from_plain p a B h named y = let q : str_to_ascii_lowercase h.0 ≡ codes "from" = line_named (codes "From") h y in rw (named, q) refl

to_plain : IsPlainName (codes "To")
to_plain p a B h named y = let q : str_to_ascii_lowercase h.0 ≡ codes "to" = line_named (codes "To") h y in rw (named, q) refl

id_plain : IsPlainName (codes "Call-ID")
id_plain p a B h named y = let q : str_to_ascii_lowercase h.0 ≡ codes "call-id" = line_named (codes "Call-ID") h y in rw (named, q) refl

cseq_plain : IsPlainName (codes "CSeq")
cseq_plain p a B h named y = let q : str_to_ascii_lowercase h.0 ≡ codes "cseq" = line_named (codes "CSeq") h y in rw (named, q) refl

length_plain : IsPlainName (codes "Content-Length")
length_plain p a B h named y = let q : str_to_ascii_lowercase h.0 ≡ codes "content-length" = line_named (codes "Content-Length") h y in rw (named, q) refl

named_kept : (X p a : List ℕ) (start : Start) (five : Five) (room : ℕ) (B hs : List Line) → IsPlainName X → Clean start five room B hs → lines_named X (expanded_from p a B hs) ≡ lines_named X hs
unfolding expanded_from
named_kept X p a start five room B [] plain e = refl
named_kept X p a start five room B (h ∷ hs) plain e =
    let more = named_kept X p a start five room (B ++ h ∷ []) hs plain e.1 in
    let cut = filter-append (λ (l : Line). is_line X l) (lines_for p a B h) (expanded_from p a (B ++ h ∷ []) hs) in
    elim (cases_Bool (is_line X h)) [
      | inl y ↦ cut ∙ rw (plain p a B h (named_by start five room B h e.0) y, y, more) refl
      | inr n ↦ cut ∙ rw (named_other X p a B h n, n, more) refl
    ]

pub count_named : (X : List ℕ) (ls : List Line) → count_by (λ l. is_line X l) ls ≡ length (lines_named X ls)
count_named X ls = sym (length-filter (λ (l : Line). is_line X l) ls)

abbrev pub only_of : List Line → Option (List ℕ)
only_of ls = if length ls == 1 then head_value ls else None

pub only_named : (X : List ℕ) (ls : List Line) → only_value X ls ≡ only_of (lines_named X ls)
only_named X ls = rw (count_named X ls, first_named X ls) refl

pub only_kept : (X : List ℕ) (ls hs : List Line) → lines_named X ls ≡ lines_named X hs → only_value X ls ≡ only_value X hs
only_kept X ls hs e = only_named X ls ∙ (ap (λ (x : List Line). only_of x) e ∙ sym (only_named X hs))

pub first_kept : (X : List ℕ) (ls hs : List Line) → lines_named X ls ≡ lines_named X hs → first_value X ls ≡ first_value X hs
first_kept X ls hs e = first_named X ls ∙ (ap (λ (x : List Line). head_value x) e ∙ sym (first_named X hs))

-- ---- the first Via

first_over : (X : List ℕ) (N R : List Line) → lines_named X N ≡ [] → first_value X (N ++ R) ≡ first_value X R
first_over X [] R e = refl
first_over X (l ∷ N) R e =
    elim (cases_Bool (is_line X l)) [
      | inl y ↦ let f = rw y at e in absurd cc
      | inr n ↦ rw n (first_over X N R (rw n at e))
    ]

part_again : (s : List ℕ) (q : List ℕ) (qs : List (List ℕ)) → parts Plain s ≡ q ∷ qs → first_part (trim q) ≡ first_part s
part_again s q qs e =
    let closed = parts_closed Plain s in
    let whole : next_separator Plain q ≡ None = (rw e at closed).0 in
    rw (parts_none Plain (trim q) (trim_whole Plain q refl whole), e) (trim_again q)

via_from : (p a : List ℕ) (start : Start) (five : Five) (room : ℕ) (B hs : List Line) → Clean start five room B hs → via_in (expanded_from p a B hs) ≡ via_in hs
unfolding expanded_from
via_from p a start five room B [] e = refl
via_from p a start five room B (h ∷ hs) e =
    elim (cases_Bool (is_line (codes "Via") h)) [
      | inl y ↦
          let q : str_to_ascii_lowercase h.0 ≡ codes "via" = line_named (codes "Via") h y in
          let c = parts_is_cons Plain h.1 in
          let named = named_by start five room B h e.0 in
          let listed : lines_for p a B h ≡ (h.0, trim c.0) ∷ map (λ (v : List ℕ). (h.0, v)) (map trim c.1) = rw (named, q, c.2) refl in
          rw (listed, y) (ap (λ (s : List ℕ). via_at s) (part_again h.1 c.0 c.1 c.2))
      | inr n ↦
          rw (first_over (codes "Via") (lines_for p a B h) (expanded_from p a (B ++ h ∷ []) hs) (named_other (codes "Via") p a B h n), n) (via_from p a start five room (B ++ h ∷ []) hs e.1)
    ]

-- the five fields stay as they are
pub five_kept : (p a : List ℕ) (start : Start) (five : Five) (room : ℕ) (hs : List Line) → Clean start five room [] hs → five_at (expanded_from p a [] hs) ≡ five_at hs
unfolding five_at parties_in call_in
five_kept p a start five room hs e =
    let L : List Line = expanded_from p a [] hs in
    rw (
      via_from p a start five room [] hs e,
      only_kept (codes "From") L hs (named_kept (codes "From") p a start five room [] hs from_plain e),
      only_kept (codes "To") L hs (named_kept (codes "To") p a start five room [] hs to_plain e),
      only_kept (codes "Call-ID") L hs (named_kept (codes "Call-ID") p a start five room [] hs id_plain e),
      only_kept (codes "CSeq") L hs (named_kept (codes "CSeq") p a start five room [] hs cseq_plain e),
    ) refl

pub length_kept : (p a : List ℕ) (start : Start) (five : Five) (room : ℕ) (hs : List Line) → Clean start five room [] hs →
    first_value (codes "Content-Length") (expanded_from p a [] hs) ≡ first_value (codes "Content-Length") hs
length_kept p a start five room hs e =
    first_kept (codes "Content-Length") (expanded_from p a [] hs) hs (named_kept (codes "Content-Length") p a start five room [] hs length_plain e)

-- ---- the texts of Privacy and Allow

abbrev once : Bool → Bool → List ℕ → List (List ℕ)
once before there text = if before then [] else if there then text ∷ [] else []

pub texts_over : (X : List ℕ) (N R : List Line) → line_texts X (N ++ R) ≡ line_texts X N ++ line_texts X R
texts_over X N R = ap (λ (x : List Line). map (λ (l : Line). l.1) x) (filter-append (λ (l : Line). is_line X l) N R) ∙ map-append (λ (l : Line). l.1) (lines_named X N) (lines_named X R)

-- a name whose first line is replaced by this text, and further ones by nothing
abbrev IsOnce : List ℕ → List ℕ → List ℕ → List ℕ → Type 0
IsOnce X p a text = (B : List Line) (h : Line) → (length h.0 == 0) ≡ false → is_line X h ≡ true → line_texts X (lines_for p a B h) ≡ (if has_line X B then [] else text ∷ [])

privacy_once : (p a : List ℕ) → IsOnce (codes "Privacy") p a p
privacy_once p a B h named y =
    elim (cases_Bool (has_line (codes "Privacy") B)) [ inl z ↦ rw (named, y, z) refl | inr z ↦ rw (named, y, z, y) refl ]

allow_once : (p a : List ℕ) → IsOnce (codes "Allow") p a a
allow_once p a B h named y =
    let q : str_to_ascii_lowercase h.0 ≡ codes "allow" = line_named (codes "Allow") h y in
    let x : is_line (codes "Privacy") h ≡ false = rw q refl in
    elim (cases_Bool (has_line (codes "Allow") B)) [ inl z ↦ rw (named, x, y, z) refl | inr z ↦ rw (named, x, y, z, y) refl ]

has_after : (X : List ℕ) (B : List Line) (h : Line) → has_line X (B ++ h ∷ []) ≡ (has_line X B || is_line X h)
has_after X B h = has_more X B h

texts_once : (X p a text : List ℕ) (start : Start) (five : Five) (room : ℕ) (B hs : List Line) → IsOnce X p a text → Clean start five room B hs →
    line_texts X (expanded_from p a B hs) ≡ once (has_line X B) (has_line X hs) text
unfolding expanded_from
texts_once X p a text start five room B [] is e = elim (cases_Bool (has_line X B)) [ inl y ↦ rw y refl | inr n ↦ rw n refl ]
texts_once X p a text start five room B (h ∷ hs) is e =
    let more = texts_once X p a text start five room (B ++ h ∷ []) hs is e.1 in
    let cut = texts_over X (lines_for p a B h) (expanded_from p a (B ++ h ∷ []) hs) in
    elim (cases_Bool (is_line X h)) [
      | inl y ↦
          let here = is B h (named_by start five room B h e.0) y in
          elim (cases_Bool (has_line X B)) [
            | inl z ↦ cut ∙ rw (here, more, has_after X B h, z) refl
            | inr z ↦ cut ∙ rw (here, more, has_after X B h, z, y) refl
          ]
      | inr n ↦
          let none : line_texts X (lines_for p a B h) ≡ [] = ap (λ (x : List Line). map (λ (l : Line). l.1) x) (named_other X p a B h n) in
          elim (cases_Bool (has_line X B)) [
            | inl z ↦ cut ∙ rw (none, more, has_after X B h, z) refl
            | inr z ↦ cut ∙ rw (none, more, has_after X B h, z, n) refl
          ]
    ]

no_texts : (X : List ℕ) (hs : List Line) → has_line X hs ≡ false → line_texts X hs ≡ []
no_texts X [] e = refl
no_texts X (h ∷ hs) e =
    elim (cases_Bool (is_line X h)) [
      | inl y ↦ let f = rw y at e in absurd cc
      | inr n ↦ rw n (no_texts X hs (rw n at e))
    ]

-- merged lines are not changed by merging
merged_kept : (k : Mode) (c d : ℕ) (blanks X p a : List ℕ) (start : Start) (five : Five) (room : ℕ) (hs : List Line) → base k ≡ k →
    is_separator k c ≡ true → IsAll Blank blanks → IsOnce X p a (merged_text k (d ∷ []) (c ∷ blanks) (line_texts X hs)) → Clean start five room [] hs →
    merged_text k (d ∷ []) (c ∷ blanks) (line_texts X (expanded_from p a [] hs)) ≡ merged_text k (d ∷ []) (c ∷ blanks) (line_texts X hs)
merged_kept k c d blanks X p a start five room hs is f each once_is e =
    let t : List ℕ = merged_text k (d ∷ []) (c ∷ blanks) (line_texts X hs) in
    let texts = texts_once X p a t start five room [] hs once_is e in
    elim (cases_Bool (has_line X hs)) [
      | inl y ↦
          let one : line_texts X (expanded_from p a [] hs) ≡ t ∷ [] = texts ∙ rw y refl in
          ap (λ (x : List (List ℕ)). merged_text k (d ∷ []) (c ∷ blanks) x) one ∙ merged_again k c d blanks (line_texts X hs) is f each
      | inr n ↦
          let none : line_texts X (expanded_from p a [] hs) ≡ [] = texts ∙ rw n refl in
          ap (λ (x : List (List ℕ)). merged_text k (d ∷ []) (c ∷ blanks) x) (none ∙ sym (no_texts X hs n))
    ]

blank_space : IsAll Blank (32 ∷ [])
unfolding in_class
blank_space = refl

pub privacy_kept : (start : Start) (five : Five) (room : ℕ) (hs : List Line) → Clean start five room [] hs → privacy_text (expanded_lines hs) ≡ privacy_text hs
privacy_kept start five room hs e =
    merged_kept Words 59 59 [] (codes "Privacy") (privacy_text hs) (allow_text hs) start five room hs refl refl refl (privacy_once (privacy_text hs) (allow_text hs)) e

pub allow_kept : (start : Start) (five : Five) (room : ℕ) (hs : List Line) → Clean start five room [] hs → allow_text (expanded_lines hs) ≡ allow_text hs
allow_kept start five room hs e =
    merged_kept Plain 44 44 (32 ∷ []) (codes "Allow") (privacy_text hs) (allow_text hs) start five room hs refl refl blank_space (allow_once (privacy_text hs) (allow_text hs)) e

-- expanded lines are not changed by expansion
pub expanded_again : (start : Start) (five : Five) (room : ℕ) (hs : List Line) → Clean start five room [] hs →
    expanded_from (privacy_text hs) (allow_text hs) [] (expanded_lines hs) ≡ expanded_lines hs → expanded_lines (expanded_lines hs) ≡ expanded_lines hs
expanded_again start five room hs e same = rw (privacy_kept start five room hs e, allow_kept start five room hs e) same

-- ---- the body

pub number_same : (limit room : ℕ) (v : List ℕ) (n : ℕ) → number_of room v ≡ Some n → n ≤ limit → number_of limit v ≡ Some n
number_same limit room v n e le = number_again limit v n (number_takes room v n e).0 le

body_cut : (rest v : List ℕ) (o : Option ℕ) → number_of (length rest) v ≡ o → cut_body (cut_body rest o) (number_of (length (cut_body rest o)) v) ≡ cut_body rest o
body_cut rest v None e = rw e refl
body_cut rest v (Some n) e =
    let le : n ≤ length rest = (number_takes (length rest) v n e).1 in
    let len : length (take n rest) ≡ n = omega (arith, length-take n rest) in
    let again : number_of (length (take n rest)) v ≡ Some n = number_same (length (take n rest)) (length rest) v n e (omega arith) in
    rw again (take_all n (take n rest) (omega arith))

body_by : (rest : List ℕ) (o : Option (List ℕ)) →
    cut_body (cut_body rest (o >>= λ v. number_of (length rest) v)) (o >>= λ v. number_of (length (cut_body rest (o >>= λ w. number_of (length rest) w))) v)
    ≡ cut_body rest (o >>= λ v. number_of (length rest) v)
body_by rest None = refl
body_by rest (Some v) = body_cut rest v (number_of (length rest) v) refl

-- the body is as long as Content-Length says
pub body_again : (hs ls : List Line) (rest : List ℕ) → first_value (codes "Content-Length") ls ≡ first_value (codes "Content-Length") hs → body_of ls (body_of hs rest) ≡ body_of hs rest
body_again hs ls rest e = rw e (body_by rest (first_value (codes "Content-Length") hs))

-- ---- the bytes after the head: those of the body alone

other_capacity : (start : Start) (five : Five) (room less : ℕ) (B : List Line) (h : Line) → is_line (codes "Content-Length") h ≡ false → line_fault start five room B h ≡ line_fault start five less B h
other_capacity start five room less B h n = rw n refl

-- the value of Content-Length is at most the number of bytes after the head
abbrev pub Fits : ℕ → Option (List ℕ) → Type 0
Fits less None = Unit {0}
Fits less (Some v) = is_none (number_of less v) ≡ false

length_clean : (start : Start) (five : Five) (less : ℕ) (B : List Line) (h : Line) → (length h.0 == 0) ≡ false → is_line (codes "Content-Length") h ≡ true →
    has_line (codes "Content-Length") B ≡ false → is_none (number_of less h.1) ≡ false → line_fault start five less B h ≡ false
length_clean start five less B h named y fresh fits =
    let q : str_to_ascii_lowercase h.0 ≡ codes "content-length" = line_named (codes "Content-Length") h y in
    rw (named, q, fresh, fits) refl

length_twice : (start : Start) (five : Five) (room : ℕ) (B : List Line) (h : Line) → (length h.0 == 0) ≡ false → is_line (codes "Content-Length") h ≡ true →
    has_line (codes "Content-Length") B ≡ true → line_fault start five room B h ≡ false → ⊥
length_twice start five room B h named y has e =
    let q : str_to_ascii_lowercase h.0 ≡ codes "content-length" = line_named (codes "Content-Length") h y in
    let f : true ≡ false = rw (named, q, has) at e in
    absurd cc

-- what must hold of the lines that follow those before: nothing where Content-Length was among these
abbrev FitsBehind : ℕ → Bool → List Line → Type 0
FitsBehind less true hs = Unit {0}
FitsBehind less false hs = Fits less (first_value (codes "Content-Length") hs)

pub or_true : (b : Bool) → (b || true) ≡ true
or_true true = refl
or_true false = refl

or_none : (b : Bool) → (b || false) ≡ b
or_none true = refl
or_none false = refl

fits_by : (less : ℕ) (b c : Bool) (hs ks : List Line) → b ≡ c → (b ≡ false → first_value (codes "Content-Length") hs ≡ first_value (codes "Content-Length") ks) → FitsBehind less b hs → FitsBehind less c ks
fits_by less true true hs ks e same f = tt
fits_by less false false hs ks e same f = subst (λ (o : Option (List ℕ)). Fits less o) (same refl) f
fits_by less true false hs ks e same f = absurd cc
fits_by less false true hs ks e same f = absurd cc

fits_true : (less : ℕ) (b : Bool) (hs : List Line) → b ≡ true → FitsBehind less b hs
fits_true less true hs e = tt
fits_true less false hs e = absurd cc

pub capacity_fits : (start : Start) (five : Five) (room less : ℕ) (B hs : List Line) → FitsBehind less (has_line (codes "Content-Length") B) hs → Clean start five room B hs → Clean start five less B hs
capacity_fits start five room less B [] fits e = tt
capacity_fits start five room less B (h ∷ hs) fits e =
    let X : List ℕ = codes "Content-Length" in
    let named = named_by start five room B h e.0 in
    elim (cases_Bool (is_line (codes "Content-Length") h)) [
      | inr n ↦
          let same : has_line (codes "Content-Length") B ≡ has_line (codes "Content-Length") (B ++ h ∷ []) = sym (has_more (codes "Content-Length") B h ∙ rw n (or_none (has_line (codes "Content-Length") B))) in
          let more = fits_by less (has_line (codes "Content-Length") B) (has_line (codes "Content-Length") (B ++ h ∷ [])) (h ∷ hs) hs same (λ f. rw n refl) fits in
          (sym (other_capacity start five room less B h n) ∙ e.0, capacity_fits start five room less (B ++ h ∷ []) hs more e.1)
      | inl y ↦ elim (cases_Bool (has_line (codes "Content-Length") B)) [
        | inl z ↦ absurd (length_twice start five room B h named y z e.0)
        | inr fresh ↦
            let there : has_line (codes "Content-Length") (B ++ h ∷ []) ≡ true = has_more (codes "Content-Length") B h ∙ rw y (or_true (has_line (codes "Content-Length") B)) in
            let mine : is_none (number_of less h.1) ≡ false = (rw (fresh, y) at fits) in
            (length_clean start five less B h named y fresh mine, capacity_fits start five room less (B ++ h ∷ []) hs (fits_true less (has_line (codes "Content-Length") (B ++ h ∷ [])) hs there) e.1)
      ]
    ]

-- Content-Length of a message in which nothing is wrong is a number that fits
number_some : (o : Option ℕ) → is_none o ≡ false → (n : ℕ) × (o ≡ Some n)
number_some None e = absurd cc
number_some (Some n) e = (n, refl)

pub first_length : (start : Start) (five : Five) (room : ℕ) (B hs : List Line) → has_line (codes "Content-Length") B ≡ false → Clean start five room B hs → Fits room (first_value (codes "Content-Length") hs)
first_length start five room B [] fresh e = tt
first_length start five room B (h ∷ hs) fresh e =
    elim (cases_Bool (is_line (codes "Content-Length") h)) [
      | inr n ↦ rw n (first_length start five room (B ++ h ∷ []) hs (has_more (codes "Content-Length") B h ∙ rw (fresh, n) refl) e.1)
      | inl y ↦
          let q : str_to_ascii_lowercase h.0 ≡ codes "content-length" = line_named (codes "Content-Length") h y in
          rw y (rw (named_by start five room B h e.0, q, fresh) at e.0)
    ]

cut_fits : (rest v : List ℕ) (o : Option ℕ) → number_of (length rest) v ≡ o → is_none o ≡ false → is_none (number_of (length (cut_body rest o)) v) ≡ false
cut_fits rest v None e f = absurd cc
cut_fits rest v (Some n) e f =
    let le : n ≤ length rest = (number_takes (length rest) v n e).1 in
    let len : length (take n rest) ≡ n = omega (arith, length-take n rest) in
    rw (number_same (length (take n rest)) (length rest) v n e (omega arith)) refl

fits_body : (rest : List ℕ) (o : Option (List ℕ)) → Fits (length rest) o → Fits (length (cut_body rest (o >>= λ v. number_of (length rest) v))) o
fits_body rest None f = tt
fits_body rest (Some v) f = cut_fits rest v (number_of (length rest) v) refl f

-- nothing is wrong where only the body follows the head
pub body_clean : (start : Start) (five : Five) (hs : List Line) (rest : List ℕ) → Clean start five (length rest) [] hs → Clean start five (length (body_of hs rest)) [] hs
body_clean start five hs rest e =
    capacity_fits start five (length rest) (length (body_of hs rest)) [] hs (fits_body rest (first_value (codes "Content-Length") hs) (first_length start five (length rest) [] hs refl e)) e

-- What holds of each message that was read.
use Rattle.std.proofs.Common.{◌≡◌, ◌==◌, ◌&&◌, ◌||◌, not, cond, Bool, true, false, ℕ, ◌<◌, ◌≤◌, List, [], ◌∷◌, ◌++◌, length, take, Option, Some}
use Rattle.std.proofs.Common.{None, Ok, refl, sym, ap, subst, ◌∙◌, inl, inr, map, arith, append-nil, codes, count_by, length-take, nat_lt}
use Rattle.std.specs.Prelude.{is_none, is_some}
use Rattle.std.proofs.lemmas.Bool.{cases_Bool}
use Rattle.std.proofs.lemmas.Bool.Decides.{nat_tests}
use Rattle.std.proofs.lemmas.List.Folds.{list_all-append}
use Rattle.std.proofs.lemmas.Slice.Eq.{bytes_eq-Decides}
use Rattle.std.specs.List.{list_all}
use Rattle.std.specs.Str.{bytes_eq, str_to_ascii_lowercase}
use Rattle.mmtel_base.specs.Chain.{◌>>=◌}
use Rattle.mmtel_base.specs.Numbers.{number_of}
use Rattle.mmtel_base.specs.Scanning.{split_once_at, after_byte, after_text}
use Rattle.mmtel_base.proofs.ChainTheorems.{bind_some, where_some, unless_some, some_is, filled_by}
use Rattle.mmtel_base.proofs.NumberTheorems.{number_takes}
use Rattle.mmtel_base.proofs.Runs.{and_true}
use Rattle.mmtel_lex.specs.Params.{param_value}
use Rattle.mmtel_lex.specs.Reading.{name_addr_of, token_at, uri_of}
use Rattle.mmtel_lex.specs.declared.values.NameAddr.{NameAddr}
use Rattle.mmtel_message.specs.Headers.{trim, is_value_byte}
use Rattle.mmtel_message.specs.Message.{Message, is_line, has_line, lines_named, first_value, line_texts, values_named}
use Rattle.mmtel_message.specs.Values.{parts, values_in, values_of}
use Rattle.mmtel_message.specs.Starts.{status_of, status_at, request_of, request_at, start_from, start_at}
use Rattle.mmtel_message.specs.Texts.{start_text}
use Rattle.mmtel_message.specs.Fields.{first_in, first_part, if_not_empty, via_at, cseq_at, only_value, via_in, party_in, parties_in, call_in, five_at}
use Rattle.mmtel_message.specs.Faults.{is_method, is_request, is_malformed, start_fault, is_readable, are_readable, is_one_readable, has_cookie, has_case, are_words, is_word, line_fault}
use Rattle.mmtel_message.specs.Expansion.{is_listed, lines_for, expanded_from, expanded_lines, privacy_text, allow_text}
use Rattle.mmtel_message.specs.Reads.{cut_body, message_of, head_in_lines, after_faults, after_head, after_start, read_split_at, limit, most_lines, read_result}
use Rattle.mmtel_message.specs.Lines.{first_break}
use Rattle.mmtel_message.specs.Headers.{header_line}
use Rattle.mmtel_message.specs.Guarantees.{IsOnly, IsOnePerLine, is_hops, are_cases}
use Rattle.mmtel_message.specs.declared.lines.Break.TheVariants.{Head}
use Rattle.mmtel_message.specs.declared.values.Mode.{Mode}
use Rattle.mmtel_message.specs.declared.values.Mode.TheVariants.{Plain, Words}
use Rattle.mmtel_message.specs.declared.fields.Five.{Five}
use Rattle.mmtel_message.specs.declared.fields.CSeq.{CSeq}
use Rattle.mmtel_message.specs.declared.messages.Start.{Start}
use Rattle.mmtel_message.specs.declared.messages.Start.TheVariants.{Request, Status}
use Rattle.mmtel_message.proofs.StartTheorems.{after_text_whole, not_below}
use Rattle.mmtel_message.proofs.ExpansionTheorems.{Line, Clean, line_named, not_false, or_left, named_by, has_more, AllOf, IsSingle, singles}
use Rattle.mmtel_message.proofs.CanonicalTheorems.{or_true, named_other, texts_over, count_named, first_length}
use Rattle.mmtel_message.proofs.WalkTheorems.{first_named, head_value}
use Rattle.mmtel_message.proofs.ReadTheorems.{canonical, ok_is, with_five}
use Rattle.mmtel_message.proofs.EntryTheorems.{clean_read}

-- ---- truth values and options

some_of : {A : Type 0} (o : Option A) → is_some o ≡ true → (x : A) × (o ≡ Some x)
some_of None e = absurd cc
some_of (Some x) e = (x, refl)

some_by : {A : Type 0} (o : Option A) → is_none o ≡ false → (x : A) × (o ≡ Some x)
some_by None e = absurd cc
some_by (Some x) e = (x, refl)

is_some_by : {A : Type 0} (o : Option A) → is_none o ≡ false → is_some o ≡ true
is_some_by None e = absurd cc
is_some_by (Some x) e = refl

-- ---- where the five fields are, in any lines that have them

equal_one : (n : ℕ) → (n == 1) ≡ true → n ≡ 1
equal_one n e = grind (arith, nat_tests)

only_is : (name : List ℕ) (ls : List Line) (v : List ℕ) → only_value name ls ≡ Some v → IsOnly name ls v
only_is name ls v e =
    let w = where_some (count_by (λ (l : Line). is_line name l) ls == 1) (first_value name ls) v e in
    record { first = w.1; alone = sym (count_named name ls) ∙ equal_one (count_by (λ (l : Line). is_line name l) ls) w.0 }

filled_is : (s t : List ℕ) → if_not_empty s ≡ Some t → (s ≡ t) × (0 < length s)
filled_is s t e =
    let u = unless_some (length s == 0) (Some s) t e in
    (some_is s t u.1, filled_by (length s) u.0)

-- the values of the five fields
pub record AreFields (ls : List Line) (five : Five) : Type 0 where
  pub via : (v : List ℕ) × (first_value (codes "Via") ls ≡ Some v) × (via_at (first_part v) ≡ Some five.via)
  pub from : (v : List ℕ) × IsOnly (codes "From") ls v × (name_addr_of v ≡ Some five.from)
  pub to : (v : List ℕ) × IsOnly (codes "To") ls v × (name_addr_of v ≡ Some five.to)
  pub call_id : IsOnly (codes "Call-ID") ls five.call_id × (0 < length five.call_id)
  pub cseq : (v : List ℕ) × IsOnly (codes "CSeq") ls v × (cseq_at v ≡ Some five.cseq)

party_is : (name : List ℕ) (ls : List Line) (n : NameAddr) → party_in name ls ≡ Some n → (v : List ℕ) × IsOnly name ls v × (name_addr_of v ≡ Some n)
party_is name ls n e =
    let b = bind_some (only_value name ls) (λ v. name_addr_of v) n e in
    (b.0, only_is name ls b.0 b.1, b.2)

pub parties_are : (ls : List Line) (p : NameAddr × NameAddr) → parties_in ls ≡ Some p → (party_in (codes "From") ls ≡ Some p.0) × (party_in (codes "To") ls ≡ Some p.1)
unfolding parties_in
parties_are ls p e =
    let f = bind_some (party_in (codes "From") ls) (λ from. party_in (codes "To") ls >>= λ to. Some (from, to)) p e in
    let t = bind_some (party_in (codes "To") ls) (λ to. Some (f.0, to)) p f.2 in
    let is : (f.0, t.0) ≡ p = some_is (f.0, t.0) p t.2 in
    (f.1 ∙ ap (λ (x : NameAddr × NameAddr). Some x.0) is, t.1 ∙ ap (λ (x : NameAddr × NameAddr). Some x.1) is)

abbrev Call : Type 0
Call = List ℕ × CSeq

abbrev IsCall : List Line → Call → Type 0
IsCall ls c = (IsOnly (codes "Call-ID") ls c.0 × (0 < length c.0)) × ((v : List ℕ) × IsOnly (codes "CSeq") ls v × (cseq_at v ≡ Some c.1))

call_is : (ls : List Line) (c : Call) → call_in ls ≡ Some c → IsCall ls c
unfolding call_in
call_is ls c e =
    let i = bind_some (only_value (codes "Call-ID") ls) (λ i. if_not_empty i >>= λ id. only_value (codes "CSeq") ls >>= λ v. cseq_at v >>= λ cseq. Some (id, cseq)) c e in
    let f = bind_some (if_not_empty i.0) (λ id. only_value (codes "CSeq") ls >>= λ v. cseq_at v >>= λ cseq. Some (id, cseq)) c i.2 in
    let v = bind_some (only_value (codes "CSeq") ls) (λ v. cseq_at v >>= λ cseq. Some (f.0, cseq)) c f.2 in
    let n = bind_some (cseq_at v.0) (λ cseq. Some (f.0, cseq)) c v.2 in
    let made : Call = (f.0, n.0) in
    let is : made ≡ c = some_is made c n.2 in
    let id = filled_is i.0 f.0 f.1 in
    let only : IsOnly (codes "Call-ID") ls f.0 = subst (λ (x : List ℕ). IsOnly (codes "Call-ID") ls x) id.0 (only_is (codes "Call-ID") ls i.0 i.1) in
    let long : 0 < length f.0 = subst (λ (x : List ℕ). 0 < length x) id.0 id.1 in
    subst (λ (x : Call). IsCall ls x) is ((only, long), (v.0, only_is (codes "CSeq") ls v.0 v.1, n.1))

pub fields_are : (ls : List Line) (five : Five) → five_at ls ≡ Some five → AreFields ls five
unfolding five_at
fields_are ls five e =
    let a = bind_some (via_in ls) (λ via. parties_in ls >>= λ p. call_in ls >>= λ c. Some (record { via = via; from = p.0; to = p.1; call_id = c.0; cseq = c.1 })) five e in
    let p = bind_some (parties_in ls) (λ p. call_in ls >>= λ c. Some (record { via = a.0; from = p.0; to = p.1; call_id = c.0; cseq = c.1 })) five a.2 in
    let c = bind_some (call_in ls) (λ c. Some (record { via = a.0; from = p.0.0; to = p.0.1; call_id = c.0; cseq = c.1 })) five p.2 in
    let made : Five = record { via = a.0; from = p.0.0; to = p.0.1; call_id = c.0.0; cseq = c.0.1 } in
    let is : made ≡ five = some_is made five c.2 in
    let first = bind_some (first_value (codes "Via") ls) (λ v. via_at (first_part v)) a.0 a.1 in
    let parties = parties_are ls p.0 p.1 in
    let call = call_is ls c.0 c.1 in
    subst (λ (x : Five). AreFields ls x) is
    (record {
      via = first;
      from = party_is (codes "From") ls p.0.0 parties.0;
      to = party_is (codes "To") ls p.0.1 parties.1;
      call_id = call.0;
      cseq = call.1;
    })

-- ---- what holds of each line of a name

-- of the values of each line of the name in which nothing is wrong
abbrev HoldsOf : Mode → (List ℕ → Bool) → List ℕ → Start → Five → ℕ → Type 0
HoldsOf m p X start five room = (B : List Line) (h : Line) → line_fault start five room B h ≡ false → is_line X h ≡ true → list_all p (values_in m h.1) ≡ true

values_hold : (m : Mode) (p : List ℕ → Bool) (X : List ℕ) (start : Start) (five : Five) (room : ℕ) → HoldsOf m p X start five room → (B hs : List Line) → Clean start five room B hs →
    list_all p (values_named m X hs) ≡ true
values_hold m p X start five room each B [] e = refl
values_hold m p X start five room each B (h ∷ hs) e =
    let more = values_hold m p X start five room each (B ++ h ∷ []) hs e.1 in
    elim (cases_Bool (is_line X h)) [
      | inl y ↦ rw (y, list_all-append p (values_in m h.1) (values_named m X hs), each B h e.0 y, more) refl
      | inr n ↦ rw n more
    ]

-- of the text of each line
abbrev HoldsOfTexts : (List ℕ → Bool) → List ℕ → Start → Five → ℕ → Type 0
HoldsOfTexts p X start five room = (B : List Line) (h : Line) → line_fault start five room B h ≡ false → is_line X h ≡ true → p h.1 ≡ true

texts_hold : (p : List ℕ → Bool) (X : List ℕ) (start : Start) (five : Five) (room : ℕ) → HoldsOfTexts p X start five room → (B hs : List Line) → Clean start five room B hs → list_all p (line_texts X hs) ≡ true
texts_hold p X start five room each B [] e = refl
texts_hold p X start five room each B (h ∷ hs) e =
    let more = texts_hold p X start five room each (B ++ h ∷ []) hs e.1 in
    elim (cases_Bool (is_line X h)) [
      | inl y ↦ rw (y, each B h e.0 y, more) refl
      | inr n ↦ rw n more
    ]

-- what holds for each text holds for the first
pub first_holds : (p : List ℕ → Bool) (X v : List ℕ) (ls : List Line) → list_all p (line_texts X ls) ≡ true → first_value X ls ≡ Some v → p v ≡ true
first_holds p X v [] e there = absurd cc
first_holds p X v (l ∷ ls) e there =
    elim (cases_Bool (is_line X l)) [
      | inl y ↦
          let both = and_true (p l.1) (list_all p (line_texts X ls)) (rw y at e) in
          subst (λ (x : List ℕ). p x ≡ true) (some_is l.1 v (rw y at there)) both.0
      | inr n ↦ first_holds p X v ls (rw n at e) (rw n at there)
    ]

-- ---- names that occur once

abbrev IsOnce : List ℕ → Start → Five → ℕ → Type 0
IsOnce X start five room = (B : List Line) (h : Line) → line_fault start five room B h ≡ false → is_line X h ≡ true → has_line X B ≡ false

none_more : (X : List ℕ) (start : Start) (five : Five) (room : ℕ) → IsOnce X start five room → (B hs : List Line) → has_line X B ≡ true → Clean start five room B hs → has_line X hs ≡ false
none_more X start five room once B [] there e = refl
none_more X start five room once B (h ∷ hs) there e =
    elim (cases_Bool (is_line X h)) [
      | inl y ↦ let f : true ≡ false = sym there ∙ once B h e.0 y in absurd cc
      | inr n ↦ rw n (none_more X start five room once (B ++ h ∷ []) hs (has_more X B h ∙ rw there refl) e.1)
    ]

-- after the first there is none
none_behind : (X : List ℕ) (start : Start) (five : Five) (room : ℕ) → IsOnce X start five room → (B : List Line) (h : Line) (hs : List Line) → is_line X h ≡ true →
    Clean start five room (B ++ h ∷ []) hs → has_line X hs ≡ false
none_behind X start five room once B h hs y e =
    none_more X start five room once (B ++ h ∷ []) hs (has_more X B h ∙ rw y (or_true (has_line X B))) e

pub named_none : (X : List ℕ) (ls : List Line) → has_line X ls ≡ false → lines_named X ls ≡ []
named_none X [] e = refl
named_none X (l ∷ ls) e = let both = or_left (is_line X l) (has_line X ls) e in rw both.0 (named_none X ls both.1)

values_none : (m : Mode) (X : List ℕ) (ls : List Line) → has_line X ls ≡ false → values_named m X ls ≡ []
values_none m X [] e = refl
values_none m X (l ∷ ls) e = let both = or_left (is_line X l) (has_line X ls) e in rw both.0 (values_none m X ls both.1)

at_most_one : (X : List ℕ) (start : Start) (five : Five) (room : ℕ) → IsOnce X start five room → (B hs : List Line) → Clean start five room B hs → length (lines_named X hs) ≤ 1
at_most_one X start five room once B [] e = omega arith
at_most_one X start five room once B (h ∷ hs) e =
    elim (cases_Bool (is_line X h)) [
      | inl y ↦ rw (y, named_none X hs (none_behind X start five room once B h hs y e.1)) (omega arith)
      | inr n ↦ rw n (at_most_one X start five room once (B ++ h ∷ []) hs e.1)
    ]

-- ---- the first line of a name

record FirstOf (X : List ℕ) (start : Start) (five : Five) (room : ℕ) : Type 0 where
  before : List Line
  line : Line
  clean : line_fault start five room before line ≡ false
  is : is_line X line ≡ true
  first : has_line X before ≡ false

first_line : (X : List ℕ) (start : Start) (five : Five) (room : ℕ) (B hs : List Line) → has_line X B ≡ false → has_line X hs ≡ true → Clean start five room B hs → FirstOf X start five room
first_line X start five room B [] none there e = absurd cc
first_line X start five room B (h ∷ hs) none there e =
    elim (cases_Bool (is_line X h)) [
      | inl y ↦ record { before = B; line = h; clean = e.0; is = y; first = none }
      | inr n ↦ first_line X start five room (B ++ h ∷ []) hs (has_more X B h ∙ rw (none, n) refl) (rw n at there) e.1
    ]

has_first : (X v : List ℕ) (ls : List Line) → first_value X ls ≡ Some v → has_line X ls ≡ true
has_first X v [] e = absurd cc
has_first X v (l ∷ ls) e =
    elim (cases_Bool (is_line X l)) [
      | inl y ↦ rw y refl
      | inr n ↦ rw n (has_first X v ls (rw n at e))
    ]

-- ---- what each row says where nothing is wrong

cseq_row : (start : Start) (five : Five) (room : ℕ) (B : List Line) (h : Line) → line_fault start five room B h ≡ false → is_line (codes "CSeq") h ≡ true →
    (is_request start && not (is_method five.cseq.method start)) ≡ false
cseq_row start five room B h e y =
    let q : str_to_ascii_lowercase h.0 ≡ codes "cseq" = line_named (codes "CSeq") h y in
    rw (named_by start five room B h e, q) at e

from_row : (start : Start) (five : Five) (room : ℕ) (B : List Line) (h : Line) → line_fault start five room B h ≡ false → is_line (codes "From") h ≡ true →
    (is_request start && is_none (param_value (codes "tag") five.from.params)) ≡ false
from_row start five room B h e y =
    let q : str_to_ascii_lowercase h.0 ≡ codes "from" = line_named (codes "From") h y in
    rw (named_by start five room B h e, q) at e

via_row : (start : Start) (five : Five) (room : ℕ) (B : List Line) (h : Line) → line_fault start five room B h ≡ false → is_line (codes "Via") h ≡ true →
    (is_request start && not (has_line (codes "Via") B) && not (has_cookie (param_value (codes "branch") five.via.params))) ≡ false
via_row start five room B h e y =
    let q : str_to_ascii_lowercase h.0 ≡ codes "via" = line_named (codes "Via") h y in
    rw (named_by start five room B h e, q) at e

hops_row : (start : Start) (five : Five) (room : ℕ) (B : List Line) (h : Line) → line_fault start five room B h ≡ false → is_line (codes "Max-Forwards") h ≡ true →
    (is_request start && (has_line (codes "Max-Forwards") B || is_none (number_of 255 h.1))) ≡ false
hops_row start five room B h e y =
    let q : str_to_ascii_lowercase h.0 ≡ codes "max-forwards" = line_named (codes "Max-Forwards") h y in
    rw (named_by start five room B h e, q) at e

contact_row : (start : Start) (five : Five) (room : ℕ) (B : List Line) (h : Line) → line_fault start five room B h ≡ false → is_line (codes "Contact") h ≡ true →
    (is_method (codes "INVITE") start && (has_line (codes "Contact") B || not (is_one_readable (values_of h.1)))) ≡ false
contact_row start five room B h e y =
    let q : str_to_ascii_lowercase h.0 ≡ codes "contact" = line_named (codes "Contact") h y in
    rw (named_by start five room B h e, q) at e

route_row : (start : Start) (five : Five) (room : ℕ) → HoldsOf Plain is_readable (codes "Route") start five room
route_row start five room B h e y =
    let q : str_to_ascii_lowercase h.0 ≡ codes "route" = line_named (codes "Route") h y in
    not_false (are_readable (values_of h.1)) (rw (named_by start five room B h e, q) at e)

record_route_row : (start : Start) (five : Five) (room : ℕ) → HoldsOf Plain is_readable (codes "Record-Route") start five room
record_route_row start five room B h e y =
    let q : str_to_ascii_lowercase h.0 ≡ codes "record-route" = line_named (codes "Record-Route") h y in
    not_false (are_readable (values_of h.1)) (rw (named_by start five room B h e, q) at e)

asserted_row : (start : Start) (five : Five) (room : ℕ) → HoldsOf Plain is_readable (codes "P-Asserted-Identity") start five room
asserted_row start five room B h e y =
    let q : str_to_ascii_lowercase h.0 ≡ codes "p-asserted-identity" = line_named (codes "P-Asserted-Identity") h y in
    not_false (are_readable (values_of h.1)) (rw (named_by start five room B h e, q) at e)

privacy_row : (start : Start) (five : Five) (room : ℕ) → HoldsOf Words is_word (codes "Privacy") start five room
privacy_row start five room B h e y =
    let q : str_to_ascii_lowercase h.0 ≡ codes "privacy" = line_named (codes "Privacy") h y in
    not_false (are_words (values_in Words h.1)) (rw (named_by start five room B h e, q) at e)

served_row : (start : Start) (five : Five) (room : ℕ) → HoldsOfTexts (λ v. has_case (name_addr_of v)) (codes "P-Served-User") start five room
served_row start five room B h e y =
    let q : str_to_ascii_lowercase h.0 ≡ codes "p-served-user" = line_named (codes "P-Served-User") h y in
    not_false (has_case (name_addr_of h.1)) (rw (named_by start five room B h e, q) at e)

refer_row : (start : Start) (five : Five) (room : ℕ) → HoldsOfTexts is_readable (codes "Refer-To") start five room
refer_row start five room B h e y =
    let q : str_to_ascii_lowercase h.0 ≡ codes "refer-to" = line_named (codes "Refer-To") h y in
    not_false (is_readable h.1) (rw (named_by start five room B h e, q) at e)

-- ---- the fields of a message that was read

pub five_read : (s : List ℕ) (m : Message Start) → read_result s ≡ Ok m → (five : Five) × (five_at m.lines ≡ Some five)
five_read s m e = let c = clean_read s m e in (c.five, c.found)

-- nothing is wrong with these five fields
clean_with : (s : List ℕ) (m : Message Start) (five : Five) → read_result s ≡ Ok m → five_at m.lines ≡ Some five → Clean m.start five (length m.body) [] m.lines
clean_with s m five e found =
    let c = clean_read s m e in
    let same : c.five ≡ five = some_is c.five five (sym c.found ∙ found) in
    subst (λ (x : Five). Clean m.start x (length m.body) [] m.lines) same c.clean

same_method : (start : Start) (method uri name : List ℕ) → start ≡ Request method uri → (is_request start && not (is_method name start)) ≡ false → name ≡ method
same_method start method uri name is e =
    let there : (is_request (Request method uri) && not (is_method name (Request method uri))) ≡ false = subst (λ (x : Start). (is_request x && not (is_method name x)) ≡ false) is e in
    sym ((bytes_eq-Decides method name).0 (not_false (bytes_eq method name) there))

pub read_method : (s : List ℕ) (m : Message Start) (five : Five) (method uri : List ℕ) → read_result s ≡ Ok m → m.start ≡ Request method uri → five_at m.lines ≡ Some five → five.cseq.method ≡ method
read_method s m five method uri e is found =
    let v = (fields_are m.lines five found).cseq in
    let l = first_line (codes "CSeq") m.start five (length m.body) [] m.lines refl (has_first (codes "CSeq") v.0 m.lines v.1.first) (clean_with s m five e found) in
    same_method m.start method uri five.cseq.method is (cseq_row m.start five (length m.body) l.before l.line l.clean l.is)

pub read_tag : (s : List ℕ) (m : Message Start) (five : Five) → read_result s ≡ Ok m → is_request m.start ≡ true → five_at m.lines ≡ Some five → (tag : List ℕ) × (param_value (codes "tag") five.from.params ≡ Some tag)
read_tag s m five e request found =
    let v = (fields_are m.lines five found).from in
    let l = first_line (codes "From") m.start five (length m.body) [] m.lines refl (has_first (codes "From") v.0 m.lines v.1.first) (clean_with s m five e found) in
    some_by (param_value (codes "tag") five.from.params) (rw request at (from_row m.start five (length m.body) l.before l.line l.clean l.is))

cookie_by : (o : Option (List ℕ)) → has_cookie o ≡ true → (branch : List ℕ) × (o ≡ Some (codes "z9hG4bK" ++ branch))
cookie_by None e = absurd cc
cookie_by (Some v) e =
    let p = some_of (after_text (codes "z9hG4bK") v) e in
    (p.0, ap (λ (x : List ℕ). Some x) (after_text_whole (codes "z9hG4bK") v p.0 p.1))

pub read_branch : (s : List ℕ) (m : Message Start) (five : Five) → read_result s ≡ Ok m → is_request m.start ≡ true → five_at m.lines ≡ Some five →
    (branch : List ℕ) × (param_value (codes "branch") five.via.params ≡ Some (codes "z9hG4bK" ++ branch))
read_branch s m five e request found =
    let v = (fields_are m.lines five found).via in
    let l = first_line (codes "Via") m.start five (length m.body) [] m.lines refl (has_first (codes "Via") v.0 m.lines v.1) (clean_with s m five e found) in
    let row : not (has_cookie (param_value (codes "branch") five.via.params)) ≡ false = rw (request, l.first) at (via_row m.start five (length m.body) l.before l.line l.clean l.is) in
    cookie_by (param_value (codes "branch") five.via.params) (not_false (has_cookie (param_value (codes "branch") five.via.params)) row)

pub read_target : (s : List ℕ) (m : Message Start) (method uri : List ℕ) → read_result s ≡ Ok m → m.start ≡ Request method uri → is_malformed (uri_of uri) ≡ false
read_target s m method uri e is = subst (λ (x : Start). start_fault x ≡ false) is (clean_read s m e).target

-- ---- Max-Forwards

hops_parts : (start : Start) (five : Five) (room : ℕ) (B : List Line) (h : Line) → is_request start ≡ true → line_fault start five room B h ≡ false → is_line (codes "Max-Forwards") h ≡ true →
    (has_line (codes "Max-Forwards") B ≡ false) × (is_none (number_of 255 h.1) ≡ false)
hops_parts start five room B h request e y =
    or_left (has_line (codes "Max-Forwards") B) (is_none (number_of 255 h.1)) (rw request at (hops_row start five room B h e y))

pub read_hops : (s : List ℕ) (m : Message Start) → read_result s ≡ Ok m → is_request m.start ≡ true → list_all is_hops (line_texts (codes "Max-Forwards") m.lines) ≡ true
read_hops s m e request =
    let c = clean_read s m e in
    texts_hold is_hops (codes "Max-Forwards") m.start c.five (length m.body) (λ B h f y. is_some_by (number_of 255 h.1) (hops_parts m.start c.five (length m.body) B h request f y).1) [] m.lines c.clean

pub read_hops_once : (s : List ℕ) (m : Message Start) → read_result s ≡ Ok m → is_request m.start ≡ true → length (lines_named (codes "Max-Forwards") m.lines) ≤ 1
read_hops_once s m e request =
    let c = clean_read s m e in
    at_most_one (codes "Max-Forwards") m.start c.five (length m.body) (λ B h f y. (hops_parts m.start c.five (length m.body) B h request f y).0) [] m.lines c.clean

-- ---- addresses and words

pub read_routes : (s : List ℕ) (m : Message Start) → read_result s ≡ Ok m → are_readable (values_named Plain (codes "Route") m.lines) ≡ true
read_routes s m e = let c = clean_read s m e in values_hold Plain is_readable (codes "Route") m.start c.five (length m.body) (route_row m.start c.five (length m.body)) [] m.lines c.clean

pub read_record_routes : (s : List ℕ) (m : Message Start) → read_result s ≡ Ok m → are_readable (values_named Plain (codes "Record-Route") m.lines) ≡ true
read_record_routes s m e = let c = clean_read s m e in values_hold Plain is_readable (codes "Record-Route") m.start c.five (length m.body) (record_route_row m.start c.five (length m.body)) [] m.lines c.clean

pub read_asserted : (s : List ℕ) (m : Message Start) → read_result s ≡ Ok m → are_readable (values_named Plain (codes "P-Asserted-Identity") m.lines) ≡ true
read_asserted s m e = let c = clean_read s m e in values_hold Plain is_readable (codes "P-Asserted-Identity") m.start c.five (length m.body) (asserted_row m.start c.five (length m.body)) [] m.lines c.clean

pub read_words : (s : List ℕ) (m : Message Start) → read_result s ≡ Ok m → are_words (values_named Words (codes "Privacy") m.lines) ≡ true
read_words s m e = let c = clean_read s m e in values_hold Words is_word (codes "Privacy") m.start c.five (length m.body) (privacy_row m.start c.five (length m.body)) [] m.lines c.clean

pub read_served : (s : List ℕ) (m : Message Start) → read_result s ≡ Ok m → are_cases (line_texts (codes "P-Served-User") m.lines) ≡ true
read_served s m e = let c = clean_read s m e in texts_hold (λ v. has_case (name_addr_of v)) (codes "P-Served-User") m.start c.five (length m.body) (served_row m.start c.five (length m.body)) [] m.lines c.clean

pub read_refer : (s : List ℕ) (m : Message Start) → read_result s ≡ Ok m → are_readable (line_texts (codes "Refer-To") m.lines) ≡ true
read_refer s m e = let c = clean_read s m e in texts_hold is_readable (codes "Refer-To") m.start c.five (length m.body) (refer_row m.start c.five (length m.body)) [] m.lines c.clean

-- ---- Contact of an INVITE

contact_both : (start : Start) (five : Five) (room : ℕ) (B : List Line) (h : Line) → is_method (codes "INVITE") start ≡ true → line_fault start five room B h ≡ false →
    is_line (codes "Contact") h ≡ true → (has_line (codes "Contact") B ≡ false) × (is_one_readable (values_of h.1) ≡ true)
contact_both start five room B h invite e y =
    let both = or_left (has_line (codes "Contact") B) (not (is_one_readable (values_of h.1))) (rw invite at (contact_row start five room B h e y)) in
    (both.0, not_false (is_one_readable (values_of h.1)) both.1)

contact_once : (start : Start) (five : Five) (room : ℕ) → is_method (codes "INVITE") start ≡ true → IsOnce (codes "Contact") start five room
contact_once start five room invite B h e y = (contact_both start five room B h invite e y).0

contact_from : (start : Start) (five : Five) (room : ℕ) (B hs : List Line) → is_method (codes "INVITE") start ≡ true → has_line (codes "Contact") hs ≡ true → Clean start five room B hs →
    is_one_readable (values_named Plain (codes "Contact") hs) ≡ true
contact_from start five room B [] invite there e = absurd cc
contact_from start five room B (h ∷ hs) invite there e =
    elim (cases_Bool (is_line (codes "Contact") h)) [
      | inl y ↦
          let rest : values_named Plain (codes "Contact") hs ≡ [] = values_none Plain (codes "Contact") hs (none_behind (codes "Contact") start five room (contact_once start five room invite) B h hs y e.1) in
          rw (y, rest, append-nil (values_of h.1)) (contact_both start five room B h invite e.0 y).1
      | inr n ↦ rw n (contact_from start five room (B ++ h ∷ []) hs invite (rw n at there) e.1)
    ]

pub read_contact : (s : List ℕ) (m : Message Start) → read_result s ≡ Ok m → is_method (codes "INVITE") m.start ≡ true → is_one_readable (values_named Plain (codes "Contact") m.lines) ≡ true
read_contact s m e invite =
    let c = clean_read s m e in
    let there : has_line (codes "Contact") m.lines ≡ true = not_false (has_line (codes "Contact") m.lines) (rw invite at c.contact) in
    contact_from m.start c.five (length m.body) [] m.lines invite there c.clean

-- ---- one value per line

record OfLines (m : Message Start) : Type 0 where
  received : List Line
  is : m.lines ≡ expanded_lines received

of_faults : (start : Start) (hs : List Line) (rest : List ℕ) (m : Message Start) (o : Option ℕ) → after_faults start hs rest o ≡ Ok m → OfLines m
of_faults start hs rest m (Some n) e = absurd cc
of_faults start hs rest m None e = record { received = hs; is = ap (λ (x : Message Start). x.lines) (sym (ok_is (message_of start hs rest) m e)) }

of_five : (start : Start) (hs : List Line) (rest : List ℕ) (m : Message Start) (o : Option Five) → after_head (with_five start hs o) rest ≡ Ok m → OfLines m
of_five start hs rest m None e = absurd cc
of_five start hs rest m (Some five) e =
    elim (cases_Bool (nat_lt most_lines (length hs))) [
      | inl y ↦ let f = rw y at e in absurd cc
      | inr n ↦ of_faults start hs rest m _ (rw n at e)
    ]

of_start : (hs : List Line) (rest : List ℕ) (m : Message Start) (o : Option Start) → after_start hs rest o ≡ Ok m → OfLines m
of_start hs rest m None e = absurd cc
of_start hs rest m (Some start) e = of_five start hs rest m (five_at hs) e

of_head : (ls : List (List ℕ)) (rest : List ℕ) (m : Message Start) → after_head (head_in_lines ls) rest ≡ Ok m → OfLines m
of_head [] rest m e = absurd cc
of_head (l ∷ ls) rest m e = of_start (map header_line ls) rest m (start_at l) e

of_bytes : (s : List ℕ) (m : Message Start) (o : Option ℕ) → read_split_at s o ≡ Ok m → OfLines m
of_bytes s m None e = absurd cc
of_bytes s m (Some n) e = of_head _ _ m e

of_read : (s : List ℕ) (m : Message Start) → read_result s ≡ Ok m → OfLines m
of_read s m e =
    elim (cases_Bool (nat_lt limit (length s))) [
      | inl y ↦ let f = rw y at e in absurd cc
      | inr n ↦ of_bytes s m (first_break Head s) (rw n at e)
    ]

-- a line of the name is split into its values
abbrev IsSplit : List ℕ → Type 0
IsSplit X = (h : Line) → is_line X h ≡ true → (is_line (codes "Privacy") h ≡ false) × (is_line (codes "Allow") h ≡ false) × (is_listed h ≡ true)

all_both : (P : List ℕ → Type 0) (xs ys : List (List ℕ)) → AllOf P xs → AllOf P ys → AllOf P (xs ++ ys)
all_both P [] ys e f = f
all_both P (x ∷ xs) ys e f = (e.0, all_both P xs ys e.1 f)

texts_of : (X n : List ℕ) (vs : List (List ℕ)) → is_line X (n, []) ≡ true → line_texts X (map (λ (v : List ℕ). (n, v)) vs) ≡ vs
texts_of X n [] e = refl
texts_of X n (v ∷ vs) e = rw (e, texts_of X n vs e) refl

single_texts : (X p a : List ℕ) (B : List Line) (h : Line) → IsSplit X → AllOf IsSingle (line_texts X (lines_for p a B h))
single_texts X p a B h is =
    elim (cases_Bool (is_line X h)) [
      | inl y ↦ elim (cases_Bool (length h.0 == 0)) [
        | inl z ↦ rw z tt
        | inr f ↦
            let parted = is h y in
            let texts : line_texts X (lines_for p a B h) ≡ values_of h.1 = rw (f, parted.0, parted.1, parted.2) (texts_of X h.0 (values_of h.1) y) in
            rw texts (singles h.1)
      ]
      | inr n ↦
          let none : line_texts X (lines_for p a B h) ≡ [] = ap (λ (x : List Line). map (λ (l : Line). l.1) x) (named_other X p a B h n) in
          rw none tt
    ]

singles_from : (X p a : List ℕ) (B hs : List Line) → IsSplit X → AllOf IsSingle (line_texts X (expanded_from p a B hs))
unfolding expanded_from
singles_from X p a B [] is = tt
singles_from X p a B (h ∷ hs) is =
    subst (λ (x : List (List ℕ)). AllOf IsSingle x) (sym (texts_over X (lines_for p a B h) (expanded_from p a (B ++ h ∷ []) hs)))
    (all_both IsSingle (line_texts X (lines_for p a B h)) (line_texts X (expanded_from p a (B ++ h ∷ []) hs)) (single_texts X p a B h is) (singles_from X p a (B ++ h ∷ []) hs is))

singles_read : (X s : List ℕ) (m : Message Start) → IsSplit X → read_result s ≡ Ok m → AllOf IsSingle (line_texts X m.lines)
singles_read X s m is e =
    let l = of_read s m e in
    subst (λ (x : List Line). AllOf IsSingle (line_texts X x)) (sym l.is) (singles_from X (privacy_text l.received) (allow_text l.received) [] l.received is)

one_a_line : (X : List ℕ) (ls : List Line) → AllOf IsSingle (line_texts X ls) → IsOnePerLine X ls
one_a_line X [] each = refl
one_a_line X (l ∷ ls) each =
    elim (cases_Bool (is_line X l)) [
      | inl y ↦
          let mine : AllOf IsSingle (l.1 ∷ line_texts X ls) = rw y at each in
          rw (y, mine.0, one_a_line X ls mine.1) refl
      | inr n ↦ rw n (one_a_line X ls (rw n at each))
    ]

read_one_a_line : (X : List ℕ) → IsSplit X → (s : List ℕ) (m : Message Start) → read_result s ≡ Ok m → IsOnePerLine X m.lines
read_one_a_line X is s m e = one_a_line X m.lines (singles_read X s m is e)

via_split : IsSplit (codes "Via")
via_split h y = let q : str_to_ascii_lowercase h.0 ≡ codes "via" = line_named (codes "Via") h y in rw q (refl, refl, refl)

route_split : IsSplit (codes "Route")
route_split h y = let q : str_to_ascii_lowercase h.0 ≡ codes "route" = line_named (codes "Route") h y in rw q (refl, refl, refl)

record_route_split : IsSplit (codes "Record-Route")
record_route_split h y = let q : str_to_ascii_lowercase h.0 ≡ codes "record-route" = line_named (codes "Record-Route") h y in rw q (refl, refl, refl)

contact_split : IsSplit (codes "Contact")
contact_split h y = let q : str_to_ascii_lowercase h.0 ≡ codes "contact" = line_named (codes "Contact") h y in rw q (refl, refl, refl)

asserted_split : IsSplit (codes "P-Asserted-Identity")
asserted_split h y = let q : str_to_ascii_lowercase h.0 ≡ codes "p-asserted-identity" = line_named (codes "P-Asserted-Identity") h y in rw q (refl, refl, refl)

history_split : IsSplit (codes "History-Info")
history_split h y = let q : str_to_ascii_lowercase h.0 ≡ codes "history-info" = line_named (codes "History-Info") h y in rw q (refl, refl, refl)

supported_split : IsSplit (codes "Supported")
supported_split h y = let q : str_to_ascii_lowercase h.0 ≡ codes "supported" = line_named (codes "Supported") h y in rw q (refl, refl, refl)

require_split : IsSplit (codes "Require")
require_split h y = let q : str_to_ascii_lowercase h.0 ≡ codes "require" = line_named (codes "Require") h y in rw q (refl, refl, refl)

pub via_alone : (s : List ℕ) (m : Message Start) → read_result s ≡ Ok m → IsOnePerLine (codes "Via") m.lines
via_alone s m e = read_one_a_line (codes "Via") via_split s m e

pub route_alone : (s : List ℕ) (m : Message Start) → read_result s ≡ Ok m → IsOnePerLine (codes "Route") m.lines
route_alone s m e = read_one_a_line (codes "Route") route_split s m e

pub record_route_alone : (s : List ℕ) (m : Message Start) → read_result s ≡ Ok m → IsOnePerLine (codes "Record-Route") m.lines
record_route_alone s m e = read_one_a_line (codes "Record-Route") record_route_split s m e

pub contact_alone : (s : List ℕ) (m : Message Start) → read_result s ≡ Ok m → IsOnePerLine (codes "Contact") m.lines
contact_alone s m e = read_one_a_line (codes "Contact") contact_split s m e

pub asserted_alone : (s : List ℕ) (m : Message Start) → read_result s ≡ Ok m → IsOnePerLine (codes "P-Asserted-Identity") m.lines
asserted_alone s m e = read_one_a_line (codes "P-Asserted-Identity") asserted_split s m e

pub history_alone : (s : List ℕ) (m : Message Start) → read_result s ≡ Ok m → IsOnePerLine (codes "History-Info") m.lines
history_alone s m e = read_one_a_line (codes "History-Info") history_split s m e

pub supported_alone : (s : List ℕ) (m : Message Start) → read_result s ≡ Ok m → IsOnePerLine (codes "Supported") m.lines
supported_alone s m e = read_one_a_line (codes "Supported") supported_split s m e

pub require_alone : (s : List ℕ) (m : Message Start) → read_result s ≡ Ok m → IsOnePerLine (codes "Require") m.lines
require_alone s m e = read_one_a_line (codes "Require") require_split s m e

-- ---- the first Via value and an INVITE's Contact are texts of lines

first_single : (X v : List ℕ) (ls : List Line) → AllOf IsSingle (line_texts X ls) → first_value X ls ≡ Some v → IsSingle v
first_single X v [] each e = absurd cc
first_single X v (l ∷ ls) each e =
    elim (cases_Bool (is_line X l)) [
      | inl y ↦
          let mine : AllOf IsSingle (l.1 ∷ line_texts X ls) = rw y at each in
          subst (λ (x : List ℕ). IsSingle x) (some_is l.1 v (rw y at e)) mine.0
      | inr n ↦ first_single X v ls (rw n at each) (rw n at e)
    ]

cons_is : (x y : List ℕ) (xs ys : List (List ℕ)) → x ∷ xs ≡ y ∷ ys → x ≡ y
cons_is x y xs ys e = cc

part_by : (v : List ℕ) (ps : List (List ℕ)) → map trim ps ≡ v ∷ [] → trim (first_in ps) ≡ v
part_by v [] e = absurd cc
part_by v (p ∷ ps) e = cons_is (trim p) v (map trim ps) [] e

pub read_via_line : (s : List ℕ) (m : Message Start) (five : Five) → read_result s ≡ Ok m → five_at m.lines ≡ Some five → (v : List ℕ) × (first_value (codes "Via") m.lines ≡ Some v) × (via_at v ≡ Some five.via)
read_via_line s m five e found =
    let f = (fields_are m.lines five found).via in
    let whole : first_part f.0 ≡ f.0 = part_by f.0 (parts Plain f.0) (first_single (codes "Via") f.0 m.lines (singles_read (codes "Via") s m via_split e) f.1) in
    (f.0, f.1, subst (λ (x : List ℕ). via_at x ≡ Some five.via) whole f.2)

abbrev HasFirst : List Line → Type 0
HasFirst hs = (v : List ℕ) × (name : NameAddr) × (head_value hs ≡ Some v) × (name_addr_of v ≡ Some name)

first_by : (hs : List Line) → is_one_readable (map (λ (l : Line). l.1) hs) ≡ true → HasFirst hs
first_by [] e = absurd cc
first_by (h ∷ hs) e =
    let texts : List (List ℕ) = map (λ (l : Line). l.1) hs in
    let readable = (and_true (length (h.1 ∷ texts) == 1) (are_readable (h.1 ∷ texts)) e).1 in
    let p = some_of (name_addr_of h.1) (and_true (is_readable h.1) (are_readable texts) readable).0 in
    (h.1, p.0, refl, p.1)

pub read_contact_line : (s : List ℕ) (m : Message Start) → read_result s ≡ Ok m → is_method (codes "INVITE") m.start ≡ true →
    (v : List ℕ) × (name : NameAddr) × (first_value (codes "Contact") m.lines ≡ Some v) × (name_addr_of v ≡ Some name)
read_contact_line s m e invite =
    let one : is_one_readable (line_texts (codes "Contact") m.lines) ≡ true = subst (λ (x : List (List ℕ)). is_one_readable x ≡ true) (contact_alone s m e) (read_contact s m e invite) in
    let f = first_by (lines_named (codes "Contact") m.lines) one in
    (f.0, f.1, first_named (codes "Contact") m.lines ∙ f.2, f.3)

-- ---- the code of a response

same_code : (n m : ℕ) (x y : List ℕ) → Status n x ≡ Status m y → n ≡ m
same_code n m x y e = cc

status_within : (t : List ℕ) (code : ℕ) (phrase : List ℕ) → status_at t ≡ Some (Status code phrase) → (100 ≤ code) × (code ≤ 699)
unfolding status_at
status_within t code phrase e =
    let p = bind_some (split_once_at 32 t) (λ p. (cond (length p.0 == 3) (number_of 699 p.0) None) >>= λ n. status_of p.1 n) (Status code phrase) e in
    let n = bind_some (cond (length p.0.0 == 3) (number_of 699 p.0.0) None) (λ n. status_of p.0.1 n) (Status code phrase) p.2 in
    let w = where_some (length p.0.0 == 3) (number_of 699 p.0.0) n.0 n.1 in
    let g = unless_some (nat_lt n.0 100) (cond (list_all is_value_byte p.0.1) (Some (Status n.0 p.0.1)) None) (Status code phrase) n.2 in
    let v = where_some (list_all is_value_byte p.0.1) (Some (Status n.0 p.0.1)) (Status code phrase) g.1 in
    let is : n.0 ≡ code = same_code n.0 code p.0.1 phrase (some_is (Status n.0 p.0.1) (Status code phrase) v.1) in
    let low = not_below n.0 g.0 in
    let high = (number_takes 699 p.0.0 n.0 w.1).1 in
    (omega arith, omega arith)

not_both : (method uri phrase : List ℕ) (code : ℕ) → Request method uri ≡ Status code phrase → ⊥
not_both method uri phrase code e = absurd cc

no_status : (line : List ℕ) (code : ℕ) (phrase : List ℕ) → request_at line ≡ Some (Status code phrase) → ⊥
unfolding request_at
no_status line code phrase e =
    let m = bind_some (token_at line) (λ m. after_byte 32 m.1 >>= λ u. split_once_at 32 u >>= λ p. request_of m.0 p.0 p.1) (Status code phrase) e in
    let u = bind_some (after_byte 32 m.0.1) (λ u. split_once_at 32 u >>= λ p. request_of m.0.0 p.0 p.1) (Status code phrase) m.2 in
    let p = bind_some (split_once_at 32 u.0) (λ p. request_of m.0.0 p.0 p.1) (Status code phrase) u.2 in
    let g = unless_some (length p.0.0 == 0) (cond (bytes_eq p.0.1 (codes "SIP/2.0")) (Some (Request m.0.0 p.0.0)) None) (Status code phrase) p.2 in
    let v = where_some (bytes_eq p.0.1 (codes "SIP/2.0")) (Some (Request m.0.0 p.0.0)) (Status code phrase) g.1 in
    not_both m.0.0 p.0.0 phrase code (some_is (Request m.0.0 p.0.0) (Status code phrase) v.1)

code_by : (o : Option (List ℕ)) (line : List ℕ) (code : ℕ) (phrase : List ℕ) → start_from o line ≡ Some (Status code phrase) → (100 ≤ code) × (code ≤ 699)
code_by None line code phrase e = absurd (no_status line code phrase e)
code_by (Some t) line code phrase e = status_within t code phrase e

code_within : (line : List ℕ) (code : ℕ) (phrase : List ℕ) → start_at line ≡ Some (Status code phrase) → (100 ≤ code) × (code ≤ 699)
unfolding start_at
code_within line code phrase e = code_by (after_text (codes "SIP/2.0 ") line) line code phrase e

pub read_code : (s : List ℕ) (m : Message Start) (code : ℕ) (phrase : List ℕ) → read_result s ≡ Ok m → m.start ≡ Status code phrase → (100 ≤ code) × (code ≤ 699)
read_code s m code phrase e is =
    code_within (start_text m.start) code phrase ((canonical s m e).start_in.reads_back ∙ ap (λ (x : Start). Some x) is)

-- ---- the body

length_is : (v body : List ℕ) (o : Option ℕ) → number_of (length body) v ≡ o → is_none o ≡ false → cut_body body o ≡ body → number_of (length body) v ≡ Some (length body)
length_is v body None e fits whole = absurd cc
length_is v body (Some n) e fits whole =
    let le : n ≤ length body = (number_takes (length body) v n e).1 in
    let len : length (take n body) ≡ n = omega (arith, length-take n body) in
    let same : n ≡ length body = sym len ∙ ap (λ (x : List ℕ). length x) whole in
    e ∙ ap (λ (k : ℕ). Some k) same

pub read_length : (s : List ℕ) (m : Message Start) (v : List ℕ) → read_result s ≡ Ok m → first_value (codes "Content-Length") m.lines ≡ Some v → number_of (length m.body) v ≡ Some (length m.body)
read_length s m v e there =
    let c = clean_read s m e in
    let fits : is_none (number_of (length m.body) v) ≡ false = rw there at (first_length m.start c.five (length m.body) [] m.lines refl c.clean) in
    let whole : cut_body m.body (number_of (length m.body) v) ≡ m.body = rw there at (canonical s m e).whole_body in
    length_is v m.body (number_of (length m.body) v) refl fits whole

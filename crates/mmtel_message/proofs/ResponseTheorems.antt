-- What is found by a name among the lines of a response, and its five fields.
use Rattle.std.proofs.Common.{◌≡◌, ◌==◌, ◌&&◌, ◌≤◌, ◌⊎◌, false, ℕ, List, [], ◌∷◌, ◌++◌, length, map, Option, Some, None, refl, sym, ap, subst, ◌∙◌, inl, inr, arith, append-nil, codes, decimal}
use Rattle.std.specs.Prelude.{nat_le}
use Rattle.std.proofs.lemmas.Bool.{cases_Bool}
use Rattle.std.proofs.lemmas.Bool.Decides.{nat_tests}
use Rattle.std.proofs.lemmas.List.Elements.{filter-append}
use Rattle.std.specs.Str.{str_eq_ignore_ascii_case, str_to_ascii_lowercase}
use Rattle.mmtel_base.specs.Chain.{◌>>=◌}
use Rattle.mmtel_base.proofs.ChainTheorems.{bind_some, some_is}
use Rattle.mmtel_lex.specs.Grammar.{IsToken}
use Rattle.mmtel_lex.specs.Reading.{name_addr_of}
use Rattle.mmtel_lex.specs.declared.values.NameAddr.{NameAddr}
use Rattle.mmtel_types.specs.declared.addrs.Addr.{Addr}
use Rattle.mmtel_message.specs.Faults.{is_method}
use Rattle.mmtel_message.specs.Fields.{call_in, first_part, five_at, only_value, parties_in, party_in, via_at, via_in}
use Rattle.mmtel_message.specs.Message.{Line, line, first_value, is_line, lines_named}
use Rattle.mmtel_message.specs.Guarantees.{IsOnly}
use Rattle.mmtel_message.specs.Replies.{bare_reply, reply_with}
use Rattle.mmtel_message.specs.Responses.{AddsNo, AddsNone, AreLinesWith, AreOthers, CanBeSent, IsSendable, Reply, added_lines, call_lines, completed_lines, contact_lines, copied_lines, five_of_response}
use Rattle.mmtel_message.specs.Responses.{makes_dialog, names_contact, own_fields, party_lines, refreshes_target, response, route_lines, tag_of_response, to_line, to_of_response, to_value, via_lines, via_of_response}
use Rattle.mmtel_message.specs.Vias.{completed_value}
use Rattle.mmtel_message.specs.declared.fields.Five.{Five}
use Rattle.mmtel_message.specs.declared.fields.Via.{Via}
use Rattle.mmtel_message.specs.declared.messages.Start.{Start}
use Rattle.mmtel_message.specs.declared.messages.Start.TheVariants.{Status}
use Rattle.mmtel_message.proofs.CanonicalTheorems.{only_kept, only_named}
use Rattle.mmtel_message.proofs.WalkTheorems.{first_named, head_value}
use Rattle.mmtel_message.proofs.ExpansionTheorems.{line_named, or_left}
use Rattle.mmtel_message.proofs.LineTheorems.{and_false}
use Rattle.mmtel_message.proofs.GuaranteeTheorems.{fields_are, named_none, parties_are}
use Rattle.mmtel_message.proofs.TagTheorems.{to_reads}
use Rattle.mmtel_message.proofs.ViaTheorems.{completed_is_one, completed_reads}

-- ---- lines of a name

pub cut : (X : List ℕ) (a b : List Line) → lines_named X (a ++ b) ≡ lines_named X a ++ lines_named X b
cut X a b = filter-append (λ (l : Line). is_line X l) a b

twice : (X : List ℕ) (ls : List Line) → lines_named X (lines_named X ls) ≡ lines_named X ls
twice X [] = refl
twice X (l ∷ ls) =
    elim (cases_Bool (is_line X l)) [
      | inl y ↦ rw (y, y, twice X ls) refl
      | inr n ↦ rw n (twice X ls)
    ]

-- the first name is not the second
abbrev pub IsOther : List ℕ → List ℕ → Type 0
IsOther X Y = str_eq_ignore_ascii_case Y X ≡ false

apart : (X Y : List ℕ) (ls : List Line) → IsOther X Y → lines_named X (lines_named Y ls) ≡ []
apart X Y [] other = refl
apart X Y (l ∷ ls) other =
    elim (cases_Bool (is_line Y l)) [
      | inl y ↦
          let q : str_to_ascii_lowercase l.0 ≡ str_to_ascii_lowercase Y = line_named Y l y in
          let not_x : is_line X l ≡ false = rw q other in
          rw (y, not_x) (apart X Y ls other)
      | inr n ↦ rw n (apart X Y ls other)
    ]

named_to : (X tag : List ℕ) (ls : List Line) → lines_named X (map (to_line tag) ls) ≡ map (to_line tag) (lines_named X ls)
named_to X tag [] = refl
named_to X tag (l ∷ ls) =
    elim (cases_Bool (is_line X l)) [
      | inl y ↦ rw (y, named_to X tag ls) refl
      | inr n ↦ rw (n, named_to X tag ls) refl
    ]

completed_none : (X : List ℕ) (source : Option Addr) (ls : List Line) → lines_named X ls ≡ [] → lines_named X (completed_lines source ls) ≡ []
completed_none X None ls e = e
completed_none X (Some source) [] e = refl
completed_none X (Some source) (l ∷ ls) e =
    elim (cases_Bool (is_line X l)) [
      | inl y ↦ let f = rw y at e in absurd cc
      | inr n ↦ rw n (rw n at e)
    ]

completed_all : (source : Option Addr) (ls : List Line) → lines_named (codes "Via") (completed_lines source (lines_named (codes "Via") ls)) ≡ completed_lines source (lines_named (codes "Via") ls)
completed_all None ls = twice (codes "Via") ls
completed_all (Some source) [] = refl
completed_all (Some source) (l ∷ ls) =
    elim (cases_Bool (is_line (codes "Via") l)) [
      | inl y ↦ rw (y, y, twice (codes "Via") ls) refl
      | inr n ↦ rw n (completed_all (Some source) ls)
    ]

-- ---- what the server adds has none of the request's five names

-- the names that none of the server's own lines has
record IsCopied (X : List ℕ) : Type 0 where
  route : IsOther X (codes "Record-Route")
  contact : IsOther X (codes "Contact")
  length : IsOther X (codes "Content-Length")

routes_none : (X : List ℕ) (code : ℕ) (start : Start) (ls : List Line) → IsOther X (codes "Record-Route") → lines_named X (route_lines code start ls) ≡ []
unfolding route_lines
routes_none X code start ls other =
    elim (cases_Bool (makes_dialog code start)) [
      | inl y ↦ rw y (apart X (codes "Record-Route") ls other)
      | inr n ↦ rw n refl
    ]

contact_none : (X : List ℕ) (code : ℕ) (start : Start) (contact : List ℕ) → IsOther X (codes "Contact") → lines_named X (contact_lines code start contact) ≡ []
unfolding contact_lines line
contact_none X code start contact other =
    elim (cases_Bool (names_contact code start)) [
      | inl y ↦ rw (y, other) refl
      | inr n ↦ rw n refl
    ]

pub one_none : (X name value : List ℕ) → IsOther X name → lines_named X (line name value) ≡ []
unfolding line
one_none X name value other = rw other refl

own_none : (X : List ℕ) (r : Reply) → IsOther X (codes "Content-Length") → AddsNo X r → lines_named X (own_fields r.passed r.named r.body) ≡ []
unfolding own_fields
own_none X r other none =
    let size : List ℕ = decimal (length r.body) in
    let last : List Line = line (codes "Content-Length") size in
    rw (cut X r.passed (r.named ++ last), cut X r.named last, named_none X r.passed none.0, named_none X r.named none.1, one_none X (codes "Content-Length") size other) refl

added_none : (X : List ℕ) (start : Start) (ls : List Line) (r : Reply) → IsCopied X → AddsNo X r → lines_named X (added_lines r.code start ls r.contact r.passed r.named r.body) ≡ []
unfolding added_lines
added_none X start ls r is none =
    let routes : List Line = route_lines r.code start ls in
    let contact : List Line = contact_lines r.code start r.contact in
    let own : List Line = own_fields r.passed r.named r.body in
    rw (cut X routes (contact ++ own), cut X contact own, routes_none X r.code start ls is.route, contact_none X r.code start r.contact is.contact, own_none X r is.length none) refl

-- ---- the lines that are as received

abbrev copied_parts : List ℕ → Option Addr → List ℕ → List Line → List Line
copied_parts X source tag ls =
    lines_named X (completed_lines source (lines_named (codes "Via") ls)) ++ ((lines_named X (lines_named (codes "From") ls) ++ map (to_line tag) (lines_named X (lines_named (codes "To") ls)))
    ++ (lines_named X (lines_named (codes "Call-ID") ls) ++ lines_named X (lines_named (codes "CSeq") ls)))

copied_is : (X : List ℕ) (source : Option Addr) (tag : List ℕ) (ls : List Line) → lines_named X (copied_lines source tag ls) ≡ copied_parts X source tag ls
unfolding copied_lines via_lines party_lines call_lines
copied_is X source tag ls =
    let vias : List Line = completed_lines source (lines_named (codes "Via") ls) in
    let from : List Line = lines_named (codes "From") ls in
    let to : List Line = map (to_line tag) (lines_named (codes "To") ls) in
    let id : List Line = lines_named (codes "Call-ID") ls in
    let cseq : List Line = lines_named (codes "CSeq") ls in
    rw (cut X vias ((from ++ to) ++ (id ++ cseq)), cut X (from ++ to) (id ++ cseq), cut X from to, cut X id cseq, named_to X tag (lines_named (codes "To") ls)) refl

via_none : (X : List ℕ) (source : Option Addr) (ls : List Line) → IsOther X (codes "Via") → lines_named X (completed_lines source (lines_named (codes "Via") ls)) ≡ []
via_none X source ls other = completed_none X source (lines_named (codes "Via") ls) (apart X (codes "Via") ls other)

copied_via : (source : Option Addr) (tag : List ℕ) (ls : List Line) → lines_named (codes "Via") (copied_lines source tag ls) ≡ completed_lines source (lines_named (codes "Via") ls)
copied_via source tag ls =
    copied_is (codes "Via") source tag ls ∙ rw (
      completed_all source ls,
      apart (codes "Via") (codes "From") ls refl,
      apart (codes "Via") (codes "To") ls refl,
      apart (codes "Via") (codes "Call-ID") ls refl,
      apart (codes "Via") (codes "CSeq") ls refl,
    ) (append-nil (completed_lines source (lines_named (codes "Via") ls)))

copied_from : (source : Option Addr) (tag : List ℕ) (ls : List Line) → lines_named (codes "From") (copied_lines source tag ls) ≡ lines_named (codes "From") ls
copied_from source tag ls =
    let from : List Line = lines_named (codes "From") ls in
    copied_is (codes "From") source tag ls ∙ rw (
      via_none (codes "From") source ls refl,
      twice (codes "From") ls,
      apart (codes "From") (codes "To") ls refl,
      apart (codes "From") (codes "Call-ID") ls refl,
      apart (codes "From") (codes "CSeq") ls refl,
    ) (append-nil (from ++ []) ∙ append-nil from)

copied_to : (source : Option Addr) (tag : List ℕ) (ls : List Line) → lines_named (codes "To") (copied_lines source tag ls) ≡ map (to_line tag) (lines_named (codes "To") ls)
copied_to source tag ls =
    copied_is (codes "To") source tag ls
    ∙ rw (via_none (codes "To") source ls refl, twice (codes "To") ls, apart (codes "To") (codes "From") ls refl, apart (codes "To") (codes "Call-ID") ls refl, apart (codes "To") (codes "CSeq") ls refl)
    (append-nil (map (to_line tag) (lines_named (codes "To") ls)))

copied_id : (source : Option Addr) (tag : List ℕ) (ls : List Line) → lines_named (codes "Call-ID") (copied_lines source tag ls) ≡ lines_named (codes "Call-ID") ls
copied_id source tag ls =
    copied_is (codes "Call-ID") source tag ls ∙ rw (
      via_none (codes "Call-ID") source ls refl,
      twice (codes "Call-ID") ls,
      apart (codes "Call-ID") (codes "From") ls refl,
      apart (codes "Call-ID") (codes "To") ls refl,
      apart (codes "Call-ID") (codes "CSeq") ls refl,
    ) (append-nil (lines_named (codes "Call-ID") ls))

copied_cseq : (source : Option Addr) (tag : List ℕ) (ls : List Line) → lines_named (codes "CSeq") (copied_lines source tag ls) ≡ lines_named (codes "CSeq") ls
copied_cseq source tag ls =
    copied_is (codes "CSeq") source tag ls
    ∙ rw (via_none (codes "CSeq") source ls refl, twice (codes "CSeq") ls, apart (codes "CSeq") (codes "From") ls refl, apart (codes "CSeq") (codes "To") ls refl, apart (codes "CSeq") (codes "Call-ID") ls refl) refl

-- ---- the lines of a response

in_response : (X : List ℕ) (start : Start) (ls : List Line) (r : Reply) (wanted : List Line) → IsCopied X → AddsNo X r →
    lines_named X (copied_lines r.source (tag_of_response r.code r.tag) ls) ≡ wanted → lines_named X (response start ls r).lines ≡ wanted
unfolding response
in_response X start ls r wanted is none e =
    cut X (copied_lines r.source (tag_of_response r.code r.tag) ls) (added_lines r.code start ls r.contact r.passed r.named r.body) ∙ rw (e, added_none X start ls r is none) (append-nil wanted)

pub via_of : (start : Start) (ls : List Line) (r : Reply) → AddsNone r → lines_named (codes "Via") (response start ls r).lines ≡ completed_lines r.source (lines_named (codes "Via") ls)
via_of start ls r none = in_response (codes "Via") start ls r (completed_lines r.source (lines_named (codes "Via") ls)) (record { route = refl; contact = refl; length = refl }) none.via
    (copied_via r.source (tag_of_response r.code r.tag) ls)

pub from_of : (start : Start) (ls : List Line) (r : Reply) → AddsNone r → lines_named (codes "From") (response start ls r).lines ≡ lines_named (codes "From") ls
from_of start ls r none = in_response (codes "From") start ls r (lines_named (codes "From") ls) (record { route = refl; contact = refl; length = refl }) (none.passed.from, none.named.from)
    (copied_from r.source (tag_of_response r.code r.tag) ls)

pub to_of : (start : Start) (ls : List Line) (r : Reply) → AddsNone r → lines_named (codes "To") (response start ls r).lines ≡ map (to_line (tag_of_response r.code r.tag)) (lines_named (codes "To") ls)
to_of start ls r none = in_response (codes "To") start ls r (map (to_line (tag_of_response r.code r.tag)) (lines_named (codes "To") ls)) (record { route = refl; contact = refl; length = refl })
    (none.passed.to, none.named.to) (copied_to r.source (tag_of_response r.code r.tag) ls)

pub id_of : (start : Start) (ls : List Line) (r : Reply) → AddsNone r → lines_named (codes "Call-ID") (response start ls r).lines ≡ lines_named (codes "Call-ID") ls
id_of start ls r none = in_response (codes "Call-ID") start ls r (lines_named (codes "Call-ID") ls) (record { route = refl; contact = refl; length = refl }) (none.passed.call_id, none.named.call_id)
    (copied_id r.source (tag_of_response r.code r.tag) ls)

pub cseq_of : (start : Start) (ls : List Line) (r : Reply) → AddsNone r → lines_named (codes "CSeq") (response start ls r).lines ≡ lines_named (codes "CSeq") ls
cseq_of start ls r none = in_response (codes "CSeq") start ls r (lines_named (codes "CSeq") ls) (record { route = refl; contact = refl; length = refl }) (none.passed.cseq, none.named.cseq)
    (copied_cseq r.source (tag_of_response r.code r.tag) ls)

-- ---- its five fields

first_via : (source : Option Addr) (hs : List Line) (v : List ℕ) (via : Via) → CanBeSent source → head_value hs ≡ Some v → via_at v ≡ Some via → via_at (first_part v) ≡ Some via →
    (w : List ℕ) × (head_value (completed_lines source hs) ≡ Some w) × (via_at (first_part w) ≡ Some (via_of_response source via))
first_via None hs v via can e is part = (v, e, part)
first_via (Some source) [] v via can e is part = absurd cc
first_via (Some source) (l ∷ hs) v via can e is part =
    let same : l.1 ≡ v = some_is l.1 v e in
    let read : via_at l.1 ≡ Some via = subst (λ (x : List ℕ). via_at x ≡ Some via) (sym same) is in
    (completed_value source l.1, refl, ap via_at (completed_is_one source l.1 via can read) ∙ completed_reads source l.1 via can read)

via_read : (start : Start) (ls : List Line) (r : Reply) (v : List ℕ) (via : Via) → AddsNone r → CanBeSent r.source → first_value (codes "Via") ls ≡ Some v → via_at v ≡ Some via →
    via_at (first_part v) ≡ Some via → via_in (response start ls r).lines ≡ Some (via_of_response r.source via)
via_read start ls r v via none can there is part =
    let f = first_via r.source (lines_named (codes "Via") ls) v via can (sym (first_named (codes "Via") ls) ∙ there) is part in
    let found : first_value (codes "Via") (response start ls r).lines ≡ Some f.0 = first_named (codes "Via") (response start ls r).lines ∙ (ap head_value (via_of start ls r none) ∙ f.1) in
    rw found f.2

abbrev OneLine : List Line → List ℕ → Type 0
OneLine hs v = (l : Line) × (hs ≡ l ∷ []) × (l.1 ≡ v)

one_line : (hs : List Line) (v : List ℕ) → head_value hs ≡ Some v → length hs ≡ 1 → OneLine hs v
one_line [] v e len = absurd cc
one_line (l ∷ []) v e len = (l, refl, some_is l.1 v e)
one_line (l ∷ k ∷ hs) v e len = absurd (omega arith)

tag_is : (code : ℕ) (tag : List ℕ) → (tag ≡ []) ⊎ IsToken tag → (tag_of_response code tag ≡ []) ⊎ IsToken (tag_of_response code tag)
tag_is code tag is =
    elim (cases_Bool (code == 100)) [
      | inl y ↦ rw y (inl refl)
      | inr n ↦ rw n is
    ]

to_read : (start : Start) (ls : List Line) (r : Reply) (v : List ℕ) (n : NameAddr) → AddsNone r → (r.tag ≡ []) ⊎ IsToken r.tag → IsOnly (codes "To") ls v → name_addr_of v ≡ Some n →
    party_in (codes "To") (response start ls r).lines ≡ Some (to_of_response (tag_of_response r.code r.tag) n)
to_read start ls r v n none tag only e =
    let due : List ℕ = tag_of_response r.code r.tag in
    let o = one_line (lines_named (codes "To") ls) v (sym (first_named (codes "To") ls) ∙ only.first) only.alone in
    let lines : lines_named (codes "To") (response start ls r).lines ≡ to_line due o.0 ∷ [] = to_of start ls r none ∙ ap (λ (x : List Line). map (to_line due) x) o.1 in
    let value : only_value (codes "To") (response start ls r).lines ≡ Some (to_value due o.0.1) = only_named (codes "To") (response start ls r).lines ∙ rw lines refl in
    let read : name_addr_of o.0.1 ≡ Some n = subst (λ (x : List ℕ). name_addr_of x ≡ Some n) (sym o.2) e in
    rw value (to_reads due o.0.1 n read (tag_is r.code r.tag tag))

from_read : (start : Start) (ls : List Line) (r : Reply) → AddsNone r → party_in (codes "From") (response start ls r).lines ≡ party_in (codes "From") ls
from_read start ls r none = ap (λ (o : Option (List ℕ)). o >>= λ v. name_addr_of v) (only_kept (codes "From") (response start ls r).lines ls (from_of start ls r none))

call_read : (start : Start) (ls : List Line) (r : Reply) → AddsNone r → call_in (response start ls r).lines ≡ call_in ls
unfolding call_in
call_read start ls r none =
    rw (only_kept (codes "Call-ID") (response start ls r).lines ls (id_of start ls r none), only_kept (codes "CSeq") (response start ls r).lines ls (cseq_of start ls r none)) refl

abbrev FiveParts : List Line → Five → Type 0
FiveParts ls five = (parties_in ls ≡ Some (five.from, five.to)) × (call_in ls ≡ Some (five.call_id, five.cseq))

five_parts : (ls : List Line) (five : Five) → five_at ls ≡ Some five → FiveParts ls five
unfolding five_at
five_parts ls five e =
    let a = bind_some (via_in ls) (λ via. parties_in ls >>= λ p. call_in ls >>= λ c. Some (record { via = via; from = p.0; to = p.1; call_id = c.0; cseq = c.1 })) five e in
    let p = bind_some (parties_in ls) (λ p. call_in ls >>= λ c. Some (record { via = a.0; from = p.0; to = p.1; call_id = c.0; cseq = c.1 })) five a.2 in
    let c = bind_some (call_in ls) (λ c. Some (record { via = a.0; from = p.0.0; to = p.0.1; call_id = c.0; cseq = c.1 })) five p.2 in
    let made : Five = record { via = a.0; from = p.0.0; to = p.0.1; call_id = c.0.0; cseq = c.0.1 } in
    subst (λ (x : Five). FiveParts ls x) (some_is made five c.2) (p.1, c.1)

parties_read : (start : Start) (ls : List Line) (r : Reply) (five : Five) → AddsNone r → (r.tag ≡ []) ⊎ IsToken r.tag → five_at ls ≡ Some five →
    parties_in (response start ls r).lines ≡ Some (five.from, to_of_response (tag_of_response r.code r.tag) five.to)
unfolding parties_in
parties_read start ls r five none tag e =
    let parties = parties_are ls (five.from, five.to) (five_parts ls five e).0 in
    let to = (fields_are ls five e).to in
    rw (from_read start ls r none, parties.0, to_read start ls r to.0 five.to none tag to.1 to.2) refl

pub response_five : (start : Start) (ls : List Line) (r : Reply) (five : Five) → IsSendable r → AreLinesWith five ls → five_at (response start ls r).lines ≡ Some (five_of_response r five)
unfolding five_at
response_five start ls r five can is =
    let f = (fields_are ls five is.five_in).via in
    let same : f.0 ≡ is.via = some_is f.0 is.via (sym f.1 ∙ is.via_in) in
    let part : via_at (first_part is.via) ≡ Some five.via = subst (λ (x : List ℕ). via_at (first_part x) ≡ Some five.via) same f.2 in
    rw (
      via_read start ls r is.via five.via can.none can.source is.via_in is.via_read part,
      parties_read start ls r five can.none can.tag is.five_in,
      call_read start ls r can.none,
      (five_parts ls five is.five_in).1,
    ) refl

-- ---- a response without a Contact of the server

over : (code : ℕ) → 300 ≤ code → (nat_le code 299 ≡ false) × ((code == 200) ≡ false) × ((code == 202) ≡ false)
over code le = (grind (arith, nat_tests), grind (arith, nat_tests), grind (arith, nat_tests))

pub late : (code : ℕ) (start : Start) → 300 ≤ code → names_contact code start ≡ false
late code start le =
    let o = over code le in
    rw (o.0, o.1, o.2, and_false (nat_le 101 code), and_false (nat_le 200 code)) refl

status_none : (code n : ℕ) (phrase : List ℕ) → names_contact code (Status n phrase) ≡ false
status_none code n phrase = rw (
  and_false (nat_le 101 code && nat_le code 299),
  and_false (code == 200),
  and_false (code == 202),
  and_false (nat_le 200 code && nat_le code 299),
) refl

added_same : (code : ℕ) (a b : Start) (ks ls : List Line) (contact : List ℕ) (passed more : List Line) (body : List ℕ) → names_contact code a ≡ false → names_contact code b ≡ false →
    added_lines code a ks contact passed more body ≡ added_lines code b ls contact passed more body
unfolding added_lines route_lines contact_lines
added_same code a b ks ls contact passed more body x y =
    let in_a = or_left (makes_dialog code a) (refreshes_target code a) x in
    let in_b = or_left (makes_dialog code b) (refreshes_target code b) y in
    rw (x, y, in_a.0, in_b.0) refl

pub bare_is : (start : Start) (code : ℕ) (phrase : List ℕ) (ls : List Line) → names_contact code start ≡ false → response start ls (bare_reply code phrase) ≡ reply_with code phrase ls
unfolding response reply_with
bare_is start code phrase ls none =
    let added = added_same code start (Status code phrase) ls ls [] [] [] [] none (status_none code code phrase) in
    rw added refl

plain_to : (ls : List Line) → map (to_line []) ls ≡ ls
plain_to [] = refl
plain_to (l ∷ ls) = rw (plain_to ls) refl

no_tag : (code : ℕ) → tag_of_response code [] ≡ []
no_tag code =
    elim (cases_Bool (code == 100)) [
      | inl y ↦ rw y refl
      | inr n ↦ rw n refl
    ]

adds_none : (code : ℕ) (phrase : List ℕ) → AddsNone (bare_reply code phrase)
adds_none code phrase =
    let no_lines : AreOthers [] = record { from = refl; to = refl; call_id = refl; cseq = refl } in
    record { via = (refl, refl); passed = no_lines; named = no_lines }

copied_same : (source : Option Addr) (tag : List ℕ) (ks ls : List Line) → lines_named (codes "Via") ks ≡ lines_named (codes "Via") ls → lines_named (codes "From") ks ≡ lines_named (codes "From") ls →
    lines_named (codes "To") ks ≡ lines_named (codes "To") ls → lines_named (codes "Call-ID") ks ≡ lines_named (codes "Call-ID") ls → lines_named (codes "CSeq") ks ≡ lines_named (codes "CSeq") ls →
    copied_lines source tag ks ≡ copied_lines source tag ls
unfolding copied_lines via_lines party_lines call_lines
copied_same source tag ks ls v f t i c = rw (v, f, t, i, c) refl

reply_copied : (source : Option Addr) (tag : List ℕ) (code : ℕ) (phrase : List ℕ) (ls : List Line) → copied_lines source tag (reply_with code phrase ls).lines ≡ copied_lines source tag ls
unfolding reply_with
reply_copied source tag code phrase ls =
    let r : Reply = bare_reply code phrase in
    let none = adds_none code phrase in
    let to : lines_named (codes "To") (response (Status code phrase) ls (bare_reply code phrase)).lines ≡ lines_named (codes "To") ls =
    to_of (Status code phrase) ls r none ∙ rw (no_tag code) (plain_to (lines_named (codes "To") ls)) in
    copied_same source tag (response (Status code phrase) ls r).lines ls (via_of (Status code phrase) ls r none) (from_of (Status code phrase) ls r none) to (id_of (Status code phrase) ls r none)
    (cseq_of (Status code phrase) ls r none)

pub completed_again : (a b : Start) (code : ℕ) (phrase : List ℕ) (ls : List Line) (r : Reply) → names_contact r.code a ≡ false → names_contact r.code b ≡ false →
    response a (reply_with code phrase ls).lines r ≡ response b ls r
unfolding response
completed_again a b code phrase ls r x y =
    rw (reply_copied r.source (tag_of_response r.code r.tag) code phrase ls, added_same r.code a b (reply_with code phrase ls).lines ls r.contact r.passed r.named r.body x y) refl

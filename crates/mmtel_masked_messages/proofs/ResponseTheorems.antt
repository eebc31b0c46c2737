-- The response to a masked request is that to the request, except for From.
use Rattle.std.proofs.Common.{◌≡◌, ℕ, List, [], ◌∷◌, ◌++◌, refl, sym, ap, ◌∙◌, Bool, true, false, not, ◌||◌, Option, Some, None, codes, cond, map}
use Rattle.std.specs.Prelude.{decimal, filter, length}
use Rattle.std.specs.List.{list_all}
use Rattle.std.specs.Str.{str_eq_ignore_ascii_case}
use Rattle.std.proofs.lemmas.Grind.{flat_map-append}
use Rattle.std.proofs.lemmas.List.Elements.{filter-append}
use Rattle.mmtel_message.specs.Faults.{is_request}
use Rattle.mmtel_message.specs.Message.{Line, Message, has_line, is_line, line, lines_named}
use Rattle.mmtel_message.specs.Responses.{AddsNo, Reply, added_lines, call_lines, completed_line, completed_lines, contact_lines, copied_lines, makes_dialog}
use Rattle.mmtel_message.specs.Responses.{names_contact, own_fields, party_lines, response, route_lines, tag_of_response, to_line, to_value, via_lines}
use Rattle.mmtel_message.specs.Vias.{completed_value}
use Rattle.mmtel_message.specs.declared.messages.Start.{Start}
use Rattle.mmtel_message.specs.declared.messages.Start.TheVariants.{Status}
use Rattle.mmtel_transaction.specs.Heads.{head_of}
use Rattle.mmtel_transaction.specs.HeadsRead.{HeadsRestOnFiveNames, start_read}
use Rattle.mmtel_types.specs.declared.addrs.Addr.{Addr}
use Rattle.mmtel_trust.specs.Kinds.{HeaderGroup, header_groups, is_among, kind_in, kind_of, single_headers}
use Rattle.mmtel_trust.specs.PrivateFields.{PrivateFields, hide_if, keeps_values, masked_line, masked_lines, masked_message, masked_value, private_fields_in, redirects}
use Rattle.mmtel_trust.specs.declared.kinds.HeaderKind.{HeaderKind}
use Rattle.mmtel_trust.specs.declared.kinds.HeaderKind.TheVariants.{From, To, Contact, Asserted, Served, Privacy, History, Options, Session, Passed, Personal, Trusted, Other}
use Rattle.mmtel_trust.proofs.ByName.{named-changed, named_inside}
use Rattle.mmtel_trust.proofs.ParsedTheorems.{call_id_kept, cseq_kept, via_kept, way_kept}
use Rattle.mmtel_trust.proofs.IndexKeeping.{from_value, kind_like, named-masked}
use Rattle.mmtel_trust.proofs.Masked.{lines_again}
use Rattle.mmtel_base.proofs.Runs.{and_true}
use Rattle.mmtel_masked_messages.specs.Heads.{LinesKeepTheirHead, message_of_lines}
use Rattle.mmtel_masked_messages.specs.Responses.{AreNoOwnFields, EquivalentResponsesAreEqual, EquivalentResponsesHaveOneHead}
use Rattle.mmtel_masked_messages.specs.Responses.{RelayedHaveOneHead, ResponsesAreMasked, ResponsesSeeOnlyFrom, private_from, with_passed_lines}

-- ---- which lines of a request stay

pub same_if : (b c : Bool) → cond b c c ≡ c
same_if true c = refl
same_if false c = refl

pub from_kept : (p : PrivateFields) → p.from ≡ false → keeps_values p (kind_of (codes "From")) ≡ true
unfolding kind_of
from_kept p e = rw e refl

pub to_kept : (p : PrivateFields) → p.to ≡ false → keeps_values p (kind_of (codes "To")) ≡ true
unfolding kind_of
to_kept p e = rw e refl

-- To of a request is not private
pub request_to : (p : PrivateFields) (start : Start) → is_request start ≡ true → (private_fields_in start p).to ≡ false
request_to p start e = rw e refl

-- a response depends on the lines of six names of its request
by_names : (start : Start) (ls ks : List Line) (r : Reply) → lines_named (codes "Via") ls ≡ lines_named (codes "Via") ks → lines_named (codes "From") ls ≡ lines_named (codes "From") ks →
    lines_named (codes "To") ls ≡ lines_named (codes "To") ks
    → lines_named (codes "Call-ID") ls ≡ lines_named (codes "Call-ID") ks → lines_named (codes "CSeq") ls ≡ lines_named (codes "CSeq") ks → lines_named (codes "Record-Route") ls
    ≡ lines_named (codes "Record-Route") ks → response start ls r ≡ response start ks r
unfolding response copied_lines added_lines via_lines party_lines call_lines route_lines
by_names start ls ks r via from to id cseq way = rw (via, from, to, id, cseq, way) refl

-- two masks of a request that hide From in the same way give the same response
equal_masks : (p q : PrivateFields) (start : Start) (ls : List Line) (r : Reply) → p.to ≡ false → q.to ≡ false → p.from ≡ q.from → response start (masked_lines p ls) r ≡ response start (masked_lines q ls) r
equal_masks p q start ls r a b same =
    by_names start (masked_lines p ls) (masked_lines q ls) r
    (named-masked p (codes "Via") ls (via_kept p) ∙ sym (named-masked q (codes "Via") ls (via_kept q)))
    (named-changed p (codes "From") (hide_if p.from) (from_value p) ls ∙
    (ap (λ (x : Bool). map (λ (l : Line). (l.0, hide_if x l.1)) (lines_named (codes "From") ls)) same ∙ sym (named-changed q (codes "From") (hide_if q.from) (from_value q) ls)))
    (named-masked p (codes "To") ls (to_kept p a) ∙ sym (named-masked q (codes "To") ls (to_kept q b)))
    (named-masked p (codes "Call-ID") ls (call_id_kept p) ∙ sym (named-masked q (codes "Call-ID") ls (call_id_kept q)))
    (named-masked p (codes "CSeq") ls (cseq_kept p) ∙ sym (named-masked q (codes "CSeq") ls (cseq_kept q)))
    (named-masked p (codes "Record-Route") ls (way_kept p) ∙ sym (named-masked q (codes "Record-Route") ls (way_kept q)))

pub see_from_alone : ResponsesSeeOnlyFrom
see_from_alone p start ls r e = equal_masks (private_fields_in start p) (private_from p.from) start ls r (request_to p start e) refl refl

-- where From is not private either, the response is that to the request
stays : (p : PrivateFields) (start : Start) (ls : List Line) (r : Reply) → p.to ≡ false → p.from ≡ false → response start (masked_lines p ls) r ≡ response start ls r
stays p start ls r a b =
    by_names start (masked_lines p ls) ls r
    (named-masked p (codes "Via") ls (via_kept p))
    (named-masked p (codes "From") ls (from_kept p b))
    (named-masked p (codes "To") ls (to_kept p a))
    (named-masked p (codes "Call-ID") ls (call_id_kept p))
    (named-masked p (codes "CSeq") ls (cseq_kept p))
    (named-masked p (codes "Record-Route") ls (way_kept p))

pub equal : EquivalentResponsesAreEqual
equal p q m n r e a b same =
    sym (stays (private_fields_in m.start p) m.start m.lines r (request_to p m.start e) a)
    ∙ (ap (λ (x : Message Start). response x.start x.lines r) same
    ∙ stays (private_fields_in n.start q) n.start n.lines r (request_to q n.start (ap (λ (x : Message Start). is_request x.start) (sym same) ∙ e)) b)

-- ---- masking of From alone

abbrev is_from : HeaderKind → Bool
is_from From = true
is_from To = false
is_from Contact = false
is_from Asserted = false
is_from Served = false
is_from Privacy = false
is_from History = false
is_from Options = false
is_from Session = false
is_from Passed = false
is_from Personal = false
is_from Trusted = false
is_from Other = false

never_from : (rows : List HeaderGroup) → list_all (λ row. not (is_from row.kind)) rows ≡ true → (name : List ℕ) → is_from (kind_in rows name) ≡ false
never_from [] none name = refl
never_from (row ∷ rows) none name =
    let both = and_true (not (is_from row.kind)) (list_all (λ row. not (is_from row.kind)) rows) none in
    either (is_among row.names name) (is_from row.kind) both.0 refl (never_from rows both.1 name)
  where
    either : (b c : Bool) → not c ≡ true → is_from row.kind ≡ c → is_from (kind_in rows name) ≡ false → is_from (cond b row.kind (kind_in rows name)) ≡ false
    either true true n e ih = absurd cc
    either true false n e ih = e
    either false c n e ih = ih

abbrev behind_first : List HeaderGroup → List HeaderGroup
behind_first [] = []
behind_first (row ∷ rows) = rows

other_kind : (name : List ℕ) → str_eq_ignore_ascii_case name (codes "From") ≡ false → is_from (kind_of name) ≡ false
unfolding kind_of
other_kind name e = rw e (never_from (behind_first (single_headers ++ header_groups)) refl name)

alone_value : (b : Bool) (k : HeaderKind) (v : List ℕ) → is_from k ≡ false → masked_value (private_from b) k v ≡ Some v
alone_value b From v e = absurd cc
alone_value b To v e = refl
alone_value b Contact v e = refl
alone_value b Asserted v e = refl
alone_value b Served v e = refl
alone_value b Privacy v e = refl
alone_value b History v e = refl
alone_value b Options v e = refl
alone_value b Session v e = refl
alone_value b Passed v e = refl
alone_value b Personal v e = refl
alone_value b Trusted v e = refl
alone_value b Other v e = refl

-- a line of another name stays
line_stays : (b : Bool) (name v : List ℕ) → str_eq_ignore_ascii_case name (codes "From") ≡ false → masked_line (private_from b) (name, v) ≡ (name, v) ∷ []
unfolding masked_line
line_stays b name v e = rw (alone_value b (kind_of name) v (other_kind name e)) refl

or_false : (a b : Bool) → (a || b) ≡ false → (a ≡ false) × (b ≡ false)
or_false true b e = absurd cc
or_false false b e = (refl, e)

lines_stay : (b : Bool) (ls : List Line) → has_line (codes "From") ls ≡ false → masked_lines (private_from b) ls ≡ ls
lines_stay b [] e = refl
lines_stay b (l ∷ ls) e =
    let each = or_false (is_line (codes "From") l) (has_line (codes "From") ls) e in
    rw (line_stays b l.0 l.1 each.0, lines_stay b ls each.1) refl

-- a line of this name is no From
apart : (name : List ℕ) (l : Line) → is_from (kind_of name) ≡ false → is_line name l ≡ true → (v : List ℕ) (b : Bool) → masked_line (private_from b) (l.0, v) ≡ (l.0, v) ∷ []
unfolding masked_line
apart name l never is v b = rw (alone_value b (kind_of l.0) v (ap is_from (kind_like l.0 name is) ∙ never)) refl

-- so lines of the name stay, with whatever value
named_stay : (b : Bool) (name : List ℕ) (f : Line → List ℕ) (ls : List Line) → is_from (kind_of name) ≡ false
    → masked_lines (private_from b) (map (λ l. (l.0, f l)) (lines_named name ls)) ≡ map (λ l. (l.0, f l)) (lines_named name ls)
named_stay b name f [] never = refl
named_stay b name f (l ∷ ls) never = either (is_line name l) refl (named_stay b name f ls never)
  where
    either : (c : Bool) → is_line name l ≡ c → masked_lines (private_from b) (map (λ x. (x.0, f x)) (lines_named name ls)) ≡ map (λ x. (x.0, f x)) (lines_named name ls) →
        masked_lines (private_from b) (map (λ x. (x.0, f x)) (cond c (l ∷ lines_named name ls) (lines_named name ls))) ≡ map (λ x. (x.0, f x)) (cond c (l ∷ lines_named name ls) (lines_named name ls))
    either true is ih = rw (apart name l never is (f l) b) (ap (λ (xs : List Line). (l.0, f l) ∷ xs) ih)
    either false is ih = ih

kept_stay : (b : Bool) (name : List ℕ) (ls : List Line) → keeps_values (private_from b) (kind_of name) ≡ true → masked_lines (private_from b) (lines_named name ls) ≡ lines_named name ls
kept_stay b name ls kept = sym (named_inside (private_from b) name ls) ∙ named-masked (private_from b) name ls kept

never_via : is_from (kind_of (codes "Via")) ≡ false
unfolding kind_of
never_via = refl

never_to : is_from (kind_of (codes "To")) ≡ false
unfolding kind_of
never_to = refl

-- ---- the parts of a response, with From masked

vias_stay : (b : Bool) (source : Option Addr) (ls : List Line) → masked_lines (private_from b) (completed_lines source (lines_named (codes "Via") ls)) ≡ completed_lines source (lines_named (codes "Via") ls)
vias_stay b None ls = kept_stay b (codes "Via") ls (via_kept (private_from b))
vias_stay b (Some source) [] = refl
vias_stay b (Some source) (l ∷ ls) = either (is_line (codes "Via") l) refl (vias_stay b (Some source) ls)
  where
    either : (c : Bool) → is_line (codes "Via") l ≡ c → masked_lines (private_from b) (completed_lines (Some source) (lines_named (codes "Via") ls)) ≡ completed_lines (Some source) (lines_named (codes "Via") ls) →
        masked_lines (private_from b) (completed_lines (Some source) (cond c (l ∷ lines_named (codes "Via") ls) (lines_named (codes "Via") ls)))
        ≡ completed_lines (Some source) (cond c (l ∷ lines_named (codes "Via") ls) (lines_named (codes "Via") ls))
    either true is ih = rw (apart (codes "Via") l never_via is (completed_value source l.1) b) (ap (λ (xs : List Line). completed_line source l ∷ xs) (kept_stay b (codes "Via") ls (via_kept (private_from b))))
    either false is ih = ih

vias : (b : Bool) (source : Option Addr) (ls : List Line) → masked_lines (private_from b) (via_lines source ls) ≡ via_lines source (masked_lines (private_from b) ls)
unfolding via_lines
vias b source ls = vias_stay b source ls ∙ ap (λ (xs : List Line). completed_lines source xs) (sym (named-masked (private_from b) (codes "Via") ls (via_kept (private_from b))))

two : (p : PrivateFields) (xs ys us vs : List Line) → masked_lines p xs ≡ us → masked_lines p ys ≡ vs → masked_lines p (xs ++ ys) ≡ us ++ vs
two p xs ys us vs x y = flat_map-append (masked_line p) xs ys ∙ (ap (λ (l : List Line). l ++ masked_lines p ys) x ∙ ap (λ (l : List Line). us ++ l) y)

parties : (b : Bool) (tag : List ℕ) (ls : List Line) → masked_lines (private_from b) (party_lines tag ls) ≡ party_lines tag (masked_lines (private_from b) ls)
unfolding party_lines
parties b tag ls = two (private_from b) (lines_named (codes "From") ls) (map (to_line tag) (lines_named (codes "To") ls)) (lines_named (codes "From") (masked_lines (private_from b) ls))
    (map (to_line tag) (lines_named (codes "To") (masked_lines (private_from b) ls)))
    (sym (named_inside (private_from b) (codes "From") ls))
    (named_stay b (codes "To") (λ l. to_value tag l.1) ls never_to ∙ ap (map (to_line tag)) (sym (named-masked (private_from b) (codes "To") ls (to_kept (private_from b) refl))))

calls : (b : Bool) (ls : List Line) → masked_lines (private_from b) (call_lines ls) ≡ call_lines (masked_lines (private_from b) ls)
unfolding call_lines
calls b ls = two (private_from b) (lines_named (codes "Call-ID") ls) (lines_named (codes "CSeq") ls) (lines_named (codes "Call-ID") (masked_lines (private_from b) ls))
    (lines_named (codes "CSeq") (masked_lines (private_from b) ls))
    (sym (named_inside (private_from b) (codes "Call-ID") ls)) (sym (named_inside (private_from b) (codes "CSeq") ls))

routes : (b : Bool) (code : ℕ) (start : Start) (ls : List Line) → masked_lines (private_from b) (route_lines code start ls) ≡ route_lines code start (masked_lines (private_from b) ls)
unfolding route_lines
routes b code start ls = either (makes_dialog code start)
  where
    either : (c : Bool) → masked_lines (private_from b) (cond c (lines_named (codes "Record-Route") ls) []) ≡ cond c (lines_named (codes "Record-Route") (masked_lines (private_from b) ls)) []
    either true = sym (named_inside (private_from b) (codes "Record-Route") ls)
    either false = refl

contacts : (b : Bool) (code : ℕ) (start : Start) (contact : List ℕ) → masked_lines (private_from b) (contact_lines code start contact) ≡ contact_lines code start contact
unfolding contact_lines line
contacts b code start contact = either (names_contact code start)
  where
    either : (c : Bool) → masked_lines (private_from b) (cond c ((codes "Contact", contact) ∷ []) []) ≡ cond c ((codes "Contact", contact) ∷ []) []
    either true = lines_stay b ((codes "Contact", contact) ∷ []) refl
    either false = refl

owns : (b : Bool) (r : Reply) → AddsNo (codes "From") r → masked_lines (private_from b) (own_fields r.passed r.named r.body) ≡ own_fields r.passed r.named r.body
unfolding own_fields line
owns b r none =
    two (private_from b) r.passed (r.named ++ (codes "Content-Length", decimal (length r.body)) ∷ []) r.passed (r.named ++ (codes "Content-Length", decimal (length r.body)) ∷ [])
    (lines_stay b r.passed none.0)
    (two (private_from b) r.named ((codes "Content-Length", decimal (length r.body)) ∷ []) r.named ((codes "Content-Length", decimal (length r.body)) ∷ [])
    (lines_stay b r.named none.1)
    (lines_stay b ((codes "Content-Length", decimal (length r.body)) ∷ []) refl))

parsed_masked : (b : Bool) (source : Option Addr) (tag : List ℕ) (ls : List Line) → masked_lines (private_from b) (copied_lines source tag ls) ≡ copied_lines source tag (masked_lines (private_from b) ls)
unfolding copied_lines
parsed_masked b source tag ls =
    let ks : List Line = masked_lines (private_from b) ls in
    two (private_from b) (via_lines source ls) (party_lines tag ls ++ call_lines ls) (via_lines source ks) (party_lines tag ks ++ call_lines ks)
    (vias b source ls)
    (two (private_from b) (party_lines tag ls) (call_lines ls) (party_lines tag ks) (call_lines ks) (parties b tag ls) (calls b ls))

added_masked : (b : Bool) (start : Start) (ls : List Line) (r : Reply) → AddsNo (codes "From") r
    → masked_lines (private_from b) (added_lines r.code start ls r.contact r.passed r.named r.body) ≡ added_lines r.code start (masked_lines (private_from b) ls) r.contact r.passed r.named r.body
unfolding added_lines
added_masked b start ls r none =
    two (private_from b) (route_lines r.code start ls) (contact_lines r.code start r.contact ++ own_fields r.passed r.named r.body) (route_lines r.code start (masked_lines (private_from b) ls))
    (contact_lines r.code start r.contact ++ own_fields r.passed r.named r.body)
    (routes b r.code start ls)
    (two (private_from b) (contact_lines r.code start r.contact) (own_fields r.passed r.named r.body) (contact_lines r.code start r.contact)
    (own_fields r.passed r.named r.body) (contacts b r.code start r.contact) (owns b r none))

-- a response starts with a status: its To is private nowhere, and its Contact where it redirects or not
private_fields_of_status : (b : Bool) (code : ℕ) (phrase : List ℕ) → private_fields_in (Status code phrase) (private_from b) ≡ private_from b
private_fields_of_status b code phrase = rw (same_if (redirects (Status code phrase)) false) refl

response_masked : (b : Bool) (start : Start) (ls : List Line) (r : Reply) → AddsNo (codes "From") r → masked_message (private_from b) (response start ls r) ≡ response start (masked_lines (private_from b) ls) r
unfolding response
response_masked b start ls r none =
    let tag : List ℕ = tag_of_response r.code r.tag in
    let ks : List Line = masked_lines (private_from b) ls in
    ap (λ (p : PrivateFields). message_of_lines (Status r.code r.phrase) (masked_lines p (response start ls r).lines) r.body) (private_fields_of_status b r.code r.phrase)
    ∙ ap (λ (l : List Line). message_of_lines (Status r.code r.phrase) l r.body)
    (two (private_from b) (copied_lines r.source tag ls) (added_lines r.code start ls r.contact r.passed r.named r.body) (copied_lines r.source tag ks) (added_lines r.code start ks r.contact r.passed r.named r.body)
    (parsed_masked b r.source tag ls) (added_masked b start ls r none))

pub are_masked : ResponsesAreMasked
are_masked p start ls r e none = see_from_alone p start ls r e ∙ sym (response_masked p.from start ls r none)

-- ---- the same head

-- the response, with these lines in the place of From
abbrev with_from : Start → List Line → Reply → List Line → List Line
with_from start ls r xs = (via_lines r.source ls ++ ((xs ++ map (to_line (tag_of_response r.code r.tag)) (lines_named (codes "To") ls)) ++ call_lines ls)) ++ added_lines r.code start ls r.contact r.passed r.named r.body

by_from : (start : Start) (ls : List Line) (r : Reply) → response start ls r ≡ message_of_lines (Status r.code r.phrase) (with_from start ls r (lines_named (codes "From") ls)) r.body
unfolding response copied_lines party_lines
by_from start ls r = refl

masked_by_from : (b : Bool) (start : Start) (ls : List Line) (r : Reply)
    → response start (masked_lines (private_from b) ls) r ≡ message_of_lines (Status r.code r.phrase) (with_from start ls r (lines_named (codes "From") (masked_lines (private_from b) ls))) r.body
unfolding response copied_lines party_lines via_lines call_lines added_lines route_lines
masked_by_from b start ls r =
    rw (
      named-masked (private_from b) (codes "Via") ls (via_kept (private_from b)),
      named-masked (private_from b) (codes "To") ls (to_kept (private_from b) refl),
      named-masked (private_from b) (codes "Call-ID") ls (call_id_kept (private_from b)),
      named-masked (private_from b) (codes "CSeq") ls (cseq_kept (private_from b)),
      named-masked (private_from b) (codes "Record-Route") ls (way_kept (private_from b)),
    ) refl

-- lines that are equal when masked stay so between others
ahead : (p : PrivateFields) (xs ys us : List Line) → masked_lines p xs ≡ masked_lines p ys → masked_lines p (xs ++ us) ≡ masked_lines p (ys ++ us)
ahead p xs ys us e = two p xs us (masked_lines p ys) (masked_lines p us) e refl ∙ sym (flat_map-append (masked_line p) ys us)

behind : (p : PrivateFields) (us xs ys : List Line) → masked_lines p xs ≡ masked_lines p ys → masked_lines p (us ++ xs) ≡ masked_lines p (us ++ ys)
behind p us xs ys e = two p us xs (masked_lines p us) (masked_lines p ys) refl e ∙ sym (flat_map-append (masked_line p) us ys)

within : (p : PrivateFields) (us xs ys vs ws zs : List Line) → masked_lines p xs ≡ masked_lines p ys → masked_lines p ((us ++ ((xs ++ vs) ++ ws)) ++ zs) ≡ masked_lines p ((us ++ ((ys ++ vs) ++ ws)) ++ zs)
within p us xs ys vs ws zs e =
    ahead p (us ++ ((xs ++ vs) ++ ws)) (us ++ ((ys ++ vs) ++ ws)) zs
    (behind p us ((xs ++ vs) ++ ws) ((ys ++ vs) ++ ws) (ahead p (xs ++ vs) (ys ++ vs) ws (ahead p xs ys vs e)))

-- From is hidden once or not at all, and then hidden
from_again : (b : Bool) (ls : List Line) → masked_lines (private_from true) (lines_named (codes "From") (masked_lines (private_from b) ls)) ≡ masked_lines (private_from true) (lines_named (codes "From") ls)
from_again true ls = ap (masked_lines (private_from true)) (named_inside (private_from true) (codes "From") ls) ∙ lines_again (private_from true) (lines_named (codes "From") ls)
from_again false ls = ap (masked_lines (private_from true)) (named-masked (private_from false) (codes "From") ls (from_kept (private_from false) refl))

-- ---- what is passed on

pub later : (name : List ℕ) (us xs ys : List Line) → lines_named name xs ≡ lines_named name ys → lines_named name (us ++ xs) ≡ lines_named name (us ++ ys)
later name us xs ys e =
    let P : Line → Bool = λ l. is_line name l in
    filter-append P us xs ∙ (ap (λ (l : List Line). filter P us ++ l) e ∙ sym (filter-append P us ys))

-- such lines do not matter for look-ups by those names
pub unseen : (name : List ℕ) (xs ys us : List Line) → lines_named name xs ≡ [] → lines_named name ys ≡ [] → lines_named name (xs ++ us) ≡ lines_named name (ys ++ us)
unseen name xs ys us x y =
    let P : Line → Bool = λ l. is_line name l in
    filter-append P xs us ∙ (ap (λ (l : List Line). l ++ filter P us) (x ∙ sym y) ∙ sym (filter-append P ys us))

passed_named : (start : Start) (ls : List Line) (r : Reply) (xs ys : List Line) (name : List ℕ) → lines_named name xs ≡ [] → lines_named name ys ≡ []
    → lines_named name (response start ls (with_passed_lines xs r)).lines ≡ lines_named name (response start ls (with_passed_lines ys r)).lines
unfolding response added_lines own_fields
passed_named start ls r xs ys name x y =
    let tail : List Line = r.named ++ line (codes "Content-Length") (decimal (length r.body)) in
    later name (copied_lines r.source (tag_of_response r.code r.tag) ls) (route_lines r.code start ls ++ (contact_lines r.code start r.contact ++ (xs ++ tail)))
    (route_lines r.code start ls ++ (contact_lines r.code start r.contact ++ (ys ++ tail)))
    (later name (route_lines r.code start ls) (contact_lines r.code start r.contact ++ (xs ++ tail)) (contact_lines r.code start r.contact ++ (ys ++ tail))
    (later name (contact_lines r.code start r.contact) (xs ++ tail) (ys ++ tail) (unseen name xs ys tail x y)))

response_starts : (start : Start) (ls : List Line) (r : Reply) → (response start ls r).start ≡ Status r.code r.phrase
unfolding response
response_starts start ls r = refl

-- ---- heads, where they do not depend on masks and depend only on lines of five names

module _ (keep : LinesKeepTheirHead) (five : HeadsRestOnFiveNames) where
  -- messages whose lines are equal when masked have the same head
  same_head : (p : PrivateFields) (start : Start) (xs ys : List Line) (body : List ℕ) → masked_lines p xs ≡ masked_lines p ys → head_of (message_of_lines start xs body) ≡ head_of (message_of_lines start ys body)
  same_head p start xs ys body e = sym (keep p start xs body body) ∙ (ap (λ (l : List Line). head_of (message_of_lines start l body)) e ∙ keep p start ys body body)

  alone_head : (b : Bool) (start : Start) (ls : List Line) (r : Reply) → head_of (response start (masked_lines (private_from b) ls) r) ≡ head_of (response start ls r)
  alone_head b start ls r =
      let F : List Line = lines_named (codes "From") ls in
      let G : List Line = lines_named (codes "From") (masked_lines (private_from b) ls) in
      ap (λ (x : Message Start). head_of x) (masked_by_from b start ls r)
      ∙ (same_head (private_from true) (Status r.code r.phrase) (with_from start ls r G) (with_from start ls r F) r.body
      (within (private_from true) (via_lines r.source ls) G F (map (to_line (tag_of_response r.code r.tag)) (lines_named (codes "To") ls)) (call_lines ls)
      (added_lines r.code start ls r.contact r.passed r.named r.body) (from_again b ls))
      ∙ ap (λ (x : Message Start). head_of x) (sym (by_from start ls r)))

  masked_head : (p : PrivateFields) (m : Message Start) (r : Reply) → is_request m.start ≡ true → head_of (response m.start (masked_message p m).lines r) ≡ head_of (response m.start m.lines r)
  masked_head p m r e = ap (λ (x : Message Start). head_of x) (see_from_alone p m.start m.lines r e) ∙ alone_head p.from m.start m.lines r

  pub one_head : EquivalentResponsesHaveOneHead
  one_head p q m n r e same =
      sym (masked_head p m r e)
      ∙ (ap (λ (x : Message Start). head_of (response x.start x.lines r)) same
      ∙ masked_head q n r (ap (λ (x : Message Start). is_request x.start) (sym same) ∙ e))

  passed_head : (start : Start) (ls : List Line) (r : Reply) (xs ys : List Line) → AreNoOwnFields xs → AreNoOwnFields ys →
      head_of (response start ls (with_passed_lines xs r)) ≡ head_of (response start ls (with_passed_lines ys r))
  passed_head start ls r xs ys x y = (five (response start ls (with_passed_lines xs r)) (response start ls (with_passed_lines ys r)) (record {
    start = ap start_read (response_starts start ls (with_passed_lines xs r) ∙ sym (response_starts start ls (with_passed_lines ys r)));
    via = passed_named start ls r xs ys (codes "Via") (x (codes "Via") refl) (y (codes "Via") refl);
    from = passed_named start ls r xs ys (codes "From") (x (codes "From") refl) (y (codes "From") refl);
    to = passed_named start ls r xs ys (codes "To") (x (codes "To") refl) (y (codes "To") refl);
    call_id = passed_named start ls r xs ys (codes "Call-ID") (x (codes "Call-ID") refl) (y (codes "Call-ID") refl);
    cseq = passed_named start ls r xs ys (codes "CSeq") (x (codes "CSeq") refl) (y (codes "CSeq") refl);
  })).1

  pub relayed : RelayedHaveOneHead
  relayed p q m n r xs ys e same x y = one_head p q m n (with_passed_lines xs r) e same ∙ passed_head n.start n.lines r xs ys x y

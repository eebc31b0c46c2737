-- The number of a reliable response is that of a header field which is copied or added: what a response copies of its request is no such header field, nor is what the header table copies.
use Rattle.std.proofs.Common.{◌≡◌, ℕ, Bool, true, false, List, [], ◌∷◌, ◌++◌, refl, ap, sym, ◌∙◌, cond, codes, decimal, length, map, inl, inr, Option, Some, None}
use Rattle.std.specs.Str.{str_eq_ignore_ascii_case, str_to_ascii_lowercase}
use Rattle.std.proofs.lemmas.Bool.{cases_Bool}
use Rattle.mmtel_history.specs.HistoryInfo.{masked_list}
use Rattle.mmtel_history.specs.declared.entries.Entry.{Entry}
use Rattle.mmtel_masked_messages.specs.Responses.{AreNoOwnFields, with_passed_lines}
use Rattle.mmtel_message.proofs.ExpansionTheorems.{line_named}
use Rattle.mmtel_message.proofs.ResponseTheorems.{cut}
use Rattle.mmtel_message.specs.Message.{Line, Message, is_line, line, lines_named}
use Rattle.mmtel_message.specs.Responses.{Reply, added_lines, call_lines, completed_lines, contact_lines, copied_lines, makes_dialog, own_fields, party_lines, response, route_lines, tag_of_response, to_line, via_lines}
use Rattle.mmtel_message.specs.declared.messages.Start.{Start}
use Rattle.mmtel_transaction.specs.Heads.{reliable_number}
use Rattle.mmtel_trust.proofs.IndexKeeping.{first_named, head_value}
use Rattle.mmtel_trust.proofs.TableTheorems.{passed_named}
use Rattle.mmtel_trust.specs.Kinds.{is_among, is_own_field, kind_of, own_field_names}
use Rattle.mmtel_trust.specs.HeaderTable.{carried_history, carries_history, history_line, history_lines, shown_lines}
use Rattle.mmtel_trust.specs.declared.header_table.Facing.{Facing}
use Rattle.mmtel_types.specs.declared.addrs.Addr.{Addr}

abbrev pub numbers_in : List Line → List Line
numbers_in ls = lines_named (codes "RSeq") ls

-- ---- of a request

-- header fields of another name
apart : (name : List ℕ) (ls : List Line) → str_eq_ignore_ascii_case name (codes "RSeq") ≡ false → numbers_in (lines_named name ls) ≡ []
apart name [] other = refl
apart name (l ∷ ls) other =
    elim (cases_Bool (is_line name l)) [
      | inl y ↦
          let same : str_to_ascii_lowercase l.0 ≡ str_to_ascii_lowercase name = line_named name l y in
          let none : is_line (codes "RSeq") l ≡ false = rw same other in
          rw (y, none) (apart name ls other)
      | inr n ↦ rw n (apart name ls other)
    ]

completed_none : (source : Option Addr) (ls : List Line) → numbers_in ls ≡ [] → numbers_in (completed_lines source ls) ≡ []
completed_none None ls e = e
completed_none (Some source) [] e = refl
completed_none (Some source) (l ∷ ls) e =
    elim (cases_Bool (is_line (codes "RSeq") l)) [
      | inl y ↦ let f = rw y at e in absurd cc
      | inr n ↦ rw n (rw n at e)
    ]

tagged_none : (tag : List ℕ) (ls : List Line) → numbers_in ls ≡ [] → numbers_in (map (to_line tag) ls) ≡ []
tagged_none tag [] e = refl
tagged_none tag (l ∷ ls) e =
    elim (cases_Bool (is_line (codes "RSeq") l)) [
      | inl y ↦ let f = rw y at e in absurd cc
      | inr n ↦ rw n (tagged_none tag ls (rw n at e))
    ]

-- header fields that are copied as received
received_none : (source : Option Addr) (tag : List ℕ) (ls : List Line) → numbers_in (copied_lines source tag ls) ≡ []
unfolding copied_lines via_lines party_lines call_lines
received_none source tag ls =
    let X : List ℕ = codes "RSeq" in
    let vias : List Line = completed_lines source (lines_named (codes "Via") ls) in
    let from : List Line = lines_named (codes "From") ls in
    let to : List Line = map (to_line tag) (lines_named (codes "To") ls) in
    let id : List Line = lines_named (codes "Call-ID") ls in
    let cseq : List Line = lines_named (codes "CSeq") ls in
    rw (
      cut X vias ((from ++ to) ++ (id ++ cseq)),
      cut X (from ++ to) (id ++ cseq),
      cut X from to,
      cut X id cseq,
      completed_none source (lines_named (codes "Via") ls) (apart (codes "Via") ls refl),
      apart (codes "From") ls refl,
      tagged_none tag (lines_named (codes "To") ls) (apart (codes "To") ls refl),
      apart (codes "Call-ID") ls refl,
      apart (codes "CSeq") ls refl,
    )
    refl

routes_none : (code : ℕ) (start : Start) (ls : List Line) → numbers_in (route_lines code start ls) ≡ []
unfolding route_lines
routes_none code start ls =
    elim (cases_Bool (makes_dialog code start)) [
      | inl y ↦ rw y (apart (codes "Record-Route") ls refl)
      | inr n ↦ rw n refl
    ]

-- ---- of a response

own_same : (xs ys named body : List Line) → numbers_in xs ≡ numbers_in ys → numbers_in (xs ++ (named ++ body)) ≡ numbers_in (ys ++ (named ++ body))
own_same xs ys named body e = cut (codes "RSeq") xs (named ++ body) ∙ (ap (λ (l : List Line). l ++ numbers_in (named ++ body)) e ∙ sym (cut (codes "RSeq") ys (named ++ body)))

behind : (front back rest tail : List Line) → numbers_in front ≡ [] → numbers_in back ≡ [] → numbers_in rest ≡ numbers_in tail → numbers_in (front ++ rest) ≡ numbers_in (back ++ tail)
behind front back rest tail e f g = cut (codes "RSeq") front rest ∙ (ap (λ (l : List Line). l ++ numbers_in rest) e ∙ (g ∙ (ap (λ (l : List Line). l ++ numbers_in tail) (sym f) ∙ sym (cut (codes "RSeq") back tail))))

-- after the same header fields
after : (front rest tail : List Line) → numbers_in rest ≡ numbers_in tail → numbers_in (front ++ rest) ≡ numbers_in (front ++ tail)
after front rest tail e = cut (codes "RSeq") front rest ∙ (ap (λ (l : List Line). numbers_in front ++ l) e ∙ sym (cut (codes "RSeq") front tail))

lines_same : (start : Start) (ls ms : List Line) (r : Reply) (xs ys : List Line) → numbers_in xs ≡ numbers_in ys →
    numbers_in (response start ls (with_passed_lines xs r)).lines ≡ numbers_in (response start ms (with_passed_lines ys r)).lines
unfolding response added_lines own_fields
lines_same start ls ms r xs ys e =
    let last : List Line = line (codes "Content-Length") (decimal (length r.body)) in
    let contact : List Line = contact_lines r.code start r.contact in
    behind (copied_lines r.source (tag_of_response r.code r.tag) ls) (copied_lines r.source (tag_of_response r.code r.tag) ms) _ _ (received_none r.source (tag_of_response r.code r.tag) ls)
    (received_none r.source (tag_of_response r.code r.tag) ms)
    (behind (route_lines r.code start ls) (route_lines r.code start ms) _ _ (routes_none r.code start ls) (routes_none r.code start ms)
    (after contact (xs ++ (r.named ++ last)) (ys ++ (r.named ++ last)) (own_same xs ys r.named last e)))

number_by : (m n : Message Start) → m.start ≡ n.start → numbers_in m.lines ≡ numbers_in n.lines → reliable_number m ≡ reliable_number n
unfolding reliable_number
number_by m n start lines = rw (start, first_named (codes "RSeq") m.lines ∙ (ap head_value lines ∙ sym (first_named (codes "RSeq") n.lines))) refl

start_same : (start : Start) (ls ms : List Line) (r : Reply) (xs ys : List Line) → (response start ls (with_passed_lines xs r)).start ≡ (response start ms (with_passed_lines ys r)).start
unfolding response
start_same start ls ms r xs ys = refl

-- responses that copy the same of it
pub number_same : (start : Start) (ls ms : List Line) (r : Reply) (xs ys : List Line) → numbers_in xs ≡ numbers_in ys →
    reliable_number (response start ls (with_passed_lines xs r)) ≡ reliable_number (response start ms (with_passed_lines ys r))
number_same start ls ms r xs ys e =
    number_by (response start ls (with_passed_lines xs r)) (response start ms (with_passed_lines ys r)) (start_same start ls ms r xs ys) (lines_same start ls ms r xs ys e)

-- ---- of what is copied

entries_none : (h : List Entry) → numbers_in (map history_line h) ≡ []
entries_none [] = refl
entries_none (e ∷ h) = entries_none h

pub history_none : (all b : Bool) (h : List Entry) → numbers_in (history_lines all b h) ≡ []
history_none all true h = entries_none h
history_none all false h = entries_none (masked_list all h)

transition_if : (c all b : Bool) (h : List Entry) → numbers_in (cond c (history_lines all b h) []) ≡ []
transition_if true all b h = history_none all b h
transition_if false all b h = refl

-- the header table copies none
pub copied_none : (f : Facing) (b : Bool) (h : List Entry) (start : Start) (ls : List Line) → numbers_in (shown_lines f b h start ls) ≡ []
unfolding kind_of
copied_none f b h start ls = passed_named (codes "RSeq") refl f b (carried_history f b h start) ls ∙ transition_if (carries_history start) f.mask_all b h

-- ---- header fields of the server's own, which are none of those that it writes in each message

among_like : (names : List (List ℕ)) (a b : List ℕ) → str_to_ascii_lowercase a ≡ str_to_ascii_lowercase b → is_among names a ≡ is_among names b
among_like [] a b e = refl
among_like (name ∷ names) a b e = rw (e, among_like names a b e) refl

not_both : {A : Type 0} (b : Bool) → b ≡ true → b ≡ false → A
not_both b t f = absurd cc

pub line_foreign : (n v : List ℕ) → is_own_field n ≡ false → AreNoOwnFields ((n, v) ∷ [])
line_foreign n v none name own =
    elim (cases_Bool (is_line name (n, v))) [
      | inl y ↦ not_both (is_own_field name) own (sym (among_like own_field_names n name (line_named name (n, v) y)) ∙ none)
      | inr m ↦ rw m refl
    ]

-- after the same header fields two responses without a number of their own have the same number
pub behind_none : (xs ys ls : List Line) → numbers_in xs ≡ [] → numbers_in ys ≡ [] → numbers_in (xs ++ ls) ≡ numbers_in (ys ++ ls)
behind_none xs ys ls e f = behind xs ys ls ls e f refl

pub both_foreign : (ls ks : List Line) → AreNoOwnFields ls → AreNoOwnFields ks → AreNoOwnFields (ls ++ ks)
both_foreign ls ks f g name own = cut name ls ks ∙ (ap (λ (l : List Line). l ++ lines_named name ks) (f name own) ∙ g name own)

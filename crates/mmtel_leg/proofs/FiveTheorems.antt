-- What is built in a dialog has the five fields that each message has, and they are parsed as what was written (RFC 3261 §8.1.1, §20.42).
use Rattle.std.proofs.Common.{◌∙◌, ◌≡◌, ◌^◌, ◌<◌, ◌≤◌, ◌+◌, ◌&&◌, Bool, true, false, not, inl, cond, ℕ, List, [], ◌∷◌, ◌++◌, Some, append-nil, ap, arith, codes, decimal, get_or, length, map, refl, sym}
use Rattle.std.proofs.lemmas.Bool.Decides.{nat_tests}
use Rattle.std.proofs.lemmas.Fmt.{length-decimal-le}
use Rattle.std.proofs.lemmas.List.{length-append}
use Rattle.mmtel_base.specs.Classes.{IsAll, IsOneOrMore, in_class}
use Rattle.mmtel_base.specs.declared.classes.Class.TheVariants.{Digit, Host, Token}
use Rattle.mmtel_base.proofs.ChainTheorems.{filled_test}
use Rattle.mmtel_base.proofs.Trims.{all_append}
use Rattle.mmtel_lex.specs.Grammar.{AreParams, IsToken}
use Rattle.mmtel_lex.specs.Reading.{name_addr_of}
use Rattle.mmtel_lex.specs.declared.values.NameAddr.{NameAddr}
use Rattle.mmtel_lex.specs.declared.values.Param.{Param}
use Rattle.mmtel_types.specs.declared.addrs.Addr.{Addr}
use Rattle.mmtel_message.specs.Addresses.{addr_text, contact_text, ip_text, via_text}
use Rattle.mmtel_message.specs.Fields.{call_in, five_at, only_value, parties_in, via_at, via_in}
use Rattle.mmtel_message.specs.Message.{Line, has_line, line, lines_named}
use Rattle.mmtel_message.specs.Responses.{AreOthers}
use Rattle.mmtel_message.specs.Vias.{IsSource, via_value}
use Rattle.mmtel_message.proofs.CanonicalTheorems.{only_named}
use Rattle.mmtel_message.proofs.GuaranteeTheorems.{named_none}
use Rattle.mmtel_message.proofs.ResponseTheorems.{IsOther, cut, one_none}
use Rattle.mmtel_message.proofs.ViaTheorems.{ip_in, via_is_one, written_reads}
use Rattle.mmtel_leg.specs.Readings.{five_of, via_of}
use Rattle.mmtel_leg.specs.Requests.{RequestPartsView, contact_lines, content_lines, cseq_text, dialog_lines, is_contacting, request_numbered, route_line, routing_lines, to_text}
use Rattle.mmtel_leg.specs.declared.dialogues.Dialogue.{Dialogue}
use Rattle.mmtel_leg.proofs.ReadTheorems.{cseq_again}

-- ---- an address is a host

digit_host : (b : ℕ) → in_class Digit b ≡ true → in_class Host b ≡ true
unfolding in_class
digit_host b e = grind (arith, nat_tests)

dot_host : in_class Host 46 ≡ true
unfolding in_class
dot_host = refl

-- two parts of an address, with a dot between them
dotted_length : (a b : List ℕ) (n m : ℕ) → length a ≤ n → length b ≤ m → length (a ++ 46 ∷ b) ≤ n + m + 1
dotted_length a b n m x y = omega (arith, length-append a (46 ∷ b))

byte_length : (ip : List ℕ) → ((i : ℕ) → get_or ip i 0 < 2 ^ 8) → (i : ℕ) → length (decimal (get_or ip i 0)) ≤ 3
byte_length ip small i = let lt = small i in length-decimal-le 3 (get_or ip i 0) (omega arith) (omega (arith, lt)) (omega (arith, lt))

ip_length : (ip : List ℕ) → ((i : ℕ) → get_or ip i 0 < 2 ^ 8) → length (ip_text ip) < 256
ip_length ip small =
    let d : ℕ → List ℕ = λ i. decimal (get_or ip i 0) in
    let last : length (d 2 ++ 46 ∷ d 3) ≤ 7 = dotted_length (d 2) (d 3) 3 3 (byte_length ip small 2) (byte_length ip small 3) in
    let three : length (d 1 ++ 46 ∷ (d 2 ++ 46 ∷ d 3)) ≤ 11 = dotted_length (d 1) (d 2 ++ 46 ∷ d 3) 3 7 (byte_length ip small 1) last in
    let four : length (ip_text ip) ≤ 15 = dotted_length (d 0) (d 1 ++ 46 ∷ (d 2 ++ 46 ∷ d 3)) 3 11 (byte_length ip small 0) three in
    omega (arith, four)

-- ---- Via is parsed

abbrev branch_of : List ℕ → Param
branch_of branch = record { name = codes "branch"; value = Some (codes "z9hG4bK" ++ branch) }

cookie_token : IsAll Token (codes "z9hG4bK")
unfolding in_class
cookie_token = refl

name_token : IsToken (codes "branch")
unfolding in_class
name_token = record { filled = omega arith; each = refl }

udp_token : IsToken (codes "UDP")
unfolding in_class
udp_token = record { filled = omega arith; each = refl }

branch_token : (branch : List ℕ) → IsToken branch → IsToken (codes "z9hG4bK" ++ branch)
branch_token branch is = record { filled = omega (arith, is.filled, length-append (codes "z9hG4bK") branch); each = all_append Token (codes "z9hG4bK") branch cookie_token is.each }

via_whole : (sip : Addr) (branch : List ℕ) → via_text sip branch ≡ via_value (via_of sip branch)
via_whole sip branch = ap (λ (l : List ℕ). codes "SIP/2.0/UDP " ++ (addr_text sip ++ l)) (sym (append-nil (codes ";branch=z9hG4bK" ++ branch)))

via_again : (sip : Addr) (branch : List ℕ) → IsSource sip → 0 < sip.port → IsToken branch → via_at (via_text sip branch) ≡ Some (via_of sip branch)
via_again sip branch is low token =
    let are : AreParams (branch_of branch ∷ []) = (record { name = name_token; value = inl (branch_token branch token) }, tt) in
    let host : IsOneOrMore Host (ip_text sip.ip) = ip_in Host digit_host dot_host sip is in
    ap via_at (via_whole sip branch) ∙ written_reads (codes "UDP") (ip_text sip.ip) sip.port (branch_of branch ∷ []) udp_token host (ip_length sip.ip is.bytes) low is.port are

-- the Via of a request that is built
pub via_read : (d : Dialogue) (number : ℕ) (method : List ℕ) (given : RequestPartsView) → IsSource given.sip → 0 < given.sip.port → IsToken given.branch →
    via_in (request_numbered d number method given).lines ≡ Some (via_of given.sip given.branch)
unfolding line
via_read d number method given is low token =
    let again = via_again given.sip given.branch is low token in
    ap via_at (via_is_one (via_text given.sip given.branch) (via_of given.sip given.branch) again) ∙ again

-- ---- From, To, Call-ID and CSeq occur once

-- the names that none of the server's other lines has
record IsApart (name : List ℕ) : Type 0 where
  via : IsOther name (codes "Via")
  route : IsOther name (codes "Route")
  hops : IsOther name (codes "Max-Forwards")
  contact : IsOther name (codes "Contact")
  length : IsOther name (codes "Content-Length")

no_routes : (name : List ℕ) (routes : List (List ℕ)) → IsOther name (codes "Route") → lines_named name (map route_line routes) ≡ []
no_routes name [] other = refl
no_routes name (route ∷ routes) other = rw other (no_routes name routes other)

no_contact : (name value : List ℕ) (b : Bool) → IsOther name (codes "Contact") → lines_named name (cond b (line (codes "Contact") value) []) ≡ []
no_contact name value true other = one_none name (codes "Contact") value other
no_contact name value false other = refl

in_routing : (name : List ℕ) (routes : List (List ℕ)) (sip : Addr) (hops : ℕ) (branch : List ℕ) → IsApart name → lines_named name (routing_lines routes sip hops branch) ≡ []
in_routing name routes sip hops branch is =
    let ways : List Line = map route_line routes in
    let forwards : List Line = line (codes "Max-Forwards") (decimal hops) in
    rw (
      cut name (line (codes "Via") (via_text sip branch)) (ways ++ forwards),
      cut name ways forwards,
      one_none name (codes "Via") (via_text sip branch) is.via,
      no_routes name routes is.route,
      one_none name (codes "Max-Forwards") (decimal hops) is.hops,
    ) refl

in_content : (name method : List ℕ) (sip : Addr) (shown : List Line) (body : List ℕ) → IsApart name → has_line name shown ≡ false → lines_named name (content_lines method sip shown body) ≡ []
in_content name method sip shown body is none =
    let size : List ℕ = decimal (length body) in
    let last : List Line = line (codes "Content-Length") size in
    let contact : List Line = contact_lines method sip shown in
    let no_way : lines_named name contact ≡ [] = no_contact name (contact_text sip) (is_contacting method && not (has_line (codes "Contact") shown)) is.contact in
    rw (cut name contact (shown ++ last), cut name shown last, no_way, named_none name shown none, one_none name (codes "Content-Length") size is.length) refl

once : (name : List ℕ) (d : Dialogue) (number : ℕ) (method : List ℕ) (given : RequestPartsView) (l : Line) → IsApart name → lines_named name (dialog_lines d number method) ≡ l ∷ [] →
    has_line name given.shown ≡ false → only_value name (request_numbered d number method given).lines ≡ Some l.1
once name d number method given l is own none =
    let routing : List Line = routing_lines d.routes given.sip given.hops given.branch in
    let dialog : List Line = dialog_lines d number method in
    let content : List Line = content_lines method given.sip given.shown given.body in
    let front : lines_named name routing ≡ [] = in_routing name d.routes given.sip given.hops given.branch is in
    let back : lines_named name content ≡ [] = in_content name method given.sip given.shown given.body is none in
    let found : lines_named name (routing ++ (dialog ++ content)) ≡ l ∷ [] = rw (cut name routing (dialog ++ content), cut name dialog content, front, own, back) refl in
    only_named name (routing ++ (dialog ++ content)) ∙ rw found refl

from_once : (d : Dialogue) (number : ℕ) (method : List ℕ) (given : RequestPartsView) → AreOthers given.shown → only_value (codes "From") (request_numbered d number method given).lines ≡ Some d.local
unfolding line
from_once d number method given are = once (codes "From") d number method given (codes "From", d.local) (record { via = refl; route = refl; hops = refl; contact = refl; length = refl }) refl are.from

to_once : (d : Dialogue) (number : ℕ) (method : List ℕ) (given : RequestPartsView) → AreOthers given.shown →
    only_value (codes "To") (request_numbered d number method given).lines ≡ Some (to_text d.side d.remote d.remote_tag)
unfolding line
to_once d number method given are = once (codes "To") d number method given (codes "To", to_text d.side d.remote d.remote_tag) (record { via = refl; route = refl; hops = refl; contact = refl; length = refl }) refl are.to

call_id_once : (d : Dialogue) (number : ℕ) (method : List ℕ) (given : RequestPartsView) → AreOthers given.shown → only_value (codes "Call-ID") (request_numbered d number method given).lines ≡ Some d.call_id
unfolding line
call_id_once d number method given are = once (codes "Call-ID") d number method given (codes "Call-ID", d.call_id) (record { via = refl; route = refl; hops = refl; contact = refl; length = refl }) refl are.call_id

cseq_once : (d : Dialogue) (number : ℕ) (method : List ℕ) (given : RequestPartsView) → AreOthers given.shown → only_value (codes "CSeq") (request_numbered d number method given).lines ≡ Some (cseq_text number method)
unfolding line
cseq_once d number method given are = once (codes "CSeq") d number method given (codes "CSeq", cseq_text number method) (record { via = refl; route = refl; hops = refl; contact = refl; length = refl }) refl are.cseq

-- ---- the five fields

parties_read : (d : Dialogue) (number : ℕ) (method : List ℕ) (given : RequestPartsView) (from to : NameAddr) → name_addr_of d.local ≡ Some from →
    name_addr_of (to_text d.side d.remote d.remote_tag) ≡ Some to → AreOthers given.shown → parties_in (request_numbered d number method given).lines ≡ Some (from, to)
unfolding parties_in
parties_read d number method given from to x y are =
    rw (from_once d number method given are, x, to_once d number method given are, y) refl

call_read : (d : Dialogue) (number : ℕ) (method : List ℕ) (given : RequestPartsView) → 0 < length d.call_id → number < 2 ^ 31 → IsToken method → AreOthers given.shown →
    call_in (request_numbered d number method given).lines ≡ Some (d.call_id, record { number = number; method = method })
unfolding call_in
call_read d number method given filled small token are =
    rw (call_id_once d number method given are, filled_test (length d.call_id) filled, cseq_once d number method given are, cseq_again number method small token) refl

pub five_read : (d : Dialogue) (number : ℕ) (method : List ℕ) (given : RequestPartsView) (from to : NameAddr) → name_addr_of d.local ≡ Some from →
    name_addr_of (to_text d.side d.remote d.remote_tag) ≡ Some to → 0 < length d.call_id → number < 2 ^ 31 → IsToken method → IsToken given.branch → IsSource given.sip → 0 < given.sip.port →
    AreOthers given.shown → five_at (request_numbered d number method given).lines ≡ Some (five_of d number method given from to)
unfolding five_at
five_read d number method given from to x y filled small token branch is low are =
    rw (via_read d number method given is low branch, parties_read d number method given from to x y are, call_read d number method given filled small token are) refl

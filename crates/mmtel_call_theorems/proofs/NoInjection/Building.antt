-- Clean parts make clean messages: the requests of a dialog, and responses.
use Rattle.std.proofs.Common.{◌≡◌, ◌==◌, Bool, true, false, not, ◌&&◌, ℕ, ◌-◌, List, [], ◌∷◌, ◌++◌, length, take, drop, map, Option, Some, None, refl, subst, nat_lt}
use Rattle.std.specs.Prelude.{codes, cond, decimal, if◌then◌else◌, get_or}
use Rattle.std.specs.List.{list_all, flat_map}
use Rattle.std.specs.Str.{bytes_eq}
use Rattle.mmtel_base.specs.Chain.{◌>>=◌}
use Rattle.mmtel_base.specs.Scanning.{after_byte, after_run, after_text, leading_run}
use Rattle.mmtel_base.specs.declared.classes.Class.TheVariants.{Blank, Digit, Host, Token}
use Rattle.mmtel_base.proofs.ChainTheorems.{after_byte_whole, bind_some, some_is, unless_some, where_some}
use Rattle.mmtel_base.proofs.Runs.{and_true}
use Rattle.mmtel_lex.specs.Grammar.{param_text, params_text}
use Rattle.mmtel_lex.specs.Reading.{all_params_at, host_at, name_addr_of, port_at, port_from, port_number, token_at}
use Rattle.mmtel_lex.specs.declared.values.Param.{Param}
use Rattle.mmtel_lex.proofs.ParamTheorems.{all_params_takes}
use Rattle.mmtel_message.specs.Addresses.{addr_text, contact_text, ip_text, via_text}
use Rattle.mmtel_message.specs.Fields.{after_blanks, before_rest, if_end, via_at, via_by}
use Rattle.mmtel_message.specs.Headers.{is_value_byte}
use Rattle.mmtel_message.specs.Message.{Line, has_line, line, lines_named}
use Rattle.mmtel_message.specs.Responses as responses
use Rattle.mmtel_message.specs.Responses.{Reply, added_lines, call_lines, completed_line, completed_lines, copied_lines, has_tag, makes_dialog, names_contact}
use Rattle.mmtel_message.specs.Responses.{own_fields, party_lines, response, route_lines, tag_of_response, tagged_value, to_line, to_value, via_lines}
use Rattle.mmtel_message.specs.Vias.{asks_port, completed_by, completed_value, is_from, is_received, received_param, sourced_param, sourced_params, sourced_via, via_value, with_port}
use Rattle.mmtel_message.specs.declared.fields.Via.{Via}
use Rattle.mmtel_message.specs.declared.messages.Start.{Start}
use Rattle.mmtel_leg.specs.Requests as requests
use Rattle.mmtel_leg.specs.Requests.{RequestPartsView, content_lines, cseq_text, dialog_lines, is_contacting, request_numbered, route_line, routing_lines, to_text}
use Rattle.mmtel_leg.specs.declared.dialogues.Dialogue.{Dialogue}
use Rattle.mmtel_types.specs.declared.addrs.Addr.{Addr}
use Rattle.mmtel_types.specs.declared.sides.Side.{Side}
use Rattle.mmtel_types.specs.declared.sides.Side.TheVariants.{Caller, Callee}
use Rattle.mmtel_call_theorems.specs.NoInjection.Messages.{HasNoInjection, HaveNoInjection, LinesHaveNoInjection, MessageHasNoInjection, line_has_no_injection}
use Rattle.mmtel_call_theorems.specs.NoInjection.CallState.{DialogueHasNoInjection, ReplyHasNoInjection, RequestPartsHaveNoInjection}
use Rattle.mmtel_call_theorems.proofs.NoInjection.Bytes.{all_append, all_cons, all_drop, all_flat, all_head, all_map, all_take, both, decimal_no_injection, joined, line_no_injection, line_parts, parted}
use Rattle.mmtel_call_theorems.proofs.NoInjection.Reading.{after_run_no_injection, named_no_injection, param_text_parts, run_no_injection}

-- ---- the server's address

pub ip_no_injection : (ip : List ℕ) → HasNoInjection (ip_text ip)
ip_no_injection ip =
    joined (decimal (get_or ip 0 0)) (46 ∷ (decimal (get_or ip 1 0) ++ (46 ∷ (decimal (get_or ip 2 0) ++ (46 ∷ decimal (get_or ip 3 0)))))) (decimal_no_injection (get_or ip 0 0))
    (all_cons is_value_byte 46 (decimal (get_or ip 1 0) ++ (46 ∷ (decimal (get_or ip 2 0) ++ (46 ∷ decimal (get_or ip 3 0))))) refl
    (joined (decimal (get_or ip 1 0)) (46 ∷ (decimal (get_or ip 2 0) ++ (46 ∷ decimal (get_or ip 3 0)))) (decimal_no_injection (get_or ip 1 0))
    (all_cons is_value_byte 46 (decimal (get_or ip 2 0) ++ (46 ∷ decimal (get_or ip 3 0))) refl
    (joined (decimal (get_or ip 2 0)) (46 ∷ decimal (get_or ip 3 0)) (decimal_no_injection (get_or ip 2 0))
    (all_cons is_value_byte 46 (decimal (get_or ip 3 0)) refl (decimal_no_injection (get_or ip 3 0)))))))

pub addr_no_injection : (addr : Addr) → HasNoInjection (addr_text addr)
addr_no_injection addr = joined (ip_text addr.ip) (58 ∷ decimal addr.port) (ip_no_injection addr.ip) (all_cons is_value_byte 58 (decimal addr.port) refl (decimal_no_injection addr.port))

pub contact_no_injection : (sip : Addr) → HasNoInjection (contact_text sip)
contact_no_injection sip = joined (codes "<sip:") (addr_text sip ++ codes ">") refl (joined (addr_text sip) (codes ">") (addr_no_injection sip) refl)

via_text_no_injection : (sip : Addr) (branch : List ℕ) → HasNoInjection branch → HasNoInjection (via_text sip branch)
via_text_no_injection sip branch e =
    joined (codes "SIP/2.0/UDP ") (addr_text sip ++ (codes ";branch=z9hG4bK" ++ branch)) refl
    (joined (addr_text sip) (codes ";branch=z9hG4bK" ++ branch) (addr_no_injection sip) (joined (codes ";branch=z9hG4bK") branch refl e))

-- ---- header fields

pub one_no_injection : (name value : List ℕ) → HasNoInjection name → HasNoInjection value → LinesHaveNoInjection (line name value)
unfolding line
one_no_injection name value e f = all_cons line_has_no_injection (name, value) [] (line_no_injection name value e f) refl

pub lines_joined : (xs ys : List Line) → LinesHaveNoInjection xs → LinesHaveNoInjection ys → LinesHaveNoInjection (xs ++ ys)
lines_joined xs ys e f = all_append line_has_no_injection xs ys e f

pub tagged_no_injection : (value tag : List ℕ) → HasNoInjection value → HasNoInjection tag → HasNoInjection (tagged_value value tag)
tagged_no_injection value tag e f = joined value (codes ";tag=" ++ tag) e (joined (codes ";tag=") tag refl f)

-- ---- requests

pub to_no_injection : (side : Side) (value tag : List ℕ) → HasNoInjection value → HasNoInjection tag → HasNoInjection (to_text side value tag)
to_no_injection Caller value tag e f = e
to_no_injection Callee value [] e f = e
to_no_injection Callee value (b ∷ tag) e f = tagged_no_injection value (b ∷ tag) e f

cseq_no_injection : (number : ℕ) (method : List ℕ) → HasNoInjection method → HasNoInjection (cseq_text number method)
cseq_no_injection number method e = joined (decimal number) (32 ∷ method) (decimal_no_injection number) (all_cons is_value_byte 32 method refl e)

routes_no_injection : (routes : List (List ℕ)) → HaveNoInjection routes → LinesHaveNoInjection (map route_line routes)
routes_no_injection routes e = all_map (list_all is_value_byte) line_has_no_injection route_line (λ value f. line_no_injection (codes "Route") value refl f) routes e

routing_no_injection : (routes : List (List ℕ)) (sip : Addr) (hops : ℕ) (branch : List ℕ) → HaveNoInjection routes → HasNoInjection branch → LinesHaveNoInjection (routing_lines routes sip hops branch)
routing_no_injection routes sip hops branch e f =
    lines_joined (line (codes "Via") (via_text sip branch)) (map route_line routes ++ line (codes "Max-Forwards") (decimal hops))
    (one_no_injection (codes "Via") (via_text sip branch) refl (via_text_no_injection sip branch f))
    (lines_joined (map route_line routes) (line (codes "Max-Forwards") (decimal hops)) (routes_no_injection routes e) (one_no_injection (codes "Max-Forwards") (decimal hops) refl (decimal_no_injection hops)))

dialog_no_injection : (d : Dialogue) (number : ℕ) (method : List ℕ) → DialogueHasNoInjection d → HasNoInjection method → LinesHaveNoInjection (dialog_lines d number method)
dialog_no_injection d number method is e =
    let to : List ℕ = to_text d.side d.remote d.remote_tag in
    lines_joined (line (codes "From") d.local) (line (codes "To") to ++ (line (codes "Call-ID") d.call_id ++ line (codes "CSeq") (cseq_text number method)))
    (one_no_injection (codes "From") d.local refl is.local_in)
    (lines_joined (line (codes "To") to) (line (codes "Call-ID") d.call_id ++ line (codes "CSeq") (cseq_text number method))
    (one_no_injection (codes "To") to refl (to_no_injection d.side d.remote d.remote_tag is.remote_in is.tag_in))
    (lines_joined (line (codes "Call-ID") d.call_id) (line (codes "CSeq") (cseq_text number method))
    (one_no_injection (codes "Call-ID") d.call_id refl is.call_id_in)
    (one_no_injection (codes "CSeq") (cseq_text number method) refl (cseq_no_injection number method e))))

pub if_lines : (b : Bool) (xs ys : List Line) → LinesHaveNoInjection xs → LinesHaveNoInjection ys → LinesHaveNoInjection (if b then xs else ys)
if_lines true xs ys e f = e
if_lines false xs ys e f = f

content_no_injection : (method : List ℕ) (sip : Addr) (shown : List Line) (body : List ℕ) → LinesHaveNoInjection shown → LinesHaveNoInjection (content_lines method sip shown body)
content_no_injection method sip shown body e =
    lines_joined (requests.contact_lines method sip shown) (shown ++ line (codes "Content-Length") (decimal (length body)))
    (if_lines (is_contacting method && not (has_line (codes "Contact") shown)) (line (codes "Contact") (contact_text sip)) [] (one_no_injection (codes "Contact") (contact_text sip) refl (contact_no_injection sip)) refl)
    (lines_joined shown (line (codes "Content-Length") (decimal (length body))) e (one_no_injection (codes "Content-Length") (decimal (length body)) refl (decimal_no_injection (length body))))

pub request_no_injection : (d : Dialogue) (number : ℕ) (method : List ℕ) (given : RequestPartsView) → DialogueHasNoInjection d → HasNoInjection method → RequestPartsHaveNoInjection given →
    MessageHasNoInjection (request_numbered d number method given)
request_no_injection d number method given is e had = record {
  start_in = (e, is.target_in);
  lines_in =
      lines_joined (routing_lines d.routes given.sip given.hops given.branch) (dialog_lines d number method ++ content_lines method given.sip given.shown given.body)
      (routing_no_injection d.routes given.sip given.hops given.branch is.routes_in had.branch_in)
      (lines_joined (dialog_lines d number method) (content_lines method given.sip given.shown given.body)
      (dialog_no_injection d number method is e) (content_no_injection method given.sip given.shown given.body had.shown_in));
}

-- ---- Via, as it is read

pub record ViaHasNoInjection (via : Via) : Type 0 where
  pub transport_in : HasNoInjection via.transport
  pub sent_by_in : HasNoInjection via.sent_by
  pub params_in : HasNoInjection (params_text via.params)

text_behind : (front s t : List ℕ) → after_text front s ≡ Some t → HasNoInjection s → HasNoInjection t
text_behind front s t e is =
    let g = unless_some (nat_lt (length s) (length front)) (cond (bytes_eq (take (length front) s) front) (Some (drop (length front) s)) None) t e in
    let v = where_some (bytes_eq (take (length front) s) front) (Some (drop (length front) s)) t g.1 in
    subst HasNoInjection (some_is (drop (length front) s) t v.1) (all_drop is_value_byte (length front) s is)

abbrev AreTwo : List ℕ × List ℕ → Type 0
AreTwo x = HasNoInjection x.0 × HasNoInjection x.1

token_parts : (s : List ℕ) (x : List ℕ × List ℕ) → token_at s ≡ Some x → HasNoInjection s → AreTwo x
unfolding token_at
token_parts s x e is =
    let g = unless_some (length (leading_run Token s) == 0) (Some (leading_run Token s, after_run Token s)) x e in
    subst AreTwo (some_is (leading_run Token s, after_run Token s) x g.1) (run_no_injection Token s is, after_run_no_injection Token s is)

host_rest : (s : List ℕ) (x : List ℕ × List ℕ) → host_at s ≡ Some x → HasNoInjection s → HasNoInjection x.1
unfolding host_at
host_rest s x e is =
    let g = unless_some (length (leading_run Host s) == 0) (cond (nat_lt 255 (length (leading_run Host s))) None (Some (leading_run Host s, after_run Host s))) x e in
    let h = unless_some (nat_lt 255 (length (leading_run Host s))) (Some (leading_run Host s, after_run Host s)) x g.1 in
    subst (λ (y : List ℕ × List ℕ). HasNoInjection y.1) (some_is (leading_run Host s, after_run Host s) x h.1) (after_run_no_injection Host s is)

port_rest : (s : List ℕ) (x : Option ℕ × List ℕ) → port_at s ≡ Some x → HasNoInjection s → HasNoInjection x.1
unfolding port_at
port_rest s x e is = by (after_byte 58 s) refl e
  where
    by : (o : Option (List ℕ)) → after_byte 58 s ≡ o → port_from o s ≡ Some x → HasNoInjection x.1
    by None f g = subst (λ (y : Option ℕ × List ℕ). HasNoInjection y.1) (some_is (None, s) x g) is
    by (Some t) f g =
        let b = bind_some (port_number (leading_run Digit t)) (λ n. Some (Some n, after_run Digit t)) x g in
        let tail : HasNoInjection t = (all_head is_value_byte 58 t (subst HasNoInjection (after_byte_whole 58 s t f) is)).1 in
        subst (λ (y : Option ℕ × List ℕ). HasNoInjection y.1) (some_is (Some b.0, after_run Digit t) x b.2) (after_run_no_injection Digit t tail)

ends : {A : Type 0} (x : A) (s : List ℕ) (y : A) → if_end x s ≡ Some y → x ≡ y
ends x [] y e = some_is x y e
ends x (b ∷ s) y e = absurd cc

via_by_no_injection : (transport b : List ℕ) (via : Via) → via_by transport b ≡ Some via → HasNoInjection transport → HasNoInjection b → ViaHasNoInjection via
via_by_no_injection transport b via e is clean =
    let one = bind_some (host_at b) (λ h. port_at h.1 >>= λ n. all_params_at n.1 >>= λ ps. if_end (record { transport = transport; sent_by = before_rest b n.1; host = h.0; port = n.0; params = ps.0 }) ps.1) via e in
    let h : List ℕ × List ℕ = one.0 in
    let two = bind_some (port_at h.1) (λ n. all_params_at n.1 >>= λ ps. if_end (record { transport = transport; sent_by = before_rest b n.1; host = h.0; port = n.0; params = ps.0 }) ps.1) via one.2 in
    let n : Option ℕ × List ℕ = two.0 in
    let three = bind_some (all_params_at n.1) (λ ps. if_end (record { transport = transport; sent_by = before_rest b n.1; host = h.0; port = n.0; params = ps.0 }) ps.1) via two.2 in
    let ps : List Param × List ℕ = three.0 in
    let made : Via = record { transport = transport; sent_by = before_rest b n.1; host = h.0; port = n.0; params = ps.0 } in
    let rest : HasNoInjection n.1 = port_rest h.1 n two.1 (host_rest b h one.1 clean) in
    let params : HasNoInjection (params_text ps.0) = (parted (params_text ps.0) ps.1 (subst HasNoInjection (all_params_takes n.1 ps three.1).0 rest)).0 in
    subst ViaHasNoInjection (ends made ps.1 via three.2) (record { transport_in = is; sent_by_in = all_take is_value_byte (length b - length n.1) b clean; params_in = params })

blanks_rest : (s t : List ℕ) → after_blanks s ≡ Some t → HasNoInjection s → HasNoInjection t
blanks_rest s t e is =
    let g = unless_some (length (leading_run Blank s) == 0) (Some (after_run Blank s)) t e in
    subst HasNoInjection (some_is (after_run Blank s) t g.1) (after_run_no_injection Blank s is)

pub via_no_injection : (s : List ℕ) (via : Via) → via_at s ≡ Some via → HasNoInjection s → ViaHasNoInjection via
unfolding via_at
via_no_injection s via e is =
    let one = bind_some (after_text (codes "SIP/2.0/") s) (λ t. token_at t >>= λ p. after_blanks p.1 >>= λ b. via_by p.0 b) via e in
    let t : List ℕ = one.0 in
    let two = bind_some (token_at t) (λ p. after_blanks p.1 >>= λ b. via_by p.0 b) via one.2 in
    let p : List ℕ × List ℕ = two.0 in
    let three = bind_some (after_blanks p.1) (λ b. via_by p.0 b) via two.2 in
    let parts = token_parts t p two.1 (text_behind (codes "SIP/2.0/") s t one.1 is) in
    via_by_no_injection p.0 three.0 via three.2 parts.0 (blanks_rest p.1 three.0 three.1 parts.1)

-- ---- Via, completed

abbrev param_has_no_injection : Param → Bool
param_has_no_injection p = list_all is_value_byte (param_text p)

each_no_injection : (ps : List Param) → HasNoInjection (params_text ps) → list_all param_has_no_injection ps ≡ true
each_no_injection [] e = refl
each_no_injection (p ∷ ps) e = let halves = parted (param_text p) (params_text ps) e in both (param_has_no_injection p) (list_all param_has_no_injection ps) halves.0 (each_no_injection ps halves.1)

params_no_injection : (ps : List Param) → list_all param_has_no_injection ps ≡ true → HasNoInjection (params_text ps)
params_no_injection ps e = all_flat param_has_no_injection is_value_byte param_text (λ p f. f) ps e

valued_no_injection : (name value : List ℕ) → HasNoInjection name → HasNoInjection value → HasNoInjection (59 ∷ (name ++ 61 ∷ value))
valued_no_injection name value e f = all_cons is_value_byte 59 (name ++ 61 ∷ value) refl (joined name (61 ∷ value) e (all_cons is_value_byte 61 value refl f))

ported_no_injection : (port : ℕ) (p : Param) → param_has_no_injection p ≡ true → param_has_no_injection (with_port port p) ≡ true
ported_no_injection port p e = by (asks_port p)
  where
    by : (t : Bool) → param_has_no_injection (if t then record p { value = Some (decimal port) } else p) ≡ true
    by true = valued_no_injection p.name (decimal port) (param_text_parts p e).0 (decimal_no_injection port)
    by false = e

param_sourced : (port : ℕ) (p : Param) → param_has_no_injection p ≡ true → list_all param_has_no_injection (sourced_param port p) ≡ true
param_sourced port p e = by (is_received p)
  where
    by : (t : Bool) → list_all param_has_no_injection (if t then [] else with_port port p ∷ []) ≡ true
    by true = refl
    by false = both (param_has_no_injection (with_port port p)) true (ported_no_injection port p e) refl

sourced_no_injection : (source : Addr) (ps : List Param) → HasNoInjection (params_text ps) → HasNoInjection (params_text (sourced_params source ps))
sourced_no_injection source ps e =
    params_no_injection (sourced_params source ps)
    (all_append param_has_no_injection (flat_map (sourced_param source.port) ps) (received_param source ∷ [])
    (all_flat param_has_no_injection param_has_no_injection (sourced_param source.port) (param_sourced source.port) ps (each_no_injection ps e))
    (both (param_has_no_injection (received_param source)) true (valued_no_injection (codes "received") (ip_text source.ip) refl (ip_no_injection source.ip)) refl))

via_value_no_injection : (via : Via) → ViaHasNoInjection via → HasNoInjection (via_value via)
via_value_no_injection via is =
    joined (codes "SIP/2.0/") (via.transport ++ (32 ∷ (via.sent_by ++ params_text via.params))) refl
    (joined via.transport (32 ∷ (via.sent_by ++ params_text via.params)) is.transport_in
    (all_cons is_value_byte 32 (via.sent_by ++ params_text via.params) refl (joined via.sent_by (params_text via.params) is.sent_by_in is.params_in)))

pub completed_no_injection : (source : Addr) (value : List ℕ) → HasNoInjection value → HasNoInjection (completed_value source value)
unfolding completed_value
completed_no_injection source value e = by (via_at value) refl
  where
    written : (via : Via) → ViaHasNoInjection via → (t : Bool) → HasNoInjection (if t then value else via_value (sourced_via source via))
    written via is true = e
    written via is false = via_value_no_injection (sourced_via source via) (record { transport_in = is.transport_in; sent_by_in = is.sent_by_in; params_in = sourced_no_injection source via.params is.params_in })

    by : (o : Option Via) → via_at value ≡ o → HasNoInjection (completed_by source value o)
    by None f = e
    by (Some via) f = written via (via_no_injection value via f e) (is_from source via)

-- ---- responses

completed_lines_no_injection : (source : Option Addr) (vias : List Line) → LinesHaveNoInjection vias → LinesHaveNoInjection (completed_lines source vias)
completed_lines_no_injection None vias e = e
completed_lines_no_injection (Some source) [] e = refl
completed_lines_no_injection (Some source) (via ∷ vias) e =
    let halves = and_true (line_has_no_injection via) (list_all line_has_no_injection vias) e in
    let parts = line_parts via halves.0 in
    all_cons line_has_no_injection (completed_line source via) vias (line_no_injection via.0 (completed_value source via.1) parts.0 (completed_no_injection source via.1 parts.1)) halves.1

to_value_no_injection : (tag value : List ℕ) → HasNoInjection tag → HasNoInjection value → HasNoInjection (to_value tag value)
to_value_no_injection [] value e f = f
to_value_no_injection (b ∷ tag) value e f = by (has_tag (name_addr_of value))
  where
    by : (t : Bool) → HasNoInjection (if t then value else tagged_value value (b ∷ tag))
    by true = f
    by false = tagged_no_injection value (b ∷ tag) f e

to_line_no_injection : (tag : List ℕ) → HasNoInjection tag → (l : Line) → line_has_no_injection l ≡ true → line_has_no_injection (to_line tag l) ≡ true
to_line_no_injection tag e l f = let parts = line_parts l f in line_no_injection l.0 (to_value tag l.1) parts.0 (to_value_no_injection tag l.1 e parts.1)

via_lines_no_injection : (source : Option Addr) (ls : List Line) → LinesHaveNoInjection ls → LinesHaveNoInjection (via_lines source ls)
unfolding via_lines
via_lines_no_injection source ls e = completed_lines_no_injection source (lines_named (codes "Via") ls) (named_no_injection (codes "Via") ls e)

party_lines_no_injection : (tag : List ℕ) (ls : List Line) → HasNoInjection tag → LinesHaveNoInjection ls → LinesHaveNoInjection (party_lines tag ls)
unfolding party_lines
party_lines_no_injection tag ls e f =
    lines_joined (lines_named (codes "From") ls) (map (to_line tag) (lines_named (codes "To") ls)) (named_no_injection (codes "From") ls f)
    (all_map line_has_no_injection line_has_no_injection (to_line tag) (to_line_no_injection tag e) (lines_named (codes "To") ls) (named_no_injection (codes "To") ls f))

call_lines_no_injection : (ls : List Line) → LinesHaveNoInjection ls → LinesHaveNoInjection (call_lines ls)
unfolding call_lines
call_lines_no_injection ls e = lines_joined (lines_named (codes "Call-ID") ls) (lines_named (codes "CSeq") ls) (named_no_injection (codes "Call-ID") ls e) (named_no_injection (codes "CSeq") ls e)

received_lines_no_injection : (source : Option Addr) (tag : List ℕ) (ls : List Line) → HasNoInjection tag → LinesHaveNoInjection ls → LinesHaveNoInjection (copied_lines source tag ls)
unfolding copied_lines
received_lines_no_injection source tag ls e f =
    lines_joined (via_lines source ls) (party_lines tag ls ++ call_lines ls) (via_lines_no_injection source ls f)
    (lines_joined (party_lines tag ls) (call_lines ls) (party_lines_no_injection tag ls e f) (call_lines_no_injection ls f))

route_no_injection : (code : ℕ) (start : Start) (ls : List Line) → LinesHaveNoInjection ls → LinesHaveNoInjection (route_lines code start ls)
unfolding route_lines
route_no_injection code start ls e = if_lines (makes_dialog code start) (lines_named (codes "Record-Route") ls) [] (named_no_injection (codes "Record-Route") ls e) refl

contact_lines_no_injection : (code : ℕ) (start : Start) (contact : List ℕ) → HasNoInjection contact → LinesHaveNoInjection (responses.contact_lines code start contact)
unfolding responses.contact_lines
contact_lines_no_injection code start contact e = if_lines (names_contact code start) (line (codes "Contact") contact) [] (one_no_injection (codes "Contact") contact refl e) refl

own_lines_no_injection : (passed named : List Line) (body : List ℕ) → LinesHaveNoInjection passed → LinesHaveNoInjection named → LinesHaveNoInjection (own_fields passed named body)
unfolding own_fields
own_lines_no_injection passed named body e f =
    lines_joined passed (named ++ line (codes "Content-Length") (decimal (length body))) e
    (lines_joined named (line (codes "Content-Length") (decimal (length body))) f (one_no_injection (codes "Content-Length") (decimal (length body)) refl (decimal_no_injection (length body))))

added_lines_no_injection : (code : ℕ) (start : Start) (ls : List Line) (contact : List ℕ) (passed named : List Line) (body : List ℕ) → LinesHaveNoInjection ls → HasNoInjection contact →
    LinesHaveNoInjection passed → LinesHaveNoInjection named → LinesHaveNoInjection (added_lines code start ls contact passed named body)
unfolding added_lines
added_lines_no_injection code start ls contact passed named body e f g h =
    lines_joined (route_lines code start ls) (responses.contact_lines code start contact ++ own_fields passed named body) (route_no_injection code start ls e)
    (lines_joined (responses.contact_lines code start contact) (own_fields passed named body) (contact_lines_no_injection code start contact f) (own_lines_no_injection passed named body g h))

tag_due_no_injection : (code : ℕ) (tag : List ℕ) → HasNoInjection tag → HasNoInjection (tag_of_response code tag)
tag_due_no_injection code tag e = by (code == 100)
  where
    by : (t : Bool) → HasNoInjection (if t then [] else tag)
    by true = refl
    by false = e

pub response_no_injection : (start : Start) (ls : List Line) (r : Reply) → LinesHaveNoInjection ls → ReplyHasNoInjection r → MessageHasNoInjection (response start ls r)
unfolding response
response_no_injection start ls r e is = record {
  start_in = is.phrase_in;
  lines_in =
      lines_joined (copied_lines r.source (tag_of_response r.code r.tag) ls) (added_lines r.code start ls r.contact r.passed r.named r.body)
      (received_lines_no_injection r.source (tag_of_response r.code r.tag) ls (tag_due_no_injection r.code r.tag is.tag_in) e)
      (added_lines_no_injection r.code start ls r.contact r.passed r.named r.body e is.contact_in is.passed_in is.named_in);
}

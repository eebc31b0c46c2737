-- What is found by a name among the lines of a request that the server makes, beside those of its dialog: the first Via, and the Route values.
use Rattle.std.proofs.Common.{◌≡◌, ◌∙◌, ◌&&◌, not, ℕ, Bool, true, false, List, [], ◌∷◌, ◌++◌, Option, Some, None, append-nil, ap, arith, codes, cond, decimal, length, map, refl, sym}
use Rattle.std.proofs.lemmas.List.Elements.{filter-append}
use Rattle.std.specs.Option.{option_map}
use Rattle.mmtel_base.specs.Chain.{◌>>=◌}
use Rattle.mmtel_base.specs.Classes.{in_class}
use Rattle.mmtel_lex.specs.Grammar.{IsToken}
use Rattle.mmtel_leg.specs.Dialogues.{number_at, number_in}
use Rattle.mmtel_leg.specs.Requests.{RequestPartsView, contact_lines, content_lines, dialog_lines, is_contacting, request_numbered, route_line, routing_lines}
use Rattle.mmtel_leg.specs.declared.dialogues.Dialogue.{Dialogue}
use Rattle.mmtel_message.specs.Addresses.{contact_text, via_text}
use Rattle.mmtel_message.specs.Fields.{cseq_at}
use Rattle.mmtel_message.specs.Message.{Line, first_value, has_line, is_line, line, line_texts, lines_named}
use Rattle.mmtel_message.specs.declared.fields.CSeq.{CSeq}
use Rattle.mmtel_types.specs.declared.addrs.Addr.{Addr}

-- ---- Via comes first

pub via : (d : Dialogue) (number : ℕ) (method : List ℕ) (given : RequestPartsView) → first_value (codes "Via") (request_numbered d number method given).lines ≡ Some (via_text given.sip given.branch)
unfolding line
via d number method given = refl

-- ---- Route

abbrev routed : List Line → List Line
routed ls = lines_named (codes "Route") ls

over : (xs ys : List Line) → routed (xs ++ ys) ≡ routed xs ++ routed ys
over xs ys = filter-append (λ (l : Line). is_line (codes "Route") l) xs ys

all_routes : (routes : List (List ℕ)) → routed (map route_line routes) ≡ map route_line routes
all_routes [] = refl
all_routes (route ∷ routes) = ap (λ (ls : List Line). route_line route ∷ ls) (all_routes routes)

in_routing : (routes : List (List ℕ)) (sip : Addr) (hops : ℕ) (branch : List ℕ) → routed (routing_lines routes sip hops branch) ≡ map route_line routes
unfolding line
in_routing routes sip hops branch = over (map route_line routes) ((codes "Max-Forwards", decimal hops) ∷ []) ∙ (append-nil (routed (map route_line routes)) ∙ all_routes routes)

contact_none : (b : Bool) (sip : Addr) → routed (cond b (line (codes "Contact") (contact_text sip)) []) ≡ []
unfolding line
contact_none true sip = refl
contact_none false sip = refl

length_none : (body : List ℕ) → routed (line (codes "Content-Length") (decimal (length body))) ≡ []
unfolding line
length_none body = refl

in_content : (method : List ℕ) (sip : Addr) (shown : List Line) (body : List ℕ) → routed shown ≡ [] → routed (content_lines method sip shown body) ≡ []
in_content method sip shown body none =
    let last : List Line = line (codes "Content-Length") (decimal (length body)) in
    over (contact_lines method sip shown) (shown ++ last)
    ∙ rw (contact_none (is_contacting method && not (has_line (codes "Contact") shown)) sip, over shown last, none, length_none body) refl

in_dialog : (d : Dialogue) (number : ℕ) (method : List ℕ) → routed (dialog_lines d number method) ≡ []
unfolding line
in_dialog d number method = refl

routes_of : (d : Dialogue) (number : ℕ) (method : List ℕ) (given : RequestPartsView) → routed given.shown ≡ [] → routed (request_numbered d number method given).lines ≡ map route_line d.routes
routes_of d number method given none =
    let content : List Line = content_lines method given.sip given.shown given.body in
    over (routing_lines d.routes given.sip given.hops given.branch) (dialog_lines d number method ++ content)
    ∙ (rw (in_routing d.routes given.sip given.hops given.branch, over (dialog_lines d number method) content, in_dialog d number method, in_content method given.sip given.shown given.body none)
    (append-nil (map route_line d.routes)))

-- two requests of one dialog have the same Route values
pub one_route : (d e : Dialogue) (number : ℕ) (method other : List ℕ) (one two : RequestPartsView) → d.routes ≡ e.routes → routed one.shown ≡ [] → routed two.shown ≡ [] →
    line_texts (codes "Route") (request_numbered d number method one).lines ≡ line_texts (codes "Route") (request_numbered e number other two).lines
one_route d e number method other one two same none also =
    ap (map (λ (l : Line). l.1)) (routes_of d number method one none ∙ (ap (map route_line) same ∙ sym (routes_of e number other two also)))

-- ---- the number of CSeq

mapped : (v : Option (List ℕ)) → (v >>= number_at) ≡ option_map (λ (c : CSeq). c.number) (v >>= cseq_at)
unfolding number_at
mapped None = refl
mapped (Some v) = refl

pub number_read : (ls : List Line) (c : CSeq) → (first_value (codes "CSeq") ls >>= cseq_at) ≡ Some c → number_in ls ≡ Some c.number
unfolding number_in
number_read ls c e = mapped (first_value (codes "CSeq") ls) ∙ ap (option_map (λ (x : CSeq). x.number)) e

pub invite_token : IsToken (codes "INVITE")
unfolding in_class
invite_token = record { filled = omega arith; each = refl }

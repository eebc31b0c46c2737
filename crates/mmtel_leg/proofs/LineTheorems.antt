-- What is found by a name among the lines of a request: Route values do not hide it.
use Rattle.std.proofs.Common.{ℕ, ◌≡◌, false, List, [], ◌∷◌, ◌++◌, Some, append_assoc, codes, decimal, map, refl}
use Rattle.std.specs.Str.{str_eq_ignore_ascii_case}
use Rattle.mmtel_message.specs.Message.{Line, first_value, line}
use Rattle.mmtel_types.specs.declared.addrs.Addr.{Addr}
use Rattle.mmtel_leg.specs.Requests.{RequestPartsView, content_lines, cseq_text, dialog_lines, request_numbered, route_line, routing_lines, to_text}
use Rattle.mmtel_leg.specs.declared.dialogues.Dialogue.{Dialogue}

behind_routes : (name : List ℕ) (routes : List (List ℕ)) (ls : List Line) → str_eq_ignore_ascii_case (codes "Route") name ≡ false → first_value name (map route_line routes ++ ls) ≡ first_value name ls
behind_routes name [] ls other = refl
behind_routes name (route ∷ routes) ls other = rw other (behind_routes name routes ls other)

behind_routing : (name : List ℕ) (routes : List (List ℕ)) (sip : Addr) (hops : ℕ) (branch : List ℕ) (ls : List Line) → str_eq_ignore_ascii_case (codes "Via") name ≡ false →
    str_eq_ignore_ascii_case (codes "Route") name ≡ false → str_eq_ignore_ascii_case (codes "Max-Forwards") name ≡ false →
    first_value name (routing_lines routes sip hops branch ++ ls) ≡ first_value name ls
unfolding line
behind_routing name routes sip hops branch ls via route forwards =
    rw (via, append_assoc (map route_line routes) ((codes "Max-Forwards", decimal hops) ∷ []) ls, behind_routes name routes ((codes "Max-Forwards", decimal hops) ∷ ls) route, forwards) refl

pub cseq : (d : Dialogue) (number : ℕ) (method : List ℕ) (given : RequestPartsView) → first_value (codes "CSeq") (request_numbered d number method given).lines ≡ Some (cseq_text number method)
unfolding line
cseq d number method given =
    behind_routing (codes "CSeq") d.routes given.sip given.hops given.branch (dialog_lines d number method ++ content_lines method given.sip given.shown given.body) refl refl refl

pub call_id : (d : Dialogue) (number : ℕ) (method : List ℕ) (given : RequestPartsView) → first_value (codes "Call-ID") (request_numbered d number method given).lines ≡ Some d.call_id
unfolding line
call_id d number method given =
    behind_routing (codes "Call-ID") d.routes given.sip given.hops given.branch (dialog_lines d number method ++ content_lines method given.sip given.shown given.body) refl refl refl

pub from : (d : Dialogue) (number : ℕ) (method : List ℕ) (given : RequestPartsView) → first_value (codes "From") (request_numbered d number method given).lines ≡ Some d.local
unfolding line
from d number method given =
    behind_routing (codes "From") d.routes given.sip given.hops given.branch (dialog_lines d number method ++ content_lines method given.sip given.shown given.body) refl refl refl

pub to : (d : Dialogue) (number : ℕ) (method : List ℕ) (given : RequestPartsView) → first_value (codes "To") (request_numbered d number method given).lines ≡ Some (to_text d.side d.remote d.remote_tag)
unfolding line
to d number method given =
    behind_routing (codes "To") d.routes given.sip given.hops given.branch (dialog_lines d number method ++ content_lines method given.sip given.shown given.body) refl refl refl

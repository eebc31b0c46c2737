-- The requests of a dialog (RFC 3261 §12.2.1.1 and §8.1.1): each line, in its order.
use Rattle.std.specs.Prelude.{ℕ, Bool, not, ◌&&◌, ◌||◌, if◌then◌else◌, List, [], ◌∷◌, ◌++◌, codes, decimal, length, map}
use Rattle.std.specs.Option.{unwrap_or}
use Rattle.std.specs.Str.{bytes_eq}
use Rattle.mmtel_message.specs.Message.{Line, Message, has_line, line}
use Rattle.mmtel_message.specs.Responses.{tagged_value}
use Rattle.mmtel_message.specs.declared.messages.Start.{Start}
use Rattle.mmtel_message.specs.declared.messages.Start.TheVariants.{Request}
use Rattle.mmtel_types.specs.declared.addrs.Addr.{Addr}
use Rattle.mmtel_types.specs.declared.sides.Side.{Side}
use Rattle.mmtel_types.specs.declared.sides.Side.TheVariants.{Caller, Callee}
use Rattle.mmtel_message.specs.Addresses.{contact_text, via_text}
use Rattle.mmtel_base.specs.Numbers.{next_number}
use Rattle.mmtel_leg.specs.declared.dialogues.Dialogue.{Dialogue}

-- the parts of a request that do not come from its dialog: the server's address, the remaining hops, the branch after its cookie, the lines that are passed on, and the body
pub record RequestPartsView : Type 0 where
  pub sip : Addr
  pub hops : ℕ
  pub branch : List ℕ
  pub shown : List Line
  pub body : List ℕ

-- ---- the lines

abbrev pub route_line : List ℕ → Line
route_line value = (codes "Route", value)

-- To: a caller's From as it was received, its tag within; or a callee's To, with the tag that the callee gave
abbrev pub to_text : Side → List ℕ → List ℕ → List ℕ
to_text Caller value tag = value
to_text Callee value [] = value
to_text Callee value (b ∷ tag) = tagged_value value (b ∷ tag)

-- CSeq (§8.1.1.5)
abbrev pub cseq_text : ℕ → List ℕ → List ℕ
cseq_text number method = decimal number ++ 32 ∷ method

-- INVITE makes a dialog, UPDATE refreshes its target, and NOTIFY is in a dialog that a subscription made: each has the address at which the server is reached (§12.1.1, RFC 3311
-- §5.1, RFC 6665 §4.2.2)
abbrev pub is_contacting : List ℕ → Bool
is_contacting method = (bytes_eq method (codes "INVITE") || bytes_eq method (codes "UPDATE")) || bytes_eq method (codes "NOTIFY")

-- Contact of such a request, unless the shown lines have one of their own, as those of a conference do
abbrev pub contact_lines : List ℕ → Addr → List Line → List Line
contact_lines method sip shown = if is_contacting method && not (has_line (codes "Contact") shown) then line (codes "Contact") (contact_text sip) else []

-- the lines by which the request is routed: Via, the route set, and the remaining hops
abbrev pub routing_lines : List (List ℕ) → Addr → ℕ → List ℕ → List Line
routing_lines routes sip hops branch =
    line (codes "Via") (via_text sip branch) ++
    (map route_line routes ++
    line (codes "Max-Forwards") (decimal hops))

-- the lines that identify the dialog and the request in it
abbrev pub dialog_lines : Dialogue → ℕ → List ℕ → List Line
dialog_lines d number method =
    line (codes "From") d.local ++
    (line (codes "To") (to_text d.side d.remote d.remote_tag) ++
    (line (codes "Call-ID") d.call_id ++
    line (codes "CSeq") (cseq_text number method)))

-- the contents of the request
abbrev pub content_lines : List ℕ → Addr → List Line → List ℕ → List Line
content_lines method sip shown body =
    contact_lines method sip shown ++
    (shown ++
    line (codes "Content-Length") (decimal (length body)))

abbrev pub request_lines : Dialogue → ℕ → List ℕ → RequestPartsView → List Line
request_lines d number method given =
    routing_lines d.routes given.sip given.hops given.branch ++
    (dialog_lines d number method ++
    content_lines method given.sip given.shown given.body)

-- ---- the requests

-- a request of the method, with this number, to the target
abbrev pub request_numbered : Dialogue → ℕ → List ℕ → RequestPartsView → Message Start
request_numbered d number method given = record {
  start = Request method d.target;
  lines = request_lines d number method given;
  body = given.body;
}

-- the next request
abbrev pub request_of : Dialogue → List ℕ → RequestPartsView → Message Start
request_of d method given = request_numbered d (next_number d.local_cseq) method given

-- the ACK of the server's last INVITE, which has its number (§13.2.2.4); with number 0 where there was none
abbrev pub ack_of : Dialogue → RequestPartsView → Message Start
ack_of d given = request_numbered d (unwrap_or d.invite_cseq 0) (codes "ACK") given

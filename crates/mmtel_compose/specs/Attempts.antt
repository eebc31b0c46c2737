-- The INVITE of an attempt: the first request of a dialog that the server begins (RFC 3261 §8.1.1, §12.1.2), by which it relays the INVITE that opened the call (§16.6) to the
-- first target or to one to which the call was diverted (RFC 7044 §7, RFC 4458 §2).
use Rattle.std.specs.Prelude.{ℕ, Bool, Option, Some, None, List, [], ◌∷◌, ◌++◌, codes, if◌then◌else◌}
use Rattle.mmtel_history.specs.EntryUri.{with_cause, without_cause}
use Rattle.mmtel_leg.specs.Dialogues.{after_request, request_uri}
use Rattle.mmtel_leg.specs.Requests.{request_numbered}
use Rattle.mmtel_leg.specs.declared.dialogues.Dialogue.{Dialogue}
use Rattle.mmtel_lex.specs.Grammar.{name_addr_text, uri_text}
use Rattle.mmtel_lex.specs.declared.values.NameAddr.{NameAddr}
use Rattle.mmtel_lex.specs.declared.values.Uri.{Uri}
use Rattle.mmtel_message.specs.Message.{Line, Message}
use Rattle.mmtel_message.specs.declared.messages.Start.{Start}
use Rattle.mmtel_trust.specs.ParsedMessage.{ParsedMessage}
use Rattle.mmtel_trust.specs.HeaderTable.{display_and_uri, name_addr_in}
use Rattle.mmtel_types.specs.declared.addrs.Addr.{Addr}
use Rattle.mmtel_types.specs.declared.numbers.Peer.{Peer}
use Rattle.mmtel_types.specs.declared.sides.Side.TheVariants.{Callee}
use Rattle.mmtel_compose.specs.Requests.{relayed_parts}
use Rattle.mmtel_compose.specs.declared.attempts.Destination.{Destination}

-- ---- its destination

-- a display name and a URI without the parameters after them
abbrev pub without_params : Option NameAddr → List ℕ
without_params None = []
without_params (Some n) = display_and_uri n

-- a URI alone, in brackets
abbrev pub uri_in_brackets : List ℕ → List ℕ
uri_in_brackets uri = name_addr_text (record { display = []; uri = uri; params = [] })

-- the first target: Request-URI, and display name and URI of To, as received
abbrev pub first_destination : Peer → (routes : List (List ℕ)) → ParsedMessage → Destination
first_destination peer routes m = record { peer = peer; uri = request_uri m.start; to = without_params (name_addr_in m.to); routes = routes }

-- the target of a diversion: the cause is in the Request-URI and not in To
abbrev pub diverted_destination : Peer → (routes : List (List ℕ)) → (target : Uri) → (cause : ℕ) → Destination
diverted_destination peer routes target cause =
    record { peer = peer; uri = with_cause cause (uri_text target); to = uri_in_brackets (without_cause (uri_text target)); routes = routes }

-- ---- the dialog

-- before its INVITE is sent
abbrev pub dialogue_to : Destination → (call_id tag from : List ℕ) → Dialogue
dialogue_to destination call_id tag from = record {
  side = Callee;
  peer = destination.peer;
  call_id = call_id;
  local = from;
  remote = destination.to;
  local_tag = tag;
  remote_tag = [];
  target = destination.uri;
  routes = destination.routes;
  local_cseq = 0;
  remote_cseq = None;
  invite_cseq = None;
}

-- as the leg keeps it, once the INVITE was sent: the Route values were for the INVITE, and the route to the callee is not known (§12.1.2)
abbrev pub as_callee : Dialogue → Dialogue
as_callee d = record (after_request d (codes "INVITE")) { routes = [] }

-- ---- the INVITE

-- the line that indicates to a target that the call waits (TS 24.615 §4.5.5.3)
abbrev pub alert_lines : Bool → List Line
alert_lines waiting = if waiting then (codes "Alert-Info", codes "<urn:alert:service:call-waiting>") ∷ [] else []

-- with these lines of the INVITE that opened the call
abbrev pub invite_of : Dialogue → Addr → (branch : List ℕ) → (passed : List Line) → (waiting : Bool) → ParsedMessage → Message Start
invite_of d sip branch passed waiting m = request_numbered d 1 (codes "INVITE") (relayed_parts sip branch (passed ++ alert_lines waiting) m)

-- The dialog state of a leg (RFC 3261 §12): its identifiers, the route to the other side, and its numbers; how it begins (§12.1), what it records of the other side, and which
-- requests it accepts (§12.2.2, §14.2).
use Rattle.std.specs.Prelude.{ℕ, nat_lt, Bool, true, false, if◌then◌else◌, List, [], ◌∷◌, Option, Some, None, Result, Ok, Err, codes}
use Rattle.std.specs.Option.{option_map, unwrap_or}
use Rattle.std.specs.Str.{bytes_eq}
use Rattle.mmtel_base.specs.Chain.{◌>>=◌}
use Rattle.mmtel_base.specs.Numbers.{next_number}
use Rattle.mmtel_message.specs.Faults.{is_method}
use Rattle.mmtel_message.specs.Fields.{cseq_at}
use Rattle.mmtel_message.specs.Message.{Line, Message, first_value}
use Rattle.mmtel_message.specs.Responses.{tagged_value}
use Rattle.mmtel_message.specs.declared.fields.CSeq.{CSeq}
use Rattle.mmtel_message.specs.declared.messages.Start.{Start}
use Rattle.mmtel_message.specs.declared.messages.Start.TheVariants.{Request, Status}
use Rattle.mmtel_types.specs.declared.numbers.Peer.{Peer}
use Rattle.mmtel_types.specs.declared.sides.Side.{Side}
use Rattle.mmtel_types.specs.declared.sides.Side.TheVariants.{Caller, Callee}
use Rattle.mmtel_leg.specs.Remotes.{field, remote_of, tag_in}
use Rattle.mmtel_leg.specs.declared.dialogues.Dialogue.{Dialogue}
use Rattle.mmtel_leg.specs.declared.dialogues.DialogueFault.{DialogueFault}
use Rattle.mmtel_leg.specs.declared.dialogues.DialogueFault.TheVariants.{OldCSeq, Pending, Unfinished}
use Rattle.mmtel_leg.specs.declared.dialogues.InFlight.{InFlight}
use Rattle.mmtel_leg.specs.declared.dialogues.InFlight.TheVariants as in_flight
use Rattle.mmtel_leg.specs.declared.remotes.Remote.{Remote}

-- ---- numbers (RFC 3261 §12.2.1.1)

-- the number of a CSeq value
unfoldable pub number_at : List ℕ → Option ℕ
number_at s = option_map (λ (c : CSeq). c.number) (cseq_at s)

-- the number in CSeq, where that can be read
unfoldable pub number_in : List Line → Option ℕ
number_in ls = first_value (codes "CSeq") ls >>= number_at

-- ---- how a dialog begins

-- the Request-URI
abbrev pub request_uri : Start → List ℕ
request_uri (Request method uri) = uri
request_uri (Status code phrase) = []

-- the dialog of an INVITE that was received, where the server responds with this tag: the parties change places (§12.1.1)
abbrev pub caller_dialogue : Peer → List Line → List ℕ → Dialogue
caller_dialogue peer ls tag = record {
  side = Caller;
  peer = peer;
  call_id = field (codes "Call-ID") ls;
  local = tagged_value (field (codes "To") ls) tag;
  remote = field (codes "From") ls;
  local_tag = tag;
  remote_tag = [];
  target = [];
  routes = [];
  local_cseq = 0;
  remote_cseq = number_in ls;
  invite_cseq = None;
}

-- the dialog of an INVITE that the server sends (§12.1.2); until a response to it makes a dialog the target is the Request-URI; a number that cannot be read counts as 0
abbrev pub callee_dialogue : Peer → Message Start → Dialogue
callee_dialogue peer m = record {
  side = Callee;
  peer = peer;
  call_id = field (codes "Call-ID") m.lines;
  local = field (codes "From") m.lines;
  remote = field (codes "To") m.lines;
  local_tag = tag_in (codes "From") m.lines;
  remote_tag = [];
  target = request_uri m.start;
  routes = [];
  local_cseq = unwrap_or (number_in m.lines) 0;
  remote_cseq = None;
  invite_cseq = number_in m.lines;
}

-- ---- what is recorded of the other side

-- whether a side that gives this tag sets its tag and its route set with it. A caller does so in its INVITE, which has a tag (§12.1.1); later it gives nothing new, and no tag. A
-- callee does so anew in each response that makes or confirms a dialog, also where it gives no tag (§12.1.2, §13.2.2.4)
abbrev pub names_itself : Side → List ℕ → Bool
names_itself Caller [] = false
names_itself Caller (b ∷ tag) = true
names_itself Callee tag = true

-- the target that was given, or the one before where none was
abbrev pub target_or : List ℕ → List ℕ → List ℕ
target_or [] before = before
target_or (b ∷ target) before = b ∷ target

-- the dialog with the tag, target and route set that the other side gave
abbrev pub with_remote : Dialogue → Remote → Dialogue
with_remote d r = record d {
  remote_tag = if names_itself d.side r.tag then r.tag else d.remote_tag;
  target = target_or r.target d.target;
  routes = if names_itself d.side r.tag then r.routes else d.routes;
}

-- the dialog of a received INVITE, with the caller's tag, target and route set from it (§12.1.1)
abbrev pub caller_dialogue_with_remote : Peer → List Line → List ℕ → Dialogue
caller_dialogue_with_remote peer ls tag = with_remote (caller_dialogue peer ls tag) (remote_of Caller ls)

-- ---- requests that are received in a dialog

-- an INVITE is refused while one of either side is pending (§14.2); another request is accepted at any time
abbrev pub unless_busy : Bool → InFlight → Result (Unit {0}) DialogueFault
unless_busy invite in_flight.None = Ok tt
unless_busy invite in_flight.Own = if invite then Err Pending else Ok tt
unless_busy invite in_flight.Theirs = if invite then Err Unfinished else Ok tt

-- a number lower than the last is out of order (§12.2.2), whatever else applies
abbrev pub unless_old : Option ℕ → Option ℕ → Result (Unit {0}) DialogueFault → Result (Unit {0}) DialogueFault
unless_old None last otherwise = otherwise
unless_old (Some n) None otherwise = otherwise
unless_old (Some n) (Some last) otherwise = if nat_lt n last then Err (OldCSeq last) else otherwise

-- whether a dialog accepts a request, or why not
abbrev pub receive_result : Dialogue → Message Start → InFlight → Result (Unit {0}) DialogueFault
receive_result d m busy = unless_old (number_in m.lines) d.remote_cseq (unless_busy (is_method (codes "INVITE") m.start) busy)

-- the last number, once a request with this one was accepted
abbrev pub last_after : Option ℕ → Option ℕ → Option ℕ
last_after None last = last
last_after (Some n) last = Some n

-- the dialog once a request was accepted: its last number changes and nothing else
abbrev pub after_receiving : Dialogue → Message Start → Dialogue
after_receiving d m = record d { remote_cseq = last_after (number_in m.lines) d.remote_cseq }

-- ---- requests that are sent in a dialog

-- the number of the last INVITE, once a request of the method was made with this number
abbrev pub invite_cseq_after : List ℕ → ℕ → Option ℕ → Option ℕ
invite_cseq_after method number before = if bytes_eq method (codes "INVITE") then Some number else before

-- the dialog once a request of the method was made: its own number changes, and that of the last INVITE too where the request is one
abbrev pub after_request : Dialogue → List ℕ → Dialogue
after_request d method = record d { local_cseq = next_number d.local_cseq; invite_cseq = invite_cseq_after method (next_number d.local_cseq) d.invite_cseq }

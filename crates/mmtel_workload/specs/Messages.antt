-- What the parties of a workload's call send, byte by byte (RFC 3261 §7): requests of alice, and responses of the party that she reaches.
use Rattle.std.specs.Prelude.{ℕ, ◌+◌, List, [], ◌++◌, codes, decimal}
use Rattle.mmtel_workload.specs.declared.calls.Call.{Call}
use Rattle.mmtel_workload.specs.declared.calls.RequestScope.{RequestScope}
use Rattle.mmtel_workload.specs.declared.calls.RequestScope.TheVariants.{Initial, WithToTag, InDialog}
use Rattle.mmtel_workload.specs.declared.kinds.CallMessage.{CallMessage}
use Rattle.mmtel_workload.specs.declared.kinds.CallMessage.TheVariants as act
use Rattle.mmtel_workload.specs.declared.kinds.Kind.{Kind}
use Rattle.mmtel_workload.specs.declared.kinds.Kind.TheVariants as kind

-- the identifier with this number of the call that the server draws, from the token 0123456789abcdef: its own tag, and the Call-ID, tag and branch of its INVITE, are the first to
-- the fourth, and the branches of its ACK and its BYE the fifth and the sixth
abbrev pub identifier_text : Call → ℕ → List ℕ
identifier_text call number = codes "0123456789abcdef-" ++ decimal (call.drawn + number)

-- the user that alice calls
abbrev pub callee : Kind → List ℕ
callee kind.Answered = codes "sip:bob@home.example"
callee kind.Diverted = codes "sip:carol@home.example"
callee kind.Busy = codes "sip:bob@home.example"
callee kind.Cancelled = codes "sip:bob@home.example"

-- the user that she reaches
abbrev pub reached_party : Kind → List ℕ
reached_party kind.Answered = codes "sip:bob@home.example"
reached_party kind.Diverted = codes "sip:vm@far.example"
reached_party kind.Busy = codes "sip:bob@home.example"
reached_party kind.Cancelled = codes "sip:bob@home.example"

-- ---- requests of alice

-- its Request-URI: the callee, and in the dialog the server
abbrev pub request_uri : Call → RequestScope → List ℕ
request_uri call Initial = callee call.kind
request_uri call WithToTag = callee call.kind
request_uri call InDialog = codes "sip:127.0.0.1:5060"

-- Via, Max-Forwards and From, by the letter of its branch: branch and tag are built of the number of the call
abbrev pub from_lines : Call → (letter : List ℕ) → List ℕ
from_lines call letter =
    codes "Via: SIP/2.0/UDP 127.0.0.1:5071;branch=z9hG4bK" ++ letter ++ decimal call.number
    ++ codes "\r\nMax-Forwards: 70\r\nFrom: <sip:alice@home.example>;tag=a" ++ decimal call.number ++ codes "\r\n"

-- To, which has the server's tag where she knows it
abbrev pub to_tag : Call → RequestScope → List ℕ
to_tag call Initial = codes ">\r\n"
to_tag call WithToTag = codes ">;tag=" ++ identifier_text call 1 ++ codes "\r\n"
to_tag call InDialog = codes ">;tag=" ++ identifier_text call 1 ++ codes "\r\n"

abbrev pub to_line : Call → RequestScope → List ℕ
to_line call way = codes "To: <" ++ callee call.kind ++ to_tag call way

-- Call-ID and CSeq
abbrev pub call_lines : Call → (method : List ℕ) → (sequence : ℕ) → List ℕ
call_lines call method sequence =
    codes "Call-ID: w" ++ decimal call.number ++ codes "\r\nCSeq: " ++ decimal sequence ++ codes " " ++ method ++ codes "\r\n"

-- one of this method, letter and CSeq number, with header fields of its own
abbrev pub request_text : Call → (method letter : List ℕ) → (sequence : ℕ) → RequestScope → (more : List ℕ) → List ℕ
request_text call method letter sequence way more =
    method ++ codes " " ++ request_uri call way ++ codes " SIP/2.0\r\n" ++ from_lines call letter ++ to_line call way ++ call_lines call method sequence
    ++ more ++ codes "Content-Length: 0\r\n\r\n"

-- the header fields that only her INVITE has
abbrev pub invite_lines : List ℕ
invite_lines = codes "Contact: <sip:alice@127.0.0.1:5071>\r\nP-Asserted-Identity: <sip:alice@home.example>\r\n"

-- ---- responses of the party that she reaches

-- Via and From of the server's request, whose branch is the identifier of this number
abbrev pub via_and_from_lines : Call → (branch : ℕ) → List ℕ
via_and_from_lines call branch =
    codes "Via: SIP/2.0/UDP 127.0.0.1:5060;branch=z9hG4bK" ++ identifier_text call branch
    ++ codes "\r\nFrom: <sip:alice@home.example>;tag=" ++ identifier_text call 3 ++ codes "\r\n"

-- To, with a tag of the number of the call, and Call-ID
abbrev pub to_and_call_id_lines : Call → List ℕ
to_and_call_id_lines call =
    codes "To: <" ++ reached_party call.kind ++ codes ">;tag=b" ++ decimal call.number ++ codes "\r\nCall-ID: " ++ identifier_text call 2 ++ codes "\r\n"

-- one of this status and CSeq to the request of this branch
abbrev pub response_text : Call → (status : List ℕ) → (branch : ℕ) → (sequence : List ℕ) → List ℕ
response_text call status branch sequence =
    codes "SIP/2.0 " ++ status ++ codes "\r\n" ++ via_and_from_lines call branch ++ to_and_call_id_lines call ++ codes "CSeq: " ++ sequence
    ++ codes "\r\nContact: <sip:target@127.0.0.1:5071>\r\nContent-Length: 0\r\n\r\n"

-- ---- inputs of the server

abbrev pub message_text : Call → CallMessage → List ℕ
message_text call act.Invite = request_text call (codes "INVITE") (codes "i") 1 Initial invite_lines
message_text call act.Ringing = response_text call (codes "180 Ringing") 4 (codes "1 INVITE")
message_text call act.OkToInvite = response_text call (codes "200 OK") 4 (codes "1 INVITE")
message_text call act.AckOfOk = request_text call (codes "ACK") (codes "k") 1 InDialog []
message_text call act.Bye = request_text call (codes "BYE") (codes "y") 2 InDialog []
message_text call act.OkToBye = response_text call (codes "200 OK") 6 (codes "2 BYE")
message_text call act.BusyHere = response_text call (codes "486 Busy Here") 4 (codes "1 INVITE")
message_text call act.AckOfRefusal = request_text call (codes "ACK") (codes "i") 1 WithToTag []
message_text call act.Cancel = request_text call (codes "CANCEL") (codes "i") 1 Initial []
message_text call act.OkToCancel = response_text call (codes "200 OK") 4 (codes "1 CANCEL")
message_text call act.RequestTerminated = response_text call (codes "487 Request Terminated") 4 (codes "1 INVITE")

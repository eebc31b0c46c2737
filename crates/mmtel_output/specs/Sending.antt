-- What the server sends in a step, each message with the tokens that it draws; `sip` is the server's address. A response is sent to the peer that sent its request, a request of
-- a dialog to the dialog's peer.
use Rattle.std.specs.Prelude.{ℕ, Bool, if◌then◌else◌, List, [], codes}
use Rattle.mmtel_compose.specs.Responses.{own_response, relayed_response}
use Rattle.mmtel_compose.specs.Attempts.{dialogue_to, invite_of}
use Rattle.mmtel_compose.specs.Requests.{bare_parts, cancel_of, final_ack_of, own_parts, relayed_parts}
use Rattle.mmtel_compose.specs.ReceivedMessages.{MessageView}
use Rattle.mmtel_compose.specs.declared.attempts.Destination.{Destination}
use Rattle.mmtel_leg.specs.Remotes.{field}
use Rattle.mmtel_leg.specs.Requests.{ack_of, request_of}
use Rattle.mmtel_leg.specs.declared.dialogues.Dialogue.{Dialogue}
use Rattle.mmtel_message.specs.Addresses.{contact_text}
use Rattle.mmtel_message.specs.Message.{Line}
use Rattle.mmtel_message.specs.Texts.{message_text}
use Rattle.mmtel_transaction.specs.declared.words.Emit.TheVariants as emit
use Rattle.mmtel_transaction.specs.declared.words.TKey.{TKey}
use Rattle.mmtel_trust.specs.ParsedMessage.{ParsedMessage}
use Rattle.mmtel_trust.specs.HeaderTable.{attempt_from}
use Rattle.mmtel_types.specs.declared.addrs.Addr.{Addr}
use Rattle.mmtel_output.specs.Outputs.{after_draw, token, with_emit}
use Rattle.mmtel_output.specs.SentInvites.{is_cancellable}
use Rattle.mmtel_output.specs.declared.outputs.StepOutput.{StepOutput}
use Rattle.mmtel_output.specs.declared.sent_invites.SentInvite.{SentInvite}

-- ---- responses (RFC 3261 §8.2.6, §16.7)

-- of the server's own, with this Contact where one is due
abbrev pub with_contact_response : (contact : List ℕ) → TKey → MessageView → (tag : List ℕ) → (code : ℕ) → (passed named : List Line) → (body : List ℕ) → StepOutput → StepOutput
with_contact_response contact key m tag code passed named body output = with_emit (emit.Reply key (own_response contact m tag code passed named body)) output

-- with the server's Contact
abbrev pub with_response : Addr → TKey → MessageView → (tag : List ℕ) → (code : ℕ) → (passed named : List Line) → (body : List ℕ) → StepOutput → StepOutput
with_response sip key m tag code passed named body output = with_contact_response (contact_text sip) key m tag code passed named body output

-- a status alone
abbrev pub with_status_response : Addr → TKey → MessageView → (tag : List ℕ) → (code : ℕ) → StepOutput → StepOutput
with_status_response sip key m tag code output = with_response sip key m tag code [] [] [] output

-- a received one
abbrev pub with_relayed_response : Addr → TKey → MessageView → (tag : List ℕ) → (passed : List Line) → MessageView → StepOutput → StepOutput
with_relayed_response sip key m tag passed r output = with_emit (emit.Reply key (relayed_response (contact_text sip) m tag passed r)) output

-- ---- requests in a dialog (§12.2.1.1)

-- of the server's own, with these named lines and this body
abbrev pub with_own_request : Addr → (method : List ℕ) → Dialogue → (named : List Line) → (body : List ℕ) → StepOutput → StepOutput
with_own_request sip method d named body output = with_emit (emit.Ask d.peer (request_of d method (own_parts sip (token output) named body))) (after_draw output)

abbrev pub with_bare_request : Addr → (method : List ℕ) → Dialogue → StepOutput → StepOutput
with_bare_request sip method d output = with_own_request sip method d [] [] output

-- the dialog ends (§15.1.1)
abbrev pub with_bye : Addr → Dialogue → StepOutput → StepOutput
with_bye sip d output = with_bare_request sip (codes "BYE") d output

-- a received one, with these lines of it
abbrev pub with_relayed_request : Addr → (method : List ℕ) → Dialogue → (passed : List Line) → ParsedMessage → StepOutput → StepOutput
with_relayed_request sip method d passed m output = with_emit (emit.Ask d.peer (request_of d method (relayed_parts sip (token output) passed m))) (after_draw output)

-- ---- the ACK of a 2xx (§13.2.2.4), which is sent outside of any transaction

unfoldable pub ack_text : Addr → Dialogue → (branch : List ℕ) → List ℕ
ack_text sip d branch = message_text (ack_of d (bare_parts sip branch))

abbrev pub with_ack : Addr → Dialogue → StepOutput → StepOutput
with_ack sip d output = with_emit (emit.Plain d.peer (ack_text sip d (token output))) (after_draw output)

-- a received one, with these lines of it
unfoldable pub relayed_ack_text : Addr → Dialogue → (branch : List ℕ) → (passed : List Line) → ParsedMessage → List ℕ
relayed_ack_text sip d branch passed m = message_text (ack_of d (relayed_parts sip branch passed m))

abbrev pub with_relayed_ack : Addr → Dialogue → (passed : List Line) → ParsedMessage → StepOutput → StepOutput
with_relayed_ack sip d passed m output = with_emit (emit.Plain d.peer (relayed_ack_text sip d (token output) passed m)) (after_draw output)

-- ---- the INVITE of an attempt: its Call-ID, tag and branch are drawn in this order

abbrev pub attempt_dialog : Destination → ParsedMessage → (restricted : Bool) → StepOutput → Dialogue
attempt_dialog destination m restricted output = dialogue_to destination (token output) (token (after_draw output)) (attempt_from restricted (token (after_draw output)) m.lines)

abbrev pub with_attempt_invite : Addr → Destination → ParsedMessage → (restricted : Bool) → (passed : List Line) → (waiting : Bool) → StepOutput → StepOutput
with_attempt_invite sip destination m restricted passed waiting output =
    with_emit (emit.Ask destination.peer (invite_of (attempt_dialog destination m restricted output) sip (token (after_draw (after_draw output))) passed waiting m))
    (after_draw (after_draw (after_draw output)))

-- ---- what copies fields of an INVITE

-- CANCEL (§9.1)
abbrev pub with_cancel : Addr → SentInvite → StepOutput → StepOutput
with_cancel sip i output = with_emit (emit.Ask i.dialogue.peer (cancel_of i.dialogue i.number sip i.branch)) output

-- where it is due
abbrev pub with_due_cancel : Addr → SentInvite → StepOutput → StepOutput
with_due_cancel sip i output = if is_cancellable i then with_cancel sip i output else output

-- the ACK of a final from 300, which the client transaction keeps (§17.1.1.3)
abbrev pub with_final_ack : Addr → TKey → SentInvite → ParsedMessage → StepOutput → StepOutput
with_final_ack sip key i m output = with_emit (emit.Ack key (final_ack_of i.dialogue i.number sip i.branch (field (codes "To") m.lines))) output

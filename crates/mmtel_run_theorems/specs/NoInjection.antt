-- What a run sends has no injected header fields (RFC 3261 §7, §25.1): each message that was built, and each text, which is that of a message that was built.
use Rattle.std.specs.Prelude.{◌≡◌, true, ◌⊎◌, ℕ, List, [], ◌∷◌, ◌++◌, Option, Some, None, Ok, codes}
use Rattle.mmtel_compose.specs.Requests.{bare_parts, relayed_parts}
use Rattle.mmtel_compose.specs.ReceivedMessages.{MessageView}
use Rattle.mmtel_b2bua.specs.Operations.{TableOp}
use Rattle.mmtel_b2bua_theorems.specs.Acks.{acked_after}
use Rattle.mmtel_call_theorems.specs.NoInjection.Acks.{ReceivedAck}
use Rattle.mmtel_call_theorems.specs.NoInjection.Messages.{HasNoInjection, HasOwnFields}
use Rattle.mmtel_call_theorems.specs.NoInjection.Emits.{Each}
use Rattle.mmtel_directory.specs.Directory.{directory_of}
use Rattle.mmtel_directory.specs.declared.directories.Directory.{Directory}
use Rattle.mmtel_records_in_force.specs.Texts.{Texts}
use Rattle.mmtel_leg.specs.Requests.{RequestPartsView, ack_of}
use Rattle.mmtel_leg.specs.declared.dialogues.Dialogue.{Dialogue}
use Rattle.mmtel_message.specs.Faults.{is_method}
use Rattle.mmtel_message.specs.Message.{Message}
use Rattle.mmtel_message.specs.Texts.{message_text}
use Rattle.mmtel_message.specs.declared.messages.Start.{Start}
use Rattle.mmtel_environment.specs.declared.events.Offer.{Offer}
use Rattle.mmtel_environment.specs.declared.events.Offer.TheVariants as offer
use Rattle.mmtel_run_definitions.specs.Calls.{call_config}
use Rattle.mmtel_run_definitions.specs.OwnResponses.{completed_reply, plain_response, response_to}
use Rattle.mmtel_run_definitions.specs.Events.{ParsedEvent, EventRecord, Nothing, Refused, Received, WebRequested, parsed_record}
use Rattle.mmtel_run_definitions.specs.Run.{IsEnough, state_after}
use Rattle.mmtel_run_definitions.specs.ShortRuns.{IsShortRun}
use Rattle.mmtel_run_definitions.specs.Transitions.{RunState}
use Rattle.mmtel_trust.specs.Members.{IsIn}
use Rattle.mmtel_trust.specs.HeaderTable.{passed_lines}
use Rattle.mmtel_transaction.specs.Operations.{TransactionOp, DidAck, DidAsk, DidBegin, DidFire, DidHear, DidReply, DidSettle}

-- ---- the messages that are sent by a transaction

-- each that was sent, replied or acknowledged, split at its line ends, is its start line, its header fields, an empty line and its body, and nothing else; and none of these lines
-- has a byte 0, CR or LF
abbrev pub ActionHasOwnFields : TransactionOp → Type 0
ActionHasOwnFields (DidBegin step) = Unit {0}
ActionHasOwnFields (DidHear peer message now taken) = Unit {0}
ActionHasOwnFields (DidAsk peer message now) = HasOwnFields message
ActionHasOwnFields (DidReply key message now) = HasOwnFields message
ActionHasOwnFields (DidAck key message) = HasOwnFields message
ActionHasOwnFields (DidFire key) = Unit {0}
ActionHasOwnFields (DidSettle key own) = Unit {0}

-- a message is the one that was built for this operation
abbrev pub Builds : TransactionOp → Message Start → Type 0
Builds (DidBegin step) built = ⊥
Builds (DidHear peer message now taken) built = ⊥
Builds (DidAsk peer message now) built = built ≡ message
Builds (DidReply key message now) built = built ≡ message
Builds (DidAck key message) built = built ≡ message
Builds (DidFire key) built = ⊥
Builds (DidSettle key own) built = ⊥

-- or for one of these
abbrev pub IsBuiltIn : List TransactionOp → Message Start → Type 0
IsBuiltIn [] built = ⊥
IsBuiltIn (act ∷ older) built = Builds act built ⊎ IsBuiltIn older built

-- the text of one of them: it is sent, or retransmitted
pub record IsSentIn (acts : List TransactionOp) (text : List ℕ) : Type 0 where
  pub message : Message Start
  pub built : IsBuiltIn acts message
  pub is : text ≡ message_text message

-- ---- those that no transaction sends

-- this message was received in an event of the run
pub record IsReceivedIn (directory : Directory) (recorded : List EventRecord) (received : MessageView) : Type 0 where
  pub earlier : List EventRecord
  pub event : EventRecord
  pub later : List EventRecord
  pub in_order : recorded ≡ earlier ++ event ∷ later
  pub is : parsed_record directory event ≡ Received received

-- an ACK was received in a call while both its sides were confirmed, and is relayed in the dialog of the other side: with those of its header fields that the header table copies,
-- and none of any other message; with its body, and one hop less (RFC 3261 §13.2.2.4, §16.6)
pub record IsRelayedInCall (directory : Directory) (recorded : List EventRecord) (ops : List TableOp) (dialogue : Dialogue) (given : RequestPartsView) : Type 0 where
  pub acked : ReceivedAck
  pub in_call : IsIn acked (acked_after (call_config directory) ops)
  pub received : IsReceivedIn directory recorded acked.ack
  pub is_ack : is_method (codes "ACK") acked.ack.parsed.start ≡ true
  pub dialog : dialogue ≡ acked.dialogue
  pub is : given ≡ relayed_parts given.sip given.branch (passed_lines acked.facing acked.to_trusted [] acked.ack.parsed.lines) acked.ack.parsed

-- the ACK of a 2xx (RFC 3261 §13.2.2.4) was made from a dialog and from what was passed for it, and has no injected header fields: the server acknowledges by itself, with nothing
-- passed, or relays an ACK
pub record IsOwnAck (directory : Directory) (recorded : List EventRecord) (ops : List TableOp) (text : List ℕ) : Type 0 where
  pub dialogue : Dialogue
  pub parts : RequestPartsView
  pub passes : (parts ≡ bare_parts parts.sip parts.branch) ⊎ IsRelayedInCall directory recorded ops dialogue parts
  pub lines : HasOwnFields (ack_of dialogue parts)
  pub is : text ≡ message_text (ack_of dialogue parts)

-- the response to an event that no transaction sends, with this tag: to a request beyond the capacity, and to bytes that are refused as they are read
abbrev pub stateless_reply : Directory → (tag : List ℕ) → ParsedEvent → Option (Message Start)
stateless_reply directory tag Nothing = None
stateless_reply directory tag (Refused peer source reply) = Some (completed_reply tag source reply)
stateless_reply directory tag (Received received) = Some (response_to directory.sip tag received (plain_response 503))
stateless_reply directory tag (WebRequested request kept rows) = None

-- this is the text of the response to one of these events, which has no injected header fields
pub record IsOwnReply (directory : Directory) (recorded : List EventRecord) (text : List ℕ) : Type 0 where
  pub earlier : List EventRecord
  pub event : EventRecord
  pub later : List EventRecord
  pub in_order : recorded ≡ earlier ++ event ∷ later
  pub tag : List ℕ
  pub message : Message Start
  pub replies : stateless_reply directory tag (parsed_record directory event) ≡ Some message
  pub lines : HasOwnFields message
  pub is : text ≡ message_text message

-- ---- of a run

-- what is sent to a peer is the text of one of these messages
abbrev pub IsOwnOffer : Directory → List EventRecord → List TransactionOp → List TableOp → Offer → Type 0
IsOwnOffer directory recorded acts ops (offer.To peer at text) = IsSentIn acts text ⊎ (IsOwnAck directory recorded ops text ⊎ IsOwnReply directory recorded text)
IsOwnOffer directory recorded acts ops (offer.Web at text) = Unit {0}

-- so each message that was built has no injected header fields, and nothing is sent to a peer but the texts of messages that were built
pub record RunHasNoInjection (directory : Directory) (recorded : List EventRecord) (state : RunState) : Type 0 where
  pub built : Each ActionHasOwnFields state.actions
  pub offered : Each (IsOwnOffer directory recorded state.actions state.call_ops) state.offers

abbrev pub SendsNoInjection : Directory → (token : List ℕ) → (loaded : Texts) → List EventRecord → Type 0
SendsNoInjection directory token loaded recorded =
    (fuel : ℕ) → IsEnough directory token loaded fuel recorded → RunHasNoInjection directory recorded (state_after directory token loaded fuel recorded)

-- of every run within the range of the counters, under a home domain and a token that are of one line each, whatever was received, loaded and uploaded
abbrev pub RunsSendNoInjection : Type 0
RunsSendNoInjection = (directory : Directory) (token : List ℕ) (loaded : Texts) (recorded : List EventRecord) → HasNoInjection directory.home → HasNoInjection token →
    IsShortRun directory token loaded recorded → SendsNoInjection directory token loaded recorded

-- each home domain that was read of a configuration is one line
abbrev pub HomesHaveNoInjection : Type 0
HomesHaveNoInjection = (text : List ℕ) (directory : Directory) → directory_of text ≡ Ok directory → HasNoInjection directory.home

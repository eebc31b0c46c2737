-- The ACKs of a 2xx that a call relays: which ACK was received, the dialog of the other side then, and the content of the ACK that is sent (RFC 3261 §13.2.2.4, §16.6).
use Rattle.std.specs.Prelude.{◌≡◌, ◌⊎◌, Bool, List, [], ◌∷◌, ◌++◌}
use Rattle.mmtel_compose.specs.Requests.{bare_parts, relayed_parts}
use Rattle.mmtel_compose.specs.ReceivedMessages.{MessageView}
use Rattle.mmtel_call.specs.Answered.{leg_of}
use Rattle.mmtel_call.specs.declared.calls.Call.{Call}
use Rattle.mmtel_call.specs.declared.calls.EstablishedLegs.{EstablishedLegs}
use Rattle.mmtel_call.specs.declared.calls.Phase.{Phase}
use Rattle.mmtel_call.specs.declared.calls.Phase.TheVariants.{Detached, Established, Offered, Over}
use Rattle.mmtel_call.specs.declared.signals.Signal.{Signal}
use Rattle.mmtel_call.specs.declared.signals.Signal.TheVariants as signal
use Rattle.mmtel_call_services.specs.CopiedHeaders.{facing_at}
use Rattle.mmtel_call_services.specs.CallConfig.{CallConfigView, trusts}
use Rattle.mmtel_call_theorems.specs.CallTrace.{TraceStart, TraceStep, call_after}
use Rattle.mmtel_history.specs.declared.entries.Entry.{Entry}
use Rattle.mmtel_leg.specs.Requests.{RequestPartsView}
use Rattle.mmtel_leg.specs.declared.dialogues.Dialogue.{Dialogue}
use Rattle.mmtel_trust.specs.Members.{IsIn}
use Rattle.mmtel_trust.specs.HeaderTable.{shown_lines}
use Rattle.mmtel_trust.specs.declared.header_table.Facing.{Facing}
use Rattle.mmtel_types.specs.Sides.{other_side}
use Rattle.mmtel_types.specs.declared.sides.Side.{Side}

-- ---- ACKs that were received

-- an ACK that a side sent, the dialog of the other side as it was then, and what that side may see of the ACK
pub record ReceivedAck : Type 0 where
  pub ack : MessageView
  pub dialogue : Dialogue
  pub facing : Facing
  pub to_trusted : Bool

abbrev pub received_ack_across : CallConfigView → Call → EstablishedLegs → Side → MessageView → ReceivedAck
received_ack_across config c x side ack = record {
  ack = ack;
  dialogue = (leg_of (other_side side) x).dialogue;
  facing = facing_at config c.opening x.service side ack;
  to_trusted = trusts config (leg_of (other_side side) x).dialogue.peer;
}

-- while both sides are confirmed
abbrev pub received_acks_in : CallConfigView → Phase → Call → Side → MessageView → List ReceivedAck
received_acks_in config (Offered x) c side ack = []
received_acks_in config (Established x stage) c side ack = received_ack_across config c x side ack ∷ []
received_acks_in config (Detached detached) c side ack = []
received_acks_in config (Over cause) c side ack = []

abbrev pub received_acks_by : CallConfigView → Signal → Call → List ReceivedAck
received_acks_by config (signal.Request side key request) c = []
received_acks_by config (signal.Ack side ack) c = received_acks_in config c.phase c side ack
received_acks_by config (signal.Cancel key cancel invite) c = []
received_acks_by config (signal.Answer key response) c = []
received_acks_by config (signal.Silent branch method) c = []
received_acks_by config (signal.Due what) c = []
received_acks_by config (signal.Ended key) c = []

-- those of a trace
abbrev pub received_acks_after : TraceStart → List TraceStep → List ReceivedAck
received_acks_after s [] = []
received_acks_after s (x ∷ earlier) = received_acks_by s.config x.signal (call_after s earlier) ++ received_acks_after s earlier

-- ---- the content of an ACK of a 2xx

-- one of these ACKs is relayed in its dialog: those of its header fields that the header table copies, with entries of History-Info if such a message has them, its body, and
-- Max-Forwards reduced by one
pub record IsRelayedAck (acks : List ReceivedAck) (dialogue : Dialogue) (given : RequestPartsView) : Type 0 where
  pub received : ReceivedAck
  pub among : IsIn received acks
  pub dialog : dialogue ≡ received.dialogue
  pub history : List Entry
  pub is : given ≡ relayed_parts given.sip given.branch
      (shown_lines received.facing received.to_trusted history received.ack.parsed.start received.ack.parsed.lines) received.ack.parsed

-- or the server acknowledges by itself, without such content
abbrev pub IsPassedTo : (acks : List ReceivedAck) → Dialogue → RequestPartsView → Type 0
IsPassedTo acks dialogue given = (given ≡ bare_parts given.sip given.branch) ⊎ IsRelayedAck acks dialogue given

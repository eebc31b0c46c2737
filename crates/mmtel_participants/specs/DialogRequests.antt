-- A request of a participant in its dialog: whether it is accepted (RFC 3261 §12.2.2, §14.2), and what is recorded of it.
use Rattle.std.specs.Prelude.{ℕ, Bool, true, false, Option, Some, None, codes, Result}
pub use Rattle.mmtel_compose.specs.ReceivedMessages.{number_of}
use Rattle.mmtel_compose.specs.ReceivedMessages.{MessageView}
use Rattle.mmtel_leg.specs.Dialogues.{last_after, unless_busy, unless_old}
use Rattle.mmtel_leg.specs.Legs.{Leg, with_dialogue}
use Rattle.mmtel_leg.specs.declared.dialogues.DialogueFault.{DialogueFault}
use Rattle.mmtel_leg.specs.declared.dialogues.InFlight.{InFlight}
use Rattle.mmtel_leg.specs.declared.dialogues.InFlight.TheVariants as in_flight
use Rattle.mmtel_message.specs.Faults.{is_method}
use Rattle.mmtel_participants.specs.Invites.{is_invite_outstanding}
use Rattle.mmtel_participants.specs.Participants.{leg_of, with_leg}
use Rattle.mmtel_participants.specs.declared.participants.PendingAck.{PendingAck}
use Rattle.mmtel_participants.specs.declared.participants.ParticipantState.{ParticipantState}

-- an INVITE of the server's own without a final response, or a 2xx without its ACK
abbrev pub invite_in_flight_by : Option PendingAck → (waiting : Bool) → InFlight
invite_in_flight_by None false = in_flight.None
invite_in_flight_by None true = in_flight.Own
invite_in_flight_by (Some awaited) waiting = in_flight.Own

abbrev pub invite_in_flight : ParticipantState → InFlight
invite_in_flight seat = invite_in_flight_by seat.pending_ack (is_invite_outstanding seat.invite)

abbrev pub request_check : Leg → MessageView → InFlight → Result (Unit {0}) DialogueFault
request_check leg m busy = unless_old (number_of m) leg.dialogue.remote_cseq (unless_busy (is_method (codes "INVITE") m.parsed.start) busy)

abbrev pub leg_after_request : MessageView → Leg → Leg
leg_after_request m leg = with_dialogue leg (record leg.dialogue { remote_cseq = last_after (number_of m) leg.dialogue.remote_cseq })

abbrev pub participant_after_request : MessageView → ParticipantState → ParticipantState
participant_after_request m seat = record seat { party = with_leg (leg_after_request m (leg_of seat.party)) seat.party }

-- the ACK is due of the 2xx that answers the request which was received last
abbrev pub with_pending_ack : (number : ℕ) → ParticipantState → ParticipantState
with_pending_ack number seat = record seat { pending_ack = Some (record { number = number; cseq = (leg_of seat.party).dialogue.remote_cseq }) }

-- The server's INVITE to a participant: what is recorded of it and how its responses are acknowledged (RFC 3261 §9.1, §13.2.2, §17.1.1.3), and which of its timers is pending.
use Rattle.std.specs.Prelude.{ℕ, ◌==◌, Bool, true, false, Option, Some, None, List}
use Rattle.std.specs.Str.{bytes_eq}
use Rattle.mmtel_compose.specs.ReceivedMessages.{MessageView}
use Rattle.mmtel_output.specs.SentInvites.{invite_after_cancel, with_provisional}
use Rattle.mmtel_output.specs.Sending.{with_due_cancel, with_final_ack}
use Rattle.mmtel_output.specs.declared.outputs.StepOutput.{StepOutput}
use Rattle.mmtel_leg.specs.Dialogues.{with_remote}
use Rattle.mmtel_leg.specs.Legs.{with_dialogue}
use Rattle.mmtel_leg.specs.declared.remotes.Remote.{Remote}
use Rattle.mmtel_transaction.specs.declared.words.TKey.{TKey}
use Rattle.mmtel_types.specs.declared.addrs.Addr.{Addr}
use Rattle.mmtel_types.specs.declared.numbers.Account.{Account}
use Rattle.mmtel_types.specs.declared.numbers.RoomNo.{RoomNo}
use Rattle.mmtel_participants.specs.Participants.{leg_with_meter, meter_of}
use Rattle.mmtel_participants.specs.declared.participants.PendingAck.{PendingAck}
use Rattle.mmtel_participants.specs.declared.participants.Invite.{Invite}
use Rattle.mmtel_participants.specs.declared.participants.Invite.TheVariants.{Accepted, Outstanding}
use Rattle.mmtel_participants.specs.declared.participants.Party.{Party}
use Rattle.mmtel_participants.specs.declared.participants.Party.TheVariants.{DialedIn, DialedOut, Invited}
use Rattle.mmtel_participants.specs.declared.participants.ParticipantState.{ParticipantState}

-- it has no final response
abbrev pub is_invite_outstanding : Option Invite → Bool
is_invite_outstanding None = false
is_invite_outstanding (Some (Outstanding number i)) = true
is_invite_outstanding (Some (Accepted branch tag ack)) = false

-- it has this branch
abbrev pub invite_has_branch : (branch : List ℕ) → Option Invite → Bool
invite_has_branch branch None = false
invite_has_branch branch (Some (Outstanding number i)) = bytes_eq i.branch branch
invite_has_branch branch (Some (Accepted other tag ack)) = bytes_eq other branch

-- the server's INVITE to the participant has this branch
abbrev pub participant_has_branch : (branch : List ℕ) → ParticipantState → Bool
participant_has_branch branch seat = invite_has_branch branch seat.invite

-- ---- a provisional response

abbrev pub invite_with_provisional : TKey → Option Invite → Option Invite
invite_with_provisional key None = None
invite_with_provisional key (Some (Outstanding number i)) = Some (Outstanding number (with_provisional key i))
invite_with_provisional key (Some (Accepted branch tag ack)) = Some (Accepted branch tag ack)

-- ---- a 2xx

-- an invited party is connected, and has a meter from now on
abbrev pub connected_party : RoomNo → (now : ℕ) → Option Account → Remote → Party → Party
connected_party room now account remote (Invited leg) = DialedOut (leg_with_meter (meter_of room now account) (with_dialogue leg (with_remote leg.dialogue remote)))
connected_party room now account remote (DialedIn leg) = DialedIn leg
connected_party room now account remote (DialedOut leg) = DialedOut leg

abbrev pub connected_participant : RoomNo → (now : ℕ) → Remote → ParticipantState → ParticipantState
connected_participant room now remote seat = record seat { party = connected_party room now seat.account remote seat.party }

-- the ACK is kept, since it is sent again for each retransmission of the 2xx
abbrev pub accepted_invite : (tag ack : List ℕ) → Option Invite → Option Invite
accepted_invite tag ack None = None
accepted_invite tag ack (Some (Outstanding number i)) = Some (Accepted i.branch tag ack)
accepted_invite tag ack (Some (Accepted branch before sent)) = Some (Accepted branch before sent)

-- ---- it ends without a 2xx

-- a final response from 300 has its ACK (RFC 3261 §17.1.1.3)
abbrev pub with_failure_ack : Addr → TKey → MessageView → Option Invite → StepOutput → StepOutput
with_failure_ack sip key m None output = output
with_failure_ack sip key m (Some (Outstanding number i)) output = with_final_ack sip key i m.parsed output
with_failure_ack sip key m (Some (Accepted branch tag ack)) output = output

-- CANCEL, where a provisional response was received (RFC 3261 §9.1)
abbrev pub with_invite_cancel : Addr → Option Invite → StepOutput → StepOutput
with_invite_cancel sip None output = output
with_invite_cancel sip (Some (Outstanding number i)) output = with_due_cancel sip i output
with_invite_cancel sip (Some (Accepted branch tag ack)) output = output

abbrev pub invite_after_due_cancel : Option Invite → Option Invite
invite_after_due_cancel None = None
invite_after_due_cancel (Some (Outstanding number i)) = Some (Outstanding number (invite_after_cancel i))
invite_after_due_cancel (Some (Accepted branch tag ack)) = Some (Accepted branch tag ack)

-- ---- timers

-- the invitation of this number has no final response
abbrev pub has_outstanding_number : (due : ℕ) → Option Invite → Bool
has_outstanding_number due None = false
has_outstanding_number due (Some (Outstanding number i)) = number == due
has_outstanding_number due (Some (Accepted branch tag ack)) = false

-- the ACK of the 2xx of this number is due
abbrev pub is_ack_pending : (due : ℕ) → Option PendingAck → Bool
is_ack_pending due None = false
is_ack_pending due (Some awaited) = awaited.number == due

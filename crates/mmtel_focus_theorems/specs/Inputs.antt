-- What two tables of conferences receive, side by side: the same but for private places.
use Rattle.std.specs.Prelude.{ℕ, ◌≡◌, Option, Some, None, List, position, slice_get}
use Rattle.mmtel_compose.specs.ReceivedMessages.{MessageView}
use Rattle.mmtel_call_theorems.specs.Noninterference.PublicCall.{public_released}
use Rattle.mmtel_call_theorems.specs.Noninterference.Premises.{IsFromOwnPeer, IsResponseOf}
use Rattle.mmtel_call_theorems.specs.Noninterference.Roles.{Role, without_private}
use Rattle.mmtel_call_theorems.specs.Noninterference.Observations.{Trust}
use Rattle.mmtel_output.specs.AbandonedInvites.{is_of_branch}
use Rattle.mmtel_output.specs.declared.sent_invites.AbandonedInvite.{AbandonedInvite}
use Rattle.mmtel_leg.specs.declared.legs.Released.{Released}
use Rattle.mmtel_transaction.specs.Tokens.{TokensView}
use Rattle.mmtel_transaction.specs.declared.words.RoomWord.{RoomWord}
use Rattle.mmtel_transaction.specs.declared.words.TKey.{TKey}
use Rattle.mmtel_types.specs.declared.numbers.Account.{Account}
use Rattle.mmtel_types.specs.declared.numbers.RoomNo.{RoomNo}
use Rattle.mmtel_focus.specs.Operations as histories
use Rattle.mmtel_focus.specs.Operations.{Adoption, JoinRequest, ReceivedSignal, TableOp}
use Rattle.mmtel_focus.specs.Conferences.{Conference}
use Rattle.mmtel_participants.specs.declared.participants.Invite.{Invite}
use Rattle.mmtel_participants.specs.declared.participants.Invite.TheVariants.{Accepted, Outstanding}
use Rattle.mmtel_participants.specs.declared.participants.ParticipantState.{ParticipantState}
use Rattle.mmtel_focus.specs.Participants.{dialogue_of}
use Rattle.mmtel_focus.specs.Table.{Table, conference_has_branch, participant_has_branch}
use Rattle.mmtel_output.specs.ResponseMatching.{awaited_request_branch}
use Rattle.mmtel_focus.specs.declared.signals.RoomSignal.{RoomSignal}
use Rattle.mmtel_focus.specs.declared.signals.RoomSignal.TheVariants as signal

-- ---- messages

-- a message, and the part that it has in its call
pub record RoleMessage : Type 0 where
  pub message : MessageView
  pub role : Role

abbrev pub public_message : RoleMessage → MessageView
public_message m = without_private m.role m.message

-- what the one receives, and the other
pub record MessagePair : Type 0 where
  pub one : RoleMessage
  pub other : RoleMessage

abbrev pub AreEquivalent : MessagePair → Type 0
AreEquivalent p = public_message p.one ≡ public_message p.other

-- requests, each from the peer of its transaction
pub record AreRequests (t : Trust) (key : TKey) (p : MessagePair) : Type 0 where
  pub equivalent : AreEquivalent p
  pub one : IsFromOwnPeer t key p.one.message
  pub other : IsFromOwnPeer t key p.other.message

-- ---- responses

-- to an INVITE to a participant: from the peer of its dialog, to which it was sent
abbrev pub IsOfInvite : Trust → TKey → RoleMessage → Option Invite → Type 0
IsOfInvite t key m None = Unit {0}
IsOfInvite t key m (Some (Outstanding number i)) = IsResponseOf t key i.dialogue.peer m.role m.message
IsOfInvite t key m (Some (Accepted branch tag ack)) = Unit {0}

pub record IsOfParticipant (t : Trust) (key : TKey) (m : RoleMessage) (seat : ParticipantState) : Type 0 where
  pub invite : IsOfInvite t key m seat.invite
  pub leg : IsResponseOf t key (dialogue_of seat).peer m.role m.message

-- by the branch, to an abandoned INVITE, or to that of a participant
pub record IsResponseIn (t : Trust) (key : TKey) (m : RoleMessage) (branch : List ℕ) (table : Table) : Type 0 where
  pub abandoned : (at : ℕ) (l : AbandonedInvite) → position (is_of_branch branch) table.abandoned ≡ Some at →
      slice_get table.abandoned at ≡ Some l → IsResponseOf t key l.invite.dialogue.peer m.role m.message
  pub seat : (at place : ℕ) (room : Conference) (seat : ParticipantState) → position (conference_has_branch branch) table.live ≡ Some at → slice_get table.live at ≡ Some room →
      position (participant_has_branch branch) room.participants ≡ Some place → slice_get room.participants place ≡ Some seat → IsOfParticipant t key m seat

abbrev pub IsResponseBy : Trust → TKey → RoleMessage → (branch : Option (List ℕ)) → Table → Type 0
IsResponseBy t key m None table = Unit {0}
IsResponseBy t key m (Some branch) table = IsResponseIn t key m branch table

abbrev pub IsResponseTo : Trust → TKey → RoleMessage → Table → Type 0
IsResponseTo t key m table = IsResponseBy t key m (awaited_request_branch m.message) table

-- ---- signals

pub data SignalPair : Type 0 where
  Request : (room : RoomNo) (seat : ℕ) (key : TKey) (said : MessagePair) → SignalPair
  Ack : (room : RoomNo) (seat : ℕ) (said : MessagePair) → SignalPair
  Answer : (key : TKey) (said : MessagePair) → SignalPair
  Silent : (branch method : List ℕ) → SignalPair
  Due : (room : RoomNo) (seat : ℕ) (what : RoomWord) → SignalPair
  Over : (key : TKey) → SignalPair

abbrev pub one_signal : SignalPair → RoomSignal
one_signal (Request room seat key said) = signal.Request room seat key said.one.message
one_signal (Ack room seat said) = signal.Ack room seat said.one.message
one_signal (Answer key said) = signal.Answer key said.one.message
one_signal (Silent branch method) = signal.Silent branch method
one_signal (Due room seat what) = signal.Due room seat what
one_signal (Over key) = signal.Over key

abbrev pub other_signal : SignalPair → RoomSignal
other_signal (Request room seat key said) = signal.Request room seat key said.other.message
other_signal (Ack room seat said) = signal.Ack room seat said.other.message
other_signal (Answer key said) = signal.Answer key said.other.message
other_signal (Silent branch method) = signal.Silent branch method
other_signal (Due room seat what) = signal.Due room seat what
other_signal (Over key) = signal.Over key

-- they are equal but for private places, on these tables
abbrev pub AreReceived : Trust → SignalPair → (one other : Table) → Type 0
AreReceived t (Request room seat key said) one other = AreRequests t key said
AreReceived t (Ack room seat said) one other = AreEquivalent said
AreReceived t (Answer key said) one other = AreEquivalent said × IsResponseTo t key said.one one × IsResponseTo t key said.other other
AreReceived t (Silent branch method) one other = Unit {0}
AreReceived t (Due room seat what) one other = Unit {0}
AreReceived t (Over key) one other = Unit {0}

-- ---- legs

pub record LegPair : Type 0 where
  pub one : Released
  pub other : Released

abbrev pub AreEquivalentLegs : Trust → LegPair → Type 0
AreEquivalentLegs t legs = public_released t.peer legs.one ≡ public_released t.peer legs.other

-- ---- what is done on both

pub record JoinRequestPair : Type 0 where
  pub at : ℕ
  pub tokens : TokensView
  pub legs : LegPair
  pub account : Option Account
  pub key : TKey
  pub invites : MessagePair

pub record AdoptionPair : Type 0 where
  pub at : ℕ
  pub tokens : TokensView
  pub legs : LegPair
  pub account : Option Account
  pub by : ℕ

pub data OpPair : Type 0 where
  Opens : (comings : JoinRequestPair) → OpPair
  Joins : (room : ℕ) (comings : JoinRequestPair) → OpPair
  Adopts : (room : ℕ) (adoptions : AdoptionPair) → OpPair
  Notifies : (room seat code : ℕ) (tokens : TokensView) → OpPair
  Receives : (at : ℕ) (tokens : TokensView) (signals : SignalPair) → OpPair
  Leaves : (room seat : ℕ) → OpPair
  Closes : (room : ℕ) → OpPair
  Drops : (count : ℕ) → OpPair

abbrev pub join_request_of : JoinRequestPair → Released → RoleMessage → JoinRequest
join_request_of c leg m = record { at = c.at; tokens = c.tokens; leg = leg; account = c.account; key = c.key; invite = m.message }

abbrev pub adoption_of : AdoptionPair → Released → Adoption
adoption_of a leg = record { at = a.at; tokens = a.tokens; leg = leg; account = a.account; by = a.by }

abbrev pub received_at : (at : ℕ) → TokensView → RoomSignal → ReceivedSignal
received_at at tokens signal = record { at = at; tokens = tokens; signal = signal }

-- on the one table, and on the other
abbrev pub one_op : OpPair → TableOp
one_op (Opens c) = histories.Opens (join_request_of c c.legs.one c.invites.one)
one_op (Joins room c) = histories.Joins room (join_request_of c c.legs.one c.invites.one)
one_op (Adopts room a) = histories.Adopts room (adoption_of a a.legs.one)
one_op (Notifies room seat code tokens) = histories.Notifies room seat code tokens
one_op (Receives at tokens signals) = histories.Receives (received_at at tokens (one_signal signals))
one_op (Leaves room seat) = histories.Leaves room seat
one_op (Closes room) = histories.Closes room
one_op (Drops count) = histories.Drops count

abbrev pub other_op : OpPair → TableOp
other_op (Opens c) = histories.Opens (join_request_of c c.legs.other c.invites.other)
other_op (Joins room c) = histories.Joins room (join_request_of c c.legs.other c.invites.other)
other_op (Adopts room a) = histories.Adopts room (adoption_of a a.legs.other)
other_op (Notifies room seat code tokens) = histories.Notifies room seat code tokens
other_op (Receives at tokens signals) = histories.Receives (received_at at tokens (other_signal signals))
other_op (Leaves room seat) = histories.Leaves room seat
other_op (Closes room) = histories.Closes room
other_op (Drops count) = histories.Drops count

-- the legs that join are equal but for private places, and so are the INVITEs
pub record AreEquivalentJoins (t : Trust) (c : JoinRequestPair) : Type 0 where
  pub legs : AreEquivalentLegs t c.legs
  pub invites : AreRequests t c.key c.invites

-- they are equal but for private places, on these tables
abbrev pub AreEquivalentOps : Trust → OpPair → (one other : Table) → Type 0
AreEquivalentOps t (Opens c) one other = AreEquivalentJoins t c
AreEquivalentOps t (Joins room c) one other = AreEquivalentJoins t c
AreEquivalentOps t (Adopts room a) one other = AreEquivalentLegs t a.legs
AreEquivalentOps t (Notifies room seat code tokens) one other = Unit {0}
AreEquivalentOps t (Receives at tokens signals) one other = AreReceived t signals one other
AreEquivalentOps t (Leaves room seat) one other = Unit {0}
AreEquivalentOps t (Closes room) one other = Unit {0}
AreEquivalentOps t (Drops count) one other = Unit {0}

-- The account to which each participant of a conference is charged (TS 32.260 §5): that of the party that joined, was adopted or was invited, which the operation names that made
-- it a participant; and since when: since the operation by which it was connected.
use Rattle.std.specs.Prelude.{◌≡◌, ◌⊎◌, ℕ, Bool, true, false, List, [], ◌∷◌, map, Option, Some, None, codes}
use Rattle.std.specs.List.{flat_map}
use Rattle.mmtel_compose.specs.ReceivedMessages.{status_of}
use Rattle.mmtel_call_theorems.specs.NoInjection.Emits.{Each}
use Rattle.mmtel_charging.specs.Meters.{MeterView}
use Rattle.mmtel_charging.specs.declared.rows.Row.{Row}
use Rattle.mmtel_focus.specs.Operations.{TableOp, Opens, Joins, Adopts, Notifies, Receives, Leaves, Closes, Drops, effects_after, table_after}
use Rattle.mmtel_focus.specs.Referrals.{referral_in}
use Rattle.mmtel_focus.specs.Conferences.{Conference}
use Rattle.mmtel_focus.specs.Participants.{is_connected, leg_of}
use Rattle.mmtel_focus.specs.ConferenceConfig.{ConferenceConfigView}
use Rattle.mmtel_focus.specs.Table.{Table, conference_of, next_room_number}
use Rattle.mmtel_focus.specs.declared.referrals.Referral.TheVariants as referral
use Rattle.mmtel_focus.specs.declared.signals.RoomSignal.{RoomSignal}
use Rattle.mmtel_focus.specs.declared.signals.RoomSignal.TheVariants as signal
use Rattle.mmtel_lex.specs.declared.values.Uri.{Uri}
use Rattle.mmtel_message.specs.Faults.{is_method}
use Rattle.mmtel_base.specs.Numbers.{next_number}
use Rattle.mmtel_participants.specs.declared.participants.ParticipantState.{ParticipantState}
use Rattle.mmtel_sip_rules.specs.Statuses.{is_success}
use Rattle.mmtel_trust.specs.Accounts.{account_of}
use Rattle.mmtel_types.specs.declared.numbers.Account.{Account}
use Rattle.mmtel_types.specs.declared.numbers.RoomNo.{RoomNo}
use Rattle.mmtel_focus_theorems.specs.Charging.{IsStarted, row_of_closed}

-- ---- a participant, as charging sees it

-- its number and its conference, its account, whether it is connected, and the meter that runs for it; a party that is invited and has not answered is not connected
pub record ChargedParticipant : Type 0 where
  pub room : RoomNo
  pub seat : ℕ
  pub account : Option Account
  pub is_connected : Bool
  pub meter : Option MeterView

abbrev pub charged_participant_of : RoomNo → ParticipantState → ChargedParticipant
charged_participant_of room seat = record { room = room; seat = seat.number; account = seat.account; is_connected = is_connected seat; meter = (leg_of seat.party).meter }

abbrev pub charged_participants_in : Conference → List ChargedParticipant
charged_participants_in room = map (charged_participant_of room.number) room.participants

-- those of all live conferences, in their order
abbrev pub charged_participants : List Conference → List ChargedParticipant
charged_participants live = flat_map charged_participants_in live

-- ---- the meter of an account

-- it is a participant's meter of this conference, on this account; it began at this moment, and was answered then
pub record IsMeterOf (room : RoomNo) (account : Account) (at : ℕ) (meter : MeterView) : Type 0 where
  pub started : IsStarted at meter
  pub on : meter.account ≡ account
  pub of_room : meter.call.0 ≡ room.0

-- whoever has an account has a meter, and nobody else has one
abbrev pub HasMeterOf : RoomNo → Option Account → (at : ℕ) → Option MeterView → Type 0
HasMeterOf room None at meter = meter ≡ None
HasMeterOf room (Some account) at None = ⊥
HasMeterOf room (Some account) at (Some meter) = IsMeterOf room account at meter

-- the participant is connected since this moment
pub record IsConnectedSince (at : ℕ) (place : ChargedParticipant) : Type 0 where
  pub connected : place.is_connected ≡ true
  pub meter : HasMeterOf place.room place.account at place.meter

-- the party is invited, and has no meter yet
pub record IsInvited (place : ChargedParticipant) : Type 0 where
  pub waits : place.is_connected ≡ false
  pub unmetered : place.meter ≡ None

-- ---- the operation that makes a participant

-- the number of the next participant of a conference: participants are numbered in the order in which they come
abbrev pub last_seat_of : Option Conference → ℕ
last_seat_of None = 0
last_seat_of (Some room) = room.last_seat

abbrev pub next_seat_of : (room : ℕ) → List Conference → ℕ
next_seat_of room live = next_number (last_seat_of (conference_of room live))

-- a participant of this conference, of this number, with this account
pub record IsParticipantOf (room number : ℕ) (owner : Option Account) (place : ChargedParticipant) : Type 0 where
  pub of_room : place.room.0 ≡ room
  pub numbered : place.seat ≡ number
  pub account : place.account ≡ owner

-- a REFER invites a party, whose account is that of the URI of its Refer-To (RFC 3515 §2.1)
abbrev pub Invites : ConferenceConfigView → RoomSignal → (before : Table) → ChargedParticipant → Type 0
Invites config (signal.Request room seat key request) before place =
    (uri : Uri) × (is_method (codes "REFER") request.parsed.start ≡ true) × (referral_in request.parsed.refer_to ≡ referral.Invite (Some uri))
    × IsParticipantOf room.0 (next_seat_of room.0 before.live) (account_of config.accounts uri) place × IsInvited place
Invites config (signal.Ack room seat ack) before place = ⊥
Invites config (signal.Answer key response) before place = ⊥
Invites config (signal.Silent branch method) before place = ⊥
Invites config (signal.Due room seat what) before place = ⊥
Invites config (signal.Over key) before place = ⊥

-- the party that opens a conference is its first participant; one that joins, is adopted or is invited is the next one
abbrev pub Admits : ConferenceConfigView → TableOp → (before : Table) → ChargedParticipant → Type 0
Admits config (Opens coming) before place = IsParticipantOf (next_room_number before).0 1 coming.account place × IsConnectedSince coming.at place
Admits config (Joins room coming) before place = IsParticipantOf room (next_seat_of room before.live) coming.account place × IsConnectedSince coming.at place
Admits config (Adopts room adoption) before place = IsParticipantOf room (next_seat_of room before.live) adoption.account place × IsConnectedSince adoption.at place
Admits config (Notifies room seat code tokens) before place = ⊥
Admits config (Receives received) before place = Invites config received.signal before place
Admits config (Leaves room seat) before place = ⊥
Admits config (Closes room) before place = ⊥
Admits config (Drops count) before place = ⊥

-- ---- an invited party answers

-- a 2xx
abbrev pub is_success_signal : RoomSignal → Bool
is_success_signal (signal.Request room seat key request) = false
is_success_signal (signal.Ack room seat ack) = false
is_success_signal (signal.Answer key response) = is_success (status_of response.parsed.start)
is_success_signal (signal.Silent branch method) = false
is_success_signal (signal.Due room seat what) = false
is_success_signal (signal.Over key) = false

-- the participant is as before, except that it is connected since this moment
pub record IsConnectedNow (at : ℕ) (before after : ChargedParticipant) : Type 0 where
  pub room : after.room ≡ before.room
  pub seat : after.seat ≡ before.seat
  pub account : after.account ≡ before.account
  pub was : IsInvited before
  pub is : IsConnectedSince at after

-- ---- how the state of a participant follows

-- by a 2xx, of a participant that was invited before
abbrev pub ConnectsInvited : (earlier : ChargedParticipant → Type 0) → TableOp → ChargedParticipant → Type 0
ConnectsInvited earlier (Opens coming) place = ⊥
ConnectsInvited earlier (Joins room coming) place = ⊥
ConnectsInvited earlier (Adopts room adoption) place = ⊥
ConnectsInvited earlier (Notifies room seat code tokens) place = ⊥
ConnectsInvited earlier (Receives received) place =
    (is_success_signal received.signal ≡ true) × ((before : ChargedParticipant) × earlier before × IsConnectedNow received.at before place)
ConnectsInvited earlier (Leaves room seat) place = ⊥
ConnectsInvited earlier (Closes room) place = ⊥
ConnectsInvited earlier (Drops count) place = ⊥

-- from the operations, the newest first: it was so before the last one, or that one made it a participant, or the invited party answered
abbrev pub IsAccountedFor : ConferenceConfigView → List TableOp → ChargedParticipant → Type 0
IsAccountedFor config [] place = ⊥
IsAccountedFor config (op ∷ older) place = IsAccountedFor config older place
    ⊎ (Admits config op (table_after config older) place ⊎ ConnectsInvited (IsAccountedFor config older) op place)

-- ---- the CDR of a participant that leaves

-- the meter of such a participant is closed at this moment
pub record IsRowOf (IsSuch : ChargedParticipant → Type 0) (at : ℕ) (row : Row) : Type 0 where
  pub place : ChargedParticipant
  pub such : IsSuch place
  pub meter : MeterView
  pub runs : place.meter ≡ Some meter
  pub is : row ≡ row_of_closed at meter

-- the moment of an operation in which participants may leave and CDRs be filed
abbrev pub moment_of : TableOp → Option ℕ
moment_of (Opens coming) = Some coming.at
moment_of (Joins room coming) = Some coming.at
moment_of (Adopts room adoption) = Some adoption.at
moment_of (Notifies room seat code tokens) = None
moment_of (Receives received) = Some received.at
moment_of (Leaves room seat) = None
moment_of (Closes room) = None
moment_of (Drops count) = None

abbrev pub AreRowsAccountedFor : ConferenceConfigView → List TableOp → Option ℕ → List Row → Type 0
AreRowsAccountedFor config ops None rows = rows ≡ []
AreRowsAccountedFor config ops (Some at) rows = Each (IsRowOf (IsAccountedFor config ops) at) rows

-- ---- theorems

-- whatever was done, the state of each participant of a live conference follows from these operations
abbrev pub ParticipantsAreAccountedFor : Type 0
ParticipantsAreAccountedFor = (config : ConferenceConfigView) (ops : List TableOp) → Each (IsAccountedFor config ops) (charged_participants (table_after config ops).live)

-- so a connected participant has the meter of its account since a moment, none exactly where it has no account, and one that is invited has none
abbrev pub IsMetered : ChargedParticipant → Type 0
IsMetered place = IsInvited place ⊎ ((at : ℕ) × IsConnectedSince at place)

abbrev pub ParticipantsAreMetered : Type 0
ParticipantsAreMetered = (config : ConferenceConfigView) (ops : List TableOp) → Each IsMetered (charged_participants (table_after config ops).live)

-- each CDR that an operation files is that of such a participant
abbrev pub RowsAreAccountedFor : Type 0
RowsAreAccountedFor = (config : ConferenceConfigView) (ops : List TableOp) (op : TableOp) →
    AreRowsAccountedFor config (op ∷ ops) (moment_of op) (effects_after config ops op).output.rows

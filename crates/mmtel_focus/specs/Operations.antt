-- A table of conferences and all operations on it. The table after operations is a function of their list alone.
use Rattle.std.specs.Prelude.{ℕ, ◌≡◌, Bool, true, false, Option, List, [], ◌∷◌, ◌++◌, drop}
use Rattle.mmtel_compose.specs.ReceivedMessages.{MessageView}
use Rattle.mmtel_compose.specs.declared.responses.FurtherMethods.{FurtherMethods}
use Rattle.mmtel_leg.specs.Legs.{Leg}
use Rattle.mmtel_leg.specs.declared.legs.Released.{Released}
use Rattle.mmtel_leg.specs.declared.legs.Released.TheVariants as released
use Rattle.mmtel_base.specs.Numbers.{next_number}
use Rattle.mmtel_sdp.specs.Offers.{offers_audio}
use Rattle.mmtel_sdp.specs.declared.values.Mixer.{Mixer}
use Rattle.mmtel_transaction.specs.Tokens.{TokensView}
use Rattle.mmtel_transaction.specs.declared.words.TKey.{TKey}
use Rattle.mmtel_trust.specs.Peers.{Peers}
use Rattle.mmtel_trust.specs.declared.accounts.AccountIdentity.{AccountIdentity}
use Rattle.mmtel_types.specs.declared.addrs.Addr.{Addr}
use Rattle.mmtel_types.specs.declared.numbers.Account.{Account}
use Rattle.mmtel_focus.specs.Conferences.{Effects, StepResult, no_effects}
use Rattle.mmtel_focus.specs.ConferenceConfig.{ConferenceConfigView}
use Rattle.mmtel_focus.specs.Table.{ConferenceStep, Table, TableStep, conferences_after_close, conferences_after_leave, empty_table, next_room_number}
use Rattle.mmtel_focus.specs.Table.{step_of_adoption, step_of_join, step_of_notify, step_of_opening, step_of_signal, with_abandoned}
use Rattle.mmtel_focus.specs.declared.signals.Joining.{Joining}
use Rattle.mmtel_focus.specs.declared.signals.Joining.TheVariants as joining
use Rattle.mmtel_focus.specs.declared.signals.RoomSignal.{RoomSignal}

-- what was received: the moment, the tokens that were drawn before, and the signal
pub record ReceivedSignal : Type 0 where
  pub at : ℕ
  pub tokens : TokensView
  pub signal : RoomSignal

-- no token was drawn before
abbrev pub no_tokens : TokensView
no_tokens = record { token = []; drawn = 0 }

-- a leg, with its account, that came by this INVITE
pub record JoinRequest : Type 0 where
  pub at : ℕ
  pub tokens : TokensView
  pub leg : Released
  pub account : Option Account
  pub key : TKey
  pub invite : MessageView

-- a caller's leg, for which no token is drawn
abbrev pub join_request : (at : ℕ) → Leg → Option Account → TKey → MessageView → JoinRequest
join_request at leg account key m = record { at = at; tokens = no_tokens; leg = released.Caller leg; account = account; key = key; invite = m }

-- a leg, with its account, that was moved out of a call by the REFER of this participant
pub record Adoption : Type 0 where
  pub at : ℕ
  pub tokens : TokensView
  pub leg : Released
  pub account : Option Account
  pub by : ℕ

-- an operation on a table of conferences
pub data TableOp : Type 0 where
  -- a conference was opened
  Opens : (coming : JoinRequest) → TableOp
  -- a leg became a participant of the conference of this number
  Joins : (room : ℕ) → (coming : JoinRequest) → TableOp
  Adopts : (room : ℕ) → (adoption : Adoption) → TableOp
  -- a participant was notified of a status
  Notifies : (room seat code : ℕ) → (tokens : TokensView) → TableOp
  -- a signal was received
  Receives : (received : ReceivedSignal) → TableOp
  -- a participant left, and a conference was closed, without a signal
  Leaves : (room seat : ℕ) → TableOp
  Closes : (room : ℕ) → TableOp
  -- so many CDRs were handed over
  Drops : (count : ℕ) → TableOp

-- ---- the effects of an operation

abbrev pub step_on_open : ConferenceConfigView → JoinRequest → Table → StepResult
step_on_open config c table = step_of_opening config c.at c.leg c.account c.key c.invite (next_room_number table) (no_effects c.tokens)

abbrev pub step_on_join : ConferenceConfigView → (room : ℕ) → JoinRequest → Table → ConferenceStep
step_on_join config room c table = step_of_join config c.at room c.leg c.account c.key c.invite table.live (no_effects c.tokens)

abbrev pub step_on_adopt : ConferenceConfigView → (room : ℕ) → Adoption → Table → ConferenceStep
step_on_adopt config room a table = step_of_adoption config a.at room a.leg a.account a.by table.live (no_effects a.tokens)

abbrev pub step_on_notify : ConferenceConfigView → (room seat code : ℕ) → TokensView → Table → ConferenceStep
step_on_notify config room seat code tokens table = step_of_notify config room seat code table.live (no_effects tokens)

abbrev pub step_on_receive : ConferenceConfigView → ReceivedSignal → Table → TableStep
step_on_receive config x table = step_of_signal config x.at x.signal table.live table.abandoned (no_effects x.tokens)

abbrev pub effects_of : ConferenceConfigView → TableOp → Table → Effects
effects_of config (Opens coming) table = (step_on_open config coming table).effects
effects_of config (Joins room coming) table = (step_on_join config room coming table).effects
effects_of config (Adopts room adoption) table = (step_on_adopt config room adoption table).effects
effects_of config (Notifies room seat code tokens) table = (step_on_notify config room seat code tokens table).effects
effects_of config (Receives received) table = (step_on_receive config received table).effects
effects_of config (Leaves room seat) table = no_effects no_tokens
effects_of config (Closes room) table = no_effects no_tokens
effects_of config (Drops count) table = no_effects no_tokens

-- ---- the table after an operation

-- the INVITEs that a conference abandoned are appended to the others, and so are the CDRs that were closed
abbrev pub with_step : TableStep → Table → Table
with_step moved table = record table { live = moved.live; abandoned = moved.abandoned ++ moved.effects.abandoned; rows = table.rows ++ moved.effects.output.rows }

abbrev pub with_conference_step : ConferenceStep → Table → Table
with_conference_step s table = with_step (with_abandoned table.abandoned s) table

abbrev pub with_opened_conference : StepResult → Table → Table
with_opened_conference s table = record table { live = table.live ++ s.conference ∷ []; opened = next_number table.opened }

abbrev pub table_after_op : ConferenceConfigView → TableOp → Table → Table
table_after_op config (Opens coming) table = with_opened_conference (step_on_open config coming table) table
table_after_op config (Joins room coming) table = with_conference_step (step_on_join config room coming table) table
table_after_op config (Adopts room adoption) table = with_conference_step (step_on_adopt config room adoption table) table
table_after_op config (Notifies room seat code tokens) table = with_conference_step (step_on_notify config room seat code tokens table) table
table_after_op config (Receives received) table = with_step (step_on_receive config received table) table
table_after_op config (Leaves room seat) table = record table { live = conferences_after_leave room seat table.live }
table_after_op config (Closes room) table = record table { live = conferences_after_close room table.live }
table_after_op config (Drops count) table = record table { rows = drop count table.rows }

-- the table after these operations, the newest first
abbrev pub table_after : ConferenceConfigView → List TableOp → Table
table_after config [] = empty_table
table_after config (op ∷ ops) = table_after_op config op (table_after config ops)

-- ---- the model of `Rooms`

pub record RoomsView : Type 0 where
  pub sip : Addr
  pub mixer : Mixer
  pub methods : FurtherMethods
  pub table : Table
  -- memory ran out in a step
  pub has_failed : Bool

-- its configuration, with the peers and the accounts that are passed to each call on it
abbrev pub config_of : RoomsView → Peers → List AccountIdentity → ConferenceConfigView
config_of rooms peers accounts = record { sip = rooms.sip; mixer = rooms.mixer; methods = rooms.methods; peers = peers; accounts = accounts }

-- it represents the table after these operations
pub record Represents (peers : Peers) (accounts : List AccountIdentity) (rooms : RoomsView) (ops : List TableOp) : Type 0 where
  pub table : rooms.table ≡ table_after (config_of rooms peers accounts) ops
  pub works : rooms.has_failed ≡ false

-- the conferences after an operation, and its effects
abbrev pub rooms_after_op : Peers → List AccountIdentity → TableOp → RoomsView → RoomsView
rooms_after_op peers accounts op rooms = record rooms { table = table_after_op (config_of rooms peers accounts) op rooms.table }

abbrev pub effects_of_op : Peers → List AccountIdentity → TableOp → RoomsView → Effects
effects_of_op peers accounts op rooms = effects_of (config_of rooms peers accounts) op rooms.table

-- the effects of an operation after these ones
abbrev pub effects_after : ConferenceConfigView → List TableOp → TableOp → Effects
effects_after config ops op = effects_of config op (table_after config ops)

-- ---- how a leg enters a conference

abbrev pub entry_op : (room at : ℕ) → TokensView → Released → Option Account → Joining → TableOp
entry_op room at tokens leg account (joining.Invited key invite) = Joins room (record { at = at; tokens = tokens; leg = leg; account = account; key = key; invite = invite.now })
entry_op room at tokens leg account (joining.Referred by) = Adopts room (record { at = at; tokens = tokens; leg = leg; account = account; by = by })

-- it is no INVITE, or one that offers audio
abbrev pub has_audio_offer : Joining → Bool
has_audio_offer (joining.Invited key invite) = offers_audio invite.now.parsed.body
has_audio_offer (joining.Referred by) = true

-- In what two runs with calls and conferences are indistinguishable, each under its configuration: in all but the texts that go to trusted peers, and what is sent to these.
use Rattle.std.specs.Prelude.{◌≡◌, ◌<◌, ◌^◌, ℕ, true, false, Option, Some, None, List, [], ◌∷◌, position, slice_get, option_map}
use Rattle.mmtel_compose.specs.ReceivedMessages.{MessageView}
use Rattle.mmtel_b2bua.specs.Entries.{has_sent_branch}
use Rattle.mmtel_b2bua.specs.declared.entries.Entry.{Entry}
use Rattle.mmtel_b2bua_theorems.specs.EquivalentTables.{EquivalentEntries}
use Rattle.mmtel_b2bua_theorems.specs.Noninterference.{ConfigsAgree}
use Rattle.mmtel_output.specs.ResponseMatching.{awaited_request_branch}
use Rattle.mmtel_call.specs.RelayedTransactions.{is_in_flight}
use Rattle.mmtel_call.specs.OtherRequests.{is_answered_invite}
use Rattle.mmtel_call.specs.Table.{current_invite, is_current}
use Rattle.mmtel_call.specs.declared.calls.Call.{Call}
use Rattle.mmtel_call.specs.declared.calls.RelayedTransaction.{RelayedTransaction}
use Rattle.mmtel_call.specs.declared.calls.AnsweredInvite.{AnsweredInvite}
use Rattle.mmtel_call_theorems.specs.Noninterference.Configurations.{LooksUpEqually, RedirectsEqually, requested_target}
use Rattle.mmtel_call_theorems.specs.Noninterference.Premises.{IsAmong}
use Rattle.mmtel_call_theorems.specs.Noninterference.Observations.{trust_of}
use Rattle.mmtel_call_theorems.specs.Noninterference.StepTable.{SentIn}
use Rattle.mmtel_output.specs.AbandonedInvites.{is_of_branch}
use Rattle.mmtel_output.specs.declared.sent_invites.SentInvite.{SentInvite}
use Rattle.mmtel_output.specs.declared.sent_invites.AbandonedInvite.{AbandonedInvite}
use Rattle.mmtel_directory.specs.declared.directories.Directory.{Directory}
use Rattle.mmtel_focus.specs.Conferences.{Conference}
use Rattle.mmtel_participants.specs.declared.participants.Invite.{Invite}
use Rattle.mmtel_participants.specs.declared.participants.Invite.TheVariants.{Accepted, Outstanding}
use Rattle.mmtel_participants.specs.declared.participants.ParticipantState.{ParticipantState}
use Rattle.mmtel_focus.specs.Participants.{dialogue_of}
use Rattle.mmtel_focus.specs.Table.{Table, conference_has_branch, participant_has_branch}
use Rattle.mmtel_focus_theorems.specs.Configurations.{RefersEqually}
use Rattle.mmtel_focus_theorems.specs.Noninterference.{EquivalentConferences}
use Rattle.mmtel_records_in_force.specs.Texts.{Texts}
use Rattle.mmtel_call_parties.specs.Parties.{believed_user, target_from}
use Rattle.mmtel_sheet_grammar.specs.Texts.{stored_sheet}
use Rattle.mmtel_sheet_texts.specs.Texts.{text_at}
use Rattle.mmtel_sheet_values.specs.Sheets.{empty_sheet}
use Rattle.mmtel_sheet_values.specs.declared.values.Sheet.{Sheet}
use Rattle.mmtel_transaction.specs.Equivalence.{Equivalent}
use Rattle.mmtel_transaction.specs.Results.{class_of, peer_of}
use Rattle.mmtel_transaction.specs.Operations.{live}
use Rattle.mmtel_transaction.specs.Heads.{head_of}
use Rattle.mmtel_transaction.specs.declared.message_class.MessageClass.TheVariants as part
use Rattle.mmtel_transaction.specs.declared.words.TKey.{TKey}
use Rattle.mmtel_trust.specs.ParsedMessage.{caller_account}
use Rattle.mmtel_types.specs.declared.numbers.Account.{Account}
use Rattle.mmtel_types.specs.declared.numbers.Peer.{Peer}
use Rattle.mmtel_types.specs.declared.sides.Side.{Side}
use Rattle.mmtel_b2bua.specs.Detaching.{entry_of}
use Rattle.mmtel_run_definitions.specs.Equivalence.{EqualButForAccounts, trusts}
use Rattle.mmtel_run_definitions.specs.Calls.{call_config, named_by}
use Rattle.mmtel_run_definitions.specs.Events as Events
use Rattle.mmtel_run_definitions.specs.Events.{ParsedEvent, TimedEvent, message_in}
use Rattle.mmtel_run_definitions.specs.Ownership.{conference_config}
use Rattle.mmtel_run_definitions.specs.Run.{after_event_in_order}
use Rattle.mmtel_run_definitions.specs.View.{view}
use Rattle.mmtel_run_definitions.specs.Transitions.{RunState, calls_in, conferences_in, subscriptions_in}
use Rattle.mmtel_run_definitions.specs.Refusals.{registrant}
use Rattle.mmtel_run_definitions.specs.Subscriptions.{named_mailbox, sender_of}
use Rattle.mmtel_run_theorems.specs.Roles.{is_opening, may_subscribe}
use Rattle.mmtel_run_theorems.specs.Mask.{MaskedEvent, Nothing, Received, Refused, Tests, WebRequested, state_at_event}

-- ---- two configurations

-- they are equal but for the URIs of accounts, and the lookup of an account to which these records divert calls has the same result in both
pub record EquivalentConfigs (records : List Sheet) (one other : Directory) : Type 0 where
  pub equal : EqualButForAccounts one other
  pub configured : ConfigsAgree records (call_config one) (call_config other)

-- a message, without its private places, names the same accounts in both: the target of an INVITE without To tag, where a response redirects to, whom a REFER asks a conference
-- to invite, whom a trusted peer registers, and who subscribes to whose mailbox
pub record MessageLooksUpEqually (one other : Directory) (left : MessageView) : Type 0 where
  pub target : is_opening left.parsed ≡ true →
      target_from one.names.accounts left.parsed.start (believed_user left.parsed).user ≡ target_from other.names.accounts left.parsed.start (believed_user left.parsed).user
  pub requested : is_opening left.parsed ≡ true → LooksUpEqually (call_config one) (call_config other) (requested_target left).uri
  pub redirect : RedirectsEqually (call_config one) (call_config other) left
  pub refer : RefersEqually (conference_config one) (conference_config other) left
  pub registrant : registrant one.names.accounts left.parsed ≡ registrant other.names.accounts left.parsed
  pub subscriber : may_subscribe one left.parsed ≡ true → sender_of one left.parsed ≡ sender_of other left.parsed
  pub mailbox : may_subscribe one left.parsed ≡ true → named_mailbox one left.parsed ≡ named_mailbox other left.parsed

-- and so does the caller of such an INVITE, where it has no tests
abbrev pub CallerLooksUpEqually : (one other : Directory) → MessageView → Option Tests → Type 0
CallerLooksUpEqually one other left None = is_opening left.parsed ≡ true → caller_account one.names.accounts left.parsed ≡ caller_account other.names.accounts left.parsed
CallerLooksUpEqually one other left (Some tests) = Unit {0}

abbrev pub EventLooksUpEqually : (one other : Directory) → MaskedEvent → Type 0
EventLooksUpEqually one other Nothing = Unit {0}
EventLooksUpEqually one other (Refused peer source reply) = Unit {0}
EventLooksUpEqually one other (Received left tests) = MessageLooksUpEqually one other left × CallerLooksUpEqually one other left tests
EventLooksUpEqually one other (WebRequested put waits) = Unit {0}

abbrev pub AllLookUpEqually : (one other : Directory) → List (ℕ × MaskedEvent) → Type 0
AllLookUpEqually one other [] = Unit {0}
AllLookUpEqually one other (event ∷ events) = EventLooksUpEqually one other event.1 × AllLookUpEqually one other events

-- ---- states

-- each record that is in force is among these, and that of an account without a text
pub record AreAmong (records : List Sheet) (texts : Texts) : Type 0 where
  pub each : (account : Account) (text : List ℕ) → text_at texts account ≡ Some text → IsAmong records (stored_sheet text)
  pub none : IsAmong records empty_sheet

-- the states are indistinguishable; the CDRs that wait are not compared
pub record EquivalentStates (records : List Sheet) (directory far : Directory) (one other : RunState) : Type 0 where
  pub clock : one.clock ≡ other.clock
  pub steps : one.steps ≡ other.steps
  pub actions : Equivalent (trusts directory) one.actions other.actions
  pub drawn : one.drawn ≡ other.drawn
  pub calls : EquivalentEntries records (trusts directory) (calls_in directory one).entries (calls_in far other).entries
  pub opened : (calls_in directory one).opened ≡ (calls_in far other).opened
  pub conferences : EquivalentConferences (trusts directory) (conferences_in directory one) (conferences_in far other)
  -- the mailboxes in their state, not the operations on them: a request that was received may have had private places, which no mailbox stores
  pub subscriptions : subscriptions_in one ≡ subscriptions_in other
  pub pending_timers : one.pending_timers ≡ other.pending_timers
  pub texts : one.texts ≡ other.texts
  pub registrations : one.registrations ≡ other.registrations
  pub seen : (seer : Peer) → trusts directory seer ≡ false → view seer one.offers ≡ view seer other.offers

-- ---- the transactions of calls and conferences

-- this transaction is with a peer that is trusted exactly if this one is
abbrev pub HasSameTrust : Directory → RunState → TKey → Peer → Type 0
HasSameTrust directory state key peer = option_map (trusts directory) (peer_of key.0 (live state.actions)) ≡ Some (trusts directory peer)

-- a client transaction that receives a response is with the peer that was sent the request: the INVITE of this branch, or the PRACK or UPDATE that is in flight with it
pub record ResponseIsTiedToCall (directory : Directory) (state : RunState) (key : TKey) (branch : List ℕ) (c : Call) : Type 0 where
  pub awaited : (i : SentInvite) → is_current branch c ≡ true → current_invite c.phase ≡ Some i → HasSameTrust directory state key i.dialogue.peer
  pub abandoned : (at : ℕ) (l : AbandonedInvite) → position (is_of_branch branch) c.abandoned ≡ Some at →
      slice_get c.abandoned at ≡ Some l → HasSameTrust directory state key l.invite.dialogue.peer
  pub answered : (at : ℕ) (x : AnsweredInvite) → position (is_answered_invite branch) c.answered_invites ≡ Some at →
      slice_get c.answered_invites at ≡ Some x → HasSameTrust directory state key x.invite.dialogue.peer
  pub relayed : (at : ℕ) (flight : RelayedTransaction) → position (is_in_flight branch) c.relayed ≡ Some at → slice_get c.relayed at ≡ Some flight →
      HasSameTrust directory state key flight.exchange.invite.dialogue.peer

abbrev pub ResponseIsTied : Directory → RunState → MessageView → Type 0
ResponseIsTied directory state m = (key : ℕ) (branch : List ℕ) (at : ℕ) (e : Entry) → class_of (head_of (message_in m.parsed)) (live state.actions) ≡ part.Answer key →
    awaited_request_branch m ≡ Some branch → position (has_sent_branch (Some branch)) (calls_in directory state).entries ≡ Some at →
    slice_get (calls_in directory state).entries at ≡ Some e →
    ResponseIsTiedToCall directory state (record { 0 = key }) branch e.call

-- so is that of the INVITE of a participant that has this branch, and that of one that a conference abandoned
abbrev pub InviteIsTied : Directory → RunState → TKey → Option Invite → Type 0
InviteIsTied directory state key None = Unit {0}
InviteIsTied directory state key (Some (Outstanding number i)) = HasSameTrust directory state key i.dialogue.peer
InviteIsTied directory state key (Some (Accepted branch tag ack)) = Unit {0}

pub record ParticipantIsTied (directory : Directory) (state : RunState) (key : TKey) (seat : ParticipantState) : Type 0 where
  pub invite : InviteIsTied directory state key seat.invite
  pub leg : HasSameTrust directory state key (dialogue_of seat).peer

pub record ResponseIsTiedToTable (directory : Directory) (state : RunState) (key : TKey) (branch : List ℕ) (table : Table) : Type 0 where
  pub abandoned : (at : ℕ) (l : AbandonedInvite) → position (is_of_branch branch) table.abandoned ≡ Some at → slice_get table.abandoned at ≡ Some l →
      HasSameTrust directory state key l.invite.dialogue.peer
  pub participant : (at place : ℕ) (room : Conference) (seat : ParticipantState) →
      position (conference_has_branch branch) table.live ≡ Some at → slice_get table.live at ≡ Some room →
      position (participant_has_branch branch) room.participants ≡ Some place → slice_get room.participants place ≡ Some seat → ParticipantIsTied directory state key seat

abbrev pub ConferenceResponseIsTied : Directory → RunState → MessageView → Type 0
ConferenceResponseIsTied directory state m = (key : ℕ) (branch : List ℕ) → class_of (head_of (message_in m.parsed)) (live state.actions) ≡ part.Answer key →
    awaited_request_branch m ≡ Some branch → ResponseIsTiedToTable directory state (record { 0 = key }) branch (conferences_in directory state)

-- the INVITE whose 2xx waits for this ACK was sent to a peer that is trusted exactly if that of the other leg is
abbrev pub AckIsTied : Directory → RunState → MessageView → Type 0
AckIsTied directory state m = (call : ℕ) (side : Side) (e : Entry) → named_by m.parsed (calls_in directory state).entries ≡ Some (record { 0 = call }, side) →
    entry_of call (calls_in directory state).entries ≡ Some e → SentIn e.call.phase (trust_of (call_config directory) (λ key. false)) e.call side m

pub record MessageIsTied (directory : Directory) (state : RunState) (m : MessageView) : Type 0 where
  pub response : ResponseIsTied directory state m
  pub conference : ConferenceResponseIsTied directory state m
  pub ack : AckIsTied directory state m

abbrev pub EventIsTied : Directory → RunState → ParsedEvent → Type 0
EventIsTied directory state Events.Nothing = Unit {0}
EventIsTied directory state (Events.Refused peer source reply) = Unit {0}
EventIsTied directory state (Events.Received message) = MessageIsTied directory state message
EventIsTied directory state (Events.WebRequested request kept rows) = Unit {0}

-- ---- runs in which no token is drawn twice

-- fewer than 2^60 numbers were drawn
abbrev pub IsEarly : RunState → Type 0
IsEarly state = state.drawn < 2 ^ 60

-- this holds whenever an event comes
abbrev pub AllEarly : Directory → (token : List ℕ) → (fuel : ℕ) → List TimedEvent → RunState → Type 0
AllEarly directory token fuel [] state = Unit {0}
AllEarly directory token fuel (notice ∷ others) state =
    IsEarly (state_at_event directory token fuel notice state) × AllEarly directory token fuel others (after_event_in_order directory token fuel notice state)

-- each message of a run is of such transactions, in the state in which it comes, where no token was drawn twice by then
abbrev pub AllTied : Directory → (token : List ℕ) → (fuel : ℕ) → List TimedEvent → RunState → Type 0
AllTied directory token fuel [] state = Unit {0}
AllTied directory token fuel (notice ∷ others) state =
    (IsEarly (state_at_event directory token fuel notice state) → EventIsTied directory (state_at_event directory token fuel notice state) notice.parsed) ×
    AllTied directory token fuel others (after_event_in_order directory token fuel notice state)

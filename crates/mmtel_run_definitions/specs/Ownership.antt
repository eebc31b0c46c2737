-- Conferences in a run: their configuration; to which side of a call or which participant of a conference a message belongs (RFC 3261 §12.2.2); which leg a REFER with Replaces
-- names (RFC 3891 §3, RFC 4579 §5.6); and who joins a conference.
use Rattle.std.specs.Prelude.{ℕ, ◌==◌, ◌&&◌, Bool, true, false, if◌then◌else◌, List, [], ◌∷◌, Option, Some, None, codes, is_some, position}
use Rattle.mmtel_compose.specs.ReceivedMessages.{MessageView, status_of}
use Rattle.mmtel_b2bua.specs.Entries.{has_received_key, has_sent_branch}
use Rattle.mmtel_b2bua.specs.Queries.{party}
use Rattle.mmtel_b2bua.specs.declared.entries.Entry.{Entry}
use Rattle.mmtel_directory.specs.declared.directories.Directory.{Directory}
use Rattle.mmtel_focus.specs.Operations.{TableOp, table_after}
use Rattle.mmtel_focus.specs.Queries.{room_and_seat_with_dialog}
use Rattle.mmtel_focus.specs.Referrals.{referral_in}
use Rattle.mmtel_focus.specs.Conferences.{Conference}
use Rattle.mmtel_focus.specs.ConferenceConfig.{ConferenceConfigView}
use Rattle.mmtel_focus.specs.Table.{Table}
use Rattle.mmtel_focus.specs.declared.faults.RoomFault.{RoomFault}
use Rattle.mmtel_focus.specs.declared.faults.RoomFault.TheVariants as fault
use Rattle.mmtel_focus.specs.declared.referrals.Referral.{Referral}
use Rattle.mmtel_focus.specs.declared.referrals.Referral.TheVariants as referral
use Rattle.mmtel_focus.specs.declared.referrals.Replaces.{Replaces}
use Rattle.mmtel_leg.specs.Dialogues.{caller_dialogue_with_remote}
use Rattle.mmtel_leg.specs.Legs.{Leg}
use Rattle.mmtel_message.specs.Faults.{is_method}
use Rattle.mmtel_mwi.specs.Boxes as mailboxes
use Rattle.mmtel_transaction.specs.declared.words.Emit.{Emit}
use Rattle.mmtel_transaction.specs.declared.words.Emit.TheVariants as emit
use Rattle.mmtel_transaction.specs.declared.words.TKey.{TKey}
use Rattle.mmtel_trust.specs.ParsedMessage.{ParsedMessage}
use Rattle.mmtel_types.specs.declared.numbers.Account.{Account}
use Rattle.mmtel_types.specs.declared.numbers.CallNo.{CallNo}
use Rattle.mmtel_types.specs.declared.numbers.Peer.{Peer}
use Rattle.mmtel_types.specs.declared.numbers.RoomNo.{RoomNo}
use Rattle.mmtel_types.specs.declared.numbers.SubNo.{SubNo}
use Rattle.mmtel_types.specs.declared.sides.Side.{Side}
use Rattle.mmtel_run_definitions.specs.OwnResponses.{further_methods}
use Rattle.mmtel_run_definitions.specs.Calls.{DialogName, dialog_name, find_dialog, name_by, named_by}

-- the configuration, as conferences need it
abbrev pub conference_config : Directory → ConferenceConfigView
conference_config directory = record {
  sip = directory.sip;
  mixer = directory.mixer;
  methods = further_methods directory;
  peers = directory.peers;
  accounts = directory.names.accounts;
}

-- the conferences, after these operations on them
abbrev pub conferences_after : Directory → List TableOp → Table
conferences_after directory ops = table_after (conference_config directory) ops

-- ---- to what a message belongs. Each tag, Call-ID and branch of the server is drawn once, and a leg is in a call, a conference or a subscription: so no dialog, no branch and no
-- client transaction belongs to two of them, and it does not matter that calls are searched first and subscriptions last

-- the owner of a dialog: a side of a call, a participant of a conference, or a subscriber to a mailbox
pub data DialogOwner : Type 0 where
  InCall : (call : CallNo) → (side : Side) → DialogOwner
  InConference : (room : RoomNo) → (seat : ℕ) → DialogOwner
  InSubscription : (sub : SubNo) → DialogOwner

abbrev pub in_subscription : Option SubNo → Option DialogOwner
in_subscription None = None
in_subscription (Some sub) = Some (InSubscription sub)

abbrev pub in_conference_or : Option DialogOwner → Option (RoomNo × ℕ) → Option DialogOwner
in_conference_or other None = other
in_conference_or other (Some x) = Some (InConference x.0 x.1)

abbrev pub in_call_or : Option DialogOwner → Option (CallNo × Side) → Option DialogOwner
in_call_or other None = other
in_call_or other (Some x) = Some (InCall x.0 x.1)

-- the live conference and the participant whose dialog has this name
abbrev pub find_participant : Option DialogName → List Conference → Option (RoomNo × ℕ)
find_participant None live = None
find_participant (Some name) live = room_and_seat_with_dialog name.call_id name.local name.remote live

abbrev pub participant_named_by : ParsedMessage → List Conference → Option (RoomNo × ℕ)
participant_named_by message live = find_participant (dialog_name message) live

-- the live subscription whose dialog has this name
abbrev pub find_subscription : Option DialogName → mailboxes.Table → Option SubNo
find_subscription None table = None
find_subscription (Some name) table = mailboxes.number_with_dialog name.call_id name.local name.remote table

abbrev pub subscription_named_by : ParsedMessage → mailboxes.Table → Option SubNo
subscription_named_by message table = find_subscription (dialog_name message) table

-- the owner of the dialog that a message names
abbrev pub dialog_owner_of : ParsedMessage → List Entry → List Conference → mailboxes.Table → Option DialogOwner
dialog_owner_of message entries live table =
    in_call_or (in_conference_or (in_subscription (subscription_named_by message table)) (participant_named_by message live))
    (named_by message entries)

-- an INVITE of some call has this branch
abbrev pub is_of_calls : (branch : Option (List ℕ)) → List Entry → Bool
is_of_calls branch entries = is_some (position (has_sent_branch branch) entries)

-- an INVITE of some call got its response in this client transaction
abbrev pub is_key_of_calls : TKey → List Entry → Bool
is_key_of_calls key entries = is_some (position (has_received_key key) entries)

-- a NOTIFY of some subscription with this branch has no final response yet
abbrev pub is_of_subscriptions : (branch : Option (List ℕ)) → mailboxes.Table → Bool
is_of_subscriptions None table = false
is_of_subscriptions (Some branch) table = is_some (mailboxes.pending_subscription branch table)

-- the owner of a request that the server sent: the calls, the subscriptions, or the conferences
pub data Owner : Type 0 where
  OfCalls : Owner
  OfSubscriptions : Owner
  OfConferences : Owner

-- a request that no call sent is of the conferences
abbrev pub calls_or_conferences : (is_of_calls : Bool) → Owner
calls_or_conferences true = OfCalls
calls_or_conferences false = OfConferences

-- unless a subscription sent it
abbrev pub owner_of : (is_of_calls is_of_boxes : Bool) → Owner
owner_of true is_of_boxes = OfCalls
owner_of false true = OfSubscriptions
owner_of false false = OfConferences

-- by the branch of an INVITE that a call may have sent, and by that of any request
abbrev pub owner_of_branch : (invite branch : Option (List ℕ)) → List Entry → mailboxes.Table → Owner
owner_of_branch invite branch entries table = owner_of (is_of_calls invite entries) (is_of_subscriptions branch table)

-- by the client transaction in which its response was received
abbrev pub owner_of_key : TKey → List Entry → Owner
owner_of_key key entries = calls_or_conferences (is_key_of_calls key entries)

-- ---- a REFER of a participant with Replaces

-- a request was accepted, with this response
abbrev pub is_accepting : Emit → Bool
is_accepting (emit.Ask peer message) = false
is_accepting (emit.Reply key message) = status_of message.start == 202
is_accepting (emit.Plain peer text) = false
is_accepting (emit.Ack key message) = false
is_accepting (emit.Settled key own) = false
is_accepting (emit.Arm call what when) = false
is_accepting (emit.ArmSeat room seat what when) = false

-- by the first of these commands
abbrev pub is_accepted : List Emit → Bool
is_accepted [] = false
is_accepted (emit ∷ emits) = is_accepting emit

abbrev pub replaces_by : Referral → Option Replaces
replaces_by referral.Missing = None
replaces_by referral.OtherMethod = None
replaces_by (referral.Invite uri) = None
replaces_by (referral.Replace replaces) = Some replaces

-- the dialog that the new one is to replace, where the request is a REFER that was accepted
abbrev pub replacement_in : ParsedMessage → List Emit → Option Replaces
replacement_in message emits = if is_method (codes "REFER") message.start && is_accepted emits then replaces_by (referral_in message.refer_to) else None

-- the live call and the side whose dialog is named: by the Call-ID, the server's tag and the remote tag; a Replaces without one of the tags names none
abbrev pub replaced_side : Replaces → List Entry → Option (CallNo × Side)
replaced_side replaces entries = find_dialog (name_by (Some replaces.call_id) replaces.to_tag replaces.from_tag) entries

-- the leg is with this peer
abbrev pub is_of_peer : Peer → Option (Peer × Option Account) → Bool
is_of_peer peer None = false
is_of_peer peer (Some party) = party.0.0 == peer.0

-- the served account of a side
abbrev pub account_at : Option (Peer × Option Account) → Option Account
account_at None = None
account_at (Some party) = party.1

abbrev pub account_of_side : CallNo → Side → List Entry → Option Account
account_of_side call side entries = account_at (party call.0 side entries)

-- ---- who joins a conference

-- the leg of the sender of an INVITE, where the server responds with this tag
abbrev pub leg_by : (tag : List ℕ) → MessageView → Leg
leg_by tag message = record { dialogue = caller_dialogue_with_remote message.peer message.parsed.lines tag; meter = None }

-- the status of the response to one who cannot join
abbrev pub status_of_fault : RoomFault → ℕ
status_of_fault fault.NoRoom = 503
status_of_fault fault.RoomFull = 503
status_of_fault fault.Gone = 404
status_of_fault fault.NoMemory = 503

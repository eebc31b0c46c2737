-- Worked messages of two trusted phones that are the same but for whose they are, Erin's or Frank's, with their roles in a run: what masking leaves of them is the same
-- where they are not relayed or their side is restricted, and differs where they are public (RFC 3323 §4.1, RFC 3325 §7, RFC 7044 §10.1, TS 24.607 §4.5.2, TS 24.608 §4.5.2).
use Rattle.std.specs.Prelude.{◌≡◌, ℕ, true, false, Some, None, List, [], ◌∷◌, ◌++◌, codes, position, slice_get}
use Rattle.mmtel_compose.specs.ReceivedMessages.{MessageView, message_view}
use Rattle.mmtel_b2bua.specs.Entries.{has_sent_branch}
use Rattle.mmtel_b2bua.specs.Detaching.{entry_of}
use Rattle.mmtel_b2bua.specs.declared.entries.Entry.{Entry}
use Rattle.mmtel_call.specs.Answered.{leg_of}
use Rattle.mmtel_call.specs.Table.{is_current}
use Rattle.mmtel_call.specs.declared.calls.EstablishedLegs.{EstablishedLegs}
use Rattle.mmtel_call.specs.declared.calls.Phase.TheVariants.{Established, Offered}
use Rattle.mmtel_call.specs.declared.calls.Reinvite.{Reinvite}
use Rattle.mmtel_call.specs.declared.calls.Stage.{Stage}
use Rattle.mmtel_call.specs.declared.calls.Stage.TheVariants.{Reinviting}
use Rattle.mmtel_call.specs.declared.calls.OfferedAttempt.{OfferedAttempt}
use Rattle.mmtel_output.specs.ResponseMatching.{awaited_request_branch}
use Rattle.mmtel_directory.specs.declared.directories.Directory.{Directory}
use Rattle.mmtel_records_in_force.specs.Texts.{Texts}
use Rattle.mmtel_message.specs.Message.{Line, Message}
use Rattle.mmtel_message.specs.declared.messages.Start.{Start}
use Rattle.mmtel_message.specs.declared.messages.Start.TheVariants.{Request, Status}
use Rattle.mmtel_sheet_values.specs.declared.values.Who.{Who}
use Rattle.mmtel_transaction.specs.Results.{class_of}
use Rattle.mmtel_transaction.specs.Operations.{DidAsk, DidHear, TransactionOp, live}
use Rattle.mmtel_transaction.specs.Heads.{head_of}
use Rattle.mmtel_transaction.specs.declared.message_class.MessageClass.{MessageClass}
use Rattle.mmtel_transaction.specs.declared.message_class.MessageClass.TheVariants as part
use Rattle.mmtel_types.specs.declared.numbers.Peer.{Peer}
use Rattle.mmtel_types.specs.declared.sides.Side.{Side}
use Rattle.mmtel_types.specs.declared.sides.Side.TheVariants.{Callee, Caller}
use Rattle.mmtel_run_definitions.specs.Calls.{named_by}
use Rattle.mmtel_run_definitions.specs.Events as Events
use Rattle.mmtel_run_definitions.specs.Events.{message_in}
use Rattle.mmtel_run_definitions.specs.Transitions.{RunState, calls_in, initial_state}
use Rattle.mmtel_run_theorems.specs.Roles.{hides_caller}
use Rattle.mmtel_run_theorems.specs.Mask.{mask_event, tests_of}

-- ---- the senders

pub data Person : Type 0 where
  Erin : Person
  Frank : Person

abbrev pub name_of : Person → List ℕ
name_of Erin = codes "Erin"
name_of Frank = codes "Frank"

abbrev pub user_of : Person → List ℕ
user_of Erin = codes "erin"
user_of Frank = codes "frank"

-- a message of either of them
abbrev pub PersonMessage : Type 0
PersonMessage = Person → MessageView

abbrev pub phone : Peer
phone = record { 0 = 1 }

abbrev pub from_phone : Message Start → MessageView
from_phone m = message_view phone (record { ip = 127 ∷ 0 ∷ 0 ∷ 1 ∷ []; port = 5071 }) true m

-- ---- the messages

abbrev pub party : Person → List ℕ
party p = codes "\"" ++ name_of p ++ codes "\" <sip:" ++ user_of p ++ codes "@other.example>;tag=a"

abbrev pub contact : Person → List ℕ
contact p = codes "<sip:" ++ user_of p ++ codes "@127.0.0.1:5071>"

-- its identity, as the network asserts it and as the phone gives it
abbrev pub identity_lines : Person → List Line
identity_lines p = (codes "P-Asserted-Identity", codes "<sip:" ++ user_of p ++ codes "@other.example>") ∷ (codes "User-Agent", name_of p) ∷ []

abbrev pub privacy_lines : List Line
privacy_lines = (codes "Privacy", codes "id") ∷ []

-- a request of the phone, with this To, with further header fields, in the name of a person
abbrev pub request : (method to number : List ℕ) → List Line → PersonMessage
request method to number further p = from_phone (record {
  start = Request method (codes "sip:bob@far.example");
  lines =
      (codes "Via", codes "SIP/2.0/UDP 127.0.0.1:5071;branch=z9hG4bKa1") ∷
      (codes "From", party p) ∷
      (codes "To", to) ∷
      (codes "Call-ID", codes "c1") ∷
      (codes "CSeq", number) ∷
      (codes "Contact", contact p) ∷ further ++ identity_lines p;
  body = [];
})

-- a response to a request of the server, which names in To who was asked
abbrev pub response : (status : ℕ) → (phrase to contact number : List ℕ) → List Line → PersonMessage
response status phrase to contact number further p = from_phone (record {
  start = Status status phrase;
  lines =
      (codes "Via", codes "SIP/2.0/UDP 127.0.0.1:5060;branch=z9hG4bK0123456789abcdef-6") ∷
      (codes "From", codes "<sip:bob@far.example>;tag=0123456789abcdef-1") ∷
      (codes "To", to) ∷
      (codes "Call-ID", codes "c1") ∷
      (codes "CSeq", number) ∷
      (codes "Contact", contact) ∷ further ++ identity_lines p;
  body = [];
})

abbrev pub bob : List ℕ
bob = codes "<sip:bob@far.example>"

-- as the server names him in the dialog, with its tag
abbrev pub bob_here : List ℕ
bob_here = codes "<sip:bob@far.example>;tag=0123456789abcdef-1"

abbrev pub opening_invite : List Line → PersonMessage
opening_invite further = request (codes "INVITE") bob (codes "7 INVITE") further

-- with Privacy, and without
abbrev pub private_opening : PersonMessage
private_opening = opening_invite privacy_lines

abbrev pub plain_opening : PersonMessage
plain_opening = opening_invite []

-- in the dialog
abbrev pub in_dialog_invite : List Line → PersonMessage
in_dialog_invite further = request (codes "INVITE") bob_here (codes "8 INVITE") further

abbrev pub private_in_dialog : PersonMessage
private_in_dialog = in_dialog_invite privacy_lines

abbrev pub plain_in_dialog : PersonMessage
plain_in_dialog = in_dialog_invite []

abbrev pub bye : PersonMessage
bye = request (codes "BYE") bob_here (codes "8 BYE") []

abbrev pub cancel : PersonMessage
cancel = request (codes "CANCEL") bob (codes "7 CANCEL") []

abbrev pub ack : PersonMessage
ack = request (codes "ACK") bob_here (codes "7 ACK") []

abbrev pub ok_to : (number : List ℕ) → PersonMessage
ok_to number p = response 200 (codes "OK") (party p) (contact p) number [] p

abbrev pub ok_to_invite : PersonMessage
ok_to_invite = ok_to (codes "1 INVITE")

abbrev pub ok_to_bye : PersonMessage
ok_to_bye = ok_to (codes "1 BYE")

abbrev pub ok_to_cancel : PersonMessage
ok_to_cancel = ok_to (codes "1 CANCEL")

abbrev pub ok_to_notify : PersonMessage
ok_to_notify = ok_to (codes "1 NOTIFY")

-- from the target of a call, with Privacy: To names the party that the server called
abbrev pub ok_of_target : PersonMessage
ok_of_target p = response 200 (codes "OK") (codes "<sip:bob@home.example>;tag=a") (contact p) (codes "1 INVITE") privacy_lines p

-- from a party that its own To names
abbrev pub ok_named : PersonMessage
ok_named p = response 200 (codes "OK") (party p) (contact Erin) (codes "1 INVITE") privacy_lines Erin

-- from a party that redirects the call to somebody
abbrev pub redirect_response : PersonMessage
redirect_response p = response 302 (codes "Moved Temporarily") (codes "<sip:bob@home.example>;tag=a") (contact p) (codes "1 INVITE") privacy_lines Erin

-- an INVITE of Erin's whose History-Info names a person, where that entry is marked (`?Privacy=history`) or not
abbrev pub invite_with_history : (mark : List ℕ) → PersonMessage
invite_with_history mark p = opening_invite ((codes "History-Info", codes "<sip:" ++ user_of p ++ codes "@home.example" ++ mark ++ codes ">;index=1") ∷ []) Erin

abbrev pub invite_with_marked_entry : PersonMessage
invite_with_marked_entry = invite_with_history (codes "?Privacy=history")

abbrev pub invite_with_unmarked_entry : PersonMessage
invite_with_unmarked_entry = invite_with_history []

-- ---- what is compared

-- Erin's message and Frank's, in a state, are equal without their private places
abbrev pub MasksEqually : Directory → List Who → RunState → PersonMessage → Type 0
MasksEqually directory asked state m = mask_event directory asked state (Events.Received (m Erin)) ≡ mask_event directory asked state (Events.Received (m Frank))

abbrev pub MasksDifferently : Directory → List Who → RunState → PersonMessage → Type 0
MasksDifferently directory asked state m = MasksEqually directory asked state m → ⊥

-- ---- the roles of the messages

-- the transactions classify it as this, whoever sends it
abbrev pub IsClassified : RunState → PersonMessage → MessageClass → Type 0
IsClassified state m taken = (p : Person) → class_of (head_of (message_in (m p).parsed)) (live state.actions) ≡ taken

-- it is a request of a side of an established call, and from that side's own peer
pub record IsOfEstablished (directory : Directory) (state : RunState) (m : PersonMessage) (side : Side) (e : Entry) (x : EstablishedLegs) (stage : Stage) (call : ℕ) : Type 0 where
  pub fresh : IsClassified state m part.Fresh
  pub named : (p : Person) → named_by (m p).parsed (calls_in directory state).entries ≡ Some (record { 0 = call }, side)
  pub entry : entry_of call (calls_in directory state).entries ≡ Some e
  pub established : e.call.phase ≡ Established x stage
  pub own : (leg_of side x).dialogue.peer ≡ phone

-- it is a response to the INVITE whose response the call awaits
pub record IsAwaited (directory : Directory) (state : RunState) (m : PersonMessage) (e : Entry) (branch : List ℕ) (key place : ℕ) : Type 0 where
  pub classified : IsClassified state m (part.Answer key)
  pub responds : (p : Person) → awaited_request_branch (m p) ≡ Some branch
  pub sent : position (has_sent_branch (Some branch)) (calls_in directory state).entries ≡ Some place
  pub entry : slice_get (calls_in directory state).entries place ≡ Some e
  pub current : is_current branch e.call ≡ true

-- from the target of an attempt
pub record IsTargets (directory : Directory) (state : RunState) (m : PersonMessage) (e : Entry) (x : OfferedAttempt) (branch : List ℕ) (key place : ℕ) : Type 0 where
  pub awaited : IsAwaited directory state m e branch key place
  pub offered : e.call.phase ≡ Offered x
  pub leg : x.callee.leg.dialogue.peer ≡ phone
  pub peer : x.attempt.invite.dialogue.peer ≡ phone

-- ---- what masking leaves of them

-- their side of a call is restricted: for the whole call, or by the message
pub record RestrictedMaskEqually (directory : Directory) (asked : List Who) (state : RunState) : Type 0 where
  -- from a caller who opens a call, where the tests have the same results
  pub opens : IsClassified state private_opening part.Fresh →
      tests_of directory.names.accounts asked (private_opening Erin).parsed ≡ tests_of directory.names.accounts asked (private_opening Frank).parsed →
      MasksEqually directory asked state private_opening
  -- a request of the caller, and a response
  pub caller_requests : (e : Entry) (x : EstablishedLegs) (stage : Stage) (call : ℕ) → IsOfEstablished directory state plain_in_dialog Caller e x stage call →
      e.call.opening.restricted ≡ true → MasksEqually directory asked state plain_in_dialog
  pub caller_responds : (e : Entry) (x : EstablishedLegs) (q : Reinvite) (branch : List ℕ) (key place : ℕ) → IsAwaited directory state ok_to_invite e branch key place →
      e.call.phase ≡ Established x (Reinviting Callee q) → q.invite.dialogue.peer ≡ phone → e.call.opening.restricted ≡ true → MasksEqually directory asked state ok_to_invite
  -- from the callee
  pub callee_requests : (e : Entry) (x : EstablishedLegs) (stage : Stage) (call : ℕ) → IsOfEstablished directory state private_in_dialog Callee e x stage call →
      MasksEqually directory asked state private_in_dialog
  pub callee_responds : (e : Entry) (x : OfferedAttempt) (branch : List ℕ) (key place : ℕ) → IsTargets directory state ok_of_target e x branch key place →
      MasksEqually directory asked state ok_of_target
  -- a person who is marked in the History-Info of an INVITE
  pub history : IsClassified state invite_with_marked_entry part.Fresh → ((p : Person) → hides_caller directory state (invite_with_marked_entry p).parsed ≡ false) →
      MasksEqually directory asked state invite_with_marked_entry

-- it is not relayed, and nobody need be restricted
pub record UnshownMaskEqually (directory : Directory) (asked : List Who) (state : RunState) : Type 0 where
  -- a response to a BYE, a CANCEL and a NOTIFY of the server, and one without a request
  pub responds_to_bye : (key : ℕ) → IsClassified state ok_to_bye (part.Answer key) → MasksEqually directory asked state ok_to_bye
  pub responds_to_cancel : (key : ℕ) → IsClassified state ok_to_cancel (part.Answer key) → MasksEqually directory asked state ok_to_cancel
  pub responds_to_notify : (key : ℕ) → IsClassified state ok_to_notify (part.Answer key) → MasksEqually directory asked state ok_to_notify
  pub stray : IsClassified state ok_to_invite part.Stray → MasksEqually directory asked state ok_to_invite
  -- a retransmission: of a response, and of the INVITE of a call, where the tests have the same results
  pub received_again : (key : ℕ) → IsClassified state ok_to_invite (part.RepeatedFinal key) → MasksEqually directory asked state ok_to_invite
  pub repeated : (key : ℕ) → IsClassified state plain_opening (part.Repeat key) →
      tests_of directory.names.accounts asked (plain_opening Erin).parsed ≡ tests_of directory.names.accounts asked (plain_opening Frank).parsed →
      MasksEqually directory asked state plain_opening
  -- a CANCEL, the ACK of a refusal, an ACK and a request that name no call, and a request beyond the capacity
  pub cancels : IsClassified state cancel part.Fresh → MasksEqually directory asked state cancel
  pub acknowledges : (key : ℕ) → IsClassified state ack (part.Acked key) → MasksEqually directory asked state ack
  pub late : IsClassified state ack part.AckOf2xx → ((p : Person) → named_by (ack p).parsed (calls_in directory state).entries ≡ None) → MasksEqually directory asked state ack
  pub unnamed : IsClassified state bye part.Fresh → ((p : Person) → named_by (bye p).parsed (calls_in directory state).entries ≡ None) → MasksEqually directory asked state bye
  pub no_place : IsClassified state bye part.Full → MasksEqually directory asked state bye

-- it is public
pub record PublicMaskDifferently (directory : Directory) (asked : List Who) (state : RunState) : Type 0 where
  -- from a caller who opens a call and is not restricted
  pub opens : IsClassified state plain_opening part.Fresh → ((p : Person) → hides_caller directory state (plain_opening p).parsed ≡ false) →
      MasksDifferently directory asked state plain_opening
  -- and sends a re-INVITE in it
  pub asks : (e : Entry) (x : EstablishedLegs) (stage : Stage) (call : ℕ) →
      IsOfEstablished directory state plain_in_dialog Caller e x stage call → e.call.opening.restricted ≡ false →
      MasksDifferently directory asked state plain_in_dialog
  -- how a restricted callee names the called party in To, and where it redirects the call to
  pub named : (e : Entry) (x : OfferedAttempt) (branch : List ℕ) (key place : ℕ) → IsTargets directory state ok_named e x branch key place →
      MasksDifferently directory asked state ok_named
  pub moves : (e : Entry) (x : OfferedAttempt) (branch : List ℕ) (key place : ℕ) →
      IsTargets directory state redirect_response e x branch key place → MasksDifferently directory asked state redirect_response
  -- a person who is not marked in the History-Info
  pub history : IsClassified state invite_with_unmarked_entry part.Fresh → ((p : Person) → hides_caller directory state (invite_with_unmarked_entry p).parsed ≡ false) →
      MasksDifferently directory asked state invite_with_unmarked_entry

-- ---- in each state, for any tests of callers

abbrev pub RestrictedAreHidden : Type 0
RestrictedAreHidden = (directory : Directory) (asked : List Who) (state : RunState) → RestrictedMaskEqually directory asked state

abbrev pub UnshownAreHidden : Type 0
UnshownAreHidden = (directory : Directory) (asked : List Who) (state : RunState) → UnshownMaskEqually directory asked state

abbrev pub PublicAreShown : Type 0
PublicAreShown = (directory : Directory) (asked : List Who) (state : RunState) → PublicMaskDifferently directory asked state

-- ---- states in which they have such roles: as the first of a run; where the same INVITE was received; where the server sent that request; and where it sent none

-- the BYE of the server to Erin
abbrev pub server_bye : Message Start
server_bye = record {
  start = Request (codes "BYE") (codes "sip:erin@127.0.0.1:5071");
  lines =
      (codes "Via", codes "SIP/2.0/UDP 127.0.0.1:5060;branch=z9hG4bK0123456789abcdef-6") ∷
      (codes "From", codes "<sip:bob@far.example>;tag=0123456789abcdef-1") ∷
      (codes "To", party Erin) ∷
      (codes "Call-ID", codes "c1") ∷
      (codes "CSeq", codes "1 BYE") ∷ [];
  body = [];
}

abbrev pub state_after_action : Texts → TransactionOp → RunState
state_after_action loaded done = record (initial_state loaded) { actions = done ∷ [] }

pub record TheyOccur (loaded : Texts) : Type 0 where
  pub first : IsClassified (initial_state loaded) private_opening part.Fresh
  pub again : (p : Person) →
      class_of (head_of (message_in (plain_opening p).parsed))
      (live (state_after_action loaded (DidHear phone (message_in (plain_opening p).parsed) 0 part.Fresh)).actions) ≡ part.Repeat 0
  pub answers : IsClassified (state_after_action loaded (DidAsk phone server_bye 0)) ok_to_bye (part.Answer 0)
  pub stray : IsClassified (initial_state loaded) ok_to_invite part.Stray

abbrev pub EachOccurs : Type 0
EachOccurs = (loaded : Texts) → TheyOccur loaded

-- Message waiting in a run (RFC 3842; RFC 6665 §4.1.2, §4.2.2; 3GPP TS 24.606): the counts of each mailbox; whom the server notifies of it, and with which content; and the effect
-- of a SUBSCRIBE of a peer that is not trusted.
use Rattle.std.specs.Prelude.{◌≡◌, ◌⊎◌, ℕ, Bool, false, true, List, [], ◌∷◌, ◌++◌, Option, Some, None, codes, nat_le}
use Rattle.std.specs.Option.{option_to_list}
use Rattle.mmtel_compose.specs.ReceivedMessages.{MessageView}
use Rattle.mmtel_b2bua.specs.Operations as calls
use Rattle.mmtel_b2bua_theorems.specs.TracesOfTables.{out_by}
use Rattle.mmtel_call_theorems.specs.NoInjection.Emits.{Each}
use Rattle.mmtel_directory.specs.declared.directories.Directory.{Directory}
use Rattle.mmtel_directory.specs.declared.directories.WebDirectory.{WebDirectory}
use Rattle.mmtel_focus.specs.Operations as rooms
use Rattle.mmtel_http.specs.Requests.{request_of}
use Rattle.mmtel_records_in_force.specs.Texts.{Texts}
use Rattle.mmtel_message.specs.Faults.{is_method}
use Rattle.mmtel_message.specs.Message.{Message}
use Rattle.mmtel_message.specs.declared.messages.Start.{Start}
use Rattle.mmtel_mwi.specs.Boxes.{subscription_numbered}
use Rattle.mmtel_mwi.specs.Operations.{TableOp, Responds, Ends, Receives, Puts, Refreshes, Subscribes, Notifies, last_counts, table_after}
use Rattle.mmtel_mwi.specs.Notifies.{notify_request_in, remaining_seconds}
use Rattle.mmtel_mwi.specs.declared.counts.Counts.{Counts}
use Rattle.mmtel_mwi.specs.declared.subscriptions.Subscription.{Subscription}
use Rattle.mmtel_environment.specs.declared.events.Event.{Event}
use Rattle.mmtel_environment.specs.declared.events.Event.TheVariants as event
use Rattle.mmtel_transaction.specs.Operations.{TransactionOp, DidAck, DidAsk, DidBegin, DidFire, DidHear, DidReply, DidSettle}
use Rattle.mmtel_transaction.specs.declared.words.Emit.{Emit}
use Rattle.mmtel_transaction.specs.declared.words.Emit.TheVariants as emit
use Rattle.mmtel_transaction.specs.declared.words.TKey.{TKey}
use Rattle.mmtel_trust.specs.Members.{IsIn}
use Rattle.mmtel_trust.specs.Peers.{is_trusted}
use Rattle.mmtel_types.specs.declared.numbers.Account.{Account}
use Rattle.mmtel_types.specs.declared.numbers.Peer.{Peer}
use Rattle.mmtel_types.specs.declared.numbers.SubNo.{SubNo}
use Rattle.mmtel_web.specs.Handling.{KeeperOutcomeView}
use Rattle.mmtel_web.specs.Uploads.{counts_put_in}
use Rattle.mmtel_run_definitions.specs.OwnResponses.{StatusResponse}
use Rattle.mmtel_run_definitions.specs.Calls.{call_config, calls_after}
use Rattle.mmtel_run_definitions.specs.Events.{EventRecord, message_in}
use Rattle.mmtel_run_definitions.specs.Ownership.{conference_config}
use Rattle.mmtel_run_definitions.specs.Run.{state_after}
use Rattle.mmtel_run_definitions.specs.Subscriptions.{with_mailbox_op}
use Rattle.mmtel_run_definitions.specs.Transitions.{RunState, after_new_request, subscriptions_in, with_response}

-- ---- the counts of mailboxes

-- the upload to a mailbox that was accepted in an event: of a web request alone
abbrev pub mailbox_upload_at : WebDirectory → Event → KeeperOutcomeView → Option (Account × Counts)
mailbox_upload_at names (event.Datagram from at bytes) kept = None
mailbox_upload_at names (event.Web at bytes) kept = counts_put_in names (request_of bytes) kept
mailbox_upload_at names (event.Quiet at) kept = None

-- those that were accepted in all events, in their order
abbrev pub mailbox_uploads_of : WebDirectory → List EventRecord → List (Account × Counts)
mailbox_uploads_of names [] = []
mailbox_uploads_of names (one ∷ recorded) = option_to_list (mailbox_upload_at names one.event one.outcome) ++ mailbox_uploads_of names recorded

-- the counts that operations on mailboxes set, in their order
abbrev pub mailbox_uploads_in : List TableOp → List (Account × Counts)
mailbox_uploads_in [] = []
mailbox_uploads_in (Puts account counts ∷ earlier) = mailbox_uploads_in earlier ++ (account, counts) ∷ []
mailbox_uploads_in (Subscribes account leg until ∷ earlier) = mailbox_uploads_in earlier
mailbox_uploads_in (Refreshes sub until ∷ earlier) = mailbox_uploads_in earlier
mailbox_uploads_in (Receives sub request ∷ earlier) = mailbox_uploads_in earlier
mailbox_uploads_in (Notifies sub branch ∷ earlier) = mailbox_uploads_in earlier
mailbox_uploads_in (Ends sub ∷ earlier) = mailbox_uploads_in earlier
mailbox_uploads_in (Responds branch code ∷ earlier) = mailbox_uploads_in earlier

-- ---- whom the server notifies, and with which content

-- the subscriber is trusted
abbrev pub IsOfTrusted : Directory → Subscription → Type 0
IsOfTrusted directory subscription = is_trusted subscription.leg.dialogue.peer directory.peers.known ≡ true

-- this message, which is first sent to this peer at this moment, is the NOTIFY to a subscriber that one of these operations on mailboxes causes, with the newer and older ones
pub record IsNotify (directory : Directory) (ops : List TableOp) (peer : Peer) (message : Message Start) (at : ℕ) : Type 0 where
  pub newer : List TableOp
  pub older : List TableOp
  pub sub : SubNo
  pub branch : List ℕ
  pub done : ops ≡ newer ++ Notifies sub branch ∷ older
  -- the subscription is live then, and the peer is that of the subscriber, and is trusted
  pub subscription : Subscription
  pub active : subscription_numbered sub (table_after older) ≡ Some subscription
  pub to : peer ≡ subscription.leg.dialogue.peer
  pub trusted : IsOfTrusted directory subscription
  -- it is in the subscription's dialog, with the summary of the last counts of its mailbox before
  pub last : Bool
  pub is : message ≡ notify_request_in directory.sip subscription.leg.dialogue branch last (remaining_seconds subscription.until at) (last_counts older subscription.account)

-- one of these operations on the calls outputs it
pub record IsOfCalls (directory : Directory) (ops : List calls.TableOp) (sent : Emit) : Type 0 where
  pub newer : List calls.TableOp
  pub older : List calls.TableOp
  pub operation : calls.TableOp
  pub done : ops ≡ newer ++ operation ∷ older
  pub out : IsIn sent (out_by (call_config directory) operation (calls_after directory older))

-- one of these operations on the conferences does
pub record IsOfConferences (directory : Directory) (ops : List rooms.TableOp) (sent : Emit) : Type 0 where
  pub newer : List rooms.TableOp
  pub older : List rooms.TableOp
  pub operation : rooms.TableOp
  pub done : ops ≡ newer ++ operation ∷ older
  pub out : IsIn sent (rooms.effects_after (conference_config directory) older operation).output.out

-- a request of the server's own is of a call, of a conference, or such a NOTIFY
abbrev pub IsOfOwner : Directory → List calls.TableOp → List rooms.TableOp → List TableOp → Peer → Message Start → (at : ℕ) → Type 0
IsOfOwner directory on_calls on_rooms on_mailboxes peer message at =
    IsOfCalls directory on_calls (emit.Ask peer message) ⊎ (IsOfConferences directory on_rooms (emit.Ask peer message) ⊎ IsNotify directory on_mailboxes peer message at)

-- this holds for each operation on the transactions that sends one; its transaction retransmits it to the same peer
abbrev pub RequestIsOfOwner : Directory → List calls.TableOp → List rooms.TableOp → List TableOp → TransactionOp → Type 0
RequestIsOfOwner directory on_calls on_rooms on_mailboxes (DidBegin step) = Unit {0}
RequestIsOfOwner directory on_calls on_rooms on_mailboxes (DidHear peer message at taken) = Unit {0}
RequestIsOfOwner directory on_calls on_rooms on_mailboxes (DidAsk peer message at) = IsOfOwner directory on_calls on_rooms on_mailboxes peer message at
RequestIsOfOwner directory on_calls on_rooms on_mailboxes (DidReply key message at) = Unit {0}
RequestIsOfOwner directory on_calls on_rooms on_mailboxes (DidAck key message) = Unit {0}
RequestIsOfOwner directory on_calls on_rooms on_mailboxes (DidFire key) = Unit {0}
RequestIsOfOwner directory on_calls on_rooms on_mailboxes (DidSettle key own) = Unit {0}

-- ---- of a run

pub record RunNotifiesSubscribers (directory : Directory) (token : List ℕ) (loaded : Texts) (fuel : ℕ) (recorded : List EventRecord) : Type 0 where
  -- the counts of the mailboxes are those of its accepted uploads, in their order
  pub puts : mailbox_uploads_in (state_after directory token loaded fuel recorded).mailbox_ops ≡ mailbox_uploads_of directory.names recorded
  -- each subscriber is trusted
  pub subscribers : Each (IsOfTrusted directory) (subscriptions_in (state_after directory token loaded fuel recorded)).live
  -- each request of the server's own is of a call, of a conference, or a NOTIFY to the trusted peer of a live subscription
  pub asks : Each (RequestIsOfOwner directory (state_after directory token loaded fuel recorded).call_ops (state_after directory token loaded fuel recorded).conference_ops
      (state_after directory token loaded fuel recorded).mailbox_ops) (state_after directory token loaded fuel recorded).actions

-- ---- a SUBSCRIBE of a peer that is not trusted

-- in the dialog of a subscription its CSeq number is the last that was received, and otherwise nothing was done
abbrev pub IsReceivedAlone : MessageView → (before after : RunState) → Type 0
IsReceivedAlone message before after = (after ≡ before) ⊎ ((sub : SubNo) × (after ≡ with_mailbox_op (Receives sub (message_in message.parsed)) before))

-- it is refused, with no 2xx, and that is all
pub record IsRefused (directory : Directory) (token : List ℕ) (at : ℕ) (key : TKey) (message : MessageView) (before after : RunState) : Type 0 where
  pub response : StatusResponse
  pub code : nat_le 300 response.code ≡ true
  pub received : RunState
  pub alone : IsReceivedAlone message before received
  pub is : after ≡ with_response directory token at key message response received

-- this holds in every state
abbrev pub UntrustedAreRefused : Type 0
UntrustedAreRefused = (directory : Directory) (token : List ℕ) (at : ℕ) (key : TKey) (message : MessageView) (state : RunState) →
    is_method (codes "SUBSCRIBE") message.parsed.start ≡ true →
    message.parsed.trusted ≡ false → IsRefused directory token at key message state (after_new_request directory token at key message state)

-- ---- of every run

pub record SubscribersAreNotified : Type 0 where
  pub notified : (directory : Directory) (token : List ℕ) (loaded : Texts) (fuel : ℕ) (recorded : List EventRecord) → RunNotifiesSubscribers directory token loaded fuel recorded
  pub refused : UntrustedAreRefused

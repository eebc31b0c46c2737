-- Message waiting in a run (RFC 6665 §4.1, §4.2; RFC 3842; 3GPP TS 24.606): the effects of a SUBSCRIBE, of a request in the dialog of a subscription, of an upload to a mailbox,
-- of the expiration of a subscription, and of the responses to its NOTIFYs.
use Rattle.std.specs.Prelude.{ℕ, ◌==◌, ◌-◌, Bool, true, false, List, [], ◌∷◌, codes, decimal, Option, Some, None, Ok, Err, if◌then◌else◌}
use Rattle.std.specs.declared.result.Result.{Result}
use Rattle.mmtel_compose.specs.ReceivedMessages.{MessageView}
use Rattle.mmtel_directory.specs.declared.directories.Directory.{Directory}
use Rattle.mmtel_leg.specs.Dialogues.{request_uri}
use Rattle.mmtel_leg.specs.declared.dialogues.DialogueFault.{DialogueFault}
use Rattle.mmtel_lex.specs.Reading.{uri_of}
use Rattle.mmtel_message.specs.Faults.{is_method}
use Rattle.mmtel_message.specs.Message.{Line, Message}
use Rattle.mmtel_message.specs.declared.messages.Start.{Start}
use Rattle.mmtel_mwi.specs.Boxes.{is_full, next_sub, notify_request, peer_of, request_check, set_by, subscribers_of}
use Rattle.mmtel_mwi.specs.Operations.{TableOp, Responds, Ends, Receives, Puts, Refreshes, Subscribes, Notifies}
use Rattle.mmtel_mwi.specs.Subscribing.{SubscribeRequestView, granted_seconds, refusal}
use Rattle.mmtel_mwi.specs.declared.counts.Counts.{Counts}
use Rattle.mmtel_base.specs.Chain.{◌>>=◌}
use Rattle.mmtel_transaction.specs.declared.words.Emit.{Emit}
use Rattle.mmtel_transaction.specs.declared.words.Emit.TheVariants as emit
use Rattle.mmtel_transaction.specs.declared.words.TKey.{TKey}
use Rattle.mmtel_trust.specs.Accounts.{account_of}
use Rattle.mmtel_trust.specs.Asserted.{asserted, or_no_uri}
use Rattle.mmtel_trust.specs.ParsedMessage.{ParsedMessage, account_from}
use Rattle.mmtel_types.specs.declared.numbers.Account.{Account}
use Rattle.mmtel_types.specs.declared.numbers.Peer.{Peer}
use Rattle.mmtel_types.specs.declared.numbers.SubNo.{SubNo}
use Rattle.mmtel_run_definitions.specs.OwnResponses.{StatusResponse, plain_response, response_to, response_with_allow}
use Rattle.mmtel_run_definitions.specs.Deadlines.{OfSubscription}
use Rattle.mmtel_run_definitions.specs.Events.{message_in}
use Rattle.mmtel_run_definitions.specs.RunState.{RunState, next_tag, subscriptions_in, with_draws, with_emits, with_response, with_timer}
use Rattle.mmtel_run_definitions.specs.Records.{until_of}
use Rattle.mmtel_run_definitions.specs.Ownership.{leg_by}

abbrev pub with_mailbox_op : TableOp → RunState → RunState
with_mailbox_op op state = record state { mailbox_ops = op ∷ state.mailbox_ops }

-- ---- a NOTIFY

abbrev pub notify_emits : Peer → Option (Message Start) → List Emit
notify_emits peer None = []
notify_emits peer (Some message) = emit.Ask peer message ∷ []

-- to the peer of the subscriber, with a branch that is drawn; nothing, where the subscription is not live
abbrev pub after_notify_to_peer : Directory → (token : List ℕ) → ℕ → SubNo → (last : Bool) → Option Peer → RunState → RunState
after_notify_to_peer directory token at sub last None state = state
after_notify_to_peer directory token at sub last (Some peer) state =
    with_emits at (notify_emits peer (notify_request directory.sip sub last (next_tag token state) at (subscriptions_in state)))
    (with_mailbox_op (Notifies sub (next_tag token state)) (with_draws 1 state))

abbrev pub after_notify : Directory → (token : List ℕ) → ℕ → SubNo → (last : Bool) → RunState → RunState
after_notify directory token at sub last state = after_notify_to_peer directory token at sub last (peer_of sub (subscriptions_in state)) state

-- the last NOTIFY ends the subscription
abbrev pub after_last_notify : Directory → (token : List ℕ) → ℕ → SubNo → RunState → RunState
after_last_notify directory token at sub state = with_mailbox_op (Ends sub) (after_notify directory token at sub true state)

-- ---- a SUBSCRIBE

abbrev pub allow_events : Line
allow_events = (codes "Allow-Events", codes "message-summary")

-- the response to a SUBSCRIBE that is refused; 489 lists the known event (RFC 6665 §8.2.2, §8.3.2)
abbrev pub refusal_response : ℕ → StatusResponse
refusal_response code = if code == 489 then record { code = 489; lines = allow_events ∷ [] } else plain_response code

-- 200, with the seconds for which it is accepted (RFC 6665 §4.2.1.1)
abbrev pub grant_response : (seconds : ℕ) → StatusResponse
grant_response seconds = record { code = 200; lines = (codes "Expires", decimal seconds) ∷ [] }

-- the account of the asserted identity of its sender: that of the sip identity, or else of the tel identity. A served user that another names is not used
abbrev pub sender_of : Directory → ParsedMessage → Option Account
sender_of directory m = account_from directory.names.accounts (asserted m.trusted m.lines) None

-- the account whose mailbox its Request-URI names
abbrev pub named_mailbox : Directory → ParsedMessage → Option Account
named_mailbox directory m = or_no_uri (uri_of (request_uri m.start)) >>= account_of directory.names.accounts

abbrev pub subscribe_request_of : Directory → (within : Bool) → ParsedMessage → SubscribeRequestView
subscribe_request_of directory within m = record {
  trusted = m.trusted;
  in_dialog = within;
  sender = sender_of directory m;
  mailbox = named_mailbox directory m;
  event = m.event;
  has_contact = m.one_contact;
}

-- the timer for the expiration of a subscription is armed for this moment, with the number of the SUBSCRIBE that set it: after the other timers that are armed in the step
abbrev pub with_expiry_timer : SubNo → (set : Option ℕ) → (until : ℕ) → RunState → RunState
with_expiry_timer sub None until state = state
with_expiry_timer sub (Some set) until state = with_timer (record { timer = OfSubscription sub set; at = until; step = state.steps - 1 }) state

-- the subscription is active for so many seconds from now: its subscriber gets a NOTIFY, the last one where the number is 0
abbrev pub after_activation : Directory → (token : List ℕ) → ℕ → SubNo → (seconds : ℕ) → RunState → RunState
after_activation directory token at sub seconds state =
    if seconds == 0 then after_last_notify directory token at sub state
    else with_expiry_timer sub (set_by sub (subscriptions_in state)) (until_of at seconds) (after_notify directory token at sub false state)

-- a subscription is created: its tag is drawn, 200 is sent, and then the NOTIFY
abbrev pub after_subscription : Directory → (token : List ℕ) → ℕ → TKey → MessageView → Account → (seconds : ℕ) → RunState → RunState
after_subscription directory token at key message account seconds state =
    after_activation directory token at (next_sub (subscriptions_in state)) seconds
    (with_emits at (emit.Reply key (response_to directory.sip (next_tag token state) message (grant_response seconds)) ∷ [])
    (with_mailbox_op (Subscribes account (leg_by (next_tag token state) message) (until_of at seconds)) (with_draws 1 state)))

-- unless as many live as may
abbrev pub after_subscription_for : Directory → (token : List ℕ) → ℕ → TKey → MessageView → Option Account → RunState → RunState
after_subscription_for directory token at key message None state = with_response directory token at key message (plain_response 403) state
after_subscription_for directory token at key message (Some account) state =
    if is_full (subscriptions_in state) then with_response directory token at key message (plain_response 503) state
    else after_subscription directory token at key message account (granted_seconds message.parsed.expires) state

abbrev pub after_subscribe_by : Directory → (token : List ℕ) → ℕ → TKey → MessageView → Option ℕ → RunState → RunState
after_subscribe_by directory token at key message None state = after_subscription_for directory token at key message (named_mailbox directory message.parsed) state
after_subscribe_by directory token at key message (Some code) state = with_response directory token at key message (refusal_response code) state

abbrev pub after_subscribe : Directory → (token : List ℕ) → ℕ → TKey → MessageView → RunState → RunState
after_subscribe directory token at key message state = after_subscribe_by directory token at key message (refusal (subscribe_request_of directory false message.parsed)) state

-- ---- a request in the dialog of a subscription

-- a SUBSCRIBE sets its expiration anew
abbrev pub after_refresh_by : Directory → (token : List ℕ) → ℕ → TKey → MessageView → SubNo → Option ℕ → RunState → RunState
after_refresh_by directory token at key message sub None state =
    after_activation directory token at sub (granted_seconds message.parsed.expires)
    (with_response directory token at key message (grant_response (granted_seconds message.parsed.expires))
    (with_mailbox_op (Refreshes sub (until_of at (granted_seconds message.parsed.expires))) state))
after_refresh_by directory token at key message sub (Some code) state = with_response directory token at key message (refusal_response code) state

-- any other: 200 for OPTIONS with the allowed methods, 403 for REFER, and else 481
abbrev pub other_response : Directory → ParsedMessage → StatusResponse
other_response directory m =
    if is_method (codes "OPTIONS") m.start then response_with_allow directory 200
    else if is_method (codes "REFER") m.start then plain_response 403
    else plain_response 481

abbrev pub after_request_in_order : Directory → (token : List ℕ) → ℕ → TKey → MessageView → SubNo → RunState → RunState
after_request_in_order directory token at key message sub state =
    if is_method (codes "SUBSCRIBE") message.parsed.start
    then after_refresh_by directory token at key message sub (refusal (subscribe_request_of directory true message.parsed)) state
    else with_response directory token at key message (other_response directory message.parsed) state

-- a CSeq number that is too low is refused, and changes nothing; each that is accepted raises the last one, also where the request is refused for another cause
abbrev pub after_checked_request : Directory → (token : List ℕ) → ℕ → TKey → MessageView → SubNo → Result (Unit {0}) DialogueFault → RunState → RunState
after_checked_request directory token at key message sub (Err fault) state = with_response directory token at key message (plain_response 500) state
after_checked_request directory token at key message sub (Ok done) state =
    after_request_in_order directory token at key message sub (with_mailbox_op (Receives sub (message_in message.parsed)) state)

abbrev pub after_subscription_request : Directory → (token : List ℕ) → ℕ → TKey → MessageView → SubNo → RunState → RunState
after_subscription_request directory token at key message sub state =
    after_checked_request directory token at key message sub (request_check sub (message_in message.parsed) (subscriptions_in state)) state

-- ---- an upload that was accepted: each subscriber gets a NOTIFY, in the order in which they subscribed

abbrev pub after_notify_to_each : Directory → (token : List ℕ) → ℕ → List SubNo → RunState → RunState
after_notify_to_each directory token at [] state = state
after_notify_to_each directory token at (sub ∷ subs) state = after_notify_to_each directory token at subs (after_notify directory token at sub false state)

abbrev pub after_mailbox_upload : Directory → (token : List ℕ) → ℕ → Option (Account × Counts) → RunState → RunState
after_mailbox_upload directory token at None state = state
after_mailbox_upload directory token at (Some put) state =
    after_notify_to_each directory token at (subscribers_of put.0 (subscriptions_in state)) (with_mailbox_op (Puts put.0 put.1) state)

-- ---- a subscription expires, unless a later SUBSCRIBE set another moment

abbrev pub is_last_set : (set : ℕ) → Option ℕ → Bool
is_last_set set None = false
is_last_set set (Some last) = set == last

abbrev pub after_expiry : Directory → (token : List ℕ) → ℕ → SubNo → (set : ℕ) → RunState → RunState
after_expiry directory token at sub set state = if is_last_set set (set_by sub (subscriptions_in state)) then after_last_notify directory token at sub state else state

-- ---- a NOTIFY of this branch has a response; 408 represents none

abbrev pub after_notify_response : (branch : Option (List ℕ)) → (code : ℕ) → RunState → RunState
after_notify_response None code state = state
after_notify_response (Some branch) code state = with_mailbox_op (Responds branch code) state

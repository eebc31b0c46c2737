-- Mailboxes and who subscribes to them (RFC 3842 §3, RFC 6665 §4.2): the table of the counts that were uploaded for each mailbox, of the active subscriptions, in the order in
-- which they were made, and of the NOTIFYs that have no final response; and the operations on it.
use Rattle.std.specs.Prelude.{ℕ, ◌+◌, ◌==◌, nat_le, Bool, true, false, List, [], ◌∷◌, ◌++◌, find, flat_map, length, Option, Some, None, is_some}
use Rattle.std.specs.Prelude.{if◌then◌else◌, codes}
use Rattle.std.specs.FinMap as finite
use Rattle.std.specs.Option.{option_map}
use Rattle.std.specs.Ordering.{nat_cmp}
use Rattle.std.specs.Str.{bytes_eq}
use Rattle.std.specs.declared.result.Result.{Result}
use Rattle.std.specs.declared.result.Result.TheVariants.{Ok}
use Rattle.mmtel_leg.specs.Dialogues.{after_receiving, after_request, receive_result}
use Rattle.mmtel_leg.specs.Legs.{Leg, with_dialogue}
use Rattle.mmtel_leg.specs.Names.{has_name}
use Rattle.mmtel_leg.specs.declared.dialogues.DialogueFault.{DialogueFault}
use Rattle.mmtel_leg.specs.declared.dialogues.InFlight.TheVariants as in_flight
use Rattle.mmtel_leg.specs.declared.legs.Ended.{Ended}
use Rattle.mmtel_message.specs.Message.{Message}
use Rattle.mmtel_message.specs.declared.messages.Start.{Start}
use Rattle.mmtel_base.specs.Numbers.{next_number}
use Rattle.mmtel_types.specs.declared.addrs.Addr.{Addr}
use Rattle.mmtel_types.specs.declared.numbers.Account.{Account}
use Rattle.mmtel_types.specs.declared.numbers.Peer.{Peer}
use Rattle.mmtel_mwi.specs.Counting.{no_messages}
use Rattle.mmtel_mwi.specs.Notifies.{notify_request_in, remaining_seconds}
use Rattle.mmtel_mwi.specs.declared.boxes.SubFault.{SubFault}
use Rattle.mmtel_mwi.specs.declared.boxes.SubFault.TheVariants.{Full, NoMemory}
use Rattle.mmtel_mwi.specs.declared.counts.Counts.{Counts}
use Rattle.mmtel_types.specs.declared.numbers.SubNo.{SubNo}
use Rattle.mmtel_mwi.specs.declared.subscriptions.PendingNotify.{PendingNotify}
use Rattle.mmtel_mwi.specs.declared.subscriptions.Subscription.{Subscription}

-- by account number; for a mailbox without an entry nothing was uploaded
abbrev pub Mailboxes : Type 0
Mailboxes = finite.FinMap nat_cmp Counts

pub record Table : Type 0 where
  pub mailboxes : Mailboxes
  -- how many subscriptions were made, and the active ones, in the order in which they were made
  pub made : ℕ
  pub live : List Subscription
  -- the NOTIFYs without a final response, in the order in which they were made
  pub pending : List PendingNotify

-- nothing was uploaded, and nobody has subscribed
abbrev pub empty_table : Table
empty_table = record { mailboxes = finite.empty; made = 0; live = []; pending = [] }

-- ---- the counts of a mailbox

abbrev pub or_zero : Option Counts → Counts
or_zero None = no_messages
or_zero (Some counts) = counts

abbrev pub counts_in : Account → Table → Counts
counts_in account table = or_zero (finite.get table.mailboxes account.0)

abbrev pub with_counts : Account → Counts → Table → Table
with_counts account counts table = record table { mailboxes = finite.insert table.mailboxes account.0 counts }

-- ---- the first item of a list for which a predicate holds

module _ {A : Type 0} where
  -- it is replaced by another, and the others are unchanged
  abbrev pub changed : (A → Bool) → (A → A) → List A → List A
  changed is change [] = []
  changed is change (x ∷ xs) = if is x then change x ∷ xs else x ∷ changed is change xs

  -- the list without it
  abbrev pub without : (A → Bool) → List A → List A
  without is [] = []
  without is (x ∷ xs) = if is x then xs else x ∷ without is xs

-- ---- a subscription by its number

abbrev pub is_numbered : SubNo → Subscription → Bool
is_numbered sub s = s.number.0 == sub.0

abbrev pub subscription_numbered : SubNo → Table → Option Subscription
subscription_numbered sub table = find (is_numbered sub) table.live

abbrev pub is_live : SubNo → Table → Bool
is_live sub table = is_some (subscription_numbered sub table)

abbrev pub peer_of : SubNo → Table → Option Peer
peer_of sub table = option_map (λ (s : Subscription). s.leg.dialogue.peer) (subscription_numbered sub table)

-- the number of the SUBSCRIBE that set until when the subscription is active, counted from 1 within the subscription
abbrev pub set_by : SubNo → Table → Option ℕ
set_by sub table = option_map (λ (s : Subscription). s.set) (subscription_numbered sub table)

-- the one whose dialog has this name (RFC 3261 §12)
abbrev pub is_named : (call_id local remote : List ℕ) → Subscription → Bool
is_named call_id local remote s = has_name call_id local remote s.leg.dialogue

abbrev pub number_with_dialog : (call_id local remote : List ℕ) → Table → Option SubNo
number_with_dialog call_id local remote table = option_map (λ (s : Subscription). s.number) (find (is_named call_id local remote) table.live)

abbrev pub number_if : Account → Subscription → List SubNo
number_if account s = if s.account.0 == account.0 then s.number ∷ [] else []

-- those to the mailbox of the account, in the order in which they were made
abbrev pub subscribers_in : Account → List Subscription → List SubNo
subscribers_in account live = flat_map (number_if account) live

abbrev pub subscribers_of : Account → Table → List SubNo
subscribers_of account table = subscribers_in account table.live

-- ---- a subscription is made, and refreshed

-- the maximum number is active
abbrev pub is_full : Table → Bool
is_full table = nat_le 4096 (length table.live)

-- why no subscription is made: the maximum is reached, or memory ran out
abbrev pub is_full_fault : SubFault → Bool
is_full_fault Full = true
is_full_fault NoMemory = false

abbrev pub next_sub : Table → SubNo
next_sub table = record { 0 = table.made + 1 }

-- the first SUBSCRIBE sets until when it is active
abbrev pub subscription : SubNo → Account → Leg → (until : ℕ) → Subscription
subscription sub account leg until = record { number = sub; account = account; leg = leg; until = until; set = 1 }

abbrev pub with_subscription : Account → Leg → (until : ℕ) → Table → Table
with_subscription account leg until table = record table {
  made = table.made + 1;
  live = table.live ++ subscription (next_sub table) account leg until ∷ [];
}

-- a later one sets that anew
abbrev pub renewed_subscription : (until : ℕ) → Subscription → Subscription
renewed_subscription until s = record s { until = until; set = next_number s.set }

abbrev pub table_after_refresh : SubNo → (until : ℕ) → Table → Table
table_after_refresh sub until table = record table { live = changed (is_numbered sub) (renewed_subscription until) table.live }

-- ---- a request of a subscriber is received

abbrev pub request_check_of : Message Start → Option Subscription → Result (Unit {0}) DialogueFault
request_check_of m None = Ok tt
request_check_of m (Some s) = receive_result s.leg.dialogue m in_flight.None

abbrev pub request_check : SubNo → Message Start → Table → Result (Unit {0}) DialogueFault
request_check sub m table = request_check_of m (subscription_numbered sub table)

abbrev pub subscription_after_request : Message Start → Subscription → Subscription
subscription_after_request m s = record s { leg = with_dialogue s.leg (after_receiving s.leg.dialogue m) }

abbrev pub table_after_request : SubNo → Message Start → Table → Table
table_after_request sub m table = record table { live = changed (is_numbered sub) (subscription_after_request m) table.live }

-- ---- a subscriber is notified

abbrev pub notify_request_of : Addr → (last : Bool) → (branch : List ℕ) → (now : ℕ) → Table → Subscription → Message Start
notify_request_of sip last branch now table s = notify_request_in sip s.leg.dialogue branch last (remaining_seconds s.until now) (counts_in s.account table)

-- the NOTIFY; none where the subscription is not active
abbrev pub notify_request : Addr → SubNo → (last : Bool) → (branch : List ℕ) → (now : ℕ) → Table → Option (Message Start)
notify_request sip sub last branch now table = option_map (notify_request_of sip last branch now table) (subscription_numbered sub table)

abbrev pub subscription_after_notify : Subscription → Subscription
subscription_after_notify s = record s { leg = with_dialogue s.leg (after_request s.leg.dialogue (codes "NOTIFY")) }

abbrev pub pending_of : SubNo → (branch : List ℕ) → Bool → List PendingNotify
pending_of sub branch false = []
pending_of sub branch true = record { branch = branch; sub = sub } ∷ []

-- its response is waited for
abbrev pub table_after_notify : SubNo → (branch : List ℕ) → Table → Table
table_after_notify sub branch table =
    record table { live = changed (is_numbered sub) subscription_after_notify table.live; pending = table.pending ++ pending_of sub branch (is_live sub table) }

-- ---- a subscription ends

abbrev pub table_after_end : SubNo → Table → Table
table_after_end sub table = record table { live = without (is_numbered sub) table.live }

-- what remains of its leg
abbrev pub ended_leg : Subscription → Ended
ended_leg s = record { meter = s.leg.meter }

abbrev pub ended_leg_of : SubNo → Table → Option Ended
ended_leg_of sub table = option_map ended_leg (subscription_numbered sub table)

-- ---- a response to a NOTIFY (RFC 6665 §4.2.2)

abbrev pub has_branch : (branch : List ℕ) → PendingNotify → Bool
has_branch branch asked = bytes_eq asked.branch branch

-- the subscription whose NOTIFY with this branch has no final response
abbrev pub pending_subscription : (branch : List ℕ) → Table → Option SubNo
pending_subscription branch table = option_map (λ (a : PendingNotify). a.sub) (find (has_branch branch) table.pending)

-- its response is waited for no more
abbrev pub without_pending : (branch : List ℕ) → Table → Table
without_pending branch table = record table { pending = without (has_branch branch) table.pending }

-- the subscriber refuses further NOTIFYs
abbrev pub is_refusal : (code : ℕ) → Bool
is_refusal code = nat_le 300 code

abbrev pub is_final : (code : ℕ) → Bool
is_final code = nat_le 200 code

abbrev pub table_after_end_if : Option SubNo → Table → Table
table_after_end_if None table = table
table_after_end_if (Some sub) table = table_after_end sub table

abbrev pub ended_leg_if : Option SubNo → Table → Option Ended
ended_leg_if None table = None
ended_leg_if (Some sub) table = ended_leg_of sub table

-- the subscription that a response with this status ends
abbrev pub subscription_refused_by : (branch : List ℕ) → (code : ℕ) → Table → Option SubNo
subscription_refused_by branch code table = if is_refusal code then pending_subscription branch table else None

-- a final response, or a timeout, for which 408 stands (RFC 3261 §8.1.3.1)
abbrev pub table_after_response : (branch : List ℕ) → (code : ℕ) → Table → Table
table_after_response branch code table = if is_final code then without_pending branch (table_after_end_if (subscription_refused_by branch code table) table) else table

-- ---- the model of `Boxes`

pub record BoxesView : Type 0 where
  pub sip : Addr
  pub table : Table

abbrev pub with_table : BoxesView → Table → BoxesView
with_table boxes table = record boxes { table = table }

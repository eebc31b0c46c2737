-- All operations on mailboxes and subscriptions: the table after them is a function of their list alone, the newest first; and the counts that were uploaded last for a mailbox.
use Rattle.std.specs.Prelude.{ℕ, ◌==◌, ◌<◌, ◌≤◌, List, [], ◌∷◌, Option, Some, None, if◌then◌else◌, map}
use Rattle.mmtel_leg.specs.Legs.{Leg}
use Rattle.mmtel_message.specs.Message.{Message}
use Rattle.mmtel_message.specs.declared.messages.Start.{Start}
use Rattle.mmtel_types.specs.declared.numbers.Account.{Account}
use Rattle.mmtel_mwi.specs.Boxes.{Table, empty_table, table_after_end, table_after_notify, table_after_refresh}
use Rattle.mmtel_mwi.specs.Boxes.{table_after_request, table_after_response, with_counts, with_subscription}
use Rattle.mmtel_mwi.specs.Counting.{no_messages}
use Rattle.mmtel_mwi.specs.declared.counts.Counts.{Counts}
use Rattle.mmtel_types.specs.declared.numbers.SubNo.{SubNo}
use Rattle.mmtel_mwi.specs.declared.subscriptions.Subscription.{Subscription}

pub data TableOp : Type 0 where
  -- these counts were uploaded for the mailbox of an account
  Puts : (account : Account) → (counts : Counts) → TableOp
  -- a subscription to it was made
  Subscribes : (account : Account) → (leg : Leg) → (until : ℕ) → TableOp
  -- a subscription was refreshed
  Refreshes : (sub : SubNo) → (until : ℕ) → TableOp
  -- a request of its subscriber was received
  Receives : (sub : SubNo) → (request : Message Start) → TableOp
  -- its subscriber was sent a NOTIFY with this branch
  Notifies : (sub : SubNo) → (branch : List ℕ) → TableOp
  -- it ended
  Ends : (sub : SubNo) → TableOp
  -- the NOTIFY of this branch got a response
  Responds : (branch : List ℕ) → (code : ℕ) → TableOp

abbrev pub table_after_op : TableOp → Table → Table
table_after_op (Puts account counts) table = with_counts account counts table
table_after_op (Subscribes account leg until) table = with_subscription account leg until table
table_after_op (Refreshes sub until) table = table_after_refresh sub until table
table_after_op (Receives sub request) table = table_after_request sub request table
table_after_op (Notifies sub branch) table = table_after_notify sub branch table
table_after_op (Ends sub) table = table_after_end sub table
table_after_op (Responds branch code) table = table_after_response branch code table

abbrev pub table_after : List TableOp → Table
table_after [] = empty_table
table_after (op ∷ ops) = table_after_op op (table_after ops)

-- ---- the counts that were uploaded last for a mailbox

abbrev pub counts_uploaded : TableOp → Account → Option Counts
counts_uploaded (Puts a counts) account = if account.0 == a.0 then Some counts else None
counts_uploaded (Subscribes a leg until) account = None
counts_uploaded (Refreshes sub until) account = None
counts_uploaded (Receives sub request) account = None
counts_uploaded (Notifies sub branch) account = None
counts_uploaded (Ends sub) account = None
counts_uploaded (Responds branch code) account = None

abbrev pub uploaded_or : Option Counts → Counts → Counts
uploaded_or None before = before
uploaded_or (Some counts) before = counts

-- of the newest of these operations that uploads any for it
abbrev pub last_counts : List TableOp → Account → Counts
last_counts [] account = no_messages
last_counts (op ∷ ops) account = uploaded_or (counts_uploaded op account) (last_counts ops account)

-- ---- who subscribes

-- each has a number above that of the one before it, the first above low, and none is above high
abbrev pub AreNumberedTo : (high low : ℕ) → List Subscription → Type 0
AreNumberedTo high low [] = low ≤ high
AreNumberedTo high low (s ∷ live) = (low < s.number.0) × AreNumberedTo high s.number.0 live

-- a subscription by its number and its mailbox
abbrev pub number_and_account : Subscription → ℕ × ℕ
number_and_account s = (s.number.0, s.account.0)

-- those of the active ones
abbrev pub live_numbers_and_accounts : Table → List (ℕ × ℕ)
live_numbers_and_accounts table = map number_and_account table.live

-- What the code does to its table: a change of one transaction, and the value behind a reference to one.
use Rattle.std.specs.Prelude.{◌≡◌, ℕ, ◌==◌, if◌then◌else◌, List, [], ◌∷◌, length, Some}
use Rattle.std.specs.Borrow.{Bor}
use Rattle.mmtel_types.specs.declared.numbers.Peer.{Peer}
use Rattle.mmtel_message.specs.Message.{Message}
use Rattle.mmtel_message.specs.declared.messages.Start.{Start}
use Rattle.mmtel_transaction.specs.Heads.{head_of}
use Rattle.mmtel_transaction.specs.Changes.{after_timer, after_reply, after_response, after_failure_ack, with_kept_ack, after_settling}
use Rattle.mmtel_transaction.specs.Operations.{TransactionOp, DidHear, openings, live, is_live}
use Rattle.mmtel_transaction.specs.Results.{DueEntryView, class_of, class_result}
use Rattle.mmtel_transaction.specs.Represents.{Represents}
use Rattle.mmtel_transaction.specs.declared.entries.Entry.{Entry}
use Rattle.mmtel_transaction.specs.declared.entries.Change.{Change}
use Rattle.mmtel_transaction.specs.declared.entries.Change.TheVariants as change
use Rattle.mmtel_transaction.specs.declared.message_class.MessageClass.{MessageClass}
use Rattle.mmtel_transaction.specs.declared.words.Heard.{Heard}
use Rattle.mmtel_transaction.specs.declared.tables.DueEntry.{DueEntry}
use Rattle.mmtel_transaction.specs.declared.transactions.Transactions.{Transactions}

-- the transaction of a key changed, and removed where the change ends it
abbrev pub table_after_change : ℕ → (Entry → Entry) → List Entry → List Entry
table_after_change key f [] = []
table_after_change key f (e ∷ es) = if e.key == key then (if is_live (f e) then f e ∷ es else es) else e ∷ table_after_change key f es

-- the effect of a change on a transaction
abbrev pub change_effect : Change → (Entry → Entry)
change_effect (change.Fire step) = after_timer step
change_effect (change.Reply step order status text to_tag now) = after_reply step order status text to_tag now
change_effect (change.Response step status now) = after_response step status now
change_effect (change.Ack step now) = after_failure_ack step now
change_effect (change.KeepAck text) = with_kept_ack text
change_effect (change.Settle own) = after_settling own

-- what a reference points to
abbrev pub now_of : Bor Entry → Entry
now_of e = e.now

-- a deadline that was found
abbrev pub due_entry_view : DueEntry → DueEntryView
due_entry_view f = record { at = f.at; entry = f.transaction.now }

-- whatever operations they represented that give the message this class, they represent those and its receipt, and this is the result
abbrev pub HearsAs : Transactions → Transactions → Peer → Message Start → ℕ → MessageClass → Heard → List TransactionOp → Type 0
HearsAs old new p m now taken said h = Represents old h → taken ≡ class_of (head_of m) (live h) →
    Represents new (DidHear p m now taken ∷ h) × (Some said ≡ class_result (length (openings h)) (live h) p m taken)

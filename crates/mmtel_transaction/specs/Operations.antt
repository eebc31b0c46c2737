-- The operations that were called on the transactions, and which transactions they opened, changed and left live (RFC 3261 §17; RFC 6026).
use Rattle.std.specs.Prelude.{ℕ, ◌+◌, ◌-◌, ◌^◌, min, Bool, not, nat_lt, if◌then◌else◌, List, [], ◌∷◌, ◌++◌, length, filter, map, Option}
use Rattle.mmtel_types.specs.declared.numbers.Peer.{Peer}
use Rattle.mmtel_message.specs.Message.{Message}
use Rattle.mmtel_message.specs.Texts.{message_text}
use Rattle.mmtel_message.specs.declared.messages.Start.{Start}
use Rattle.mmtel_transaction.specs.Heads.{head_of}
use Rattle.mmtel_transaction.specs.Changes.{after_timer, after_any_reply, after_response, after_failure_ack, after_ack_2xx}
use Rattle.mmtel_transaction.specs.Changes.{with_kept_ack, after_settling, change_of_key, new_server_entry, new_client_entry}
use Rattle.mmtel_transaction.specs.declared.entries.Entry.{Entry}
use Rattle.mmtel_transaction.specs.declared.message_class.MessageClass.{MessageClass}
use Rattle.mmtel_transaction.specs.declared.message_class.MessageClass.TheVariants as part

-- an operation, where a received message has the class that the operations before determine; a list has the newest operation first
pub data TransactionOp : Type 0 where
  DidBegin : (step : ℕ) → TransactionOp
  DidHear : (peer : Peer) → (m : Message Start) → (now : ℕ) → (taken : MessageClass) → TransactionOp
  DidAsk : (peer : Peer) → (m : Message Start) → (now : ℕ) → TransactionOp
  DidReply : (key : ℕ) → (m : Message Start) → (now : ℕ) → TransactionOp
  DidAck : (key : ℕ) → (m : Message Start) → TransactionOp
  DidFire : (key : ℕ) → TransactionOp
  DidSettle : (key : ℕ) → (own : Option ℕ) → TransactionOp

-- the step number of the last `begin`
abbrev pub step_of : List TransactionOp → ℕ
step_of [] = 0
step_of (DidBegin step ∷ h) = step
step_of (DidHear p m now taken ∷ h) = step_of h
step_of (DidAsk p m now ∷ h) = step_of h
step_of (DidReply key m now ∷ h) = step_of h
step_of (DidAck key m ∷ h) = step_of h
step_of (DidFire key ∷ h) = step_of h
step_of (DidSettle key own ∷ h) = step_of h

-- how many requests and responses were sent: a count that stays at its maximum
abbrev pub send_count : List TransactionOp → ℕ
send_count [] = 0
send_count (DidBegin step ∷ h) = send_count h
send_count (DidHear p m now taken ∷ h) = send_count h
send_count (DidAsk p m now ∷ h) = min (send_count h + 1) (2 ^ 128 - 1)
send_count (DidReply key m now ∷ h) = min (send_count h + 1) (2 ^ 128 - 1)
send_count (DidAck key m ∷ h) = send_count h
send_count (DidFire key ∷ h) = send_count h
send_count (DidSettle key own ∷ h) = send_count h

-- a transaction after a received message
abbrev pub change_on_receipt : ℕ → Message Start → ℕ → MessageClass → Entry → Entry
change_on_receipt step m now part.Fresh e = e
change_on_receipt step m now part.Full e = e
change_on_receipt step m now (part.Repeat key) e = e
change_on_receipt step m now (part.RepeatedFinal key) e = e
change_on_receipt step m now (part.Answer key) e = change_of_key key (after_response step (head_of m).status now) e
change_on_receipt step m now (part.Acked key) e = change_of_key key (after_failure_ack step now) e
change_on_receipt step m now part.AckOf2xx e = after_ack_2xx step (head_of m) e
change_on_receipt step m now part.Stray e = e

-- a transaction after one more operation, which is called in this step and after so many messages were sent
abbrev pub change : ℕ → ℕ → TransactionOp → Entry → Entry
change step order (DidBegin n) e = e
change step order (DidHear p m now taken) e = change_on_receipt step m now taken e
change step order (DidAsk p m now) e = e
change step order (DidReply key m now) e = change_of_key key (after_any_reply step order m now) e
change step order (DidAck key m) e = change_of_key key (with_kept_ack (message_text m)) e
change step order (DidFire key) e = change_of_key key (after_timer step) e
change step order (DidSettle key own) e = change_of_key key (after_settling own) e

abbrev pub opened_on_receipt : ℕ → ℕ → Peer → Message Start → ℕ → MessageClass → List Entry
opened_on_receipt step key p m now part.Fresh = new_server_entry step key p (head_of m) now ∷ []
opened_on_receipt step key p m now part.Full = []
opened_on_receipt step key p m now (part.Repeat k) = []
opened_on_receipt step key p m now (part.RepeatedFinal k) = []
opened_on_receipt step key p m now (part.Answer k) = []
opened_on_receipt step key p m now (part.Acked k) = []
opened_on_receipt step key p m now part.AckOf2xx = []
opened_on_receipt step key p m now part.Stray = []

-- what an operation opens: a new request that is received opens a server transaction, one that is sent a client transaction
abbrev pub opens : ℕ → ℕ → ℕ → TransactionOp → List Entry
opens step order key (DidBegin n) = []
opens step order key (DidHear p m now taken) = opened_on_receipt step key p m now taken
opens step order key (DidAsk p m now) = new_client_entry step order key p (head_of m) (message_text m) now ∷ []
opens step order key (DidReply k m now) = []
opens step order key (DidAck k m) = []
opens step order key (DidFire k) = []
opens step order key (DidSettle k own) = []

-- what was opened, after one more operation; a key is how many were opened before
abbrev pub with_opened : ℕ → ℕ → TransactionOp → List Entry → List Entry
with_opened step order c es = es ++ opens step order (length es) c

-- all transactions that were ever opened, the oldest first, each as it was then
abbrev pub openings : List TransactionOp → List Entry
openings [] = []
openings (c ∷ h) = with_opened (step_of h) (send_count h) c (openings h)

-- such a transaction after all operations that came after its opening: those before which more were opened than its key
abbrev pub entry_of : List TransactionOp → Entry → Entry
entry_of [] e = e
entry_of (c ∷ h) e = if nat_lt e.key (length (openings h)) then change (step_of h) (send_count h) c (entry_of h e) else e

abbrev pub is_live : Entry → Bool
is_live e = not e.is_terminated

-- the live transactions, the oldest first
abbrev pub live : List TransactionOp → List Entry
live h = filter is_live (map (entry_of h) (openings h))

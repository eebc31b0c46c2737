-- Which operations the transactions represent, and what is true of these after one more.
use Rattle.std.specs.Prelude.{◌≡◌, ◌<◌, ◌-◌, ◌^◌, min, List, length}
use Rattle.mmtel_message.specs.Message.{Message}
use Rattle.mmtel_message.specs.declared.messages.Start.{Start}
use Rattle.mmtel_transaction.specs.Operations.{TransactionOp, send_count, step_of, openings, live}
use Rattle.mmtel_transaction.specs.Runs.{IsRun}
use Rattle.mmtel_transaction.specs.declared.message_class.MessageClass.{MessageClass}
use Rattle.mmtel_transaction.specs.declared.message_class.MessageClass.TheVariants as part
use Rattle.mmtel_transaction.specs.declared.words.HearFault.{HearFault}
use Rattle.mmtel_transaction.specs.declared.words.HearFault.TheVariants as fault
use Rattle.mmtel_transaction.specs.declared.transactions.Transactions.{Transactions}

-- these operations can occur, and the transactions are what they leave; the number of the next one stays at its maximum
pub record Represents (t : Transactions) (h : List TransactionOp) : Type 0 where
  pub step : t.step ≡ step_of h
  pub send_count : t.send_count ≡ send_count h
  pub next : t.next ≡ min (length (openings h)) (2 ^ 64 - 1)
  pub entries : t.entries ≡ live h
  pub run : IsRun h

-- so few transactions were opened that one more has its own number
abbrev pub HasCapacity : List TransactionOp → Type 0
HasCapacity h = length (openings h) < 2 ^ 64

-- whatever operations they represented, they represent those and more, and this is true of those
abbrev pub Does : Transactions → Transactions → (List TransactionOp → List TransactionOp) → (List TransactionOp → Type 0) → Type 0
Does old new more P = (h : List TransactionOp) → Represents old h → Represents new (more h) × P h

-- so it is after an operation that may open a transaction, where one more has its own number
abbrev pub MayOpen : Transactions → Transactions → (List TransactionOp → List TransactionOp) → (List TransactionOp → Type 0) → Type 0
MayOpen old new more P = (h : List TransactionOp) → Represents old h → HasCapacity h → Represents new (more h) × P h

-- whatever operations they represented, they still do, and this is true of those
abbrev pub Stays : Transactions → Transactions → (List TransactionOp → Type 0) → Type 0
Stays old new P = (h : List TransactionOp) → Represents old h → Represents new h × P h

-- why `hear` refuses a message of this class: one transaction too many, where the message is handed back, or out of memory, where nothing else is claimed
abbrev pub IsRefusal : MessageClass → Message Start → HearFault → Type 0
IsRefusal taken m (fault.Full x) = (x ≡ m) × (taken ≡ part.Full)
IsRefusal taken m fault.NoMemory = Unit {0}

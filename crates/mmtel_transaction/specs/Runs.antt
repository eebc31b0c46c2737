-- The lists of operations that can occur.
use Rattle.std.specs.Prelude.{◌≡◌, ℕ, List, [], ◌∷◌, Some}
use Rattle.mmtel_transaction.specs.Heads.{head_of}
use Rattle.mmtel_transaction.specs.Operations.{TransactionOp, DidBegin, DidHear, DidAsk, DidReply, DidAck, DidFire, DidSettle, live}
use Rattle.mmtel_transaction.specs.Results.{DueEntryView, class_of, next_due}

-- of all deadlines one of this transaction came next, at some moment
pub record IsNextOf (key : ℕ) (h : List TransactionOp) : Type 0 where
  pub now : ℕ
  pub next : DueEntryView
  pub first : next_due now (live h) ≡ Some next
  pub same : next.entry.key ≡ key

-- each message has the class that the operations before determine, and each deadline that fired was then the next one
abbrev pub IsRun : List TransactionOp → Type 0
IsRun [] = Unit {0}
IsRun (DidBegin n ∷ h) = IsRun h
IsRun (DidHear p m now taken ∷ h) = (taken ≡ class_of (head_of m) (live h)) × IsRun h
IsRun (DidAsk p m now ∷ h) = IsRun h
IsRun (DidReply key m now ∷ h) = IsRun h
IsRun (DidAck key m ∷ h) = IsRun h
IsRun (DidFire key ∷ h) = IsNextOf key h × IsRun h
IsRun (DidSettle key own ∷ h) = IsRun h

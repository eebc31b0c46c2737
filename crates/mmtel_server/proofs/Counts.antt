-- Where there were few operations, one more transaction has a number of its own.
use Rattle.std.proofs.Common.{◌+◌, ◌≤◌, ◌<◌, ◌^◌, List, [], ◌∷◌, length, arith}
use Rattle.mmtel_transaction.specs.Operations.{TransactionOp, DidAck, DidAsk, DidBegin, DidFire, DidSettle, DidHear, DidReply}
use Rattle.mmtel_transaction.specs.Theorems.{FewAreOpened, received_in, requests_in}
use Rattle.mmtel_transaction.specs.Represents.{HasCapacity}

few_open : (h : List TransactionOp) → received_in h + requests_in h ≤ length h
few_open [] = omega arith
few_open (DidBegin step ∷ h) = omega (arith, few_open h)
few_open (DidHear peer m now taken ∷ h) = omega (arith, few_open h)
few_open (DidAsk peer m now ∷ h) = omega (arith, few_open h)
few_open (DidReply key m now ∷ h) = omega (arith, few_open h)
few_open (DidAck key m ∷ h) = omega (arith, few_open h)
few_open (DidFire key ∷ h) = omega (arith, few_open h)
few_open (DidSettle key own ∷ h) = omega (arith, few_open h)

pub has_capacity : FewAreOpened → (h : List TransactionOp) → length h < 2 ^ 60 → HasCapacity h
has_capacity few h short = omega (arith, few h, few_open h, short)

-- Worked sequences of operations with successive deadlines.
use Rattle.std.specs.Prelude.{◌≡◌, List, [], ◌∷◌, Some, None}
use Rattle.mmtel_transaction.specs.Results.{next_due, upcoming_of}
use Rattle.mmtel_transaction.specs.Operations.{TransactionOp, DidAsk, DidBegin, DidFire, live}
use Rattle.mmtel_transaction.specs.Firings.{after_firings, due_by, total_remaining}
use Rattle.mmtel_transaction_examples.specs.Sequences.{first_invite, peer}

-- an INVITE that is sent in step 3, whose first deadline fires in step 5: its next one was armed in that step
abbrev pub sent_in_step_three : List TransactionOp
sent_in_step_three = DidAsk (peer 1) first_invite 0 ∷ DidBegin 3 ∷ []

pub record SuccessiveDeadlines : Type 0 where
  pub sent : upcoming_of (next_due 40000 (live sent_in_step_three)) ≡ Some (500, 3)
  pub not_yet : upcoming_of (next_due 499 (live sent_in_step_three)) ≡ None
  pub fired : upcoming_of (next_due 40000 (live (DidFire 0 ∷ DidBegin 5 ∷ sent_in_step_three))) ≡ Some (1500, 5)
  pub due : due_by 500 (live sent_in_step_three) ≡ 1
  pub none_due : due_by 500 (live (DidFire 0 ∷ DidBegin 5 ∷ sent_in_step_three)) ≡ 0
  pub remaining : total_remaining (live sent_in_step_three) ≡ 31501
  -- up to 600 one firing is enough, and more change nothing
  pub one : next_due 600 (live (after_firings 1 600 sent_in_step_three)) ≡ None
  pub more : after_firings 2 600 sent_in_step_three ≡ after_firings 1 600 sent_in_step_three

-- They compute, once the head is substituted.
use Rattle.std.proofs.Common.{◌≡◌, List, [], ◌∷◌, codes, refl, ap, ◌∙◌, true}
use Rattle.std.specs.Prelude.{Some, None}
use Rattle.mmtel_message.specs.Texts.{message_text}
use Rattle.mmtel_transaction.specs.Results.{after_firing, next_due, upcoming_of}
use Rattle.mmtel_transaction.specs.Operations.{TransactionOp, DidAsk, DidBegin, DidFire, live, openings}
use Rattle.mmtel_transaction.specs.Changes.{new_client_entry}
use Rattle.mmtel_transaction.specs.Firings.{after_firings, due_by, total_remaining}
use Rattle.mmtel_transaction.specs.declared.entries.Entry.{Entry}
use Rattle.mmtel_transaction.specs.declared.heads.Head.{Head}
use Rattle.mmtel_transaction_examples.specs.DeadlineExamples.{SuccessiveDeadlines}
use Rattle.mmtel_transaction_examples.specs.Sequences.{peer}
use Rattle.mmtel_transaction_examples.proofs.Stages.{fires_one, front, next}
use Rattle.mmtel_transaction_examples.proofs.WorkedHeads.{Worked, known, worked}

module _ (c : Worked) where
  abbrev sent_in_step_three : List TransactionOp
  sent_in_step_three = DidAsk (peer 1) c.first 0 ∷ DidBegin 3 ∷ []

  abbrev begun_in_five : List TransactionOp
  begun_in_five = DidBegin 5 ∷ sent_in_step_three

  -- the transaction when it is opened, and after its first deadline in these steps
  abbrev opening : Entry
  opening = new_client_entry 3 0 0 (peer 1) (known true 0 (codes "a")) (message_text c.first) 0

  abbrev fired_in_five : Entry
  fired_in_five = record opening { retransmissions = 1; step = 5 }

  abbrev fired_in_three : Entry
  fired_in_three = record opening { retransmissions = 1 }

  opens : openings sent_in_step_three ≡ opening ∷ []
  opens = ap (λ (x : Head). new_client_entry 3 0 0 (peer 1) x (message_text c.first) 0 ∷ []) c.of_first

  at_first : live sent_in_step_three ≡ opening ∷ []
  at_first = front sent_in_step_three opening opening [] opens refl

  in_five : live (DidFire 0 ∷ begun_in_five) ≡ fired_in_five ∷ []
  in_five = front (DidFire 0 ∷ begun_in_five) opening fired_in_five [] opens
      (fires_one begun_in_five opening opening refl (next (DidBegin 5) sent_in_step_three opening opening opening refl refl refl))

  in_three : live (DidFire 0 ∷ sent_in_step_three) ≡ fired_in_three ∷ []
  in_three = front (DidFire 0 ∷ sent_in_step_three) opening fired_in_three [] opens (fires_one sent_in_step_three opening opening refl refl)

  row_asked : upcoming_of (next_due 40000 (live sent_in_step_three)) ≡ Some (500, 3)
  row_asked = ap (λ (es : List Entry). upcoming_of (next_due 40000 es)) at_first

  row_not_yet : upcoming_of (next_due 499 (live sent_in_step_three)) ≡ None
  row_not_yet = ap (λ (es : List Entry). upcoming_of (next_due 499 es)) at_first

  row_fired : upcoming_of (next_due 40000 (live (DidFire 0 ∷ begun_in_five))) ≡ Some (1500, 5)
  row_fired = ap (λ (es : List Entry). upcoming_of (next_due 40000 es)) in_five

  row_due : due_by 500 (live sent_in_step_three) ≡ 1
  row_due = ap (due_by 500) at_first

  row_none_due : due_by 500 (live (DidFire 0 ∷ begun_in_five)) ≡ 0
  row_none_due = ap (due_by 500) in_five

  row_left : total_remaining (live sent_in_step_three) ≡ 31501
  row_left = ap (λ (es : List Entry). total_remaining es) at_first

  row_one : next_due 600 (live (after_firings 1 600 sent_in_step_three)) ≡ None
  unfolding after_firings
  row_one = ap (λ (es : List Entry). next_due 600 (live (after_firing sent_in_step_three (next_due 600 es)))) at_first ∙ ap (next_due 600) in_three

  row_more : after_firings 2 600 sent_in_step_three ≡ after_firings 1 600 sent_in_step_three
  unfolding after_firings
  row_more = ap (after_firing (after_firings 1 600 sent_in_step_three)) row_one

pub successive_deadlines : SuccessiveDeadlines
successive_deadlines = record {
  sent = row_asked worked;
  not_yet = row_not_yet worked;
  fired = row_fired worked;
  due = row_due worked;
  none_due = row_none_due worked;
  remaining = row_left worked;
  one = row_one worked;
  more = row_more worked;
}

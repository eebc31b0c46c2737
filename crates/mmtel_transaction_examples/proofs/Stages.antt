-- Transactions from operation to operation, and the result for one, each head substituted where its message comes.
use Rattle.std.proofs.Common.{◌≡◌, ◌∙◌, ℕ, suc, Bool, true, false, ◌&&◌, cond, List, [], ◌∷◌, length, map, None, refl, sym, ap, codes}
use Rattle.std.specs.Prelude.{Option, Some, filter, nat_le, nat_lt, option_map}
use Rattle.std.specs.List.{find}
use Rattle.mmtel_base.specs.Chain.{◌>>=◌}
use Rattle.mmtel_base.specs.Numbers.{number_of}
use Rattle.mmtel_types.specs.declared.numbers.Peer.{Peer}
use Rattle.mmtel_message.specs.Fields.{five_at}
use Rattle.mmtel_message.specs.Message.{Message, first_value}
use Rattle.mmtel_message.specs.Texts.{message_text}
use Rattle.mmtel_message.specs.declared.fields.Five.{Five}
use Rattle.mmtel_message.specs.declared.messages.Start.{Start}
use Rattle.mmtel_transaction.specs.Results.{DueEntryView, after_firing, bind_entry, by_key, class_of, class_result, due_result, hear_result, is_invite_of, key_of, next_due, opening_result, retransmission_for}
use Rattle.mmtel_transaction.specs.Operations.{TransactionOp, DidFire, DidHear, DidReply, change, entry_of, is_live, live, send_count, openings, step_of}
use Rattle.mmtel_transaction.specs.Changes.{after_reply, after_response, after_timer, change_of_key}
use Rattle.mmtel_transaction.specs.Heads.{code_of, head_of, head_with, is_cancel, reliable_number}
use Rattle.mmtel_transaction.specs.Theorems.{results_in_turn}
use Rattle.mmtel_transaction.specs.declared.entries.Entry.{Entry}
use Rattle.mmtel_transaction.specs.declared.heads.Head.{Head}
use Rattle.mmtel_transaction.specs.declared.message_class.MessageClass.TheVariants as part
use Rattle.mmtel_transaction.specs.declared.words.Due.{Due}
use Rattle.mmtel_transaction.specs.declared.words.Heard.TheVariants as heard

-- a transaction after one more operation
pub next : (c : TransactionOp) (h : List TransactionOp) (opening e x : Entry) → nat_lt opening.key (length (openings h)) ≡ true → entry_of h opening ≡ e → change (step_of h) (send_count h) c e ≡ x
    → entry_of (c ∷ h) opening ≡ x
next c h opening e x later is to =
    ap (λ (b : Bool). cond b (change (step_of h) (send_count h) c (entry_of h opening)) opening) later ∙ (ap (change (step_of h) (send_count h) c) is ∙ to)

-- a message of such a head is no reliable provisional response
status_of : (start : Start) (o : Option Five) → (head_with start o).status ≡ code_of start
status_of start None = refl
status_of start (Some five) = refl

pub not_numbered : (m : Message Start) (head : Head) → head_of m ≡ head → (nat_le 101 head.status && nat_lt head.status 200) ≡ false → reliable_number m ≡ None
unfolding head_of reliable_number
not_numbered m head is out =
    let code : code_of m.start ≡ head.status = sym (status_of m.start (five_at m.lines)) ∙ ap (λ (x : Head). x.status) is in
    ap (λ (n : ℕ). cond (nat_le 101 n && nat_lt n 200) (first_value (codes "RSeq") m.lines >>= number_of 2147483647) None) code
    ∙ ap (λ (b : Bool). cond b (first_value (codes "RSeq") m.lines >>= number_of 2147483647) None) out

pub replies : (key : ℕ) (m : Message Start) (now step order : ℕ) (e : Entry) (head : Head) → reliable_number m ≡ None → head_of m ≡ head
    → change step order (DidReply key m now) e ≡ change_of_key key (after_reply step order head.status (message_text m) head.to_tag now) e
replies key m now step order e head plain is = rw plain (ap (λ (x : Head). change_of_key key (after_reply step order x.status (message_text m) x.to_tag now) e) is)

pub response_gives : (p : Peer) (key : ℕ) (m : Message Start) (now step order : ℕ) (e : Entry) (head : Head) → head_of m ≡ head
    → change step order (DidHear p m now (part.Answer key)) e ≡ change_of_key key (after_response step head.status now) e
response_gives p key m now step order e head is = ap (λ (x : Head). change_of_key key (after_response step x.status now) e) is

-- the live transactions, by the first that was opened
pub front : (h : List TransactionOp) (opening e : Entry) (more : List Entry) → openings h ≡ opening ∷ more → entry_of h opening ≡ e → live h ≡ filter is_live (e ∷ map (entry_of h) more)
front h opening e more o is = ap (λ (xs : List Entry). filter is_live (map (entry_of h) xs)) o ∙ ap (λ (x : Entry). filter is_live (x ∷ map (entry_of h) more)) is

-- by the two that were opened
pub pair : (h : List TransactionOp) (opening other e x : Entry) → openings h ≡ opening ∷ other ∷ [] → entry_of h opening ≡ e → entry_of h other ≡ x → live h ≡ filter is_live (e ∷ x ∷ [])
pair h opening other e x o is also = front h opening e (other ∷ []) o is ∙ ap (λ (y : Entry). filter is_live (e ∷ y ∷ [])) also

-- a message that is received again, and one that opens a transaction
pub retransmission_gives : (h : List TransactionOp) (p : Peer) (m : Message Start) (head : Head) (es : List Entry) (key : ℕ) → live h ≡ es → head_of m ≡ head → class_of head es ≡ part.Repeat key
    → hear_result h p m ≡ Some (heard.Repeat (bind_entry (retransmission_for p) (by_key key es)))
retransmission_gives h p m head es key l is q =
    ap (λ (xs : List Entry). class_result (length (openings h)) xs p m (class_of (head_of m) xs)) l
    ∙ (ap (λ (x : Head). class_result (length (openings h)) es p m (class_of x es)) is
    ∙ ap (class_result (length (openings h)) es p m) q)

pub fresh : (h : List TransactionOp) (p : Peer) (m : Message Start) (head : Head) (es : List Entry) → live h ≡ es → head_of m ≡ head → class_of head es ≡ part.Fresh
    → hear_result h p m ≡ Some (opening_result (is_cancel head) (length (openings h)) (option_map key_of (find (is_invite_of head) es)) m)
fresh h p m head es l is q =
    ap (λ (xs : List Entry). class_result (length (openings h)) xs p m (class_of (head_of m) xs)) l
    ∙ (ap (λ (x : Head). class_result (length (openings h)) es p m (class_of x es)) is
    ∙ (ap (class_result (length (openings h)) es p m) q
    ∙ ap (λ (x : Head). Some (opening_result (is_cancel x) (length (openings h)) (option_map key_of (find (is_invite_of x) es)) m)) is))

-- one transaction alone: its deadline fires, is due, or is not
pub fires_one : (h : List TransactionOp) (opening e : Entry) → nat_lt opening.key (length (openings h)) ≡ true → entry_of h opening ≡ e
    → entry_of (DidFire opening.key ∷ h) opening ≡ change_of_key opening.key (after_timer (step_of h)) e
fires_one h opening e later is = next (DidFire opening.key) h opening e (change_of_key opening.key (after_timer (step_of h)) e) later is refl

pub turn : (n now : ℕ) (h : List TransactionOp) (e : Entry) (x : DueEntryView) (d : Due) (ds : List Due) → live h ≡ e ∷ [] → next_due now (e ∷ []) ≡ Some x → due_result (Some x) ≡ d
    → results_in_turn n now (DidFire x.entry.key ∷ h) ≡ ds → results_in_turn (suc n) now h ≡ d ∷ ds
unfolding results_in_turn
turn n now h e x d ds l due said rest =
    let is : next_due now (live h) ≡ Some x = ap (next_due now) l ∙ due in
    ap (λ (o : Option DueEntryView). due_result o ∷ results_in_turn n now (after_firing h o)) is
    ∙ (ap (λ (y : Due). y ∷ results_in_turn n now (DidFire x.entry.key ∷ h)) said
    ∙ ap (λ (ys : List Due). d ∷ ys) rest)

pub last_turn : (now : ℕ) (h : List TransactionOp) (es : List Entry) (d : Due) → live h ≡ es → due_result (next_due now es) ≡ d → results_in_turn 1 now h ≡ d ∷ []
unfolding results_in_turn
last_turn now h es d l said = ap (λ (xs : List Entry). due_result (next_due now xs) ∷ []) l ∙ ap (λ (y : Due). y ∷ []) said

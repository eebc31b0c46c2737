-- Theorems about whole lists of operations.
use Rattle.std.specs.Prelude.{◌≡◌, ℕ, zero, suc, ◌+◌, ◌-◌, ◌*◌, ◌^◌, ◌<◌, ◌≤◌, ◌⊎◌, true, false, List, [], ◌∷◌, ◌++◌, length, map, Option, Some, None, option_map, slice_get}
use Rattle.std.specs.List.{AllByRecursion}
use Rattle.mmtel_types.specs.declared.numbers.Peer.{Peer}
use Rattle.mmtel_message.specs.Message.{Message}
use Rattle.mmtel_message.specs.Texts.{message_text}
use Rattle.mmtel_message.specs.declared.messages.Start.{Start}
use Rattle.mmtel_timers.specs.Schedules.{moments_of}
use Rattle.mmtel_timers.specs.declared.schedules.Schedule.TheVariants as schedule
use Rattle.mmtel_transaction.specs.Heads.{head_of, is_ack, is_invite}
use Rattle.mmtel_transaction.specs.Deadlines.{deadline, message_due, retransmission_at}
use Rattle.mmtel_transaction.specs.Operations.{TransactionOp, DidBegin, DidHear, DidAsk, DidReply, DidAck, DidFire, DidSettle, live, openings}
use Rattle.mmtel_transaction.specs.Results.{DueEntryView, after_firing, after_hear, by_key, class_of, due_result, hear_result, is_before, next_due, tkey}
use Rattle.mmtel_transaction.specs.Runs.{IsRun}
use Rattle.mmtel_transaction.specs.Represents.{HasCapacity}
use Rattle.mmtel_base.specs.Numbers.{next_number, token_text}
use Rattle.mmtel_transaction.specs.declared.entries.Entry.{Entry}
use Rattle.mmtel_transaction.specs.declared.heads.Head.{Head}
use Rattle.mmtel_transaction.specs.declared.message_class.MessageClass.TheVariants as part
use Rattle.mmtel_transaction.specs.declared.words.Due.{Due}
use Rattle.mmtel_transaction.specs.declared.words.Due.TheVariants as due
use Rattle.mmtel_transaction.specs.declared.words.Heard.TheVariants as heard

-- what so many calls of `due` return in turn, where nothing else is called between them
unfoldable pub results_in_turn : ℕ → ℕ → List TransactionOp → List Due
results_in_turn zero now h = []
results_in_turn (suc n) now h = due_result (next_due now (live h)) ∷ results_in_turn n now (after_firing h (next_due now (live h)))

-- the result of a request that was sent at t, retransmitted so long after
abbrev pub retransmission : Peer → Message Start → ℕ → ℕ → Due
retransmission p m t d = due.Again p (t + d) (message_text m)

-- a request that is sent at t where no transaction is live, and that gets no response, is retransmitted at these moments after t, then times out, and then nothing is due
abbrev pub TimesOutAfter : List ℕ → Peer → Message Start → ℕ → Type 0
TimesOutAfter moments p m t = (h : List TransactionOp) (now : ℕ) → live h ≡ [] → t + 32000 ≤ now →
    results_in_turn (length moments + 2) now (DidAsk p m t ∷ h) ≡ map (retransmission p m t) moments ++
    due.Silent (tkey (length (openings h))) (head_of m).branch (head_of m).method (t + 32000) ∷ due.Nothing ∷ []

-- so it is with every INVITE (Timers A and B), and with every other request (Timers E and F)
abbrev pub InvitesTimeOut : Type 0
InvitesTimeOut = (p : Peer) (m : Message Start) (t : ℕ) → is_invite (head_of m) ≡ true → TimesOutAfter (moments_of schedule.Invite) p m t

abbrev pub OthersTimeOut : Type 0
OthersTimeOut = (p : Peer) (m : Message Start) (t : ℕ) → is_invite (head_of m) ≡ false → TimesOutAfter (moments_of schedule.Other) p m t

-- how many messages were received, and how many requests were sent
abbrev pub received_in : List TransactionOp → ℕ
received_in [] = 0
received_in (DidBegin step ∷ h) = received_in h
received_in (DidHear p m now taken ∷ h) = suc (received_in h)
received_in (DidAsk p m now ∷ h) = received_in h
received_in (DidReply key m now ∷ h) = received_in h
received_in (DidAck key m ∷ h) = received_in h
received_in (DidFire key ∷ h) = received_in h
received_in (DidSettle key own ∷ h) = received_in h

abbrev pub requests_in : List TransactionOp → ℕ
requests_in [] = 0
requests_in (DidBegin step ∷ h) = requests_in h
requests_in (DidHear p m now taken ∷ h) = requests_in h
requests_in (DidAsk p m now ∷ h) = suc (requests_in h)
requests_in (DidReply key m now ∷ h) = requests_in h
requests_in (DidAck key m ∷ h) = requests_in h
requests_in (DidFire key ∷ h) = requests_in h
requests_in (DidSettle key own ∷ h) = requests_in h

-- no more transactions are opened than messages are received and requests sent
abbrev pub FewAreOpened : Type 0
FewAreOpened = (h : List TransactionOp) → length (openings h) ≤ received_in h + requests_in h

-- so one more has its own number, where each step receives at most one message and each drawn branch is of at most two requests, an INVITE and its CANCEL, whatever else is
-- called, and there are fewer than 2^60 steps and draws
abbrev pub CapacityRemains : Type 0
CapacityRemains = (h : List TransactionOp) (steps draws : ℕ) → received_in h ≤ steps → requests_in h ≤ 2 * draws → steps < 2 ^ 60 → draws < 2 ^ 60 → HasCapacity h

-- the number of a transaction is how many were opened before it
abbrev pub NumbersCount : Type 0
NumbersCount = (h : List TransactionOp) (k : ℕ) (e : Entry) → slice_get (openings h) k ≡ Some e → e.key ≡ k

-- and no two live transactions have the same number
abbrev pub NumbersDiffer : Type 0
NumbersDiffer = (h : List TransactionOp) (i j : ℕ) (e x : Entry) → slice_get (live h) i ≡ Some e → slice_get (live h) j ≡ Some x → e.key ≡ x.key → i ≡ j

-- two server transactions with the same branch, sent-by and method (RFC 3261 §17.2.3)
pub record HaveOneKey (e x : Entry) : Type 0 where
  pub first : e.is_server ≡ true
  pub second : x.is_server ≡ true
  pub branch : e.head.branch ≡ x.head.branch
  pub sent_by : e.head.sent_by ≡ x.head.sent_by
  pub method : e.head.method ≡ x.head.method

-- of the live transactions of a run no two server transactions have the same branch, sent-by and method
abbrev pub KeysAreTheirOwn : Type 0
KeysAreTheirOwn = (h : List TransactionOp) → IsRun h → (j k : ℕ) (e x : Entry) → by_key j (live h) ≡ Some e → by_key k (live h) ≡ Some x → HaveOneKey e x → j ≡ k

-- a request other than ACK that has the branch, sent-by and method of another
pub record IsRetransmissionOf (m n : Head) : Type 0 where
  pub request : n.is_request ≡ true
  pub other : is_ack n ≡ false
  pub branch : m.branch ≡ n.branch
  pub sent_by : m.sent_by ≡ n.sent_by
  pub method : m.method ≡ n.method

-- the operation was `due`, which reported that this transaction ends
pub record ReportsEnd (key : ℕ) (c : TransactionOp) (h : List TransactionOp) : Type 0 where
  pub now : ℕ
  pub at : ℕ
  pub reports : due_result (next_due now (live h)) ≡ due.Over (tkey key) at
  pub call : after_firing h (next_due now (live h)) ≡ c ∷ h

-- among the operations that came after others, the newest first, one reported the end of this transaction
abbrev pub EndWasReported : ℕ → List TransactionOp → List TransactionOp → Type 0
EndWasReported key [] h = ⊥
EndWasReported key (c ∷ g) h = ReportsEnd key c (g ++ h) ⊎ EndWasReported key g h

-- a message is classified as a retransmission of the request of this transaction, and opens nothing
pub record OpensNothing (key : ℕ) (h : List TransactionOp) (p : Peer) (m : Message Start) : Type 0 where
  pub classified : class_of (head_of m) (live h) ≡ part.Repeat key
  pub nothing : (now : ℕ) → openings (after_hear h p m now) ≡ openings h

-- a request that opened a server transaction opens nothing when it is received again, from whichever peer, until the end of that transaction was reported
abbrev pub RetransmissionsOpenNothing : Type 0
RetransmissionsOpenNothing = (h g : List TransactionOp) (p q : Peer) (m n : Message Start) (t : ℕ) →
    IsRun (g ++ DidHear p m t part.Fresh ∷ h) → IsRetransmissionOf (head_of m) (head_of n) →
    EndWasReported (length (openings h)) g (DidHear p m t part.Fresh ∷ h) ⊎ OpensNothing (length (openings h)) (g ++ DidHear p m t part.Fresh ∷ h) q n

-- and from another peer than the one that opened the transaction, it gets nothing
abbrev pub StrangersGetNothing : Type 0
StrangersGetNothing = (h g : List TransactionOp) (p q : Peer) (m n : Message Start) (t : ℕ) → IsRun (g ++ DidHear p m t part.Fresh ∷ h) →
    IsRetransmissionOf (head_of m) (head_of n) →
    (q.0 ≡ p.0 → ⊥) → EndWasReported (length (openings h)) g (DidHear p m t part.Fresh ∷ h) ⊎ (hear_result (g ++ DidHear p m t part.Fresh ∷ h) q n ≡ Some (heard.Repeat None))

-- what an ACK of the non-2xx final of this transaction leaves
pub record EndsRetransmission (key now : ℕ) (before after : List Entry) : Type 0 where
  -- it is still live, and nothing of it is retransmitted
  pub ended : option_map retransmission_at (by_key key after) ≡ Some None
  -- after the first ACK it ends 5,000 ms later (Timer I)
  pub end : (e : Entry) → by_key key before ≡ Some e → e.is_acked ≡ false → option_map deadline (by_key key after) ≡ Some (Some (now + 5000))
  -- every other transaction is as before
  pub others : (j : ℕ) → (j ≡ key → ⊥) → by_key j after ≡ by_key j before

abbrev pub AcksEndRetransmission : Type 0
AcksEndRetransmission = (h : List TransactionOp) (p : Peer) (m : Message Start) (now key : ℕ) → IsRun h → class_of (head_of m) (live h) ≡ part.Acked key →
    EndsRetransmission key now (live h) (live (after_hear h p m now))

abbrev pub firing_and_rest : Option DueEntryView → List DueEntryView → List DueEntryView
firing_and_rest None ns = []
firing_and_rest (Some n) ns = n ∷ ns

-- the deadlines that so many calls of `due` fire in turn, where nothing else is called between them
unfoldable pub firings : ℕ → ℕ → List TransactionOp → List DueEntryView
firings zero now h = []
firings (suc n) now h = firing_and_rest (next_due now (live h)) (firings n now (after_firing h (next_due now (live h))))

-- a deadline that fires after another does not come before it, by its moment, the step that armed it and the order in which its message was sent; and of the same message of a
-- transaction it has a later moment
pub record FiresAfter (x y : DueEntryView) : Type 0 where
  pub order : is_before y.at y.entry x.at x.entry ≡ false
  pub once : y.entry.key ≡ x.entry.key → message_due y.entry ≡ message_due x.entry → x.at < y.at

abbrev pub AreInOrder : List DueEntryView → Type 0
AreInOrder [] = Unit {0}
AreInOrder (x ∷ xs) = AllByRecursion (FiresAfter x) xs × AreInOrder xs

-- whatever was called before, deadlines fire in order, and each once
abbrev pub FiresInOrder : Type 0
FiresInOrder = (h : List TransactionOp) (n now : ℕ) → AreInOrder (firings n now h)

-- the deadline that fires is due, and no deadline of a live transaction comes before it
pub record IsFirstDue (now : ℕ) (es : List Entry) (n : DueEntryView) : Type 0 where
  pub is_live : by_key n.entry.key es ≡ Some n.entry
  pub moment : deadline n.entry ≡ Some n.at
  pub not_past : n.at ≤ now
  pub first : (key at : ℕ) (e : Entry) → by_key key es ≡ Some e → deadline e ≡ Some at → is_before at e n.at n.entry ≡ false

abbrev pub TheFirstFires : Type 0
TheFirstFires = (h : List TransactionOp) (now : ℕ) (n : DueEntryView) → next_due now (live h) ≡ Some n → IsFirstDue now (live h) n

-- this is what `due` returns last of a transaction: that it times out, or that it ends
abbrev pub IsLast : ℕ → Due → Type 0
IsLast key (due.Again peer at text) = ⊥
IsLast key (due.Silent k branch method at) = k.0 ≡ key
IsLast key (due.Over k at) = k.0 ≡ key
IsLast key due.Nothing = ⊥

-- a transaction of which that was reported is no longer live
abbrev pub LastOnesEnd : Type 0
LastOnesEnd = (h : List TransactionOp) (now key : ℕ) → IsLast key (due_result (next_due now (live h))) → by_key key (live (after_firing h (next_due now (live h)))) ≡ None

-- and what is no longer live is never live again, whatever is called
abbrev pub WhatEndedStays : Type 0
WhatEndedStays = (h g : List TransactionOp) (key : ℕ) → key < length (openings h) → by_key key (live h) ≡ None → by_key key (live (g ++ h)) ≡ None

-- of two draws, both before the maximum number, the tokens differ
abbrev pub TokensDiffer : Type 0
TokensDiffer = (token : List ℕ) (m n : ℕ) → m < 2 ^ 64 - 1 → n < 2 ^ 64 - 1 → token_text token (next_number m) ≡ token_text token (next_number n) → m ≡ n

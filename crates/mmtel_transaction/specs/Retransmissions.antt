-- One transaction among others: when its message is retransmitted, when it times out or ends, whatever else is called meanwhile (RFC 3261 §13.3.1.4, §17.1.1.2, §17.1.1.3,
-- §17.1.2.2, §17.2.1; RFC 6026 §8).
use Rattle.std.specs.Prelude.{◌≡◌, ℕ, suc, ◌+◌, ◌≤◌, Bool, true, false, not, ◌&&◌, ◌==◌, if◌then◌else◌, List, [], ◌∷◌, ◌++◌, length, map, Some, None, option_map, slice_get}
use Rattle.std.specs.List.{list_any}
use Rattle.std.specs.Str.{bytes_eq}
use Rattle.mmtel_types.specs.declared.numbers.Peer.{Peer}
use Rattle.mmtel_message.specs.Message.{Message}
use Rattle.mmtel_message.specs.Texts.{message_text}
use Rattle.mmtel_message.specs.declared.messages.Start.{Start}
use Rattle.mmtel_timers.specs.Schedules.{moments_of}
use Rattle.mmtel_timers.specs.declared.schedules.Schedule.TheVariants as schedule
use Rattle.mmtel_transaction.specs.Heads.{head_of, is_success, is_invite, is_provisional, is_refusal, is_same_call}
use Rattle.mmtel_transaction.specs.Deadlines.{deadline, retransmission_at}
use Rattle.mmtel_transaction.specs.Changes.{is_ack_of}
use Rattle.mmtel_transaction.specs.Operations.{TransactionOp, DidBegin, DidHear, DidAsk, DidReply, DidAck, DidFire, DidSettle, live, openings}
use Rattle.mmtel_transaction.specs.Results.{DueEntryView, after_hear, by_key, class_of, due_result, hear_result, next_due, tkey}
use Rattle.mmtel_transaction.specs.Matching.{matching_key}
use Rattle.mmtel_transaction.specs.Runs.{IsRun}
use Rattle.mmtel_transaction.specs.Theorems.{retransmission}
use Rattle.mmtel_transaction.specs.declared.heads.Head.{Head}
use Rattle.mmtel_transaction.specs.declared.entries.Entry.{Entry}
use Rattle.mmtel_transaction.specs.declared.message_class.MessageClass.{MessageClass}
use Rattle.mmtel_transaction.specs.declared.message_class.MessageClass.TheVariants as part
use Rattle.mmtel_transaction.specs.declared.words.Due.{Due}
use Rattle.mmtel_transaction.specs.declared.words.Due.TheVariants as due
use Rattle.mmtel_transaction.specs.declared.words.Heard.TheVariants as heard

-- the number of the transaction that is opened next
abbrev pub new_key : List TransactionOp → ℕ
new_key h = length (openings h)

-- none of these operations is such a one
abbrev pub Lacks : (TransactionOp → Bool) → List TransactionOp → Type 0
Lacks is_one g = list_any is_one g ≡ false

-- how many deadlines of this transaction fired
abbrev pub times_fired : ℕ → List TransactionOp → ℕ
times_fired key [] = 0
times_fired key (DidBegin step ∷ g) = times_fired key g
times_fired key (DidHear p m now taken ∷ g) = times_fired key g
times_fired key (DidAsk p m now ∷ g) = times_fired key g
times_fired key (DidReply k m now ∷ g) = times_fired key g
times_fired key (DidAck k m ∷ g) = times_fired key g
times_fired key (DidFire k ∷ g) = if k == key then suc (times_fired key g) else times_fired key g
times_fired key (DidSettle k own ∷ g) = times_fired key g

-- a transaction that follows a closed list of moments after a start, once so many of its deadlines fired
pub record FollowsSchedule (key start : ℕ) (moments : List ℕ) (said : List Due) (fired : ℕ) (h : List TransactionOp) : Type 0 where
  -- its next deadline is the next moment of the list, after these 32,000; and after that it is no longer live
  pub next : option_map deadline (by_key key (live h)) ≡ option_map (λ d. Some (start + d)) (slice_get (moments ++ 32000 ∷ []) fired)
  -- this is what `due` returns of it when that deadline fires
  pub reports : (now : ℕ) (n : DueEntryView) → next_due now (live h) ≡ Some n → n.entry.key ≡ key → Some (due_result (Some n)) ≡ slice_get said fired
  -- where nothing is due at its last moment or later, it is no longer live
  pub over : (now : ℕ) → start + 32000 ≤ now → next_due now (live h) ≡ None → by_key key (live h) ≡ None

-- a response to this client transaction is received
abbrev pub is_response_class : ℕ → MessageClass → Bool
is_response_class key part.Fresh = false
is_response_class key part.Full = false
is_response_class key (part.Repeat k) = false
is_response_class key (part.RepeatedFinal k) = false
is_response_class key (part.Answer k) = k == key
is_response_class key (part.Acked k) = false
is_response_class key part.AckOf2xx = false
is_response_class key part.Stray = false

abbrev pub is_response_to : ℕ → TransactionOp → Bool
is_response_to key (DidBegin step) = false
is_response_to key (DidHear p m now taken) = is_response_class key taken
is_response_to key (DidAsk p m now) = false
is_response_to key (DidReply k m now) = false
is_response_to key (DidAck k m) = false
is_response_to key (DidFire k) = false
is_response_to key (DidSettle k own) = false

-- and it is a final one
abbrev pub is_final_to : ℕ → TransactionOp → Bool
is_final_to key (DidBegin step) = false
is_final_to key (DidHear p m now taken) = not (is_provisional (head_of m).status) && is_response_class key taken
is_final_to key (DidAsk p m now) = false
is_final_to key (DidReply k m now) = false
is_final_to key (DidAck k m) = false
is_final_to key (DidFire k) = false
is_final_to key (DidSettle k own) = false

-- the moments at which a request that gets no response is retransmitted
abbrev pub request_moments : Head → List ℕ
request_moments m = moments_of (if is_invite m then schedule.Invite else schedule.Other)

-- what `due` returns in turn of a request that was sent at t: it is retransmitted, and at last times out
abbrev pub request_results : ℕ → Peer → Message Start → ℕ → List Due
request_results key p m t = map (retransmission p m t) (request_moments (head_of m)) ++ due.Silent (tkey key) (head_of m).branch (head_of m).method (t + 32000) ∷ []

-- a request that was sent at t follows its closed list for as long as no response to it is received, whatever else is called (Timers A, B, E and F)
abbrev pub UnansweredTimeOut : Type 0
UnansweredTimeOut =
    (h g : List TransactionOp) (p : Peer) (m : Message Start) (t : ℕ)
    → IsRun (g ++ DidAsk p m t ∷ h)
    → Lacks (is_response_to (new_key h)) g
    → FollowsSchedule (new_key h) t (request_moments (head_of m)) (request_results (new_key h) p m t) (times_fired (new_key h) g) (g ++ DidAsk p m t ∷ h)

-- an INVITE that had a provisional response waits for no deadline until it has a final one: it is neither retransmitted nor timed out
abbrev pub RingingDoesNotTimeOut : Type 0
RingingDoesNotTimeOut =
    (h g f : List TransactionOp) (p q : Peer) (m n : Message Start) (t s : ℕ)
    → IsRun (f ++ DidHear q n s (part.Answer (new_key h)) ∷ (g ++ DidAsk p m t ∷ h))
    → is_invite (head_of m) ≡ true
    → is_provisional (head_of n).status ≡ true
    → Lacks (is_response_to (new_key h)) g
    → Lacks (is_final_to (new_key h)) f
    → option_map deadline (by_key (new_key h) (live (f ++ DidHear q n s (part.Answer (new_key h)) ∷ (g ++ DidAsk p m t ∷ h)))) ≡ Some None

-- a live server INVITE transaction without a final
pub record AwaitsFinal (key : ℕ) (e : Entry) (h : List TransactionOp) : Type 0 where
  pub live : by_key key (live h) ≡ Some e
  pub server : e.is_server ≡ true
  pub invite : is_invite e.head ≡ true
  pub undone : e.final_status ≡ 0

-- the ACK of this final of this INVITE is received: of a non-2xx in its transaction; of a 2xx by Call-ID, both tags and the number of CSeq
abbrev pub acknowledges : ℕ → Head → Head → Message Start → MessageClass → Bool
acknowledges key asked final m part.Fresh = false
acknowledges key asked final m part.Full = false
acknowledges key asked final m (part.Repeat k) = false
acknowledges key asked final m (part.RepeatedFinal k) = false
acknowledges key asked final m (part.Answer k) = false
acknowledges key asked final m (part.Acked k) = k == key
acknowledges key asked final m part.AckOf2xx = is_success final.status && is_same_call asked (head_of m) && bytes_eq final.to_tag (head_of m).to_tag
acknowledges key asked final m part.Stray = false

abbrev pub is_ack_to : ℕ → Head → Head → TransactionOp → Bool
is_ack_to key asked final (DidBegin step) = false
is_ack_to key asked final (DidHear p m now taken) = acknowledges key asked final m taken
is_ack_to key asked final (DidAsk p m now) = false
is_ack_to key asked final (DidReply k m now) = false
is_ack_to key asked final (DidAck k m) = false
is_ack_to key asked final (DidFire k) = false
is_ack_to key asked final (DidSettle k own) = false

-- what `due` returns in turn of a final that was sent at t: it is retransmitted, and at last its transaction ends
abbrev pub final_results : ℕ → Peer → Message Start → ℕ → List Due
final_results key p m t = map (retransmission p m t) (moments_of schedule.Other) ++ due.Over (tkey key) (t + 32000) ∷ []

-- a final of an INVITE that was sent at t follows its closed list for as long as its ACK is not received, whatever else is called (Timers G and H, and those of a 2xx)
abbrev pub FinalsAwaitTheirAck : Type 0
FinalsAwaitTheirAck =
    (h g : List TransactionOp) (key : ℕ) (e : Entry) (m : Message Start) (t : ℕ)
    → AwaitsFinal key e h
    → is_provisional (head_of m).status ≡ false
    → IsRun (g ++ DidReply key m t ∷ h)
    → Lacks (is_ack_to key e.head (head_of m)) g
    → FollowsSchedule key t (moments_of schedule.Other) (final_results key e.peer m t) (times_fired key g) (g ++ DidReply key m t ∷ h)

-- what the ACK of the 2xx of this transaction leaves
pub record EndsSuccess (e : Entry) (m : Head) (before after : List Entry) : Type 0 where
  -- the 2xx is not retransmitted, and the transaction ends when it would have ended
  pub ended : option_map retransmission_at (by_key e.key after) ≡ Some None
  pub end : option_map deadline (by_key e.key after) ≡ Some (Some (e.start + 32000))
  -- a transaction whose 2xx it does not acknowledge is as before
  pub others : (key : ℕ) (x : Entry) → by_key key before ≡ Some x → is_ack_of m x ≡ false → by_key key after ≡ Some x

abbrev pub AcksOf2xxEndRetransmission : Type 0
AcksOf2xxEndRetransmission =
    (h : List TransactionOp) (p : Peer) (m : Message Start) (now : ℕ) (e : Entry)
    → by_key e.key (live h) ≡ Some e
    → is_ack_of (head_of m) e ≡ true
    → class_of (head_of m) (live h) ≡ part.AckOf2xx
    → EndsSuccess e (head_of m) (live h) (live (after_hear h p m now))

-- and once the ACK of its final was received, a transaction retransmits nothing, whatever is called
abbrev pub AckedRetransmitsNothing : Type 0
AckedRetransmitsNothing =
    (h g : List TransactionOp) (key : ℕ) (e x : Entry)
    → IsRun (g ++ h)
    → by_key key (live h) ≡ Some e
    → e.is_acked ≡ true
    → by_key key (live (g ++ h)) ≡ Some x
    → retransmission_at x ≡ None

-- a live client INVITE transaction that has received a final from 300
pub record ReceivedRefusal (key : ℕ) (e : Entry) (h : List TransactionOp) : Type 0 where
  pub live : by_key key (live h) ≡ Some e
  pub client : e.is_server ≡ false
  pub invite : is_invite e.head ≡ true
  pub refused : e.is_refused ≡ true

-- an ACK is sent in this transaction
abbrev pub is_ack_in : ℕ → TransactionOp → Bool
is_ack_in key (DidBegin step) = false
is_ack_in key (DidHear p m now taken) = false
is_ack_in key (DidAsk p m now) = false
is_ack_in key (DidReply k m now) = false
is_ack_in key (DidAck k m) = k == key
is_ack_in key (DidFire k) = false
is_ack_in key (DidSettle k own) = false

-- for each non-2xx final that is received in a client INVITE transaction after its ACK was sent, that ACK is sent again, to the peer of the request, until another ACK is sent
-- (§17.1.1.3)
abbrev pub KeptAcksAreRetransmitted : Type 0
KeptAcksAreRetransmitted =
    (h g : List TransactionOp) (key : ℕ) (e : Entry) (m n : Message Start) (p : Peer)
    → IsRun (g ++ DidAck key m ∷ h)
    → ReceivedRefusal key e h
    → Lacks (is_ack_in key) g
    → (head_of n).is_request ≡ false
    → is_refusal (head_of n).status ≡ true
    → matching_key (g ++ DidAck key m ∷ h) n ≡ Some (tkey key)
    → hear_result (g ++ DidAck key m ∷ h) p n ≡ Some (heard.Repeat (Some (e.peer, message_text m)))

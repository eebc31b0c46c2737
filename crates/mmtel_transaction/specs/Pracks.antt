-- A reliable provisional response among other operations: it is retransmitted until it is settled, as by its PRACK, or a final response is sent (RFC 3262 §3).
use Rattle.std.specs.Prelude.{◌≡◌, ◌<◌, ℕ, ◌+◌, Bool, true, false, not, ◌&&◌, ◌==◌, if◌then◌else◌, List, [], ◌∷◌, Option, Some, None, slice_get}
use Rattle.mmtel_message.specs.Message.{Message}
use Rattle.mmtel_message.specs.Texts.{message_text}
use Rattle.mmtel_message.specs.declared.messages.Start.{Start}
use Rattle.mmtel_timers.specs.Schedules.{moments_of}
use Rattle.mmtel_timers.specs.declared.schedules.Schedule.TheVariants as schedule
use Rattle.mmtel_transaction.specs.Heads.{head_of, is_provisional, reliable_number}
use Rattle.mmtel_transaction.specs.Deadlines.{message_due, scheduled_moment}
use Rattle.mmtel_transaction.specs.Operations.{TransactionOp, DidBegin, DidHear, DidAsk, DidReply, DidAck, DidFire, DidSettle, live, send_count, step_of}
use Rattle.mmtel_transaction.specs.Results.{DueEntryView, by_key, due_result, next_due}
use Rattle.mmtel_transaction.specs.Runs.{IsRun}
use Rattle.mmtel_transaction.specs.declared.entries.Entry.{Entry}
use Rattle.mmtel_transaction.specs.declared.entries.ReliableResponse.{ReliableResponse}
use Rattle.mmtel_transaction.specs.declared.words.Due.TheVariants as due

-- a live server transaction without a final
pub record IsUnanswered (key : ℕ) (h : List TransactionOp) (e : Entry) : Type 0 where
  pub live : by_key key (live h) ≡ Some e
  pub server : e.is_server ≡ true
  pub undone : e.final_status ≡ 0

-- and at this position of it this reliable response, which waits for its PRACK
pub record WaitsAt (key : ℕ) (h : List TransactionOp) (e : Entry) (place : ℕ) (answer : ReliableResponse) : Type 0 where
  pub unanswered : IsUnanswered key h e
  pub there : slice_get e.reliable place ≡ Some answer

-- whether a response of this number is settled with one of that number, or with all
abbrev pub settles : ℕ → Option ℕ → Bool
settles own None = true
settles own (Some n) = own == n

-- this response is settled, or a final is sent in its transaction
abbrev pub ends_reliable : ℕ → ℕ → TransactionOp → Bool
ends_reliable key own (DidBegin step) = false
ends_reliable key own (DidHear p m now taken) = false
ends_reliable key own (DidAsk p m now) = false
ends_reliable key own (DidReply k m now) = (k == key) && not (is_provisional (head_of m).status)
ends_reliable key own (DidAck k m) = false
ends_reliable key own (DidFire k) = false
ends_reliable key own (DidSettle k n) = (k == key) && settles own n

-- the deadline of the response at this position fires
abbrev pub is_place : ℕ → Option ℕ → Bool
is_place place None = false
is_place place (Some p) = p == place

abbrev pub fires_reliable : ℕ → ℕ → Entry → TransactionOp → Bool
fires_reliable key place e (DidBegin step) = false
fires_reliable key place e (DidHear p m now taken) = false
fires_reliable key place e (DidAsk p m now) = false
fires_reliable key place e (DidReply k m now) = false
fires_reliable key place e (DidAck k m) = false
fires_reliable key place e (DidFire k) = (k == key) && is_place place (message_due e)
fires_reliable key place e (DidSettle k n) = false

-- then it was retransmitted once more
abbrev pub retransmitted_if : Bool → ℕ → ReliableResponse → ReliableResponse
retransmitted_if b step answer = if b then record answer { retransmissions = answer.retransmissions + 1; step = step } else answer

-- a response with a number that is sent in such a transaction waits there
abbrev pub SentReliableWait : Type 0
SentReliableWait =
    (h : List TransactionOp) (key : ℕ) (e : Entry) (m : Message Start) (t own : ℕ)
    → IsUnanswered key h e
    → reliable_number m ≡ Some own
    → (x : Entry) × (place : ℕ) × WaitsAt key (DidReply key m t ∷ h) x place
    (record { rseq = own; text = message_text m; start = t; retransmissions = 0; step = step_of h; order = send_count h })

-- and continues to wait whatever is called, changed by nothing but its own deadline, until it is ended
abbrev pub ReliableGoOn : Type 0
ReliableGoOn =
    (c : TransactionOp) (h : List TransactionOp) (key : ℕ) (e : Entry) (place : ℕ) (answer : ReliableResponse)
    → IsRun (c ∷ h)
    → WaitsAt key h e place answer
    → ends_reliable key answer.rseq c ≡ false
    → (x : Entry) × (next : ℕ) × WaitsAt key (c ∷ h) x next (retransmitted_if (fires_reliable key place e c) (step_of h) answer)

-- what of it is due, and the result of that
pub record IsRetransmitted (h : List TransactionOp) (key : ℕ) (e : Entry) (place : ℕ) (answer : ReliableResponse) : Type 0 where
  -- where nothing is due its next moment is later than now
  pub waits : (now at : ℕ) → scheduled_moment answer.start (moments_of schedule.Invite) answer.retransmissions ≡ Some at → next_due now (live h) ≡ None → now < at
  -- when its deadline fires, at that moment, it is retransmitted to the peer that sent the request
  pub moment : (now : ℕ) (n : DueEntryView) → next_due now (live h) ≡ Some n → n.entry.key ≡ key → message_due n.entry ≡ Some place
      → scheduled_moment answer.start (moments_of schedule.Invite) answer.retransmissions ≡ Some n.at
  pub reports : (now : ℕ) (n : DueEntryView) → next_due now (live h) ≡ Some n → n.entry.key ≡ key → message_due n.entry ≡ Some place →
      due_result (Some n) ≡ due.Again e.peer n.at answer.text

abbrev pub ReliableAreRetransmitted : Type 0
ReliableAreRetransmitted = (h : List TransactionOp) (key : ℕ) (e : Entry) (place : ℕ) (answer : ReliableResponse) → IsRun h →
    WaitsAt key h e place answer → IsRetransmitted h key e place answer

-- what was settled no longer waits
abbrev pub SettledAreGone : Type 0
SettledAreGone =
    (h : List TransactionOp) (key : ℕ) (own : Option ℕ) (x : Entry) (place : ℕ) (answer : ReliableResponse)
    → by_key key (live (DidSettle key own ∷ h)) ≡ Some x
    → slice_get x.reliable place ≡ Some answer
    → settles answer.rseq own ≡ false

-- and a transaction with a final has no response that waits
abbrev pub FinalsEndReliable : Type 0
FinalsEndReliable = (h : List TransactionOp) (key : ℕ) (e : Entry) → IsRun h → by_key key (live h) ≡ Some e → (e.final_status ≡ 0 → ⊥) → e.reliable ≡ []

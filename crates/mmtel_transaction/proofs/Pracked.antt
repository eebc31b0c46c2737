-- A reliable response is retransmitted until it is settled or a final is sent.
use Rattle.std.proofs.Common.{◌≡◌, ℕ, zero, suc, ◌+◌, ◌≤◌, ◌<◌, List, [], ◌∷◌, ◌++◌, length, refl, true, false, Bool, not, ◌&&◌, ◌||◌, inl, inr, sym, ap, ◌∙◌, arith, cond, subst}
use Rattle.std.specs.Prelude.{Option, Some, None, ◌==◌, codes, filter, is_some, nat_le, nat_lt, option_map, slice_get}
use Rattle.std.specs.Option.{option_or}
use Rattle.std.proofs.lemmas.Bool.{and_parts, both_ways, cases_lt, eq-eqb, eqb-false, eqb-true, ne_eqb, not-false, not-true, or_parts}
use Rattle.std.proofs.lemmas.Option.{none-some, same_Some}
use Rattle.mmtel_base.specs.Chain.{◌>>=◌}
use Rattle.mmtel_base.specs.Numbers.{number_of}
use Rattle.mmtel_types.specs.declared.numbers.Peer.{Peer}
use Rattle.mmtel_message.specs.Message.{Message, first_value}
use Rattle.mmtel_message.specs.Texts.{message_text}
use Rattle.mmtel_message.specs.declared.messages.Start.{Start}
use Rattle.mmtel_timers.specs.Schedules.{moments_of}
use Rattle.mmtel_timers.specs.Shelves.{Has}
use Rattle.mmtel_timers.specs.declared.schedules.Schedule.TheVariants as schedule
use Rattle.mmtel_transaction.specs.declared.heads.Head.{Head}
use Rattle.mmtel_transaction.specs.declared.entries.TransactionTimer.{TransactionTimer}
use Rattle.mmtel_transaction.specs.declared.entries.Entry.{Entry}
use Rattle.mmtel_transaction.specs.declared.entries.State.TheVariants.{Absorbing}
use Rattle.mmtel_transaction.specs.declared.entries.ReliableResponse.{ReliableResponse}
use Rattle.mmtel_transaction.specs.declared.message_class.MessageClass.{MessageClass}
use Rattle.mmtel_transaction.specs.declared.message_class.MessageClass.TheVariants as part
use Rattle.mmtel_transaction.specs.declared.words.Due.TheVariants as due
use Rattle.mmtel_transaction.specs.Heads.{code_of, head_of, is_invite, is_provisional, reliable_number}
use Rattle.mmtel_transaction.specs.Deadlines.{timer_of, scheduled_moment, deadline, is_ending, foremost_in, is_untimed, last_deadline, message_due, state_retransmission_at, step_due, order_due}
use Rattle.mmtel_transaction.specs.Changes.{after_failure_ack, reliable_response_of, after_response, after_timer, after_timer_by, after_final, is_ack_of}
use Rattle.mmtel_transaction.specs.Changes.{with_kept_ack, after_any_reply, after_provisional, after_reply, after_retransmission, after_settling, with_reliable_if, without_rseq}
use Rattle.mmtel_transaction.specs.Operations.{TransactionOp, DidBegin, DidHear, DidAsk, DidReply, DidAck, DidFire, DidSettle, change, opened_on_receipt, is_live, live, send_count, openings, opens, step_of}
use Rattle.mmtel_transaction.specs.Results.{DueEntryView, by_key, class_of, due_result, next_due, text_by, tkey}
use Rattle.mmtel_transaction.specs.Runs.{IsNextOf, IsRun}
use Rattle.mmtel_transaction.specs.Pracks.{FinalsEndReliable, IsUnanswered, ReliableAreRetransmitted, ReliableGoOn, SentReliableWait}
use Rattle.mmtel_transaction.specs.Pracks.{SettledAreGone, WaitsAt, ends_reliable, fires_reliable, is_place, retransmitted_if, settles}
use Rattle.mmtel_transaction.proofs.Acks.{final_done, of_2xx, sound}
use Rattle.mmtel_transaction.proofs.Among.{not_acked}
use Rattle.mmtel_transaction.proofs.Before.{not_less}
use Rattle.mmtel_transaction.proofs.Foremost.{answers_in, fired_answer, foremost_there, its_moment, no_alarm, none_before, retransmitted, retransmitted_at, timer_in, timer_there, which}
use Rattle.mmtel_transaction.proofs.Having.{at_key, has_live, has_more, has_more_back, of_key, run_before, same_entry}
use Rattle.mmtel_transaction.proofs.Identified.{status_is}
use Rattle.mmtel_transaction.proofs.Lists.{keeps_answered, keeps_change}
use Rattle.mmtel_transaction.proofs.Order.{is_next, none_due}
use Rattle.mmtel_transaction.proofs.Repetition.{no_response}

-- ---- responses in a list

get_left : (xs ys : List ReliableResponse) (i : ℕ) (a : ReliableResponse) → slice_get xs i ≡ Some a → slice_get (xs ++ ys) i ≡ Some a
get_left [] ys i a q = absurd (none-some a q)
get_left (x ∷ xs) ys zero a q = q
get_left (x ∷ xs) ys (suc i) a q = get_left xs ys i a q

get_last : (xs : List ReliableResponse) (a : ReliableResponse) → slice_get (xs ++ a ∷ []) (length xs) ≡ Some a
get_last [] a = refl
get_last (x ∷ xs) a = get_last xs a

test_suc : (p i : ℕ) → (p == i) ≡ (suc p == suc i)
test_suc p i = either (p == i) refl
  where
    either : (t : Bool) → (p == i) ≡ t → t ≡ (suc p == suc i)
    either true q = sym (eq-eqb (suc p) (suc i) (ap suc (eqb-true p i q)))
    either false q = sym (ne_eqb (suc p) (suc i) (λ r. eqb-false p i q (omega (arith, r))))

again_get : (s p : ℕ) (xs : List ReliableResponse) (i : ℕ) (a : ReliableResponse) → slice_get xs i ≡ Some a → slice_get (retransmitted_at s p xs) i ≡ Some (retransmitted_if (p == i) s a)
again_get s p [] i a q = absurd (none-some a q)
again_get s zero (x ∷ xs) zero a q = ap (λ y. Some (retransmitted s y)) (same_Some x a q)
again_get s zero (x ∷ xs) (suc i) a q = q ∙ ap (λ t. Some (retransmitted_if t s a)) (sym (ne_eqb 0 (suc i) (λ r. absurd (omega (arith, r)))))
again_get s (suc p) (x ∷ xs) zero a q = q ∙ ap (λ t. Some (retransmitted_if t s a)) (sym (ne_eqb (suc p) 0 (λ r. absurd (omega (arith, r)))))
again_get s (suc p) (x ∷ xs) (suc i) a q = again_get s p xs i a q ∙ ap (λ t. Some (retransmitted_if t s a)) (test_suc p i)

stays_in : (f : ReliableResponse → Bool) (xs : List ReliableResponse) (i : ℕ) (a : ReliableResponse) → slice_get xs i ≡ Some a → f a ≡ true → (j : ℕ) × (slice_get (filter f xs) j ≡ Some a)
stays_in f [] i a q t = absurd (none-some a q)
stays_in f (x ∷ xs) zero a q t = here (f x) (ap f (same_Some x a q) ∙ t)
  where
    here : (b : Bool) → b ≡ true → (j : ℕ) × (slice_get (cond b (x ∷ filter f xs) (filter f xs)) j ≡ Some a)
    here true e = (0, q)
    here false e = absurd cc
stays_in f (x ∷ xs) (suc i) a q t = there (f x) (stays_in f xs i a q t)
  where
    there : (b : Bool) → (j : ℕ) × (slice_get (filter f xs) j ≡ Some a) → (j : ℕ) × (slice_get (cond b (x ∷ filter f xs) (filter f xs)) j ≡ Some a)
    there true w = (suc w.0, w.1)
    there false w = w

passes : (f : ReliableResponse → Bool) (xs : List ReliableResponse) (i : ℕ) (a : ReliableResponse) → slice_get (filter f xs) i ≡ Some a → f a ≡ true
passes f [] i a q = absurd (none-some a q)
passes f (x ∷ xs) i a q = either (f x) refl i q (λ j r. passes f xs j a r)
  where
    either : (b : Bool) → f x ≡ b → (i : ℕ) → slice_get (cond b (x ∷ filter f xs) (filter f xs)) i ≡ Some a → ((j : ℕ) → slice_get (filter f xs) j ≡ Some a → f a ≡ true) → f a ≡ true
    either true t zero r ih = ap f (sym (same_Some x a r)) ∙ t
    either true t (suc i) r ih = ih i r
    either false t i r ih = ih i r

timer_is : (xs : List ReliableResponse) (i : ℕ) (a : ReliableResponse) → slice_get xs i ≡ Some a → timer_there xs i ≡ timer_of a
timer_is [] i a q = absurd (none-some a q)
timer_is (x ∷ xs) zero a q = ap timer_of (same_Some x a q)
timer_is (x ∷ xs) (suc i) a q = timer_is xs i a q

-- ---- where responses wait

-- without a final the state of a server transaction has no deadline; with one, and in a client transaction, no response waits
record IsOpen (e : Entry) : Type 0 where
  idle : e.is_server ≡ true → (e.final_status == 0) ≡ true → is_untimed e.state ≡ true
  none : (e.final_status == 0) ≡ false → e.reliable ≡ []
  client : e.is_server ≡ false → e.reliable ≡ []

open_if : (b : Bool) (x y : Entry) → (b ≡ true → IsOpen x) → (b ≡ false → IsOpen y) → IsOpen (cond b x y)
open_if true x y f g = f refl
open_if false x y f g = g refl

open_client : (x : Entry) → x.is_server ≡ false → x.reliable ≡ [] → IsOpen x
open_client x q r = record { idle = λ s d. absurd (both_ways x.is_server q s); none = λ d. r; client = λ s. r }

same_answers : (b : Bool) (x y : Entry) (xs : List ReliableResponse) → x.reliable ≡ xs → y.reliable ≡ xs → (cond b x y).reliable ≡ xs
same_answers true x y xs p q = p
same_answers false x y xs p q = q

answered_same : (s st now : ℕ) (e : Entry) → (after_response s st now e).reliable ≡ e.reliable
answered_same s st now e = same_answers (is_provisional st) (after_provisional s now e) (after_final s st now e) e.reliable
    (same_answers (e.is_early || not (e.final_status == 0)) e _ e.reliable refl refl)
    (same_answers (not (is_invite e.head)) _ _ e.reliable refl (same_answers (not (e.final_status == 0)) _ _ e.reliable refl refl))

module _ (e : Entry) (o : IsOpen e) where
  -- where the condition for sending holds
  guard_server : (not e.is_server || not (e.final_status == 0)) ≡ false → e.is_server ≡ true
  guard_server q = not-false e.is_server (or_parts (not e.is_server) (not (e.final_status == 0)) q).0

  guard_undone : (not e.is_server || not (e.final_status == 0)) ≡ false → (e.final_status == 0) ≡ true
  guard_undone q = not-false (e.final_status == 0) (or_parts (not e.is_server) (not (e.final_status == 0)) q).1

  open_with : (answer : Option ReliableResponse) → IsOpen (with_reliable_if answer e)
  open_with None = o
  open_with (Some answer) = open_if (not e.is_server || not (e.final_status == 0)) e _ (λ q. o) (λ q. record {
    idle = o.idle;
    none = λ d. absurd (both_ways (e.final_status == 0) d (guard_undone q));
    client = λ s. absurd (both_ways e.is_server s (guard_server q));
  })

  open_replied : (s i st : ℕ) (t g : List ℕ) (now : ℕ) → IsOpen (after_reply s i st t g now e)
  open_replied s i st t g now = open_if (not e.is_server || not (e.final_status == 0)) e _ (λ q. o) (λ q.
      open_if (is_provisional st) _ _ (λ p. record { idle = o.idle; none = o.none; client = o.client })
      (λ p. record { idle = λ x d. absurd (both_ways (st == 0) (final_done st p) d); none = λ d. refl; client = λ x. refl }))

  open_fired : (first : Option (ℕ × TransactionTimer)) (s : ℕ) → IsOpen (after_timer_by first s e)
  open_fired (Some f) s = record {
    idle = o.idle;
    none = λ d. ap (λ xs. after_retransmission s f.0 (slice_get xs f.0) xs) (o.none d);
    client = λ x. ap (λ xs. after_retransmission s f.0 (slice_get xs f.0) xs) (o.client x);
  }
  open_fired None s = open_if (is_some (state_retransmission_at e)) _ _ (λ q. record { idle = o.idle; none = o.none; client = o.client }) (λ q. record { idle = o.idle; none = o.none; client = o.client })

  open_settled : (own : Option ℕ) → IsOpen (after_settling own e)
  open_settled None = record { idle = o.idle; none = λ d. refl; client = λ x. refl }
  open_settled (Some own) = record { idle = o.idle; none = λ d. ap (without_rseq own) (o.none d); client = λ x. ap (without_rseq own) (o.client x) }

  open_kept : (t : List ℕ) → IsOpen (with_kept_ack t e)
  open_kept t = open_if (not e.is_server && e.is_refused) _ e (λ q. record { idle = o.idle; none = o.none; client = o.client }) (λ q. o)

  -- what is acknowledged has a final
  open_busy : (x : Entry) → (e.final_status == 0) ≡ false → x.final_status ≡ e.final_status → x.is_server ≡ e.is_server → x.reliable ≡ e.reliable → IsOpen x
  open_busy x d k s r = record {
    idle = λ y z. absurd (both_ways (e.final_status == 0) d (ap (λ n. n == 0) (sym k) ∙ z));
    none = λ y. r ∙ o.none d;
    client = λ y. r ∙ o.client (sym s ∙ y);
  }

open_offered : (e : Entry) → IsOpen e → (s i : ℕ) (m : Message Start) (now : ℕ) → IsOpen (after_any_reply s i m now e)
open_offered e o s i m now =
    let a = reliable_response_of s i m (message_text m) now in
    open_replied (with_reliable_if a e) (open_with e o a) s i (head_of m).status (message_text m) (head_of m).to_tag now

module _ (h : List TransactionOp) (run : IsRun h) (e : Entry) (g : Has e (live h)) (o : IsOpen e) where
  open_answer : (m : Head) (j : ℕ) (x : Entry) → part.Answer j ≡ class_of m (live h) → x.is_server ≡ e.is_server → x.reliable ≡ e.reliable → IsOpen (cond (e.key == j) x e)
  open_answer m j x q s r = open_if (e.key == j) x e (λ k. either e.is_server refl k) (λ k. o)
    where
      either : (b : Bool) → e.is_server ≡ b → (e.key == j) ≡ true → IsOpen x
      either true t k = absurd (no_response h m j e q g t (eqb-true e.key j k))
      either false t k = open_client x (s ∙ t) (r ∙ o.client t)

  open_acked : (m : Head) (j s now : ℕ) → part.Acked j ≡ class_of m (live h) → IsOpen (cond (e.key == j) (after_failure_ack s now e) e)
  open_acked m j s now q = open_if (e.key == j) (after_failure_ack s now e) e (λ k. open_if e.is_acked e _ (λ a. o) (λ a. open_busy e o _ (refused_done (e.is_refused) refl k) refl refl refl)) (λ k. o)
    where
      refused_done : (b : Bool) → e.is_refused ≡ b → (e.key == j) ≡ true → (e.final_status == 0) ≡ false
      refused_done true t k = (sound h run e g).refused t
      refused_done false t k = absurd (both_ways (e.key == j) (not_acked h m j e q g t) k)

  open_heard : (p : Peer) (m : Message Start) (now : ℕ) (t : MessageClass) → t ≡ class_of (head_of m) (live h) → IsOpen (change (step_of h) (send_count h) (DidHear p m now t) e)
  open_heard p m now part.Fresh q = o
  open_heard p m now part.Full q = o
  open_heard p m now (part.Repeat j) q = o
  open_heard p m now (part.RepeatedFinal j) q = o
  open_heard p m now (part.Answer j) q = open_answer (head_of m) j (after_response (step_of h) (head_of m).status now e) q (keeps_answered (step_of h) (head_of m).status now e).server
      (answered_same (step_of h) (head_of m).status now e)
  open_heard p m now (part.Acked j) q = open_acked (head_of m) j (step_of h) now q
  open_heard p m now part.AckOf2xx q = open_if (is_ack_of (head_of m) e) _ e (λ a. open_busy e o _ (of_2xx e (sound h run e g) (head_of m) a) refl refl refl) (λ a. o)
  open_heard p m now part.Stray q = o

  open_more : (c : TransactionOp) → IsRun (c ∷ h) → IsOpen (change (step_of h) (send_count h) c e)
  open_more (DidBegin n) r = o
  open_more (DidHear p m now t) r = open_heard p m now t r.0
  open_more (DidAsk p m now) r = o
  open_more (DidReply j m now) r = open_if (e.key == j) (after_any_reply (step_of h) (send_count h) m now e) e (λ q. open_offered e o (step_of h) (send_count h) m now) (λ q. o)
  open_more (DidAck j m) r = open_if (e.key == j) (with_kept_ack (message_text m) e) e (λ q. open_kept e o (message_text m)) (λ q. o)
  open_more (DidFire j) r = open_if (e.key == j) (after_timer (step_of h) e) e (λ q. open_fired e o (foremost_in e) (step_of h)) (λ q. o)
  open_more (DidSettle j own) r = open_if (e.key == j) (after_settling own e) e (λ q. open_settled e o own) (λ q. o)

open_same : (e x : Entry) → e ≡ x → IsOpen x → IsOpen e
open_same e x q o = subst IsOpen (sym q) o

open_first : (s k : ℕ) (p : Peer) (m : Message Start) (now : ℕ) (t : MessageClass) (e : Entry) → Has e (opened_on_receipt s k p m now t) → IsOpen e
open_first s k p m now part.Fresh e (inl q) = open_same e _ q (record { idle = λ x d. refl; none = λ d. refl; client = λ x. refl })
open_first s k p m now part.Fresh e (inr f) = absurd f
open_first s k p m now part.Full e f = absurd f
open_first s k p m now (part.Repeat j) e f = absurd f
open_first s k p m now (part.RepeatedFinal j) e f = absurd f
open_first s k p m now (part.Answer j) e f = absurd f
open_first s k p m now (part.Acked j) e f = absurd f
open_first s k p m now part.AckOf2xx e f = absurd f
open_first s k p m now part.Stray e f = absurd f

open_news : (s i k : ℕ) (c : TransactionOp) (e : Entry) → Has e (opens s i k c) → IsOpen e
open_news s i k (DidBegin n) e f = absurd f
open_news s i k (DidHear p m now t) e f = open_first s k p m now t e f
open_news s i k (DidAsk p m now) e (inl q) = open_same e _ q (open_client _ refl refl)
open_news s i k (DidAsk p m now) e (inr f) = absurd f
open_news s i k (DidReply j m now) e f = absurd f
open_news s i k (DidAck j m) e f = absurd f
open_news s i k (DidFire j) e f = absurd f
open_news s i k (DidSettle j own) e f = absurd f

is_open : (h : List TransactionOp) → IsRun h → (e : Entry) → Has e (live h) → IsOpen e
is_open [] r e g = absurd g
is_open (c ∷ h) r e g = elim (has_more_back c h e g) [
  | inl w ↦ open_same e (change (step_of h) (send_count h) c w.0) w.2 (open_more h (run_before c h r) w.0 w.1 (is_open h (run_before c h r) w.0 w.1) c r)
  | inr f ↦ open_news (step_of h) (send_count h) (length (openings h)) c e f
]

pub finals_end : FinalsEndReliable
finals_end h key e run q d = (is_open h run e (of_key h key e q).0).none (ne_eqb e.final_status 0 d)

-- ---- a response with a number

number_code : (m : Message Start) (own : ℕ) → reliable_number m ≡ Some own → nat_lt (code_of m.start) 200 ≡ true
unfolding reliable_number
number_code m own q = (and_parts (nat_le 101 (code_of m.start)) (nat_lt (code_of m.start) 200) (either (nat_le 101 (code_of m.start) && nat_lt (code_of m.start) 200) q)).1
  where
    either : (b : Bool) → cond b (first_value (codes "RSeq") m.lines >>= number_of 2147483647) None ≡ Some own → b ≡ true
    either true r = refl
    either false r = absurd (none-some own r)

is_early : (m : Message Start) (own : ℕ) → reliable_number m ≡ Some own → is_provisional (head_of m).status ≡ true
is_early m own q = ap (λ n. nat_lt n 200) (status_is m) ∙ number_code m own q

-- ---- from operation to operation

-- the transaction that an operation leaves so
module _ (c : TransactionOp) (h : List TransactionOp) (key : ℕ) (e x : Entry) (u : IsUnanswered key h e) (same : change (step_of h) (send_count h) c e ≡ x) (alive : is_live x ≡ true)
    (server : x.is_server ≡ e.is_server) (undone : x.final_status ≡ e.final_status) where
  left_live : by_key key (live (c ∷ h)) ≡ Some x
  left_live =
      let g = of_key h key e u.live in
      let k : x.key ≡ key = ap (λ (y : Entry). y.key) (sym same) ∙ ((keeps_change (step_of h) (send_count h) c e).key ∙ g.1) in
      subst (λ j. by_key j (live (c ∷ h)) ≡ Some x) k (at_key (c ∷ h) x (subst (λ y. Has y (live (c ∷ h))) same (has_more c h e g.0 (ap is_live same ∙ alive))))

  left_so : (place : ℕ) (a : ReliableResponse) → slice_get x.reliable place ≡ Some a → (y : Entry) × (next : ℕ) × WaitsAt key (c ∷ h) y next a
  left_so place a q = (x, place, record { unanswered = record { live = left_live; server = server ∙ u.server; undone = undone ∙ u.undone }; there = q })

-- a provisional response, reliable or not, that is sent there
abbrev more_answers : Option ReliableResponse → List ReliableResponse → List ReliableResponse
more_answers None xs = xs
more_answers (Some a) xs = xs ++ a ∷ []

early_is : (e : Entry) → e.is_server ≡ true → e.final_status ≡ 0 → (s i st t : ℕ) (text tag : List ℕ) (o : Option ReliableResponse) → is_provisional st ≡ true
    → after_reply s i st text tag t (with_reliable_if o e) ≡ record e { last = Some text; reliable = more_answers o e.reliable }
early_is e server undone s i st t text tag None p = rw (server, undone, p) refl
early_is e server undone s i st t text tag (Some a) p = rw (server, undone, p) refl

more_get : (o : Option ReliableResponse) (xs : List ReliableResponse) (i : ℕ) (a : ReliableResponse) → slice_get xs i ≡ Some a → slice_get (more_answers o xs) i ≡ Some a
more_get None xs i a q = q
more_get (Some b) xs i a q = get_left xs (b ∷ []) i a q

module _ (h : List TransactionOp) (key : ℕ) (e : Entry) (u : IsUnanswered key h e) where
  its_key : (e.key == key) ≡ true
  its_key = eq-eqb e.key key (of_key h key e u.live).1

  alive : is_live e ≡ true
  alive = has_live h e (of_key h key e u.live).0

  reply_is : (k : ℕ) (m : Message Start) (t : ℕ) → (e.key == k) ≡ true → is_provisional (head_of m).status ≡ true
      → change (step_of h) (send_count h) (DidReply k m t) e ≡ record e { last = Some (message_text m); reliable = more_answers (reliable_response_of (step_of h) (send_count h) m (message_text m) t) e.reliable }
  reply_is k m t q p =
      ap (λ b. cond b (after_any_reply (step_of h) (send_count h) m t e) e) q
      ∙ early_is e u.server u.undone (step_of h) (send_count h) (head_of m).status t (message_text m) (head_of m).to_tag (reliable_response_of (step_of h) (send_count h) m (message_text m) t) p

pub sent_reliable_wait : SentReliableWait
sent_reliable_wait h key e m t own u n =
    let a : ReliableResponse = record { rseq = own; text = message_text m; start = t; retransmissions = 0; step = step_of h; order = send_count h } in
    let x : Entry = record e { last = Some (message_text m); reliable = e.reliable ++ a ∷ [] } in
    let same : change (step_of h) (send_count h) (DidReply key m t) e ≡ x =
    reply_is h key e u key m t (its_key h key e u) (is_early m own n)
    ∙ ap (λ (o : Option ℕ). (let r : Entry = record e {
      last = Some (message_text m);
      reliable = more_answers (option_map (λ y. record { rseq = y; text = message_text m; start = t; retransmissions = 0; step = step_of h; order = send_count h }) o) e.reliable;
    } in r)) n in
    left_so (DidReply key m t) h key e x u same (alive h key e u) refl refl (length e.reliable) a (get_last e.reliable a)

module _ (h : List TransactionOp) (key : ℕ) (e : Entry) (place : ℕ) (a : ReliableResponse) (w : WaitsAt key h e place a) where
  abbrev u : IsUnanswered key h e
  u = w.unanswered

  stands : Has e (live h)
  stands = (of_key h key e u.live).0

  abbrev GoesOn : TransactionOp → ReliableResponse → Type 0
  GoesOn c b = (x : Entry) × (next : ℕ) × WaitsAt key (c ∷ h) x next b

  -- an operation that changes nothing of it
  quiet : (c : TransactionOp) → change (step_of h) (send_count h) c e ≡ e → GoesOn c a
  quiet c same = left_so c h key e e u same (alive h key e u) refl refl place a w.there

  hit_none : (j : ℕ) (x : Entry) → (e.key == j) ≡ false → cond (e.key == j) x e ≡ e
  hit_none j x q = ap (λ b. cond b x e) q

  undone : (e.final_status == 0) ≡ true
  undone = eq-eqb e.final_status 0 u.undone

  not_refused : IsRun h → e.is_refused ≡ false
  not_refused run = not-true e.is_refused (either e.is_refused refl)
    where
      either : (b : Bool) → e.is_refused ≡ b → not e.is_refused ≡ true
      either true t = absurd (both_ways (e.final_status == 0) ((sound h run e stands).refused t) undone)
      either false t = ap not t

  no_2xx : IsRun h → (m : Head) → is_ack_of m e ≡ false
  no_2xx run m = either (is_ack_of m e) refl
    where
      either : (b : Bool) → is_ack_of m e ≡ b → is_ack_of m e ≡ false
      either true t = absurd (both_ways (e.final_status == 0) (of_2xx e (sound h run e stands) m t) undone)
      either false t = t

  heard_on : IsRun h → (p : Peer) (m : Message Start) (now : ℕ) (t : MessageClass) → t ≡ class_of (head_of m) (live h) → GoesOn (DidHear p m now t) a
  heard_on run p m now part.Fresh q = quiet (DidHear p m now part.Fresh) refl
  heard_on run p m now part.Full q = quiet (DidHear p m now part.Full) refl
  heard_on run p m now (part.Repeat j) q = quiet (DidHear p m now (part.Repeat j)) refl
  heard_on run p m now (part.RepeatedFinal j) q = quiet (DidHear p m now (part.RepeatedFinal j)) refl
  heard_on run p m now (part.Answer j) q = quiet (DidHear p m now (part.Answer j)) (hit_none j _ (ne_eqb e.key j (no_response h (head_of m) j e q stands u.server)))
  heard_on run p m now (part.Acked j) q = quiet (DidHear p m now (part.Acked j)) (hit_none j _ (not_acked h (head_of m) j e q stands (not_refused run)))
  heard_on run p m now part.AckOf2xx q = quiet (DidHear p m now part.AckOf2xx) (ap (λ b. cond b (record e { is_acked = true; state = Absorbing; step = step_of h }) e) (no_2xx run (head_of m)))
  heard_on run p m now part.Stray q = quiet (DidHear p m now part.Stray) refl

  -- the comparison of an operation's key, from both sides
  turned : (j : ℕ) → (e.key == j) ≡ (j == key)
  turned j = ap (λ n. n == j) (of_key h key e u.live).1 ∙ either (key == j) (j == key) refl refl
    where
      either : (b c : Bool) → (key == j) ≡ b → (j == key) ≡ c → b ≡ c
      either true true p q = refl
      either false false p q = refl
      either true false p q = absurd (both_ways (j == key) q (eq-eqb j key (sym (eqb-true key j p))))
      either false true p q = absurd (both_ways (key == j) p (eq-eqb key j (sym (eqb-true j key q))))

  replied_on : (j : ℕ) (m : Message Start) (t : ℕ) → ((j == key) && not (is_provisional (head_of m).status)) ≡ false → GoesOn (DidReply j m t) a
  replied_on j m t q = either (j == key) refl q
    where
      either : (b : Bool) → (j == key) ≡ b → (b && not (is_provisional (head_of m).status)) ≡ false → GoesOn (DidReply j m t) a
      either false k r = quiet (DidReply j m t) (hit_none j _ (turned j ∙ k))
      either true k r =
          let o = reliable_response_of (step_of h) (send_count h) m (message_text m) t in
          let x : Entry = record e { last = Some (message_text m); reliable = more_answers o e.reliable } in
          left_so (DidReply j m t) h key e x u (reply_is h key e u j m t (turned j ∙ k) (not-false (is_provisional (head_of m).status) r)) (alive h key e u) refl refl place a (more_get o e.reliable place a w.there)

  acked_on : (j : ℕ) (m : Message Start) → GoesOn (DidAck j m) a
  acked_on j m = quiet (DidAck j m) (same_if (e.key == j))
    where
      kept_same : with_kept_ack (message_text m) e ≡ e
      kept_same = ap (λ b. cond (not b && e.is_refused) (record e { last = Some (message_text m) }) e) u.server

      same_if : (b : Bool) → cond b (with_kept_ack (message_text m) e) e ≡ e
      same_if true = kept_same
      same_if false = refl

  settled_on : (j : ℕ) (own : Option ℕ) → ((j == key) && settles a.rseq own) ≡ false → GoesOn (DidSettle j own) a
  settled_on j own q = either (j == key) refl q
    where
      by_own : (own : Option ℕ) → (e.key == j) ≡ true → settles a.rseq own ≡ false → GoesOn (DidSettle j own) a
      by_own None k r = absurd cc
      by_own (Some n) k r =
          let f : ReliableResponse → Bool = λ y. not (y.rseq == n) in
          let v = stays_in f e.reliable place a w.there (ap not r) in
          let x : Entry = record e { reliable = without_rseq n e.reliable } in
          left_so (DidSettle j (Some n)) h key e x u (ap (λ b. cond b (after_settling (Some n) e) e) k) (alive h key e u) refl refl v.0 a v.1

      either : (b : Bool) → (j == key) ≡ b → (b && settles a.rseq own) ≡ false → GoesOn (DidSettle j own) a
      either false k r = quiet (DidSettle j own) (hit_none j _ (turned j ∙ k))
      either true k r = by_own own (turned j ∙ k) r

  -- the next deadline of its transaction is that of a response
  next_answer : IsRun h → IsNextOf key h → (f : ℕ × TransactionTimer) × (foremost_in e ≡ Some f)
  next_answer run r =
      let n : DueEntryView = r.next in
      let v = is_next r.now (live h) n r.first in
      let same : n.entry ≡ e = same_entry h n.entry e v.stands stands (r.same ∙ sym (of_key h key e u.live).1) in
      elim (which e n.at (ap deadline (sym same) ∙ v.moment)) [
        | inl f ↦ (f.0, f.1)
        | inr b ↦ absurd (both_ways (is_untimed e.state) b.0 ((is_open h run e stands).idle u.server undone))
      ]

  fired_on : (j : ℕ) → IsRun h → IsNextOf j h → GoesOn (DidFire j) (retransmitted_if ((j == key) && is_place place (message_due e)) (step_of h) a)
  fired_on j run r = either (j == key) refl
    where
      either : (b : Bool) → (j == key) ≡ b → GoesOn (DidFire j) (retransmitted_if (b && is_place place (message_due e)) (step_of h) a)
      either false k = quiet (DidFire j) (hit_none j _ (turned j ∙ k))
      either true k =
          let v = next_answer run (subst (λ i. IsNextOf i h) (eqb-true j key k) r) in
          let f : ℕ × TransactionTimer = v.0 in
          let x : Entry = record e { reliable = retransmitted_at (step_of h) f.0 e.reliable } in
          let same : change (step_of h) (send_count h) (DidFire j) e ≡ x = ap (λ b. cond b (after_timer (step_of h) e) e) (turned j ∙ k) ∙ fired_answer e (step_of h) f v.1 in
          let message : is_place place (message_due e) ≡ (f.0 == place) = ap (λ (o : Option (ℕ × TransactionTimer)). is_place place (option_map (λ (y : ℕ × TransactionTimer). y.0) o)) v.1 in
          let there : slice_get x.reliable place ≡ Some (retransmitted_if (is_place place (message_due e)) (step_of h) a) =
          again_get (step_of h) f.0 e.reliable place a w.there ∙ ap (λ t. Some (retransmitted_if t (step_of h) a)) (sym message) in
          left_so (DidFire j) h key e x u same (alive h key e u) refl refl place (retransmitted_if (is_place place (message_due e)) (step_of h) a) there

  goes_on : (c : TransactionOp) → IsRun (c ∷ h) → ends_reliable key a.rseq c ≡ false → GoesOn c (retransmitted_if (fires_reliable key place e c) (step_of h) a)
  goes_on (DidBegin n) r q = quiet (DidBegin n) refl
  goes_on (DidHear p m now t) r q = heard_on r.1 p m now t r.0
  goes_on (DidAsk p m now) r q = quiet (DidAsk p m now) refl
  goes_on (DidReply j m t) r q = replied_on j m t q
  goes_on (DidAck j m) r q = acked_on j m
  goes_on (DidFire j) r q = fired_on j r.1 r.0
  goes_on (DidSettle j own) r q = settled_on j own q

  -- ---- when it is due

  deadline_key : IsRun h → (now at : ℕ) → scheduled_moment a.start (moments_of schedule.Invite) a.retransmissions ≡ Some at → next_due now (live h) ≡ None → now < at
  deadline_key run now at q n = either (deadline e) refl
    where
      its_alarm : TransactionTimer
      its_alarm = record { at = at; step = a.step; order = a.order }

      in_it : timer_in e (Some place) ≡ Some (record { at = at; step = a.step; order = a.order })
      in_it =
          answers_in e place ((is_open h run e stands).idle u.server undone)
          ∙ (timer_is e.reliable place a w.there
          ∙ ap (λ (o : Option ℕ). option_map (λ x. (let r : TransactionTimer = record { at = x; step = a.step; order = a.order } in r)) o) q)

      late : (d : ℕ) → deadline e ≡ Some d → at ≤ now → ⊥
      late d p l = none_due now (live h) d e n p
          (let m = not_less at a.step a.order d (step_due e) (order_due e) (none_before e d p (Some place) (record { at = at; step = a.step; order = a.order }) in_it) in omega (arith, l, m)) stands

      either : (o : Option ℕ) → deadline e ≡ o → now < at
      either None p = absurd (none-some (record { at = at; step = a.step; order = a.order }) (sym (no_alarm e p (Some place)) ∙ in_it))
      either (Some d) p = elim (cases_lt now at) [ inl l ↦ l | inr l ↦ absurd (late d p l) ]

  -- the response that is first is this one
  foremost_it : (n : DueEntryView) (now : ℕ) → next_due now (live h) ≡ Some n → n.entry.key ≡ key → message_due n.entry ≡ Some place →
      (n.entry ≡ e) × ((f : ℕ × TransactionTimer) × (foremost_in e ≡ Some f) × (f.0 ≡ place) × (f.1.at ≡ n.at))
  foremost_it n now q k m = (same, either (foremost_in e) refl (ap message_due (sym same) ∙ m))
    where
      v : (n.entry ≡ e) × (deadline e ≡ Some n.at)
      v =
          let t = is_next now (live h) n q in
          let s : n.entry ≡ e = same_entry h n.entry e t.stands stands (k ∙ sym (of_key h key e u.live).1) in
          (s, ap deadline (sym s) ∙ t.moment)

      same : n.entry ≡ e
      same = v.0

      either : (o : Option (ℕ × TransactionTimer)) → foremost_in e ≡ o → option_map (λ (f : ℕ × TransactionTimer). f.0) o ≡ Some place →
          (f : ℕ × TransactionTimer) × (foremost_in e ≡ Some f) × (f.0 ≡ place) × (f.1.at ≡ n.at)
      either None p r = absurd (none-some place r)
      either (Some f) p r = (
        f,
        p,
        same_Some f.0 place r,
        same_Some f.1.at n.at (ap (λ (o : Option (ℕ × TransactionTimer)). option_or (option_or (option_map (λ (y : ℕ × TransactionTimer). y.1.at) o) (state_retransmission_at e)) (last_deadline e)) (sym p) ∙ v.1),
      )

  moment : (now : ℕ) (n : DueEntryView) → next_due now (live h) ≡ Some n → n.entry.key ≡ key → message_due n.entry ≡ Some place → scheduled_moment a.start (moments_of schedule.Invite) a.retransmissions ≡ Some n.at
  moment now n q k m =
      let v = (foremost_it n now q k m).1 in
      let f : ℕ × TransactionTimer = v.0 in
      let there : timer_of a ≡ Some f.1 = sym (timer_is e.reliable place a w.there) ∙ (ap (timer_there e.reliable) (sym v.2) ∙ foremost_there e f v.1) in
      its_moment a f.1 there ∙ ap (λ (x : ℕ). Some x) v.3

  class_result : (now : ℕ) (n : DueEntryView) → next_due now (live h) ≡ Some n → n.entry.key ≡ key → message_due n.entry ≡ Some place → due_result (Some n) ≡ due.Again e.peer n.at a.text
  class_result now n q k m =
      let v = (foremost_it n now q k m).1 in
      let f : ℕ × TransactionTimer = v.0 in
      ap (λ (y : Entry). due_result (Some (record { at = n.at; entry = y }))) (foremost_it n now q k m).0
      ∙ (ap (λ (o : Option (ℕ × TransactionTimer)). cond (is_some (option_or (option_map (λ (y : ℕ × TransactionTimer). y.1.at) o) (state_retransmission_at e)))
      (due.Again e.peer n.at (text_by (o >>= λ (y : ℕ × TransactionTimer). slice_get e.reliable y.0) e))
      (cond (is_ending e.state) (due.Over (tkey e.key) n.at) (due.Silent (tkey e.key) e.head.branch e.head.method n.at))) v.1
      ∙ (ap (λ i. due.Again e.peer n.at (text_by (slice_get e.reliable i) e)) v.2
      ∙ ap (λ (o : Option ReliableResponse). due.Again e.peer n.at (text_by o e)) w.there))

pub reliable_go_on : ReliableGoOn
reliable_go_on c h key e place a r w q = goes_on h key e place a w c r q

pub are_retransmitted : ReliableAreRetransmitted
are_retransmitted h key e place a run w = record { waits = deadline_key h key e place a w run; moment = moment h key e place a w; reports = class_result h key e place a w }

-- ---- what was settled

pub settled_gone : SettledAreGone
settled_gone h key own x place a q there =
    let v = of_key (DidSettle key own ∷ h) key x q in
    elim (has_more_back (DidSettle key own) h x v.0) [
      | inl w ↦
          let y : Entry = w.0 in
          let k : y.key ≡ key = sym ((keeps_change (step_of h) (send_count h) (DidSettle key own) y).key) ∙ (ap (λ (z : Entry). z.key) (sym w.2) ∙ v.1) in
          let is : x ≡ after_settling own y = w.2 ∙ ap (λ b. cond b (after_settling own y) y) (eq-eqb y.key key k) in
          gone own y (ap (λ (z : Entry). slice_get z.reliable place) (sym is) ∙ there)
      | inr f ↦ absurd f
    ]
  where
    gone : (own : Option ℕ) (y : Entry) → slice_get (after_settling own y).reliable place ≡ Some a → settles a.rseq own ≡ false
    gone None y r = absurd (none-some a r)
    gone (Some n) y r = not-true (a.rseq == n) (passes (λ (z : ReliableResponse). not (z.rseq == n)) y.reliable place a r)

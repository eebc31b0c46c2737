-- The texts that transactions keep, and retransmit, are those of requests and responses that were built.
use Rattle.std.proofs.Common.{◌≡◌, ℕ, zero, suc, ◌+◌, ◌==◌, Bool, true, false, not, ◌&&◌, ◌||◌, List, [], ◌∷◌, ◌++◌, length, Option, Some, None, inl, inr, refl, sym, ap, ◌∙◌, subst, IfSome, map, cond, arith}
use Rattle.std.specs.Prelude.{if◌then◌else◌, nat_lt, nat_le, filter, find, is_some, IsSome, option_map, slice_get, slice_set}
use Rattle.std.specs.Option.{option_or, unwrap_or}
use Rattle.std.specs.Str.{bytes_eq}
use Rattle.std.proofs.lemmas.Bool.Decides.{nat_tests}
use Rattle.std.proofs.lemmas.Bool.{eqb-true}
use Rattle.std.proofs.lemmas.List.{map-append}
use Rattle.std.proofs.lemmas.Option.{none-some, same_Some}
use Rattle.mmtel_call_theorems.specs.NoInjection.Messages.{MessageHasNoInjection}
use Rattle.mmtel_call_theorems.specs.NoInjection.Emits.{Each}
use Rattle.mmtel_call_theorems.proofs.NoInjection.Sending.{each_append}
use Rattle.mmtel_message.specs.Message.{Message}
use Rattle.mmtel_message.specs.Texts.{message_text}
use Rattle.mmtel_message.specs.declared.messages.Start.{Start}
use Rattle.mmtel_transaction.specs.Results.{DueEntryView, by_key, due_one, retransmission_for, last_sent, is_client_of, is_of, is_server_of, is_before, next_due, ack_class}
use Rattle.mmtel_transaction.specs.Results.{class_of, request_class, response_class, due_result, sooner, retransmitted_text, text_by, state_text, bind_entry, is_full}
use Rattle.mmtel_transaction.specs.Operations.{TransactionOp, DidAck, DidAsk, DidBegin, DidFire, DidSettle, DidHear, DidReply, change, entry_of}
use Rattle.mmtel_transaction.specs.Operations.{change_on_receipt, opened_on_receipt, is_live, live, send_count, openings, opens, step_of}
use Rattle.mmtel_transaction.specs.Changes.{after_ack_2xx, after_any_reply, after_failure_ack, after_final, after_provisional, after_reply, after_response, after_retransmission}
use Rattle.mmtel_transaction.specs.Changes.{after_settling, after_timer, after_timer_by, change_of_key, is_ack_of, reliable_response_of, with_kept_ack, with_reliable_if, without_rseq}
use Rattle.mmtel_transaction.specs.Deadlines.{at_place, deadline, foremost_from, foremost_in, is_ending, is_sooner, is_untimed, retransmission_at, retransmission_by, sooner_of, state_retransmission_at, timer_of}
use Rattle.mmtel_transaction.specs.Heads.{head_of, is_ack, is_invite, is_provisional, is_refusal, reliable_number}
use Rattle.mmtel_transaction.specs.declared.entries.TransactionTimer.{TransactionTimer}
use Rattle.mmtel_transaction.specs.declared.entries.Entry.{Entry}
use Rattle.mmtel_transaction.specs.declared.entries.State.{State}
use Rattle.mmtel_transaction.specs.declared.entries.State.TheVariants.{Proceeding, Calling, Trying, SlowProceeding, Completed, Absorbing}
use Rattle.mmtel_transaction.specs.declared.entries.State.TheVariants as states
use Rattle.mmtel_transaction.specs.declared.entries.ReliableResponse.{ReliableResponse}
use Rattle.mmtel_transaction.specs.declared.heads.Head.{Head}
use Rattle.mmtel_transaction.specs.declared.message_class.MessageClass.{MessageClass}
use Rattle.mmtel_transaction.specs.declared.message_class.MessageClass.TheVariants as part
use Rattle.mmtel_transaction.specs.declared.words.Due.{Due}
use Rattle.mmtel_transaction.specs.declared.words.Due.TheVariants as due
use Rattle.mmtel_base.specs.Chain.{◌>>=◌}
use Rattle.mmtel_types.specs.declared.numbers.Peer.{Peer}
use Rattle.mmtel_run_theorems.specs.NoInjection.{Builds, IsSentIn}

-- ---- the operations on transactions

-- what is built has no injected header fields, and what is received is classified as the transactions do
abbrev pub IsGoodAction : TransactionOp → List TransactionOp → Type 0
IsGoodAction (DidBegin step) h = Unit {0}
IsGoodAction (DidHear p m now taken) h = taken ≡ class_of (head_of m) (live h)
IsGoodAction (DidAsk p m now) h = MessageHasNoInjection m
IsGoodAction (DidReply key m now) h = MessageHasNoInjection m
IsGoodAction (DidAck key m) h = MessageHasNoInjection m
IsGoodAction (DidFire key) h = Unit {0}
IsGoodAction (DidSettle key own) h = Unit {0}

abbrev pub AreGoodActions : List TransactionOp → Type 0
AreGoodActions [] = Unit {0}
AreGoodActions (c ∷ h) = IsGoodAction c h × AreGoodActions h

-- the text of what this operation builds is sent by it
sent_now : (c : TransactionOp) (h : List TransactionOp) (m : Message Start) → Builds c m → IsSentIn (c ∷ h) (message_text m)
sent_now c h m built = record { message = m; built = inl built; is = refl }

-- and what was sent before is still sent
pub sent_still : (c : TransactionOp) (h : List TransactionOp) (text : List ℕ) → IsSentIn h text → IsSentIn (c ∷ h) text
sent_still c h text t = record { message = t.message; built = inr t.built; is = t.is }

-- ---- what a transaction keeps

-- a server transaction retransmits only a final response, which it has
abbrev Waits : State → Option (List ℕ) → Type 0
Waits Proceeding last = Unit {0}
Waits Calling last = ⊥
Waits Trying last = ⊥
Waits SlowProceeding last = ⊥
Waits Completed last = IsSome last
Waits Absorbing last = Unit {0}
Waits states.Confirmed last = Unit {0}

-- the texts of reliable responses are of these
abbrev AreOf : (List ℕ → Type 0) → List ReliableResponse → Type 0
AreOf T answers = Each (λ (answer : ReliableResponse). T answer.text) answers

pub record Keeps (K : ℕ → Bool → Type 0) (T : List ℕ → Type 0) (e : Entry) : Type 0 where
  pub kind : K e.key e.is_server
  pub request : e.is_server ≡ false → T e.request
  pub last : IfSome e.last T
  pub waits : e.is_server ≡ true → Waits e.state e.last
  pub reliable : AreOf T e.reliable

still-waits : (p : State) (last : Option (List ℕ)) (text : List ℕ) → Waits p last → Waits p (Some text)
still-waits Proceeding last text w = tt
still-waits Calling last text w = w
still-waits Trying last text w = w
still-waits SlowProceeding last text w = w
still-waits Completed last text w = refl
still-waits Absorbing last text w = tt
still-waits states.Confirmed last text w = tt

-- ---- its reliable responses

each-set : {A : Type 0} (P : A → Type 0) (xs : List A) (place : ℕ) (y : A) → P y → Each P xs → Each P (slice_set xs place y)
each-set P [] place y is k = tt
each-set P (x ∷ xs) zero y is k = (is, k.1)
each-set P (x ∷ xs) (suc place) y is k = (k.0, each-set P xs place y is k.1)

each-get : {A : Type 0} (P : A → Type 0) (xs : List A) (place : ℕ) (y : A) → slice_get xs place ≡ Some y → Each P xs → P y
each-get P [] place y is k = absurd (none-some y is)
each-get P (x ∷ xs) zero y is k = subst P (same_Some x y is) k.0
each-get P (x ∷ xs) (suc place) y is k = each-get P xs place y is k.1

-- the one that is retransmitted first is there
abbrev There : ℕ → List ReliableResponse → ℕ × TransactionTimer → Type 0
There k xs f = (i : ℕ) × (f.0 ≡ k + i) × (a : ReliableResponse) × (slice_get xs i ≡ Some a)

module _ (k : ℕ) (x : ReliableResponse) (xs : List ReliableResponse) (f : ℕ × TransactionTimer) (ih : (g : ℕ × TransactionTimer) → foremost_from (suc k) xs ≡ Some g → There (suc k) xs g) where
  it-is : (a : TransactionTimer) → (k, a) ≡ f → There k (x ∷ xs) f
  it-is a p = (0, omega (arith, ap (λ (z : ℕ × TransactionTimer). z.0) p), x, refl)

  behind-it : (y : ℕ × TransactionTimer) → foremost_from (suc k) xs ≡ Some y → y ≡ f → There k (x ∷ xs) f
  behind-it y g p = let w = ih y g in (suc w.0, omega (arith, w.1, ap (λ (z : ℕ × TransactionTimer). z.0) p), w.2, w.3)

  there-more : (o : Option TransactionTimer) (r : Option (ℕ × TransactionTimer)) → foremost_from (suc k) xs ≡ r → sooner_of (at_place k o) r ≡ Some f → There k (x ∷ xs) f
  there-more None None e p = absurd (none-some f p)
  there-more None (Some y) e p = behind-it y e (same_Some y f p)
  there-more (Some a) None e p = it-is a (same_Some (k, a) f p)
  there-more (Some a) (Some y) e p = go (is_sooner y.1 a) p
    where
      go : (b : Bool) → Some (cond b y (k, a)) ≡ Some f → There k (x ∷ xs) f
      go true r = behind-it y e (same_Some y f r)
      go false r = it-is a (same_Some (k, a) f r)

there-from : (k : ℕ) (xs : List ReliableResponse) (f : ℕ × TransactionTimer) → foremost_from k xs ≡ Some f → There k xs f
there-from k [] f q = absurd (none-some f q)
there-from k (x ∷ xs) f q = there-more k x xs f (there-from (suc k) xs) (timer_of x) (foremost_from (suc k) xs) refl q

answer-due : (e : Entry) (f : ℕ × TransactionTimer) → foremost_in e ≡ Some f → (a : ReliableResponse) × (slice_get e.reliable f.0 ≡ Some a)
answer-due e f q = go (is_untimed e.state) q
  where
    go : (b : Bool) → cond b (foremost_from 0 e.reliable) None ≡ Some f → (a : ReliableResponse) × (slice_get e.reliable f.0 ≡ Some a)
    go true r =
        let w = there-from 0 e.reliable f r in
        let at : f.0 ≡ w.0 = omega (arith, w.1) in
        (w.2, ap (slice_get e.reliable) at ∙ w.3)
    go false r = absurd (none-some f r)

module _ (T : List ℕ → Type 0) where
  abbrev IsOf : ReliableResponse → Type 0
  IsOf answer = T answer.text

  after_retransmission-of : (step place : ℕ) (o : Option ReliableResponse) (answers : List ReliableResponse) → slice_get answers place ≡ o → AreOf T answers → AreOf T (after_retransmission step place o answers)
  after_retransmission-of step place None answers is k = k
  after_retransmission-of step place (Some answer) answers is k = each-set IsOf answers place (record answer { retransmissions = answer.retransmissions + 1; step = step }) (each-get IsOf answers place answer is k) k

  without-of : (own : ℕ) (answers : List ReliableResponse) → AreOf T answers → AreOf T (without_rseq own answers)
  without-of own [] k = tt
  without-of own (answer ∷ answers) k = go (not (answer.rseq == own)) (without-of own answers k.1)
    where
      go : (b : Bool) → AreOf T (without_rseq own answers) → AreOf T (cond b (answer ∷ without_rseq own answers) (without_rseq own answers))
      go true rest = (k.0, rest)
      go false rest = rest

  after_any_reply-of : (o : Option ℕ) (f : ℕ → ReliableResponse) → ((own : ℕ) → IsOf (f own)) → IfSome (option_map f o) IsOf
  after_any_reply-of None f is = tt
  after_any_reply-of (Some own) f is = is own

module _ (K : ℕ → Bool → Type 0) (T : List ℕ → Type 0) where
  either : (b : Bool) (x y : Entry) → Keeps K T x → Keeps K T y → Keeps K T (if b then x else y)
  either true x y h g = h
  either false x y h g = g

  -- the same transaction, in what is kept of it
  as-before : (e x : Entry) → x.key ≡ e.key → x.is_server ≡ e.is_server → x.request ≡ e.request → x.last ≡ e.last → x.state ≡ e.state → x.reliable ≡ e.reliable → Keeps K T e → Keeps K T x
  as-before e x key server request last states reliable k = record {
    kind = subst (λ (b : Bool). K x.key b) (sym server) (subst (λ (n : ℕ). K n e.is_server) (sym key) k.kind);
    request = λ s. subst T (sym request) (k.request (sym server ∙ s));
    last = subst (λ (o : Option (List ℕ)). IfSome o T) (sym last) k.last;
    waits = λ s. subst (λ (o : Option (List ℕ)). Waits x.state o) (sym last) (subst (λ (p : State). Waits p e.last) (sym states) (k.waits (sym server ∙ s)));
    reliable = subst (AreOf T) (sym reliable) k.reliable;
  }

  after_timer-by-keeps : (first : Option (ℕ × TransactionTimer)) (step : ℕ) (e : Entry) → Keeps K T e → Keeps K T (after_timer_by first step e)
  after_timer-by-keeps None step e k =
      either (is_some (state_retransmission_at e)) (record e { retransmissions = e.retransmissions + 1; step = step }) (record e { is_terminated = true }) (as-before e _ refl refl refl refl refl refl k)
      (as-before e _ refl refl refl refl refl refl k)
  after_timer-by-keeps (Some first) step e k =
      record { kind = k.kind; request = k.request; last = k.last; waits = k.waits; reliable = after_retransmission-of T step first.0 (slice_get e.reliable first.0) e.reliable refl k.reliable }

  after_timer-keeps : (step : ℕ) (e : Entry) → Keeps K T e → Keeps K T (after_timer step e)
  after_timer-keeps step e k = after_timer-by-keeps (foremost_in e) step e k

  after_settling-keeps : (own : Option ℕ) (e : Entry) → Keeps K T e → Keeps K T (after_settling own e)
  after_settling-keeps None e k = record { kind = k.kind; request = k.request; last = k.last; waits = k.waits; reliable = tt }
  after_settling-keeps (Some own) e k = record { kind = k.kind; request = k.request; last = k.last; waits = k.waits; reliable = without-of T own e.reliable k.reliable }

  answers-keeps : (answer : Option ReliableResponse) (e : Entry) → IfSome answer (IsOf T) → Keeps K T e → Keeps K T (with_reliable_if answer e)
  answers-keeps None e is k = k
  answers-keeps (Some answer) e is k =
      either (not e.is_server || not (e.final_status == 0)) e (record e { reliable = e.reliable ++ answer ∷ [] }) k
      (record { kind = k.kind; request = k.request; last = k.last; waits = k.waits; reliable = each_append (IsOf T) e.reliable (answer ∷ []) k.reliable (is, tt) })

  final-waits : (b : Bool) (text : List ℕ) → Waits (if b then Completed else Absorbing) (Some text)
  final-waits true text = refl
  final-waits false text = tt

  after_reply-keeps : (step order status : ℕ) (text to_tag : List ℕ) (now : ℕ) (e : Entry) → T text → Keeps K T e → Keeps K T (after_reply step order status text to_tag now e)
  after_reply-keeps step order status text to_tag now e clean k =
      either (not e.is_server || not (e.final_status == 0)) e _ k
      (either (is_provisional status) (record e { last = Some text }) _
      (record { kind = k.kind; request = k.request; last = clean; waits = λ s. still-waits e.state e.last text (k.waits s); reliable = k.reliable })
      (record { kind = k.kind; request = k.request; last = clean; waits = λ s. final-waits (is_invite e.head) text; reliable = tt }))

  after_any_reply-keeps : (step order : ℕ) (m : Message Start) (now : ℕ) (e : Entry) → T (message_text m) → Keeps K T e → Keeps K T (after_any_reply step order m now e)
  after_any_reply-keeps step order m now e clean k =
      let answer : Option ReliableResponse = reliable_response_of step order m (message_text m) now in
      after_reply-keeps step order (head_of m).status (message_text m) (head_of m).to_tag now (with_reliable_if answer e) clean
      (answers-keeps answer e (after_any_reply-of T (reliable_number m) (λ (own : ℕ). record { rseq = own; text = message_text m; start = now; retransmissions = 0; step = step; order = order }) (λ own. clean)) k)

  with_kept_ack-keeps : (text : List ℕ) (e : Entry) → T text → Keeps K T e → Keeps K T (with_kept_ack text e)
  with_kept_ack-keeps text e clean k =
      either (not e.is_server && e.is_refused) (record e { last = Some text }) e
      (record { kind = k.kind; request = k.request; last = clean; waits = λ s. still-waits e.state e.last text (k.waits s); reliable = k.reliable }) k

  after_failure_ack-keeps : (step now : ℕ) (e : Entry) → Keeps K T e → Keeps K T (after_failure_ack step now e)
  after_failure_ack-keeps step now e k =
      either e.is_acked e (record e { is_acked = true; state = states.Confirmed; start = now; retransmissions = 0; step = step }) k
      (record { kind = k.kind; request = k.request; last = k.last; waits = λ s. tt; reliable = k.reliable })

  after_failure_ack-2xx-keeps : (step : ℕ) (m : Head) (e : Entry) → Keeps K T e → Keeps K T (after_ack_2xx step m e)
  after_failure_ack-2xx-keeps step m e k =
      either (is_ack_of m e) (record e { is_acked = true; state = Absorbing; step = step }) e (record { kind = k.kind; request = k.request; last = k.last; waits = λ s. tt; reliable = k.reliable }) k

  -- a client transaction, whatever it awaits
  client-keeps : (e x : Entry) → e.is_server ≡ false → x.key ≡ e.key → x.is_server ≡ e.is_server → x.request ≡ e.request → x.last ≡ e.last → x.reliable ≡ e.reliable → Keeps K T e → Keeps K T x
  client-keeps e x client key server request last reliable k = record {
    kind = subst (λ (b : Bool). K x.key b) (sym server) (subst (λ (n : ℕ). K n e.is_server) (sym key) k.kind);
    request = λ s. subst T (sym request) (k.request client);
    last = subst (λ (o : Option (List ℕ)). IfSome o T) (sym last) k.last;
    waits = λ s. absurd (let f : true ≡ false = sym s ∙ (server ∙ client) in cc);
    reliable = subst (AreOf T) (sym reliable) k.reliable;
  }

  after_response-keeps : (step status now : ℕ) (e : Entry) → e.is_server ≡ false → Keeps K T e → Keeps K T (after_response step status now e)
  after_response-keeps step status now e client k =
      either (is_provisional status) (after_provisional step now e) (after_final step status now e)
      (either (e.is_early || not (e.final_status == 0)) e _ k (client-keeps e _ client refl refl refl refl refl k))
      (either (not (is_invite e.head)) _ _ (client-keeps e _ client refl refl refl refl refl k)
      (either (not (e.final_status == 0)) _ _ (client-keeps e _ client refl refl refl refl refl k) (client-keeps e _ client refl refl refl refl refl k)))

  change_of_key-keeps : (key : ℕ) (f : Entry → Entry) (e : Entry) → (e.key ≡ key → Keeps K T e → Keeps K T (f e)) → Keeps K T e → Keeps K T (change_of_key key f e)
  change_of_key-keeps key f e each k = go (e.key == key) refl
    where
      go : (b : Bool) → (e.key == key) ≡ b → Keeps K T (if b then f e else e)
      go true is = each (eqb-true e.key key is) k
      go false is = k

  -- one kind for each key; and a response is received by a client transaction
  module _ (one : (n : ℕ) (a b : Bool) → K n a → K n b → a ≡ b) where
    abbrev IsOfClient : MessageClass → Type 0
    IsOfClient part.Fresh = Unit {0}
    IsOfClient part.Full = Unit {0}
    IsOfClient (part.Repeat key) = Unit {0}
    IsOfClient (part.RepeatedFinal key) = Unit {0}
    IsOfClient (part.Answer key) = K key false
    IsOfClient (part.Acked key) = Unit {0}
    IsOfClient part.AckOf2xx = Unit {0}
    IsOfClient part.Stray = Unit {0}

    received-keeps : (step : ℕ) (m : Message Start) (now : ℕ) (taken : MessageClass) (e : Entry) → IsOfClient taken → Keeps K T e → Keeps K T (change_on_receipt step m now taken e)
    received-keeps step m now part.Fresh e c k = k
    received-keeps step m now part.Full e c k = k
    received-keeps step m now (part.Repeat key) e c k = k
    received-keeps step m now (part.RepeatedFinal key) e c k = k
    received-keeps step m now (part.Answer key) e c k =
        change_of_key-keeps key (after_response step (head_of m).status now) e
        (λ same k. after_response-keeps step (head_of m).status now e (one e.key e.is_server false k.kind (subst (λ (n : ℕ). K n false) (sym same) c)) k) k
    received-keeps step m now (part.Acked key) e c k = change_of_key-keeps key (after_failure_ack step now) e (λ same k. after_failure_ack-keeps step now e k) k
    received-keeps step m now part.AckOf2xx e c k = after_failure_ack-2xx-keeps step (head_of m) e k
    received-keeps step m now part.Stray e c k = k

    abbrev IsGoodChange : TransactionOp → Type 0
    IsGoodChange (DidBegin step) = Unit {0}
    IsGoodChange (DidHear p m now taken) = IsOfClient taken
    IsGoodChange (DidAsk p m now) = Unit {0}
    IsGoodChange (DidReply key m now) = T (message_text m)
    IsGoodChange (DidAck key m) = T (message_text m)
    IsGoodChange (DidFire key) = Unit {0}
    IsGoodChange (DidSettle key own) = Unit {0}

    change-keeps : (step order : ℕ) (c : TransactionOp) (e : Entry) → IsGoodChange c → Keeps K T e → Keeps K T (change step order c e)
    change-keeps step order (DidBegin n) e g k = k
    change-keeps step order (DidHear p m now taken) e g k = received-keeps step m now taken e g k
    change-keeps step order (DidAsk p m now) e g k = k
    change-keeps step order (DidReply key m now) e g k =
        change_of_key-keeps key (after_any_reply step order m now) e (λ same k. after_any_reply-keeps step order m now e g k) k
    change-keeps step order (DidAck key m) e g k = change_of_key-keeps key (with_kept_ack (message_text m)) e (λ same k. with_kept_ack-keeps (message_text m) e g k) k
    change-keeps step order (DidFire key) e g k = change_of_key-keeps key (after_timer step) e (λ same k. after_timer-keeps step e k) k
    change-keeps step order (DidSettle key own) e g k = change_of_key-keeps key (after_settling own) e (λ same k. after_settling-keeps own e k) k

-- ---- of which kind the transaction of a number is

abbrev Kind : List TransactionOp → ℕ → Bool → Type 0
Kind h n b = (x : Entry) × (slice_get (openings h) n ≡ Some x) × (x.is_server ≡ b)

one-kind : (h : List TransactionOp) (n : ℕ) (a b : Bool) → Kind h n a → Kind h n b → a ≡ b
one-kind h n a b k l = let same : k.0 ≡ l.0 = same_Some k.0 l.0 (sym k.1 ∙ l.1) in sym k.2 ∙ (ap (λ (x : Entry). x.is_server) same ∙ l.2)

get-left : (xs ys : List Entry) (n : ℕ) (x : Entry) → slice_get xs n ≡ Some x → slice_get (xs ++ ys) n ≡ Some x
get-left [] ys n x h = absurd (none-some x h)
get-left (y ∷ xs) ys zero x h = h
get-left (y ∷ xs) ys (suc n) x h = get-left xs ys n x h

get-next : (xs : List Entry) (x : Entry) → slice_get (xs ++ x ∷ []) (length xs) ≡ Some x
get-next [] x = refl
get-next (y ∷ xs) x = get-next xs x

later-kind : (c : TransactionOp) (h : List TransactionOp) (n : ℕ) (b : Bool) → Kind h n b → Kind (c ∷ h) n b
later-kind c h n b k = (k.0, get-left (openings h) (opens (step_of h) (send_count h) (length (openings h)) c) n k.0 k.1, k.2)

later : (c : TransactionOp) (h : List TransactionOp) (e : Entry) → Keeps (Kind h) (IsSentIn (c ∷ h)) e → Keeps (Kind (c ∷ h)) (IsSentIn (c ∷ h)) e
later c h e k = record { kind = later-kind c h e.key e.is_server k.kind; request = k.request; last = k.last; waits = k.waits; reliable = k.reliable }

all-later : (c : TransactionOp) (h : List TransactionOp) (es : List Entry) → Each (Keeps (Kind h) (IsSentIn (c ∷ h))) es → Each (Keeps (Kind (c ∷ h)) (IsSentIn (c ∷ h))) es
all-later c h [] k = tt
all-later c h (e ∷ es) k = (later c h e k.0, all-later c h es k.1)

-- texts that were sent before
last-still : (c : TransactionOp) (h : List TransactionOp) (o : Option (List ℕ)) → IfSome o (IsSentIn h) → IfSome o (IsSentIn (c ∷ h))
last-still c h None k = tt
last-still c h (Some text) k = sent_still c h text k

answers-still : (c : TransactionOp) (h : List TransactionOp) (answers : List ReliableResponse) → AreOf (IsSentIn h) answers → AreOf (IsSentIn (c ∷ h)) answers
answers-still c h [] k = tt
answers-still c h (answer ∷ answers) k = (sent_still c h answer.text k.0, answers-still c h answers k.1)

all-still : (c : TransactionOp) (h : List TransactionOp) (es : List Entry) → Each (Keeps (Kind h) (IsSentIn h)) es → Each (Keeps (Kind h) (IsSentIn (c ∷ h))) es
all-still c h [] k = tt
all-still c h (e ∷ es) k = (
  record { kind = k.0.kind; request = λ s. sent_still c h e.request (k.0.request s); last = last-still c h e.last k.0.last; waits = k.0.waits; reliable = answers-still c h e.reliable k.0.reliable },
  all-still c h es k.1,
)

-- ---- a response is received by a client transaction

find-each : (P : Entry → Type 0) (p : Entry → Bool) (es : List Entry) → Each P es → IfSome (find p es) P
find-each P p [] k = tt
find-each P p (e ∷ es) k = go (p e) (find-each P p es k.1)
  where
    go : (b : Bool) → IfSome (find p es) P → IfSome (cond b (Some e) (find p es)) P
    go true f = k.0
    go false f = f

find-passes : (p : Entry → Bool) (es : List Entry) → IfSome (find p es) (λ e. p e ≡ true)
find-passes p [] = tt
find-passes p (e ∷ es) = go (p e) refl (find-passes p es)
  where
    go : (b : Bool) → p e ≡ b → IfSome (find p es) (λ e. p e ≡ true) → IfSome (cond b (Some e) (find p es)) (λ e. p e ≡ true)
    go true is f = is
    go false is f = f

is-client : (b c d : Bool) → (not b && c && d) ≡ true → b ≡ false
is-client true c d e = absurd (let f : false ≡ true = e in cc)
is-client false c d e = refl

module _ (K : ℕ → Bool → Type 0) (T : List ℕ → Type 0) (one : (n : ℕ) (a b : Bool) → K n a → K n b → a ≡ b) where
  -- of an ACK and of any other request
  ack-part : (o : Option Entry) → IsOfClient K T one (ack_class o)
  ack-part None = tt
  ack-part (Some e) = go e.is_refused
    where
      go : (b : Bool) → IsOfClient K T one (if b then part.Acked e.key else part.AckOf2xx)
      go true = tt
      go false = tt

  request-part : (full : Bool) (o : Option Entry) → IsOfClient K T one (request_class full o)
  request-part full (Some e) = tt
  request-part true None = tt
  request-part false None = tt

  response-part : (m : Head) (o : Option Entry) → IfSome o (Keeps K T) → IfSome o (λ e. is_client_of m e ≡ true) → IsOfClient K T one (response_class m o)
  response-part m None k c = tt
  response-part m (Some e) k c = go (is_invite e.head && e.is_refused && is_refusal m.status)
    where
      go : (b : Bool) → IsOfClient K T one (if b then part.RepeatedFinal e.key else part.Answer e.key)
      go true = tt
      go false = subst (K e.key) (is-client e.is_server (bytes_eq e.head.branch m.branch) (bytes_eq e.head.method m.method) c) k.kind

  either-part : (b : Bool) (x y : MessageClass) → IsOfClient K T one x → IsOfClient K T one y → IsOfClient K T one (if b then x else y)
  either-part true x y h g = h
  either-part false x y h g = g

  taken-part : (m : Head) (es : List Entry) → Each (Keeps K T) es → IsOfClient K T one (class_of m es)
  taken-part m es k =
      either-part m.is_request _ _ (either-part (is_ack m) _ _ (ack-part (find (is_server_of m) es)) (request-part (is_full es) (find (is_server_of m) es)))
      (response-part m (find (is_client_of m) es) (find-each (Keeps K T) (is_client_of m) es k) (find-passes (is_client_of m) es))

-- ---- all transactions

filter-each : (P : Entry → Type 0) (p : Entry → Bool) (es : List Entry) → Each P es → Each P (filter p es)
filter-each P p [] k = tt
filter-each P p (e ∷ es) k = go (p e) (filter-each P p es k.1)
  where
    go : (b : Bool) → Each P (filter p es) → Each P (cond b (e ∷ filter p es) (filter p es))
    go true f = (k.0, f)
    go false f = f

pub record AllKeep (h : List TransactionOp) : Type 0 where
  pub firsts : Each (Keeps (Kind h) (IsSentIn h)) (openings h)
  pub now : Each (Keeps (Kind h) (IsSentIn h)) (map (entry_of h) (openings h))

live-keep : (h : List TransactionOp) → AllKeep h → Each (Keeps (Kind h) (IsSentIn h)) (live h)
live-keep h k = filter-each (Keeps (Kind h) (IsSentIn h)) is_live (map (entry_of h) (openings h)) k.now

good-change : (c : TransactionOp) (h : List TransactionOp) → IsGoodAction c h → AllKeep h → IsGoodChange (Kind h) (IsSentIn (c ∷ h)) (one-kind h) c
good-change (DidBegin step) h g k = tt
good-change (DidHear p m now taken) h g k =
    subst (IsOfClient (Kind h) (IsSentIn (DidHear p m now taken ∷ h)) (one-kind h)) (sym g)
    (taken-part (Kind h) (IsSentIn (DidHear p m now taken ∷ h)) (one-kind h) (head_of m) (live h) (all-still (DidHear p m now taken) h (live h) (live-keep h k)))
good-change (DidAsk p m now) h g k = tt
good-change (DidReply key m now) h g k = sent_now (DidReply key m now) h m refl
good-change (DidAck key m) h g k = sent_now (DidAck key m) h m refl
good-change (DidFire key) h g k = tt
good-change (DidSettle key own) h g k = tt

old-keep : (c : TransactionOp) (h : List TransactionOp) → IsGoodChange (Kind h) (IsSentIn (c ∷ h)) (one-kind h) c → (es : List Entry) → Each (Keeps (Kind h) (IsSentIn (c ∷ h))) es →
    Each (Keeps (Kind h) (IsSentIn (c ∷ h))) (map (entry_of h) es) → Each (Keeps (Kind h) (IsSentIn (c ∷ h))) (map (entry_of (c ∷ h)) es)
old-keep c h g [] f k = tt
old-keep c h g (e ∷ es) f k = (
  either (Kind h) (IsSentIn (c ∷ h)) (nat_lt e.key (length (openings h))) _ e (change-keeps (Kind h) (IsSentIn (c ∷ h)) (one-kind h) (step_of h) (send_count h) c (entry_of h e) g k.0) f.0,
  old-keep c h g es f.1 k.1,
)

-- what one more operation opens
abbrev OpensKept : List TransactionOp → TransactionOp → List Entry → Type 0
OpensKept h c new = Each (Keeps (λ n b. (x : Entry) × (slice_get (openings h ++ new) n ≡ Some x) × (x.is_server ≡ b)) (IsSentIn (c ∷ h))) new × Each (λ e. e.key ≡ length (openings h)) new

server-opens : (h : List TransactionOp) (p : Peer) (m : Message Start) (now : ℕ) (taken : MessageClass) → OpensKept h (DidHear p m now taken) (opened_on_receipt (step_of h) (length (openings h)) p m now taken)
server-opens h p m now part.Fresh = (
  (record { kind = (_, get-next (openings h) _, refl); request = λ s. absurd (let f : true ≡ false = s in cc); last = tt; waits = λ s. tt; reliable = tt }, tt),
  (refl, tt),
)
server-opens h p m now part.Full = (tt, tt)
server-opens h p m now (part.Repeat key) = (tt, tt)
server-opens h p m now (part.RepeatedFinal key) = (tt, tt)
server-opens h p m now (part.Answer key) = (tt, tt)
server-opens h p m now (part.Acked key) = (tt, tt)
server-opens h p m now part.AckOf2xx = (tt, tt)
server-opens h p m now part.Stray = (tt, tt)

new-keep : (c : TransactionOp) (h : List TransactionOp) → IsGoodAction c h → OpensKept h c (opens (step_of h) (send_count h) (length (openings h)) c)
new-keep (DidBegin step) h g = (tt, tt)
new-keep (DidHear p m now taken) h g = server-opens h p m now taken
new-keep (DidAsk p m now) h g = (
  (record { kind = (_, get-next (openings h) _, refl); request = λ s. sent_now (DidAsk p m now) h m refl; last = tt; waits = λ s. absurd (let f : false ≡ true = s in cc); reliable = tt }, tt),
  (refl, tt),
)
new-keep (DidReply key m now) h g = (tt, tt)
new-keep (DidAck key m) h g = (tt, tt)
new-keep (DidFire key) h g = (tt, tt)
new-keep (DidSettle key own) h g = (tt, tt)

not-before : (n : ℕ) → nat_lt n n ≡ false
not-before n = grind (arith, nat_tests)

new-stay : (c : TransactionOp) (h : List TransactionOp) (P : Entry → Type 0) (new : List Entry) → Each P new → Each (λ e. e.key ≡ length (openings h)) new → Each P (map (entry_of (c ∷ h)) new)
new-stay c h P [] k is = tt
new-stay c h P (e ∷ new) k is =
    let test : nat_lt e.key (length (openings h)) ≡ false = ap (λ (n : ℕ). nat_lt n (length (openings h))) is.0 ∙ not-before (length (openings h)) in (
      subst (λ (b : Bool). P (if b then change (step_of h) (send_count h) c (entry_of h e) else e)) (sym test) k.0,
      new-stay c h P new k.1 is.1,
    )

pub all_keep : (h : List TransactionOp) → AreGoodActions h → AllKeep h
all_keep [] g = record { firsts = tt; now = tt }
all_keep (c ∷ h) g =
    let before = all_keep h g.1 in
    let new = opens (step_of h) (send_count h) (length (openings h)) c in
    let opens_kept = new-keep c h g.0 in
    let firsts : Each (Keeps (Kind h) (IsSentIn (c ∷ h))) (openings h) = all-still c h (openings h) before.firsts in
    let now : Each (Keeps (Kind h) (IsSentIn (c ∷ h))) (map (entry_of h) (openings h)) = all-still c h (map (entry_of h) (openings h)) before.now in
    let old : Each (Keeps (Kind (c ∷ h)) (IsSentIn (c ∷ h))) (map (entry_of (c ∷ h)) (openings h)) =
    all-later c h (map (entry_of (c ∷ h)) (openings h)) (old-keep c h (good-change c h g.0 before) (openings h) firsts now) in
    record {
      firsts = each_append (Keeps (Kind (c ∷ h)) (IsSentIn (c ∷ h))) (openings h) new (all-later c h (openings h) firsts) opens_kept.0;
      now = subst (Each (Keeps (Kind (c ∷ h)) (IsSentIn (c ∷ h)))) (sym (map-append (entry_of (c ∷ h)) (openings h) new))
          (each_append (Keeps (Kind (c ∷ h)) (IsSentIn (c ∷ h))) (map (entry_of (c ∷ h)) (openings h)) (map (entry_of (c ∷ h)) new) old
          (new-stay c h (Keeps (Kind (c ∷ h)) (IsSentIn (c ∷ h))) new opens_kept.0 opens_kept.1));
    }

-- ---- what is retransmitted

module _ (K : ℕ → Bool → Type 0) (T : List ℕ → Type 0) where
  abbrev pub IsOwnAgain : Option (Peer × List ℕ) → Type 0
  IsOwnAgain o = IfSome o (λ sent. T sent.1)

  same-last : (p : Peer) (o : Option (List ℕ)) → IfSome o T → IsOwnAgain (option_map (λ t. (p, t)) o)
  same-last p None h = tt
  same-last p (Some text) h = h

  pub same_own : (o : Option Entry) → IfSome o (Keeps K T) → IsOwnAgain (bind_entry last_sent o)
  same_own None k = tt
  same_own (Some e) k = same-last e.peer e.last k.last

  pub again_own : (p : Peer) (o : Option Entry) → IfSome o (Keeps K T) → IsOwnAgain (bind_entry (retransmission_for p) o)
  again_own p None k = tt
  again_own p (Some e) k = go _
    where
      go : (b : Bool) → IsOwnAgain (if b then last_sent e else None)
      go true = same-last e.peer e.last k.last
      go false = tt

  -- ---- timers

  abbrev IsOwnNext : Option DueEntryView → Type 0
  IsOwnNext o = IfSome o (λ n. Keeps K T n.entry)

  one-own : (now : ℕ) (e : Entry) (o : Option ℕ) → Keeps K T e → IsOwnNext (due_one now e o)
  one-own now e None k = tt
  one-own now e (Some at) k = go (nat_le at now)
    where
      go : (b : Bool) → IsOwnNext (if b then Some (record { at = at; entry = e }) else None)
      go true = k
      go false = tt

  sooner-own : (x y : Option DueEntryView) → IsOwnNext x → IsOwnNext y → IsOwnNext (sooner x y)
  sooner-own None y h g = g
  sooner-own (Some x) None h g = h
  sooner-own (Some x) (Some y) h g = go (is_before y.at y.entry x.at x.entry)
    where
      go : (b : Bool) → IsOwnNext (Some (if b then y else x))
      go true = g
      go false = h

  next-own : (now : ℕ) (es : List Entry) → Each (Keeps K T) es → IsOwnNext (next_due now es)
  next-own now [] k = tt
  next-own now (e ∷ es) k = sooner-own (due_one now e (deadline e)) (next_due now es) (one-own now e (deadline e) k.0) (next-own now es k.1)

  unwrapped : (o : Option (List ℕ)) → IfSome o T → IsSome o → T (unwrap_or o [])
  unwrapped None h s = absurd (let f : false ≡ true = s in cc)
  unwrapped (Some text) h s = h

  -- a server transaction that retransmits sends its last response
  server-text : (p : State) (start at shots : ℕ) (last : Option (List ℕ)) → Waits p last → is_some (retransmission_by p start at shots) ≡ true → IfSome last T → T (unwrap_or last [])
  server-text Proceeding start at shots last w s h = absurd (let f : false ≡ true = s in cc)
  server-text Calling start at shots last w s h = absurd w
  server-text Trying start at shots last w s h = absurd w
  server-text SlowProceeding start at shots last w s h = absurd w
  server-text Completed start at shots last w s h = unwrapped last h w
  server-text Absorbing start at shots last w s h = absurd (let f : false ≡ true = s in cc)
  server-text states.Confirmed start at shots last w s h = absurd (let f : false ≡ true = s in cc)

  planned-own : (e : Entry) → Keeps K T e → is_some (state_retransmission_at e) ≡ true → T (state_text e)
  planned-own e k s = go e.is_server refl
    where
      go : (b : Bool) → e.is_server ≡ b → T (if b then unwrap_or e.last [] else e.request)
      go true is = server-text e.state e.start e.at e.retransmissions e.last (k.waits is) s k.last
      go false is = k.request is

  -- a reliable response, where one is retransmitted first
  after_retransmission-by : (e : Entry) (first : Option (ℕ × TransactionTimer)) → foremost_in e ≡ first → Keeps K T e →
      is_some (option_or (option_map (λ (f : ℕ × TransactionTimer). f.1.at) first) (state_retransmission_at e)) ≡ true →
      T (text_by (first >>= λ (f : ℕ × TransactionTimer). slice_get e.reliable f.0) e)
  after_retransmission-by e None is k s = planned-own e k s
  after_retransmission-by e (Some f) is k s =
      let due = answer-due e f is in
      subst (λ (o : Option ReliableResponse). T (text_by o e)) (sym due.1) (each-get (IsOf T) e.reliable f.0 due.0 due.1 k.reliable)

  after_retransmission-own : (e : Entry) → Keeps K T e → is_some (retransmission_at e) ≡ true → T (retransmitted_text e)
  after_retransmission-own e k s = after_retransmission-by e (foremost_in e) refl k s

abbrev pub IsOwnDue : (T : List ℕ → Type 0) → Due → Type 0
IsOwnDue T (due.Again peer at text) = T text
IsOwnDue T (due.Silent key branch method at) = Unit {0}
IsOwnDue T (due.Over key at) = Unit {0}
IsOwnDue T due.Nothing = Unit {0}

due-by : (K : ℕ → Bool → Type 0) (T : List ℕ → Type 0) (o : Option DueEntryView) → IsOwnNext K T o → IsOwnDue T (due_result o)
due-by K T None k = tt
due-by K T (Some n) k = go (is_some (retransmission_at n.entry)) refl (is_ending n.entry.state)
  where
    go : (b : Bool) → is_some (retransmission_at n.entry) ≡ b → (c : Bool) →
        IsOwnDue T (if b then due.Again n.entry.peer n.at (retransmitted_text n.entry) else if c then due.Over (record { 0 = n.entry.key }) n.at
        else due.Silent (record { 0 = n.entry.key }) n.entry.head.branch n.entry.head.method n.at)
    go true is c = after_retransmission-own K T n.entry k is
    go false is true = tt
    go false is false = tt

pub due_own : (h : List TransactionOp) (now : ℕ) → AreGoodActions h → IsOwnDue (IsSentIn h) (due_result (next_due now (live h)))
due_own h now g = due-by (Kind h) (IsSentIn h) (next_due now (live h)) (next-own (Kind h) (IsSentIn h) now (live h) (live-keep h (all_keep h g)))

pub repeat_own : (h : List TransactionOp) (p : Peer) (key : ℕ) → AreGoodActions h → IsOwnAgain (Kind h) (IsSentIn h) (bind_entry (retransmission_for p) (by_key key (live h)))
repeat_own h p key g = again_own (Kind h) (IsSentIn h) p (by_key key (live h)) (find-each (Keeps (Kind h) (IsSentIn h)) (is_of key) (live h) (live-keep h (all_keep h g)))

pub same_again : (h : List TransactionOp) (key : ℕ) → AreGoodActions h → IsOwnAgain (Kind h) (IsSentIn h) (bind_entry last_sent (by_key key (live h)))
same_again h key g = same_own (Kind h) (IsSentIn h) (by_key key (live h)) (find-each (Keeps (Kind h) (IsSentIn h)) (is_of key) (live h) (live-keep h (all_keep h g)))

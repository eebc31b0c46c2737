-- What is sent at a moment is not due at that moment.
use Rattle.std.proofs.Common.{◌≡◌, ℕ, zero, suc, ◌+◌, ◌≤◌, ◌<◌, List, [], ◌∷◌, ◌++◌, length, refl, true, false, Bool, not, ◌&&◌, ◌||◌, inl, inr, sym, ap, ◌∙◌, arith, cond, subst, append-nil}
use Rattle.std.specs.Prelude.{Option, Some, None, ◌==◌, count_by, filter, nat_le, option_map, option_to_list, flat_map}
use Rattle.std.specs.Option.{option_or}
use Rattle.std.proofs.lemmas.Bool.{cases_lt, le-leb}
use Rattle.std.proofs.lemmas.Bool.Decides.{nat_tests}
use Rattle.std.proofs.lemmas.List.Recursion.{is_count_by}
use Rattle.std.proofs.lemmas.Option.{none-some, same_Some}
use Rattle.mmtel_message.specs.Message.{Message}
use Rattle.mmtel_message.specs.Texts.{message_text}
use Rattle.mmtel_message.specs.declared.messages.Start.{Start}
use Rattle.mmtel_transaction.specs.declared.entries.TransactionTimer.{TransactionTimer}
use Rattle.mmtel_transaction.specs.declared.entries.Entry.{Entry}
use Rattle.mmtel_transaction.specs.declared.entries.State.TheVariants.{Absorbing, Calling, Completed, Trying}
use Rattle.mmtel_transaction.specs.declared.entries.ReliableResponse.{ReliableResponse}
use Rattle.mmtel_transaction.specs.Heads.{head_of, is_invite, is_provisional, is_refusal, reliable_number}
use Rattle.mmtel_transaction.specs.Deadlines.{timer_of, timers, reliable_timers_of, reliable_timers, timer_at_state, deadline, is_untimed}
use Rattle.mmtel_transaction.specs.Deadlines.{last_deadline, message_due, order_due, state_timers, state_retransmission_at, step_due}
use Rattle.mmtel_transaction.specs.Changes.{after_any_reply, after_reply, after_settling, after_state_timer, after_timer, new_client_entry}
use Rattle.mmtel_transaction.specs.Changes.{reliable_response_of, with_kept_ack, with_reliable, with_reliable_if, without_rseq}
use Rattle.mmtel_transaction.specs.Operations.{TransactionOp, DidAck, DidAsk, DidBegin, DidReply, DidSettle, is_live, live, send_count, openings, step_of}
use Rattle.mmtel_transaction.specs.Results.{DueEntryView, next_due}
use Rattle.mmtel_transaction.specs.Firings.{BeginsChangeNothing, DueIsCounted, FiringsLeaveFewer, SendsAddNone, due_by, is_not_later}
use Rattle.mmtel_transaction.specs.Table.{table_after_change}
use Rattle.mmtel_timers.specs.Shelves.{Has}
use Rattle.mmtel_transaction.proofs.Before.{not_less}
use Rattle.mmtel_transaction.proofs.Foremost.{answers_in, busy_fired, fired_answer, foremost_there, is_idle_with, next_alarm, retransmitted_at, retransmitted_later, timer_in, timer_there}
use Rattle.mmtel_transaction.proofs.Foremost.{no_alarm, no_answer_in, no_plan, none_before, state_timer, state_timer_at, state_timer_is, state_timer_later, still_busy, which}
use Rattle.mmtel_transaction.proofs.Order.{is_next, none_due}
use Rattle.mmtel_transaction.proofs.Settle.{fires_less, is_total, total}
use Rattle.mmtel_transaction.proofs.Representation.{live_hit, live_new}

-- how many of its deadlines are not later than a moment
abbrev weight : ℕ → Entry → ℕ
weight at e = count_by (is_not_later at) (timers e)

total_is : (at : ℕ) (es : List Entry) → total (weight at) es ≡ due_by at es
total_is at es = is_total (weight at) es

-- one for a deadline that is not later than a moment, else zero
abbrev one : ℕ → Option TransactionTimer → ℕ
one at None = 0
one at (Some a) = cond (is_not_later at a) 1 0

one_later : (at : ℕ) (o : Option TransactionTimer) → ((b : TransactionTimer) → o ≡ Some b → at < b.at) → one at o ≡ 0
one_later at None f = refl
one_later at (Some b) f = let l = f b refl in ap (λ t. cond t 1 0) (let t : nat_le b.at at ≡ false = grind (arith, nat_tests) in t)

one_due : (at : ℕ) (b : TransactionTimer) → b.at ≤ at → one at (Some b) ≡ 1
one_due at b l = ap (λ t. cond t 1 0) (le-leb b.at at l)

-- so many of the responses
abbrev awaited : ℕ → List ReliableResponse → ℕ
awaited at [] = 0
awaited at (x ∷ xs) = one at (timer_of x) + awaited at xs

abbrev number : ℕ → List TransactionTimer → ℕ
number at [] = 0
number at (a ∷ ls) = cond (is_not_later at a) (1 + number at ls) (number at ls)

number_is : (at : ℕ) (ls : List TransactionTimer) → number at ls ≡ count_by (is_not_later at) ls
number_is at ls = is_count_by (number at) (is_not_later at) refl (λ x xs. refl) ls

number_more : (at : ℕ) (o : Option TransactionTimer) (ls : List TransactionTimer) → number at (option_to_list o ++ ls) ≡ one at o + number at ls
number_more at None ls = omega arith
number_more at (Some a) ls = either (is_not_later at a)
  where
    either : (t : Bool) → cond t (1 + number at ls) (number at ls) ≡ cond t 1 0 + number at ls
    either true = refl
    either false = omega arith

number_awaited : (at : ℕ) (xs : List ReliableResponse) → number at (flat_map reliable_timers_of xs) ≡ awaited at xs
number_awaited at [] = refl
number_awaited at (x ∷ xs) = number_more at (timer_of x) (flat_map reliable_timers_of xs) ∙ ap (λ n. one at (timer_of x) + n) (number_awaited at xs)

number_plan : (at : ℕ) (e : Entry) (o : Option ℕ) → number at (timer_at_state e o) ≡ one at (state_timer_at e o)
number_plan at e None = refl
number_plan at e (Some a) = refl

idle_weight : (at : ℕ) (e : Entry) → is_untimed e.state ≡ true → weight at e ≡ awaited at e.reliable
idle_weight at e t = ap (λ b. count_by (is_not_later at) (cond b (reliable_timers e) (state_timers e))) t ∙ (sym (number_is at (reliable_timers e)) ∙ number_awaited at e.reliable)

busy_weight : (at : ℕ) (e : Entry) → is_untimed e.state ≡ false → weight at e ≡ one at (state_timer e)
busy_weight at e t = ap (λ b. count_by (is_not_later at) (cond b (reliable_timers e) (state_timers e))) t
    ∙ (sym (number_is at (state_timers e)) ∙ number_plan at e (option_or (state_retransmission_at e) (last_deadline e)))

awaited_zero : (at : ℕ) (xs : List ReliableResponse) → ((i : ℕ) (b : TransactionTimer) → timer_there xs i ≡ Some b → at < b.at) → awaited at xs ≡ 0
awaited_zero at [] f = refl
awaited_zero at (x ∷ xs) f = omega (arith, one_later at (timer_of x) (λ b q. f 0 b q), awaited_zero at xs (λ i b q. f (suc i) b q))

awaited_some : (at i : ℕ) (b : TransactionTimer) (xs : List ReliableResponse) → timer_there xs i ≡ Some b → b.at ≤ at → 1 ≤ awaited at xs
awaited_some at i b [] q l = absurd (none-some b q)
awaited_some at zero b (x ∷ xs) q l = let w = ap (one at) q ∙ one_due at b l in omega (arith, w)
awaited_some at (suc i) b (x ∷ xs) q l = let w = awaited_some at i b xs q l in omega (arith, w)

awaited_again : (s place : ℕ) (xs : List ReliableResponse) (a : TransactionTimer) → timer_there xs place ≡ Some a → suc (awaited a.at (retransmitted_at s place xs)) ≤ awaited a.at xs
awaited_again s place [] a q = absurd (none-some a q)
awaited_again s zero (x ∷ xs) a q =
    let before = ap (one a.at) q ∙ one_due a.at a (omega arith) in
    let after = one_later a.at (timer_of (let y : ReliableResponse = record x { retransmissions = x.retransmissions + 1; step = s } in y)) (λ b r. retransmitted_later s x a b q r) in
    omega (arith, before, after)
awaited_again s (suc place) (x ∷ xs) a q = let w = awaited_again s place xs a q in omega (arith, w)

awaited_more : (at : ℕ) (xs : List ReliableResponse) (x : ReliableResponse) → one at (timer_of x) ≡ 0 → awaited at (xs ++ x ∷ []) ≡ awaited at xs
awaited_more at [] x q = omega (arith, q)
awaited_more at (y ∷ xs) x q = ap (λ n. one at (timer_of y) + n) (awaited_more at xs x q)

awaited_filter : (at : ℕ) (p : ReliableResponse → Bool) (xs : List ReliableResponse) → awaited at (filter p xs) ≤ awaited at xs
awaited_filter at p [] = omega arith
awaited_filter at p (x ∷ xs) = either (p x) (awaited_filter at p xs)
  where
    either : (b : Bool) → awaited at (filter p xs) ≤ awaited at xs → awaited at (cond b (x ∷ filter p xs) (filter p xs)) ≤ awaited at (x ∷ xs)
    either true l = omega (arith, l)
    either false l = omega (arith, l)

module _ (at : ℕ) (e : Entry) where
  weight_zero : ((p : Option ℕ) (b : TransactionTimer) → timer_in e p ≡ Some b → at < b.at) → weight at e ≡ 0
  weight_zero f = either (is_untimed e.state) refl
    where
      either : (t : Bool) → is_untimed e.state ≡ t → weight at e ≡ 0
      either true t = idle_weight at e t ∙ awaited_zero at e.reliable (λ i b q. f (Some i) b (answers_in e i t ∙ q))
      either false t = busy_weight at e t ∙ one_later at (state_timer e) (λ b q. f None b q)

  weight_some : (p : Option ℕ) (b : TransactionTimer) → timer_in e p ≡ Some b → b.at ≤ at → 1 ≤ weight at e
  weight_some p b q l = either (is_untimed e.state) refl p q
    where
      either : (t : Bool) → is_untimed e.state ≡ t → (p : Option ℕ) → timer_in e p ≡ Some b → 1 ≤ weight at e
      either true t None r = absurd (none-some b (sym (no_plan e t) ∙ r))
      either true t (Some i) r = omega (arith, idle_weight at e t, awaited_some at i b e.reliable (sym (answers_in e i t) ∙ r) l)
      either false t None r = omega (arith, busy_weight at e t ∙ (ap (one at) r ∙ one_due at b l))
      either false t (Some i) r = absurd (none-some b (sym (no_answer_in e i t) ∙ r))

-- ---- what is due

none_if : (at : ℕ) (e : Entry) → ((a : ℕ) → deadline e ≡ Some a → a ≤ at → ⊥) → weight at e ≡ 0
none_if at e f = weight_zero at e (λ p b q. either (deadline e) refl p b q)
  where
    either : (o : Option ℕ) → deadline e ≡ o → (p : Option ℕ) (b : TransactionTimer) → timer_in e p ≡ Some b → at < b.at
    either None d p b q = absurd (none-some b (sym (no_alarm e d p) ∙ q))
    either (Some a) d p b q =
        let l = not_less b.at b.step b.order a (step_due e) (order_due e) (none_before e a d p b q) in
        elim (cases_lt at a) [ inl m ↦ omega (arith, l, m) | inr m ↦ absurd (f a d m) ]

none_all : (at : ℕ) (es : List Entry) → ((a : ℕ) (e : Entry) → Has e es → deadline e ≡ Some a → a ≤ at → ⊥) → total (weight at) es ≡ 0
none_all at [] f = refl
none_all at (e ∷ es) f = omega (arith, none_if at e (λ a q l. f a e (inl refl) q l), none_all at es (λ a x g q l. f a x (inr g) q l))

at_least : (at : ℕ) (es : List Entry) (e : Entry) → Has e es → weight at e ≤ total (weight at) es
at_least at [] e g = absurd g
at_least at (x ∷ es) e (inl q) = let w = ap (weight at) q in omega (arith, w)
at_least at (x ∷ es) e (inr g) = omega (arith, at_least at es e g)

not_past : (at a : ℕ) (e : Entry) → deadline e ≡ Some a → a ≤ at → 1 ≤ weight at e
not_past at a e q l = weight_some at e (message_due e) (record { at = a; step = step_due e; order = order_due e }) (next_alarm e a q) l

no_next : (h : List TransactionOp) (at : ℕ) (o : Option DueEntryView) → next_due at (live h) ≡ o → due_by at (live h) ≡ 0 → o ≡ None
no_next h at None q z = refl
no_next h at (Some n) q z =
    let w = is_next at (live h) n q in
    absurd (omega (arith, z, total_is at (live h), at_least at (live h) n.entry w.stands, not_past at n.at n.entry w.moment w.not_past))

pub due_is_counted : DueIsCounted
due_is_counted h at = (λ q. sym (total_is at (live h)) ∙ none_all at (live h) (λ a e g d l. none_due at (live h) a e q d l g), no_next h at (next_due at (live h)) refl)

-- ---- a firing

fired_fewer : (s at : ℕ) (e : Entry) → deadline e ≡ Some at → is_live (after_timer s e) ≡ true → suc (weight at (after_timer s e)) ≤ weight at e
fired_fewer s at e q l = elim (which e at q) [
  | inl w ↦
      let t = is_idle_with e w.0 w.1 in
      let after : weight at (after_timer s e) ≡ awaited at (retransmitted_at s w.0.0 e.reliable) =
      ap (weight at) (fired_answer e s w.0 w.1) ∙ idle_weight at (record e { reliable = retransmitted_at s w.0.0 e.reliable }) t in
      let before = idle_weight at e t in
      let less = subst (λ m. suc (awaited m (retransmitted_at s w.0.0 e.reliable)) ≤ awaited m e.reliable) w.2 (awaited_again s w.0.0 e.reliable w.0.1 (foremost_there e w.0 w.1)) in
      omega (arith, after, before, less)
  | inr w ↦
      let is = busy_fired e s w.0 in
      let x : Entry = after_state_timer s e in
      let after : weight at (after_timer s e) ≡ one at (state_timer x) = ap (weight at) is ∙ busy_weight at x (still_busy s e w.0) in
      let later : one at (state_timer x) ≡ 0 =
      one_later at (state_timer x) (λ b r. state_timer_later s at b.at e w.1 (ap is_live (sym is) ∙ l) (state_timer_is x (option_or (state_retransmission_at x) (last_deadline x)) b r).0) in
      omega (arith, after, later, not_past at at e q (omega arith))
]

pub leave_fewer : FiringsLeaveFewer
leave_fewer h now n q =
    let w = is_next now (live h) n q in
    fires_less (weight n.at) h now n q (λ l. fired_fewer (step_of h) n.at n.entry w.moment l) (not_past n.at n.at n.entry w.moment (omega arith))

-- ---- other operations

keep_if : (at : ℕ) (l t : Bool) (x y : Entry) (es fs : List Entry) → weight at x ≤ weight at y → total (weight at) fs ≤ total (weight at) es →
    total (weight at) (cond t (cond l (x ∷ es) es) (y ∷ fs)) ≤ total (weight at) (y ∷ es)
keep_if at true true x y es fs f g = omega (arith, f)
keep_if at false true x y es fs f g = omega arith
keep_if at l false x y es fs f g = omega (arith, g)

keeps_all : (at key : ℕ) (f : Entry → Entry) (es : List Entry) → ((e : Entry) → weight at (f e) ≤ weight at e) → total (weight at) (table_after_change key f es) ≤ total (weight at) es
keeps_all at key f [] q = omega arith
keeps_all at key f (e ∷ es) q = keep_if at (is_live (f e)) (e.key == key) (f e) e es (table_after_change key f es) (q e) (keeps_all at key f es q)

weighs_if : (at : ℕ) (b : Bool) (x y e : Entry) → weight at x ≤ weight at e → weight at y ≤ weight at e → weight at (cond b x y) ≤ weight at e
weighs_if at true x y e f g = f
weighs_if at false x y e f g = g

-- a state that is counted from a moment waits for a later one
plan_later : (at : ℕ) (e : Entry) (b : ℕ) → is_untimed e.state ≡ false → option_or (state_retransmission_at e) (last_deadline e) ≡ Some b → at < b → weight at e ≡ 0
plan_later at e b t q l = busy_weight at e t
    ∙ (ap (λ o. one at (state_timer_at e o)) q ∙ one_later at (Some (record { at = b; step = e.step; order = e.order })) (λ c r. let w = ap (λ (y : TransactionTimer). y.at) (same_Some _ c r) in omega (arith, w, l)))

final_zero : (at : ℕ) (b : Bool) (e : Entry) → weight at (record e { state = cond b Completed Absorbing; start = at; retransmissions = 0 }) ≡ 0
final_zero at true e = plan_later at (record e { state = Completed; start = at; retransmissions = 0 }) (at + 500) refl refl (omega arith)
final_zero at false e = plan_later at (record e { state = Absorbing; start = at; retransmissions = 0 }) (at + 32000) refl refl (omega arith)

asked_zero : (at : ℕ) (b : Bool) (e : Entry) → weight at (record e { state = cond b Calling Trying; start = at; retransmissions = 0 }) ≡ 0
asked_zero at true e = plan_later at (record e { state = Calling; start = at; retransmissions = 0 }) (at + 500) refl refl (omega arith)
asked_zero at false e = plan_later at (record e { state = Trying; start = at; retransmissions = 0 }) (at + 500) refl refl (omega arith)

replied_adds_none : (s i st : ℕ) (t g : List ℕ) (at : ℕ) (e : Entry) → weight at (after_reply s i st t g at e) ≤ weight at e
replied_adds_none s i st t g at e =
    let final : Entry = record e { last = Some t; step = s; order = i; final_status = st; to_tag = g; is_refused = is_refusal st; reliable = [] } in
    weighs_if at (not e.is_server || not (e.final_status == 0)) e _ e (omega arith)
    (weighs_if at (is_provisional st) (record e { last = Some t }) (record final { state = cond (is_invite e.head) Completed Absorbing; start = at; retransmissions = 0 }) e (omega arith)
    (omega (arith, final_zero at (is_invite e.head) final)))

-- a reliable response that is sent at a moment is retransmitted later
more_weight : (at : ℕ) (x : ReliableResponse) (e : Entry) → one at (timer_of x) ≡ 0 → weight at (record e { reliable = e.reliable ++ x ∷ [] }) ≡ weight at e
more_weight at x e z = either (is_untimed e.state) refl
  where
    either : (t : Bool) → is_untimed e.state ≡ t → weight at (record e { reliable = e.reliable ++ x ∷ [] }) ≡ weight at e
    either true t = idle_weight at (record e { reliable = e.reliable ++ x ∷ [] }) t ∙ (awaited_more at e.reliable x z ∙ sym (idle_weight at e t))
    either false t = busy_weight at (record e { reliable = e.reliable ++ x ∷ [] }) t ∙ sym (busy_weight at e t)

with_adds_none : (at s i : ℕ) (m : Message Start) (e : Entry) → weight at (with_reliable_if (reliable_response_of s i m (message_text m) at) e) ≤ weight at e
with_adds_none at s i m e = either (reliable_number m)
  where
    either : (o : Option ℕ) → weight at (with_reliable_if (option_map (λ own. record { rseq = own; text = message_text m; start = at; retransmissions = 0; step = s; order = i }) o) e) ≤ weight at e
    either None = omega arith
    either (Some own) =
        let x : ReliableResponse = record { rseq = own; text = message_text m; start = at; retransmissions = 0; step = s; order = i } in
        let later : one at (timer_of x) ≡ 0 = one_later at (timer_of x) (λ b r. let w = ap (λ (y : TransactionTimer). y.at) (same_Some (record { at = at + 500; step = s; order = i }) b r) in omega (arith, w)) in
        weighs_if at (not e.is_server || not (e.final_status == 0)) e (record e { reliable = e.reliable ++ x ∷ [] }) e (omega arith) (omega (arith, more_weight at x e later))

offered_adds_none : (s i at : ℕ) (m : Message Start) (e : Entry) → weight at (after_any_reply s i m at e) ≤ weight at e
offered_adds_none s i at m e =
    let x : Entry = with_reliable_if (reliable_response_of s i m (message_text m) at) e in
    omega (arith, replied_adds_none s i (head_of m).status (message_text m) (head_of m).to_tag at x, with_adds_none at s i m e)

-- fewer responses have no more deadlines
less_weight : (at : ℕ) (xs : List ReliableResponse) (e : Entry) → awaited at xs ≤ awaited at e.reliable → weight at (record e { reliable = xs }) ≤ weight at e
less_weight at xs e l = either (is_untimed e.state) refl
  where
    either : (t : Bool) → is_untimed e.state ≡ t → weight at (record e { reliable = xs }) ≤ weight at e
    either true t = omega (arith, idle_weight at (record e { reliable = xs }) t, idle_weight at e t, l)
    either false t = omega (arith, busy_weight at (record e { reliable = xs }) t, busy_weight at e t)

settled_adds_none : (own : Option ℕ) (at : ℕ) (e : Entry) → weight at (after_settling own e) ≤ weight at e
settled_adds_none None at e = less_weight at [] e (omega arith)
settled_adds_none (Some own) at e = less_weight at (without_rseq own e.reliable) e (awaited_filter at (λ (x : ReliableResponse). not (x.rseq == own)) e.reliable)

kept_adds_none : (t : List ℕ) (at : ℕ) (e : Entry) → weight at (with_kept_ack t e) ≤ weight at e
kept_adds_none t at e = weighs_if at (not e.is_server && e.is_refused) (record e { last = Some t }) e e (omega arith) (omega arith)

one_more : (at : ℕ) (e : Entry) (es : List Entry) → weight at e ≡ 0 → total (weight at) (es ++ e ∷ []) ≤ total (weight at) es
one_more at e [] q = omega (arith, q)
one_more at e (x ∷ es) q = omega (arith, one_more at e es q)

as_counted : (at : ℕ) (es fs : List Entry) → total (weight at) es ≤ total (weight at) fs → due_by at es ≤ due_by at fs
as_counted at es fs l = omega (arith, l, total_is at es, total_is at fs)

pub begins_change_nothing : BeginsChangeNothing
begins_change_nothing h step = live_new (DidBegin step) h (λ e. refl) ∙ append-nil (live h)

-- an operation that changes one transaction
hit_adds_none : (c : TransactionOp) (h : List TransactionOp) (at key : ℕ) (f : Entry → Entry) → live (c ∷ h) ≡ table_after_change key f (live h) → ((e : Entry) → weight at (f e) ≤ weight at e) →
    due_by at (live (c ∷ h)) ≤ due_by at (live h)
hit_adds_none c h at key f q l = subst (λ es. due_by at es ≤ due_by at (live h)) (sym q) (as_counted at (table_after_change key f (live h)) (live h) (keeps_all at key f (live h) l))

pub sends_add_none : SendsAddNone
sends_add_none h = record {
  asks = λ p m at.
      let e : Entry = new_client_entry (step_of h) (send_count h) (length (openings h)) p (head_of m) (message_text m) at in
      subst (λ es. due_by at es ≤ due_by at (live h)) (sym (live_new (DidAsk p m at) h (λ x. refl))) (as_counted at (live h ++ e ∷ []) (live h) (one_more at e (live h) (asked_zero at (is_invite (head_of m)) e)));
  replies = λ key m at. hit_adds_none (DidReply key m at) h at key (after_any_reply (step_of h) (send_count h) m at)
      (live_hit (DidReply key m at) h key (after_any_reply (step_of h) (send_count h) m at) (λ e. refl) refl) (offered_adds_none (step_of h) (send_count h) at m);
  acks = λ key m at. hit_adds_none (DidAck key m) h at key (with_kept_ack (message_text m)) (live_hit (DidAck key m) h key (with_kept_ack (message_text m)) (λ e. refl) refl) (kept_adds_none (message_text m) at);
  settles = λ key own at. hit_adds_none (DidSettle key own) h at key (after_settling own) (live_hit (DidSettle key own) h key (after_settling own) (λ e. refl) refl) (settled_adds_none own at);
}

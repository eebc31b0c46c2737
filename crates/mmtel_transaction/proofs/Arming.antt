-- A deadline is armed in the step of the operation that caused it.
use Rattle.std.proofs.Common.{◌≡◌, ℕ, zero, suc, ◌+◌, List, [], ◌∷◌, ◌++◌, length, refl, true, false, Bool, not, ◌&&◌, ◌||◌, ◌⊎◌, inl, inr, sym, ap, ◌∙◌, cond, subst}
use Rattle.std.specs.Prelude.{Option, Some, None, ◌==◌, filter, flat_map, is_some, option_map, option_to_list, slice_get}
use Rattle.std.specs.Option.{option_or}
use Rattle.std.proofs.lemmas.Option.{none-some, same_Some}
use Rattle.mmtel_types.specs.declared.numbers.Peer.{Peer}
use Rattle.mmtel_message.specs.Message.{Message}
use Rattle.mmtel_message.specs.Texts.{message_text}
use Rattle.mmtel_message.specs.declared.messages.Start.{Start}
use Rattle.mmtel_transaction.specs.declared.heads.Head.{Head}
use Rattle.mmtel_transaction.specs.declared.entries.TransactionTimer.{TransactionTimer}
use Rattle.mmtel_transaction.specs.declared.entries.Entry.{Entry}
use Rattle.mmtel_transaction.specs.declared.entries.State.TheVariants.{Proceeding, SlowProceeding, Completed, Absorbing}
use Rattle.mmtel_transaction.specs.declared.entries.State.TheVariants as states
use Rattle.mmtel_transaction.specs.declared.entries.ReliableResponse.{ReliableResponse}
use Rattle.mmtel_transaction.specs.declared.message_class.MessageClass.{MessageClass}
use Rattle.mmtel_transaction.specs.declared.message_class.MessageClass.TheVariants as part
use Rattle.mmtel_transaction.specs.Heads.{head_of, is_invite, is_provisional, is_refusal, reliable_number}
use Rattle.mmtel_transaction.specs.Deadlines.{deadline, foremost_in, is_untimed, last_deadline, message_due, order_due, reliable_timers}
use Rattle.mmtel_transaction.specs.Deadlines.{reliable_timers_of, state_retransmission_at, state_timers, step_due, timer_at_state, timer_of}
use Rattle.mmtel_transaction.specs.Changes.{after_ack_2xx, after_any_reply, after_failure_ack, after_final, after_provisional, after_reply, after_response, after_settling}
use Rattle.mmtel_transaction.specs.Changes.{after_state_timer, after_timer, after_timer_by, is_ack_of, reliable_response_of, with_kept_ack, with_reliable, with_reliable_if, without_rseq}
use Rattle.mmtel_transaction.specs.Operations.{TransactionOp, DidBegin, DidHear, DidAsk, DidReply, DidAck, DidFire, DidSettle, change}
use Rattle.mmtel_transaction.specs.Operations.{change_on_receipt, opened_on_receipt, is_live, live, send_count, openings, opens, step_of}
use Rattle.mmtel_transaction.specs.Results.{by_key}
use Rattle.mmtel_transaction.specs.Firings.{ArmedInItsStep}
use Rattle.mmtel_transaction.proofs.Lists.{keeps_change}
use Rattle.mmtel_timers.specs.Shelves.{Has}
use Rattle.mmtel_transaction.proofs.Foremost.{answers_in, fired_answer, its_step, next_alarm, no_answer_in, retransmitted, retransmitted_at, state_timer, state_timer_at, state_timer_is, timer_in, timer_there}
use Rattle.mmtel_transaction.proofs.Having.{at_key, has_live, has_more_back, of_key}

-- the next deadline of a response or of a state is among all of these
abbrev At : List TransactionTimer → TransactionTimer → Type 0
At ls a = (place : ℕ) × (slice_get ls place ≡ Some a)

at_left : (ls bs : List TransactionTimer) (a : TransactionTimer) → At ls a → At (ls ++ bs) a
at_left [] bs a w = absurd (none-some a w.1)
at_left (x ∷ ls) bs a (zero, q) = (0, q)
at_left (x ∷ ls) bs a (suc i, q) = let w = at_left ls bs a (i, q) in (suc w.0, w.1)

at_right : (ls bs : List TransactionTimer) (a : TransactionTimer) → At bs a → At (ls ++ bs) a
at_right [] bs a w = w
at_right (x ∷ ls) bs a w = let v = at_right ls bs a w in (suc v.0, v.1)

at_first : (o : Option TransactionTimer) (ls : List TransactionTimer) (a : TransactionTimer) → o ≡ Some a → At (option_to_list o ++ ls) a
at_first None ls a q = absurd (none-some a q)
at_first (Some x) ls a q = (0, q)

answer_at : (xs : List ReliableResponse) (i : ℕ) (a : TransactionTimer) → timer_there xs i ≡ Some a → At (flat_map reliable_timers_of xs) a
answer_at [] i a q = absurd (none-some a q)
answer_at (x ∷ xs) zero a q = at_first (timer_of x) (flat_map reliable_timers_of xs) a q
answer_at (x ∷ xs) (suc i) a q = at_right (reliable_timers_of x) (flat_map reliable_timers_of xs) a (answer_at xs i a q)

plan_at : (e : Entry) (o : Option ℕ) (a : TransactionTimer) → state_timer_at e o ≡ Some a → At (timer_at_state e o) a
plan_at e None a q = absurd (none-some a q)
plan_at e (Some at) a q = (0, q)

abbrev Stood : Entry → TransactionTimer → Type 0
Stood e a = At (reliable_timers e ++ state_timers e) a

answer_stood : (e : Entry) (i : ℕ) (a : TransactionTimer) → timer_there e.reliable i ≡ Some a → Stood e a
answer_stood e i a q = at_left (reliable_timers e) (state_timers e) a (answer_at e.reliable i a q)

plan_stood : (e : Entry) (a : TransactionTimer) → state_timer e ≡ Some a → Stood e a
plan_stood e a q = at_right (reliable_timers e) (state_timers e) a (plan_at e (option_or (state_retransmission_at e) (last_deadline e)) a q)

-- the deadline of a changed transaction that is live was armed in this step, or existed before
abbrev Armed : ℕ → Entry → Entry → Type 0
Armed s e x = is_live x ≡ true → (p : Option ℕ) (a : TransactionTimer) → timer_in x p ≡ Some a → (a.step ≡ s) ⊎ Stood e a

module _ (s : ℕ) (e : Entry) where
  armed_if : (b : Bool) (x y : Entry) → Armed s e x → Armed s e y → Armed s e (cond b x y)
  armed_if true x y f g = f
  armed_if false x y f g = g

  -- by the next deadlines of its responses and its state
  abbrev AnswersArmed : List ReliableResponse → Type 0
  AnswersArmed xs = (i : ℕ) (a : TransactionTimer) → timer_there xs i ≡ Some a → (a.step ≡ s) ⊎ Stood e a

  armed_by : (x : Entry) → AnswersArmed x.reliable → ((a : TransactionTimer) → state_timer x ≡ Some a → (a.step ≡ s) ⊎ Stood e a) → Armed s e x
  armed_by x f g l None a q = g a q
  armed_by x f g l (Some i) a q = either (is_untimed x.state) refl
    where
      either : (t : Bool) → is_untimed x.state ≡ t → (a.step ≡ s) ⊎ Stood e a
      either true t = f i a (sym (answers_in x i t) ∙ q)
      either false t = absurd (none-some a (sym (no_answer_in x i t) ∙ q))

  answers_stood : AnswersArmed e.reliable
  answers_stood i a q = inr (answer_stood e i a q)

  -- with the responses that it had, its state armed in this step, or as before
  armed_now : (x : Entry) → x.reliable ≡ e.reliable → x.step ≡ s → Armed s e x
  armed_now x r k = armed_by x (λ i a q. answers_stood i a (ap (λ xs. timer_there xs i) (sym r) ∙ q)) (λ a q. inl ((state_timer_is x (option_or (state_retransmission_at x) (last_deadline x)) a q).1 ∙ k))

  armed_so : (x : Entry) → AnswersArmed x.reliable → state_timer x ≡ state_timer e → Armed s e x
  armed_so x f k = armed_by x f (λ a q. inr (plan_stood e a (sym k ∙ q)))

  as_before : Armed s e e
  as_before = armed_so e answers_stood refl

  again_armed : (place : ℕ) (xs : List ReliableResponse) → AnswersArmed xs → AnswersArmed (retransmitted_at s place xs)
  again_armed place [] f i a q = f i a q
  again_armed zero (x ∷ xs) f zero a q = inl (its_step (retransmitted s x) a q)
  again_armed zero (x ∷ xs) f (suc i) a q = f (suc i) a q
  again_armed (suc place) (x ∷ xs) f zero a q = f 0 a q
  again_armed (suc place) (x ∷ xs) f (suc i) a q = again_armed place xs (λ j b r. f (suc j) b r) i a q

  armed_planned : Armed s e (after_state_timer s e)
  armed_planned = armed_if (is_some (state_retransmission_at e)) (record e { retransmissions = e.retransmissions + 1; step = s }) (record e { is_terminated = true })
      (armed_now (record e { retransmissions = e.retransmissions + 1; step = s }) refl refl) (λ l. absurd cc)

  armed_fired : Armed s e (after_timer s e)
  armed_fired = either (foremost_in e) refl
    where
      either : (o : Option (ℕ × TransactionTimer)) → foremost_in e ≡ o → Armed s e (after_timer s e)
      either (Some f) q =
          let x : Entry = record e { reliable = retransmitted_at s f.0 e.reliable } in
          subst (Armed s e) (sym (fired_answer e s f q)) (armed_so x (again_armed f.0 e.reliable answers_stood) refl)
      either None q = subst (Armed s e) (sym (ap (λ o. after_timer_by o s e) q)) armed_planned

  -- a reliable response that is sent in this step
  more_armed : (x : ReliableResponse) (xs : List ReliableResponse) → x.step ≡ s → AnswersArmed xs → AnswersArmed (xs ++ x ∷ [])
  more_armed x [] k f zero a q = inl (its_step x a q ∙ k)
  more_armed x [] k f (suc i) a q = absurd (none-some a q)
  more_armed x (y ∷ xs) k f zero a q = f 0 a q
  more_armed x (y ∷ xs) k f (suc i) a q = more_armed x xs k (λ j b r. f (suc j) b r) i a q

  armed_with : (i now : ℕ) (m : Message Start) → Armed s e (with_reliable_if (reliable_response_of s i m (message_text m) now) e)
  armed_with i now m = either (reliable_number m)
    where
      either : (o : Option ℕ) → Armed s e (with_reliable_if (option_map (λ own. record { rseq = own; text = message_text m; start = now; retransmissions = 0; step = s; order = i }) o) e)
      either None = as_before
      either (Some own) =
          let x : ReliableResponse = record { rseq = own; text = message_text m; start = now; retransmissions = 0; step = s; order = i } in
          let y : Entry = record e { reliable = e.reliable ++ x ∷ [] } in
          armed_if (not e.is_server || not (e.final_status == 0)) e y as_before (armed_so y (more_armed x e.reliable refl answers_stood) refl)

  -- a second change, which leaves what the first one left, or arms in this step
  armed_replied : (x : Entry) (i st : ℕ) (t g : List ℕ) (now : ℕ) → Armed s e x → Armed s e (after_reply s i st t g now x)
  armed_replied x i st t g now f =
      let final : Entry =
      record x { last = Some t; state = cond (is_invite x.head) Completed Absorbing; start = now; retransmissions = 0; step = s; order = i; final_status = st; to_tag = g; is_refused = is_refusal st; reliable = [] } in
      armed_if (not x.is_server || not (x.final_status == 0)) x _ f
      (armed_if (is_provisional st) (record x { last = Some t }) final f
      (armed_by final (λ j a q. absurd (none-some a q)) (λ a q. inl (state_timer_is final (option_or (state_retransmission_at final) (last_deadline final)) a q).1)))

  armed_offered : (i now : ℕ) (m : Message Start) → Armed s e (after_any_reply s i m now e)
  armed_offered i now m = armed_replied (with_reliable_if (reliable_response_of s i m (message_text m) now) e) i (head_of m).status (message_text m) (head_of m).to_tag now (armed_with i now m)

  filter_armed : (p : ReliableResponse → Bool) (xs : List ReliableResponse) → AnswersArmed xs → AnswersArmed (filter p xs)
  filter_armed p [] f = f
  filter_armed p (x ∷ xs) f = either (p x) (filter_armed p xs (λ j b r. f (suc j) b r))
    where
      either : (b : Bool) → AnswersArmed (filter p xs) → AnswersArmed (cond b (x ∷ filter p xs) (filter p xs))
      either true g zero a q = f 0 a q
      either true g (suc i) a q = g i a q
      either false g i a q = g i a q

  armed_settled : (own : Option ℕ) → Armed s e (after_settling own e)
  armed_settled None = armed_so (record e { reliable = [] }) (λ i a q. absurd (none-some a q)) refl
  armed_settled (Some own) = armed_so (record e { reliable = without_rseq own e.reliable }) (filter_armed (λ (x : ReliableResponse). not (x.rseq == own)) e.reliable answers_stood) refl

  armed_rang : (now : ℕ) → Armed s e (after_provisional s now e)
  armed_rang now = armed_if (e.is_early || not (e.final_status == 0)) e _ as_before
      (armed_now (record e { is_early = true; state = cond (is_invite e.head) Proceeding SlowProceeding; start = now; retransmissions = 0; step = s }) refl refl)

  armed_finished : (st now : ℕ) → Armed s e (after_final s st now e)
  armed_finished st now = armed_if (not (is_invite e.head)) (record e { is_terminated = true }) _ (λ l. absurd cc)
      (armed_if (not (e.final_status == 0)) (record e { is_refused = e.is_refused || is_refusal st }) _ as_before
      (armed_now (record e { state = Absorbing; start = now; retransmissions = 0; step = s; final_status = st; is_refused = is_refusal st }) refl refl))

  armed_answered : (st now : ℕ) → Armed s e (after_response s st now e)
  armed_answered st now = armed_if (is_provisional st) (after_provisional s now e) (after_final s st now e) (armed_rang now) (armed_finished st now)

  armed_acked : (now : ℕ) → Armed s e (after_failure_ack s now e)
  armed_acked now = armed_if e.is_acked e _ as_before (armed_now (record e { is_acked = true; state = states.Confirmed; start = now; retransmissions = 0; step = s }) refl refl)

  armed_acked_2xx : (m : Head) → Armed s e (after_ack_2xx s m e)
  armed_acked_2xx m = armed_if (is_ack_of m e) _ e (armed_now (record e { is_acked = true; state = Absorbing; step = s }) refl refl) as_before

  armed_kept : (t : List ℕ) → Armed s e (with_kept_ack t e)
  armed_kept t = armed_if (not e.is_server && e.is_refused) (record e { last = Some t }) e as_before as_before

  armed_hit : (k : ℕ) (x : Entry) → Armed s e x → Armed s e (cond (e.key == k) x e)
  armed_hit k x f = armed_if (e.key == k) x e f as_before

  armed_heard : (m : Message Start) (now : ℕ) (t : MessageClass) → Armed s e (change_on_receipt s m now t e)
  armed_heard m now part.Fresh = as_before
  armed_heard m now part.Full = as_before
  armed_heard m now (part.Repeat k) = as_before
  armed_heard m now (part.RepeatedFinal k) = as_before
  armed_heard m now (part.Answer k) = armed_hit k (after_response s (head_of m).status now e) (armed_answered (head_of m).status now)
  armed_heard m now (part.Acked k) = armed_hit k (after_failure_ack s now e) (armed_acked now)
  armed_heard m now part.AckOf2xx = armed_acked_2xx (head_of m)
  armed_heard m now part.Stray = as_before

  armed_change : (i : ℕ) (c : TransactionOp) → Armed s e (change s i c e)
  armed_change i (DidBegin n) = as_before
  armed_change i (DidHear p m now t) = armed_heard m now t
  armed_change i (DidAsk p m now) = as_before
  armed_change i (DidReply k m now) = armed_hit k (after_any_reply s i m now e) (armed_offered i now m)
  armed_change i (DidAck k m) = armed_hit k (with_kept_ack (message_text m) e) (armed_kept (message_text m))
  armed_change i (DidFire k) = armed_hit k (after_timer s e) armed_fired
  armed_change i (DidSettle k own) = armed_hit k (after_settling own e) (armed_settled own)

-- what is opened has no reliable responses, and the deadline of its state is armed in this step
record IsNew (s : ℕ) (e : Entry) : Type 0 where
  step : e.step ≡ s
  answers : e.reliable ≡ []

is_new : (s : ℕ) (e x : Entry) → e ≡ x → x.step ≡ s → x.reliable ≡ [] → IsNew s e
is_new s e x q k r = record { step = ap (λ (y : Entry). y.step) q ∙ k; answers = ap (λ (y : Entry). y.reliable) q ∙ r }

news_heard : (s k : ℕ) (p : Peer) (m : Message Start) (now : ℕ) (t : MessageClass) (e : Entry) → Has e (opened_on_receipt s k p m now t) → IsNew s e
news_heard s k p m now part.Fresh e (inl q) = is_new s e _ q refl refl
news_heard s k p m now part.Fresh e (inr f) = absurd f
news_heard s k p m now part.Full e f = absurd f
news_heard s k p m now (part.Repeat j) e f = absurd f
news_heard s k p m now (part.RepeatedFinal j) e f = absurd f
news_heard s k p m now (part.Answer j) e f = absurd f
news_heard s k p m now (part.Acked j) e f = absurd f
news_heard s k p m now part.AckOf2xx e f = absurd f
news_heard s k p m now part.Stray e f = absurd f

news_step : (s i k : ℕ) (c : TransactionOp) (e : Entry) → Has e (opens s i k c) → IsNew s e
news_step s i k (DidBegin n) e f = absurd f
news_step s i k (DidHear p m now t) e f = news_heard s k p m now t e f
news_step s i k (DidAsk p m now) e (inl q) = is_new s e _ q refl refl
news_step s i k (DidAsk p m now) e (inr f) = absurd f
news_step s i k (DidReply j m now) e f = absurd f
news_step s i k (DidAck j m) e f = absurd f
news_step s i k (DidFire j) e f = absurd f
news_step s i k (DidSettle j own) e f = absurd f

new_armed : (s : ℕ) (e : Entry) → IsNew s e → (p : Option ℕ) (a : TransactionTimer) → timer_in e p ≡ Some a → a.step ≡ s
new_armed s e w None a q = (state_timer_is e (option_or (state_retransmission_at e) (last_deadline e)) a q).1 ∙ w.step
new_armed s e w (Some i) a q = either (is_untimed e.state) refl
  where
    either : (t : Bool) → is_untimed e.state ≡ t → a.step ≡ s
    either true t = absurd (none-some a (sym (ap (λ xs. timer_there xs i) w.answers) ∙ (sym (answers_in e i t) ∙ q)))
    either false t = absurd (none-some a (sym (no_answer_in e i t) ∙ q))

pub armed_in_its_step : ArmedInItsStep
armed_in_its_step c h key a x q d =
    let v = of_key (c ∷ h) key x q in
    let next : TransactionTimer = record { at = a; step = step_due x; order = order_due x } in
    let waits : timer_in x (message_due x) ≡ Some next = next_alarm x a d in
    elim (has_more_back c h x v.0) [
      | inl w ↦
          let e : Entry = w.0 in
          let same : x ≡ change (step_of h) (send_count h) c e = w.2 in
          let k : e.key ≡ key = sym ((keeps_change (step_of h) (send_count h) c e).key) ∙ (ap (λ (y : Entry). y.key) (sym same) ∙ v.1) in
          elim (armed_change (step_of h) e (send_count h) c (ap is_live (sym same) ∙ has_live (c ∷ h) x v.0) (message_due x) next (ap (λ (y : Entry). timer_in y (message_due x)) (sym same) ∙ waits)) [
            | inl s ↦ inl s
            | inr s ↦ inr (record { entry = e; live = subst (λ j. by_key j (live h) ≡ Some e) k (at_key h e w.1); place = s.0; was_timer = s.1 })
          ]
      | inr f ↦ inl (new_armed (step_of h) x (news_step (step_of h) (send_count h) (length (openings h)) c x f) (message_due x) next waits)
    ]

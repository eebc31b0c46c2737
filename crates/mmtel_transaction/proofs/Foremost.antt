-- What a transaction waits for, and what remains of it once the first deadline of that has fired.
use Rattle.std.proofs.Common.{◌≡◌, ℕ, zero, suc, ◌+◌, ◌≤◌, ◌<◌, List, [], ◌∷◌, ◌++◌, map, refl, true, false, Bool, ◌⊎◌, inl, inr, sym, ap, ◌∙◌, arith, cond, subst}
use Rattle.std.specs.Prelude.{Option, Some, None, nat_lt, filter, is_some, option_map, slice_get, slice_set}
use Rattle.std.specs.Option.{option_or, unwrap_or}
use Rattle.std.proofs.lemmas.Bool.{ltb-true}
use Rattle.std.proofs.lemmas.Option.{none-some, same_Some}
use Rattle.mmtel_base.specs.Chain.{◌>>=◌}
use Rattle.mmtel_timers.specs.Schedules.{moments_of}
use Rattle.mmtel_timers.specs.declared.schedules.Schedule.TheVariants as schedule
use Rattle.mmtel_transaction.specs.declared.entries.TransactionTimer.{TransactionTimer}
use Rattle.mmtel_transaction.specs.declared.entries.Entry.{Entry}
use Rattle.mmtel_transaction.specs.declared.entries.State.{State}
use Rattle.mmtel_transaction.specs.declared.entries.State.TheVariants.{Proceeding, Calling, Trying, SlowProceeding, Completed, Absorbing}
use Rattle.mmtel_transaction.specs.declared.entries.State.TheVariants as states
use Rattle.mmtel_transaction.specs.declared.entries.ReliableResponse.{ReliableResponse}
use Rattle.mmtel_transaction.specs.Deadlines.{at_place, deadline, foremost_from, foremost_in, if_before, is_sooner, is_untimed, last_deadline, last_deadline_by, message_due, scheduled_moment, timer_at, timer_of}
use Rattle.mmtel_transaction.specs.Deadlines.{order_due, retransmission_at, retransmission_by, slow_at, sooner_of, state_retransmission_at, step_due}
use Rattle.mmtel_transaction.specs.Changes.{after_retransmission, after_retransmission_at, after_state_timer, after_timer, after_timer_by}
use Rattle.mmtel_transaction.specs.Results.{retransmitted_text, state_text, text_by}
use Rattle.mmtel_transaction.specs.Operations.{is_live}
use Rattle.mmtel_transaction.proofs.Before.{before, climbs, counted_at, itself, other_way, through}

-- ---- reliable responses

-- the next deadline of the response at a position
abbrev pub timer_there : List ReliableResponse → ℕ → Option TransactionTimer
timer_there [] i = None
timer_there (x ∷ xs) zero = timer_of x
timer_there (x ∷ xs) (suc i) = timer_there xs i

-- none of these comes before
abbrev NoneSooner : List ReliableResponse → TransactionTimer → Type 0
NoneSooner xs a = (i : ℕ) (b : TransactionTimer) → timer_there xs i ≡ Some b → is_sooner b a ≡ false

none_sooner : (x : ReliableResponse) (xs : List ReliableResponse) (a : TransactionTimer) → ((b : TransactionTimer) → timer_of x ≡ Some b → is_sooner b a ≡ false) → NoneSooner xs a → NoneSooner (x ∷ xs) a
none_sooner x xs a f g zero b q = f b q
none_sooner x xs a f g (suc i) b q = g i b q

-- the one that is found first
record IsForemost (k : ℕ) (xs : List ReliableResponse) (f : ℕ × TransactionTimer) : Type 0 where
  place : ℕ
  is : f.0 ≡ k + place
  there : timer_there xs place ≡ Some f.1
  first : NoneSooner xs f.1

none_from : (k : ℕ) (xs : List ReliableResponse) → foremost_from k xs ≡ None → (i : ℕ) → timer_there xs i ≡ None
none_from k [] q i = refl
none_from k (x ∷ xs) q i = more (timer_of x) (foremost_from (suc k) xs) i refl q (none_from (suc k) xs)
  where
    more : (o : Option TransactionTimer) (r : Option (ℕ × TransactionTimer)) (i : ℕ) → timer_of x ≡ o → sooner_of (at_place k o) r ≡ None → (r ≡ None → (j : ℕ) → timer_there xs j ≡ None) → timer_there (x ∷ xs) i ≡ None
    more None r zero e p ih = e
    more None r (suc i) e p ih = ih p i
    more (Some a) None i e p ih = absurd (none-some (k, a) (sym p))
    more (Some a) (Some y) i e p ih = absurd (none-some (cond (is_sooner y.1 a) y (k, a)) (sym p))

itself_not : (a b : TransactionTimer) → a ≡ b → is_sooner b a ≡ false
itself_not a b q = subst (λ (c : TransactionTimer). is_sooner c a ≡ false) q (itself a.at a.step a.order)

module _ (k : ℕ) (x : ReliableResponse) (xs : List ReliableResponse) (f : ℕ × TransactionTimer) (ih : (y : ℕ × TransactionTimer) → foremost_from (suc k) xs ≡ Some y → IsForemost (suc k) xs y) where
  here : (a : TransactionTimer) → timer_of x ≡ Some a → (k, a) ≡ f → NoneSooner xs a → IsForemost k (x ∷ xs) f
  here a e p g = record {
    place = 0;
    is = omega (arith, ap (λ (z : ℕ × TransactionTimer). z.0) p);
    there = e ∙ ap (λ (z : ℕ × TransactionTimer). Some z.1) p;
    first = subst (λ (z : ℕ × TransactionTimer). NoneSooner (x ∷ xs) z.1) p (none_sooner x xs a (λ b r. itself_not a b (same_Some a b (sym e ∙ r))) g);
  }

  later : (y : ℕ × TransactionTimer) → foremost_from (suc k) xs ≡ Some y → y ≡ f → ((b : TransactionTimer) → timer_of x ≡ Some b → is_sooner b y.1 ≡ false) → IsForemost k (x ∷ xs) f
  later y g p h =
      let w = ih y g in
      record {
        place = suc w.place;
        is = omega (arith, w.is, ap (λ (z : ℕ × TransactionTimer). z.0) p);
        there = w.there ∙ ap (λ (z : ℕ × TransactionTimer). Some z.1) p;
        first = subst (λ (z : ℕ × TransactionTimer). NoneSooner (x ∷ xs) z.1) p (none_sooner x xs y.1 h w.first);
      }

  either : (t : Bool) (a : TransactionTimer) (y : ℕ × TransactionTimer) → is_sooner y.1 a ≡ t → timer_of x ≡ Some a → foremost_from (suc k) xs ≡ Some y → Some (cond t y (k, a)) ≡ Some f → IsForemost k (x ∷ xs) f
  either true a y t e g p = later y g (same_Some y f p) (λ b r. subst (λ (c : TransactionTimer). is_sooner c y.1 ≡ false) (same_Some a b (sym e ∙ r)) (other_way y.1.at y.1.step y.1.order a.at a.step a.order t))
  either false a y t e g p =
      let w = ih y g in
      here a e (same_Some (k, a) f p) (λ i b r. through b.at b.step b.order y.1.at y.1.step y.1.order a.at a.step a.order (w.first i b r) t)

  foremost_more : (o : Option TransactionTimer) (r : Option (ℕ × TransactionTimer)) → timer_of x ≡ o → foremost_from (suc k) xs ≡ r → sooner_of (at_place k o) r ≡ Some f → IsForemost k (x ∷ xs) f
  foremost_more None None e g p = absurd (none-some f p)
  foremost_more None (Some y) e g p = later y g (same_Some y f p) (λ b r. absurd (none-some b (sym e ∙ r)))
  foremost_more (Some a) None e g p = here a e (same_Some (k, a) f p) (λ i b r. absurd (none-some b (sym (none_from (suc k) xs g i) ∙ r)))
  foremost_more (Some a) (Some y) e g p = either (is_sooner y.1 a) a y refl e g p

is_foremost : (k : ℕ) (xs : List ReliableResponse) (f : ℕ × TransactionTimer) → foremost_from k xs ≡ Some f → IsForemost k xs f
is_foremost k [] f q = absurd (none-some f q)
is_foremost k (x ∷ xs) f q = foremost_more k x xs f (is_foremost (suc k) xs) (timer_of x) (foremost_from (suc k) xs) refl refl q

-- the next deadline of a response, once it was retransmitted
abbrev pub retransmitted : ℕ → ReliableResponse → ReliableResponse
retransmitted s x = record x { retransmissions = x.retransmissions + 1; step = s }

timer_moment : (x : ReliableResponse) (o : Option ℕ) (a : TransactionTimer) → option_map (timer_at x) o ≡ Some a → (o ≡ Some a.at) × (a.step ≡ x.step)
timer_moment x None a q = absurd (none-some a q)
timer_moment x (Some at) a q = let w = same_Some (timer_at x at) a q in (ap (λ (y : TransactionTimer). Some y.at) w, ap (λ (y : TransactionTimer). y.step) (sym w))

pub its_moment : (x : ReliableResponse) (a : TransactionTimer) → timer_of x ≡ Some a → scheduled_moment x.start (moments_of schedule.Invite) x.retransmissions ≡ Some a.at
its_moment x a q = (timer_moment x (scheduled_moment x.start (moments_of schedule.Invite) x.retransmissions) a q).0

pub its_step : (x : ReliableResponse) (a : TransactionTimer) → timer_of x ≡ Some a → a.step ≡ x.step
its_step x a q = (timer_moment x (scheduled_moment x.start (moments_of schedule.Invite) x.retransmissions) a q).1

pub retransmitted_later : (s : ℕ) (x : ReliableResponse) (a b : TransactionTimer) → timer_of x ≡ Some a → timer_of (retransmitted s x) ≡ Some b → a.at < b.at
retransmitted_later s x a b q r =
    let next : scheduled_moment x.start (moments_of schedule.Invite) (suc x.retransmissions) ≡ Some b.at =
    ap (scheduled_moment x.start (moments_of schedule.Invite)) (let w : suc x.retransmissions ≡ x.retransmissions + 1 = omega arith in w) ∙ its_moment (retransmitted s x) b r in
    climbs (moments_of schedule.Invite) x.retransmissions x.start a.at b.at (omega arith, (omega arith, (omega arith, (omega arith, (omega arith, omega arith))))) (its_moment x a q)
    (ap (λ o. option_or o (Some (x.start + 32000))) next)

-- the responses once the one at a position was retransmitted
abbrev pub retransmitted_at : ℕ → ℕ → List ReliableResponse → List ReliableResponse
retransmitted_at s place [] = []
retransmitted_at s zero (x ∷ xs) = retransmitted s x ∷ xs
retransmitted_at s (suc place) (x ∷ xs) = x ∷ retransmitted_at s place xs

resent_more : (s place : ℕ) (o : Option ReliableResponse) (x : ReliableResponse) (xs : List ReliableResponse) → after_retransmission s (suc place) o (x ∷ xs) ≡ x ∷ after_retransmission s place o xs
resent_more s place None x xs = refl
resent_more s place (Some y) x xs = refl

pub resent_is : (s place : ℕ) (xs : List ReliableResponse) → after_retransmission s place (slice_get xs place) xs ≡ retransmitted_at s place xs
resent_is s place [] = refl
resent_is s zero (x ∷ xs) = refl
resent_is s (suc place) (x ∷ xs) = resent_more s place (slice_get xs place) x xs ∙ ap (λ ys. x ∷ ys) (resent_is s place xs)

-- it waits for a later moment, and the others as before
abbrev IsLeft : ℕ → List ReliableResponse → TransactionTimer → ℕ → TransactionTimer → Type 0
IsLeft place xs a i b = ((i ≡ place) × (a.at < b.at)) ⊎ ((i ≡ place → ⊥) × (timer_there xs i ≡ Some b))

left_more : (place : ℕ) (x : ReliableResponse) (xs : List ReliableResponse) (a : TransactionTimer) (i : ℕ) (b : TransactionTimer) → IsLeft place xs a i b → IsLeft (suc place) (x ∷ xs) a (suc i) b
left_more place x xs a i b (inl w) = inl (ap suc w.0, w.1)
left_more place x xs a i b (inr w) = inr (λ q. w.0 (omega (arith, q)), w.1)

again_left : (s place : ℕ) (xs : List ReliableResponse) (a : TransactionTimer) → timer_there xs place ≡ Some a → (i : ℕ) (b : TransactionTimer) →
    timer_there (retransmitted_at s place xs) i ≡ Some b → IsLeft place xs a i b
again_left s place [] a q i b r = absurd (none-some a q)
again_left s zero (x ∷ xs) a q zero b r = inl (refl, retransmitted_later s x a b q r)
again_left s zero (x ∷ xs) a q (suc i) b r = inr (λ p. absurd (omega (arith, p)), r)
again_left s (suc place) (x ∷ xs) a q zero b r = inr (λ p. absurd (omega (arith, p)), r)
again_left s (suc place) (x ∷ xs) a q (suc i) b r = left_more place x xs a i b (again_left s place xs a q i b r)

-- ---- states

-- a state without a deadline waits for nothing
idle_none : (p : State) (start opened k : ℕ) → is_untimed p ≡ true → (retransmission_by p start opened k ≡ None) × (last_deadline_by p start opened ≡ None)
idle_none Proceeding start opened k q = (refl, refl)
idle_none Calling start opened k q = absurd cc
idle_none Trying start opened k q = absurd cc
idle_none SlowProceeding start opened k q = absurd cc
idle_none Completed start opened k q = absurd cc
idle_none Absorbing start opened k q = absurd cc
idle_none states.Confirmed start opened k q = absurd cc

-- the slow moments are cut at an end
pub before_end : (end at a : ℕ) → if_before end at ≡ Some a → (at ≡ a) × (a < end)
before_end end at a q = either (nat_lt at end) refl q
  where
    either : (t : Bool) → nat_lt at end ≡ t → cond t (Some at) None ≡ Some a → (at ≡ a) × (a < end)
    either true e p = let w = same_Some at a p in (w, omega (arith, w, ltb-true at end e))
    either false e p = absurd (none-some a p)

slow_next : (end at b : ℕ) → option_or (if_before end at) (Some end) ≡ Some b → (at ≡ b) ⊎ (end ≡ b)
slow_next end at b q = either (nat_lt at end) q
  where
    either : (t : Bool) → option_or (cond t (Some at) None) (Some end) ≡ Some b → (at ≡ b) ⊎ (end ≡ b)
    either true p = inl (same_Some at b p)
    either false p = inr (same_Some end b p)

is_later : (p : State) (start opened k a b : ℕ) → retransmission_by p start opened k ≡ Some a → option_or (retransmission_by p start opened (suc k)) (last_deadline_by p start opened) ≡ Some b → a < b
is_later Proceeding start opened k a b q r = absurd (none-some a q)
is_later Calling start opened k a b q r = climbs (moments_of schedule.Invite) k start a b (omega arith, (omega arith, (omega arith, (omega arith, (omega arith, omega arith))))) q r
is_later Trying start opened k a b q r = climbs (moments_of schedule.Other) k start a b
    (omega arith, (omega arith, (omega arith, (omega arith, (omega arith, (omega arith, (omega arith, (omega arith, (omega arith, omega arith))))))))) q r
is_later SlowProceeding start opened k a b q r =
    let w = before_end (opened + 32000) (slow_at start k) a q in
    elim (slow_next (opened + 32000) (slow_at start (suc k)) b r) [ inl s ↦ omega (arith, w.0, s) | inr s ↦ omega (arith, w.1, s) ]
is_later Completed start opened k a b q r = climbs (moments_of schedule.Other) k start a b
    (omega arith, (omega arith, (omega arith, (omega arith, (omega arith, (omega arith, (omega arith, (omega arith, (omega arith, omega arith))))))))) q r
is_later Absorbing start opened k a b q r = absurd (none-some a q)
is_later states.Confirmed start opened k a b q r = absurd (none-some a q)

-- ---- a transaction

-- the next deadline of its state
abbrev pub state_timer_at : Entry → Option ℕ → Option TransactionTimer
state_timer_at e o = option_map (λ at. record { at = at; step = e.step; order = e.order }) o

abbrev pub state_timer : Entry → Option TransactionTimer
state_timer e = state_timer_at e (option_or (state_retransmission_at e) (last_deadline e))

-- its next deadline for one of its messages: the reliable response at a position, or that of its state
abbrev pub timer_in : Entry → Option ℕ → Option TransactionTimer
timer_in e None = state_timer e
timer_in e (Some i) = cond (is_untimed e.state) (timer_there e.reliable i) None

pub state_timer_is : (e : Entry) (o : Option ℕ) (b : TransactionTimer) → state_timer_at e o ≡ Some b → (o ≡ Some b.at) × (b.step ≡ e.step) × (b.order ≡ e.order)
state_timer_is e None b q = absurd (none-some b q)
state_timer_is e (Some at) b q =
    let w = same_Some (record { at = at; step = e.step; order = e.order }) b q in
    (ap (λ (y : TransactionTimer). Some y.at) w, ap (λ (y : TransactionTimer). y.step) (sym w), ap (λ (y : TransactionTimer). y.order) (sym w))

-- by which response is first, if there is one
abbrev deadline_by : Option (ℕ × TransactionTimer) → Entry → Option ℕ
deadline_by o e = option_or (option_or (option_map (λ (f : ℕ × TransactionTimer). f.1.at) o) (state_retransmission_at e)) (last_deadline e)

abbrev step_by : Option (ℕ × TransactionTimer) → Entry → ℕ
step_by o e = unwrap_or (option_map (λ (f : ℕ × TransactionTimer). f.1.step) o) e.step

abbrev order_by : Option (ℕ × TransactionTimer) → Entry → ℕ
order_by o e = unwrap_or (option_map (λ (f : ℕ × TransactionTimer). f.1.order) o) e.order

abbrev message_by : Option (ℕ × TransactionTimer) → Option ℕ
message_by o = option_map (λ (f : ℕ × TransactionTimer). f.0) o

module _ (e : Entry) where
  pub when_busy : is_untimed e.state ≡ false → foremost_in e ≡ None
  when_busy t = ap (λ b. cond b (foremost_from 0 e.reliable) None) t

  when_idle : is_untimed e.state ≡ true → foremost_in e ≡ foremost_from 0 e.reliable
  when_idle t = ap (λ b. cond b (foremost_from 0 e.reliable) None) t

  pub answers_in : (i : ℕ) → is_untimed e.state ≡ true → timer_in e (Some i) ≡ timer_there e.reliable i
  answers_in i t = ap (λ b. cond b (timer_there e.reliable i) None) t

  pub no_answer_in : (i : ℕ) → is_untimed e.state ≡ false → timer_in e (Some i) ≡ None
  no_answer_in i t = ap (λ b. cond b (timer_there e.reliable i) None) t

  pub no_plan : is_untimed e.state ≡ true → state_timer e ≡ None
  no_plan t =
      let w = idle_none e.state e.start e.at e.retransmissions t in
      ap (λ o. state_timer_at e (option_or o (last_deadline e))) w.0 ∙ ap (λ o. state_timer_at e o) w.1

  -- one of three holds: a response is first, no response waits while the state has no deadline, or the state has one
  pub is_idle_with : (f : ℕ × TransactionTimer) → foremost_in e ≡ Some f → is_untimed e.state ≡ true
  is_idle_with f q = either (is_untimed e.state) refl
    where
      either : (t : Bool) → is_untimed e.state ≡ t → is_untimed e.state ≡ true
      either true t = t
      either false t = absurd (none-some f (sym (when_busy t) ∙ q))

  foremost_is : (f : ℕ × TransactionTimer) → foremost_in e ≡ Some f → IsForemost 0 e.reliable f
  foremost_is f q = is_foremost 0 e.reliable f (sym (when_idle (is_idle_with f q)) ∙ q)

  pub foremost_there : (f : ℕ × TransactionTimer) → foremost_in e ≡ Some f → timer_there e.reliable f.0 ≡ Some f.1
  foremost_there f q =
      let w = foremost_is f q in
      let at : f.0 ≡ w.place = omega (arith, w.is) in
      ap (timer_there e.reliable) at ∙ w.there

  -- its deadline is the next one of the message that is due first
  pub next_alarm : (a : ℕ) → deadline e ≡ Some a → timer_in e (message_due e) ≡ Some (record { at = a; step = step_due e; order = order_due e })
  next_alarm a q = either (foremost_in e) refl q
    where
      either : (o : Option (ℕ × TransactionTimer)) → foremost_in e ≡ o → deadline_by o e ≡ Some a → timer_in e (message_by o) ≡ Some (record { at = a; step = step_by o e; order = order_by o e })
      either (Some f) s p =
          let same : f.1.at ≡ a = same_Some f.1.at a p in
          answers_in f.0 (is_idle_with f s) ∙ (foremost_there f s ∙ ap (λ at. Some (let r : TransactionTimer = record { at = at; step = f.1.step; order = f.1.order } in r)) same)
      either None s p = ap (state_timer_at e) p

  -- and none of its deadlines comes before that
  pub none_before : (a : ℕ) → deadline e ≡ Some a → (p : Option ℕ) (b : TransactionTimer) → timer_in e p ≡ Some b → before b.at b.step b.order a (step_due e) (order_due e) ≡ false
  none_before a q p b r = either (foremost_in e) refl q p r
    where
      of_plan : (o : Option (ℕ × TransactionTimer)) → foremost_in e ≡ None → o ≡ None → deadline_by None e ≡ Some a → state_timer e ≡ Some b → before b.at b.step b.order a e.step e.order ≡ false
      of_plan o s n d v =
          let w = state_timer_is e (option_or (state_retransmission_at e) (last_deadline e)) b v in
          let same : b.at ≡ a = same_Some b.at a (sym w.0 ∙ d) in
          subst (λ x. before x b.step b.order a e.step e.order ≡ false) (sym same)
          (subst (λ x. before a x b.order a e.step e.order ≡ false) (sym w.1) (subst (λ x. before a e.step x a e.step e.order ≡ false) (sym w.2) (itself a e.step e.order)))

      either : (o : Option (ℕ × TransactionTimer)) → foremost_in e ≡ o → deadline_by o e ≡ Some a → (p : Option ℕ) → timer_in e p ≡ Some b → before b.at b.step b.order a (step_by o e) (order_by o e) ≡ false
      either (Some f) s d None v = absurd (none-some b (sym (no_plan (is_idle_with f s)) ∙ v))
      either (Some f) s d (Some i) v =
          let same : f.1.at ≡ a = same_Some f.1.at a d in
          subst (λ x. before b.at b.step b.order x f.1.step f.1.order ≡ false) same ((foremost_is f s).first i b (sym (answers_in i (is_idle_with f s)) ∙ v))
      either None s d None v = of_plan None s refl d v
      either None s d (Some i) v = by_plan (is_untimed e.state) refl
        where
          by_plan : (t : Bool) → is_untimed e.state ≡ t → before b.at b.step b.order a e.step e.order ≡ false
          by_plan true t = absurd (none-some b (sym (none_from 0 e.reliable (sym (when_idle t) ∙ s) i) ∙ (sym (answers_in i t) ∙ v)))
          by_plan false t = absurd (none-some b (sym (no_answer_in i t) ∙ v))

  -- where it has no deadline it waits for nothing
  pub no_alarm : deadline e ≡ None → (p : Option ℕ) → timer_in e p ≡ None
  no_alarm q p = either (foremost_in e) refl q p
    where
      either : (o : Option (ℕ × TransactionTimer)) → foremost_in e ≡ o → deadline_by o e ≡ None → (p : Option ℕ) → timer_in e p ≡ None
      either (Some f) s d p = absurd (none-some f.1.at (sym d))
      either None s d None = ap (state_timer_at e) d
      either None s d (Some i) = by_plan (is_untimed e.state) refl
        where
          by_plan : (t : Bool) → is_untimed e.state ≡ t → timer_in e (Some i) ≡ None
          by_plan true t = answers_in i t ∙ none_from 0 e.reliable (sym (when_idle t) ∙ s) i
          by_plan false t = no_answer_in i t

  -- a deadline is that of a response, or that of a state which has one
  pub which : (a : ℕ) → deadline e ≡ Some a → ((f : ℕ × TransactionTimer) × (foremost_in e ≡ Some f) × (f.1.at ≡ a)) ⊎ ((is_untimed e.state ≡ false) × (option_or (state_retransmission_at e) (last_deadline e) ≡ Some a))
  which a q = either (foremost_in e) refl q
    where
      by_plan : (t : Bool) → is_untimed e.state ≡ t → option_or (state_retransmission_at e) (last_deadline e) ≡ Some a → (is_untimed e.state ≡ false) × (option_or (state_retransmission_at e) (last_deadline e) ≡ Some a)
      by_plan true t d = let w = idle_none e.state e.start e.at e.retransmissions t in absurd (none-some a (sym (ap (λ o. option_or o (last_deadline e)) w.0 ∙ w.1) ∙ d))
      by_plan false t d = (t, d)

      either : (o : Option (ℕ × TransactionTimer)) → foremost_in e ≡ o → deadline_by o e ≡ Some a →
          ((f : ℕ × TransactionTimer) × (foremost_in e ≡ Some f) × (f.1.at ≡ a)) ⊎ ((is_untimed e.state ≡ false) × (option_or (state_retransmission_at e) (last_deadline e) ≡ Some a))
      either (Some f) s d = inl (f, s, same_Some f.1.at a d)
      either None s d = inr (by_plan (is_untimed e.state) refl d)

  -- where nothing of it is retransmitted
  pub resend_none : retransmission_at e ≡ None → (foremost_in e ≡ None) × (state_retransmission_at e ≡ None)
  resend_none q = either (foremost_in e) refl q
    where
      either : (o : Option (ℕ × TransactionTimer)) → foremost_in e ≡ o → option_or (option_map (λ (f : ℕ × TransactionTimer). f.1.at) o) (state_retransmission_at e) ≡ None →
          (foremost_in e ≡ None) × (state_retransmission_at e ≡ None)
      either (Some f) s d = absurd (none-some f.1.at (sym d))
      either None s d = (s, d)

  pub busy_resend : is_untimed e.state ≡ false → retransmission_at e ≡ state_retransmission_at e
  busy_resend t = ap (λ (o : Option (ℕ × TransactionTimer)). option_or (option_map (λ (f : ℕ × TransactionTimer). f.1.at) o) (state_retransmission_at e)) (when_busy t)

  pub busy_text : is_untimed e.state ≡ false → retransmitted_text e ≡ state_text e
  busy_text t = ap (λ (o : Option (ℕ × TransactionTimer)). text_by (o >>= λ (f : ℕ × TransactionTimer). slice_get e.reliable f.0) e) (when_busy t)

  pub busy_deadline : is_untimed e.state ≡ false → deadline e ≡ option_or (state_retransmission_at e) (last_deadline e)
  busy_deadline t = ap (λ o. option_or o (last_deadline e)) (busy_resend t)

  pub busy_fired : (s : ℕ) → is_untimed e.state ≡ false → after_timer s e ≡ after_state_timer s e
  busy_fired s t = ap (λ o. after_timer_by o s e) (when_busy t)

  pub fired_over : (s : ℕ) → retransmission_at e ≡ None → after_timer s e ≡ record e { is_terminated = true }
  fired_over s q =
      let w = resend_none q in
      ap (λ o. after_timer_by o s e) w.0 ∙ ap (λ o. cond (is_some o) (record e { retransmissions = e.retransmissions + 1; step = s }) (record e { is_terminated = true })) w.1

  pub fired_answer : (s : ℕ) (f : ℕ × TransactionTimer) → foremost_in e ≡ Some f → after_timer s e ≡ record e { reliable = retransmitted_at s f.0 e.reliable }
  fired_answer s f q = ap (λ o. after_timer_by o s e) q ∙ ap (λ xs. (let r : Entry = record e { reliable = xs } in r)) (resent_is s f.0 e.reliable)

-- ---- what remains of it

-- what remains of a state whose deadline fired, by when its message was to be retransmitted
abbrev pub after_state_timer_by : Option ℕ → ℕ → Entry → Entry
after_state_timer_by o s e = cond (is_some o) (record e { retransmissions = e.retransmissions + 1; step = s }) (record e { is_terminated = true })

-- a state whose deadline fired and whose transaction is still live waits for a later moment
pub state_timer_later : (s a b : ℕ) (e : Entry) → option_or (state_retransmission_at e) (last_deadline e) ≡ Some a → is_live (after_state_timer s e) ≡ true →
    option_or (state_retransmission_at (after_state_timer s e)) (last_deadline (after_state_timer s e)) ≡ Some b → a < b
state_timer_later s a b e q l r = either (state_retransmission_at e) refl q l r
  where
    either : (o : Option ℕ) → state_retransmission_at e ≡ o → option_or o (last_deadline e) ≡ Some a → is_live (after_state_timer_by o s e) ≡ true →
        option_or (state_retransmission_at (after_state_timer_by o s e)) (last_deadline (after_state_timer_by o s e)) ≡ Some b → a < b
    either None f p m u = absurd cc
    either (Some x) f p m u = is_later e.state e.start e.at e.retransmissions a b (f ∙ p)
        (ap (λ k. option_or (retransmission_by e.state e.start e.at k) (last_deadline_by e.state e.start e.at)) (let w : suc e.retransmissions ≡ e.retransmissions + 1 = omega arith in w) ∙ u)

pub still_busy : (s : ℕ) (e : Entry) → is_untimed e.state ≡ false → is_untimed (after_state_timer s e).state ≡ false
still_busy s e t = either (state_retransmission_at e)
  where
    either : (o : Option ℕ) → is_untimed (after_state_timer_by o s e).state ≡ false
    either None = t
    either (Some x) = t

-- of the message whose deadline fired it waits for a later moment, of each other one as before
abbrev pub IsLeftIn : Entry → ℕ → Option ℕ → TransactionTimer → Type 0
IsLeftIn e a p b = ((p ≡ message_due e) × (a < b.at)) ⊎ ((p ≡ message_due e → ⊥) × (timer_in e p ≡ Some b))

module _ (s a : ℕ) (e : Entry) (d : deadline e ≡ Some a) where
  left_answer : (f : ℕ × TransactionTimer) → foremost_in e ≡ Some f → f.1.at ≡ a → (p : Option ℕ) (b : TransactionTimer) →
      timer_in (record e { reliable = retransmitted_at s f.0 e.reliable }) p ≡ Some b → IsLeftIn e a p b
  left_answer f q same None b r = absurd (none-some b (sym (no_plan e (is_idle_with e f q)) ∙ r))
  left_answer f q same (Some i) b r =
      let t = is_idle_with e f q in
      let x : Entry = record e { reliable = retransmitted_at s f.0 e.reliable } in
      let message : message_due e ≡ Some f.0 = ap message_by q in
      elim (again_left s f.0 e.reliable f.1 (foremost_there e f q) i b (sym (answers_in x i t) ∙ r)) [
        | inl w ↦ inl (ap (λ j. Some j) w.0 ∙ sym message, omega (arith, w.1, same))
        | inr w ↦ inr (λ m. w.0 (same_Some i f.0 (m ∙ message)), answers_in e i t ∙ w.1)
      ]

  left_plan : is_untimed e.state ≡ false → option_or (state_retransmission_at e) (last_deadline e) ≡ Some a → is_live (after_state_timer s e) ≡ true → (p : Option ℕ) (b : TransactionTimer) →
      timer_in (after_state_timer s e) p ≡ Some b → IsLeftIn e a p b
  left_plan t q l None b r = inl (
    ap message_by (sym (when_busy e t)),
    state_timer_later s a b.at e q l (state_timer_is (after_state_timer s e) (option_or (state_retransmission_at (after_state_timer s e)) (last_deadline (after_state_timer s e))) b r).0,
  )
  left_plan t q l (Some i) b r = absurd (none-some b (sym (no_answer_in (after_state_timer s e) i (still_busy s e t)) ∙ r))

  pub fired_left : is_live (after_timer s e) ≡ true → (p : Option ℕ) (b : TransactionTimer) → timer_in (after_timer s e) p ≡ Some b → IsLeftIn e a p b
  fired_left l p b r = elim (which e a d) [
    | inl w ↦ left_answer w.0 w.1 w.2 p b (ap (λ (x : Entry). timer_in x p) (sym (fired_answer e s w.0 w.1)) ∙ r)
    | inr w ↦ let same = busy_fired e s w.0 in left_plan w.0 w.1 (ap is_live (sym same) ∙ l) p b (ap (λ (x : Entry). timer_in x p) (sym same) ∙ r)
  ]

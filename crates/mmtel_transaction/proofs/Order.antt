-- Deadlines fire in order, and each once.
use Rattle.std.proofs.Common.{◌≡◌, ℕ, zero, suc, ◌≤◌, ◌<◌, List, [], ◌∷◌, refl, true, false, Bool, ◌⊎◌, inl, inr, sym, ap, ◌∙◌, arith, cond, subst}
use Rattle.std.specs.Prelude.{Option, Some, None, ◌==◌, nat_le}
use Rattle.std.specs.List.{AllByRecursion}
use Rattle.std.proofs.lemmas.Bool.{cases_lt, eqb-false, eqb-true, le-leb, leb-true}
use Rattle.std.proofs.lemmas.Option.{none-some, same_Some}
use Rattle.mmtel_transaction.specs.Deadlines.{deadline, message_due, order_due, step_due}
use Rattle.mmtel_transaction.specs.declared.entries.TransactionTimer.{TransactionTimer}
use Rattle.mmtel_transaction.specs.declared.entries.Entry.{Entry}
use Rattle.mmtel_transaction.specs.Changes.{after_timer}
use Rattle.mmtel_transaction.specs.Operations.{TransactionOp, DidFire, is_live, live, send_count, step_of}
use Rattle.mmtel_transaction.specs.Results.{DueEntryView, after_firing, due_one, is_before, next_due, sooner}
use Rattle.mmtel_transaction.specs.Theorems.{AreInOrder, FiresAfter, IsFirstDue, firing_and_rest, firings}
use Rattle.mmtel_timers.specs.Shelves.{Has}
use Rattle.mmtel_transaction.proofs.Lists.{keeps_change}
use Rattle.mmtel_transaction.proofs.Before.{before, itself, not_before, not_less, other_way, through}
use Rattle.mmtel_transaction.proofs.Foremost.{fired_left, next_alarm, no_alarm, none_before, timer_in}
use Rattle.mmtel_transaction.proofs.Having.{at_key, has_live, has_more_back, of_key, same_entry}

abbrev pub NotBefore : ℕ → Entry → DueEntryView → Type 0
NotBefore a e n = is_before a e n.at n.entry ≡ false

-- of two the earlier
sooner_none : (o : Option DueEntryView) (n : DueEntryView) → sooner None o ≡ Some n → o ≡ Some n
sooner_none o n q = q

sooner_some : (x : DueEntryView) (o : Option DueEntryView) (n : DueEntryView) → sooner (Some x) o ≡ Some n →
    NotBefore x.at x.entry n × ((y : DueEntryView) → o ≡ Some y → NotBefore y.at y.entry n) × ((x ≡ n) ⊎ (o ≡ Some n))
sooner_some x None n q =
    let w = same_Some x n q in
    (subst (λ z. NotBefore x.at x.entry z) w (itself x.at (step_due x.entry) (order_due x.entry)), λ y p. absurd (none-some y p), inl w)
sooner_some x (Some y) n q = either (is_before y.at y.entry x.at x.entry) refl q
  where
    either : (t : Bool) → is_before y.at y.entry x.at x.entry ≡ t → Some (cond t y x) ≡ Some n →
        NotBefore x.at x.entry n × ((z : DueEntryView) → ◌≡◌ {A = Option DueEntryView} (Some y) (Some z) → NotBefore z.at z.entry n) × ((x ≡ n) ⊎ (◌≡◌ {A = Option DueEntryView} (Some y) (Some n)))
    either true e p =
        let w = same_Some y n p in (
          subst (λ z. NotBefore x.at x.entry z) w (other_way y.at (step_due y.entry) (order_due y.entry) x.at (step_due x.entry) (order_due x.entry) e),
          λ z f. subst (λ z. NotBefore z.at z.entry n) (same_Some y z f) (subst (λ z. NotBefore y.at y.entry z) w (itself y.at (step_due y.entry) (order_due y.entry))),
          inr p,
        )
    either false e p =
        let w = same_Some x n p in
        (subst (λ z. NotBefore x.at x.entry z) w (itself x.at (step_due x.entry) (order_due x.entry)), λ z f. subst (λ z. NotBefore z.at z.entry n) (same_Some y z f) (subst (λ z. NotBefore y.at y.entry z) w e), inl w)

-- a deadline that is due, and one that is not
due_is : (now : ℕ) (e : Entry) (o : Option ℕ) (n : DueEntryView) → due_one now e o ≡ Some n → (o ≡ Some n.at) × (n.entry ≡ e) × (n.at ≤ now)
due_is now e None n q = absurd (none-some n q)
due_is now e (Some a) n q = either (nat_le a now) refl q
  where
    either : (t : Bool) → nat_le a now ≡ t → cond t (Some (let r : DueEntryView = record { at = a; entry = e } in r)) None ≡ Some n → (◌≡◌ {A = Option ℕ} (Some a) (Some n.at)) × (n.entry ≡ e) × (n.at ≤ now)
    either true l p =
        let w = same_Some (record { at = a; entry = e }) n p in
        let v : a ≡ n.at = ap (λ (z : DueEntryView). z.at) w in
        (ap Some v, sym (ap (λ (z : DueEntryView). z.entry) w), omega (arith, v, leb-true a now l))
    either false l p = absurd (none-some n p)

due_some : (now a : ℕ) (e : Entry) → deadline e ≡ Some a → a ≤ now → due_one now e (deadline e) ≡ Some (record { at = a; entry = e })
due_some now a e q l = ap (due_one now e) q ∙ ap (λ t. cond t (Some (let r : DueEntryView = record { at = a; entry = e } in r)) None) (le-leb a now l)

-- the next one is among them, is due, and none that is due comes before it
pub record IsNext (now : ℕ) (es : List Entry) (n : DueEntryView) : Type 0 where
  pub stands : Has n.entry es
  pub moment : deadline n.entry ≡ Some n.at
  pub not_past : n.at ≤ now
  pub first : (a : ℕ) (e : Entry) → Has e es → deadline e ≡ Some a → a ≤ now → NotBefore a e n

sooner_rest : (o : Option DueEntryView) → sooner None o ≡ None → o ≡ None
sooner_rest None p = refl
sooner_rest (Some y) p = p

sooner_there : (x : DueEntryView) (o : Option DueEntryView) → sooner (Some x) o ≡ None → ⊥
sooner_there x None p = none-some x (sym p)
sooner_there x (Some y) p = none-some (cond (is_before y.at y.entry x.at x.entry) y x) (sym p)

none_more : (now : ℕ) (x : Entry) (es : List Entry) (a : ℕ) (e : Entry) (o : Option DueEntryView) → due_one now x (deadline x) ≡ o → sooner o (next_due now es) ≡ None →
    (next_due now es ≡ None → Has e es → ⊥) → deadline e ≡ Some a → a ≤ now → Has e (x ∷ es) → ⊥
none_more now x es a e None f p ih d l (inl g) = none-some (record { at = a; entry = e }) (sym f ∙ (ap (λ y. due_one now y (deadline y)) (sym g) ∙ due_some now a e d l))
none_more now x es a e None f p ih d l (inr g) = ih (sooner_rest (next_due now es) p) g
none_more now x es a e (Some y) f p ih d l g = sooner_there y (next_due now es) p

pub none_due : (now : ℕ) (es : List Entry) (a : ℕ) (e : Entry) → next_due now es ≡ None → deadline e ≡ Some a → a ≤ now → Has e es → ⊥
none_due now [] a e q d l h = h
none_due now (x ∷ es) a e q d l h = none_more now x es a e (due_one now x (deadline x)) refl q (λ p g. none_due now es a e p d l g) d l h

module _ (now : ℕ) (x : Entry) (es : List Entry) (n : DueEntryView) (ih : (z : DueEntryView) → next_due now es ≡ Some z → IsNext now es z) where
  first_rest : (o : Option DueEntryView) → next_due now es ≡ o → ((z : DueEntryView) → o ≡ Some z → NotBefore z.at z.entry n) → (a : ℕ) (e : Entry) → Has e es → deadline e ≡ Some a → a ≤ now → NotBefore a e n
  first_rest None q f a e g d l = absurd (none_due now es a e q d l g)
  first_rest (Some z) q f a e g d l = through a (step_due e) (order_due e) z.at (step_due z.entry) (order_due z.entry) n.at (step_due n.entry) (order_due n.entry) ((ih z q).first a e g d l) (f z refl)

  first_one : (y : DueEntryView) → due_one now x (deadline x) ≡ Some y → NotBefore y.at y.entry n → (a : ℕ) (e : Entry) → e ≡ x → deadline e ≡ Some a → NotBefore a e n
  first_one y f b a e g d =
      let w = due_is now x (deadline x) y f in
      let m : a ≡ y.at = same_Some a y.at (sym d ∙ (ap deadline g ∙ w.0)) in
      subst (λ c. NotBefore c e n) (sym m) (subst (λ z. NotBefore y.at z n) (w.1 ∙ sym g) b)

  next_more : (o : Option DueEntryView) → due_one now x (deadline x) ≡ o → sooner o (next_due now es) ≡ Some n → IsNext now (x ∷ es) n
  next_more None f p =
      let w = ih n p in
      record {
        stands = inr w.stands;
        moment = w.moment;
        not_past = w.not_past;
        first = λ a e g d l. elim g [
          | inl s ↦ absurd (none-some (record { at = a; entry = e }) (sym f ∙ (ap (λ y. due_one now y (deadline y)) (sym s) ∙ due_some now a e d l)))
          | inr s ↦ w.first a e s d l
        ];
      }
  next_more (Some y) f p =
      let w = sooner_some y (next_due now es) n p in
      let v = due_is now x (deadline x) y f in
      let first : (a : ℕ) (e : Entry) → Has e (x ∷ es) → deadline e ≡ Some a → a ≤ now → NotBefore a e n = λ a e g d l. elim g [
        | inl s ↦ first_one y f w.0 a e s d
        | inr s ↦ first_rest (next_due now es) refl w.1 a e s d l
      ] in
      elim w.2 [
        | inl q ↦ record {
          stands = inl (ap (λ (z : DueEntryView). z.entry) (sym q) ∙ v.1);
          moment = ap (λ (z : DueEntryView). deadline z.entry) (sym q) ∙ (ap deadline v.1 ∙ (v.0 ∙ ap (λ (z : DueEntryView). Some z.at) q));
          not_past = subst (λ (z : DueEntryView). z.at ≤ now) q v.2;
          first = first;
        }
        | inr q ↦ let u = ih n q in record { stands = inr u.stands; moment = u.moment; not_past = u.not_past; first = first }
      ]

pub is_next : (now : ℕ) (es : List Entry) (n : DueEntryView) → next_due now es ≡ Some n → IsNext now es n
is_next now [] n q = absurd (none-some n q)
is_next now (x ∷ es) n q = next_more now x es n (is_next now es) (due_one now x (deadline x)) refl q

-- later than all that was due
past_now : (now a : ℕ) (e : Entry) (n : DueEntryView) → n.at ≤ now → now < a → NotBefore a e n
past_now now a e n l m = not_before a (step_due e) (order_due e) n.at (step_due n.entry) (order_due n.entry) (omega (arith, l, m)) (λ q. absurd (omega (arith, l, m, q)))

pub first_of_all : (h : List TransactionOp) (now : ℕ) (n : DueEntryView) → next_due now (live h) ≡ Some n → (a : ℕ) (e : Entry) → Has e (live h) → deadline e ≡ Some a → NotBefore a e n
first_of_all h now n q a e g d =
    let w = is_next now (live h) n q in
    elim (cases_lt now a) [ inl l ↦ past_now now a e n w.not_past l | inr l ↦ w.first a e g d l ]

pub first_due : (h : List TransactionOp) (now : ℕ) (n : DueEntryView) → next_due now (live h) ≡ Some n → IsFirstDue now (live h) n
first_due h now n q =
    let w = is_next now (live h) n q in
    record {
      is_live = at_key h n.entry w.stands;
      moment = w.moment;
      not_past = w.not_past;
      first = λ k a e f d. first_of_all h now n q a e (of_key h k e f).0 d;
    }

-- no deadline of a transaction comes before what fires
first_of_alarms : (h : List TransactionOp) (now : ℕ) (n : DueEntryView) → next_due now (live h) ≡ Some n → (e : Entry) (p : Option ℕ) (b : TransactionTimer) → Has e (live h) → timer_in e p ≡ Some b →
    before b.at b.step b.order n.at (step_due n.entry) (order_due n.entry) ≡ false
first_of_alarms h now n q e p b g r = either (deadline e) refl
  where
    either : (o : Option ℕ) → deadline e ≡ o → before b.at b.step b.order n.at (step_due n.entry) (order_due n.entry) ≡ false
    either None d = absurd (none-some b (sym (no_alarm e d p) ∙ r))
    either (Some a) d = through b.at b.step b.order a (step_due e) (order_due e) n.at (step_due n.entry) (order_due n.entry) (none_before e a d p b r) (first_of_all h now n q a e g d)

-- the deadline of one message of a transaction, after a deadline that fired
record IsAfter (x : DueEntryView) (e : Entry) (p : Option ℕ) (b : TransactionTimer) : Type 0 where
  order : before b.at b.step b.order x.at (step_due x.entry) (order_due x.entry) ≡ false
  once : e.key ≡ x.entry.key → p ≡ message_due x.entry → x.at < b.at

later_fires : (x : DueEntryView) (e : Entry) (p : Option ℕ) (b : TransactionTimer) → x.at < b.at → IsAfter x e p b
later_fires x e p b l = record {
  order = not_before b.at b.step b.order x.at (step_due x.entry) (order_due x.entry) (omega (arith, l)) (λ q. absurd (omega (arith, l, q)));
  once = λ k m. l;
}

abbrev Bound : DueEntryView → List Entry → Type 0
Bound x es = (e : Entry) (p : Option ℕ) (b : TransactionTimer) → Has e es → timer_in e p ≡ Some b → IsAfter x e p b

module _ (h : List TransactionOp) (now : ℕ) (n : DueEntryView) (q : next_due now (live h) ≡ Some n) where
  -- its deadline is later than what fired, or as before and not that of the message that fired
  record StoodSo (e : Entry) (p : Option ℕ) (b : TransactionTimer) : Type 0 where
    entry : Entry
    stands : Has entry (live h)
    waits : timer_in entry p ≡ Some b
    key : entry.key ≡ e.key
    other : e.key ≡ n.entry.key → p ≡ message_due n.entry → ⊥

  after_one : (e x : Entry) (p : Option ℕ) (b : TransactionTimer) (t : Bool) → (x.key == n.entry.key) ≡ t → e ≡ cond t (after_timer (step_of h) x) x → e.key ≡ x.key → Has x (live h) →
      is_live e ≡ true → timer_in e p ≡ Some b → StoodSo e p b ⊎ (n.at < b.at)
  after_one e x p b true f s k g l r =
      let w = is_next now (live h) n q in
      let same : x ≡ n.entry = same_entry h x n.entry g w.stands (eqb-true x.key n.entry.key f) in
      let is : e ≡ after_timer (step_of h) n.entry = s ∙ ap (after_timer (step_of h)) same in
      elim (fired_left (step_of h) n.at n.entry w.moment (ap is_live (sym is) ∙ l) p b (ap (λ (y : Entry). timer_in y p) (sym is) ∙ r)) [
        | inl v ↦ inr v.1
        | inr v ↦ inl (record { entry = n.entry; stands = w.stands; waits = v.1; key = ap (λ (y : Entry). y.key) (sym same) ∙ sym k; other = λ i. v.0 })
      ]
  after_one e x p b false f s k g l r = inl (record { entry = x; stands = g; waits = ap (λ (y : Entry). timer_in y p) (sym s) ∙ r; key = sym k; other = λ i m. eqb-false x.key n.entry.key f (sym k ∙ i) })

  after_fire : (e : Entry) (p : Option ℕ) (b : TransactionTimer) → Has e (live (DidFire n.entry.key ∷ h)) → timer_in e p ≡ Some b → StoodSo e p b ⊎ (n.at < b.at)
  after_fire e p b g r = elim (has_more_back (DidFire n.entry.key) h e g) [
    | inl w ↦ after_one e w.0 p b (w.0.key == n.entry.key) refl w.2 (ap (λ (y : Entry). y.key) w.2 ∙ (keeps_change (step_of h) (send_count h) (DidFire n.entry.key) w.0).key) w.1 (has_live (DidFire n.entry.key ∷ h) e g) r
    | inr f ↦ absurd f
  ]

  bound_new : Bound n (live (DidFire n.entry.key ∷ h))
  bound_new e p b g r = elim (after_fire e p b g r) [
    | inl w ↦ record { order = first_of_alarms h now n q w.entry p b w.stands w.waits; once = λ k m. absurd (w.other k m) }
    | inr l ↦ later_fires n e p b l
  ]

  next_is_after : (x : DueEntryView) → Bound x (live h) → IsAfter x n.entry (message_due n.entry) (record { at = n.at; step = step_due n.entry; order = order_due n.entry })
  next_is_after x bd = let w = is_next now (live h) n q in bd n.entry (message_due n.entry) _ w.stands (next_alarm n.entry n.at w.moment)

  next_after : (x : DueEntryView) → Bound x (live h) → FiresAfter x n
  next_after x bd = let w = next_is_after x bd in record { order = w.order; once = w.once }

  bound_kept : (x : DueEntryView) → Bound x (live h) → Bound x (live (DidFire n.entry.key ∷ h))
  bound_kept x bd e p b g r = elim (after_fire e p b g r) [
    | inl w ↦ let v = bd w.entry p b w.stands w.waits in record { order = v.order; once = λ k. v.once (w.key ∙ k) }
    | inr l ↦ later_fires x e p b (let m = not_less n.at (step_due n.entry) (order_due n.entry) x.at (step_due x.entry) (order_due x.entry) (next_after x bd).order in omega (arith, m, l))
  ]

each_if : (m now : ℕ) (h : List TransactionOp) (x : DueEntryView) (o : Option DueEntryView) → next_due now (live h) ≡ o → Bound x (live h) →
    ((g : List TransactionOp) → Bound x (live g) → AllByRecursion (FiresAfter x) (firings m now g)) → AllByRecursion (FiresAfter x) (firing_and_rest o (firings m now (after_firing h o)))
each_if m now h x None q bd ih = tt
each_if m now h x (Some n) q bd ih = (next_after h now n q x bd, ih (DidFire n.entry.key ∷ h) (bound_kept h now n q x bd))

each_after : (m now : ℕ) (h : List TransactionOp) (x : DueEntryView) → Bound x (live h) → AllByRecursion (FiresAfter x) (firings m now h)
unfolding firings
each_after zero now h x bd = tt
each_after (suc m) now h x bd = each_if m now h x (next_due now (live h)) refl bd (λ g. each_after m now g x)

order_if : (m now : ℕ) (h : List TransactionOp) (o : Option DueEntryView) → next_due now (live h) ≡ o → ((g : List TransactionOp) → AreInOrder (firings m now g)) →
    AreInOrder (firing_and_rest o (firings m now (after_firing h o)))
order_if m now h None q ih = tt
order_if m now h (Some n) q ih = (each_after m now (DidFire n.entry.key ∷ h) n (bound_new h now n q), ih (DidFire n.entry.key ∷ h))

pub in_order : (h : List TransactionOp) (m now : ℕ) → AreInOrder (firings m now h)
unfolding firings
in_order h zero now = tt
in_order h (suc m) now = order_if m now h (next_due now (live h)) refl (λ g. in_order g m now)

-- The reliable response that is retransmitted first.
use Rattle.std.proofs.Common.{◌≡◌, ℕ, zero, suc, ◌+◌, ◌≤◌, ◌<◌, ◌^◌, ◌⊎◌, inl, inr, Bool, true, false, cond, not, ◌&&◌, ◌||◌, List, [], ◌∷◌, length, drop, take, ◌++◌, refl, sym, ap, ◌∙◌, subst, add-one, arith}
use Rattle.std.proofs.Common.{get_or, Some, None, Option}
use Rattle.std.specs.Prelude.{nat_lt, nat_eq, ◌==◌, slice_get, IfSome, is_some, option_map}
use Rattle.std.specs.List.{position, position_or_len}
use Rattle.std.proofs.lemmas.Bool.Decides.{nat_tests}
use Rattle.std.proofs.lemmas.List.Quantifiers.{position-Some}
use Rattle.std.proofs.lemmas.Option.{none-some, same_Some, slice_get-get_or}
use Rattle.mmtel_timers.specs.Schedules.{moments_of}
use Rattle.mmtel_timers.specs.declared.schedules.Schedule.TheVariants as schedule
use Rattle.mmtel_transaction.specs.declared.entries.TransactionTimer.{TransactionTimer}
use Rattle.mmtel_transaction.specs.declared.entries.Entry.{Entry}
use Rattle.mmtel_transaction.specs.declared.entries.ReliableResponse.{ReliableResponse}
use Rattle.mmtel_transaction.specs.Deadlines.{at_place, foremost, foremost_from, foremost_in, is_sooner, is_untimed, scheduled_moment, sooner_of, timer_at, timer_of}
use Rattle.mmtel_transaction.specs.Changes.{without_rseq}
use Rattle.mmtel_transaction.proofs.Times.{few_counted}

-- one step of the order: by these numbers, and where they are equal by what comes after them
abbrev lex : ℕ → ℕ → Bool → Bool
lex a b t = nat_lt a b || ((a == b) && t)

lex_less : (a b : ℕ) (t : Bool) → a < b → lex a b t ≡ true
lex_less a b t l = let w : nat_lt a b ≡ true = grind (arith, nat_tests) in rw w refl

lex_more : (a b : ℕ) (t : Bool) → b < a → lex a b t ≡ false
lex_more a b t l =
    let w : nat_lt a b ≡ false = grind (arith, nat_tests) in
    let v : (a == b) ≡ false = grind (arith, nat_tests) in
    rw (w, v) refl

lex_same : (a b : ℕ) (t : Bool) → a ≡ b → lex a b t ≡ t
lex_same a b t e =
    let w : nat_lt a b ≡ false = grind (arith, nat_tests) in
    let v : (a == b) ≡ true = grind (arith, nat_tests) in
    rw (w, v) refl

-- two numbers, compared
compared : (a b : ℕ) → (a < b) ⊎ ((a ≡ b) ⊎ (b < a))
compared zero zero = inr (inl refl)
compared zero (suc b) = inl (omega arith)
compared (suc a) zero = inr (inr (omega arith))
compared (suc a) (suc b) = elim (compared a b) [
  | inl l ↦ inl (omega (arith, l))
  | inr r ↦ elim r [
    | inl e ↦ inr (inl (ap suc e))
    | inr m ↦ inr (inr (omega (arith, m)))
  ]
]

lex_then : (a b c : ℕ) (t u v : Bool) → lex a b t ≡ true → lex b c u ≡ true → (t ≡ true → u ≡ true → v ≡ true) → lex a c v ≡ true
lex_then a b c t u v p q f = elim (compared a b) [
  | inl l ↦ elim (compared b c) [
    | inl m ↦ lex_less a c v (omega (arith, l, m))
    | inr r ↦ elim r [
      | inl e ↦ lex_less a c v (omega (arith, l, e))
      | inr m ↦ let w : true ≡ false = sym q ∙ lex_more b c u m in absurd cc
    ]
  ]
  | inr r ↦ elim r [
    | inl e ↦ elim (compared b c) [
      | inl m ↦ lex_less a c v (omega (arith, e, m))
      | inr s ↦ elim s [
        | inl d ↦ lex_same a c v (e ∙ d) ∙ f (sym (lex_same a b t e) ∙ p) (sym (lex_same b c u d) ∙ q)
        | inr m ↦ let w : true ≡ false = sym q ∙ lex_more b c u m in absurd cc
      ]
    ]
    | inr m ↦ let w : true ≡ false = sym p ∙ lex_more a b t m in absurd cc
  ]
]

lex_not_then : (a b c : ℕ) (t u v : Bool) → lex a b t ≡ false → lex b c u ≡ false → (t ≡ false → u ≡ false → v ≡ false) → lex a c v ≡ false
lex_not_then a b c t u v p q f = elim (compared a b) [
  | inl l ↦ let w : true ≡ false = sym (lex_less a b t l) ∙ p in absurd cc
  | inr r ↦ elim r [
    | inl e ↦ elim (compared b c) [
      | inl m ↦ let w : true ≡ false = sym (lex_less b c u m) ∙ q in absurd cc
      | inr s ↦ elim s [
        | inl d ↦ lex_same a c v (e ∙ d) ∙ f (sym (lex_same a b t e) ∙ p) (sym (lex_same b c u d) ∙ q)
        | inr m ↦ lex_more a c v (omega (arith, e, m))
      ]
    ]
    | inr m ↦ elim (compared b c) [
      | inl n ↦ let w : true ≡ false = sym (lex_less b c u n) ∙ q in absurd cc
      | inr s ↦ elim s [
        | inl d ↦ lex_more a c v (omega (arith, m, d))
        | inr n ↦ lex_more a c v (omega (arith, m, n))
      ]
    ]
  ]
]

least_then : (a b c : ℕ) → nat_lt a b ≡ true → nat_lt b c ≡ true → nat_lt a c ≡ true
least_then a b c p q = grind (arith, nat_tests)

least_not_then : (a b c : ℕ) → nat_lt a b ≡ false → nat_lt b c ≡ false → nat_lt a c ≡ false
least_not_then a b c p q = grind (arith, nat_tests)

pub sooner_then : (x y z : TransactionTimer) → is_sooner x y ≡ true → is_sooner y z ≡ true → is_sooner x z ≡ true
sooner_then x y z p q =
    lex_then x.at y.at z.at (lex x.step y.step (nat_lt x.order y.order)) (lex y.step z.step (nat_lt y.order z.order)) (lex x.step z.step (nat_lt x.order z.order)) p q
    (λ r s. lex_then x.step y.step z.step (nat_lt x.order y.order) (nat_lt y.order z.order) (nat_lt x.order z.order) r s (least_then x.order y.order z.order))

pub not_sooner_then : (x y z : TransactionTimer) → is_sooner x y ≡ false → is_sooner y z ≡ false → is_sooner x z ≡ false
not_sooner_then x y z p q =
    lex_not_then x.at y.at z.at (lex x.step y.step (nat_lt x.order y.order)) (lex y.step z.step (nat_lt y.order z.order)) (lex x.step z.step (nat_lt x.order z.order)) p q
    (λ r s. lex_not_then x.step y.step z.step (nat_lt x.order y.order) (nat_lt y.order z.order) (nat_lt x.order z.order) r s (least_not_then x.order y.order z.order))

-- of three the first, from whichever side it is determined
three : (x y z : ℕ × TransactionTimer) (p q : Bool) → is_sooner y.1 x.1 ≡ p → is_sooner z.1 y.1 ≡ q → sooner_of (Some (cond p y x)) (Some z) ≡ sooner_of (Some x) (Some (cond q z y))
three x y z true true e f = let w : is_sooner z.1 x.1 ≡ true = sooner_then z.1 y.1 x.1 f e in rw (f, w) refl
three x y z true false e f = rw (f, e) refl
three x y z false true e f = refl
three x y z false false e f = let w : is_sooner z.1 x.1 ≡ false = not_sooner_then z.1 y.1 x.1 f e in rw (w, e) refl

pub sooner_both : (x y z : Option (ℕ × TransactionTimer)) → sooner_of (sooner_of x y) z ≡ sooner_of x (sooner_of y z)
sooner_both None y z = refl
sooner_both (Some x) None z = refl
sooner_both (Some x) (Some y) None = refl
sooner_both (Some x) (Some y) (Some z) = three x y z (is_sooner y.1 x.1) (is_sooner z.1 y.1) refl refl

-- one response after the other
pub foremost_next : (first : Option (ℕ × TransactionTimer)) (answers : List ReliableResponse) (place : ℕ) (answer : ReliableResponse) → slice_get answers place ≡ Some answer →
    sooner_of (sooner_of first (at_place place (timer_of answer))) (foremost_from (suc place) (drop (suc place) answers)) ≡ sooner_of first (foremost_from place (drop place answers))
foremost_next first answers place answer at =
    sooner_both first (at_place place (timer_of answer)) (foremost_from (suc place) (drop (suc place) answers)) ∙ ap (λ xs. sooner_of first (foremost_from place xs)) (sym (dropped answers place answer at))
  where
    dropped : (xs : List ReliableResponse) (k : ℕ) (x : ReliableResponse) → slice_get xs k ≡ Some x → drop k xs ≡ x ∷ drop (suc k) xs
    dropped [] k x e = absurd (none-some x e)
    dropped (y ∷ xs) zero x e = ap (λ z. z ∷ xs) (same_Some y x e)
    dropped (y ∷ xs) (suc k) x e = dropped xs k x e

alone : (first : Option (ℕ × TransactionTimer)) → sooner_of first None ≡ first
alone None = refl
alone (Some x) = refl

pub foremost_past : (first : Option (ℕ × TransactionTimer)) (answers : List ReliableResponse) (place k : ℕ) → length answers ≡ k → sooner_of first (foremost_from place (drop k answers)) ≡ first
foremost_past first [] place zero e = alone first
foremost_past first [] place (suc k) e = absurd (omega (arith, e))
foremost_past first (x ∷ xs) place zero e = absurd (omega (arith, e))
foremost_past first (x ∷ xs) place (suc k) e = foremost_past first xs place k (omega (arith, e))

-- the response that is first is at its position, and has its deadline
pub record IsAt (answers : List ReliableResponse) (place : ℕ) (alarm : TransactionTimer) : Type 0 where
  pub answer : ReliableResponse
  pub there : slice_get answers place ≡ Some answer
  pub alarmed : timer_of answer ≡ Some alarm

sooner_one : (x y : Option (ℕ × TransactionTimer)) (f : ℕ × TransactionTimer) → sooner_of x y ≡ Some f → (x ≡ Some f) ⊎ (y ≡ Some f)
sooner_one None y f q = inr q
sooner_one (Some x) None f q = inl q
sooner_one (Some x) (Some y) f q = either (is_sooner y.1 x.1) q
  where
    either : (b : Bool) → Some (cond b y x) ≡ Some f → (Some x ≡ Some f) ⊎ (Some y ≡ Some f)
    either true e = inr e
    either false e = inl e

own_alarm : (place : ℕ) (o : Option TransactionTimer) (f : ℕ × TransactionTimer) → at_place place o ≡ Some f → (place ≡ f.0) × (o ≡ Some f.1)
own_alarm place None f q = absurd (none-some f q)
own_alarm place (Some a) f q = let w = same_Some (place, a) f q in (ap (λ (p : ℕ × TransactionTimer). p.0) w, ap (λ (p : ℕ × TransactionTimer). Some p.1) w)

-- counted from a position on
foremost_is : (from : ℕ) (answers : List ReliableResponse) (f : ℕ × TransactionTimer) → foremost_from from answers ≡ Some f → (k : ℕ) × (f.0 ≡ from + k) × IsAt answers k f.1
foremost_is from [] f q = absurd (none-some f q)
foremost_is from (x ∷ xs) f q = elim (sooner_one (at_place from (timer_of x)) (foremost_from (suc from) xs) f q) [
  | inl e ↦ let w = own_alarm from (timer_of x) f e in (0, omega (arith, w.0), record { answer = x; there = refl; alarmed = w.1 })
  | inr e ↦ let w = foremost_is (suc from) xs f e in (suc w.0, omega (arith, w.1), record { answer = w.2.answer; there = w.2.there; alarmed = w.2.alarmed })
]

pub foremost_at : (answers : List ReliableResponse) (f : ℕ × TransactionTimer) → foremost answers ≡ Some f → IsAt answers f.0 f.1
foremost_at answers f q = let w = foremost_is 0 answers f q in let same : w.0 ≡ f.0 = omega (arith, w.1) in subst (λ k. IsAt answers k f.1) same w.2

-- so of a transaction whose state has no deadline
pub foremost_in_at : (e : Entry) (f : ℕ × TransactionTimer) → foremost_in e ≡ Some f → IsAt e.reliable f.0 f.1
foremost_in_at e f q = either (is_untimed e.state) q
  where
    either : (b : Bool) → cond b (foremost e.reliable) None ≡ Some f → IsAt e.reliable f.0 f.1
    either true r = foremost_at e.reliable f r
    either false r = absurd (none-some f r)

-- what is retransmitted was not retransmitted so often that it cannot be counted
pub few_reliable : (answer : ReliableResponse) (alarm : TransactionTimer) → timer_of answer ≡ Some alarm → answer.retransmissions + 1 < 2 ^ 64
few_reliable answer alarm q =
    let w : is_some (scheduled_moment answer.start (moments_of schedule.Invite) answer.retransmissions) ≡ true = some (scheduled_moment answer.start (moments_of schedule.Invite) answer.retransmissions) q in
    omega (arith, few_counted answer.start (moments_of schedule.Invite) answer.retransmissions w)
  where
    some : (o : Option ℕ) → option_map (timer_at answer) o ≡ Some alarm → is_some o ≡ true
    some None e = absurd (none-some alarm e)
    some (Some at) e = refl

pub few_there : (answers : List ReliableResponse) (place : ℕ) (alarm : TransactionTimer) → IsAt answers place alarm → IfSome (slice_get answers place) (λ answer. answer.retransmissions + 1 < 2 ^ 64)
few_there answers place alarm w = subst (λ o. IfSome o (λ (x : ReliableResponse). x.retransmissions + 1 < 2 ^ 64)) (sym w.there) (few_reliable w.answer alarm w.alarmed)

-- ---- responses of a number

module _ (own : ℕ) where
  abbrev pub has_own : ReliableResponse → Bool
  has_own answer = answer.rseq == own

  taken : (b : Bool) (x : ReliableResponse) (xs ys : List ReliableResponse) → b ≡ true → without_rseq own xs ≡ ys → cond (not b) (x ∷ without_rseq own xs) (without_rseq own xs) ≡ ys
  taken true x xs ys e q = q
  taken false x xs ys e q = absurd cc

  -- the one at the position of the first one is left out
  pub without_first : (xs : List ReliableResponse) (k : ℕ) → k < length xs → (x : ReliableResponse) → slice_get xs k ≡ Some x → has_own x ≡ true → without_rseq own (take k xs ++ drop (suc k) xs) ≡ without_rseq own xs
  without_first [] k l x e t = absurd (none-some x e)
  without_first (y ∷ xs) zero l x e t = sym (taken (has_own y) y xs (without_rseq own xs) (ap has_own (same_Some y x e) ∙ t) refl)
  without_first (y ∷ xs) (suc k) l x e t = rw (without_first xs k (omega (arith, l)) x e t) refl

  -- where none has it, none is left out
  pub without_none : (xs : List ReliableResponse) → length xs ≤ position_or_len has_own xs → without_rseq own xs ≡ xs
  without_none [] l = refl
  without_none (x ∷ xs) l = by_test (has_own x) l (without_none xs)
    where
      by_test : (b : Bool) → suc (length xs) ≤ cond (not b) (1 + position_or_len has_own xs) 0 → (length xs ≤ position_or_len has_own xs → without_rseq own xs ≡ xs) →
          cond (not b) (x ∷ without_rseq own xs) (without_rseq own xs) ≡ x ∷ xs
      by_test true m ih = absurd (omega (arith, m))
      by_test false m ih = ap (λ ys. x ∷ ys) (ih (omega (arith, m)))

  pub without_place : (xs : List ReliableResponse) (k : ℕ) (x : ReliableResponse) → position has_own xs ≡ Some k → slice_get xs k ≡ Some x → without_rseq own (take k xs ++ drop (k + 1) xs) ≡ without_rseq own xs
  without_place xs k x p e =
      let w = position-Some has_own xs k x p in
      let is : get_or xs k x ≡ x = same_Some (get_or xs k x) x (sym (slice_get-get_or xs k x w.0) ∙ e) in
      ap (λ n. without_rseq own (take k xs ++ drop n xs)) (add-one k) ∙ without_first xs k w.0 x e (ap has_own (sym is) ∙ w.1)

  pub without_all : (xs : List ReliableResponse) → position has_own xs ≡ None → without_rseq own xs ≡ xs
  without_all xs p = without_none xs (past (nat_lt (position_or_len has_own xs) (length xs)) refl p)
    where
      past : (b : Bool) → nat_lt (position_or_len has_own xs) (length xs) ≡ b → cond b (Some (position_or_len has_own xs)) None ≡ None → length xs ≤ position_or_len has_own xs
      past true l s = absurd (none-some (position_or_len has_own xs) (sym s))
      past false l s = grind (arith, nat_tests)

-- Which of two timers of calls and of participants is sooner, and the one that is chosen from a queue.
use Rattle.std.proofs.Common.{◌≡◌, ℕ, ◌≤◌, ◌<◌, ◌⊎◌, inl, inr, Bool, true, false, List, [], ◌∷◌, Option, Some, None, IfSome, refl, sym, ap, ◌∙◌, arith}
use Rattle.std.specs.Prelude.{◌==◌, ◌&&◌, ◌||◌, nat_le, nat_lt, if◌then◌else◌}
use Rattle.std.specs.List.{AllByRecursion}
use Rattle.std.proofs.lemmas.Bool.{both_ways, cases_lt, cases_order, le-leb, lt-leb}
use Rattle.std.proofs.lemmas.Bool.Decides.{nat_tests}
use Rattle.mmtel_run_definitions.specs.Deadlines.{FirstTimer, PendingTimer, first_due_timer, first_timer, first_timer_if, is_sooner, rank}

-- ---- by numbers

abbrev sooner_by : (a s r b t u : ℕ) → Bool
sooner_by a s r b t u = nat_lt a b || (a == b && (nat_lt s t || (s == t && nat_lt r u)))

module _ (a s r b t u : ℕ) where
  late_at : a < b → sooner_by b t u a s r ≡ false
  late_at l = grind (arith, nat_tests)

  late_step : a ≡ b → s < t → sooner_by b t u a s r ≡ false
  late_step e l = grind (arith, nat_tests)

  late_rank : a ≡ b → s ≡ t → r ≤ u → sooner_by b t u a s r ≡ false
  late_rank e f l = grind (arith, nat_tests)

  soon_at : a < b → sooner_by a s r b t u ≡ true
  soon_at l = grind (arith, nat_tests)

  soon_step : a ≡ b → s < t → sooner_by a s r b t u ≡ true
  soon_step e l = grind (arith, nat_tests)

  soon_rank : a ≡ b → s ≡ t → r < u → sooner_by a s r b t u ≡ true
  soon_rank e f l = grind (arith, nat_tests)

-- ---- one comes before another, or not after it

abbrev pub rank_in : PendingTimer → ℕ
rank_in x = rank x.timer

abbrev pub Comes : PendingTimer → PendingTimer → Type 0
Comes x y = (x.at < y.at) ⊎ ((x.at ≡ y.at) × ((x.step < y.step) ⊎ ((x.step ≡ y.step) × (rank_in x < rank_in y))))

abbrev pub NotBehind : PendingTimer → PendingTimer → Type 0
NotBehind x y = (x.at < y.at) ⊎ ((x.at ≡ y.at) × ((x.step < y.step) ⊎ ((x.step ≡ y.step) × (rank_in x ≤ rank_in y))))

pub soon : (x y : PendingTimer) → Comes x y → is_sooner x y ≡ true
soon x y (inl l) = soon_at x.at x.step (rank_in x) y.at y.step (rank_in y) l
soon x y (inr (e, inl l)) = soon_step x.at x.step (rank_in x) y.at y.step (rank_in y) e l
soon x y (inr (e, inr (f, l))) = soon_rank x.at x.step (rank_in x) y.at y.step (rank_in y) e f l

pub late : (x y : PendingTimer) → NotBehind x y → is_sooner y x ≡ false
late x y (inl l) = late_at x.at x.step (rank_in x) y.at y.step (rank_in y) l
late x y (inr (e, inl l)) = late_step x.at x.step (rank_in x) y.at y.step (rank_in y) e l
late x y (inr (e, inr (f, l))) = late_rank x.at x.step (rank_in x) y.at y.step (rank_in y) e f l

pub weaker : (x y : PendingTimer) → Comes x y → NotBehind x y
weaker x y (inl l) = inl l
weaker x y (inr (e, inl l)) = inr (e, inl l)
weaker x y (inr (e, inr (f, l))) = inr (e, inr (f, omega (arith, l)))

either : (x y : PendingTimer) → Comes x y ⊎ NotBehind y x
either x y = elim (cases_order x.at y.at) [
  | inr k ↦ elim k [ inl l ↦ inl (inl l) | inr l ↦ inr (inl l) ]
  | inl e ↦ elim (cases_order x.step y.step) [
    | inr k ↦ elim k [ inl l ↦ inl (inr (e, inl l)) | inr l ↦ inr (inr (sym e, inl l)) ]
    | inl f ↦ elim (cases_lt (rank_in x) (rank_in y)) [ inl l ↦ inl (inr (e, inr (f, l))) | inr l ↦ inr (inr (sym e, inr (sym f, l))) ]
  ]
]

pub is_soon : (x y : PendingTimer) → is_sooner x y ≡ true → Comes x y
is_soon x y t = elim (either x y) [ inl c ↦ c | inr n ↦ absurd (both_ways (is_sooner x y) (late y x n) t) ]

pub is_late : (x y : PendingTimer) → is_sooner y x ≡ false → NotBehind x y
is_late x y f = elim (either y x) [ inl c ↦ absurd (both_ways (is_sooner y x) f (soon y x c)) | inr n ↦ n ]

pub on : (x y z : PendingTimer) → Comes x y → NotBehind y z → Comes x z
on x y z (inl l) (inl m) = inl (omega (arith, l, m))
on x y z (inl l) (inr (e, m)) = inl (omega (arith, l, e))
on x y z (inr (e, l)) (inl m) = inl (omega (arith, e, m))
on x y z (inr (e, inl l)) (inr (f, inl m)) = inr (e ∙ f, inl (omega (arith, l, m)))
on x y z (inr (e, inl l)) (inr (f, inr (g, m))) = inr (e ∙ f, inl (omega (arith, l, g)))
on x y z (inr (e, inr (g, l))) (inr (f, inl m)) = inr (e ∙ f, inl (omega (arith, g, m)))
on x y z (inr (e, inr (g, l))) (inr (f, inr (h, m))) = inr (e ∙ f, inr (g ∙ h, omega (arith, l, m)))

pub not_earlier : (x y : PendingTimer) → NotBehind x y → x.at ≤ y.at
not_earlier x y (inl l) = omega (arith, l)
not_earlier x y (inr (e, l)) = omega (arith, e)

-- of two that differ in rank, one comes before the other
pub strictly : (x y : PendingTimer) → NotBehind x y → (rank_in x ≡ rank_in y → ⊥) → Comes x y
strictly x y (inl l) n = inl l
strictly x y (inr (e, inl l)) n = inr (e, inl l)
strictly x y (inr (e, inr (f, l))) n = inr (
  e,
  inr (
    f,
    elim (cases_order (rank_in x) (rank_in y)) [
      | inl s ↦ absurd (n s)
      | inr k ↦ elim k [ inl m ↦ m | inr m ↦ absurd (omega (arith, l, m)) ]
    ],
  ),
)

-- ---- the one that is chosen

-- what holds for all holds for it
first_is : (P : PendingTimer → Type 0) (now : ℕ) (queue : List PendingTimer) → AllByRecursion P queue → IfSome (first_due_timer now queue) (λ c. P c.first)
first_is P now [] all = tt
first_is P now (x ∷ others) all = go (nat_le x.at now) (first_due_timer now others) (first_is P now others all.1)
  where
    tested : (behind : FirstTimer) (b : Bool) → P behind.first → P (if b then first_timer behind.first (x ∷ behind.others) else first_timer x others).first
    tested behind true there = there
    tested behind false there = all.0

    go : (b : Bool) (o : Option FirstTimer) → IfSome o (λ c. P c.first) → IfSome (first_timer_if b x others o) (λ c. P c.first)
    go false None there = tt
    go false (Some behind) there = there
    go true None there = all.0
    go true (Some behind) there = tested behind (is_sooner behind.first x) there

pub none_due : (now : ℕ) (queue : List PendingTimer) → AllByRecursion (λ (a : PendingTimer). now < a.at) queue → first_due_timer now queue ≡ None
none_due now [] all = refl
none_due now (x ∷ others) all =
    ap (λ (b : Bool). first_timer_if b x others (first_due_timer now others)) (lt-leb x.at now all.0) ∙ ap (first_timer_if false x others) (none_due now others all.1)

module _ (now : ℕ) (q : PendingTimer) (due : q.at ≤ now) where
  pub in_front : (others : List PendingTimer) → AllByRecursion (λ x. is_sooner x q ≡ false) others → first_due_timer now (q ∷ others) ≡ Some (first_timer q others)
  in_front others all =
      ap (λ (b : Bool). first_timer_if b q others (first_due_timer now others)) (le-leb q.at now due)
      ∙ go (first_due_timer now others) (first_is (λ (a : PendingTimer). is_sooner a q ≡ false) now others all)
    where
      go : (o : Option FirstTimer) → IfSome o (λ c. is_sooner c.first q ≡ false) → first_timer_if true q others o ≡ Some (first_timer q others)
      go None late = refl
      go (Some behind) late = ap (λ (b : Bool). Some (if b then first_timer behind.first (q ∷ behind.others) else first_timer q others)) late

pub behind_one : (b : Bool) (q x : PendingTimer) (others left : List PendingTimer) → is_sooner q x ≡ true → first_timer_if b x others (Some (first_timer q left)) ≡ Some (first_timer q (x ∷ left))
behind_one false q x others left soon = refl
behind_one true q x others left soon = ap (λ (c : Bool). Some (if c then first_timer q (x ∷ left) else first_timer x others)) soon

-- The first of some of the timers that are stored: of one rank it is the one with the soonest deadline, and of two ranks the sooner of both.
use Rattle.std.proofs.Common.{◌≡◌, ℕ, ◌≤◌, ◌<◌, ◌⊎◌, inl, inr, Bool, true, false, cond, List, [], ◌∷◌, map, Option, Some, None, refl, sym, ap, ◌∙◌, subst, arith}
use Rattle.std.specs.Prelude.{◌==◌, nat_lt}
use Rattle.std.specs.BTreeMap.{is_at}
use Rattle.std.specs.List.{AllByRecursion, filter}
use Rattle.std.specs.Map.{lookup}
use Rattle.std.specs.Option.{option_map}
use Rattle.std.specs.Ordering.{is_eq, nat_cmp}
use Rattle.std.specs.declared.cmp.Ordering.{Ordering}
use Rattle.std.specs.declared.cmp.Ordering.TheVariants.{Less, Equal, Greater}
use Rattle.std.proofs.lemmas.Bool.{cases_lt}
use Rattle.std.proofs.lemmas.Bool.Decides.{nat_tests}
use Rattle.std.proofs.lemmas.Cmp.{ranked}
use Rattle.std.proofs.lemmas.Option.{none-some}
use Rattle.mmtel_timers.specs.Deadlines.{Deadline, sooner, soonest}
use Rattle.mmtel_run_definitions.specs.Deadlines.{is_sooner}
use Rattle.mmtel_server_timers.specs.Queue.{AreInOrder, NumberedTimer, deadline_of, earlier_of, of_rank, pending_of, rank_of, timer_at}
use Rattle.mmtel_server_timers.specs.declared.pending_timers.PendingTimer.{PendingTimer}
use Rattle.mmtel_server_timers.proofs.Sooner.{Comes, NotBehind, is_late, is_soon, late, not_earlier, on, soon, strictly, weaker}

-- ---- facts about all of a list

pub all_weaken : {X : Type 0} (P Q : X → Type 0) → ((x : X) → P x → Q x) → (xs : List X) → AllByRecursion P xs → AllByRecursion Q xs
all_weaken P Q f [] all = tt
all_weaken P Q f (x ∷ xs) all = (f x all.0, all_weaken P Q f xs all.1)

pub all_both : {X : Type 0} (P Q R : X → Type 0) → ((x : X) → P x → Q x → R x) → (xs : List X) → AllByRecursion P xs → AllByRecursion Q xs → AllByRecursion R xs
all_both P Q R f [] one other = tt
all_both P Q R f (x ∷ xs) one other = (f x one.0 other.0, all_both P Q R f xs one.1 other.1)

-- ---- one number and another

abbrev pub is_number : ℕ → ℕ → Bool
is_number n m = is_at (nat_cmp n) m

pub own_number : (n : ℕ) → is_number n n ≡ true
own_number n = let e : nat_cmp n n ≡ Equal = grind (arith, nat_tests) in ap is_eq e

equal_tested : (o : Ordering) → is_eq o ≡ true → o ≡ Equal
equal_tested Less e = absurd cc
equal_tested Equal e = refl
equal_tested Greater e = absurd cc

pub same_number : (n m : ℕ) → is_number n m ≡ true → n ≡ m
same_number n m e = ranked n m Equal (sym (equal_tested (nat_cmp n m) e))

pub other_number : (n m : ℕ) → (n ≡ m → ⊥) → is_number n m ≡ false
other_number n m not = by_test (is_number n m) refl
  where
    by_test : (b : Bool) → is_number n m ≡ b → b ≡ false
    by_test true e = absurd (not (same_number n m e))
    by_test false e = refl

-- what was found is among those of greater numbers
pub found_number : (m n : ℕ) (a : PendingTimer) (es : List NumberedTimer) → lookup (is_number n) es ≡ Some a → AllByRecursion (λ e. m < e.0) es → m < n
found_number m n a [] f all = absurd (none-some a f)
found_number m n a (x ∷ xs) f all = by_test (is_number n x.0) refl (λ g. found_number m n a xs g all.1) f
  where
    by_test : (b : Bool) → is_number n x.0 ≡ b → (lookup (is_number n) xs ≡ Some a → m < n) → cond b (Some x.1) (lookup (is_number n) xs) ≡ Some a → m < n
    by_test true e later g = let s : n ≡ x.0 = same_number n x.0 e in let l : m < x.0 = all.0 in omega (arith, s, l)
    by_test false e later g = later g

-- ---- one precedes others

-- the other is not sooner, and is later where it was armed before
abbrev pub Beats : NumberedTimer → NumberedTimer → Type 0
Beats q e = (is_sooner (pending_of e) (pending_of q) ≡ false) × (e.0 < q.0 → is_sooner (pending_of q) (pending_of e) ≡ true)

pub before_all : (q e : NumberedTimer) → Comes (pending_of q) (pending_of e) → Beats q e
before_all q e c = (late (pending_of q) (pending_of e) (weaker (pending_of q) (pending_of e) c), λ _. soon (pending_of q) (pending_of e) c)

pub record Leads (P : NumberedTimer → Type 0) (q : NumberedTimer) (es : List NumberedTimer) : Type 0 where
  pub there : lookup (is_number q.0) es ≡ Some q.1
  pub one : P q
  pub beats : AllByRecursion (λ e. P e → Beats q e) es

abbrev pub Led : (NumberedTimer → Type 0) → Option NumberedTimer → List NumberedTimer → Type 0
Led P None es = AllByRecursion (λ e. P e → ⊥) es
Led P (Some q) es = Leads P q es

-- ---- of one rank

module _ (r : ℕ) where
  abbrev pub OfRank : NumberedTimer → Type 0
  OfRank e = rank_of e ≡ r

  abbrev Found : Option Deadline → List NumberedTimer → Type 0
  Found None es = AllByRecursion (λ e. OfRank e → ⊥) es
  Found (Some d) es = (q : NumberedTimer) × (d ≡ deadline_of q) × Leads OfRank q es

  leads_on : (q x : NumberedTimer) (xs : List NumberedTimer) → Leads OfRank q xs → AllByRecursion (λ e. x.0 < e.0) xs → (OfRank x → Beats q x) → Leads OfRank q (x ∷ xs)
  leads_on q x xs leads all beats =
      let l : x.0 < q.0 = found_number x.0 q.0 q.1 xs leads.there all in
      let other : is_number q.0 x.0 ≡ false = other_number q.0 x.0 (λ e. omega (arith, e, l)) in
      record { there = ap (λ (b : Bool). cond b (Some x.1) (lookup (is_number q.0) xs)) other ∙ leads.there; one = leads.one; beats = (beats, leads.beats) }

  itself : (x : NumberedTimer) → Beats x x
  itself x = (late (pending_of x) (pending_of x) (inr (refl, inr (refl, omega arith))), λ l. absurd (omega (arith, l)))

  leads_first : (x : NumberedTimer) (xs : List NumberedTimer) → OfRank x → AllByRecursion (λ e. OfRank e → Beats x e) xs → Leads OfRank x (x ∷ xs)
  leads_first x xs is all = record { there = ap (λ (b : Bool). cond b (Some x.1) (lookup (is_number x.0) xs)) (own_number x.0); one = is; beats = ((λ _. itself x), all) }

  -- one of no later moment, no later step and the same rank
  beats_too : (x q e : NumberedTimer) → OfRank x → x.1.at ≤ q.1.at → Beats q e → (x.0 < e.0) × (x.1.step ≤ e.1.step) → OfRank e → Beats x e
  beats_too x q e is l beats follows also =
      let m : q.1.at ≤ e.1.at = not_earlier (pending_of q) (pending_of e) (is_late (pending_of q) (pending_of e) beats.0) in
      (late (pending_of x) (pending_of e) not_behind, λ o. let h = follows.0 in absurd (omega (arith, h, o)))
    where
      at : x.1.at ≤ e.1.at
      at = let m : q.1.at ≤ e.1.at = not_earlier (pending_of q) (pending_of e) (is_late (pending_of q) (pending_of e) beats.0) in omega (arith, l, m)

      rank : rank_of x ≤ rank_of e
      rank = let s : rank_of x ≡ rank_of e = is ∙ sym also in omega (arith, s)

      by_step : x.1.at ≡ e.1.at → NotBehind (pending_of x) (pending_of e)
      by_step same = inr (same, elim (cases_le x.1.step e.1.step follows.1) [ inl s ↦ inl s | inr s ↦ inr (s, rank) ])
        where
          cases_le : (n m : ℕ) → n ≤ m → (n < m) ⊎ (n ≡ m)
          cases_le n m o = elim (cases_lt n m) [ inl s ↦ inl s | inr s ↦ inr (omega (arith, o, s)) ]

      not_behind : NotBehind (pending_of x) (pending_of e)
      not_behind = elim (cases_lt x.1.at e.1.at) [ inl s ↦ inl s | inr s ↦ by_step (omega (arith, at, s)) ]

  found : (es : List NumberedTimer) → AreInOrder es → Found (soonest (of_rank r es)) es
  found [] follow = tt
  found (x ∷ xs) follow = by_rank (rank_of x == r) refl (found xs follow.1)
    where
      numbers : AllByRecursion (λ e. x.0 < e.0) xs
      numbers = all_weaken (λ e. (x.0 < e.0) × (x.1.step ≤ e.1.step)) (λ e. x.0 < e.0) (λ e l. l.0) xs follow.0

      not_this : (rank_of x == r) ≡ false → OfRank x → ⊥
      not_this f e = let t : (rank_of x == r) ≡ true = grind (arith, nat_tests) in let u : true ≡ false = sym t ∙ f in cc

      passed : (o : Option Deadline) → (rank_of x == r) ≡ false → Found o xs → Found o (x ∷ xs)
      passed None f later = (not_this f, later)
      passed (Some d) f later = (later.0, later.1, leads_on later.0 x xs later.2 numbers (λ e. absurd (not_this f e)))

      by_moment : (m : Deadline) (b : Bool) → nat_lt m.0 x.1.at ≡ b → OfRank x → Found (Some m) xs → Found (Some (cond b m (deadline_of x))) (x ∷ xs)
      by_moment m true e is later =
          let q = later.0 in
          let same : m.0 ≡ q.1.at = ap (λ (d : Deadline). d.0) later.1 in
          let l : m.0 < x.1.at = grind (arith, nat_tests) in
          (q, later.1, leads_on q x xs later.2 numbers (λ _. before_all q x (inl (omega (arith, same, l)))))
      by_moment m false e is later =
          let q = later.0 in
          let same : m.0 ≡ q.1.at = ap (λ (d : Deadline). d.0) later.1 in
          let l : x.1.at ≤ m.0 = grind (arith, nat_tests) in
          let least : x.1.at ≤ q.1.at = omega (arith, same, l) in (
            x,
            refl,
            leads_first x xs is (all_both (λ e. OfRank e → Beats q e) (λ e. (x.0 < e.0) × (x.1.step ≤ e.1.step)) (λ e. OfRank e → Beats x e)
                (λ e beats follows also. beats_too x q e is least (beats also) follows also) xs later.2.beats follow.0),
          )

      taken : (o : Option Deadline) → OfRank x → Found o xs → Found (Some (sooner (deadline_of x) o)) (x ∷ xs)
      taken None is later = (x, refl, leads_first x xs is (all_weaken (λ e. OfRank e → ⊥) (λ e. OfRank e → Beats x e) (λ e n also. absurd (n also)) xs later))
      taken (Some m) is later = by_moment m (nat_lt m.0 x.1.at) refl is later

      by_rank : (b : Bool) → (rank_of x == r) ≡ b → Found (soonest (of_rank r xs)) xs
          → Found (soonest (map (λ e. deadline_of e) (cond b (x ∷ filter (λ e. rank_of e == r) xs) (filter (λ e. rank_of e == r) xs)))) (x ∷ xs)
      by_rank true e later = taken (soonest (of_rank r xs)) (grind (arith, nat_tests)) later
      by_rank false e later = passed (soonest (of_rank r xs)) e later

  pub rank_led : (es : List NumberedTimer) → AreInOrder es → Led OfRank (timer_at (soonest (of_rank r es)) es) es
  rank_led es follow = by_cases (soonest (of_rank r es)) (found es follow)
    where
      by_cases : (o : Option Deadline) → Found o es → Led OfRank (timer_at o es) es
      by_cases None none = none
      by_cases (Some d) found =
          let q = found.0 in
          let at : timer_at (Some d) es ≡ Some q = ap (λ (d : Deadline). timer_at (Some d) es) found.1 ∙ ap (λ (o : Option PendingTimer). option_map (λ a. (q.0, a)) o) found.2.there in
          subst (λ (o : Option NumberedTimer). Led OfRank o es) (sym at) found.2

-- ---- of two kinds, of which no two have the same rank

module _ (P Q : NumberedTimer → Type 0) (apart : (a b : NumberedTimer) → P a → Q b → rank_of a ≡ rank_of b → ⊥) (es : List NumberedTimer) where
  abbrev Both : NumberedTimer → Type 0
  Both e = P e ⊎ Q e

  other_first : (a b : NumberedTimer) → Leads P a es → Leads Q b es → is_sooner (pending_of b) (pending_of a) ≡ true → Leads Both b es
  other_first a b one other t = record {
    there = other.there;
    one = inr other.one;
    beats = all_both (λ e. P e → Beats a e) (λ e. Q e → Beats b e) (λ e. Both e → Beats b e) (λ e p q both. elim both [
      | inl i ↦ before_all b e (on (pending_of b) (pending_of a) (pending_of e) (is_soon (pending_of b) (pending_of a) t) (is_late (pending_of a) (pending_of e) (p i).0))
      | inr i ↦ q i
    ]) es one.beats other.beats;
  }

  one_first : (a b : NumberedTimer) → Leads P a es → Leads Q b es → is_sooner (pending_of b) (pending_of a) ≡ false → Leads Both a es
  one_first a b one other f =
      let comes : Comes (pending_of a) (pending_of b) = strictly (pending_of a) (pending_of b) (is_late (pending_of a) (pending_of b) f) (apart a b one.one other.one) in
      record {
        there = one.there;
        one = inl one.one;
        beats = all_both (λ e. P e → Beats a e) (λ e. Q e → Beats b e) (λ e. Both e → Beats a e) (λ e p q both. elim both [
          | inl i ↦ p i
          | inr i ↦ before_all a e (on (pending_of a) (pending_of b) (pending_of e) comes (is_late (pending_of b) (pending_of e) (q i).0))
        ]) es one.beats other.beats;
      }

  pub both_led : (o p : Option NumberedTimer) → Led P o es → Led Q p es → Led Both (earlier_of o p) es
  both_led None None one other = all_both (λ e. P e → ⊥) (λ e. Q e → ⊥) (λ e. Both e → ⊥) (λ e p q both. elim both [ inl i ↦ p i | inr i ↦ q i ]) es one other
  both_led None (Some b) one other = record {
    there = other.there;
    one = inr other.one;
    beats = all_both (λ e. P e → ⊥) (λ e. Q e → Beats b e) (λ e. Both e → Beats b e) (λ e p q both. elim both [ inl i ↦ absurd (p i) | inr i ↦ q i ]) es one other.beats;
  }
  both_led (Some a) None one other = record {
    there = one.there;
    one = inl one.one;
    beats = all_both (λ e. P e → Beats a e) (λ e. Q e → ⊥) (λ e. Both e → Beats a e) (λ e p q both. elim both [ inl i ↦ p i | inr i ↦ absurd (q i) ]) es one.beats other;
  }
  both_led (Some a) (Some b) one other = by_test (is_sooner (pending_of b) (pending_of a)) refl
    where
      by_test : (t : Bool) → is_sooner (pending_of b) (pending_of a) ≡ t → Led Both (cond t (Some b) (Some a)) es
      by_test true s = other_first a b one other s
      by_test false s = one_first a b one other s

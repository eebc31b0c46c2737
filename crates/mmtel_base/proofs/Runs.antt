-- The longest prefix of a list whose bytes are of a class.
use Rattle.std.proofs.Common.{◌≡◌, ◌==◌, Bool, true, false, not, ◌&&◌, ℕ, suc, ◌+◌, ◌≤◌, ◌<◌, List, [], ◌∷◌, ◌++◌, length, take, drop, Option, Some, None, refl, sym, subst, inl, inr, arith, nat_lt, append_assoc, get_or}
use Rattle.std.proofs.lemmas.List.{length-append, take-append-drop, take_at, drop_at}
use Rattle.std.proofs.lemmas.Bool.{cases_Bool, ltb-true, ltb-false}
use Rattle.std.proofs.lemmas.List.Sums.{split_at_first, passes_at_first}
use Rattle.std.specs.List.{prefix_len, list_all}
use Rattle.std.proofs.lemmas.Bool.Decides.{nat_tests}
use Rattle.mmtel_base.specs.declared.classes.Class.{Class}
use Rattle.mmtel_base.specs.Classes.{in_class}
use Rattle.mmtel_base.specs.Scanning.{leading_run, after_run, split_once_at, IsFree}
use Rattle.mmtel_base.specs.Classes.{IsAll, Stops}

pub and_true : (a b : Bool) → (a && b) ≡ true → (a ≡ true) × (b ≡ true)
and_true true true e = (refl, refl)
and_true true false e = absurd cc
and_true false b e = absurd cc

len_again : (k : Class) (a x : List ℕ) → IsAll k a → Stops k x → prefix_len (in_class k) (a ++ x) ≡ length a
len_again k [] [] each stops = refl
len_again k [] (c ∷ x) each stops = rw stops refl
len_again k (c ∷ a) x each stops =
    let both = and_true (in_class k c) (list_all (in_class k) a) each in
    let more : prefix_len (in_class k) (a ++ x) ≡ length a = len_again k a x both.1 stops in
    rw (both.0, more) (omega arith)

pub run_again : (k : Class) (a x : List ℕ) → IsAll k a → Stops k x → leading_run k (a ++ x) ≡ a
unfolding leading_run
run_again k a x each stops = rw (len_again k a x each stops) (take_at a x (length a) refl)

pub after_run_again : (k : Class) (a x : List ℕ) → IsAll k a → Stops k x → after_run k (a ++ x) ≡ x
unfolding after_run
after_run_again k a x each stops = rw (len_again k a x each stops) (drop_at a x (length a) refl)

pub run_whole : (k : Class) (s : List ℕ) → s ≡ leading_run k s ++ after_run k s
unfolding leading_run after_run
run_whole k s = sym (take-append-drop (prefix_len (in_class k) s) s)

pub run_each : (k : Class) (s : List ℕ) → IsAll k (leading_run k s)
unfolding leading_run
run_each k [] = refl
run_each k (c ∷ s) =
    let one : 1 + prefix_len (in_class k) s ≡ suc (prefix_len (in_class k) s) = omega arith in
    elim (cases_Bool (in_class k c)) [
      | inl y ↦ rw (y, one, y) (run_each k s)
      | inr n ↦ rw n refl
    ]

pub after_run_stops : (k : Class) (s : List ℕ) → Stops k (after_run k s)
unfolding after_run
after_run_stops k [] = tt
after_run_stops k (c ∷ s) =
    let one : 1 + prefix_len (in_class k) s ≡ suc (prefix_len (in_class k) s) = omega arith in
    elim (cases_Bool (in_class k c)) [
      | inl y ↦ rw (y, one) (after_run_stops k s)
      | inr n ↦ rw n n
    ]

pub run_cons : (k : Class) (b : ℕ) (s : List ℕ) → in_class k b ≡ true → leading_run k (b ∷ s) ≡ b ∷ leading_run k s
unfolding leading_run
run_cons k b s e =
    let one : 1 + prefix_len (in_class k) s ≡ suc (prefix_len (in_class k) s) = omega arith in
    rw (e, one) refl

-- ---- split at the first such byte

StopsBy-free : (b : ℕ) (f r : List ℕ) → IsFree b f → prefix_len (λ x. not (x == b)) (f ++ b ∷ r) ≡ length f
StopsBy-free b [] r free =
    let same : (b == b) ≡ true = grind (arith, nat_tests) in
    rw same refl
StopsBy-free b (c ∷ f) r free =
    let both = and_true (not (c == b)) (list_all (λ x. not (x == b)) f) free in
    let more : prefix_len (λ x. not (x == b)) (f ++ b ∷ r) ≡ length f = StopsBy-free b f r both.1 in
    rw (both.0, more) (omega arith)

free_len : (b : ℕ) (s : List ℕ) → IsFree b s → prefix_len (λ x. not (x == b)) s ≡ length s
free_len b [] free = refl
free_len b (c ∷ s) free =
    let both = and_true (not (c == b)) (list_all (λ x. not (x == b)) s) free in
    let more : prefix_len (λ x. not (x == b)) s ≡ length s = free_len b s both.1 in
    rw (both.0, more) (omega arith)

pub split_again : (b : ℕ) (f r : List ℕ) → IsFree b f → split_once_at b (f ++ b ∷ r) ≡ Some (f, r)
unfolding split_once_at
split_again b f r free =
    let at : prefix_len (λ x. not (x == b)) (f ++ b ∷ r) ≡ length f = StopsBy-free b f r free in
    let within : nat_lt (length f) (length (f ++ b ∷ r)) ≡ true = grind (arith, nat_tests, length-append f (b ∷ r)) in
    let behind : drop (length f + 1) (f ++ b ∷ r) ≡ r = rw (← append_assoc f (b ∷ []) r) (drop_at (f ++ b ∷ []) r (length f + 1) (omega (arith, length-append f (b ∷ [])))) in
    rw (at, within, take_at f (b ∷ r) (length f) refl, behind) refl

pub split_free : (b : ℕ) (s : List ℕ) → IsFree b s → split_once_at b s ≡ None
unfolding split_once_at
split_free b s free =
    let past : nat_lt (length s) (length s) ≡ false = grind (arith, nat_tests) in
    rw (free_len b s free, past) refl

all_by_len : (p : ℕ → Bool) (s : List ℕ) → length s ≤ prefix_len p s → list_all p s ≡ true
all_by_len p [] le = refl
all_by_len p (c ∷ s) le =
    elim (cases_Bool (p c)) [
      | inl y ↦
          let len : suc (length s) ≤ 1 + prefix_len p s = rw y at le in
          rw (y, all_by_len p s (omega arith)) refl
      | inr n ↦
          let len : suc (length s) ≤ 0 = rw n at le in
          absurd (omega arith)
    ]

some_none : {A : Type 0} (x : A) → (Some x ≡ None) → ⊥
some_none x e = cc

pub split_none : (b : ℕ) (s : List ℕ) → split_once_at b s ≡ None → IsFree b s
unfolding split_once_at
split_none b s e =
    elim (cases_Bool (nat_lt (prefix_len (λ x. not (x == b)) s) (length s))) [
      | inl y ↦ absurd (some_none _ (rw y at e))
      | inr n ↦ all_by_len (λ x. not (x == b)) s (ltb-false _ _ n)
    ]

abbrev done : {A : Type 0} → A → Option A
done x = Some x

done_is : {A : Type 0} (x y : A) → done x ≡ done y → x ≡ y
done_is x y e = cc

pub split_takes : (b : ℕ) (s : List ℕ) (x : List ℕ × List ℕ) → split_once_at b s ≡ Some x → s ≡ x.0 ++ b ∷ x.1
unfolding split_once_at
split_takes b s x e =
    let n : ℕ = prefix_len (λ x. not (x == b)) s in
    elim (cases_Bool (nat_lt (prefix_len (λ x. not (x == b)) s) (length s))) [
      | inl y ↦
          let lt : prefix_len (λ x. not (x == b)) s < length s = ltb-true _ _ y in
          let test : (get_or s (prefix_len (λ x. not (x == b)) s) 0 == b) ≡ true = passes_at_first (λ x. x == b) s 0 lt in
          let same : get_or s (prefix_len (λ x. not (x == b)) s) 0 ≡ b = grind (arith, nat_tests) in
          let whole : s ≡ take (prefix_len (λ x. not (x == b)) s) s ++ (b ∷ drop (prefix_len (λ x. not (x == b)) s + 1) s) = rw same at (split_at_first (λ x. x == b) s 0 lt) in
          subst (λ (z : List ℕ × List ℕ). s ≡ z.0 ++ b ∷ z.1) (done_is _ x (rw y at e)) whole
      | inr m ↦ absurd (some_none x (sym (rw m at e)))
    ]

pub after_run_cons : (k : Class) (b : ℕ) (s : List ℕ) → in_class k b ≡ true → after_run k (b ∷ s) ≡ after_run k s
unfolding after_run
after_run_cons k b s e =
    let one : 1 + prefix_len (in_class k) s ≡ suc (prefix_len (in_class k) s) = omega arith in
    rw (e, one) refl

pub after_run_here : (k : Class) (b : ℕ) (s : List ℕ) → in_class k b ≡ false → after_run k (b ∷ s) ≡ b ∷ s
unfolding after_run
after_run_here k b s e = rw e refl

pub after_run_nil : (k : Class) → after_run k [] ≡ []
unfolding after_run
after_run_nil k = refl

-- each byte of one class is of another
pub wider : (j k : Class) → ((b : ℕ) → in_class j b ≡ true → in_class k b ≡ true) → (s : List ℕ) → IsAll j s → IsAll k s
wider j k within [] each = refl
wider j k within (b ∷ s) each =
    let both = and_true (in_class j b) (list_all (in_class j) s) each in
    rw (within b both.0, wider j k within s both.1) refl

pub all_front : (k : Class) (a b : List ℕ) → IsAll k (a ++ b) → IsAll k a
all_front k [] b each = refl
all_front k (c ∷ a) b each =
    let both = and_true (in_class k c) (list_all (in_class k) (a ++ b)) each in
    rw (both.0, all_front k a b both.1) refl

-- a prefix passes that ends before the first byte that does not
pub prefix_each : {A : Type 0} (p : A → Bool) (r : List A) → list_all p (take (prefix_len p r) r) ≡ true
prefix_each p [] = refl
prefix_each p (c ∷ r) =
    let one : 1 + prefix_len p r ≡ suc (prefix_len p r) = omega arith in
    elim (cases_Bool (p c)) [
      | inl y ↦ rw (y, one, y) (prefix_each p r)
      | inr n ↦ rw n refl
    ]

-- what comes before the first such byte has none
pub split_front : (b : ℕ) (s : List ℕ) (x : List ℕ × List ℕ) → split_once_at b s ≡ Some x → IsFree b x.0
unfolding split_once_at
split_front b s x e =
    elim (cases_Bool (nat_lt (prefix_len (λ y. not (y == b)) s) (length s))) [
      | inl y ↦ subst (λ (z : List ℕ × List ℕ). IsFree b z.0) (done_is _ x (rw y at e)) (prefix_each (λ y. not (y == b)) s)
      | inr m ↦ absurd (let f = rw m at e in cc)
    ]

-- a text of a class has none of a byte that is not of it
pub class_free : (k : Class) (b : ℕ) → in_class k b ≡ false → (s : List ℕ) → IsAll k s → IsFree b s
class_free k b out [] each = refl
class_free k b out (c ∷ s) each =
    let both = and_true (in_class k c) (list_all (in_class k) s) each in
    elim (cases_Bool (c == b)) [
      | inl y ↦
          let same : c ≡ b = grind (arith, nat_tests, y) in
          let here : in_class k b ≡ true = subst (λ (x : ℕ). in_class k x ≡ true) same both.0 in
          absurd cc
      | inr n ↦ rw (n, class_free k b out s both.1) refl
    ]

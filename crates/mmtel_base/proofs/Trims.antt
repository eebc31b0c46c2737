-- Bytes of a class at the end.
use Rattle.std.proofs.Common.{◌≡◌, false, ℕ, zero, suc, ◌-◌, ◌≤◌, ◌<◌, List, [], ◌∷◌, ◌++◌, length, take, drop, reverse, get_or, refl, sym, ap, subst, ◌∙◌, arith}
use Rattle.std.proofs.lemmas.List.{take-append-drop, reverse-append, reverse-reverse}
use Rattle.std.proofs.Math.Seq.{take-suc}
use Rattle.std.specs.List.{list_all}
use Rattle.mmtel_base.specs.declared.classes.Class.{Class}
use Rattle.mmtel_base.specs.Classes.{in_class}
use Rattle.mmtel_base.specs.Scanning.{leading_run, after_run, without_trailing}
use Rattle.mmtel_base.specs.Classes.{IsAll, Stops}
use Rattle.mmtel_base.proofs.Runs.{and_true, after_run_again, run_whole, run_each, after_run_stops}

pub all_append : (k : Class) (a b : List ℕ) → IsAll k a → IsAll k b → IsAll k (a ++ b)
all_append k [] b x y = y
all_append k (c ∷ a) b x y =
    let both = and_true (in_class k c) (list_all (in_class k) a) x in
    rw (both.0, all_append k a b both.1 y) refl

all_reverse : (k : Class) (a : List ℕ) → IsAll k a → IsAll k (reverse a)
all_reverse k [] x = refl
all_reverse k (c ∷ a) x =
    let both = and_true (in_class k c) (list_all (in_class k) a) x in
    let turned : reverse (c ∷ a) ≡ reverse a ++ c ∷ [] = reverse-append (c ∷ []) a in
    let one : IsAll k (c ∷ []) = rw both.0 refl in
    rw turned (all_append k (reverse a) (c ∷ []) (all_reverse k a both.1) one)

pub trimmed_again : (k : Class) (front back : List ℕ) → IsAll k back → Stops k (reverse front) → without_trailing k (front ++ back) ≡ front
unfolding without_trailing
trimmed_again k front back all stops =
    rw (reverse-append front back, after_run_again k (reverse back) (reverse front) (all_reverse k back all) stops) (reverse-reverse front)

pub stops_by : (k : Class) (s : List ℕ) (n : ℕ) → n < length s → in_class k (get_or s n 0) ≡ false → Stops k (reverse (take (suc n) s))
stops_by k s n lt e =
    let turned : reverse (take (suc n) s) ≡ get_or s n 0 ∷ reverse (take n s) = ap (λ (l : List ℕ). reverse l) (take-suc s n 0 lt) ∙ reverse-append (take n s) (get_or s n 0 ∷ []) in
    rw turned e

pub cut : (k : Class) (s : List ℕ) (n : ℕ) → IsAll k (drop n s) → Stops k (reverse (take n s)) → take n s ≡ without_trailing k s
cut k s n all stops =
    sym (subst (λ (l : List ℕ). without_trailing k l ≡ take n s) (take-append-drop n s) (trimmed_again k (take n s) (drop n s) all stops))

pub cut_here : (k : Class) (s : List ℕ) (n : ℕ) → 0 < n → n ≤ length s → IsAll k (drop n s) → in_class k (get_or s (n - 1) 0) ≡ false → take n s ≡ without_trailing k s
cut_here k s zero pos le all e = absurd (omega arith)
cut_here k s (suc n) pos le all e =
    let less : suc n - 1 ≡ n = omega arith in
    let test : in_class k (get_or s n 0) ≡ false = rw less at e in
    cut k s (suc n) all (stops_by k s n (omega arith) test)

pub record Trims (k : Class) (s front : List ℕ) : Type 0 where
  pub back : List ℕ
  pub whole : s ≡ front ++ back
  pub back_in : IsAll k back
  pub ends : Stops k (reverse front)

pub trimmed_takes : (k : Class) (s : List ℕ) → Trims k s (without_trailing k s)
unfolding without_trailing
trimmed_takes k s =
    let turned : reverse (reverse s) ≡ reverse (after_run k (reverse s)) ++ reverse (leading_run k (reverse s)) =
    ap (λ (l : List ℕ). reverse l) (run_whole k (reverse s)) ∙ reverse-append (leading_run k (reverse s)) (after_run k (reverse s)) in
    record {
      back = reverse (leading_run k (reverse s));
      whole = sym (reverse-reverse s) ∙ turned;
      back_in = all_reverse k (leading_run k (reverse s)) (run_each k (reverse s));
      ends = rw (reverse-reverse (after_run k (reverse s))) (after_run_stops k (reverse s));
    }

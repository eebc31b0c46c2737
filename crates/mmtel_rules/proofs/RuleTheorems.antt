-- Which rules hold, and what bars a call.
use Rattle.std.proofs.Common.{◌≡◌, ℕ, Bool, true, false, not, cond, ◌&&◌, ◌||◌, List, [], ◌∷◌, ◌++◌, Option, Some, None, refl, sym, ap, ◌∙◌, arith}
use Rattle.std.specs.Prelude.{ℤ, pos, negsuc, int_lt, int_le, ◌≤ℤ◌, ◌<ℤ◌, IfSome, is_some}
use Rattle.std.specs.List.{list_any}
use Rattle.std.specs.List.Sorted.{IsPermutation}
use Rattle.std.proofs.Math.Bool.{and-false}
use Rattle.std.proofs.Math.Dec.{T, leb, ltb}
use Rattle.std.proofs.lemmas.Bool.Decides.{nat_tests}
use Rattle.std.proofs.lemmas.List.Sorted.{list_any-IsPermutation}
use Rattle.mmtel_lex.specs.declared.values.Uri.{Uri}
use Rattle.mmtel_sheet_values.specs.declared.values.Condition.{Condition}
use Rattle.mmtel_sheet_values.specs.declared.values.Rule.{Rule}
use Rattle.mmtel_sheet_values.specs.declared.values.Who.{Who}
use Rattle.mmtel_sheet_values.specs.declared.values.Window.{Window}
use Rattle.mmtel_rules.specs.Facts.{FactsView}
use Rattle.mmtel_rules.specs.Conditions.{condition_holds, window_holds, event_holds, who_holds, fact_holds, further_holds, media_holds}
use Rattle.mmtel_rules.specs.Identities.{has_identity, identity_holds, names_an_identity, many_holds}
use Rattle.mmtel_rules.specs.Rules.{allows, arrival, barred_by, first_that_holds, is_barred, is_let_through, IsLeast, lets_through, rule_holds}
use Rattle.mmtel_rules.specs.declared.values.Identities2.{Identities2}
use Rattle.mmtel_rules.specs.declared.values.When.{When}
use Rattle.mmtel_rules.proofs.LeastIndex.{is_some-position, list_any_within, position_is_least}

-- ---- a party without identities

nothing_named : (i : Identities2) (us : List Uri) → i.sip ≡ None → i.tel ≡ None → names_an_identity i us ≡ false
nothing_named i [] e f = refl
nothing_named i (u ∷ us) e f = rw (e, f) (rw (nothing_named i us e f) refl)

nothing_meant : (many : Option (List ℕ)) (except : List Uri) (i : Identities2) → i.sip ≡ None → i.tel ≡ None → many_holds many except i ≡ false
nothing_meant None except i e f = refl
nothing_meant (Some domain) except i e f = rw (e, f) refl

absent : {A : Type 0} (a : Option A) → is_some a ≡ false → a ≡ None
absent None e = refl
absent (Some x) e = absurd cc

neither : (a b : Bool) → (a || b) ≡ false → (a ≡ false) × (b ≡ false)
neither true b e = absurd cc
neither false b e = (refl, e)

pub nobody_meant : (i : Identities2) (who : Who) → has_identity i ≡ false → identity_holds i who ≡ false
unfolding identity_holds
nobody_meant i who none =
    let parts = neither (is_some i.sip) (is_some i.tel) none in
    let no_sip = absent i.sip parts.0 in
    let no_tel = absent i.tel parts.1 in
    rw (nothing_named i who.one no_sip no_tel, nothing_meant who.many who.except i no_sip no_tel) refl

-- ---- the parts of a condition: where one does not hold, the condition does not

third_false : (a b c d : Bool) → c ≡ false → (a && (b && (c && d))) ≡ false
third_false true true c d e = rw e refl
third_false true false c d e = refl
third_false false b c d e = refl

last_false : (a b c d e f : Bool) → f ≡ false → (a && (b && (c && (d && (e && f))))) ≡ false
last_false true true true true true f h = h
last_false true true true true false f h = refl
last_false true true true false e f h = refl
last_false true true false d e f h = refl
last_false true false c d e f h = refl
last_false false b c d e f h = refl

module _ (k : FactsView) (when : When) (c : Condition) where
  pub outside_window : window_holds k.now c.window ≡ false → condition_holds k when c ≡ false
  unfolding condition_holds
  outside_window e = third_false (who_holds k.identity_matches c.identity) (fact_holds k.restricted c.anonymous) (window_holds k.now c.window)
      (media_holds k.media c.media && (further_holds k c && event_holds when c.event)) e

  pub no_event : event_holds when c.event ≡ false → condition_holds k when c ≡ false
  unfolding condition_holds
  no_event e = last_false (who_holds k.identity_matches c.identity) (fact_holds k.restricted c.anonymous) (window_holds k.now c.window) (media_holds k.media c.media) (further_holds k c) (event_holds when c.event) e

-- ---- windows

is_true : (b : Bool) → T b → b ≡ true
is_true true t = refl
is_true false t = absurd t

end_passed : (until : ℤ) (now : ℕ) → until ≤ℤ pos now → int_lt (pos now) until ≡ false
end_passed (pos u) now h = let e = is_true (leb u now) h.le in grind (arith, nat_tests)
end_passed (negsuc u) now h = refl

beginning_to_come : (from : ℤ) (now : ℕ) → pos now <ℤ from → int_le from (pos now) ≡ false
beginning_to_come (pos f) now h = let e = is_true (ltb now f) h.lt in grind (arith, nat_tests)
beginning_to_come (negsuc f) now h = absurd h.lt

pub window_passed : (now : ℕ) (window : Option Window) (w : Window) → window ≡ Some w → w.until ≤ℤ pos now → window_holds now window ≡ false
window_passed now window w e h = rw (e, end_passed w.until now h) (and-false (int_le w.from (pos now)))

pub window_to_come : (now : ℕ) (window : Option Window) (w : Window) → window ≡ Some w → pos now <ℤ w.from → window_holds now window ≡ false
window_to_come now window w e h = rw (e, beginning_to_come w.from now h) refl

-- ---- barring

-- barred exactly where some rule holds and none allows the call

some_unless : (b : Bool) (found : Option ℕ) → is_some (cond b None found) ≡ (is_some found && not b)
some_unless true None = refl
some_unless true (Some n) = refl
some_unless false None = refl
some_unless false (Some n) = refl

least_unless : (P : ℕ → Type 0) (b : Bool) (found : Option ℕ) → IfSome found P → IfSome (cond b None found) P
least_unless P true found h = tt
least_unless P false found h = h

module _ (k : FactsView) where
  pub is_some-barred_by : (rules : List Rule) → is_some (barred_by k rules) ≡ is_barred k rules
  is_some-barred_by rules =
      some_unless (list_any (lets_through k) rules) (first_that_holds k arrival rules)
      ∙ ap (λ b. b && not (list_any (lets_through k) rules)) (is_some-position (rule_holds k arrival) rules)

  pub barred_is_least : (rules : List Rule) → IfSome (barred_by k rules) (IsLeast (rule_holds k arrival) rules)
  barred_is_least rules =
      least_unless (IsLeast (rule_holds k arrival) rules) (is_let_through k rules) (first_that_holds k arrival rules) (position_is_least (rule_holds k arrival) rules)

  pub is_barred-permutation : (rules other : List Rule) → IsPermutation rules other → is_barred k rules ≡ is_barred k other
  is_barred-permutation rules other p =
      rw (list_any-IsPermutation (rule_holds k arrival) rules other p, list_any-IsPermutation (lets_through k) rules other p) refl

  pub barred_permutation : (rules other : List Rule) → IsPermutation rules other → is_some (barred_by k rules) ≡ is_some (barred_by k other)
  barred_permutation rules other p = is_some-barred_by rules ∙ is_barred-permutation rules other p ∙ sym (is_some-barred_by other)

  pub let_through : (front back : List Rule) (r : Rule) → allows r.action ≡ true → rule_holds k arrival r ≡ true → barred_by k (front ++ r ∷ back) ≡ None
  let_through front back r allowed held =
      let through : lets_through k r ≡ true = rw (allowed, held) refl in
      rw (list_any_within (lets_through k) front back r through) refl

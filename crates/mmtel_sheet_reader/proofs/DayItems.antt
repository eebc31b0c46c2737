-- The days of an array, read one after another: the state of the walk, its next step, its refusal and its end.
use Rattle.std.proofs.Common.{◌≡◌, ℕ, ◌+◌, ◌<◌, ◌≤◌, Bool, List, length, get_or, drop, Ok, Err, refl, sym, ap, subst, ◌∙◌}
use Rattle.std.proofs.lemmas.List.{drop_all}
use Rattle.toml.specs.declared.value.Value.{Value}
use Rattle.toml.specs.View.{view, items_view}
use Rattle.mmtel_sheet_grammar.specs.ReadResults.{Read, then_read, IsReadResult}
use Rattle.mmtel_sheet_grammar.specs.Elements.{no_days, day_read, days_from}
use Rattle.mmtel_sheet_grammar.specs.Sound.{IsSound, IsSoundArray}
use Rattle.mmtel_sheet_grammar.specs.declared.faults.SheetFault.{SheetFault}
use Rattle.mmtel_sheet_reader.proofs.Items.{first_left, refuses_both}

module _ (at : List ℕ) (vs : List Value) where
  -- those before the index are named: the result of reading the others after them is that of reading all, and all are sound where the others are
  pub record AreNamedTo (i : ℕ) (days : List Bool) : Type 0 where
    pub same : days_from at days (items_view (drop i vs)) ≡ days_from at no_days (items_view vs)
    pub sound : IsSoundArray (items_view (drop i vs)) → IsSoundArray (items_view vs)

  pub days_begin : AreNamedTo 0 no_days
  days_begin = record { same = refl; sound = λ h. h }

  one_day : (i : ℕ) (v : Value) (days : List Bool) → i < length vs → v ≡ get_or vs i v → AreNamedTo i days
      → then_read (day_read at days (view v)) (λ more. days_from at more (items_view (drop (i + 1) vs))) ≡ days_from at no_days (items_view vs)
  one_day i v days within is k = sym (ap (days_from at days) (first_left vs i v within is)) ∙ k.same

  pub days_step : (i : ℕ) (v : Value) (days more : List Bool) → i < length vs → v ≡ get_or vs i v → day_read at days (view v) ≡ Ok more → IsSound (view v)
      → AreNamedTo i days → AreNamedTo (i + 1) more
  days_step i v days more within is was here k =
      let next = λ (x : List Bool). days_from at x (items_view (drop (i + 1) vs)) in
      record {
        same = sym (ap (λ (r : Read (List Bool)). then_read r next) was) ∙ one_day i v days within is k;
        sound = λ rest. k.sound (subst IsSoundArray (sym (first_left vs i v within is)) (here, rest));
      }

  pub days_refused : (ws : List Value) (i : ℕ) (v : Value) (days : List Bool) (e : SheetFault) → vs ≡ ws → i < length vs → v ≡ get_or vs i v
      → IsReadResult (day_read at days (view v)) (Err e) → AreNamedTo i days → IsReadResult (days_from at no_days (items_view ws)) (Err e)
  days_refused ws i v days e all within is a k =
      subst (λ (w : Read (List Bool)). IsReadResult w (Err e)) (one_day i v days within is k ∙ ap (λ (us : List Value). days_from at no_days (items_view us)) all)
      (refuses_both (day_read at days (view v)) (λ x. days_from at x (items_view (drop (i + 1) vs))) e a)

  pub days_named : (ws : List Value) (i : ℕ) (days : List Bool) → vs ≡ ws → length vs ≤ i → AreNamedTo i days → days_from at no_days (items_view ws) ≡ Ok days
  days_named ws i days all past k =
      sym (ap (λ (us : List Value). days_from at no_days (items_view us)) all) ∙ (sym k.same ∙ ap (λ (us : List Value). days_from at days (items_view us)) (drop_all i vs past))

  pub days_sound : (ws : List Value) (i : ℕ) (days : List Bool) → vs ≡ ws → length vs ≤ i → AreNamedTo i days → IsSoundArray (items_view ws)
  days_sound ws i days all past k =
      subst (λ (us : List Value). IsSoundArray (items_view us)) all (k.sound (subst (λ (us : List Value). IsSoundArray (items_view us)) (sym (drop_all i vs past)) tt))

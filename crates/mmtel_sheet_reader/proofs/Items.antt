-- The items of an array, read one after another: the state of the walk, its next step, its refusal and its end.
use Rattle.std.proofs.Common.{◌≡◌, ℕ, ◌+◌, ◌<◌, ◌≤◌, List, [], ◌∷◌, ◌++◌, length, get_or, drop, Ok, Err, refl, sym, ap, subst, ◌∙◌}
use Rattle.std.proofs.lemmas.List.{drop_all}
use Rattle.std.specs.Prelude.{IsErr}
use Rattle.toml.specs.declared.value.Value.{Value}
use Rattle.toml.specs.Data.{Data, Items, no_items, item}
use Rattle.toml.specs.View.{view, items_view}
use Rattle.toml.proofs.Views.{items_view-drop}
use Rattle.mmtel_sheet_grammar.specs.ReadResults.{Read, then_read, IsReadResult}
use Rattle.mmtel_sheet_grammar.specs.Sound.{IsSound, IsSoundArray}
use Rattle.mmtel_sheet_grammar.specs.declared.faults.SheetFault.{SheetFault}
use Rattle.mmtel_sheet_grammar.specs.declared.faults.SheetFault.TheVariants.{NotToml, Unknown, Wrong, Many, NoMemory}

module _ {A B : Type 0} where
  -- what refuses the first refuses both
  pub refuses_both : (r : Read A) (next : A → Read B) (e : SheetFault) → IsReadResult r (Err e) → IsReadResult (then_read r next) (Err e)
  refuses_both r next NotToml a = a
  refuses_both r next (Unknown k) a = rw a
  refuses_both r next (Wrong k) a = rw a
  refuses_both r next (Many k n) a = rw a
  refuses_both r next NoMemory a = tt

  -- what is refused as wrong stays so
  pub refused_still : (at : List ℕ) (r : Read A) (next : A → Read B) → IsErr r → IsReadResult (Err (Wrong at)) r → IsReadResult (Err (Wrong at)) (then_read r next)
  refused_still at (Ok a) next refused answered = absurd cc
  refused_still at (Err NotToml) next refused answered = answered
  refused_still at (Err (Unknown k)) next refused answered = absurd cc
  refused_still at (Err (Wrong k)) next refused answered = cc
  refused_still at (Err (Many k n)) next refused answered = absurd cc
  refused_still at (Err NoMemory) next refused answered = tt

-- the item at an index, before those after it
pub first_left : (vs : List Value) (i : ℕ) (v : Value) → i < length vs → v ≡ get_or vs i v → items_view (drop i vs) ≡ item (view v) (items_view (drop (i + 1) vs))
first_left vs i v within at = items_view-drop vs i v within ∙ ap (λ (x : Value). item (view x) (items_view (drop (i + 1) vs))) (sym at)

-- a walk over the items, after what was read before
module _ {A : Type 0} (walk : List A → Items → Read (List A)) (vs : List Value) where
  -- those before the index are read: the result of reading the others after them is that of reading all, and all are sound where the others are
  pub record IsReadTo (i : ℕ) (done : List A) : Type 0 where
    pub same : walk done (items_view (drop i vs)) ≡ walk [] (items_view vs)
    pub sound : IsSoundArray (items_view (drop i vs)) → IsSoundArray (items_view vs)

  pub items_begin : IsReadTo 0 []
  items_begin = record { same = refl; sound = λ h. h }

  -- each item is read by the step
  module _ (step : List A → Data → Read A) (goes : (done : List A) (d : Data) (ds : Items) → walk done (item d ds) ≡ then_read (step done d) (λ a. walk (done ++ a ∷ []) ds)) where
    one_item : (i : ℕ) (v : Value) (done : List A) → i < length vs → v ≡ get_or vs i v → IsReadTo i done
        → then_read (step done (view v)) (λ a. walk (done ++ a ∷ []) (items_view (drop (i + 1) vs))) ≡ walk [] (items_view vs)
    one_item i v done within at k =
        sym (ap (walk done) (first_left vs i v within at) ∙ goes done (view v) (items_view (drop (i + 1) vs))) ∙ k.same

    pub items_step : (i : ℕ) (v : Value) (a : A) (done more : List A) → i < length vs → v ≡ get_or vs i v → step done (view v) ≡ Ok a → IsSound (view v)
        → more ≡ done ++ a ∷ [] → IsReadTo i done → IsReadTo (i + 1) more
    items_step i v a done more within at was here is k =
        let next = λ (x : A). walk (done ++ x ∷ []) (items_view (drop (i + 1) vs)) in
        record {
          same = ap (λ (l : List A). walk l (items_view (drop (i + 1) vs))) is ∙ (sym (ap (λ (r : Read A). then_read r next) was) ∙ one_item i v done within at k);
          sound = λ rest. k.sound (subst IsSoundArray (sym (first_left vs i v within at)) (here, rest));
        }

    pub items_refused : (ws : List Value) (i : ℕ) (v : Value) (done : List A) (e : SheetFault) → vs ≡ ws → i < length vs → v ≡ get_or vs i v
        → IsReadResult (step done (view v)) (Err e) → IsReadTo i done → IsReadResult (walk [] (items_view ws)) (Err e)
    items_refused ws i v done e all within at a k =
        subst (λ (w : Read (List A)). IsReadResult w (Err e)) (one_item i v done within at k ∙ ap (λ (us : List Value). walk [] (items_view us)) all)
        (refuses_both (step done (view v)) (λ x. walk (done ++ x ∷ []) (items_view (drop (i + 1) vs))) e a)

  pub items_read : (ends : (done : List A) → walk done no_items ≡ Ok done) (ws : List Value) (i : ℕ) (done : List A) → vs ≡ ws → length vs ≤ i → IsReadTo i done
      → walk [] (items_view ws) ≡ Ok done
  items_read ends ws i done all past k =
      sym (ap (λ (us : List Value). walk [] (items_view us)) all) ∙ (sym k.same ∙ (ap (λ (us : List Value). walk done (items_view us)) (drop_all i vs past) ∙ ends done))

  pub items_sound : (ws : List Value) (i : ℕ) (done : List A) → vs ≡ ws → length vs ≤ i → IsReadTo i done → IsSoundArray (items_view ws)
  items_sound ws i done all past k =
      subst (λ (us : List Value). IsSoundArray (items_view us)) all (k.sound (subst (λ (us : List Value). IsSoundArray (items_view us)) (sym (drop_all i vs past)) tt))

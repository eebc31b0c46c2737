-- One more item of an array.
use Rattle.std.proofs.Common.{◌≡◌, ℕ, ◌+◌, ◌<◌, List, [], ◌∷◌, ◌++◌, length, get_or, take, ◌≤◌, Vec, Global, refl, sym, ap, ◌∙◌}
use Rattle.std.proofs.lemmas.List.{take_all, take_more}
use Rattle.toml.specs.declared.value.Value.{Value, Array}
use Rattle.toml.specs.Data.{Data, push_item, string, array}
use Rattle.toml.specs.View.{view, items_view}
use Rattle.toml.proofs.Views.{items_view-push, view-Array}
use Rattle.mmtel_sheets.specs.Printing.{each_item}

module _ {A : Type 0} where
  each_last : (f : A → Data) (xs : List A) (x : A) → each_item f (xs ++ x ∷ []) ≡ push_item (each_item f xs) (f x)
  each_last f [] x = refl
  each_last f (y ∷ xs) x = rw (each_last f xs x)

  item_step : (f : A → Data) (xs : List A) (i : ℕ) (x : A) (vs ws : List Value) (v : Value) → i < length xs → get_or xs i x ≡ x
      → ws ≡ vs ++ v ∷ [] → view v ≡ f x → items_view vs ≡ each_item f (take i xs) → items_view ws ≡ each_item f (take (i + 1) xs)
  item_step f xs i x vs ws v h at grown seen inv =
      rw (grown, items_view-push vs v, seen, inv, take_more xs i x h, at, each_last f (take i xs) x)

  pub items_done : (f : A → Data) (xs : List A) (i : ℕ) (v : Vec Value Global) → length xs ≤ i → items_view v.items ≡ each_item f (take i xs) → view (Array v) ≡ array (each_item f xs)
  items_done f xs i v past inv = view-Array v ∙ ap array (inv ∙ ap (λ ys. each_item f ys) (take_all i xs past))

  -- the same item, as the loop names it
  pub item_added : (f : A → Data) (xs : List A) (i : ℕ) (x : A) (vs ws : List Value) (v : Value) → i < length xs → x ≡ get_or xs i x
      → ws ≡ vs ++ v ∷ [] → view v ≡ f x → items_view vs ≡ each_item f (take i xs) → items_view ws ≡ each_item f (take (i + 1) xs)
  item_added f xs i x vs ws v h is grown seen inv = item_step f xs i x vs ws v h (sym is) grown seen inv

-- one more word
pub word_pushed : (word : List ℕ) (vs ws : List Value) (v : Value) → view v ≡ string word → ws ≡ vs ++ v ∷ [] → items_view ws ≡ push_item (items_view vs) (string word)
word_pushed word vs ws v seen grown = rw (grown, items_view-push vs v, seen) refl

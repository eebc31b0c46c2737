-- The results of looking up a key and of counting the items of an array, as facts about the document.
use Rattle.std.proofs.Common.{◌≡◌, List, [], ◌∷◌, length, Option, Some, None, refl, arith}
use Rattle.std.specs.Option.{is_some, option_map}
use Rattle.toml.specs.declared.value.Value.{Value}
use Rattle.toml.specs.View.{items_view}
use Rattle.mmtel_sheet_grammar.specs.Rules.{items_count}

pub count-is : (vs : List Value) → items_count (items_view vs) ≡ length vs
count-is [] = refl
count-is (v ∷ vs) = rw (count-is vs) (omega arith)

pub some-mapped : {A B : Type 0} (f : A → B) (o : Option A) → is_some (option_map f o) ≡ is_some o
some-mapped f None = refl
some-mapped f (Some x) = refl

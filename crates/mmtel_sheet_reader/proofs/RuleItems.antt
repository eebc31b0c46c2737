-- The rules of an array, each read of one item that is a table.
use Rattle.std.proofs.Common.{◌≡◌, ℕ, ◌+◌, ◌<◌, ◌≤◌, true, false, List, [], ◌∷◌, ◌++◌, length, get_or, drop, Ok, Err, refl, sym, ap, ◌∙◌}
use Rattle.std.proofs.lemmas.List.{drop_all}
use Rattle.std.specs.Option.{is_some}
use Rattle.toml.specs.Data.{Data, Items, item, as_table}
use Rattle.toml.specs.View.{view, items_view}
use Rattle.toml.specs.declared.value.Value.{Value}
use Rattle.mmtel_sheet_values.specs.declared.values.Rule.{Rule}
use Rattle.mmtel_sheet_grammar.specs.ReadResults.{Read, then_read, or_wrong}
use Rattle.mmtel_sheet_grammar.specs.Keys.{rule_path}
use Rattle.mmtel_sheet_grammar.specs.Rules.{are_tables, rule_of, rules_from}
use Rattle.mmtel_sheet_grammar.specs.declared.keys.Schema.{Schema}
use Rattle.mmtel_sheet_reader.proofs.Items.{first_left}

module _ {A B C : Type 0} where
  then_then : (r : Read A) (f : A → Read B) (g : B → Read C) → then_read r (λ a. then_read (f a) g) ≡ then_read (then_read r f) g
  then_then (Ok a) f g = refl
  then_then (Err e) f g = refl

-- the rule of one more item, after those before it
abbrev pub next_rule : Schema → List ℕ → List Rule → Data → Read Rule
next_rule s path done d = then_read (or_wrong path (as_table d)) (λ ms. rule_of s (rule_path path (length done)) ms)

pub rules_go : (s : Schema) (path : List ℕ) (done : List Rule) (d : Data) (ds : Items)
    → rules_from s path done (item d ds) ≡ then_read (next_rule s path done d) (λ r. rules_from s path (done ++ r ∷ []) ds)
rules_go s path done d ds = then_then (or_wrong path (as_table d)) (λ ms. rule_of s (rule_path path (length done)) ms) (λ r. rules_from s path (done ++ r ∷ []) ds)

-- those before the index are tables: all are where the others are
module _ (vs ws : List Value) (all : vs ≡ ws) (i : ℕ) (same : are_tables (items_view (drop i vs)) ≡ are_tables (items_view vs)) where
  pub table_passed : (v : Value) → i < length vs → v ≡ get_or vs i v → is_some (as_table (view v)) ≡ true → are_tables (items_view (drop (i + 1) vs)) ≡ are_tables (items_view vs)
  table_passed v within at is =
      let here : are_tables (items_view (drop i vs)) ≡ are_tables (items_view (drop (i + 1) vs)) = ap are_tables (first_left vs i v within at) ∙ rw is refl in
      sym here ∙ same

  pub no_table : (v : Value) → i < length vs → v ≡ get_or vs i v → is_some (as_table (view v)) ≡ false → false ≡ are_tables (items_view ws)
  no_table v within at is =
      let here : are_tables (items_view (drop i vs)) ≡ false = ap are_tables (first_left vs i v within at) ∙ rw is refl in
      sym here ∙ (same ∙ ap (λ (us : List Value). are_tables (items_view us)) all)

  pub all_tables : length vs ≤ i → true ≡ are_tables (items_view ws)
  all_tables past = ap (λ (us : List Value). are_tables (items_view us)) (sym (drop_all i vs past)) ∙ (same ∙ ap (λ (us : List Value). are_tables (items_view us)) all)

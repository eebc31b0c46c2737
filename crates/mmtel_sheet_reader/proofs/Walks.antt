-- The members of a table, read one after another: the walk's next step and its refusal.
use Rattle.std.proofs.Common.{◌≡◌, ℕ, List, ◌∷◌, Ok, Err, sym, ap, subst, string_bytes, ◌∙◌}
use Rattle.toml.specs.Data.{Data, Members, member}
use Rattle.toml.specs.View.{view, members_view}
use Rattle.toml.proofs.Views.{Entry}
use Rattle.mmtel_sheet_grammar.specs.ReadResults.{Read, then_read, IsReadResult}
use Rattle.mmtel_sheet_grammar.specs.declared.faults.SheetFault.{SheetFault}
use Rattle.mmtel_sheet_reader.proofs.Items.{refuses_both}

-- a walk that reads each member by a step, from the initial value
module _ {A : Type 0} (walk : A → Members → Read A) (step : A → List ℕ → Data → Read A)
    (goes : (a : A) (k : List ℕ) (d : Data) (ms : Members) → walk a (member k d ms) ≡ then_read (step a k d) (λ b. walk b ms)) (begin : A) (all : List Entry) where
  one_member : (from rest : List Entry) (e : Entry) (a : A) → from ≡ e ∷ rest → walk a (members_view from) ≡ walk begin (members_view all)
      → then_read (step a (string_bytes e.0) (view e.1)) (λ b. walk b (members_view rest)) ≡ walk begin (members_view all)
  one_member from rest e a first same =
      sym (ap (λ (es : List Entry). walk a (members_view es)) first ∙ goes a (string_bytes e.0) (view e.1) (members_view rest)) ∙ same

  pub member_read : (from rest : List Entry) (e : Entry) (a b : A) → from ≡ e ∷ rest → step a (string_bytes e.0) (view e.1) ≡ Ok b
      → walk a (members_view from) ≡ walk begin (members_view all) → walk b (members_view rest) ≡ walk begin (members_view all)
  member_read from rest e a b first was same =
      sym (ap (λ (r : Read A). then_read r (λ b. walk b (members_view rest))) was) ∙ one_member from rest e a first same

  pub member_refused : (from rest : List Entry) (e : Entry) (a : A) (x : SheetFault) → from ≡ e ∷ rest → IsReadResult (step a (string_bytes e.0) (view e.1)) (Err x)
      → walk a (members_view from) ≡ walk begin (members_view all) → IsReadResult (walk begin (members_view all)) (Err x)
  member_refused from rest e a x first was same =
      subst (λ (w : Read A). IsReadResult w (Err x)) (one_member from rest e a first same)
      (refuses_both (step a (string_bytes e.0) (view e.1)) (λ b. walk b (members_view rest)) x was)

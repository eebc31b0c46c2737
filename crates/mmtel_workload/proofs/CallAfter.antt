-- Texts after texts, and what follows of a call that answers Ok.
use Rattle.std.proofs.Common.{◌≡◌, List, ◌++◌, ◌∙◌, append_assoc, Ok, Err}
use Rattle.std.specs.Prelude.{OnOk}
use Rattle.std.specs.declared.result.Result.{Result}

pub on_ok_by : {X E : Type 0} {A B : Type 0} (r : Result X E) → OnOk r A → (A → B) → OnOk r B
on_ok_by (Ok x) h f = f h
on_ok_by (Err e) h f = tt

-- two that were added, and then three more
pub behind_two : {A : Type 0} (first a b c d e next later last : List A) → next ≡ first ++ a ++ b → later ≡ next ++ c ++ d → last ≡ later ++ e
    → last ≡ first ++ (a ++ b ++ c ++ d ++ e)
behind_two first a b c d e next later last one two three = three ∙ simp (two, one, append_assoc)

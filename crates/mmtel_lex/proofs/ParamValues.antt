-- The first parameter of a name.
use Rattle.std.proofs.Common.{◌≡◌, true, false, ℕ, ◌+◌, ◌<◌, List, ◌∷◌, length, drop, get_or, Option, refl, sym, drop-cons, add-one}
use Rattle.std.specs.Str.{str_eq_ignore_ascii_case}
use Rattle.mmtel_lex.specs.Params.{param_value}
use Rattle.mmtel_lex.specs.declared.values.Param.{Param}

pub param_over : (name : List ℕ) (ps : List Param) (i : ℕ) (x : Param) (whole : Option (List ℕ)) → i < length ps → x ≡ get_or ps i x → str_eq_ignore_ascii_case x.name name ≡ false →
    whole ≡ param_value name (drop i ps) → whole ≡ param_value name (drop (i + 1) ps)
param_over name ps i x whole lt at_i e so_far =
    let one : drop i ps ≡ x ∷ drop (i + 1) ps = rw (add-one, drop-cons ps i x lt, sym at_i) refl in
    rw (one, e) at so_far

pub param_here : (name : List ℕ) (ps : List Param) (i : ℕ) (x : Param) (whole : Option (List ℕ)) → i < length ps → x ≡ get_or ps i x → str_eq_ignore_ascii_case x.name name ≡ true →
    whole ≡ param_value name (drop i ps) → whole ≡ x.value
param_here name ps i x whole lt at_i e so_far =
    let one : drop i ps ≡ x ∷ drop (i + 1) ps = rw (add-one, drop-cons ps i x lt, sym at_i) refl in
    rw (one, e) at so_far

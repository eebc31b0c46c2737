-- The first URI of a scheme among values, found one value and one line after another.
use Rattle.std.proofs.Common.{◌≡◌, ℕ, List, [], ◌∷◌, ◌++◌, refl, sym, ap, ◌∙◌, Bool, true, false, Option, Some, None, codes}
use Rattle.std.specs.Prelude.{find}
use Rattle.std.specs.List.{filter_map, flat_map}
use Rattle.std.specs.Option.{option_or}
use Rattle.std.proofs.lemmas.List.Elements.{filter_map-append}
use Rattle.std.proofs.lemmas.List.Folds.{find-append}
use Rattle.mmtel_lex.specs.declared.values.Uri.{Uri}
use Rattle.mmtel_message.specs.Message.{Line, line_texts}
use Rattle.mmtel_message.specs.Values.{values_of}
use Rattle.mmtel_message.specs.declared.values.Mode.TheVariants.{Plain}
use Rattle.mmtel_trust.specs.Asserted.{asserted_values, first_uri, is_of_scheme, uri_in}
use Rattle.mmtel_trust.specs.Schemes.{of_scheme}
use Rattle.mmtel_trust.specs.declared.identities.Scheme.{Scheme}
use Rattle.mmtel_trust.proofs.LineWalks.{values_are}

-- of two lists one after the other
parted : (s : Scheme) (vs ws : List (List ℕ)) → first_uri s (vs ++ ws) ≡ option_or (first_uri s vs) (first_uri s ws)
parted s vs ws = ap (λ us. find (is_of_scheme s) us) (filter_map-append uri_in vs ws) ∙ find-append (is_of_scheme s) (filter_map uri_in vs) (filter_map uri_in ws)

found_if : (b : Bool) (s : Scheme) (u : Uri) → is_of_scheme s u ≡ b → find (is_of_scheme s) (u ∷ []) ≡ of_scheme s (Some u)
found_if true s u e = rw e refl
found_if false s u e = rw e refl

of_one : (s : Scheme) (v : List ℕ) (o : Option Uri) → uri_in v ≡ o → first_uri s (v ∷ []) ≡ of_scheme s o
of_one s v None e = rw e refl
of_one s v (Some u) e = rw e (found_if (is_of_scheme s u) s u refl)

-- ---- values of a line

pub value_first : (s : Scheme) (v : List ℕ) (vs : List (List ℕ)) (u : Uri) → Some u ≡ of_scheme s (uri_in v) → Some u ≡ first_uri s (v ∷ vs)
value_first s v vs u is = sym (parted s (v ∷ []) vs ∙ ap (λ o. option_or o (first_uri s vs)) (of_one s v (uri_in v) refl ∙ sym is))

pub value_passed : (s : Scheme) (v : List ℕ) (vs : List (List ℕ)) → None ≡ of_scheme s (uri_in v) → first_uri s (v ∷ vs) ≡ first_uri s vs
value_passed s v vs none = parted s (v ∷ []) vs ∙ ap (λ o. option_or o (first_uri s vs)) (of_one s v (uri_in v) refl ∙ sym none)

-- ---- values of lines

-- the values of these lines
abbrev pub all_values : List (List ℕ) → List (List ℕ)
all_values lines = flat_map (λ v. values_of v) lines

pub line_first : (s : Scheme) (l : List ℕ) (ls : List (List ℕ)) (u : Uri) → Some u ≡ first_uri s (values_of l) → Some u ≡ first_uri s (all_values (l ∷ ls))
line_first s l ls u is = sym (parted s (values_of l) (all_values ls) ∙ ap (λ o. option_or o (first_uri s (all_values ls))) (sym is))

pub line_passed : (s : Scheme) (l : List ℕ) (ls : List (List ℕ)) → None ≡ first_uri s (values_of l) → first_uri s (all_values (l ∷ ls)) ≡ first_uri s (all_values ls)
line_passed s l ls none = parted s (values_of l) (all_values ls) ∙ ap (λ o. option_or o (first_uri s (all_values ls))) (sym none)

pub lines_first : (s : Scheme) (ls : List Line) → first_uri s (all_values (line_texts (codes "P-Asserted-Identity") ls)) ≡ first_uri s (asserted_values ls)
lines_first s ls = ap (λ (vs : List (List ℕ)). first_uri s vs) (values_are Plain (codes "P-Asserted-Identity") ls)

-- The only value of a text.
use Rattle.std.proofs.Common.{◌≡◌, ◌==◌, Bool, false, ◌&&◌, ℕ, ◌<◌, List, [], ◌∷◌, length, refl, arith, inl, inr}
use Rattle.std.proofs.lemmas.List.{length-map}
use Rattle.std.proofs.lemmas.Bool.{cases_Bool}
use Rattle.std.proofs.lemmas.Bool.Decides.{nat_tests}
use Rattle.std.specs.List.{list_all}
use Rattle.mmtel_message.specs.Headers.{trim}
use Rattle.mmtel_message.specs.Values.{is_separator, mode_after, put_byte, parts, values_of}
use Rattle.mmtel_message.specs.declared.values.Mode.{Mode}
use Rattle.mmtel_message.specs.declared.values.Mode.TheVariants.{Plain}

put_some : (b : ℕ) (ls : List (List ℕ)) → 0 < length (put_byte b ls)
put_some b [] = omega arith
put_some b (l ∷ ls) = omega arith

-- there is a part
part_some : (m : Mode) (s : List ℕ) → 0 < length (parts m s)
unfolding parts
part_some m [] = omega arith
part_some m (b ∷ s) =
    elim (cases_Bool (is_separator m b)) [
      | inl y ↦ rw y (omega arith)
      | inr n ↦ rw n (put_some b (parts (mode_after m b) s))
    ]

-- after a part that is followed by more there is another one
pub more_parts : (p : List ℕ → Bool) (s part t : List ℕ) → parts Plain s ≡ part ∷ parts Plain t → (length (values_of s) == 1 && list_all p (values_of s)) ≡ false
more_parts p s part t e =
    let some : 0 < length (parts Plain t) = part_some Plain t in
    let many : (length (values_of s) == 1) ≡ false = rw (e, length-map (parts Plain t) trim) (grind (arith, nat_tests, some)) in
    rw many refl

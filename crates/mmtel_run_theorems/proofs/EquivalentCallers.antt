-- Callers for whom the tests of two openings have the same results are decided equally by each record of the run.
use Rattle.std.proofs.Common.{append_assoc, ◌≡◌, Bool, List, [], ◌∷◌, ◌++◌, map, ap, sym, ◌∙◌, subst, inl, inr}
use Rattle.mmtel_barring.specs.Barring.{rules_of}
use Rattle.mmtel_call_theorems.specs.Noninterference.Premises.{AreDecidedEqually}
use Rattle.mmtel_precedence.specs.Theorems.{MatchRulesEqually, diversion_rules}
use Rattle.mmtel_rules.specs.IdentityParts.{MatchEqually, identity_parts}
use Rattle.mmtel_rules.specs.Identities.{has_identity, identity_holds}
use Rattle.mmtel_rules.specs.declared.values.Identities2.{Identities2}
use Rattle.mmtel_sheet_values.specs.declared.values.Sheet.{Sheet}
use Rattle.mmtel_sheet_values.specs.declared.values.Who.{Who}
use Rattle.mmtel_trust.specs.Members.{IsIn}
use Rattle.mmtel_run_theorems.specs.Mask.{identities_tested_by, parts_of}

abbrev first_or : Bool → List Bool → Bool
first_or b [] = b
first_or b (x ∷ xs) = x

abbrev rest : List Bool → List Bool
rest [] = []
rest (x ∷ xs) = xs

module _ (f g : Who → Bool) where
  front : (xs ys : List Who) → map f (xs ++ ys) ≡ map g (xs ++ ys) → MatchEqually f g xs
  front [] ys e = tt
  front (x ∷ xs) ys e = (ap (first_or (f x)) e, front xs ys (ap rest e))

  back : (xs ys : List Who) → map f (xs ++ ys) ≡ map g (xs ++ ys) → map f ys ≡ map g ys
  back [] ys e = e
  back (x ∷ xs) ys e = back xs ys (ap rest e)

  -- for the first record
  one : (s : Sheet) (ys : List Who) → map f (parts_of s ++ ys) ≡ map g (parts_of s ++ ys) → MatchRulesEqually s f g
  one s ys e = record { diversion = front first (second ++ ys) whole; incoming = front second ys (back first (second ++ ys) whole) }
    where
      first : List Who
      first = identity_parts (diversion_rules s.diversion)

      second : List Who
      second = identity_parts (rules_of s.incoming)

      whole : map f (first ++ (second ++ ys)) ≡ map g (first ++ (second ++ ys))
      whole = sym (ap (map f) (append_assoc first second ys)) ∙ (e ∙ ap (map g) (append_assoc first second ys))

  each : (records : List Sheet) → map f (identities_tested_by records) ≡ map g (identities_tested_by records) → (s : Sheet) → IsIn s records → MatchRulesEqually s f g
  each [] e s is = absurd is
  each (r ∷ rs) e s (inl same) = subst (λ (x : Sheet). MatchRulesEqually x f g) same (one r (identities_tested_by rs) e)
  each (r ∷ rs) e s (inr is) = each rs (back (parts_of r) (identities_tested_by rs) e) s is

pub decide-equivalent : (records : List Sheet) (i j : Identities2) → has_identity i ≡ has_identity j →
    map (identity_holds i) (identities_tested_by records) ≡ map (identity_holds j) (identities_tested_by records) → AreDecidedEqually records i j
decide-equivalent records i j somebody answers = record { somebody = somebody; matches = each (identity_holds i) (identity_holds j) records answers }

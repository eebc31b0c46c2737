-- The resources of the routes.
use Rattle.std.proofs.Common.{◌≡◌, ◌⊎◌, ℕ, ◌==◌, ◌&&◌, List, [], ◌∷◌, Option, Some, None, Bool, true, false, cond, refl, codes, inl, inr, IsUtf8, length, nat_lt, not, ◌∙◌}
use Rattle.std.proofs.lemmas.Bool.{cases_Bool, eqb-true}
use Rattle.std.specs.Prelude.{if◌then◌else◌}
use Rattle.std.specs.List.{list_all}
use Rattle.std.specs.Str.{bytes_eq, is_utf8}
use Rattle.std.proofs.lemmas.Str.{IsUtf8-from_is_utf8, is_utf8-from_IsUtf8}
use Rattle.mmtel_base.specs.Classes.{in_class}
use Rattle.mmtel_base.specs.declared.classes.Class.TheVariants.{Digit}
use Rattle.mmtel_base.specs.Scanning.{after_text}
use Rattle.mmtel_types.specs.declared.numbers.Account.{Account}
use Rattle.mmtel_base.specs.Numbers.{has_leading_zero}
use Rattle.mmtel_http.specs.Resources.{account_of, has_slash, is_decimal, mailbox_resource, numbered_route, path_resource, resource_of, route_of, segment_route, sheet_or_mailbox, sheet_resource}
use Rattle.mmtel_http.specs.declared.resources.Resource.{Resource}
use Rattle.mmtel_http.specs.declared.resources.Resource.TheVariants as place
use Rattle.mmtel_http.specs.declared.routes.Route.{Route}
use Rattle.mmtel_http.specs.declared.routes.Route.TheVariants as route

-- a slash is no digit
slash_apart : (s : List ℕ) → has_slash s ≡ true → list_all (in_class Digit) s ≡ false
unfolding in_class
slash_apart [] e = absurd cc
slash_apart (b ∷ s) e = by (cases_Bool (b == 47)) (slash_apart s)
  where
    and_false : (c d : Bool) → d ≡ false → (c && d) ≡ false
    and_false true d e = e
    and_false false d e = refl

    by : ((b == 47) ≡ true) ⊎ ((b == 47) ≡ false) → (has_slash s ≡ true → list_all (in_class Digit) s ≡ false) → list_all (in_class Digit) (b ∷ s) ≡ false
    by (inl y) more = let v : b ≡ 47 = eqb-true b 47 y in rw v refl
    by (inr n) more = and_false (in_class Digit b) (list_all (in_class Digit) s) (more (rw n at e))

no_number : (plain some digits : Bool) (kind : Option Account → Resource) (n : Option Account) → digits ≡ false
    → place.Unknown ≡ cond (plain && (some && digits)) (kind n) place.Unknown
no_number plain some true kind n e = absurd cc
no_number true true false kind n e = refl
no_number true false false kind n e = refl
no_number false some false kind n e = refl

abbrev numbered_as : (Option Account → Resource) → Option (List ℕ) → Resource
numbered_as kind None = place.Unknown
numbered_as kind (Some digits) = if is_decimal digits then kind (account_of digits) else place.Unknown

no_segment : (which : Route) (kind : Option Account → Resource) (o : Option (List ℕ)) → segment_route which o ≡ None → place.Unknown ≡ numbered_as kind o
no_segment which kind None e = refl
no_segment which kind (Some []) e = refl
no_segment which kind (Some (b ∷ s)) e = by (cases_Bool (has_slash (b ∷ s)))
  where
    by : (has_slash (b ∷ s) ≡ true) ⊎ (has_slash (b ∷ s) ≡ false) → place.Unknown ≡ numbered_as kind (Some (b ∷ s))
    by (inl y) = no_number (not (has_leading_zero (b ∷ s))) (nat_lt 0 (length (b ∷ s))) (list_all (in_class Digit) (b ∷ s)) kind _ (slash_apart (b ∷ s) y)
    by (inr n) = let f = rw n at e in absurd cc

sheet_as : (o : Option (List ℕ)) → numbered_as place.Sheet o ≡ sheet_resource o
sheet_as None = refl
sheet_as (Some digits) = refl

mailbox_as : (o : Option (List ℕ)) → numbered_as place.Mailbox o ≡ mailbox_resource o
mailbox_as None = refl
mailbox_as (Some digits) = refl

-- a segment has its own route alone
other_segment : (which other : Route) (o : Option (List ℕ)) → (Some which ≡ Some other → ⊥) → segment_route which o ≡ Some other → ⊥
other_segment which other None apart e = absurd cc
other_segment which other (Some []) apart e = absurd cc
other_segment which other (Some (b ∷ s)) apart e = by (has_slash (b ∷ s)) e
  where
    by : (c : Bool) → cond c None (Some which) ≡ Some other → ⊥
    by true f = absurd cc
    by false f = apart f

no_numbered : (o p : Option (List ℕ)) → numbered_route o p ≡ None → place.Unknown ≡ sheet_or_mailbox o p
no_numbered None p e = no_segment route.Mailbox place.Mailbox p e ∙ mailbox_as p
no_numbered (Some digits) p e = no_segment route.Sheet place.Sheet (Some digits) e ∙ sheet_as (Some digits)

no_charges : (o p : Option (List ℕ)) → numbered_route o p ≡ Some route.Charges → ⊥
no_charges None p e = other_segment route.Mailbox route.Charges p (λ f. absurd cc) e
no_charges (Some digits) p e = other_segment route.Sheet route.Charges (Some digits) (λ f. absurd cc) e

sheet_first : (o p : Option (List ℕ)) → numbered_route o p ≡ Some route.Sheet → sheet_resource o ≡ sheet_or_mailbox o p
sheet_first None p e = absurd (other_segment route.Mailbox route.Sheet p (λ f. absurd cc) e)
sheet_first (Some digits) p e = refl

mailbox_last : (o p : Option (List ℕ)) → numbered_route o p ≡ Some route.Mailbox → mailbox_resource p ≡ sheet_or_mailbox o p
mailbox_last None p e = refl
mailbox_last (Some digits) p e = absurd (other_segment route.Sheet route.Mailbox (Some digits) (λ f. absurd cc) e)

pub nothing_there : (path : List ℕ) → route_of path ≡ None → place.Unknown ≡ path_resource path
nothing_there path e = by (bytes_eq path (codes "/charges")) (after_text (codes "/simservs/") path) (after_text (codes "/mailbox/") path) e
  where
    by : (c : Bool) (o p : Option (List ℕ)) → cond c (Some route.Charges) (numbered_route o p) ≡ None → place.Unknown ≡ cond c place.Charges (sheet_or_mailbox o p)
    by true o p f = absurd cc
    by false o p f = no_numbered o p f

pub charges_there : (path : List ℕ) → route_of path ≡ Some route.Charges → place.Charges ≡ path_resource path
charges_there path e = by (bytes_eq path (codes "/charges")) (after_text (codes "/simservs/") path) (after_text (codes "/mailbox/") path) e
  where
    by : (c : Bool) (o p : Option (List ℕ)) → cond c (Some route.Charges) (numbered_route o p) ≡ Some route.Charges → place.Charges ≡ cond c place.Charges (sheet_or_mailbox o p)
    by true o p f = refl
    by false o p f = absurd (no_charges o p f)

pub sheet_there : (path : List ℕ) → route_of path ≡ Some route.Sheet → sheet_resource (after_text (codes "/simservs/") path) ≡ path_resource path
sheet_there path e = by (bytes_eq path (codes "/charges")) (after_text (codes "/simservs/") path) (after_text (codes "/mailbox/") path) e
  where
    by : (c : Bool) (o p : Option (List ℕ)) → cond c (Some route.Charges) (numbered_route o p) ≡ Some route.Sheet → sheet_resource o ≡ cond c place.Charges (sheet_or_mailbox o p)
    by true o p f = absurd cc
    by false o p f = sheet_first o p f

pub mailbox_there : (path : List ℕ) → route_of path ≡ Some route.Mailbox → mailbox_resource (after_text (codes "/mailbox/") path) ≡ path_resource path
mailbox_there path e = by (bytes_eq path (codes "/charges")) (after_text (codes "/simservs/") path) (after_text (codes "/mailbox/") path) e
  where
    by : (c : Bool) (o p : Option (List ℕ)) → cond c (Some route.Charges) (numbered_route o p) ≡ Some route.Mailbox → mailbox_resource p ≡ cond c place.Charges (sheet_or_mailbox o p)
    by true o p f = absurd cc
    by false o p f = mailbox_last o p f

pub of_text : (t : List ℕ) → IsUtf8 t → path_resource t ≡ resource_of t
of_text t e = rw (is_utf8-from_IsUtf8 t e) refl

pub of_no_text : (t : List ℕ) → (IsUtf8 t → ⊥) → place.Unknown ≡ resource_of t
of_no_text t none = by (cases_Bool (is_utf8 t))
  where
    by : (is_utf8 t ≡ true) ⊎ (is_utf8 t ≡ false) → place.Unknown ≡ resource_of t
    by (inl y) = absurd (none (IsUtf8-from_is_utf8 t y))
    by (inr n) = rw n refl

-- Accounts that have a number, and the target that is made of it.
use Rattle.std.proofs.Common.{◌≡◌, ℕ, Bool, true, false, ◌&&◌, ◌||◌, not, List, [], ◌∷◌, Option, Some, None, refl, sym, ap, subst, inl, inr}
use Rattle.std.specs.Prelude.{codes, find}
use Rattle.std.specs.List.{list_all}
use Rattle.std.specs.Option.{option_map}
use Rattle.std.specs.Str.{bytes_eq, str_eq_ignore_ascii_case}
use Rattle.std.proofs.lemmas.Bool.{cases_Bool}
use Rattle.std.proofs.lemmas.Slice.Eq.{bytes_eq-Decides}
use Rattle.mmtel_base.specs.Classes.{in_class}
use Rattle.mmtel_base.specs.declared.classes.Class.TheVariants.{Digit}
use Rattle.mmtel_lex.specs.Identity.{without_separators, has_user_phone}
use Rattle.mmtel_lex.specs.SameIdentity.{is_same_user, is_plus_digits, is_phone, is_same_identity}
use Rattle.mmtel_lex.specs.declared.values.Param.{Param}
use Rattle.mmtel_lex.specs.declared.values.Uri.{Uri}
use Rattle.mmtel_lex.specs.declared.values.Uri.TheVariants.{Sip, Tel}
use Rattle.mmtel_trust.specs.Accounts.{is_of, account_of}
use Rattle.mmtel_trust.specs.declared.accounts.AccountIdentity.{AccountIdentity}
use Rattle.mmtel_served_user.specs.Targets.{new_target}
use Rattle.mmtel_call_parties.specs.Theorems.{names_number_and_sip_uri}

both-true : (a b : Bool) → (a && b) ≡ true → (a ≡ true) × (b ≡ true)
both-true true true e = (refl, refl)
both-true true false e = absurd cc
both-true false b e = absurd cc

last-false : (a b : Bool) → (a && (b && false)) ≡ false
last-false true true = refl
last-false true false = refl
last-false false b = refl

differ-mutual : (s t : List ℕ) → bytes_eq s t ≡ false → bytes_eq t s ≡ false
differ-mutual s t n = elim (cases_Bool (bytes_eq t s)) [
  | inl y ↦ let e : bytes_eq s t ≡ true = (bytes_eq-Decides s t).1 (sym ((bytes_eq-Decides t s).0 y)) in absurd cc
  | inr m ↦ m
]

-- a sip URI whose user is the number
own-alike : (home host digits : List ℕ) (params : List Param) → list_all (in_class Digit) digits ≡ true → (str_eq_ignore_ascii_case host home && has_user_phone params) ≡ true →
    (bytes_eq (43 ∷ digits) (43 ∷ digits) && str_eq_ignore_ascii_case host home) ≡ is_phone (Some (43 ∷ digits)) params (43 ∷ digits)
own-alike home host digits params each alike =
    let parts = both-true (str_eq_ignore_ascii_case host home) (has_user_phone params) alike in
    let self : bytes_eq (43 ∷ digits) (43 ∷ digits) ≡ true = (bytes_eq-Decides (43 ∷ digits) (43 ∷ digits)).1 refl in
    rw (self, parts.0, parts.1, each) refl

-- one of this user and host
sip-alike : (home digits : List ℕ) (user : Option (List ℕ)) (host : List ℕ) (params : List Param) → list_all (in_class Digit) digits ≡ true →
    (not (is_same_user user (Some (43 ∷ digits))) || (str_eq_ignore_ascii_case host home && has_user_phone params)) ≡ true →
    (is_same_user user (Some (43 ∷ digits)) && str_eq_ignore_ascii_case host home) ≡ is_phone user params (43 ∷ digits)
sip-alike home digits None host params each alike = refl
sip-alike home digits (Some v) host params each alike = elim (cases_Bool (bytes_eq v (43 ∷ digits))) [
  | inl y ↦
      let named : (str_eq_ignore_ascii_case host home && has_user_phone params) ≡ true = rw y at alike in
      subst (λ (w : List ℕ). (bytes_eq w (43 ∷ digits) && str_eq_ignore_ascii_case host home) ≡ is_phone (Some w) params (43 ∷ digits))
      (sym ((bytes_eq-Decides v (43 ∷ digits)).0 y)) (own-alike home host digits params each named)
  | inr n ↦ rw (n, differ-mutual v (43 ∷ digits) n) (sym (last-false (is_plus_digits v) (has_user_phone params)))
]

-- another number
tel-alike : (digits other : List ℕ) → list_all (in_class Digit) digits ≡ true →
    is_phone (Some (43 ∷ digits)) (record { name = codes "user"; value = Some (codes "phone") } ∷ []) other ≡ bytes_eq other (43 ∷ digits)
tel-alike digits other each = rw each refl

pub identity-equal : (home digits : List ℕ) (params : List Param) (uri : Uri) → list_all (in_class Digit) (without_separators digits) ≡ true →
    names_number_and_sip_uri home (without_separators (43 ∷ digits)) uri ≡ true → is_same_identity uri (new_target home (Tel (43 ∷ digits) params)) ≡ is_same_identity uri (Tel (43 ∷ digits) params)
unfolding is_same_identity
identity-equal home digits params (Sip user host port ps headers) each alike = sip-alike home (without_separators digits) user host ps each alike
identity-equal home digits params (Tel other ps) each alike = tel-alike (without_separators digits) (without_separators other) each

found-alike : (es : List AccountIdentity) (home digits : List ℕ) (params : List Param) → list_all (in_class Digit) (without_separators digits) ≡ true →
    list_all (λ e. names_number_and_sip_uri home (without_separators (43 ∷ digits)) e.uri) es ≡ true →
    find (is_of (new_target home (Tel (43 ∷ digits) params))) es ≡ find (is_of (Tel (43 ∷ digits) params)) es
found-alike [] home digits params each all = refl
found-alike (e ∷ es) home digits params each all =
    let parts = both-true (names_number_and_sip_uri home (without_separators (43 ∷ digits)) e.uri) (list_all (λ (x : AccountIdentity). names_number_and_sip_uri home (without_separators (43 ∷ digits)) x.uri) es) all in
    let same : is_of (new_target home (Tel (43 ∷ digits) params)) e ≡ is_of (Tel (43 ∷ digits) params) e = identity-equal home digits params e.uri each parts.0 in
    rw same (elim (cases_Bool (is_of (Tel (43 ∷ digits) params) e)) [
      | inl y ↦ rw y refl
      | inr n ↦ rw n (found-alike es home digits params each parts.1)
    ])

pub account-equal : (es : List AccountIdentity) (home digits : List ℕ) (params : List Param) → list_all (in_class Digit) (without_separators digits) ≡ true →
    list_all (λ e. names_number_and_sip_uri home (without_separators (43 ∷ digits)) e.uri) es ≡ true →
    account_of es (new_target home (Tel (43 ∷ digits) params)) ≡ account_of es (Tel (43 ∷ digits) params)
account-equal es home digits params each all = ap (λ (e : Option AccountIdentity). option_map (λ (x : AccountIdentity). x.account) e) (found-alike es home digits params each all)

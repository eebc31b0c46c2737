-- The test of identity is the relation.
use Rattle.std.proofs.Common.{◌≡◌, ◌==◌, ℕ, Bool, true, false, ◌&&◌, List, [], ◌∷◌, Option, Some, None, refl, sym, ap, ◌∙◌, arith}
use Rattle.std.specs.List.{list_all}
use Rattle.std.specs.Str.{bytes_eq, str_eq_ignore_ascii_case, str_to_ascii_lowercase}
use Rattle.std.proofs.lemmas.Bool.Decides.{nat_tests}
use Rattle.std.proofs.lemmas.Slice.Eq.{bytes_eq-Decides}
use Rattle.mmtel_base.proofs.Runs.{and_true}
use Rattle.mmtel_base.specs.Classes.{in_class}
use Rattle.mmtel_base.specs.declared.classes.Class.TheVariants.{Digit}
use Rattle.mmtel_lex.specs.Identity.{without_separators, has_user_phone, IsPhone, IsSameIdentity}
use Rattle.mmtel_lex.specs.declared.values.Param.{Param}
use Rattle.mmtel_lex.specs.declared.values.Uri.{Uri}
use Rattle.mmtel_lex.specs.declared.values.Uri.TheVariants.{Sip, Tel}
use Rattle.mmtel_lex.specs.SameIdentity.{is_same_user, is_plus_digits, is_phone, is_same_identity}

both : (a b : Bool) → a ≡ true → b ≡ true → (a && b) ≡ true
both a b e f = rw (e, f) refl

text_is : (s t : List ℕ) → bytes_eq s t ≡ true → s ≡ t
text_is s t e = (bytes_eq-Decides s t).0 e

is_text : (s t : List ℕ) → s ≡ t → bytes_eq s t ≡ true
is_text s t e = (bytes_eq-Decides s t).1 e

user_is : (u v : Option (List ℕ)) → is_same_user u v ≡ true → u ≡ v
user_is None None e = refl
user_is None (Some v) e = absurd cc
user_is (Some u) None e = absurd cc
user_is (Some u) (Some v) e = ap (λ w. Some w) (text_is u v e)

user_self : (u : Option (List ℕ)) → is_same_user u u ≡ true
user_self None = refl
user_self (Some u) = is_text u u refl

phone_is : (u : Option (List ℕ)) (ps : List Param) (number : List ℕ) → is_phone u ps number ≡ true → IsPhone u ps number
phone_is None ps number e = absurd cc
phone_is (Some []) ps number e = absurd cc
phone_is (Some (b ∷ s)) ps number e =
    let outer = and_true (is_plus_digits (b ∷ s)) (has_user_phone ps && bytes_eq number (b ∷ s)) e in
    let plus = and_true (b == 43) (list_all (in_class Digit) s) outer.0 in
    let rest = and_true (has_user_phone ps) (bytes_eq number (b ∷ s)) outer.1 in
    let sign : b ≡ 43 = let test : (b == 43) ≡ true = plus.0 in grind (arith, nat_tests) in
    (s, ap (λ x. Some (x ∷ s)) sign, plus.1, rest.0, text_is number (b ∷ s) rest.1 ∙ ap (λ x. x ∷ s) sign)

is_phone_of : (u : Option (List ℕ)) (ps : List Param) (number : List ℕ) → IsPhone u ps number → is_phone u ps number ≡ true
is_phone_of u ps number p =
    rw (p.1) (both (is_plus_digits (43 ∷ p.0)) (has_user_phone ps && bytes_eq number (43 ∷ p.0)) p.2 (both (has_user_phone ps) (bytes_eq number (43 ∷ p.0)) p.3 (is_text number (43 ∷ p.0) p.4)))

pub identity_is : (u v : Uri) → is_same_identity u v ≡ true → IsSameIdentity u v
unfolding is_same_identity
identity_is (Sip u h p ps hs) (Sip v g q qs gs) e =
    let parts = and_true (is_same_user u v) (str_eq_ignore_ascii_case h g) e in
    (user_is u v parts.0, text_is (str_to_ascii_lowercase h) (str_to_ascii_lowercase g) parts.1)
identity_is (Sip u h p ps hs) (Tel number qs) e = phone_is u ps (without_separators number) e
identity_is (Tel number qs) (Sip u h p ps hs) e = phone_is u ps (without_separators number) e
identity_is (Tel m ps) (Tel n qs) e = text_is (without_separators m) (without_separators n) e

pub is_identity : (u v : Uri) → IsSameIdentity u v → is_same_identity u v ≡ true
unfolding is_same_identity
is_identity (Sip u h p ps hs) (Sip v g q qs gs) i =
    both (is_same_user u v) (str_eq_ignore_ascii_case h g) (rw i.0 (user_self v)) (is_text (str_to_ascii_lowercase h) (str_to_ascii_lowercase g) i.1)
is_identity (Sip u h p ps hs) (Tel number qs) i = is_phone_of u ps (without_separators number) i
is_identity (Tel number qs) (Sip u h p ps hs) i = is_phone_of u ps (without_separators number) i
is_identity (Tel m ps) (Tel n qs) i = is_text (without_separators m) (without_separators n) i

pub identity_self : (u : Uri) → is_same_identity u u ≡ true
unfolding is_same_identity
identity_self (Sip u h p ps hs) = both (is_same_user u u) (str_eq_ignore_ascii_case h h) (user_self u) (is_text (str_to_ascii_lowercase h) (str_to_ascii_lowercase h) refl)
identity_self (Tel m ps) = is_text (without_separators m) (without_separators m) refl

-- a test that is true exactly where this one is true equals this one
pub same_test : (b c : Bool) → (b ≡ true → c ≡ true) → (c ≡ true → b ≡ true) → b ≡ c
same_test true c f g = sym (f refl)
same_test false true f g = g refl
same_test false false f g = refl

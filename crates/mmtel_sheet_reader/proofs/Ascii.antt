-- The texts of tokens and hosts are UTF-8.
use Rattle.std.proofs.Common.{◌≡◌, ℕ, zero, suc, ◌<◌, ◌&&◌, ◌||◌, Bool, true, false, List, [], ◌∷◌, IsUtf8, length, arith, refl, nat_le, codes}
use Rattle.std.proofs.lemmas.Bool.Decides.{nat_tests}
use Rattle.std.proofs.lemmas.Bool.{and_parts, false≢true}
use Rattle.std.proofs.lemmas.Str.{IsUtf8-from_ascii}
use Rattle.std.specs.List.{list_all}
use Rattle.std.specs.Str.{bytes_eq, IsAscii}
use Rattle.mmtel_base.specs.Classes.{in_class, IsAll}
use Rattle.mmtel_base.specs.declared.classes.Class.{Class}
use Rattle.mmtel_base.specs.declared.classes.Class.TheVariants.{Token, Host}
use Rattle.mmtel_sheet_grammar.specs.Elements.{is_domain, is_token_text}

-- each byte of the class is one of ASCII
abbrev pub IsOfAscii : Class → Type 0
IsOfAscii k = (b : ℕ) → in_class k b ≡ true → b < 128

pub all_ascii : (k : Class) → IsOfAscii k → (s : List ℕ) → IsAll k s → IsAscii s
all_ascii k of [] each i = omega arith
all_ascii k of (b ∷ s) each zero = of b (and_parts (in_class k b) (list_all (in_class k) s) each).0
all_ascii k of (b ∷ s) each (suc i) = all_ascii k of s (and_parts (in_class k b) (list_all (in_class k) s) each).1 i

pub token_ascii : IsOfAscii Token
unfolding in_class
token_ascii b e = grind (arith, nat_tests)

pub host_ascii : IsOfAscii Host
unfolding in_class
host_ascii b e = grind (arith, nat_tests)

pub token_text : (s : List ℕ) → is_token_text s ≡ true → IsUtf8 s
token_text s e = IsUtf8-from_ascii s (all_ascii Token token_ascii s (and_parts (nat_le 1 (length s)) (list_all (in_class Token) s) e).1)

or_parts : (P : Type 0) (a b : Bool) → (a || b) ≡ true → (a ≡ true → P) → (b ≡ true → P) → P
or_parts P true b e f g = f refl
or_parts P false b e f g = g e

star : (s : List ℕ) → bytes_eq s (codes "*") ≡ true → IsAscii s
star [] e i = omega arith
star (b ∷ []) e zero = grind (arith, nat_tests, e)
star (b ∷ []) e (suc i) = omega arith
star (b ∷ c ∷ s) e i = absurd (false≢true (and_parts _ _ e).1)

pub domain_text : (s : List ℕ) → is_domain s ≡ true → IsUtf8 s
domain_text s e =
    or_parts (IsUtf8 s) (bytes_eq s (codes "*")) (nat_le 1 (length s) && (nat_le (length s) 255 && list_all (in_class Host) s)) e
    (λ one. IsUtf8-from_ascii s (star s one))
    (λ host. let more = and_parts (nat_le 1 (length s)) (nat_le (length s) 255 && list_all (in_class Host) s) host in
    IsUtf8-from_ascii s (all_ascii Host host_ascii s (and_parts (nat_le (length s) 255) (list_all (in_class Host) s) more.1).1))

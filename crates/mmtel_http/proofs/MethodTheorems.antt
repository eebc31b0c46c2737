-- The methods that the server knows are tokens.
use Rattle.std.proofs.Common.{◌≡◌, ◌⊎◌, ℕ, List, [], ◌∷◌, true, false, refl, subst, sym, arith, codes, inl, inr, All}
use Rattle.std.proofs.lemmas.Bool.{cases_Bool, and_parts}
use Rattle.std.proofs.lemmas.List.Elements.{All-nil, All-cons}
use Rattle.std.proofs.lemmas.Slice.Eq.{bytes_eq-Decides}
use Rattle.std.specs.List.{list_all}
use Rattle.std.specs.Str.{bytes_eq}
use Rattle.http_header.specs.Token.{IsToken, is_token_byte, token_test}
use Rattle.mmtel_http.specs.Resources.{method_of}
use Rattle.mmtel_http.specs.declared.resources.Method.TheVariants as method

abbrev Passes : ℕ → Type 0
Passes b = is_token_byte b ≡ true

letter : (b : ℕ) → token_test b ≡ true → Passes b
unfolding is_token_byte
letter b e = e

letters : (s : List ℕ) → list_all token_test s ≡ true → All Passes s
letters [] e = All-nil Passes
letters (b ∷ s) e = let p = and_parts (token_test b) (list_all token_test s) e in All-cons Passes b s (letter b p.0) (letters s p.1)

get : IsToken (codes "GET")
get = (omega arith, letters (codes "GET") refl)

put : IsToken (codes "PUT")
put = (omega arith, letters (codes "PUT") refl)

delete : IsToken (codes "DELETE")
delete = (omega arith, letters (codes "DELETE") refl)

apart : (name word : List ℕ) → IsToken word → (IsToken name → ⊥) → bytes_eq name word ≡ false
apart name word is none = by (cases_Bool (bytes_eq name word))
  where
    by : (bytes_eq name word ≡ true) ⊎ (bytes_eq name word ≡ false) → bytes_eq name word ≡ false
    by (inl y) = absurd (none (subst IsToken (sym ((bytes_eq-Decides name word).0 y)) is))
    by (inr n) = n

-- so what is no token is none of them
pub no_token : (name : List ℕ) → (IsToken name → ⊥) → method.Other ≡ method_of name
no_token name none = rw (apart name (codes "GET") get none, apart name (codes "PUT") put none, apart name (codes "DELETE") delete none) refl

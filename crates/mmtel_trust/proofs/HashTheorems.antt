-- What is equal as a key has the same hash.
use Rattle.std.proofs.Common.{◌≡◌, ℕ, true, List, [], ◌∷◌, ◌++◌, Option, Some, None, refl, sym, ap, ◌∙◌, cond}
use Rattle.std.specs.Str.{str_eq_ignore_ascii_case, str_to_ascii_lowercase}
use Rattle.std.proofs.lemmas.Slice.Eq.{bytes_eq-Decides}
use Rattle.mmtel_lex.specs.Identity.{without_separators, IsPhone, IsSameIdentity}
use Rattle.mmtel_lex.specs.declared.values.Param.{Param}
use Rattle.mmtel_lex.specs.declared.values.Uri.{Uri}
use Rattle.mmtel_lex.specs.declared.values.Uri.TheVariants.{Sip, Tel}
use Rattle.mmtel_lex.specs.SameIdentity.{is_same_identity}
use Rattle.mmtel_lex.proofs.SameIdentityTheorems.{identity_is}
use Rattle.mmtel_types.specs.declared.addrs.Addr.{Addr}
use Rattle.mmtel_types.specs.Addrs.{is_same_addr}
use Rattle.mmtel_trust.specs.Hashes.{addr_hash, begins_plus, hash_with, mixed_hash, name_hash, sip_hash, uri_hash}
use Rattle.mmtel_trust.proofs.PeerTheorems.{addr_is}

-- ---- identities

sip_same : (u v : Option (List ℕ)) (h g : List ℕ) → u ≡ v → str_to_ascii_lowercase h ≡ str_to_ascii_lowercase g → sip_hash u h ≡ sip_hash v g
sip_same u v h g users hosts = ap (λ w. sip_hash w h) users ∙ of_host v
  where
    of_host : (w : Option (List ℕ)) → sip_hash w h ≡ sip_hash w g
    of_host None = ap (hash_with 1) hosts
    of_host (Some w) = ap (λ s. cond (begins_plus w) (hash_with 1 w) (hash_with (mixed_hash (hash_with 1 w) 64) s)) hosts

phone_same : (u : Option (List ℕ)) (ps : List Param) (h number : List ℕ) → IsPhone u ps number → sip_hash u h ≡ hash_with 1 number
phone_same u ps h number p = ap (λ w. sip_hash w h) p.1 ∙ ap (hash_with 1) (sym p.4)

pub identities_share : (u v : Uri) → is_same_identity u v ≡ true → uri_hash u ≡ uri_hash v
identities_share u v e = shared u v (identity_is u v e)
  where
    shared : (u v : Uri) → IsSameIdentity u v → uri_hash u ≡ uri_hash v
    shared (Sip u h p ps hs) (Sip v g q qs gs) i = sip_same u v h g i.0 i.1
    shared (Sip u h p ps hs) (Tel number qs) i = phone_same u ps h (without_separators number) i
    shared (Tel number qs) (Sip u h p ps hs) i = sym (phone_same u ps h (without_separators number) i)
    shared (Tel m ps) (Tel n qs) i = ap (hash_with 1) i

-- ---- addresses and names

pub addrs_share : (a b : Addr) → is_same_addr a b ≡ true → addr_hash a ≡ addr_hash b
addrs_share a b e = ap addr_hash (addr_is a b e)

pub names_share : (m n : List ℕ) → str_eq_ignore_ascii_case m n ≡ true → name_hash m ≡ name_hash n
names_share m n e = ap (hash_with 1) ((bytes_eq-Decides (str_to_ascii_lowercase m) (str_to_ascii_lowercase n)).0 e)

pub hashed_more : (hash : ℕ) (s : List ℕ) (b : ℕ) → hash_with hash (s ++ b ∷ []) ≡ mixed_hash (hash_with hash s) b
hashed_more hash [] b = refl
hashed_more hash (x ∷ s) b = hashed_more (mixed_hash hash x) s b

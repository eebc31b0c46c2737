-- Hashes of keys that are looked up: equal keys have equal hashes, and nothing else is claimed of them. A hash is folded over bytes, so that none allocates.
use Rattle.std.specs.Prelude.{ℕ, ◌+◌, ◌*◌, ◌%◌, ◌^◌, ◌==◌, Bool, false, List, [], ◌∷◌, Option, Some, None, if◌then◌else◌}
use Rattle.std.specs.Str.{str_to_ascii_lowercase}
use Rattle.mmtel_lex.specs.Identity.{without_separators}
use Rattle.mmtel_lex.specs.declared.values.Uri.{Uri}
use Rattle.mmtel_lex.specs.declared.values.Uri.TheVariants.{Sip, Tel}
use Rattle.mmtel_types.specs.declared.addrs.Addr.{Addr}

-- with one more number mixed in
unfoldable pub mixed_hash : ℕ → ℕ → ℕ
mixed_hash hash n = (hash * 1099511628211 % 2 ^ 64 + n) % 2 ^ 64

-- with these bytes mixed in
abbrev pub hash_with : ℕ → List ℕ → ℕ
hash_with hash [] = hash
hash_with hash (b ∷ s) = hash_with (mixed_hash hash b) s

-- of a name that is compared without case
abbrev pub name_hash : List ℕ → ℕ
name_hash name = hash_with 1 (str_to_ascii_lowercase name)

abbrev pub addr_hash : Addr → ℕ
addr_hash a = mixed_hash (hash_with 1 a.ip) a.port

abbrev pub begins_plus : List ℕ → Bool
begins_plus [] = false
begins_plus (b ∷ s) = b == 43

-- of a sip URI: a user that begins with '+' may be a telephone number, which tel URIs have without a host
abbrev pub sip_hash : Option (List ℕ) → List ℕ → ℕ
sip_hash None host = name_hash host
sip_hash (Some user) host = if begins_plus user then hash_with 1 user else hash_with (mixed_hash (hash_with 1 user) 64) (str_to_ascii_lowercase host)

-- of an identity
abbrev pub uri_hash : Uri → ℕ
uri_hash (Sip user host port params headers) = sip_hash user host
uri_hash (Tel number params) = hash_with 1 (without_separators number)

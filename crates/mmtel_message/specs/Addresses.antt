-- How the server names itself in the messages that it sends: its Via and its Contact (RFC 3261 §8.1.1.7, §8.1.1.8).
use Rattle.std.specs.Prelude.{List, ℕ, ◌∷◌, ◌++◌, ◌-◌, ◌≡◌, codes, decimal, get_or, length, replicate}
use Rattle.mmtel_types.specs.declared.addrs.Addr.{Addr}

-- `a.b.c.d`
abbrev pub ip_text : List ℕ → List ℕ
ip_text ip = decimal (get_or ip 0 0) ++ (46 ∷ (decimal (get_or ip 1 0) ++ (46 ∷ (decimal (get_or ip 2 0) ++ (46 ∷ decimal (get_or ip 3 0))))))

-- `a.b.c.d:port`
abbrev pub addr_text : Addr → List ℕ
addr_text addr = ip_text addr.ip ++ 58 ∷ decimal addr.port

-- the front of Via: all but what follows the magic cookie of its branch (§8.1.1.7)
abbrev pub via_front : Addr → List ℕ
via_front sip = codes "SIP/2.0/UDP " ++ (addr_text sip ++ codes ";branch=z9hG4bK")

-- Via, its branch with the magic cookie before it (§8.1.1.7)
abbrev pub via_text : Addr → List ℕ → List ℕ
via_text sip branch = codes "SIP/2.0/UDP " ++ (addr_text sip ++ (codes ";branch=z9hG4bK" ++ branch))

-- Contact (§8.1.1.8)
abbrev pub contact_text : Addr → List ℕ
contact_text sip = codes "<sip:" ++ (addr_text sip ++ codes ">")

-- ---- texts in arrays

-- a text in the front of an array of so many bytes, the others zero
abbrev pub padded : ℕ → List ℕ → List ℕ
padded n text = text ++ replicate (n - length text) 0

-- an array of so many bytes has a text in its front, which ends at this position, and zeros after it
abbrev pub HasFront : ℕ → List ℕ → ℕ → List ℕ → Type 0
HasFront n array at text = (at ≡ length text) × (array ≡ padded n text)

-- Names of header fields, by what is done with these fields where a message is relayed: the header table of the server. Names are compared without case (RFC 3261 §7.3.1).
use Rattle.std.specs.Prelude.{ℕ, Bool, false, List, [], ◌∷◌, ◌++◌, codes, if◌then◌else◌, ◌||◌}
use Rattle.std.specs.Str.{str_eq_ignore_ascii_case}
use Rattle.mmtel_trust.specs.declared.kinds.HeaderKind.{HeaderKind}
use Rattle.mmtel_trust.specs.declared.kinds.HeaderKind.TheVariants.{From, To, Contact, Asserted, Served, Privacy, History, Options, Session, Passed, Personal, Trusted, Other}

-- lines that identify a party (RFC 3323 §4.1.1)
abbrev pub personal_names : List (List ℕ)
personal_names = codes "Subject" ∷ codes "Call-Info" ∷ codes "Organization" ∷ codes "User-Agent" ∷ codes "Server" ∷ codes "Reply-To" ∷ codes "In-Reply-To" ∷ []

-- lines that say how long a session lasts unless it is refreshed (RFC 4028 §4, §5)
abbrev pub session_names : List (List ℕ)
session_names = codes "Session-Expires" ∷ codes "Min-SE" ∷ []

-- lines of the trust domain (RFC 7315 §4.4, RFC 6050 §4.1, RFC 5009 §8)
abbrev pub trusted_names : List (List ℕ)
trusted_names = codes "P-Access-Network-Info" ∷ codes "P-Asserted-Service" ∷ codes "P-Early-Media" ∷ []

-- lines about what is accepted, and about the body (RFC 3261 §20, RFC 3841)
abbrev pub content_names : List (List ℕ)
content_names = codes "Accept" ∷ codes "Accept-Contact" ∷ codes "Accept-Encoding" ∷ codes "Accept-Language" ∷ codes "Alert-Info" ∷ codes "Content-Disposition"
    ∷ codes "Content-Encoding" ∷ codes "Content-Language" ∷ []

-- further lines that every peer may see (RFC 3261 §20, RFC 3326, RFC 3841)
abbrev pub further_names : List (List ℕ)
further_names = codes "Content-Type" ∷ codes "MIME-Version" ∷ codes "Priority" ∷ codes "Reason" ∷ codes "Reject-Contact" ∷ codes "Request-Disposition" ∷ codes "Retry-After"
    ∷ codes "Unsupported" ∷ []

-- a row of the table: a kind, and its names
pub record HeaderGroup : Type 0 where
  pub kind : HeaderKind
  pub names : List (List ℕ)

-- the table: kinds with a single name
abbrev pub single_headers : List HeaderGroup
single_headers =
    record { kind = From; names = codes "From" ∷ [] } ∷
    record { kind = To; names = codes "To" ∷ [] } ∷
    record { kind = Contact; names = codes "Contact" ∷ [] } ∷
    record { kind = Asserted; names = codes "P-Asserted-Identity" ∷ [] } ∷
    record { kind = Served; names = codes "P-Served-User" ∷ [] } ∷
    record { kind = Privacy; names = codes "Privacy" ∷ [] } ∷
    record { kind = History; names = codes "History-Info" ∷ [] } ∷ []

-- the table: kinds with several names
abbrev pub header_groups : List HeaderGroup
header_groups =
    record { kind = Options; names = codes "Supported" ∷ codes "Require" ∷ [] } ∷
    record { kind = Session; names = session_names } ∷
    record { kind = Personal; names = personal_names } ∷
    record { kind = Trusted; names = trusted_names } ∷
    record { kind = Passed; names = content_names } ∷
    record { kind = Passed; names = further_names } ∷ []

-- one of the names
abbrev pub is_among : List (List ℕ) → List ℕ → Bool
is_among [] n = false
is_among (name ∷ names) n = str_eq_ignore_ascii_case n name || is_among names n

-- the kind of the first row with the name; Other where none has it
abbrev pub kind_in : List HeaderGroup → List ℕ → HeaderKind
kind_in [] n = Other
kind_in (row ∷ more) n = if is_among row.names n then row.kind else kind_in more n

unfoldable pub kind_of : List ℕ → HeaderKind
kind_of n = kind_in (single_headers ++ header_groups) n

-- the names of the lines that the server writes itself (RFC 3261 §20)
abbrev pub own_field_names : List (List ℕ)
own_field_names = codes "Via" ∷ codes "Route" ∷ codes "Record-Route" ∷ codes "Max-Forwards" ∷ codes "From" ∷ codes "To" ∷ codes "Call-ID" ∷ codes "CSeq" ∷ codes "Contact"
    ∷ codes "Content-Length" ∷ []

abbrev pub is_own_field : List ℕ → Bool
is_own_field n = is_among own_field_names n

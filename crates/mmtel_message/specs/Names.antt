-- Header names: how this server spells each that it knows, and which have compact forms.
-- RFC 3261 §7.3.3 and §20; RFC 3323 (Privacy), RFC 3325 (P-Asserted-Identity), RFC 3515 (Refer-To), RFC 3841 (Accept-Contact and its like), RFC 3892 (Referred-By), RFC
-- 5502 (P-Served-User), RFC 7044 (History-Info), RFC 6665 (Event, Subscription-State), RFC 3262 (RAck, RSeq), RFC 4028 (Min-SE, Session-Expires), RFC 3326 (Reason), RFC
-- 7315 and RFC 5009 (the P- headers).
use Rattle.std.specs.Prelude.{◌||◌, Option, Some, None, if◌then◌else◌, ℕ, List, [], ◌∷◌, codes}
use Rattle.std.specs.Str.{str_eq_ignore_ascii_case}

-- a compact form and the name that it abbreviates
abbrev pub compact_forms : List (List ℕ × List ℕ)
compact_forms =
    (codes "v", codes "Via") ∷
    (codes "f", codes "From") ∷
    (codes "t", codes "To") ∷
    (codes "i", codes "Call-ID") ∷
    (codes "m", codes "Contact") ∷
    (codes "l", codes "Content-Length") ∷
    (codes "c", codes "Content-Type") ∷ []

abbrev pub more_compact_forms : List (List ℕ × List ℕ)
more_compact_forms =
    (codes "k", codes "Supported") ∷
    (codes "s", codes "Subject") ∷
    (codes "e", codes "Content-Encoding") ∷
    (codes "r", codes "Refer-To") ∷
    (codes "b", codes "Referred-By") ∷
    (codes "o", codes "Event") ∷
    (codes "x", codes "Session-Expires") ∷ []

-- names without a compact form: routing and identification
abbrev pub routing_names : List (List ℕ)
routing_names =
    codes "CSeq" ∷
    codes "Max-Forwards" ∷
    codes "Route" ∷
    codes "Record-Route" ∷
    codes "P-Asserted-Identity" ∷
    codes "P-Served-User" ∷
    codes "History-Info" ∷
    codes "Privacy" ∷
    codes "Require" ∷
    codes "Allow" ∷ []

-- what an agent accepts and how a body is to be interpreted
abbrev pub content_names : List (List ℕ)
content_names =
    codes "Accept" ∷
    codes "Accept-Contact" ∷
    codes "Accept-Encoding" ∷
    codes "Accept-Language" ∷
    codes "Alert-Info" ∷
    codes "Content-Disposition" ∷
    codes "Content-Language" ∷
    codes "MIME-Version" ∷
    codes "Priority" ∷
    codes "Reason" ∷ []

-- what callers and agents say about themselves
abbrev pub caller_names : List (List ℕ)
caller_names =
    codes "Reject-Contact" ∷
    codes "Request-Disposition" ∷
    codes "Retry-After" ∷
    codes "Unsupported" ∷
    codes "Call-Info" ∷
    codes "Organization" ∷
    codes "User-Agent" ∷
    codes "Server" ∷
    codes "Reply-To" ∷
    codes "In-Reply-To" ∷ []

-- what the network adds, subscriptions, reliable provisional responses and session timers
abbrev pub network_names : List (List ℕ)
network_names =
    codes "P-Access-Network-Info" ∷
    codes "P-Asserted-Service" ∷
    codes "P-Early-Media" ∷
    codes "Subscription-State" ∷
    codes "Expires" ∷
    codes "RSeq" ∷
    codes "RAck" ∷
    codes "Min-SE" ∷ []

-- the name that this one is, in its long or compact form and without regard to case
abbrev pub of_forms : List (List ℕ × List ℕ) → List ℕ → Option (List ℕ)
of_forms [] n = None
of_forms (x ∷ forms) n = if str_eq_ignore_ascii_case n x.1 || str_eq_ignore_ascii_case n x.0 then Some x.1 else of_forms forms n

-- the name as the list spells it
abbrev pub of_names : List (List ℕ) → List ℕ → Option (List ℕ)
of_names [] n = None
of_names (name ∷ names) n = if str_eq_ignore_ascii_case n name then Some name else of_names names n

abbrev pub or_else : Option (List ℕ) → List ℕ → List ℕ
or_else (Some long) n = long
or_else None n = n

-- the name as this server spells it; a name that it does not know stays as it is
abbrev pub long_name : List ℕ → List ℕ
long_name n =
    or_else (of_forms compact_forms n)
    (or_else (of_forms more_compact_forms n)
    (or_else (of_names routing_names n) (or_else (of_names content_names n) (or_else (of_names caller_names n) (or_else (of_names network_names n) n)))))

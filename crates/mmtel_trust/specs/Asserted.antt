-- The identities that a message asserts of its sender, where it comes from a trusted peer (RFC 3325 §9.1: one sip URI and one tel URI at most).
use Rattle.std.specs.Prelude.{ℕ, Bool, true, false, Option, Some, None, List, codes, if◌then◌else◌, Result, Ok, Err, find}
use Rattle.std.specs.List.{filter_map}
use Rattle.mmtel_base.specs.Chain.{◌>>=◌}
use Rattle.mmtel_lex.specs.Reading.{name_addr_of, uri_of, Refusal}
use Rattle.mmtel_lex.specs.declared.values.Uri.{Uri}
use Rattle.mmtel_lex.specs.declared.values.Uri.TheVariants.{Sip, Tel}
use Rattle.mmtel_message.specs.Message.{Line, values_named}
use Rattle.mmtel_message.specs.declared.values.Mode.TheVariants.{Plain}
use Rattle.mmtel_trust.specs.declared.identities.Identities.{Identities}
use Rattle.mmtel_trust.specs.declared.identities.Scheme.{Scheme}
use Rattle.mmtel_trust.specs.declared.identities.Scheme.TheVariants as scheme

abbrev pub or_no_uri : Result Uri Refusal → Option Uri
or_no_uri (Ok u) = Some u
or_no_uri (Err e) = None

-- the URI of a name-addr, where both parse
abbrev pub uri_in : List ℕ → Option Uri
uri_in v = name_addr_of v >>= λ n. or_no_uri (uri_of n.uri)

abbrev pub is_of_scheme : Scheme → Uri → Bool
is_of_scheme scheme.Sip (Sip user host port params headers) = true
is_of_scheme scheme.Sip (Tel number params) = false
is_of_scheme scheme.Tel (Sip user host port params headers) = false
is_of_scheme scheme.Tel (Tel number params) = true

-- the first URI of the scheme among the values
abbrev pub first_uri : Scheme → List (List ℕ) → Option Uri
first_uri s values = find (is_of_scheme s) (filter_map uri_in values)

abbrev pub asserted_values : List Line → List (List ℕ)
asserted_values ls = values_named Plain (codes "P-Asserted-Identity") ls

-- the identities of the sender: none where the peer is not trusted
abbrev pub asserted : Bool → List Line → Identities
asserted trusted ls =
    if trusted
    then record { sip = first_uri scheme.Sip (asserted_values ls); tel = first_uri scheme.Tel (asserted_values ls) }
    else record { sip = None; tel = None }

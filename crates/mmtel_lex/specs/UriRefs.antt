-- The URI that a borrowed one represents, and the result of its reader.
use Rattle.std.specs.Prelude.{◌≡◌, Result, Ok, Err}
use Rattle.std.specs.Option.{option_copied}
use Rattle.mmtel_lex.specs.declared.faults.UriFault.{UriFault}
use Rattle.mmtel_lex.specs.declared.uris.UriRef.{UriRef}
use Rattle.mmtel_lex.specs.declared.uris.UriRef.TheVariants as refs
use Rattle.mmtel_lex.specs.declared.values.Uri.{Uri}
use Rattle.mmtel_lex.specs.declared.values.Uri.TheVariants.{Sip, Tel}
use Rattle.mmtel_lex.specs.Reading.{Refusal, Refuses}

-- the URI whose parts are in the bytes
abbrev pub uri_view : UriRef → Uri
uri_view (refs.Sip user host port params headers) = Sip (option_copied user) host.now port params headers.now
uri_view (refs.Tel number params) = Tel number.now params

-- what uri_ref returned is what reading gives
abbrev pub IsUriRefResult : Result UriRef UriFault → Result Uri Refusal → Type 0
IsUriRefResult (Ok u) read = read ≡ Ok (uri_view u)
IsUriRefResult (Err e) read = Refuses e read

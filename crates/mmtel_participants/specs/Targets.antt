-- What remains of the URI of a Refer-To as the target of a request (RFC 3261 §19.1.5): the parameters `method` (§19.1.1) and the header part are removed.
use Rattle.std.specs.Prelude.{not, Bool, [], codes, filter}
use Rattle.std.specs.Str.{str_eq_ignore_ascii_case}
use Rattle.mmtel_lex.specs.declared.values.Param.{Param}
use Rattle.mmtel_lex.specs.declared.values.Uri.{Uri}
use Rattle.mmtel_lex.specs.declared.values.Uri.TheVariants.{Sip, Tel}

abbrev pub is_method : Param → Bool
is_method p = str_eq_ignore_ascii_case p.name (codes "method")

abbrev pub is_no_method : Param → Bool
is_no_method p = not (is_method p)

-- what remains of it as the target of a request (RFC 3261 §19.1.5)
abbrev pub target_of : Uri → Uri
target_of (Sip user host port params headers) = Sip user host port (filter is_no_method params) []
target_of (Tel number params) = Tel number (filter is_no_method params)

-- A URI has only the bytes of URIs.
use Rattle.std.proofs.Common.{◌≡◌, true, List, ℕ, ◌∷◌, arith}
use Rattle.std.proofs.lemmas.Bool.Decides.{nat_tests}
use Rattle.mmtel_base.specs.Classes.{in_class, IsAll}
use Rattle.mmtel_base.specs.declared.classes.Class.TheVariants.{SchemeRest, UriByte}
use Rattle.mmtel_base.proofs.Runs.{wider}
use Rattle.mmtel_base.proofs.Trims.{all_append}
use Rattle.mmtel_lex.specs.Grammar.{IsRest, IsUri, uri_text}
use Rattle.mmtel_lex.specs.declared.values.Uri.{Uri}
use Rattle.mmtel_lex.specs.declared.values.Uri.TheVariants.{Sip, Tel}
use Rattle.mmtel_lex.proofs.PrintTheorems.{printed_again}
use Rattle.mmtel_lex.proofs.UriTheorems.{name_all}

name_visible : (b : ℕ) → in_class SchemeRest b ≡ true → in_class UriByte b ≡ true
unfolding in_class
name_visible b e = grind (arith, nat_tests)

rest_visible : (s : List ℕ) (u : Uri) → IsRest s u → IsAll UriByte s
rest_visible s (Sip user host port params headers) is = is.bytes_in
rest_visible s (Tel number params) is = is.bytes_in

colon : (s : List ℕ) → IsAll UriByte s → IsAll UriByte (58 ∷ s)
unfolding in_class
colon s all = all

pub uri_visible : (s : List ℕ) (u : Uri) → IsUri s u → IsAll UriByte s
uri_visible s u is =
    let name : IsAll UriByte is.name = wider SchemeRest UriByte name_visible is.name (name_all is.name is.begins.name_in) in
    rw is.begins.whole (all_append UriByte is.name (58 ∷ is.rest) name (colon is.rest (rest_visible is.rest u is.rest_in)))

pub printed_visible : (s : List ℕ) (u : Uri) → IsUri s u → IsAll UriByte (uri_text u)
printed_visible s u is = uri_visible (uri_text u) u (printed_again s u is)

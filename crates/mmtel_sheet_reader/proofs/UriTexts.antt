-- A URI that was read of a text reads back from its own text, which is no longer.
use Rattle.std.proofs.Common.{◌≡◌, ℕ, suc, ◌<◌, ◌≤◌, ◌^◌, true, List, [], ◌∷◌, ◌++◌, length, Option, Some, None, Ok, IsUtf8, refl, sym, ap, ◌∙◌, length-append, arith, decimal}
use Rattle.std.proofs.lemmas.Bool.Decides.{nat_tests}
use Rattle.std.proofs.lemmas.Bool.{and_parts}
use Rattle.std.proofs.lemmas.Fmt.{length-decimal-le}
use Rattle.std.proofs.lemmas.Int.Digits.{digits_value-lt}
use Rattle.std.proofs.lemmas.Str.{IsUtf8-from_ascii}
use Rattle.std.specs.Char.{digit_value}
use Rattle.std.specs.List.{list_all}
use Rattle.std.specs.Str.{str_to_ascii_lowercase}
use Rattle.std.specs.Str.Parse.{digits_value, AllDigits}
use Rattle.mmtel_base.specs.Classes.{in_class, IsAll}
use Rattle.mmtel_base.specs.declared.classes.Class.TheVariants.{Digit, UriByte}
use Rattle.mmtel_lex.specs.Grammar.{IsUri, IsSip, IsTel, IsPort, user_text, port_text, params_text, headers_text, uri_text}
use Rattle.mmtel_lex.specs.Reading.{uri_of}
use Rattle.mmtel_lex.specs.declared.values.Uri.{Uri}
use Rattle.mmtel_lex.specs.declared.values.Uri.TheVariants.{Sip, Tel}
use Rattle.mmtel_lex.proofs.PrintTheorems.{printed_again}
use Rattle.mmtel_lex.proofs.UriTheorems.{uri_takes, uri_again}
use Rattle.mmtel_lex.proofs.Visible.{printed_visible}
use Rattle.mmtel_sheet_grammar.specs.Elements.{is_target}
use Rattle.mmtel_sheet_grammar.specs.Printable.{IsUriOfText, IsTarget}
use Rattle.mmtel_sheet_reader.proofs.Ascii.{IsOfAscii, all_ascii}

-- ---- the text is UTF-8: each of its bytes is one of ASCII

uri_byte_ascii : IsOfAscii UriByte
unfolding in_class
uri_byte_ascii b e = grind (arith, nat_tests)

printed_text : (s : List ℕ) (u : Uri) → IsUri s u → IsUtf8 (uri_text u)
printed_text s u is = IsUtf8-from_ascii (uri_text u) (all_ascii UriByte uri_byte_ascii (uri_text u) (printed_visible s u is))

pub uri_printable : (s : List ℕ) (u : Uri) → uri_of s ≡ Ok u → IsUriOfText u
uri_printable s u read =
    let is = uri_takes s u read in
    record { text = printed_text s u is; reads_back = uri_again (uri_text u) u (printed_again s u is) }

-- ---- how long the text is

lower_length : (s : List ℕ) → length (str_to_ascii_lowercase s) ≡ length s
lower_length [] = refl
lower_length (b ∷ s) = ap suc (lower_length s)

digit_low : (c : ℕ) → in_class Digit c ≡ true → digit_value c < 10
unfolding in_class
digit_low c e = grind (arith, nat_tests)

all_digits : (ds : List ℕ) → IsAll Digit ds → AllDigits 10 ds
all_digits [] each = tt
all_digits (c ∷ ds) each =
    let both = and_parts (in_class Digit c) (list_all (in_class Digit) ds) each in
    (digit_low c both.0, all_digits ds both.1)

port_length : (text : List ℕ) (port : Option ℕ) → IsPort text port → length (port_text port) ≤ length text
port_length text None is = omega arith
port_length text (Some n) is =
    let digits = is.0 in
    let worth : digits_value 10 digits ≡ n = is.2.writes.value in
    let bound : digits_value 10 digits < 10 ^ length digits = digits_value-lt 10 digits (all_digits digits is.2.writes.digits.each) in
    let short : length (decimal n) ≤ length digits = length-decimal-le (length digits) n is.2.writes.digits.filled (omega (arith, worth, bound)) (omega (arith, is.2.high)) in
    let whole : length text ≡ length (58 ∷ digits) = ap length is.1 in
    omega arith

parts_length : (a b p q d : List ℕ) → length q ≤ length p → length (a ++ (b ++ (q ++ d))) ≤ length (a ++ (b ++ (p ++ d)))
parts_length a b p q d h = omega (arith, length-append a (b ++ (q ++ d)), length-append b (q ++ d), length-append q d, length-append a (b ++ (p ++ d)), length-append b (p ++ d), length-append p d)

-- the text of a URI is no longer than that which it was read of
printed_length : (s : List ℕ) (u : Uri) → IsUri s u → length (uri_text u) ≤ length s
printed_length s (Sip user host port params headers) is =
    let had : IsSip is.rest user host port params headers = is.rest_in in
    let named : length is.name ≡ 3 = sym (lower_length is.name) ∙ ap length is.named in
    let cut : length s ≡ length (is.name ++ 58 ∷ is.rest) = ap length is.begins.whole in
    let rest : length is.rest ≡ length (user_text user ++ (host ++ (had.port_text ++ (params_text params ++ headers_text headers)))) = ap length had.whole in
    omega (arith, length-append is.name (58 ∷ is.rest), parts_length (user_text user) host had.port_text (port_text port) (params_text params ++ headers_text headers) (port_length had.port_text port had.port_in))
printed_length s (Tel number params) is =
    let had : IsTel is.rest number params = is.rest_in in
    let named : length is.name ≡ 3 = sym (lower_length is.name) ∙ ap length is.named in
    let cut : length s ≡ length (is.name ++ 58 ∷ is.rest) = ap length is.begins.whole in
    let rest : length is.rest ≡ length (number ++ params_text params) = ap length had.whole in
    omega (arith, length-append is.name (58 ∷ is.rest))

pub target_printable : (s : List ℕ) (u : Uri) → uri_of s ≡ Ok u → is_target u ≡ true → length s ≤ 256 → IsTarget u
target_printable s u read kind short =
    let bound = printed_length s u (uri_takes s u read) in
    record { uri = uri_printable s u read; kind = kind; short = omega arith }

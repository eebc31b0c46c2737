-- The header lines of a canonical text: the values of a listed name one per line, the words of Privacy on one line with ';' between them, the methods of Allow on one line with
-- commas (RFC 3261 §7.3.1).
use Rattle.std.specs.Prelude.{◌==◌, if◌then◌else◌, ℕ, Bool, List, [], ◌∷◌, ◌++◌, length, codes, map}
use Rattle.std.specs.List.{list_any}
use Rattle.mmtel_message.specs.Headers.{trim}
use Rattle.mmtel_message.specs.Values.{values_of, values_in, joined_by}
use Rattle.mmtel_message.specs.Message.{is_line, has_line, line_texts}
use Rattle.mmtel_message.specs.declared.values.Mode.{Mode}
use Rattle.mmtel_message.specs.declared.values.Mode.TheVariants.{Plain, Words}

-- the names whose values are written one per line
abbrev pub listed_names : List (List ℕ)
listed_names =
    codes "Via" ∷
    codes "Route" ∷
    codes "Record-Route" ∷
    codes "Contact" ∷
    codes "P-Asserted-Identity" ∷
    codes "History-Info" ∷
    codes "Supported" ∷
    codes "Require" ∷ []

abbrev pub is_listed : List ℕ × List ℕ → Bool
is_listed h = list_any (λ name. is_line name h) listed_names

-- several lines of one name as one list of values, with the separator between them
abbrev pub merged_text : Mode → List ℕ → List ℕ → List (List ℕ) → List ℕ
merged_text m parting between texts = trim (joined_by between (values_in m (joined_by parting texts)))

-- the words of Privacy, with ';' between them (RFC 3323 §4.2)
abbrev pub privacy_text : List (List ℕ × List ℕ) → List ℕ
privacy_text hs = merged_text Words (codes ";") (codes ";") (line_texts (codes "Privacy") hs)

-- the methods of Allow, with commas between them
abbrev pub allow_text : List (List ℕ × List ℕ) → List ℕ
allow_text hs = merged_text Plain (codes ",") (codes ", ") (line_texts (codes "Allow") hs)

-- this text in place of the first line of the name, and nothing in place of further ones
abbrev pub at_first : List ℕ → List ℕ → List (List ℕ × List ℕ) → List ℕ × List ℕ → List (List ℕ × List ℕ)
at_first name text before h = if has_line name before then [] else (h.0, text) ∷ []

-- the lines that replace one which follows those before: none for a line without a name, for Privacy and Allow the merged text at the first, and one per value for a listed name
abbrev pub lines_for : List ℕ → List ℕ → List (List ℕ × List ℕ) → List ℕ × List ℕ → List (List ℕ × List ℕ)
lines_for privacy allow before h =
    if length h.0 == 0 then [] else
    if is_line (codes "Privacy") h then at_first (codes "Privacy") privacy before h else
    if is_line (codes "Allow") h then at_first (codes "Allow") allow before h else
    if is_listed h then map (λ v. (h.0, v)) (values_of h.1) else h ∷ []

-- the lines that replace these, which follow those before, with the merged texts of Privacy and Allow
unfoldable pub expanded_from : List ℕ → List ℕ → List (List ℕ × List ℕ) → List (List ℕ × List ℕ) → List (List ℕ × List ℕ)
expanded_from privacy allow before [] = []
expanded_from privacy allow before (h ∷ hs) = lines_for privacy allow before h ++ expanded_from privacy allow (before ++ h ∷ []) hs

-- the lines of the canonical text of a message with these lines
abbrev pub expanded_lines : List (List ℕ × List ℕ) → List (List ℕ × List ℕ)
expanded_lines hs = expanded_from (privacy_text hs) (allow_text hs) [] hs

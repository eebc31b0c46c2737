-- The text of charging rows: comma-separated values (RFC 4180 §2), a header line and a line for each row, with LF as the line's end.
use Rattle.std.specs.Prelude.{ℕ, List, [], ◌∷◌, ◌++◌, Option, Some, None, codes, decimal}
use Rattle.std.specs.List.{flat_map, join_with_byte}
use Rattle.csv.specs.Reading.{default_config, records, strip_bom}
use Rattle.mmtel_types.specs.Causes as causes
use Rattle.mmtel_charging.specs.declared.rows.Kind.{Kind}
use Rattle.mmtel_charging.specs.declared.rows.Kind.TheVariants.{Origin, Terminating, Diversion, Participant}
use Rattle.mmtel_charging.specs.declared.rows.Row.{Row}

-- the word of a kind
abbrev pub word_of : Kind → List ℕ
word_of Origin = codes "origin"
word_of Terminating = codes "terminating"
word_of Diversion = codes "diversion"
word_of Participant = codes "participant"

-- a moment in decimal digits; empty where there is none
abbrev pub moment_field : Option ℕ → List ℕ
moment_field None = []
moment_field (Some moment) = decimal moment

-- the names of the fields
abbrev pub columns : List (List ℕ)
columns =
    codes "kind" ∷ codes "account" ∷ codes "call" ∷ codes "began" ∷ codes "answered" ∷ codes "ended" ∷ codes "holds" ∷ codes "cause" ∷ codes "status" ∷ []

-- the fields of a row
abbrev pub fields_of : Row → List (List ℕ)
fields_of row =
    word_of row.kind ∷ decimal row.account.0 ∷ decimal row.call.0 ∷ decimal row.began ∷ moment_field row.answered ∷ decimal row.ended ∷ decimal row.holds
    ∷ causes.word_of row.cause ∷ decimal (causes.status_of row.cause) ∷ []

-- a line: the fields with a comma between each two, and LF
abbrev pub line_of : List (List ℕ) → List ℕ
line_of fields = join_with_byte 44 fields ++ codes "\n"

-- the header line, and a line for each row
abbrev pub text_of : List Row → List ℕ
text_of rows = codes "kind,account,call,began,answered,ended,holds,cause,status\n" ++ flat_map (λ row. line_of (fields_of row)) rows

-- what a CSV reader with its usual settings returns for a text: the fields of each record
abbrev pub records_of : List ℕ → List (List (List ℕ))
records_of text = records default_config (strip_bom text)

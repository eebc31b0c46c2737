-- What the writer wrote is parsed as what was written: the header's fields, and each row's.
use Rattle.std.proofs.Common.{◌≡◌, ℕ, zero, suc, ◌<◌, ◌≤◌, ◌+◌, ◌++◌, List, [], ◌∷◌, length, refl, ap, sym, ◌∙◌, arith, codes, map}
use Rattle.std.specs.List.{flat_map}
use Rattle.std.proofs.lemmas.List.{length-append}
use Rattle.csv.proofs.RoundTrip.{read-write}
use Rattle.csv.specs.Machine.{next_record}
use Rattle.csv.specs.Reading.{default_config, records_from, strip_bom}
use Rattle.csv.specs.Writing.{default_writer, row_text}
use Rattle.csv.specs.declared.parser.State.TheVariants as st
use Rattle.mmtel_charging.specs.declared.rows.Row.{Row}
use Rattle.mmtel_charging.specs.Rows.{columns, fields_of, records_of}
use Rattle.mmtel_charging.specs.Writing.{records_text}
use Rattle.mmtel_charging.proofs.Lines.{header-line}

abbrev parsed_record : Row → List ℕ
parsed_record row = row_text default_writer (fields_of row)

rows-read : (rows : List Row) (n : ℕ) → length rows ≤ n → records_from default_config n st.StartRecord (flat_map parsed_record rows) ≡ map fields_of rows
unfolding records_from next_record
rows-read [] zero h = refl
rows-read [] (suc n) h = refl
rows-read (row ∷ rows) zero h = absurd (omega arith)
rows-read (row ∷ rows) (suc n) h = rw (read-write (fields_of row) (flat_map parsed_record rows)) (ap (λ t. fields_of row ∷ t) (rows-read rows n (omega arith)))

whole-read : (rows : List Row) (n : ℕ) → length rows < n → records_from default_config n st.StartRecord (records_text rows) ≡ columns ∷ map fields_of rows
unfolding records_from
whole-read rows zero h = absurd (omega arith)
whole-read rows (suc n) h = rw (read-write columns (flat_map parsed_record rows)) (ap (λ t. columns ∷ t) (rows-read rows n (omega arith)))

one-filled : (row : Row) (rest : List ℕ) → suc (length rest) ≤ length (parsed_record row ++ rest)
one-filled row rest = grind (arith, length-append)

lengths : (rows : List Row) → length rows ≤ length (flat_map parsed_record rows)
lengths [] = grind arith
lengths (row ∷ rows) = let more = lengths rows in let filled = one-filled row (flat_map parsed_record rows) in grind arith

header-begins : (s : List ℕ) → strip_bom (codes "kind,account,call,began,answered,ended,holds,cause,status\n" ++ s) ≡ codes "kind,account,call,began,answered,ended,holds,cause,status\n" ++ s
unfolding strip_bom
header-begins s = refl

-- a header is no byte order mark
no-mark : (rows : List Row) → strip_bom (records_text rows) ≡ records_text rows
no-mark rows =
    let spelled : records_text rows ≡ codes "kind,account,call,began,answered,ended,holds,cause,status\n" ++ flat_map parsed_record rows = ap (λ t. t ++ flat_map parsed_record rows) header-line in
    ap strip_bom spelled ∙ header-begins (flat_map parsed_record rows) ∙ sym spelled

pub reads-back : (rows : List Row) → records_of (records_text rows) ≡ columns ∷ map fields_of rows
reads-back rows =
    let enough : length rows < length (records_text rows) + 1 = grind (arith, length-append, lengths rows) in
    rw (no-mark rows) (whole-read rows (length (records_text rows) + 1) enough)

-- The length of what is written of rows, and the same after one more row.
use Rattle.std.proofs.Common.{◌≡◌, ◌<◌, ℕ, ◌+◌, ◌*◌, List, [], ◌∷◌, ◌++◌, length, get_or, take, Option, Some, None, refl, sym, ◌∙◌, ap, arith, append_assoc, length-append}
use Rattle.std.proofs.lemmas.List.{append-nil, take_more}
use Rattle.std.specs.Int.{w32, w64, to_be_bytes}
use Rattle.mmtel_charging.specs.declared.rows.Row.{Row}
use Rattle.mmtel_journal.specs.Logs.{body_bytes}
use Rattle.mmtel_journal.specs.Payloads.{answered_bytes, cause_bytes, begin_bytes, row_bytes, rows_bytes, payload_of_rows}

len5 : (a b c d e : List ℕ) → length (a ++ b ++ c ++ d ++ e) ≡ length a + length b + length c + length d + length e
len5 a b c d e = omega (arith, length-append a b, length-append (a ++ b) c, length-append (a ++ b ++ c) d, length-append (a ++ b ++ c ++ d) e)

len_answered : (o : Option ℕ) → length (answered_bytes o) ≡ 9
len_answered None = refl
len_answered (Some m) = refl

len_begin : (row : Row) → length (begin_bytes row) ≡ 21
len_begin row = refl

len_row : (row : Row) → length (row_bytes row) ≡ 45
len_row row =
    omega (
      arith,
      len_answered row.answered,
      len_begin row,
      len5 (begin_bytes row) (answered_bytes row.answered) (to_be_bytes w64 row.ended) (to_be_bytes w32 row.holds)
          (cause_bytes row.cause),
    )

pub len_rows : (rows : List Row) → length (rows_bytes rows) ≡ 45 * length rows
len_rows [] = refl
len_rows (row ∷ rows) = omega (arith, len_row row, len_rows rows, length-append (row_bytes row) (rows_bytes rows))

rows_push : (rows : List Row) (row : Row) → rows_bytes (rows ++ row ∷ []) ≡ rows_bytes rows ++ row_bytes row
rows_push [] row = append-nil (row_bytes row)
rows_push (first ∷ rows) row = ap (λ (l : List ℕ). row_bytes first ++ l) (rows_push rows row) ∙ sym (append_assoc (row_bytes first) (rows_bytes rows) (row_bytes row))

pub rows_more : (rows : List Row) (i : ℕ) (row : Row) → i < length rows → row ≡ get_or rows i row → rows_bytes (take (i + 1) rows) ≡ rows_bytes (take i rows) ++ row_bytes row
rows_more rows i row lt is =
    ap rows_bytes (take_more rows i row lt) ∙ rows_push (take i rows) (get_or rows i row) ∙ ap (λ r. rows_bytes (take i rows) ++ row_bytes r) (sym is)

-- the whole of it
pub rows_whole : (rows : List Row) → to_be_bytes w64 (9 + 45 * length rows) ++ (2 ∷ (to_be_bytes w64 (length rows) ++ rows_bytes rows)) ++ 0 ∷ [] ≡ body_bytes (payload_of_rows rows)
unfolding body_bytes
rows_whole rows =
    let same : 9 + 45 * length rows ≡ length (payload_of_rows rows) = omega (arith, len_rows rows) in
    ap (λ n. to_be_bytes w64 n ++ payload_of_rows rows ++ 0 ∷ []) same

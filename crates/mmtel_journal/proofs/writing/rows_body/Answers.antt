use Rattle.std.proofs.Common.{◌+◌, ◌*◌, ◌++◌, ◌∷◌, [], List, ℕ, length, get_or, ap, sym, subst, ◌∙◌, arith}
use Rattle.std.specs.Prelude.{All}
use Rattle.std.proofs.lemmas.List.Elements.{All-more}
use Rattle.std.specs.Int.{w64, to_be_bytes}
use Rattle.std.proofs.lemmas.List.{take_all}
use Rattle.mmtel_charging.specs.declared.rows.Row.{Row}
use Rattle.mmtel_journal.specs.Payloads.{IsRow, row_bytes, rows_bytes}
use Rattle.mmtel_journal.proofs.Rows.{rows_more, rows_whole}
use Rattle.mmtel_journal.proofs.writing.rows_body.Goals as goal

pub loop-row-preserved : goal.loop-row-preserved
loop-row-preserved c =
    let rows = c.args.rows.now in
    let here : IsRow (get_or rows c.loop-row.row-index c.row-item.result) = subst IsRow c.row-item.is c.in_ok-put_row.ensures.fits in
    record {
      fits = All-more IsRow rows c.loop-row.row-index c.row-item.result c.loop-row-test.true c.loop-row.invariant.fits here;
      written =
          c.in_ok-put_row.ensures.put ∙ ap (λ (l : List ℕ). l ++ row_bytes c.row-item.result) c.loop-row.invariant.written
          ∙ ap (λ (l : List ℕ). to_be_bytes w64 (9 + 45 * length rows) ++ (2 ∷ (to_be_bytes w64 (length rows) ++ l)))
          (sym (rows_more rows c.loop-row.row-index c.row-item.result c.loop-row-test.true c.row-item.is));
    }

pub returns : goal.returns
returns c =
    let rows = c.args.rows.now in
    let all = take_all c.loop-row.row-index rows (omega (arith, c.loop-row-test.false)) in
    record {
      fits = subst (All IsRow) all c.loop-row.invariant.fits;
      body = c.in_ok-push-2.ensures.items
          ∙ ap (λ (l : List ℕ). l ++ 0 ∷ [])
          (c.loop-row.invariant.written ∙ ap (λ (rs : List Row). to_be_bytes w64 (9 + 45 * length rows) ++ (2 ∷ (to_be_bytes w64 (length rows) ++ rows_bytes rs))) all)
          ∙ rows_whole rows;
    }

use Rattle.std.proofs.Common.{◌≡◌, ◌∙◌, ◌++◌, ◌∷◌, List, ℕ, length, ap, sym, subst, arith}
use Rattle.std.specs.Prelude.{All, IfOk}
use Rattle.std.specs.Int.{w64, to_be_bytes}
use Rattle.std.proofs.lemmas.List.{take_all}
use Rattle.mmtel_types.specs.declared.numbers.Account.{Account}
use Rattle.mmtel_journal.specs.Logs.{body_bytes}
use Rattle.mmtel_journal.specs.Migrating.{sheets_in}
use Rattle.mmtel_journal.specs.Payloads.{IsSheet, sheet_bytes, sheets_bytes, payload_of_sheets}
use Rattle.mmtel_journal.proofs.Moments.{on_ok}
use Rattle.mmtel_journal.proofs.Sheets.{sheets_more, fits_more, length-in}
use Rattle.mmtel_journal.proofs.migration.replaced_body.Goals as goal

pub loop-new-preserved : goal.loop-new-preserved
loop-new-preserved c =
    let found = c.args.found.now in
    let new = c.new-item.result in
    let fits : IsSheet new.1 = subst (λ (text : List ℕ). IsSheet (new.1.0, text)) c.bytes.ensures c.put_sheet.ensures.fits in
    record {
      fits = fits_more found c.loop-new.new-index new c.loop-new-test.true c.new-item.is fits c.loop-new.invariant.fits;
      written =
          c.in_ok-put_sheet.ensures.put
          ∙ ap (λ (text : List ℕ). c.loop-new.payload.items ++ sheet_bytes (new.1.0, text)) c.bytes.ensures
          ∙ ap (λ (l : List ℕ). l ++ sheet_bytes new.1) c.loop-new.invariant.written
          ∙ ap (λ (l : List ℕ). 1 ∷ (to_be_bytes w64 (length found) ++ l)) (sym (sheets_more found c.loop-new.new-index new c.loop-new-test.true c.new-item.is));
    }

pub returns : goal.returns
returns c =
    let found = c.args.found.now in
    let all = take_all c.loop-new.new-index found (omega (arith, c.loop-new-test.false)) in
    let is : c.as_slice.result.now ≡ payload_of_sheets (sheets_in found) =
    c.as_slice.ensures.value ∙ c.loop-new.invariant.written ∙ ap (λ (l : List (ℕ × (Account × List ℕ))). 1 ∷ (to_be_bytes w64 (length found) ++ sheets_bytes (sheets_in l))) all
    ∙ ap (λ (n : ℕ). 1 ∷ (to_be_bytes w64 n ++ sheets_bytes (sheets_in found))) (sym (length-in found)) in
    let fits : All IsSheet (sheets_in found) = subst (λ (l : List (ℕ × (Account × List ℕ))). All IsSheet (sheets_in l)) all c.loop-new.invariant.fits in
    record {
      fits = on_ok (All IsSheet (sheets_in found)) c.body_around.result fits;
      body = subst (λ (p : List ℕ). IfOk c.body_around.result (λ b. b.items ≡ body_bytes p)) is c.body_around.ensures.body;
    }

use Rattle.std.proofs.Common.{◌≡◌, ◌∙◌, ◌++◌, ◌∷◌, [], List, ℕ, ap, sym, subst}
use Rattle.std.specs.Prelude.{IfOk}
use Rattle.std.specs.Int.{w64, to_be_bytes}
use Rattle.std.proofs.lemmas.List.{append-nil}
use Rattle.mmtel_journal.specs.Logs.{body_bytes}
use Rattle.mmtel_journal.specs.Payloads.{IsSheet, sheet_bytes, payload_of_sheets}
use Rattle.mmtel_journal.proofs.Moments.{on_ok}
use Rattle.mmtel_journal.proofs.writing.sheet_body.Goals as goal

pub returns : goal.returns
returns c =
    let sheet : List ℕ = sheet_bytes (c.args.account, c.args.text.now) in
    let is : c.as_slice.result.now ≡ payload_of_sheets ((c.args.account, c.args.text.now) ∷ []) =
    c.as_slice.ensures.value ∙ c.in_ok-put_sheet.ensures.put ∙ ap (λ (l : List ℕ). l ++ sheet) c.in_ok-payload.ensures.head
    ∙ ap (λ (l : List ℕ). 1 ∷ (to_be_bytes w64 1 ++ l)) (sym (append-nil sheet)) in
    record {
      fits = on_ok (IsSheet (c.args.account, c.args.text.now)) c.body_around.result c.put_sheet.ensures.fits;
      body = subst (λ (p : List ℕ). IfOk c.body_around.result (λ b. b.items ≡ body_bytes p)) is c.body_around.ensures.body;
    }

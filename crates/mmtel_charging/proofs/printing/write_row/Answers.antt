use Rattle.std.proofs.Common.{◌≡◌, ◌<◌, ◌^◌, ◌++◌, ◌∙◌, ap, subst, arith, decimal}
use Rattle.std.proofs.lemmas.Grind.{common_steps}
use Rattle.std.proofs.lemmas.Result.{IfOk-weaker}
use Rattle.mmtel_charging.specs.Rows.{moment_field, word_of}
use Rattle.mmtel_charging.specs.Writing.{written_bytes}
use Rattle.mmtel_types.specs.Causes as causes
use Rattle.mmtel_charging.proofs.Lines.{row-line}
use Rattle.mmtel_charging.specs.Writing.{InRange}
use Rattle.mmtel_charging.proofs.printing.write_row.Goals as goal

pub returns-clause-line : goal.returns-clause-line
returns-clause-line c =
    let row = c.args.row.now in
    let status-small : c.status.result < 2 ^ 64 = omega arith in
    let status-fits : causes.status_of row.cause < 2 ^ 64 = subst (λ n. n < 2 ^ 64) c.status.ensures.table status-small in
    let range : InRange row = record { account = omega arith; call = omega arith; began = omega arith; answered = c.moment_digits.ensures.fits; ended = omega arith; holds = omega arith; status = status-fits } in
    let kind : c.as_bytes.result.now ≡ word_of row.kind = grind (arith, common_steps) in
    let account : c.as_bytes-2.result.now ≡ decimal row.account.0 = grind (arith, common_steps) in
    let call : c.as_bytes-3.result.now ≡ decimal row.call.0 = grind (arith, common_steps) in
    let began : c.as_bytes-4.result.now ≡ decimal row.began = grind (arith, common_steps) in
    let answered : c.as_bytes-5.result.now ≡ moment_field row.answered = grind (arith, common_steps) in
    let ended : c.as_bytes-6.result.now ≡ decimal row.ended = grind (arith, common_steps) in
    let holds : c.as_bytes-7.result.now ≡ decimal row.holds = grind (arith, common_steps) in
    let cause : c.as_bytes-8.result.now ≡ causes.word_of row.cause = grind (arith, common_steps) in
    let status : c.as_bytes-9.result.now ≡ decimal (causes.status_of row.cause) = grind (arith, common_steps) in
    IfOk-weaker c.write_record.result _ _ (λ u h. h ∙ ap (λ t. written_bytes c.args.writer.now ++ t) (rw (kind, account, call, began, answered, ended, holds, cause, status) (row-line row range)))
    c.write_record.ensures.csv_record

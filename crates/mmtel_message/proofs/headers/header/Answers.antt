use Rattle.std.proofs.Common.{◌≡◌, ◌==◌, false, length, sym, ◌∙◌, arith}
use Rattle.std.proofs.lemmas.Bool.Decides.{nat_tests}
use Rattle.mmtel_message.specs.Held.{bytes_at}
use Rattle.mmtel_message.proofs.HeaderTheorems.{bad_value, good_value, no_colon, scanned, unnamed, value_there}
use Rattle.mmtel_message.proofs.headers.header.Goals as goal

pub returns-then-is_empty-clause-line : goal.returns-then-is_empty-clause-line
returns-then-is_empty-clause-line c =
    let none : length c.split_run.result.0.now ≡ 0 = grind (arith, nat_tests, c.if-is_empty.true, c.is_empty.ensures) in
    unnamed c.args.line.now c.split_run.result.0.now c.split_run.ensures.front none

pub returns-in_err-tail-clause-line : goal.returns-in_err-tail-clause-line
returns-in_err-tail-clause-line c =
    let filled : (length c.split_run.result.0.now == 0) ≡ false = grind (arith, nat_tests, c.if-is_empty.false, c.is_empty.ensures) in
    let is = scanned c.args.line.now c.split_run.result.0.now c.split_run.result.1.now c.split_run-2.result.1.now c.split_run.ensures.front c.split_run.ensures.rest c.split_run-2.ensures.rest filled in
    rw c.from_residual.ensures (no_colon c.args.line.now c.split_run.result.0.now c.split_run-2.result.1.now is c.in_err-tail.ensures.value)

pub returns-then-is_value-clause-line : goal.returns-then-is_value-clause-line
returns-then-is_value-clause-line c =
    let filled : (length c.split_run.result.0.now == 0) ≡ false = grind (arith, nat_tests, c.if-is_empty.false, c.is_empty.ensures) in
    let is = scanned c.args.line.now c.split_run.result.0.now c.split_run.result.1.now c.split_run-2.result.1.now c.split_run.ensures.front c.split_run.ensures.rest c.split_run-2.ensures.rest filled in
    let value = value_there c.args.line.now c.split_run.result.1.now c.split_run-2.result.1.now c.in_ok-tail.tail.now
    (bytes_at c.args.line.now c.trimmed_span-value.result) c.split_run.ensures.rest c.split_run-2.ensures.rest c.in_ok-tail.ensures.value c.trimmed_span-value.ensures.bytes in
    good_value c.args.line.now c.split_run.result.0.now c.split_run-2.result.1.now c.in_ok-tail.tail.now (bytes_at c.args.line.now c.trimmed_span-value.result) is c.in_ok-tail.ensures.value value
    (rw c.bytes_at.ensures at (sym c.is_value.ensures ∙ c.if-is_value.true))

pub returns-else-is_value-clause-line : goal.returns-else-is_value-clause-line
returns-else-is_value-clause-line c =
    let filled : (length c.split_run.result.0.now == 0) ≡ false = grind (arith, nat_tests, c.if-is_empty.false, c.is_empty.ensures) in
    let is = scanned c.args.line.now c.split_run.result.0.now c.split_run.result.1.now c.split_run-2.result.1.now c.split_run.ensures.front c.split_run.ensures.rest c.split_run-2.ensures.rest filled in
    let value = value_there c.args.line.now c.split_run.result.1.now c.split_run-2.result.1.now c.in_ok-tail.tail.now
    (bytes_at c.args.line.now c.trimmed_span-value.result) c.split_run.ensures.rest c.split_run-2.ensures.rest c.in_ok-tail.ensures.value c.trimmed_span-value.ensures.bytes in
    bad_value c.args.line.now c.split_run.result.0.now c.split_run-2.result.1.now c.in_ok-tail.tail.now (bytes_at c.args.line.now c.trimmed_span-value.result) is c.in_ok-tail.ensures.value value
    (rw c.bytes_at.ensures at (sym c.is_value.ensures ∙ c.if-is_value.false))

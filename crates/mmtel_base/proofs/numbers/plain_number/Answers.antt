use Rattle.std.proofs.Common.{◌≡◌, false, true, sym, ◌∙◌}
use Rattle.mmtel_base.specs.Numbers.{has_leading_zero}
use Rattle.mmtel_base.proofs.Numerals.{if_spelled, reads, by_digits, by_zero}
use Rattle.mmtel_base.proofs.numbers.plain_number.Goals as goal

pub returns-then-has_leading_zero-clause-reads : goal.returns-then-has_leading_zero-clause-reads
returns-then-has_leading_zero-clause-reads c =
    let zero : has_leading_zero c.args.digits.now ≡ true = sym c.has_leading_zero.ensures.test ∙ c.if-has_leading_zero.true in
    λ n le e. sym (by_zero c.args.limit c.args.digits.now zero) ∙ reads c.args.limit c.args.digits.now c.ranges.limit.fits n le e

pub returns-clause-spelled : goal.returns-clause-spelled
returns-clause-spelled c =
    let plain : has_leading_zero c.args.digits.now ≡ false = sym c.has_leading_zero.ensures.test ∙ c.if-has_leading_zero.false in
    if_spelled c.args.limit c.args.digits.now c.number_up_to.result c.ranges.limit.fits (by_digits c.args.limit c.args.digits.now plain ∙ sym c.number_up_to.ensures.value)

pub returns-clause-reads : goal.returns-clause-reads
returns-clause-reads c =
    let plain : has_leading_zero c.args.digits.now ≡ false = sym c.has_leading_zero.ensures.test ∙ c.if-has_leading_zero.false in
    λ n le e. c.number_up_to.ensures.value ∙ sym (by_digits c.args.limit c.args.digits.now plain) ∙ reads c.args.limit c.args.digits.now c.ranges.limit.fits n le e

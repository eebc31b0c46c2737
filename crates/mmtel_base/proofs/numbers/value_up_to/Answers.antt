use Rattle.std.proofs.Common.{ℕ, ◌+◌, ◌<◌, sym, arith}
use Rattle.std.specs.Str.Parse.{digits_value}
use Rattle.mmtel_base.proofs.Digits.{digit_at, one_more, over, front_le}
use Rattle.mmtel_base.proofs.numbers.value_up_to.Goals as goal

pub overflow_sub-digit : goal.overflow_sub-digit
overflow_sub-digit c = (digit_at c.args.digits.now c.loop-digit.digit-index c.requires (omega arith)).low

pub returns-then-number-from-clause-value : goal.returns-then-number-from-clause-value
returns-then-number-from-clause-value c =
    let i : ℕ = c.loop-digit.digit-index in
    let more = one_more c.args.digits.now i c.loop-digit.number c.requires (omega arith) c.loop-digit.invariant.0 in
    let large : c.args.limit < digits_value 10 c.args.digits.now = omega (arith, more, front_le (i + 1) c.args.digits.now) in
    sym (over c.args.limit c.args.digits.now large)

pub loop-digit-preserved : goal.loop-digit-preserved
loop-digit-preserved c =
    let i : ℕ = c.loop-digit.digit-index in
    let more = one_more c.args.digits.now i c.loop-digit.number c.requires (omega arith) c.loop-digit.invariant.0 in
    (omega (arith, more), omega arith)

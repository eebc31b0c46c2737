use Rattle.std.proofs.Common.{◌<◌, ◌^◌, arith, subst}
use Rattle.mmtel_types.specs.Causes as causes
use Rattle.mmtel_charging.proofs.printing.numbers_fit.Goals as goal

pub returns : goal.returns
returns c =
    let row = c.args.row in
    let small : c.status-status.result < 2 ^ 64 = omega arith in
    let status : causes.status_of row.cause < 2 ^ 64 = subst (λ n. n < 2 ^ 64) c.status-status.ensures.table small in
    record { in_range = record { account = omega arith; call = omega arith; began = omega arith; answered = c.moment_fits.ensures.fits; ended = omega arith; holds = omega arith; status = status } }

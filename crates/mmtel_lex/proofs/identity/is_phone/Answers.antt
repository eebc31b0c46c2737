use Rattle.std.proofs.Common.{◌≡◌, sym, true, Some, arith}
use Rattle.mmtel_lex.specs.Identity.{has_user_phone}
use Rattle.mmtel_lex.proofs.PhoneTheorems.{joined}
use Rattle.mmtel_lex.proofs.identity.is_phone.Goals as goal

pub returns-else-not-has_user_phone : goal.returns-else-not-has_user_phone
returns-else-not-has_user_phone c =
    let plus : c.is_plus_digits.result ≡ true = grind arith in
    let asked : c.has_user_phone.result ≡ true = grind arith in
    let phone : has_user_phone c.args.params.now ≡ true = rw (asked, c.items.ensures) at (sym c.has_user_phone.ensures) in
    let user : c.args.user.now ≡ Some c.bytes-bytes.result.now = cc in
    joined c.args.user.now c.bytes-bytes.result.now c.args.params.now c.args.number.now c.same_number.result user (c.is_plus_digits.ensures.0 plus) phone c.same_number.ensures

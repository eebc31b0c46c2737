use Rattle.std.proofs.Common.{sym}
use Rattle.mmtel_lex.specs.Identity.{without_separators}
use Rattle.mmtel_lex.proofs.IdentityTheorems.{like_phone}
use Rattle.mmtel_lex.proofs.theorems.phone_identity_is_user_and_number.Goals as goal

pub returns : goal.returns
returns c = record {
  same = λ user host host2 number number2 port port2 params params2 tel_params tel_params2 headers headers2 e f. (
    λ is. like_phone user params params2 (without_separators number) (without_separators number2) e f is,
    λ is. like_phone user params2 params (without_separators number2) (without_separators number) (sym e) (sym f) is,
  );
}

-- What identity does and does not depend on.
use Rattle.std.proofs.Common.{◌≡◌, ℕ, List, Option, refl, sym, ◌∙◌}
use Rattle.mmtel_lex.specs.Identity.{has_user_phone, IsPhone, IsSameIdentity}
use Rattle.mmtel_lex.specs.declared.values.Param.{Param}
use Rattle.mmtel_lex.specs.declared.values.Uri.{Uri}
use Rattle.mmtel_lex.specs.declared.values.Uri.TheVariants.{Sip, Tel}

pub reflexive : (u : Uri) → IsSameIdentity u u
reflexive (Sip user host port params headers) = (refl, refl)
reflexive (Tel number params) = refl

pub symmetric : (u v : Uri) → IsSameIdentity u v → IsSameIdentity v u
symmetric (Sip user host port params headers) (Sip other other_host other_port other_params other_headers) is = (sym is.0, sym is.1)
symmetric (Sip user host port params headers) (Tel number tel_params) is = is
symmetric (Tel number tel_params) (Sip user host port params headers) is = is
symmetric (Tel number params) (Tel other other_params) is = sym is

pub like_phone : (user : Option (List ℕ)) (params params2 : List Param) (number number2 : List ℕ) → has_user_phone params ≡ has_user_phone params2 → number ≡ number2 → IsPhone user params number →
    IsPhone user params2 number2
like_phone user params params2 number number2 same_phone same_number is = (is.0, is.1, is.2, sym same_phone ∙ is.3, sym same_number ∙ is.4)

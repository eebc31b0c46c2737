-- The user whom a P-Served-User names, as the code reads it (RFC 5502 §6).
use Rattle.std.specs.Prelude.{Bool, Option, Some, None, List, codes, if◌then◌else◌}
use Rattle.mmtel_identity.specs.TrustDomain.{if_trusted}
use Rattle.mmtel_lex.specs.declared.values.NameAddr.{NameAddr}
use Rattle.mmtel_message.specs.Message.{Line, first_value}
use Rattle.mmtel_trust.specs.PrivateFields.{is_orig}
use Rattle.mmtel_trust.specs.HeaderTable.{name_addr_in}

-- the name-addr of the first P-Served-User of a trusted peer, where that can be read
abbrev pub named_user : Bool → List Line → Option NameAddr
named_user trusted ls = if_trusted trusted (name_addr_in (first_value (codes "P-Served-User") ls))

-- the user, where it is served as the caller
abbrev pub named_origin : Option NameAddr → Option NameAddr
named_origin None = None
named_origin (Some user) = if is_orig user.params then Some user else None

-- A message without its private places, by the values of Privacy alone (RFC 3323 §4.1, RFC 3325 §7). `mmtel_run_theorems` defines by which places two runs are compared.
use Rattle.std.specs.Prelude.{Bool, ◌||◌, [], None, if◌then◌else◌}
use Rattle.mmtel_trust.specs.ParsedMessage.{ParsedMessage}
use Rattle.mmtel_trust.specs.MaskedMessages as trust
use Rattle.mmtel_trust.specs.MaskedMessages.{MaskedMessage, Restriction}
use Rattle.mmtel_types.specs.declared.privacy.PrivacySet.{PrivacySet}

-- the sender asks that its identity be hidden (RFC 3323 §4.2, RFC 3325 §9.3)
abbrev pub is_hiding : PrivacySet → Bool
is_hiding wants = wants.id || (wants.user || wants.header)

-- a caller is restricted by the values of Privacy alone, and no account is looked up
abbrev pub by_privacy_header : Restriction
by_privacy_header wants account = is_hiding wants

-- a message of a trusted peer without its private places, and beside it what is determined of a restricted caller; a message of an untrusted peer is unchanged
abbrev pub masked_message : (trusted : Bool) → ParsedMessage → MaskedMessage
masked_message trusted message = if trusted then trust.mask by_privacy_header [] message else record { message = message; caller = None }

-- Whom the server serves in a call, and the state of a registration: the session cases and regstate (RFC 5502 §6, TS 24.229 §5.7.1.3A).
use Rattle.std.specs.Prelude.{Bool, true, false, not, ◌&&◌, Option, Some, None, is_none, if◌then◌else◌}
use Rattle.mmtel_types.specs.declared.numbers.Account.{Account}
use Rattle.mmtel_served_user.specs.declared.served_user.RegistrationState.{RegistrationState}
use Rattle.mmtel_served_user.specs.declared.served_user.RegistrationState.TheVariants.{Registered, Unregistered}
use Rattle.mmtel_served_user.specs.declared.served_user.Served.{Served}

-- only one session case is to be served, and its user belongs to no account
abbrev pub is_of_no_account : Served → Bool
is_of_no_account served = not served.both && (is_none served.origin && is_none served.target)

-- the account whose services apply at a target of this account to which the call is diverted; where only one case is served, the call returns through the core, which serves it
abbrev pub diverted_served : Served → Option Account → Option Account
diverted_served served account = if served.both then account else None

-- whether the user is registered: the given state decides, otherwise what the table of registrations says
abbrev pub is_registered : Option RegistrationState → (known : Bool) → Bool
is_registered None known = known
is_registered (Some Registered) known = true
is_registered (Some Unregistered) known = false

-- Who takes part in a call that a request opens: the account of its caller, the account of its target, and which of them are served (RFC 5502 §6 and §7.2, TS 24.229 §5.7.1.3A).
-- All except the caller's account is determined by what is never private.
--
-- A trusted peer may name the user who is served and the session case, in P-Served-User. That user alone determines the side of that case. Otherwise the caller is identified by
-- what the peer asserts of it, and the target by the Request-URI.
use Rattle.std.specs.Prelude.{ℕ, Bool, true, false, Option, Some, None, List, codes, if◌then◌else◌}
use Rattle.std.specs.Str.{bytes_eq}
use Rattle.mmtel_base.specs.Chain.{◌>>=◌}
use Rattle.mmtel_lex.specs.Reading.{uri_of}
use Rattle.mmtel_lex.specs.declared.values.Uri.{Uri}
use Rattle.mmtel_message.specs.declared.messages.Start.{Start}
use Rattle.mmtel_message.specs.declared.messages.Start.TheVariants.{Request, Status}
use Rattle.mmtel_types.specs.declared.numbers.Account.{Account}
use Rattle.mmtel_served_user.specs.declared.served_user.RegistrationState.{RegistrationState}
use Rattle.mmtel_served_user.specs.declared.served_user.RegistrationState.TheVariants.{Registered, Unregistered}
use Rattle.mmtel_served_user.specs.declared.served_user.Served.{Served}
use Rattle.mmtel_trust.specs.Accounts.{account_of}
use Rattle.mmtel_trust.specs.Asserted.{or_no_uri}
use Rattle.mmtel_trust.specs.ParsedMessage.{ParsedMessage, ServedUser, SessionCase, NoCase, Originating, Terminating, caller_account, served_in}
use Rattle.mmtel_trust.specs.declared.accounts.AccountIdentity.{AccountIdentity}
use Rattle.mmtel_call_parties.specs.declared.served.ServedSides.{ServedSides}
use Rattle.mmtel_call_parties.specs.declared.served.ServedSides.TheVariants.{Both, Origin, Target}
use Rattle.mmtel_call_parties.specs.declared.parties.Parties.{Parties}

-- ---- the user who is served

-- what the first P-Served-User asserts: only that of a trusted peer is believed
abbrev pub believed_user : ParsedMessage → ServedUser
believed_user m = if m.trusted then m.served else served_in None

-- the sides that are served: both where no user is named
abbrev pub sides_of : SessionCase → ServedSides
sides_of NoCase = Both
sides_of Originating = Origin
sides_of Terminating = Target

-- ---- accounts

-- the account of an identity, where there is one
abbrev pub account_by : List AccountIdentity → Option Uri → Option Account
account_by accounts identity = identity >>= account_of accounts

-- the account of a URI; none where it does not parse or has another scheme than sip and tel
abbrev pub account_in : List AccountIdentity → List ℕ → Option Account
account_in accounts uri = account_by accounts (or_no_uri (uri_of uri))

-- the account of the Request-URI
abbrev pub requested_account : List AccountIdentity → Start → Option Account
requested_account accounts (Request method uri) = account_in accounts uri
requested_account accounts (Status code phrase) = None

-- the account of the user who is served as the target, or else of the Request-URI
abbrev pub target_from : List AccountIdentity → Start → (user : Option (List ℕ)) → Option Account
target_from accounts start None = requested_account accounts start
target_from accounts start (Some uri) = account_in accounts uri

-- ---- registration

-- the registration state of the parameter regstate; any other word is none
abbrev pub state_of : Option (List ℕ) → Option RegistrationState
state_of None = None
state_of (Some word) = if bytes_eq word (codes "reg") then Some Registered else if bytes_eq word (codes "unreg") then Some Unregistered else None

-- the registration state that is asserted of the target: none of a target that is not named
abbrev pub registration_by : SessionCase → (regstate : Option (List ℕ)) → Option RegistrationState
registration_by NoCase regstate = None
registration_by Originating regstate = None
registration_by Terminating regstate = state_of regstate

-- ---- the parties

-- of a request whose caller has this account, with the user who is believed to be served
abbrev pub parties_by : List AccountIdentity → (caller : Option Account) → Start → ServedUser → Parties
parties_by accounts caller start user = record {
  origin = caller;
  target = target_from accounts start user.user;
  served = sides_of user.session_case;
  registration = registration_by user.session_case user.regstate;
}

-- of a received message
abbrev pub parties_of : List AccountIdentity → ParsedMessage → Parties
parties_of accounts m = parties_by accounts (caller_account accounts m) m.start (believed_user m)

-- ---- who is served

abbrev pub serves_origin : ServedSides → Bool
serves_origin Both = true
serves_origin Origin = true
serves_origin Target = false

abbrev pub serves_target : ServedSides → Bool
serves_target Both = true
serves_target Origin = false
serves_target Target = true

abbrev pub serves_both : ServedSides → Bool
serves_both Both = true
serves_both Origin = false
serves_both Target = false

-- the account whose services the caller has
abbrev pub origin_served : Parties → Option Account
origin_served p = if serves_origin p.served then p.origin else None

-- the account whose services the first target has
abbrev pub target_served : Parties → Option Account
target_served p = if serves_target p.served then p.target else None

-- the accounts that the server serves: each one on a side that is served
abbrev pub served_accounts : Parties → Served
served_accounts p = record { origin = origin_served p; target = target_served p; both = serves_both p.served }

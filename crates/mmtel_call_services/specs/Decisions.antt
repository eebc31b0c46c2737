-- What is decided of a call at a target and after an attempt (TS 24.604 §4.5.2.6, TS 24.611 §4.5.2, TS 24.615 §4.5.5). What is known of the call and the state of its target are
-- collected here, and mmtel_precedence decides on these values alone, without any message. Then what follows from the decision: the destination of an attempt, how long it may
-- ring, and which final response is relayed.
use Rattle.std.specs.Prelude.{ℕ, ◌+◌, ◌==◌, Bool, false, Option, Some, None}
use Rattle.std.specs.Option.{option_map, option_or}
use Rattle.mmtel_base.specs.Chain.{◌>>=◌}
use Rattle.mmtel_compose.specs.Attempts.{diverted_destination, first_destination}
use Rattle.mmtel_compose.specs.ReceivedMessages.{MessageView}
use Rattle.mmtel_compose.specs.declared.attempts.Destination.{Destination}
use Rattle.mmtel_lex.specs.Reading.{uri_of}
use Rattle.mmtel_lex.specs.declared.values.Uri.{Uri}
use Rattle.mmtel_call_parties.specs.Routing.{next_hop}
use Rattle.mmtel_precedence.specs.Calls.{AttemptEndView, ReachedTargetView, SnapshotView, is_registered_at, sheet_at}
use Rattle.mmtel_precedence.specs.Services.{DueDiversionView, ServedAccountView}
use Rattle.mmtel_precedence.specs.Targets.{party_of}
use Rattle.mmtel_precedence.specs.NextSteps.{NextStepView, StepAfterAttemptView, next_step_at, step_after_attempt}
use Rattle.mmtel_precedence.specs.Verdicts.{refusal_before_diversion}
use Rattle.mmtel_rules.specs.Abroad.{is_abroad}
use Rattle.mmtel_rules.specs.Facts.{FactsView}
use Rattle.mmtel_rules.specs.Identities.{has_identity, identity_holds}
use Rattle.mmtel_rules.specs.declared.values.Identities2.{Identities2}
use Rattle.mmtel_sheet_values.specs.NoReply.{no_reply_time}
use Rattle.mmtel_sheet_values.specs.declared.values.Sheet.{Sheet}
use Rattle.mmtel_served_user.specs.ServedUser.{diverted_served}
use Rattle.mmtel_served_user.specs.Targets.{diverted_target, is_unknown, new_target}
use Rattle.mmtel_served_user.specs.declared.served_user.RegistrationState.{RegistrationState}
use Rattle.mmtel_served_user.specs.declared.targets.Target.{Target}
use Rattle.mmtel_trust.specs.Accounts.{account_of}
use Rattle.mmtel_trust.specs.Asserted.{or_no_uri}
use Rattle.mmtel_types.specs.declared.causes.Cause.{Cause}
use Rattle.mmtel_types.specs.declared.causes.Cause.TheVariants as causes
use Rattle.mmtel_types.specs.declared.numbers.Account.{Account}
use Rattle.mmtel_types.specs.declared.numbers.Peer.{Peer}
use Rattle.mmtel_call_services.specs.CallConfig.{CallConfigView}
use Rattle.mmtel_call_services.specs.declared.openings.Opening.{Opening}
use Rattle.mmtel_call_services.specs.declared.openings.Service.{Service}

-- ---- what is known of the call

-- at a moment, with these identities of the other party, whether the call was diverted before, and whether its target is in another country
abbrev pub call_facts : Identities2 → Opening → (at : ℕ) → (diverted abroad : Bool) → FactsView
call_facts party o at diverted abroad = record {
  identity_matches = identity_holds party;
  has_identity = has_identity party;
  restricted = o.restricted;
  media = o.media;
  now = at;
  diverted = diverted;
  abroad = abroad;
}

-- where the caller is the other party
abbrev pub caller_facts : Opening → (at : ℕ) → (diverted : Bool) → FactsView
caller_facts o at diverted = call_facts o.identities o at diverted false

-- where this target is the other party
abbrev pub target_facts : CallConfigView → Opening → (at : ℕ) → Uri → FactsView
target_facts config o at uri = call_facts (party_of uri) o at false (is_abroad uri config.country)

-- ---- the state of a target; the cause is that of the diversion that led to it, and the first target has none

-- the account that is served there
abbrev pub served_at : CallConfigView → Opening → (cause : Option ℕ) → Target → Option Account
served_at config o None target = o.served.target
served_at config o (Some cause) target = diverted_served o.served (account_of config.accounts target.uri)

-- the registration state that was reported for it
abbrev pub registration_at : Opening → (cause : Option ℕ) → Option RegistrationState
registration_at o None = o.registration
registration_at o (Some cause) = None

-- the account to which it belongs: the one that is served for it, otherwise the one that has its URI
abbrev pub account_for : CallConfigView → Opening → (cause : Option ℕ) → Target → Option Account
account_for config o cause target = option_or (served_at config o cause target) (account_of config.accounts target.uri)

-- the peer to which an attempt there goes
abbrev pub peer_for : CallConfigView → Opening → Target → Option Peer
peer_for config o target = next_hop config.peers.routes o.routes target.uri

-- the account that is served there, with its current record
abbrev pub service_of : SnapshotView → Account → Service
service_of now account = record { account = account; sheet = sheet_at now account }

abbrev pub service_at : CallConfigView → SnapshotView → Opening → (cause : Option ℕ) → Target → Option Service
service_at config now o cause target = option_map (service_of now) (served_at config o cause target)

-- the current state of that account
abbrev pub account_state : SnapshotView → (told : Option RegistrationState) → Service → ServedAccountView
account_state now told service = record { sheet = service.sheet; registered = is_registered_at now told service.account; live = now.live service.account.0 }

-- the state of the target, where this account is served there and this peer is its next hop
abbrev pub reached_target : CallConfigView → SnapshotView → Opening → (cause : Option ℕ) → Target → Option Service → Option Peer → ReachedTargetView
reached_target config now o cause target service peer = record {
  at = now.at;
  served = option_map (account_state now (registration_at o cause)) service;
  is_unknown = is_unknown config.home (account_for config o cause target) target;
  peer = peer;
}

-- ---- what is decided

-- at a target: the call is offered to it, diverted or refused
abbrev pub decision_at : CallConfigView → SnapshotView → Opening → (diverted : Bool) → (cause : Option ℕ) → Target → Option Service → Option Peer → NextStepView
decision_at config now o diverted cause target service peer = next_step_at (caller_facts o now.at diverted) (reached_target config now o cause target service peer)

-- the record under which an attempt was offered
abbrev pub sheet_of : Service → Sheet
sheet_of service = service.sheet

abbrev pub service_sheet : Option Service → Option Sheet
service_sheet service = option_map sheet_of service

-- after an attempt that ended in this way
abbrev pub decision_after : Opening → (at : ℕ) → (diverted : Bool) → Option Service → AttemptEndView → StepAfterAttemptView
decision_after o at diverted service how = step_after_attempt (caller_facts o at diverted) (service_sheet service) how

-- the cause that refuses a diversion that is due, if any: this many came with the call or were made, and the configured bound leaves this many
abbrev pub refusal_of_diversion : CallConfigView → Opening → (at count left : ℕ) → Option Service → DueDiversionView → Option Cause
refusal_of_diversion config o at count left service due =
    refusal_before_diversion (target_facts config o at (new_target config.home due.forward.target)) (service_sheet service) count 0 (count + left) due

-- the URI to which a 3xx redirects, if that is a sip or tel URI (RFC 3261 §21.3)
abbrev pub redirect_of : MessageView → Option Uri
redirect_of m = m.parsed.redirect >>= λ uri. or_no_uri (uri_of uri)

-- ---- what follows from it

-- the target of a diversion
abbrev pub diversion_target : CallConfigView → DueDiversionView → Target
diversion_target config due = diverted_target config.home due.forward.target

-- the destination of an attempt: the first target as the INVITE requested it, or the target of a diversion with this cause
abbrev pub destination_of : Opening → Peer → (cause : Option ℕ) → Target → Destination
destination_of o peer None target = first_destination peer o.routes o.invite.parsed
destination_of o peer (Some cause) target = diverted_destination peer o.routes target.uri cause

-- the no-reply time of the record; it starts with the first 180 to 183
abbrev pub no_reply_time_of : Option Sheet → Option ℕ
no_reply_time_of None = None
no_reply_time_of (Some sheet) = no_reply_time sheet

-- the status of a target's final response that a cause relays
abbrev pub relayed_status : Cause → Option ℕ
relayed_status (causes.Relayed code) = Some code
relayed_status (causes.Unreachable code) = Some code
relayed_status cause = None

abbrev pub is_status : ℕ → Option ℕ → Bool
is_status code None = false
is_status code (Some other) = other == code

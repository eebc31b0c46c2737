-- What is done with a call at one target: the decision of the services of the account that is served there when it is reached, and after the ending of its attempt (TS 24.604
-- §4.5.2.6, TS 24.611 §4.5.2, TS 24.615 §4.5.5).
use Rattle.std.specs.Prelude.{ℕ, ◌+◌, Bool, true, false, nat_lt, if◌then◌else◌, List, [], ◌∷◌, ◌++◌, Option, Some, None, is_none, option_and_then}
use Rattle.std.specs.Option.{option_map, option_map_or, option_or}
use Rattle.mmtel_types.specs.declared.causes.Cause.{Cause}
use Rattle.mmtel_types.specs.declared.causes.Cause.TheVariants as causes
use Rattle.mmtel_types.specs.declared.numbers.Account.{Account}
use Rattle.mmtel_lex.specs.declared.values.Uri.{Uri}
use Rattle.mmtel_lex.specs.declared.values.Uri.TheVariants.{Sip, Tel}
use Rattle.mmtel_served_user.specs.ServedUser.{diverted_served}
use Rattle.mmtel_served_user.specs.Targets.{is_global_number, is_unknown, new_target}
use Rattle.mmtel_served_user.specs.declared.served_user.RegistrationState.{RegistrationState}
use Rattle.mmtel_rules.specs.Abroad.{is_abroad}
use Rattle.mmtel_rules.specs.Facts.{FactsView}
use Rattle.mmtel_rules.specs.Identities.{identity_holds}
use Rattle.mmtel_rules.specs.declared.values.When.{When}
use Rattle.mmtel_rules.specs.declared.values.When.TheVariants as event
use Rattle.mmtel_rules.specs.declared.values.Identities2.{Identities2}
use Rattle.mmtel_diversion.specs.Diversion.{deflection_of}
use Rattle.mmtel_precedence.specs.Services.{ServedAccountView, DueDiversionView, ServiceDecision, Nothing, Refuses}
use Rattle.mmtel_precedence.specs.Services.{Diverts, refuses_if, first_decision, due_on, own_bound, bars_outgoing}
use Rattle.mmtel_precedence.specs.Services.{services_on_arrival}
use Rattle.mmtel_precedence.specs.Calls.{AttemptEndView, Answer, Cancel, Unacknowledged, UserBusy, NotReachable, NoReply}
use Rattle.mmtel_precedence.specs.Calls.{Deflection, Other, EndedAttempt, SnapshotView, ReachedTargetView, CallInputs}
use Rattle.mmtel_precedence.specs.Calls.{snapshot_after, caller_hides, account_at_snapshot, OfferState, NotOffered, Offered, OutcomeTarget, CallResult, Pending, Answered, Final}

-- ---- reaching it

-- the account that is served at a target: at the first one that of the call; at a later one that of the target where both session cases are served,
-- else none, since the call comes back through the core
abbrev pub served_at : CallInputs → Option DueDiversionView → Uri → Option Account
served_at call None uri = call.served.target
served_at call (Some due) uri = diverted_served call.served (call.account_of uri)

-- the registration state that was given with the call is that of the first target
abbrev pub registration_at : CallInputs → Option DueDiversionView → Option RegistrationState
registration_at call None = call.registration
registration_at call (Some due) = None

-- the account of the target: the one that is served for it, or else the one that has it as an identity
abbrev pub account_for : CallInputs → Option DueDiversionView → Uri → Option Account
account_for call by uri = option_or (served_at call by uri) (call.account_of uri)

-- the diversion was to a telephone number, to which calls are diverted in the home domain
abbrev pub is_by_number : Option DueDiversionView → Bool
is_by_number None = false
is_by_number (Some due) = is_global_number due.forward.target

-- of the home domain, and of no account; a telephone number that is the target of a diversion need not be of an account
abbrev pub is_unassigned : CallInputs → Option DueDiversionView → Uri → Bool
is_unassigned call by uri = is_unknown call.home (account_for call by uri) (record { uri = uri; of_number = is_by_number by })

-- the target, in this state
abbrev pub reached_target_in : SnapshotView → CallInputs → Uri → Option DueDiversionView → ReachedTargetView
reached_target_in standing call uri by = record {
  at = standing.at;
  served = option_map (account_at_snapshot standing (registration_at call by)) (served_at call by uri);
  is_unknown = is_unassigned call by uri;
  peer = call.peer_of uri;
}

-- the target that is reached after k diversions, the last of which led to it, in the state when it was reached
abbrev pub reached_target_after : CallInputs → (k : ℕ) → Uri → Option DueDiversionView → ReachedTargetView
reached_target_after call k uri by = reached_target_in (snapshot_after call k) call uri by

-- a diversion came before the target that is reached after k diversions: one with which the call was received, or one that was made
abbrev pub is_diverted : CallInputs → (k : ℕ) → Bool
is_diverted call k = nat_lt 0 (call.received + k)

-- the facts of the call at a moment, where its caller is the other party, at the target that is reached after k diversions
abbrev pub caller_facts : CallInputs → (k : ℕ) → ℕ → FactsView
caller_facts call k now = record {
  identity_matches = call.identity_matches;
  has_identity = call.has_identity;
  restricted = caller_hides call;
  media = call.media;
  now = now;
  diverted = is_diverted call k;
  abroad = false;
}

-- the decision of the services of the account that is served there, in their precedence; then, whoever is served: a target of the home domain that is of no account is refused, and
-- one to which no peer is the route
abbrev pub decision_on_arrival : CallInputs → (k : ℕ) → ReachedTargetView → ServiceDecision
decision_on_arrival call k reach =
    first_decision (option_map_or (services_on_arrival (caller_facts call k reach.at)) reach.served [] ++ refuses_if reach.is_unknown causes.NoAccount
    ∷ refuses_if (is_none reach.peer) causes.NoRoute ∷ [])

-- the user has another call already
abbrev pub is_waiting : Option ServedAccountView → Bool
is_waiting served = option_map_or (λ (account : ServedAccountView). nat_lt 0 account.live) served false

-- the call is offered where no service decided
abbrev pub offer_by : ServiceDecision → Option ServedAccountView → OfferState
offer_by Nothing served = Offered (is_waiting served)
offer_by (Refuses cause) served = NotOffered
offer_by (Diverts due) served = NotOffered

-- the target that is reached after k diversions
abbrev pub target_at : CallInputs → (k : ℕ) → Uri → Option DueDiversionView → OutcomeTarget
target_at call k uri by = record {
  uri = uri;
  diversion = by;
  offer = offer_by (decision_on_arrival call k (reached_target_after call k uri by)) (reached_target_after call k uri by).served;
}

-- ---- a diversion

-- the URI as the only identity of a party
abbrev pub party_of : Uri → Identities2
party_of (Sip user host port params headers) = record { sip = Some (Sip user host port params headers); tel = None }
party_of (Tel number params) = record { sip = None; tel = Some (Tel number params) }

-- the facts of the call at a moment, where this target is the other party; whether the call was diverted is not evaluated then
abbrev pub target_facts : CallInputs → ℕ → Uri → FactsView
target_facts call now target = record {
  identity_matches = identity_holds (party_of target);
  has_identity = true;
  restricted = caller_hides call;
  media = call.media;
  now = now;
  diverted = false;
  abroad = is_abroad target call.country;
}

-- the outgoing barring of the account that diverts refuses the new target
abbrev pub is_refused : CallInputs → Option ServedAccountView → (now : ℕ) → DueDiversionView → Bool
is_refused call served now due =
    option_map_or (λ (account : ServedAccountView). bars_outgoing (target_facts call now (new_target call.home due.forward.target)) account.sheet) served false

-- the diversion by the rules of the account for the event; none where no account is served
abbrev pub due_at : FactsView → When → Option ServedAccountView → Option DueDiversionView
due_at c when served = option_and_then (λ (account : ServedAccountView). due_on c when account.sheet) served

-- a deflection goes to the target of the response, and reveals everything
abbrev pub deflection_to : Uri → (bound : Option ℕ) → ℕ → DueDiversionView
deflection_to target bound cause = record {
  forward = record {
    target = target;
    notify_caller = true;
    reveal_to_caller = true;
    reveal_served_to_caller = true;
    reveal_to_target = true;
  };
  cause = cause;
  bound = bound;
}

-- the deflection, where the account that is served allows it
abbrev pub deflection_at : Option ServedAccountView → Uri → (rang : Bool) → Option DueDiversionView
deflection_at served target rang =
    option_and_then (λ (account : ServedAccountView). option_map (deflection_to target (own_bound account.sheet)) (deflection_of account.sheet rang)) served

-- ---- the outcome at a target

-- the call goes no further; or a diversion is due that outgoing barring does not refuse, and these endings are pending
pub data TargetOutcome : Type 0 where
  Rests : (result : CallResult) → TargetOutcome
  IsDue : (due : DueDiversionView) → (later : List EndedAttempt) → TargetOutcome

-- a diversion by the account that is served, at this moment, unless outgoing barring refuses it
abbrev pub outcome_of_diversion : CallInputs → Option ServedAccountView → (now : ℕ) → DueDiversionView → List EndedAttempt → TargetOutcome
outcome_of_diversion call served now due later = if is_refused call served now due then Rests (Final causes.OutgoingBarred) else IsDue due later

-- a diversion where one is due, else the cause
abbrev pub outcome_of_diversion_or : CallInputs → Option ServedAccountView → (now : ℕ) → Option DueDiversionView → Cause → List EndedAttempt → TargetOutcome
outcome_of_diversion_or call served now None cause later = Rests (Final cause)
outcome_of_diversion_or call served now (Some due) cause later = outcome_of_diversion call served now due later

-- an attempt ended: the account's rules for its ending come first, then its cause
abbrev pub target_outcome_on : CallInputs → (k : ℕ) → Option ServedAccountView → (now : ℕ) → AttemptEndView → List EndedAttempt → TargetOutcome
target_outcome_on call k served now Answer later = Rests Answered
target_outcome_on call k served now Cancel later = Rests (Final causes.Cancelled)
target_outcome_on call k served now Unacknowledged later = Rests (Final causes.Unacknowledged)
target_outcome_on call k served now (UserBusy code) later = outcome_of_diversion_or call served now (due_at (caller_facts call k now) event.Busy served) (causes.Relayed code) later
target_outcome_on call k served now (NotReachable code) later =
    outcome_of_diversion_or call served now (due_at (caller_facts call k now) event.NotReachable served) (causes.Unreachable code) later
target_outcome_on call k served now NoReply later = outcome_of_diversion_or call served now (due_at (caller_facts call k now) event.NoAnswer served) causes.NoReply later
target_outcome_on call k served now (Deflection target rang) later = outcome_of_diversion_or call served now (deflection_at served target rang) (causes.Relayed 480) later
target_outcome_on call k served now (Other code) later = Rests (Final (causes.Relayed code))

-- by the decision when the target was reached; an offered call remains there until its attempt ends, with the account as it was when the target was reached
abbrev pub target_outcome_at : ServiceDecision → CallInputs → (k : ℕ) → ReachedTargetView → List EndedAttempt → TargetOutcome
target_outcome_at Nothing call k reach [] = Rests Pending
target_outcome_at Nothing call k reach (ended ∷ later) = target_outcome_on call k reach.served ended.at ended.how later
target_outcome_at (Refuses cause) call k reach endings = Rests (Final cause)
target_outcome_at (Diverts due) call k reach endings = outcome_of_diversion call reach.served reach.at due endings

-- at the target that is reached after k diversions
abbrev pub target_outcome_after : CallInputs → (k : ℕ) → Uri → Option DueDiversionView → List EndedAttempt → TargetOutcome
target_outcome_after call k uri by endings = target_outcome_at (decision_on_arrival call k (reached_target_after call k uri by)) call k (reached_target_after call k uri by) endings

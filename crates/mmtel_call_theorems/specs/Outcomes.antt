-- The call of a trace as the precedence of services uses it, and its Outcome (TS 24.604 §4.5.2.6, TS 24.611 §4.5.2, TS 24.615 §4.5.5).
use Rattle.std.specs.Prelude.{ℕ, suc, ◌-◌, nat_lt, if◌then◌else◌, List, [], ◌∷◌, Option, Some, None}
use Rattle.mmtel_history.specs.HistoryInfo.{diversions_in}
use Rattle.mmtel_lex.specs.declared.values.Uri.{Uri}
use Rattle.mmtel_call_parties.specs.Routing.{next_hop}
use Rattle.mmtel_precedence.specs.Calls as precedence
use Rattle.mmtel_precedence.specs.Calls.{OutcomeTarget, SnapshotView}
use Rattle.mmtel_precedence.specs.Outcome.{outcome}
use Rattle.mmtel_precedence.specs.Targets.{reached_target_after}
use Rattle.mmtel_precedence.specs.NextSteps.{sheet_of}
use Rattle.mmtel_rules.specs.Identities.{has_identity, identity_holds}
use Rattle.mmtel_sheet_values.specs.declared.values.Sheet.{Sheet}
use Rattle.mmtel_trust.specs.Accounts.{account_of}
use Rattle.mmtel_types.specs.declared.numbers.Peer.{Peer}
use Rattle.mmtel_call_services.specs.Opening.{initial_target, received_history}
use Rattle.mmtel_call_services.specs.CallConfig.{CallConfigView}
use Rattle.mmtel_call_services.specs.declared.openings.Opening.{Opening}
use Rattle.mmtel_call.specs.declared.calls.Call.{Call}
use Rattle.mmtel_call.specs.declared.calls.Phase.{Phase}
use Rattle.mmtel_call.specs.declared.calls.Phase.TheVariants.{Detached, Established, Offered, Over}
use Rattle.mmtel_call_theorems.specs.Endings.{endings_after}
use Rattle.mmtel_call_theorems.specs.CallTrace.{TraceStart, TraceStep, call_after, opening_in}

-- ---- the call

-- the peer that is the next hop for a target
abbrev pub peer_to : CallConfigView → Opening → Uri → Option Peer
peer_to config o uri = next_hop config.peers.routes o.routes uri

-- the diversions in its History-Info when it arrived
abbrev pub received_diversions : Opening → ℕ
received_diversions o = diversions_in (received_history o.invite)

-- where the first is the state when it opened, and the others the states when it reached the targets of its diversions
abbrev pub call_inputs_of : CallConfigView → (first : SnapshotView) → Opening → (later : ℕ → SnapshotView) → precedence.CallInputs
call_inputs_of config first o later = record {
  privacy = o.invite.parsed.wants;
  served = o.served;
  registration = o.registration;
  identity_matches = identity_holds o.identities;
  has_identity = has_identity o.identities;
  media = o.media;
  received = received_diversions o;
  bound = config.bound;
  country = config.country;
  home = config.home;
  account_of = account_of config.accounts;
  peer_of = peer_to config o;
  first_target = (initial_target o).uri;
  opening_snapshot = first;
  later_snapshots = later;
}

-- ---- the state at each target

-- how many diversions the bound leaves a call when it arrives
abbrev pub initially_remaining : TraceStart → ℕ
initially_remaining s = s.config.bound - received_diversions (opening_in s)

-- how many were made since
abbrev pub diversions_made_in : TraceStart → Call → ℕ
diversions_made_in s c = initially_remaining s - c.diversions.remaining

abbrev pub diversions_made_after : TraceStart → List TraceStep → ℕ
diversions_made_after s received = diversions_made_in s (call_after s received)

-- the state when it reached the target of its next diversion after k others: in the first step after which more than k were made; the last state, if there was no such step yet
unfoldable pub snapshot_at_diversion : TraceStart → List TraceStep → (k : ℕ) → SnapshotView
snapshot_at_diversion s [] k = s.now
snapshot_at_diversion s (x ∷ earlier) k = if nat_lt k (diversions_made_after s earlier) then snapshot_at_diversion s earlier k else x.now

abbrev pub call_inputs_after : TraceStart → List TraceStep → precedence.CallInputs
call_inputs_after s received = call_inputs_of s.config s.now (opening_in s) (snapshot_at_diversion s received)

-- ---- its Outcome

abbrev pub outcome_after : TraceStart → List TraceStep → precedence.Outcome
outcome_after s received = outcome (call_inputs_after s received) (endings_after s received)

-- the record of the account that is served at the last of these targets, the first of which was reached after k diversions; as it was when the call reached that target
abbrev pub last_record : precedence.CallInputs → (k : ℕ) → List OutcomeTarget → Option Sheet
last_record call k [] = None
last_record call k (target ∷ []) = sheet_of (reached_target_after call k target.uri target.diversion)
last_record call k (target ∷ next ∷ later) = last_record call (suc k) (next ∷ later)

-- the result of a call so far, by whether it was answered and by its phase
abbrev pub result_if_answered : Option ℕ → precedence.CallResult → precedence.CallResult
result_if_answered None result = result
result_if_answered (Some at) result = precedence.Answered

abbrev pub result_in : Phase → Option ℕ → precedence.CallResult
result_in (Offered x) answered = precedence.Pending
result_in (Established x stage) answered = precedence.Answered
result_in (Detached detached) answered = precedence.Answered
result_in (Over cause) answered = result_if_answered answered (precedence.Final cause)

abbrev pub result_of : Call → precedence.CallResult
result_of c = result_in c.phase c.answered

-- The inputs of a call, and its outcome (TS 24.604 §4.5.2.6, TS 24.611 §4.5.2, TS 24.615 §4.5.5).
use Rattle.std.specs.Prelude.{ℕ, zero, suc, Bool, List, [], ◌∷◌, Option, unwrap_or}
use Rattle.std.specs.Option.{option_map}
use Rattle.mmtel_types.specs.declared.causes.Cause.{Cause}
use Rattle.mmtel_types.specs.declared.numbers.Account.{Account}
use Rattle.mmtel_types.specs.declared.numbers.Peer.{Peer}
use Rattle.mmtel_types.specs.declared.privacy.PrivacySet.{PrivacySet}
use Rattle.mmtel_lex.specs.declared.values.Uri.{Uri}
use Rattle.mmtel_sheet_values.specs.Sheets.{empty_sheet}
use Rattle.mmtel_sheet_values.specs.View.{is_registered as is_in_table}
use Rattle.mmtel_sheet_values.specs.declared.values.Sheet.{Sheet}
use Rattle.mmtel_sheet_values.specs.declared.values.Who.{Who}
use Rattle.mmtel_identity.specs.Restriction.{is_caller_restricted}
use Rattle.mmtel_served_user.specs.ServedUser.{is_registered}
use Rattle.mmtel_served_user.specs.declared.served_user.RegistrationState.{RegistrationState}
use Rattle.mmtel_served_user.specs.declared.served_user.Served.{Served}
use Rattle.mmtel_precedence.specs.Services.{DueDiversionView, ServedAccountView}

-- ---- inputs

-- how an attempt that was offered ended
pub data AttemptEndView : Type 0 where
  -- a 2xx
  Answer : AttemptEndView
  -- the caller abandoned the call
  Cancel : AttemptEndView
  -- the caller did not acknowledge a reliable response that it was sent (RFC 3262 §3)
  Unacknowledged : AttemptEndView
  -- a 486 or 600: user determined user busy
  UserBusy : (code : ℕ) → AttemptEndView
  -- a 408, 500 or 503 before it rang, or a transaction timeout, which counts as a 408
  NotReachable : (code : ℕ) → AttemptEndView
  -- it rang for too long
  NoReply : AttemptEndView
  -- a 302 to this target: communication deflection, before or after it rang
  Deflection : (target : Uri) → (rang : Bool) → AttemptEndView
  -- any other final response
  Other : (code : ℕ) → AttemptEndView

-- an end, and its moment
pub record EndedAttempt : Type 0 where
  pub at : ℕ
  pub how : AttemptEndView

-- the state when the call reached a target: the moment; and, by the numbers of accounts, the records in force and the ends of registrations, and the live calls: one for each that
-- is the account's own, including this call, and one for each that is offered to it, never including this call
pub record SnapshotView : Type 0 where
  pub at : ℕ
  pub sheets : ℕ → Option Sheet
  pub registration_ends : ℕ → Option ℕ
  pub live : ℕ → ℕ

-- a call
pub record CallInputs : Type 0 where
  -- the words of its Privacy (RFC 3323); which users the server serves in it (the session cases of RFC 5502), and the registration state of its target that was given with the
  -- call, if one was
  pub privacy : PrivacySet
  pub served : Served
  pub registration : Option RegistrationState
  -- of the caller: whether the identity part of a condition is true of it, and whether it has an identity at all
  pub identity_matches : Who → Bool
  pub has_identity : Bool
  -- the kinds of media that it offers
  pub media : List (List ℕ)
  -- the diversions that its History-Info listed when it came in, and the bound
  pub received : ℕ
  pub bound : ℕ
  -- the home domain, the digits of the home country where they are known, the accounts by their identities, and the peer that is the route to a target, if there is one
  pub home : List ℕ
  pub country : Option (List ℕ)
  pub account_of : Uri → Option Account
  pub peer_of : Uri → Option Peer
  -- its first target
  pub first_target : Uri
  -- the state when it was opened, which is when it reached its first target; and when it reached the target of its next diversion after so many others
  pub opening_snapshot : SnapshotView
  pub later_snapshots : ℕ → SnapshotView

-- ---- derived values

-- the state when it reached a target after k diversions
abbrev pub snapshot_after : CallInputs → (k : ℕ) → SnapshotView
snapshot_after call zero = call.opening_snapshot
snapshot_after call (suc k) = call.later_snapshots k

-- the record of an account; an account without one counts as one whose record is empty
abbrev pub sheet_at : SnapshotView → Account → Sheet
sheet_at standing account = unwrap_or (standing.sheets account.0) empty_sheet

-- the record of the account that is served as the caller, if one is, as it was at the opening
abbrev pub origin_sheet : CallInputs → Option Sheet
origin_sheet call = option_map (sheet_at call.opening_snapshot) call.served.origin

-- the caller's identity is restricted (OIR, TS 24.607 §4.5.2)
abbrev pub caller_hides : CallInputs → Bool
caller_hides call = is_caller_restricted call.privacy (origin_sheet call)

-- the account is registered: as was given with the call, or else until its registration ends
abbrev pub is_registered_at : SnapshotView → (told : Option RegistrationState) → Account → Bool
is_registered_at standing told account = is_registered told (is_in_table (standing.registration_ends account.0) standing.at)

-- the account in that state
abbrev pub account_at_snapshot : SnapshotView → (told : Option RegistrationState) → Account → ServedAccountView
account_at_snapshot standing told account = record { sheet = sheet_at standing account; registered = is_registered_at standing told account; live = standing.live account.0 }

-- a target in the state when the call reached it
pub record ReachedTargetView : Type 0 where
  -- the moment
  pub at : ℕ
  -- the account that is served there
  pub served : Option ServedAccountView
  -- it is of the home domain and of no account, and no telephone number that is the target of a diversion
  pub is_unknown : Bool
  -- the peer that is the route to it, if there is one
  pub peer : Option Peer

-- ---- outcome

-- whether a call that reached a target was offered to it, and whether as waiting
pub data OfferState : Type 0 where
  NotOffered : OfferState
  Offered : (waiting : Bool) → OfferState

-- a target that the call reached, the diversion that led there, with its forward and its cause, and whether it was offered
pub record OutcomeTarget : Type 0 where
  pub uri : Uri
  pub diversion : Option DueDiversionView
  pub offer : OfferState

pub data CallResult : Type 0 where
  Pending : CallResult
  Answered : CallResult
  Final : (cause : Cause) → CallResult

pub record Outcome : Type 0 where
  pub targets : List OutcomeTarget
  pub result : CallResult

-- a call that is refused before it reaches a target
abbrev pub refused_outcome : Cause → Outcome
refused_outcome cause = record { targets = []; result = Final cause }

-- the last target of a call
abbrev pub outcome_at_last_target : OutcomeTarget → CallResult → Outcome
outcome_at_last_target target result = record { targets = target ∷ []; result = result }

-- a target before others
abbrev pub outcome_after_target : OutcomeTarget → Outcome → Outcome
outcome_after_target target outcome = record { targets = target ∷ outcome.targets; result = outcome.result }

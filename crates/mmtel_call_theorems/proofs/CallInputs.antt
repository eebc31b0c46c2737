-- The facts about a call at a target and after an attempt are those that the precedence of services uses.
use Rattle.std.proofs.Common.{◌≡◌, ℕ, ◌+◌, ◌-◌, ◌≤◌, ◌<◌, Bool, true, false, arith, refl, ap, sym, ◌∙◌}
use Rattle.std.proofs.lemmas.Bool.Decides.{nat_tests}
use Rattle.std.specs.Prelude.{Option, Some, None, is_none, min, nat_lt, not, ◌&&◌, if◌then◌else◌, Result, Ok, Err, unwrap_or}
use Rattle.std.specs.Option.{option_map}
use Rattle.mmtel_leg.specs.Dialogues.{request_uri}
use Rattle.mmtel_lex.specs.Reading.{Refusal, uri_of}
use Rattle.mmtel_lex.specs.declared.values.Uri.{Uri}
use Rattle.mmtel_lex.specs.declared.values.Uri.TheVariants.{Sip, Tel}
use Rattle.mmtel_precedence.specs.Calls.{ReachedTargetView, SnapshotView, account_at_snapshot, sheet_at, snapshot_after}
use Rattle.mmtel_precedence.specs.Moves.{account_at}
use Rattle.mmtel_precedence.specs.Services.{DueDiversionView, ServedAccountView, bars_outgoing, bound_of}
use Rattle.mmtel_precedence.specs.Targets as targets
use Rattle.mmtel_precedence.specs.Targets.{is_by_number, reached_target_after, reached_target_in}
use Rattle.mmtel_precedence.specs.NextSteps as turns
use Rattle.mmtel_precedence.specs.Verdicts.{refusal_at_bound, refusal_before_diversion, too_many}
use Rattle.mmtel_sheet_values.specs.declared.values.Sheet.{Sheet}
use Rattle.mmtel_identity.specs.Restriction.{is_caller_restricted}
use Rattle.mmtel_rules.specs.Facts.{FactsView}
use Rattle.mmtel_served_user.specs.Targets.{is_at_home, new_target, requested_target}
use Rattle.mmtel_served_user.specs.declared.served_user.RegistrationState.{RegistrationState}
use Rattle.mmtel_served_user.specs.declared.targets.Target.{Target}
use Rattle.mmtel_types.specs.declared.causes.Cause.TheVariants as causes
use Rattle.mmtel_types.specs.declared.numbers.Account.{Account}
use Rattle.mmtel_types.specs.declared.numbers.Peer.{Peer}
use Rattle.mmtel_call_services.specs.Decisions as decisions
use Rattle.mmtel_call_services.specs.Decisions.{account_for, account_state, peer_for, reached_target, registration_at, served_at, service_at, service_of, service_sheet}
use Rattle.mmtel_call_services.specs.Opening.{initial_target, no_target}
use Rattle.mmtel_call_services.specs.CallConfig.{CallConfigView}
use Rattle.mmtel_call_services.specs.declared.openings.Opening.{Opening}
use Rattle.mmtel_call_services.specs.declared.openings.Service.{Service}
use Rattle.mmtel_call_theorems.specs.Outcomes.{call_inputs_of, received_diversions}

-- what the opening has of the record of the account that is served as the caller, where this was the state
pub record IsKnown (first : SnapshotView) (o : Opening) : Type 0 where
  pub sheet : o.sheet ≡ option_map (sheet_at first) o.served.origin
  pub restricted : o.restricted ≡ is_caller_restricted o.invite.parsed.wants (option_map (sheet_at first) o.served.origin)

-- the cause of a diversion, if one led to the target
abbrev pub cause_of : Option DueDiversionView → Option ℕ
cause_of by = option_map (λ (due : DueDiversionView). due.cause) by

-- the URI to which a diversion leads
abbrev pub target_uri : CallConfigView → DueDiversionView → Uri
target_uri config due = new_target config.home due.forward.target

-- ---- the facts

-- where this many diversions were received and made
pub of_caller-known : (config : CallConfigView) (first : SnapshotView) (o : Opening) (later : ℕ → SnapshotView) (k count at : ℕ) → IsKnown first o → count ≡ received_diversions o + k →
    decisions.caller_facts o at (nat_lt 0 count) ≡ targets.caller_facts (call_inputs_of config first o later) k at
of_caller-known config first o later k count at known counted =
    ap (λ n. decisions.caller_facts o at (nat_lt 0 n)) counted ∙ ap (λ r. record (decisions.caller_facts o at (nat_lt 0 (received_diversions o + k))) { restricted = r }) known.restricted

pub of_target-known : (config : CallConfigView) (first : SnapshotView) (o : Opening) (later : ℕ → SnapshotView) (at : ℕ) (uri : Uri) → IsKnown first o →
    decisions.target_facts config o at uri ≡ targets.target_facts (call_inputs_of config first o later) at uri
of_target-known config first o later at (Sip user host port params headers) known = ap (λ r. record (decisions.target_facts config o at (Sip user host port params headers)) { restricted = r }) known.restricted
of_target-known config first o later at (Tel number params) known = ap (λ r. record (decisions.target_facts config o at (Tel number params)) { restricted = r }) known.restricted

-- ---- a target

account-known : (now : SnapshotView) (told : Option RegistrationState) (served : Option Account) →
    option_map (account_at_snapshot now told) served ≡ option_map (account_state now told) (option_map (service_of now) served)
account-known now told None = refl
account-known now told (Some account) = refl

abbrev reach : (at : ℕ) → Option ServedAccountView → (unknown : Bool) → Option Peer → ReachedTargetView
reach at served unknown peer = record { at = at; served = served; is_unknown = unknown; peer = peer }

reach-same : (at : ℕ) (served served2 : Option ServedAccountView) (unknown unknown2 : Bool) (peer : Option Peer) → served ≡ served2 → unknown ≡ unknown2 →
    reach at served unknown peer ≡ reach at served2 unknown2 peer
reach-same at served served2 unknown unknown2 peer e f = ap (λ s. reach at s unknown peer) e ∙ ap (λ u. reach at served2 u peer) f

-- whether a target belongs to nobody, by the flag whether it comes from a number
abbrev nobodys : CallConfigView → Option Account → Uri → Bool → Bool
nobodys config account uri number = is_none account && (is_at_home config.home uri && not number)

reach-known : (config : CallConfigView) (now first : SnapshotView) (o : Opening) (later : ℕ → SnapshotView) (by : Option DueDiversionView) (target : Target) → target.of_number ≡ is_by_number by →
    reached_target_in now (call_inputs_of config first o later) target.uri by ≡ reached_target config now o (cause_of by) target (service_at config now o (cause_of by) target) (peer_for config o target)
reach-known config now first o later None target number =
    reach-same now.at _ _ _ _ (peer_for config o target)
    (account-known now (registration_at o None) (served_at config o None target))
    (ap (nobodys config (account_for config o None target) target.uri) (sym number))
reach-known config now first o later (Some due) target number =
    reach-same now.at _ _ _ _ (peer_for config o target)
    (account-known now (registration_at o (Some due.cause)) (served_at config o (Some due.cause) target))
    (ap (nobodys config (account_for config o (Some due.cause) target) target.uri) (sym number))

-- the target that the call reaches now, after k diversions
pub reach_of-known : (config : CallConfigView) (now first : SnapshotView) (o : Opening) (later : ℕ → SnapshotView) (k : ℕ) (by : Option DueDiversionView) (target : Target) → target.of_number ≡ is_by_number by →
    snapshot_after (call_inputs_of config first o later) k ≡ now →
    reached_target_after (call_inputs_of config first o later) k target.uri by ≡ reached_target config now o (cause_of by) target (service_at config now o (cause_of by) target) (peer_for config o target)
reach_of-known config now first o later k by target number stands =
    ap (λ (standing : SnapshotView). reached_target_in standing (call_inputs_of config first o later) target.uri by) stands ∙ reach-known config now first o later by target number

-- the record of the account that is served there
pub sheet-known : (config : CallConfigView) (now : SnapshotView) (o : Opening) (cause : Option ℕ) (target : Target) (service : Option Service) (peer : Option Peer) →
    turns.sheet_of (reached_target config now o cause target service peer) ≡ service_sheet service
sheet-known config now o cause target None peer = refl
sheet-known config now o cause target (Some service) peer = refl

-- the account that is served there
account-of-service : (now : SnapshotView) (served : Option Account) → option_map (λ (service : Service). service.account) (option_map (service_of now) served) ≡ served
account-of-service now None = refl
account-of-service now (Some account) = refl

pub served-known : (config : CallConfigView) (now first : SnapshotView) (o : Opening) (later : ℕ → SnapshotView) (by : Option DueDiversionView) (target : Target) →
    option_map (λ (service : Service). service.account) (service_at config now o (cause_of by) target) ≡ targets.served_at (call_inputs_of config first o later) by target.uri
served-known config now first o later None target = account-of-service now (served_at config o None target)
served-known config now first o later (Some due) target = account-of-service now (served_at config o (Some due.cause) target)

-- the first target does not come from a number
plain : (uri : Result Uri Refusal) → (unwrap_or (requested_target uri) no_target).of_number ≡ false
plain (Ok uri) = refl
plain (Err refusal) = refl

pub first-known : (o : Opening) → (initial_target o).of_number ≡ false
first-known o = plain (uri_of (request_uri o.invite.parsed.start))

-- ---- what is checked before a diversion

-- the two bounds are reached together: that on what is left, and that on the count itself
both-below : (a b c d : ℕ) → (a < b → c < d) → (c < d → a < b) → nat_lt a b ≡ nat_lt c d
both-below a b c d to from = go (nat_lt a b) (nat_lt c d) refl refl
  where
    go : (p q : Bool) → nat_lt a b ≡ p → nat_lt c d ≡ q → nat_lt a b ≡ nat_lt c d
    go true true e f = e ∙ sym f
    go false false e f = e ∙ sym f
    go true false e f = let less : c < d = to (grind (arith, nat_tests, e)) in absurd (grind (arith, nat_tests, less, f))
    go false true e f = let less : a < b = from (grind (arith, nat_tests, f)) in absurd (grind (arith, nat_tests, less, e))

bound-same : (received done bound left count : ℕ) (own : Option ℕ) → left + done ≡ bound - received → count ≡ received + done →
    nat_lt (count + 0) (bound_of (count + left) own) ≡ nat_lt (received + done) (bound_of bound own)
bound-same received done bound left count None e counted = both-below _ _ _ _ (λ less. omega (arith, less, e, counted)) (λ less. omega (arith, less, e, counted))
bound-same received done bound left count (Some own) e counted = both-below _ _ _ _ (λ less. omega (arith, less, e, counted)) (λ less. omega (arith, less, e, counted))

at-bound : (received done bound left count : ℕ) (own : Option ℕ) (cause : ℕ) → left + done ≡ bound - received → count ≡ received + done →
    refusal_at_bound count 0 (bound_of (count + left) own) cause ≡ refusal_at_bound received done (bound_of bound own) cause
at-bound received done bound left count own cause e counted = ap (λ b. if b then None else Some (too_many cause)) (bound-same received done bound left count own e counted)

-- if no account is served, nothing is barred
barred-by : (c : FactsView) (served : Option ServedAccountView) (reach : ReachedTargetView) (received done bound : ℕ) (due : DueDiversionView) → reach.served ≡ served →
    refusal_before_diversion c (turns.sheet_of reach) received done bound due ≡ refusal_before_diversion c (Some (account_at reach).sheet) received done bound due
barred-by c None reach received done bound due e = rw e refl
barred-by c (Some account) reach received done bound due e = rw e refl

either-bound : (c : FactsView) (sheet : Option Sheet) (received done bound left count : ℕ) (due : DueDiversionView) → left + done ≡ bound - received → count ≡ received + done →
    refusal_before_diversion c sheet count 0 (count + left) due ≡ refusal_before_diversion c sheet received done bound due
either-bound c None received done bound left count due e counted = at-bound received done bound left count due.bound due.cause e counted
either-bound c (Some sheet) received done bound left count due e counted =
    ap (λ rest. if bars_outgoing c sheet then Some causes.OutgoingBarred else rest) (at-bound received done bound left count due.bound due.cause e counted)

-- where none is left the bound refuses it
none-within : (count : ℕ) (own : Option ℕ) → nat_lt (count + 0) (bound_of (count + 0) own) ≡ false
none-within count None = grind (arith, nat_tests)
none-within count (Some own) = let least : min (count + 0) own ≤ count + 0 = omega arith in grind (arith, nat_tests, least)

bound-refuses : (count cause : ℕ) (own : Option ℕ) → refusal_at_bound count 0 (bound_of (count + 0) own) cause ≡ Some (too_many cause)
bound-refuses count cause own = ap (λ b. if b then None else Some (too_many cause)) (none-within count own)

pub none-left : (c : FactsView) (sheet : Option Sheet) (count : ℕ) (due : DueDiversionView) → refusal_before_diversion c sheet count 0 (count + 0) due ≡ None → ⊥
none-left c None count due e = let same : Some (too_many due.cause) ≡ None = sym (bound-refuses count due.cause due.bound) ∙ e in cc
none-left c (Some sheet) count due e = go (bars_outgoing c sheet) e
  where
    go : (b : Bool) → (if b then Some causes.OutgoingBarred else refusal_at_bound count 0 (bound_of (count + 0) due.bound) due.cause) ≡ None → ⊥
    go true same = cc
    go false same = let is : Some (too_many due.cause) ≡ None = sym (bound-refuses count due.cause due.bound) ∙ same in cc

-- by the account that is served at a target, where this many were made and this many are left
pub refusal-known :
    (config : CallConfigView) (first : SnapshotView) (o : Opening) (later : ℕ → SnapshotView) (at done left count : ℕ) (reach : ReachedTargetView) (service : Option Service) (due : DueDiversionView) →
    IsKnown first o →
    turns.sheet_of reach ≡ service_sheet service → left + done ≡ config.bound - received_diversions o → count ≡ received_diversions o + done →
    decisions.refusal_of_diversion config o at count left service due
    ≡ refusal_before_diversion (targets.target_facts (call_inputs_of config first o later) at (target_uri config due)) (Some (account_at reach).sheet) (received_diversions o) done config.bound due
refusal-known config first o later at done left count reach service due known e few counted =
    either-bound (decisions.target_facts config o at (target_uri config due)) (service_sheet service) (received_diversions o) done config.bound left count due few counted
    ∙ ap (λ sheet. refusal_before_diversion (decisions.target_facts config o at (target_uri config due)) sheet (received_diversions o) done config.bound due) (sym e)
    ∙ ap (λ (c : FactsView). refusal_before_diversion c (turns.sheet_of reach) (received_diversions o) done config.bound due) (of_target-known config first o later at (target_uri config due) known)
    ∙ barred-by (targets.target_facts (call_inputs_of config first o later) at (target_uri config due)) reach.served reach (received_diversions o) done config.bound due refl

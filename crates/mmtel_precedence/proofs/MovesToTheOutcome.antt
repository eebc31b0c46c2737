-- Moves give the outcome: by the number of diversions that are left below the bound.
use Rattle.std.proofs.Common.{◌≡◌, ℕ, zero, suc, ◌+◌, ◌-◌, ◌*◌, ◌≤◌, ◌<◌, ◌==◌, Bool, true, false, List, [], ◌∷◌, ◌++◌, refl, ap, sym, ◌∙◌, append_assoc, arith}
use Rattle.std.specs.Prelude.{Option, Some, None, unwrap_or, min, not, nat_le, nat_lt, if◌then◌else◌, is_none}
use Rattle.std.specs.List.{AllByRecursion}
use Rattle.std.specs.Option.{option_map, option_map_or}
use Rattle.std.proofs.lemmas.Bool.Decides.{nat_tests}
use Rattle.mmtel_types.specs.declared.causes.Cause.{Cause}
use Rattle.mmtel_types.specs.declared.causes.Cause.TheVariants as causes
use Rattle.mmtel_lex.specs.declared.values.Uri.{Uri}
use Rattle.mmtel_rules.specs.Facts.{FactsView}
use Rattle.mmtel_rules.specs.declared.values.When.TheVariants as event
use Rattle.mmtel_diversion.specs.Bound.{is_within}
use Rattle.mmtel_diversion.specs.Diversion.{ChosenDiversion, deflection_of, diversion_of}
use Rattle.mmtel_waiting.specs.Waiting.{is_busy}
use Rattle.mmtel_precedence.specs.Services.{ServedAccountView, DueDiversionView, ServiceDecision, Nothing, Refuses, Diverts, refuses_if, diverts_by, first_decision}
use Rattle.mmtel_precedence.specs.Services.{bound_of, is_reached, own_bound, due_of, rejects_anonymous, bars_incoming, bars_outgoing, services_on_arrival}
use Rattle.mmtel_precedence.specs.Verdicts.{decision_by, forwards_or, deflects_or}
use Rattle.mmtel_precedence.specs.Calls.{refused_outcome, AttemptEndView, Answer, Cancel, Unacknowledged, UserBusy, NotReachable, NoReply, Deflection, Other, EndedAttempt}
use Rattle.mmtel_precedence.specs.Calls.{ReachedTargetView, CallInputs, NotOffered, Offered, OutcomeTarget, CallResult, Answered, Final, Outcome, outcome_at_last_target}
use Rattle.mmtel_precedence.specs.Opening.{refusal_at_opening}
use Rattle.mmtel_served_user.specs.Targets.{new_target}
use Rattle.mmtel_precedence.specs.Targets.{Rests, outcome_of_diversion, IsDue, reached_target_after, caller_facts, target_facts, offer_by, deflection_to}
use Rattle.mmtel_precedence.specs.Targets.{outcome_of_diversion_or, target_outcome_on, target_outcome_at, target_outcome_after, is_waiting, target_at}
use Rattle.mmtel_precedence.specs.Outcome.{outcome_from}
use Rattle.mmtel_precedence.specs.Moves.{CallState, TargetPhase, Reaching, Ringing, Over, moves, state_unless_refused, state_after_diversion, state_by_verdict}
use Rattle.mmtel_precedence.specs.Moves.{state_on_end, offer_unless, state_by_decision, outcome_so_far, initial_phase, enough_moves, MovesGiveTheOutcome}
use Rattle.mmtel_precedence.proofs.Accounts.{nobody, decision_or, first_said-account, is_waiting-account, due_at-account, deflection_at-account, is_refused-account}
use Rattle.mmtel_precedence.proofs.MovesAtTheEnd.{moves-over, moves-ringing, moves-suc, state_at}
use Rattle.mmtel_precedence.proofs.TargetOutcomes.{from_next, refused_for, unless_reached, after_due, go_further}

-- an outcome after targets that were reached before
abbrev pub behind : List OutcomeTarget → Outcome → Outcome
behind targets outcome = record { targets = targets ++ outcome.targets; result = outcome.result }

-- so many moves from here give the outcome, after these targets
abbrev pub Settles : ℕ → CallInputs → CallState → List OutcomeTarget → Outcome → Type 0
Settles n call kept targets outcome = outcome_so_far (moves n call kept) ≡ behind targets outcome

-- the state after a diversion that is due at a target and that outgoing barring does not refuse
abbrev pub Continuation : Type 0
Continuation = OutcomeTarget → DueDiversionView → List EndedAttempt → Outcome

-- the decision by the bound
abbrev pub by_bound : CallInputs → ℕ → DueDiversionView → Option Cause
by_bound call k due = if is_within call.received k (bound_of call.bound due.bound) then None else Some (causes.TooManyDiversions (due.cause == 486))

-- continuing by the bound gives the outcome, after k diversions and with this many moves
abbrev pub GoesOn : CallInputs → ℕ → ℕ → Continuation → Type 0
GoesOn call k least onward =
    (n : ℕ) (target : OutcomeTarget) (due : DueDiversionView) (targets : List OutcomeTarget) (phase : TargetPhase) (later : List EndedAttempt) → least ≤ n →
    Settles n call (state_unless_refused (by_bound call k due) (state_at k (targets ++ target ∷ []) phase later) (new_target call.home due.forward.target) due) targets (onward target due later)

-- an end is settled
settles-over : (n : ℕ) (call : CallInputs) (k : ℕ) (targets : List OutcomeTarget) (target : OutcomeTarget) (result : CallResult) (later : List EndedAttempt) →
    Settles n call (state_at k (targets ++ target ∷ []) (Over result) later) targets (outcome_at_last_target target result)
settles-over n call k targets target result later = ap outcome_so_far (moves-over n call k (targets ++ target ∷ []) result later)

-- a diversion that is due: outgoing barring, then the bound
settles-diversion : (call : CallInputs) (k least : ℕ) (onward : Continuation) → GoesOn call k least onward →
    (n : ℕ) (bars : Bool) (target : OutcomeTarget) (due : DueDiversionView) (targets : List OutcomeTarget) (phase : TargetPhase) (later : List EndedAttempt) → least ≤ n →
    Settles n call (state_unless_refused (if bars then Some causes.OutgoingBarred else by_bound call k due) (state_at k (targets ++ target ∷ []) phase later) (new_target call.home due.forward.target) due) targets
    (from_next target (onward target) (if bars then Rests (Final causes.OutgoingBarred) else IsDue due later))
settles-diversion call k least onward goes n true target due targets phase later enough = settles-over n call k targets target (Final causes.OutgoingBarred) later
settles-diversion call k least onward goes n false target due targets phase later enough = goes n target due targets phase later enough

-- the same, by the account that is served
settles-due : (call : CallInputs) (k least : ℕ) (onward : Continuation) → GoesOn call k least onward →
    (n : ℕ) (served : Option ServedAccountView) (now : ℕ) (target : OutcomeTarget) (due : DueDiversionView) (targets : List OutcomeTarget) (phase : TargetPhase) (later : List EndedAttempt) → least ≤ n →
    Settles n call (state_after_diversion call (state_at k (targets ++ target ∷ []) phase later) (unwrap_or served nobody) now due) targets
    (from_next target (onward target) (outcome_of_diversion call served now due later))
settles-due call k least onward goes n served now target due targets phase later enough =
    settles-diversion call k least onward goes n (bars_outgoing (target_facts call now (new_target call.home due.forward.target)) (unwrap_or served nobody).sheet) target due targets phase later enough
    ∙ ap (λ b. behind targets (from_next target (onward target) (if b then Rests (Final causes.OutgoingBarred) else IsDue due later))) (sym (is_refused-account call served now due))

-- the bound of the account that is served
abbrev bound_at : Option ServedAccountView → Option ℕ
bound_at served = own_bound (unwrap_or served nobody).sheet

-- an ending for which rules may require a diversion
settles-rules : (call : CallInputs) (k least : ℕ) (onward : Continuation) → GoesOn call k least onward →
    (n : ℕ) (served : Option ServedAccountView) (now : ℕ) (chosen : Option ChosenDiversion) (cause : Cause) (target : OutcomeTarget) (targets : List OutcomeTarget) (phase : TargetPhase)
    (later : List EndedAttempt) → least ≤ n →
    (let due = option_map (due_of (bound_at served)) chosen in
    Settles n call (state_by_verdict call (unwrap_or served nobody) now None (forwards_or due cause) (state_at k (targets ++ target ∷ []) phase later)) targets
    (from_next target (onward target) (outcome_of_diversion_or call served now due cause later)))
settles-rules call k least onward goes n served now None cause target targets phase later enough = settles-over n call k targets target (Final cause) later
settles-rules call k least onward goes n served now (Some chosen) cause target targets phase later enough =
    settles-due call k least onward goes n served now target (due_of (bound_at served) chosen) targets phase later enough

-- an ending by deflection
settles-deflection : (call : CallInputs) (k least : ℕ) (onward : Continuation) → GoesOn call k least onward →
    (n : ℕ) (served : Option ServedAccountView) (now : ℕ) (uri : Uri) (cause : Option ℕ) (target : OutcomeTarget) (targets : List OutcomeTarget) (phase : TargetPhase) (later : List EndedAttempt) → least ≤ n →
    Settles n call (state_by_verdict call (unwrap_or served nobody) now (Some uri) (deflects_or cause) (state_at k (targets ++ target ∷ []) phase later)) targets
    (from_next target (onward target) (outcome_of_diversion_or call served now (option_map (deflection_to uri (bound_at served)) cause) (causes.Relayed 480) later))
settles-deflection call k least onward goes n served now uri None target targets phase later enough = settles-over n call k targets target (Final (causes.Relayed 480)) later
settles-deflection call k least onward goes n served now uri (Some cause) target targets phase later enough =
    settles-due call k least onward goes n served now target (deflection_to uri (bound_at served) cause) targets phase later enough

-- the ending of an attempt
settles-end : (call : CallInputs) (k least : ℕ) (onward : Continuation) → GoesOn call k least onward →
    (n : ℕ) (served : Option ServedAccountView) (now : ℕ) (how : AttemptEndView) (target : OutcomeTarget) (targets : List OutcomeTarget) (phase : TargetPhase) (later : List EndedAttempt) → least ≤ n →
    Settles n call (state_on_end call (unwrap_or served nobody) now how (state_at k (targets ++ target ∷ []) phase later)) targets
    (from_next target (onward target) (target_outcome_on call k served now how later))
settles-end call k least onward goes n served now Answer target targets phase later enough = settles-over n call k targets target Answered later
settles-end call k least onward goes n served now Cancel target targets phase later enough = settles-over n call k targets target (Final causes.Cancelled) later
settles-end call k least onward goes n served now Unacknowledged target targets phase later enough = settles-over n call k targets target (Final causes.Unacknowledged) later
settles-end call k least onward goes n served now (UserBusy code) target targets phase later enough =
    settles-rules call k least onward goes n served now (diversion_of (caller_facts call k now) event.Busy (unwrap_or served nobody).sheet) (causes.Relayed code) target targets phase later enough
    ∙ ap (λ due. behind targets (from_next target (onward target) (outcome_of_diversion_or call served now due (causes.Relayed code) later))) (sym (due_at-account (caller_facts call k now) event.Busy served))
settles-end call k least onward goes n served now (NotReachable code) target targets phase later enough =
    settles-rules call k least onward goes n served now (diversion_of (caller_facts call k now) event.NotReachable (unwrap_or served nobody).sheet) (causes.Unreachable code) target targets phase later enough
    ∙ ap (λ due. behind targets (from_next target (onward target) (outcome_of_diversion_or call served now due (causes.Unreachable code) later))) (sym (due_at-account (caller_facts call k now) event.NotReachable served))
settles-end call k least onward goes n served now NoReply target targets phase later enough =
    settles-rules call k least onward goes n served now (diversion_of (caller_facts call k now) event.NoAnswer (unwrap_or served nobody).sheet) causes.NoReply target targets phase later enough
    ∙ ap (λ due. behind targets (from_next target (onward target) (outcome_of_diversion_or call served now due causes.NoReply later))) (sym (due_at-account (caller_facts call k now) event.NoAnswer served))
settles-end call k least onward goes n served now (Deflection uri rang) target targets phase later enough =
    settles-deflection call k least onward goes n served now uri (deflection_of (unwrap_or served nobody).sheet rang) target targets phase later enough
    ∙ ap (λ due. behind targets (from_next target (onward target) (outcome_of_diversion_or call served now due (causes.Relayed 480) later))) (sym (deflection_at-account served uri rang))
settles-end call k least onward goes n served now (Other code) target targets phase later enough = settles-over n call k targets target (Final (causes.Relayed code)) later

-- after an offer
settles-offer : (call : CallInputs) (k least : ℕ) (onward : Continuation) → GoesOn call k least onward →
    (n : ℕ) (reach : ReachedTargetView) (target : OutcomeTarget) (targets : List OutcomeTarget) (endings : List EndedAttempt) → least ≤ n →
    Settles (suc n) call (state_at k (targets ++ target ∷ []) (Ringing (unwrap_or reach.served nobody)) endings) targets
    (from_next target (onward target) (target_outcome_at Nothing call k reach endings))
settles-offer call k least onward goes n reach target targets [] enough = ap outcome_so_far (moves-ringing (suc n) call k (targets ++ target ∷ []) (unwrap_or reach.served nobody))
settles-offer call k least onward goes n reach target targets (ended ∷ later) enough =
    ap outcome_so_far (moves-suc n call (state_at k (targets ++ target ∷ []) (Ringing (unwrap_or reach.served nobody)) (ended ∷ later)))
    ∙ settles-end call k least onward goes n reach.served ended.at ended.how target targets (Ringing (unwrap_or reach.served nobody)) later enough

-- a target
abbrev target_by : ServiceDecision → Option ServedAccountView → Uri → Option DueDiversionView → OutcomeTarget
target_by says served uri by = record { uri = uri; diversion = by; offer = offer_by says served }

-- the decision at any target, whoever is served
abbrev decision_for_any : Bool → Bool → ServiceDecision
decision_for_any unknown no_peer = first_decision (refuses_if unknown causes.NoAccount ∷ refuses_if no_peer causes.NoRoute ∷ [])

-- a target that no service refused
settles-unrefused : (call : CallInputs) (k least : ℕ) (onward : Continuation) → GoesOn call k least onward →
    (n : ℕ) (unknown no_peer : Bool) (reach : ReachedTargetView) (uri : Uri) (by : Option DueDiversionView) (targets : List OutcomeTarget) (phase : TargetPhase) (endings : List EndedAttempt) → least ≤ n →
    Settles (suc n) call (offer_unless unknown no_peer (unwrap_or reach.served nobody) (is_waiting reach.served) (state_at k targets phase endings) uri by) targets
    (from_next (target_by (decision_for_any unknown no_peer) reach.served uri by) (onward (target_by (decision_for_any unknown no_peer) reach.served uri by))
    (target_outcome_at (decision_for_any unknown no_peer) call k reach endings))
settles-unrefused call k least onward goes n true no_peer reach uri by targets phase endings enough =
    settles-over (suc n) call k targets (record { uri = uri; diversion = by; offer = NotOffered }) (Final causes.NoAccount) endings
settles-unrefused call k least onward goes n false true reach uri by targets phase endings enough =
    settles-over (suc n) call k targets (record { uri = uri; diversion = by; offer = NotOffered }) (Final causes.NoRoute) endings
settles-unrefused call k least onward goes n false false reach uri by targets phase endings enough =
    settles-offer call k least onward goes n reach (record { uri = uri; diversion = by; offer = Offered (is_waiting reach.served) }) targets endings enough

-- a diversion that services decide has the bound of their account
abbrev IsOwn : (bound : Option ℕ) → ServiceDecision → Type 0
IsOwn bound Nothing = Unit {0}
IsOwn bound (Refuses cause) = Unit {0}
IsOwn bound (Diverts due) = due.bound ≡ bound

own-refuses_if : (bound : Option ℕ) (b : Bool) (cause : Cause) → IsOwn bound (refuses_if b cause)
own-refuses_if bound true cause = tt
own-refuses_if bound false cause = tt

own-chosen : (bound : Option ℕ) (chosen : Option ChosenDiversion) → IsOwn bound (diverts_by (option_map (due_of bound) chosen))
own-chosen bound None = tt
own-chosen bound (Some chosen) = refl

own-chosen_if : (bound : Option ℕ) (b : Bool) (chosen : Option ChosenDiversion) → IsOwn bound (diverts_by (if b then option_map (due_of bound) chosen else None))
own-chosen_if bound true chosen = own-chosen bound chosen
own-chosen_if bound false chosen = tt

own-first_said : (bound : Option ℕ) (says : List ServiceDecision) → AllByRecursion (IsOwn bound) says → IsOwn bound (first_decision says)
own-first_said bound [] h = tt
own-first_said bound (Nothing ∷ says) h = own-first_said bound says h.1
own-first_said bound (Refuses cause ∷ says) h = tt
own-first_said bound (Diverts due ∷ says) h = h.0

own-services : (c : FactsView) (account : ServedAccountView) → IsOwn (own_bound account.sheet) (first_decision (services_on_arrival c account))
own-services c account = own-first_said (own_bound account.sheet) (services_on_arrival c account) (
  own-refuses_if (own_bound account.sheet) (rejects_anonymous c account.sheet) causes.AnonymousRejected,
  (
    own-refuses_if (own_bound account.sheet) (bars_incoming c account.sheet) causes.IncomingBarred,
    (
      own-chosen (own_bound account.sheet) (diversion_of c (event.Arrival account.registered) account.sheet),
      (
        own-refuses_if (own_bound account.sheet) (not account.registered) causes.NotRegistered,
        (
          own-chosen_if (own_bound account.sheet) (is_busy account.live account.sheet) (diversion_of c event.Busy account.sheet),
          (own-refuses_if (own_bound account.sheet) (is_busy account.live account.sheet) causes.NetworkBusy, tt),
        ),
      ),
    ),
  ),
)

-- a diversion, with this bound
abbrev bounded : DueDiversionView → (bound : Option ℕ) → DueDiversionView
bounded due bound = record { forward = due.forward; cause = due.cause; bound = bound }

-- a target, by the decision of the services
settles-said : (call : CallInputs) (k least : ℕ) (onward : Continuation) → GoesOn call k least onward →
    (n : ℕ) (says : ServiceDecision) (reach : ReachedTargetView) (uri : Uri) (by : Option DueDiversionView) (targets : List OutcomeTarget) (phase : TargetPhase) (endings : List EndedAttempt) →
    IsOwn (bound_at reach.served) says → least ≤ n →
    (let said = decision_or says (decision_for_any reach.is_unknown (is_none reach.peer)) in
    Settles (suc n) call (state_by_decision call reach (unwrap_or reach.served nobody) (decision_by says (unwrap_or reach.served nobody).live) (state_at k targets phase endings) uri by) targets
    (from_next (target_by said reach.served uri by) (onward (target_by said reach.served uri by)) (target_outcome_at said call k reach endings)))
settles-said call k least onward goes n Nothing reach uri by targets phase endings own enough =
    ap (λ waiting. outcome_so_far (moves (suc n) call (offer_unless reach.is_unknown (is_none reach.peer) (unwrap_or reach.served nobody) waiting (state_at k targets phase endings) uri by)))
    (sym (is_waiting-account reach.served))
    ∙ settles-unrefused call k least onward goes n reach.is_unknown (is_none reach.peer) reach uri by targets phase endings enough
settles-said call k least onward goes n (Refuses why) reach uri by targets phase endings own enough =
    settles-over (suc n) call k targets (record { uri = uri; diversion = by; offer = NotOffered }) (Final why) endings
settles-said call k least onward goes n (Diverts due) reach uri by targets phase endings own enough =
    ap (λ bound. outcome_so_far (moves (suc n) call
    (state_after_diversion call (state_at k (targets ++ record { uri = uri; diversion = by; offer = NotOffered } ∷ []) phase endings) (unwrap_or reach.served nobody) reach.at (bounded due bound)))) (sym own)
    ∙ settles-due call k least onward goes (suc n) reach.served reach.at (record { uri = uri; diversion = by; offer = NotOffered }) due targets phase endings (omega arith)

-- reaching the target after k diversions
settles-reaching : (call : CallInputs) (k least : ℕ) (onward : Continuation) → GoesOn call k least onward →
    (n : ℕ) (uri : Uri) (by : Option DueDiversionView) (targets : List OutcomeTarget) (endings : List EndedAttempt) → least ≤ n →
    Settles (suc (suc n)) call (state_at k targets (Reaching uri by) endings) targets
    (from_next (target_at call k uri by) (onward (target_at call k uri by)) (target_outcome_after call k uri by endings))
settles-reaching call k least onward goes n uri by targets endings enough =
    ap outcome_so_far (moves-suc (suc n) call (state_at k targets (Reaching uri by) endings))
    ∙ settles-said call k least onward goes n (first_decision (services_on_arrival (caller_facts call k (reached_target_after call k uri by).at) (unwrap_or (reached_target_after call k uri by).served nobody)))
    (reached_target_after call k uri by) uri by targets (Reaching uri by) endings
    (own-services (caller_facts call k (reached_target_after call k uri by).at) (unwrap_or (reached_target_after call k uri by).served nobody)) enough
    ∙ ap (λ said. behind targets (from_next (target_by said (reached_target_after call k uri by).served uri by) (onward (target_by said (reached_target_after call k uri by).served uri by))
    (target_outcome_at said call k (reached_target_after call k uri by) endings)))
    (sym (first_said-account (caller_facts call k (reached_target_after call k uri by).at) (reached_target_after call k uri by).served
    (refuses_if (reached_target_after call k uri by).is_unknown causes.NoAccount ∷ refuses_if (is_none (reached_target_after call k uri by).peer) causes.NoRoute ∷ [])))

-- the moves from the target after k diversions give the outcome from there
abbrev pub SettlesFrom : CallInputs → ℕ → Type 0
SettlesFrom call left =
    (k n : ℕ) (uri : Uri) (by : Option DueDiversionView) (targets : List OutcomeTarget) (endings : List EndedAttempt) → left ≡ call.bound - (call.received + k) → 2 * (left + 1) ≤ n →
    Settles n call (state_at k targets (Reaching uri by) endings) targets (outcome_from call left k uri by endings)

-- the bound of a diversion is at most the configured one
is_within-at : (own : Option ℕ) (configured count : ℕ) → configured ≤ count → nat_lt count (bound_of configured own) ≡ false
is_within-at None configured count h = grind (arith, nat_tests)
is_within-at (Some own) configured count h = let least : min configured own ≤ count = omega arith in grind (arith, nat_tests)

within-min : (own configured count : ℕ) → count < configured → nat_lt count (min configured own) ≡ not (nat_le own count)
within-min own configured count h = grind (arith, nat_tests)

-- below that one, the account's own bound decides
is_within-below : (own : Option ℕ) (configured count : ℕ) → count < configured → nat_lt count (bound_of configured own) ≡ not (is_reached own count)
is_within-below None configured count h = grind (arith, nat_tests)
is_within-below (Some own) configured count h = within-min own configured count h

-- at the bound
goes_on-at : (call : CallInputs) (k : ℕ) → 0 ≡ call.bound - (call.received + k) → GoesOn call k 0 (λ target due later. refused_for target due)
goes_on-at call k left n target due targets phase later enough =
    ap (λ b. outcome_so_far
    (moves n call (state_unless_refused (if b then None else Some (causes.TooManyDiversions (due.cause == 486))) (state_at k (targets ++ target ∷ []) phase later) (new_target call.home due.forward.target) due)))
    (is_within-at due.bound call.bound (call.received + k) (omega arith))
    ∙ settles-over n call k targets target (Final (causes.TooManyDiversions (due.cause == 486))) later

-- below it: by whether the account's own bound is reached
goes_on-by : (call : CallInputs) (left k : ℕ) → SettlesFrom call left → suc left ≡ call.bound - (call.received + k) →
    (reached : Bool) (n : ℕ) (target : OutcomeTarget) (due : DueDiversionView) (targets : List OutcomeTarget) (phase : TargetPhase) (later : List EndedAttempt) → 2 * (left + 1) ≤ n →
    Settles n call
    (state_unless_refused (if not reached then None else Some (causes.TooManyDiversions (due.cause == 486))) (state_at k (targets ++ target ∷ []) phase later) (new_target call.home due.forward.target) due) targets
    (unless_reached reached target due (after_due call left k due later))
goes_on-by call left k settles more true n target due targets phase later enough = settles-over n call k targets target (Final (causes.TooManyDiversions (due.cause == 486))) later
goes_on-by call left k settles more false n target due targets phase later enough =
    settles (k + 1) n (new_target call.home due.forward.target) (Some due) (targets ++ target ∷ []) later (omega arith) enough
    ∙ ap (λ reached. record { targets = reached; result = (after_due call left k due later).result }) (append_assoc targets (target ∷ []) (after_due call left k due later).targets)

goes_on-below : (call : CallInputs) (left k : ℕ) → SettlesFrom call left → suc left ≡ call.bound - (call.received + k) → GoesOn call k (2 * (left + 1)) (go_further call left k)
goes_on-below call left k settles more n target due targets phase later enough =
    ap (λ b. outcome_so_far
    (moves n call (state_unless_refused (if b then None else Some (causes.TooManyDiversions (due.cause == 486))) (state_at k (targets ++ target ∷ []) phase later) (new_target call.home due.forward.target) due)))
    (is_within-below due.bound call.bound (call.received + k) (omega arith))
    ∙ goes_on-by call left k settles more (is_reached due.bound (call.received + k)) n target due targets phase later enough

pub settles-from : (call : CallInputs) (left : ℕ) → SettlesFrom call left
unfolding outcome_from
settles-from call zero k zero uri by targets endings e enough = absurd (omega arith)
settles-from call zero k (suc zero) uri by targets endings e enough = absurd (omega arith)
settles-from call zero k (suc (suc n)) uri by targets endings e enough = settles-reaching call k 0 _ (goes_on-at call k e) n uri by targets endings (omega arith)
settles-from call (suc left) k zero uri by targets endings e enough = absurd (omega arith)
settles-from call (suc left) k (suc zero) uri by targets endings e enough = absurd (omega arith)
settles-from call (suc left) k (suc (suc n)) uri by targets endings e enough = settles-reaching call k (2 * (left + 1)) _ (goes_on-below call left k (settles-from call left) e) n uri by targets endings (omega arith)

-- by the refusal at the opening
settles-opened : (refusal : Option Cause) (call : CallInputs) (endings : List EndedAttempt) (n : ℕ) → enough_moves call ≤ n →
    outcome_so_far (moves n call (state_at 0 [] (initial_phase refusal call) endings)) ≡ option_map_or refused_outcome refusal (outcome_from call (call.bound - call.received) 0 call.first_target None endings)
settles-opened None call endings n enough = settles-from call (call.bound - call.received) 0 n call.first_target None [] endings (omega arith) enough
settles-opened (Some cause) call endings n enough = ap outcome_so_far (moves-over n call 0 [] (Final cause) endings)

pub moves_give_outcome : MovesGiveTheOutcome
moves_give_outcome call endings n enough = settles-opened (refusal_at_opening call) call endings n enough

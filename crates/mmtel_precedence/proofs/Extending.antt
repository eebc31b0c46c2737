-- Later endings: moves commute with them.
use Rattle.std.proofs.Common.{◌≡◌, ℕ, zero, suc, ◌+◌, ◌≤◌, Bool, true, false, List, [], ◌∷◌, ◌++◌, refl, ap, sym, subst, ◌∙◌, append_assoc, arith}
use Rattle.std.specs.Prelude.{Option, Some, None, is_none}
use Rattle.std.proofs.lemmas.List.{append-nil}
use Rattle.mmtel_types.specs.declared.causes.Cause.{Cause}
use Rattle.mmtel_lex.specs.declared.values.Uri.{Uri}
use Rattle.mmtel_precedence.specs.declared.endings.Ending.TheVariants as ending
use Rattle.mmtel_precedence.specs.Services.{DueDiversionView, ServedAccountView, own_bound}
use Rattle.mmtel_precedence.specs.Verdicts.{Decision, Offers, Forwards, Ends, verdict_of}
use Rattle.mmtel_precedence.specs.Calls.{AttemptEndView, Answer, Cancel, Unacknowledged, UserBusy, NotReachable, NoReply, Deflection, Other, EndedAttempt, ReachedTargetView, CallInputs, NotOffered, OutcomeTarget}
use Rattle.mmtel_precedence.specs.Targets.{caller_facts, reached_target_after}
use Rattle.mmtel_precedence.specs.Outcome.{outcome}
use Rattle.mmtel_precedence.specs.Moves.{CallState, TargetPhase, Reaching, Ringing, Over, moves, account_at, with_target, due_by, state_unless_refused, state_after_due}
use Rattle.mmtel_precedence.specs.Moves.{offer_unless, state_by_decision, state_by_verdict, state_on_end, state_on_reaching, result_in, outcome_so_far, initial_state, enough_moves}
use Rattle.mmtel_precedence.specs.Extension.{is_settled, BeginsWith, with_more_endings, one_by_one, LaterEndingsExtend}
use Rattle.mmtel_precedence.proofs.MovesAtTheEnd.{moves-over, moves-ringing, state_at}
use Rattle.mmtel_precedence.proofs.MovesToTheOutcome.{moves_give_outcome}

-- ---- one move, with later endings or without

later-gone_on : (refusal : Option Cause) (kept : CallState) (target : Uri) (due : DueDiversionView) (later : List EndedAttempt) →
    state_unless_refused refusal (with_more_endings kept later) target due ≡ with_more_endings (state_unless_refused refusal kept target due) later
later-gone_on None kept target due later = refl
later-gone_on (Some refusal) kept target due later = refl

later-divert_where : (call : CallInputs) (kept : CallState) (account : ServedAccountView) (now : ℕ) (due : Option DueDiversionView) (later : List EndedAttempt) →
    state_after_due call (with_more_endings kept later) account now due ≡ with_more_endings (state_after_due call kept account now due) later
later-divert_where call kept account now None later = refl
later-divert_where call kept account now (Some due) later = later-gone_on _ kept _ due later

later-offer : (unknown no_peer : Bool) (account : ServedAccountView) (waiting : Bool) (kept : CallState) (uri : Uri) (by : Option DueDiversionView) (later : List EndedAttempt) →
    offer_unless unknown no_peer account waiting (with_more_endings kept later) uri by ≡ with_more_endings (offer_unless unknown no_peer account waiting kept uri by) later
later-offer true no_peer account waiting kept uri by later = refl
later-offer false true account waiting kept uri by later = refl
later-offer false false account waiting kept uri by later = refl

later-reached : (call : CallInputs) (reach : ReachedTargetView) (account : ServedAccountView) (decision : Decision) (kept : CallState) (uri : Uri) (by : Option DueDiversionView) (later : List EndedAttempt) →
    state_by_decision call reach account decision (with_more_endings kept later) uri by ≡ with_more_endings (state_by_decision call reach account decision kept uri by) later
later-reached call reach account (Offers waiting) kept uri by later = later-offer reach.is_unknown (is_none reach.peer) account waiting kept uri by later
later-reached call reach account (Forwards forward why) kept uri by later = later-divert_where call (with_target kept uri by NotOffered) account reach.at (due_by (own_bound account.sheet) forward None why) later
later-reached call reach account (Ends why) kept uri by later = refl

-- the verdict at a target that the call reaches
abbrev at_arrival : CallInputs → (k : ℕ) → ReachedTargetView → Decision
at_arrival call k reach = verdict_of (caller_facts call k reach.at) (account_at reach) ending.Arrived

later-reaching : (call : CallInputs) (reach : ReachedTargetView) (kept : CallState) (uri : Uri) (by : Option DueDiversionView) (later : List EndedAttempt) →
    state_on_reaching call reach uri by (with_more_endings kept later) ≡ with_more_endings (state_on_reaching call reach uri by kept) later
later-reaching call reach kept uri by later = later-reached call reach (account_at reach) (at_arrival call kept.done reach) kept uri by later

later-ended : (call : CallInputs) (account : ServedAccountView) (now : ℕ) (deflected : Option Uri) (decision : Decision) (kept : CallState) (later : List EndedAttempt) →
    state_by_verdict call account now deflected decision (with_more_endings kept later) ≡ with_more_endings (state_by_verdict call account now deflected decision kept) later
later-ended call account now deflected (Offers waiting) kept later = refl
later-ended call account now deflected (Forwards forward why) kept later = later-divert_where call kept account now (due_by (own_bound account.sheet) forward deflected why) later
later-ended call account now deflected (Ends why) kept later = refl

later-end : (call : CallInputs) (account : ServedAccountView) (now : ℕ) (how : AttemptEndView) (kept : CallState) (later : List EndedAttempt) →
    state_on_end call account now how (with_more_endings kept later) ≡ with_more_endings (state_on_end call account now how kept) later
later-end call account now Answer kept later = refl
later-end call account now Cancel kept later = refl
later-end call account now Unacknowledged kept later = refl
later-end call account now (UserBusy code) kept later = later-ended call account now None _ kept later
later-end call account now (NotReachable code) kept later = later-ended call account now None _ kept later
later-end call account now NoReply kept later = later-ended call account now None _ kept later
later-end call account now (Deflection target rang) kept later = later-ended call account now (Some target) _ kept later
later-end call account now (Other code) kept later = refl

-- ---- moves continue

abbrev GoesOn : CallInputs → ℕ → CallState → List EndedAttempt → Type 0
GoesOn call n kept later = (fewer : ℕ) × (fewer ≤ n) × (moves fewer call (with_more_endings kept later) ≡ with_more_endings (moves n call kept) later)

-- a call that does not move
goes_on-still : (call : CallInputs) (n : ℕ) (kept : CallState) (later : List EndedAttempt) → moves n call kept ≡ kept → GoesOn call n kept later
unfolding moves
goes_on-still call n kept later e = (0, omega arith, ap (λ (k : CallState). with_more_endings k later) (sym e))

-- a call that moves
goes_on-moved : (call : CallInputs) (n : ℕ) (kept moved : CallState) (later : List EndedAttempt) → moves (suc n) call kept ≡ moves n call moved →
    ((m : ℕ) → moves (suc m) call (with_more_endings kept later) ≡ moves m call (with_more_endings moved later)) → GoesOn call n moved later → GoesOn call (suc n) kept later
goes_on-moved call n kept moved later e f (fewer, least, same) = (suc fewer, omega arith, f fewer ∙ same ∙ ap (λ (k : CallState). with_more_endings k later) (sym e))

goes_on : (n : ℕ) (call : CallInputs) (done : ℕ) (targets : List OutcomeTarget) (phase : TargetPhase) (endings later : List EndedAttempt) → GoesOn call n (state_at done targets phase endings) later
unfolding moves
goes_on zero call done targets phase endings later = goes_on-still call 0 (state_at done targets phase endings) later refl
goes_on (suc n) call done targets (Reaching uri by) endings later =
    let kept = state_at done targets (Reaching uri by) endings in
    let moved = state_on_reaching call (reached_target_after call done uri by) uri by kept in
    goes_on-moved call n kept moved later refl (λ m. ap (moves m call) (later-reaching call (reached_target_after call done uri by) kept uri by later))
    (goes_on n call moved.done moved.targets moved.phase moved.endings later)
goes_on (suc n) call done targets (Ringing account) [] later = goes_on-still call (suc n) _ later (moves-ringing (suc n) call done targets account)
goes_on (suc n) call done targets (Ringing account) (ended ∷ endings) later =
    let moved = state_on_end call account ended.at ended.how (state_at done targets (Ringing account) endings) in
    goes_on-moved call n (state_at done targets (Ringing account) (ended ∷ endings)) moved later refl
    (λ m. ap (moves m call) (later-end call account ended.at ended.how (state_at done targets (Ringing account) endings) later)) (goes_on n call moved.done moved.targets moved.phase moved.endings later)
goes_on (suc n) call done targets (Over result) endings later = goes_on-still call (suc n) _ later (moves-over (suc n) call done targets result endings)

-- moves after moves
moves-more : (j m : ℕ) (call : CallInputs) (kept : CallState) → moves m call (moves j call kept) ≡ moves (j + m) call kept
unfolding moves
moves-more zero m call kept = ap (λ i. moves i call kept) (let e : m ≡ 0 + m = omega arith in e)
moves-more (suc j) m call kept = moves-more j m call _ ∙ ap (λ i. moves i call kept) (let e : suc (j + m) ≡ suc j + m = omega arith in e)

-- the moves over some endings and then over later ones are moves over all
moves-on : (call : CallInputs) (n m : ℕ) (kept : CallState) (later : List EndedAttempt) → (fewer : ℕ) × (moves m call (with_more_endings (moves n call kept) later) ≡ moves (fewer + m) call (with_more_endings kept later))
moves-on call n m kept later =
    let (fewer, least, same) = goes_on n call kept.done kept.targets kept.phase kept.endings later in
    (fewer, ap (moves m call) (sym same) ∙ moves-more fewer m call (with_more_endings kept later))

of_the_whole : (call : CallInputs) (sooner later : List EndedAttempt) (n m : ℕ) → enough_moves call ≤ m →
    outcome_so_far (moves m call (with_more_endings (moves n call (initial_state call sooner)) later)) ≡ outcome call (sooner ++ later)
of_the_whole call sooner later n m enough =
    let (fewer, same) = moves-on call n m (initial_state call sooner) later in
    ap outcome_so_far same ∙ moves_give_outcome call (sooner ++ later) (fewer + m) (omega arith)

-- ---- targets that were reached remain

targets-gone_on : (refusal : Option Cause) (kept : CallState) (target : Uri) (due : DueDiversionView) → (state_unless_refused refusal kept target due).targets ≡ kept.targets
targets-gone_on None kept target due = refl
targets-gone_on (Some refusal) kept target due = refl

targets-divert_where : (call : CallInputs) (kept : CallState) (account : ServedAccountView) (now : ℕ) (due : Option DueDiversionView) → (state_after_due call kept account now due).targets ≡ kept.targets
targets-divert_where call kept account now None = refl
targets-divert_where call kept account now (Some due) = targets-gone_on _ kept _ due

targets-ended : (call : CallInputs) (account : ServedAccountView) (now : ℕ) (deflected : Option Uri) (decision : Decision) (kept : CallState) →
    (state_by_verdict call account now deflected decision kept).targets ≡ kept.targets
targets-ended call account now deflected (Offers waiting) kept = refl
targets-ended call account now deflected (Forwards forward why) kept = targets-divert_where call kept account now (due_by (own_bound account.sheet) forward deflected why)
targets-ended call account now deflected (Ends why) kept = refl

targets-end : (call : CallInputs) (account : ServedAccountView) (now : ℕ) (how : AttemptEndView) (kept : CallState) → (state_on_end call account now how kept).targets ≡ kept.targets
targets-end call account now Answer kept = refl
targets-end call account now Cancel kept = refl
targets-end call account now Unacknowledged kept = refl
targets-end call account now (UserBusy code) kept = targets-ended call account now None _ kept
targets-end call account now (NotReachable code) kept = targets-ended call account now None _ kept
targets-end call account now NoReply kept = targets-ended call account now None _ kept
targets-end call account now (Deflection target rang) kept = targets-ended call account now (Some target) _ kept
targets-end call account now (Other code) kept = refl

-- one more is recorded
abbrev OneMore : List OutcomeTarget → CallState → Type 0
OneMore targets kept = (target : OutcomeTarget) × (kept.targets ≡ targets ++ target ∷ [])

more-offer : (unknown no_peer : Bool) (account : ServedAccountView) (waiting : Bool) (kept : CallState) (uri : Uri) (by : Option DueDiversionView) →
    OneMore kept.targets (offer_unless unknown no_peer account waiting kept uri by)
more-offer true no_peer account waiting kept uri by = (_, refl)
more-offer false true account waiting kept uri by = (_, refl)
more-offer false false account waiting kept uri by = (_, refl)

more-reached : (call : CallInputs) (reach : ReachedTargetView) (account : ServedAccountView) (decision : Decision) (kept : CallState) (uri : Uri) (by : Option DueDiversionView) →
    OneMore kept.targets (state_by_decision call reach account decision kept uri by)
more-reached call reach account (Offers waiting) kept uri by = more-offer reach.is_unknown (is_none reach.peer) account waiting kept uri by
more-reached call reach account (Forwards forward why) kept uri by = (_, targets-divert_where call (with_target kept uri by NotOffered) account reach.at (due_by (own_bound account.sheet) forward None why))
more-reached call reach account (Ends why) kept uri by = (_, refl)

more-reaching : (call : CallInputs) (reach : ReachedTargetView) (kept : CallState) (uri : Uri) (by : Option DueDiversionView) → OneMore kept.targets (state_on_reaching call reach uri by kept)
more-reaching call reach kept uri by = more-reached call reach (account_at reach) (at_arrival call kept.done reach) kept uri by

abbrev Grows : List OutcomeTarget → CallState → Type 0
Grows targets kept = (more : List OutcomeTarget) × (kept.targets ≡ targets ++ more)

grows-still : (targets : List OutcomeTarget) (kept moved : CallState) → moved ≡ kept → kept.targets ≡ targets → Grows targets moved
grows-still targets kept moved e f = ([], ap (λ (k : CallState). k.targets) e ∙ f ∙ sym (append-nil targets))

grows : (n : ℕ) (call : CallInputs) (done : ℕ) (targets : List OutcomeTarget) (phase : TargetPhase) (endings : List EndedAttempt) → Grows targets (moves n call (state_at done targets phase endings))
unfolding moves
grows zero call done targets phase endings = ([], sym (append-nil targets))
grows (suc n) call done targets (Reaching uri by) endings =
    let kept = state_at done targets (Reaching uri by) endings in
    let moved = state_on_reaching call (reached_target_after call done uri by) uri by kept in
    let (target, noted) = more-reaching call (reached_target_after call done uri by) kept uri by in
    let (more, same) = grows n call moved.done moved.targets moved.phase moved.endings in
    (target ∷ more, same ∙ ap (λ ts. ts ++ more) noted ∙ append_assoc targets (target ∷ []) more)
grows (suc n) call done targets (Ringing account) [] = grows-still targets _ _ (moves-ringing (suc n) call done targets account) refl
grows (suc n) call done targets (Ringing account) (ended ∷ endings) =
    let kept = state_at done targets (Ringing account) endings in
    let moved = state_on_end call account ended.at ended.how kept in
    let (more, same) = grows n call moved.done moved.targets moved.phase moved.endings in
    (more, same ∙ ap (λ ts. ts ++ more) (targets-end call account ended.at ended.how kept))
grows (suc n) call done targets (Over result) endings = grows-still targets _ _ (moves-over (suc n) call done targets result endings) refl

settled-stays : (n : ℕ) (call : CallInputs) (done : ℕ) (targets : List OutcomeTarget) (phase : TargetPhase) (endings : List EndedAttempt) → is_settled (result_in phase) ≡ true →
    outcome_so_far (moves n call (state_at done targets phase endings)) ≡ outcome_so_far (state_at done targets phase endings)
settled-stays n call done targets (Reaching uri by) endings e = absurd cc
settled-stays n call done targets (Ringing account) endings e = absurd cc
settled-stays n call done targets (Over result) endings e = ap outcome_so_far (moves-over n call done targets result endings)

begins-moved : (n : ℕ) (call : CallInputs) (kept : CallState) → BeginsWith (outcome_so_far (moves n call kept)) (outcome_so_far kept)
begins-moved n call kept = record {
  targets = grows n call kept.done kept.targets kept.phase kept.endings;
  settled = settled-stays n call kept.done kept.targets kept.phase kept.endings;
}

begins : (call : CallInputs) (sooner later : List EndedAttempt) → BeginsWith (outcome call (sooner ++ later)) (outcome call sooner)
begins call sooner later =
    let n = enough_moves call in
    let kept = moves n call (initial_state call sooner) in
    subst (λ longer. BeginsWith longer (outcome call sooner)) (of_the_whole call sooner later n n (omega arith))
    (subst (BeginsWith (outcome_so_far (moves n call (with_more_endings kept later)))) (moves_give_outcome call sooner n (omega arith)) (begins-moved n call (with_more_endings kept later)))

-- ---- one after the other

-- the moves from a state, over any later endings, are moves from the first state over all
abbrev Follows : CallInputs → CallState → List EndedAttempt → Type 0
Follows call kept received = (later : List EndedAttempt) (m : ℕ) → (before : ℕ) × (moves m call (with_more_endings kept later) ≡ moves (before + m) call (initial_state call (received ++ later)))

follows-next : (call : CallInputs) (n : ℕ) (kept : CallState) (received : List EndedAttempt) (ended : EndedAttempt) → Follows call kept received →
    Follows call (moves n call (with_more_endings kept (ended ∷ []))) (received ++ ended ∷ [])
follows-next call n kept received ended follows later m =
    let (fewer, same) = moves-on call n m (with_more_endings kept (ended ∷ [])) later in
    let (before, behind) = follows (ended ∷ later) (fewer + m) in (
      before + fewer,
      same
          ∙ ap (λ es. moves (fewer + m) call (record kept { endings = es })) (append_assoc kept.endings (ended ∷ []) later)
          ∙ behind
          ∙ ap (λ i. moves i call (initial_state call (received ++ ended ∷ later))) (let e : before + (fewer + m) ≡ before + fewer + m = omega arith in e)
          ∙ ap (λ es. moves (before + fewer + m) call (initial_state call es)) (sym (append_assoc received (ended ∷ []) later)),
    )

in_turn : (call : CallInputs) (n : ℕ) → enough_moves call ≤ n → (endings received : List EndedAttempt) (kept : CallState) → Follows call kept received → outcome_so_far kept ≡ outcome call received →
    outcome_so_far (one_by_one n call endings kept) ≡ outcome call (received ++ endings)
unfolding one_by_one
in_turn call n enough [] received kept follows same = same ∙ ap (outcome call) (sym (append-nil received))
in_turn call n enough (ended ∷ endings) received kept follows same =
    let (before, behind) = follows (ended ∷ []) n in
    in_turn call n enough endings (received ++ ended ∷ []) (moves n call (with_more_endings kept (ended ∷ []))) (follows-next call n kept received ended follows)
    (ap outcome_so_far behind ∙ moves_give_outcome call (received ++ ended ∷ []) (before + n) (omega arith))
    ∙ ap (outcome call) (append_assoc received (ended ∷ []) endings)

pub later_endings_extend : LaterEndingsExtend
later_endings_extend = record {
  outcomes = begins;
  go_on = λ call n kept later. goes_on n call kept.done kept.targets kept.phase kept.endings later;
  whole = of_the_whole;
  one_at_a_time = λ call endings n enough. in_turn call n enough endings [] (moves n call (initial_state call [])) (λ later m. moves-on call n m (initial_state call []) later) (moves_give_outcome call [] n enough);
}

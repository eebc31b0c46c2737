-- The bound on the diversions of a call.
use Rattle.std.proofs.Common.{◌≡◌, ◌↔◌, ℕ, zero, suc, ◌+◌, ◌-◌, ◌≤◌, ◌<◌, ◌==◌, Bool, true, false, List, [], ◌∷◌, ◌++◌, refl, ap, sym, subst, ◌∙◌, arith}
use Rattle.std.specs.Prelude.{Option, Some, None, max, is_some, option_and_then, if◌then◌else◌, cond, is_none}
use Rattle.std.specs.List.{AllByRecursion, count_by}
use Rattle.std.specs.Option.{option_map_or}
use Rattle.std.proofs.lemmas.Bool.Decides.{nat_tests}
use Rattle.std.proofs.lemmas.List.Sums.{sum_by-cons}
use Rattle.mmtel_types.specs.declared.causes.Cause.{Cause}
use Rattle.mmtel_types.specs.declared.causes.Cause.TheVariants as causes
use Rattle.mmtel_lex.specs.declared.values.Uri.{Uri}
use Rattle.mmtel_rules.specs.Facts.{FactsView}
use Rattle.mmtel_precedence.specs.Services.{ServedAccountView, DueDiversionView, bound_of, is_reached, ServiceDecision, Nothing, Refuses, Diverts, refuses_if, diverts_by, first_decision, services_on_arrival}
use Rattle.mmtel_precedence.specs.Calls.{refused_outcome, AttemptEndView, Answer, Cancel, Unacknowledged, UserBusy, NotReachable, NoReply, Deflection, Other}
use Rattle.mmtel_precedence.specs.Calls.{EndedAttempt, ReachedTargetView, CallInputs, OutcomeTarget, CallResult, Final, Outcome, outcome_at_last_target}
use Rattle.mmtel_precedence.specs.Opening.{refusal_at_opening}
use Rattle.mmtel_served_user.specs.Targets.{new_target}
use Rattle.mmtel_precedence.specs.Targets.{TargetOutcome, Rests, IsDue, reached_target_after, caller_facts, decision_on_arrival, is_refused}
use Rattle.mmtel_precedence.specs.Targets.{outcome_of_diversion_or, target_outcome_on, target_outcome_at, target_outcome_after, target_at}
use Rattle.mmtel_precedence.specs.Outcome.{outcome_from, outcome}
use Rattle.mmtel_precedence.specs.Theorems.{is_diverted_to, diversions_made, StaysWithinBound, UnbarredDiversion, unbarred_diversion_by}
use Rattle.mmtel_precedence.specs.Theorems.{unbarred_diversion_from, unbarred_diversion_after, IsOpened, IsBelowBound, IsBoundExact}
use Rattle.mmtel_precedence.proofs.Accounts.{account_decisions}
use Rattle.mmtel_precedence.proofs.TargetOutcomes.{from_next, refused_for, unless_reached, unless_reached-cases, after_due, go_further}

-- one where a diversion led to the target
abbrev one_for : Option DueDiversionView → ℕ
one_for None = 0
one_for (Some due) = 1

one_for-is : (by : Option DueDiversionView) → cond (is_some by) 1 0 ≡ one_for by
one_for-is None = refl
one_for-is (Some due) = refl

made-target : (target : OutcomeTarget) (more : List OutcomeTarget) → count_by is_diverted_to (target ∷ more) ≡ one_for target.diversion + count_by is_diverted_to more
made-target target more = sum_by-cons (λ (t : OutcomeTarget). cond (is_diverted_to t) 1 0) target more ∙ ap (λ n. n + count_by is_diverted_to more) (one_for-is target.diversion)

made-last : (target : OutcomeTarget) (result : CallResult) → diversions_made (outcome_at_last_target target result) ≡ one_for target.diversion
made-last target result = let e : count_by is_diverted_to (target ∷ []) ≡ one_for target.diversion + 0 = made-target target [] in e ∙ omega arith

-- the diversions made, at a target and after it
made-from_next : (target : OutcomeTarget) (onward : DueDiversionView → List EndedAttempt → Outcome) (next : TargetOutcome) →
    diversions_made (from_next target onward next)
    ≡ option_map_or (λ (passed : UnbarredDiversion). diversions_made (onward passed.due passed.remaining)) (unbarred_diversion_by next) (one_for target.diversion)
made-from_next target onward (Rests result) = made-last target result
made-from_next target onward (IsDue due later) = refl

-- ---- no more diversions than remain

most-passed : (by : Option DueDiversionView) (passed : Option UnbarredDiversion) (made : UnbarredDiversion → ℕ) (most : ℕ) → ((p : UnbarredDiversion) → made p ≤ most) → one_for by ≤ most →
    option_map_or made passed (one_for by) ≤ most
most-passed by None made most each least = least
most-passed by (Some passed) made most each least = each passed

made-from : (call : CallInputs) (left k : ℕ) (uri : Uri) (by : Option DueDiversionView) (endings : List EndedAttempt) → diversions_made (outcome_from call left k uri by endings) ≤ left + one_for by
unfolding outcome_from
made-from call zero k uri by endings =
    let onward : DueDiversionView → List EndedAttempt → Outcome = λ due later. refused_for (target_at call k uri by) due in
    let e = made-from_next (target_at call k uri by) onward (target_outcome_after call k uri by endings) in
    let h : (p : UnbarredDiversion) → diversions_made (onward p.due p.remaining) ≤ one_for by = λ p. (let f = made-last (target_at call k uri by) (Final (causes.TooManyDiversions (p.due.cause == 486))) in omega arith) in
    let g : option_map_or (λ (p : UnbarredDiversion). diversions_made (onward p.due p.remaining)) (unbarred_diversion_by (target_outcome_after call k uri by endings)) (one_for by) ≤ one_for by =
    most-passed by (unbarred_diversion_by (target_outcome_after call k uri by endings)) (λ p. diversions_made (onward p.due p.remaining)) (one_for by) h (omega arith) in
    omega arith
made-from call (suc left) k uri by endings =
    let onward : DueDiversionView → List EndedAttempt → Outcome = λ due later. go_further call left k (target_at call k uri by) due later in
    let e = made-from_next (target_at call k uri by) onward (target_outcome_after call k uri by endings) in
    let h : (p : UnbarredDiversion) → diversions_made (onward p.due p.remaining) ≤ suc left + one_for by = λ p.
    unless_reached-cases (λ o. diversions_made o ≤ suc left + one_for by) (is_reached p.due.bound (call.received + k)) (target_at call k uri by) p.due (after_due call left k p.due p.remaining)
    (let f = made-last (target_at call k uri by) (Final (causes.TooManyDiversions (p.due.cause == 486))) in omega arith)
    (let f = made-target (target_at call k uri by) (after_due call left k p.due p.remaining).targets in
    let i = made-from call left (k + 1) (new_target call.home p.due.forward.target) (Some p.due) p.remaining in
    omega arith) in
    let g : option_map_or (λ (p : UnbarredDiversion). diversions_made (onward p.due p.remaining)) (unbarred_diversion_by (target_outcome_after call k uri by endings)) (one_for by) ≤ suc left + one_for by =
    most-passed by (unbarred_diversion_by (target_outcome_after call k uri by endings)) (λ p. diversions_made (onward p.due p.remaining)) (suc left + one_for by) h (omega arith) in
    omega arith

within-opened : (refusal : Option Cause) (call : CallInputs) (endings : List EndedAttempt) →
    call.received + diversions_made (option_map_or refused_outcome refusal (outcome_from call (call.bound - call.received) 0 call.first_target None endings)) ≤ max call.bound call.received
within-opened None call endings = let h = made-from call (call.bound - call.received) 0 call.first_target None endings in omega arith
within-opened (Some cause) call endings = omega arith

pub stays_within_bound : StaysWithinBound
stays_within_bound call endings = within-opened (refusal_at_opening call) call endings

-- ---- no service refuses a call for too many diversions

abbrev IsPlain : ServiceDecision → Type 0
IsPlain Nothing = Unit {0}
IsPlain (Refuses cause) = (busy : Bool) → cause ≡ causes.TooManyDiversions busy → ⊥
IsPlain (Diverts due) = Unit {0}

plain-refuses_if : (b : Bool) (cause : Cause) → ((busy : Bool) → cause ≡ causes.TooManyDiversions busy → ⊥) → IsPlain (refuses_if b cause)
plain-refuses_if true cause h = h
plain-refuses_if false cause h = tt

plain-diverts_by : (due : Option DueDiversionView) → IsPlain (diverts_by due)
plain-diverts_by None = tt
plain-diverts_by (Some due) = tt

plain-first_said : (says : List ServiceDecision) → AllByRecursion IsPlain says → IsPlain (first_decision says)
plain-first_said [] h = tt
plain-first_said (Nothing ∷ says) h = plain-first_said says h.1
plain-first_said (Refuses cause ∷ says) h = h.0
plain-first_said (Diverts due ∷ says) h = tt

plain-services : (c : FactsView) (account : ServedAccountView) (later : List ServiceDecision) → AllByRecursion IsPlain later → AllByRecursion IsPlain (services_on_arrival c account ++ later)
plain-services c account later h = (
  plain-refuses_if _ causes.AnonymousRejected (λ busy e. cc),
  (
    plain-refuses_if _ causes.IncomingBarred (λ busy e. cc),
    (
      plain-diverts_by _,
      (
        plain-refuses_if _ causes.NotRegistered (λ busy e. cc),
        (
          plain-diverts_by _,
          (plain-refuses_if _ causes.NetworkBusy (λ busy e. cc), h),
        ),
      ),
    ),
  ),
)

plain-account : (c : FactsView) (served : Option ServedAccountView) (later : List ServiceDecision) → AllByRecursion IsPlain later → AllByRecursion IsPlain (account_decisions c served ++ later)
plain-account c None later h = h
plain-account c (Some account) later h = plain-services c account later h

plain-arrival : (call : CallInputs) (k : ℕ) (reach : ReachedTargetView) → IsPlain (decision_on_arrival call k reach)
plain-arrival call k reach = plain-first_said _
    (plain-account (caller_facts call k reach.at) reach.served _ (plain-refuses_if reach.is_unknown causes.NoAccount (λ busy e. cc), (plain-refuses_if (is_none reach.peer) causes.NoRoute (λ busy e. cc), tt)))

abbrev IsPlainNext : TargetOutcome → Type 0
IsPlainNext (Rests result) = (busy : Bool) → result ≡ Final (causes.TooManyDiversions busy) → ⊥
IsPlainNext (IsDue due later) = Unit {0}

plain-diverted : (barred : Bool) (due : DueDiversionView) (later : List EndedAttempt) → IsPlainNext (if barred then Rests (Final causes.OutgoingBarred) else IsDue due later)
plain-diverted true due later = λ busy e. cc
plain-diverted false due later = tt

plain-diverted_or : (call : CallInputs) (served : Option ServedAccountView) (now : ℕ) (due : Option DueDiversionView) (cause : Cause) (later : List EndedAttempt) →
    ((busy : Bool) → cause ≡ causes.TooManyDiversions busy → ⊥) → IsPlainNext (outcome_of_diversion_or call served now due cause later)
plain-diverted_or call served now None cause later h = λ busy e. h busy (cc)
plain-diverted_or call served now (Some due) cause later h = plain-diverted (is_refused call served now due) due later

plain-on : (call : CallInputs) (k : ℕ) (served : Option ServedAccountView) (now : ℕ) (how : AttemptEndView) (later : List EndedAttempt) → IsPlainNext (target_outcome_on call k served now how later)
plain-on call k served now Answer later = λ busy e. cc
plain-on call k served now Cancel later = λ busy e. cc
plain-on call k served now Unacknowledged later = λ busy e. cc
plain-on call k served now (UserBusy code) later = plain-diverted_or call served now _ (causes.Relayed code) later (λ busy e. cc)
plain-on call k served now (NotReachable code) later = plain-diverted_or call served now _ (causes.Unreachable code) later (λ busy e. cc)
plain-on call k served now NoReply later = plain-diverted_or call served now _ causes.NoReply later (λ busy e. cc)
plain-on call k served now (Deflection target rang) later = plain-diverted_or call served now _ (causes.Relayed 480) later (λ busy e. cc)
plain-on call k served now (Other code) later = λ busy e. cc

plain-at : (says : ServiceDecision) (call : CallInputs) (k : ℕ) (reach : ReachedTargetView) (endings : List EndedAttempt) → IsPlain says → IsPlainNext (target_outcome_at says call k reach endings)
plain-at Nothing call k reach [] h = λ busy e. cc
plain-at Nothing call k reach (ended ∷ later) h = plain-on call k reach.served ended.at ended.how later
plain-at (Refuses cause) call k reach endings h = λ busy e. h busy (cc)
plain-at (Diverts due) call k reach endings h = plain-diverted (is_refused call reach.served reach.at due) due endings

plain-after : (call : CallInputs) (k : ℕ) (uri : Uri) (by : Option DueDiversionView) (endings : List EndedAttempt) → IsPlainNext (target_outcome_after call k uri by endings)
plain-after call k uri by endings =
    plain-at (decision_on_arrival call k (reached_target_after call k uri by)) call k (reached_target_after call k uri by) endings (plain-arrival call k (reached_target_after call k uri by))

-- ---- what is to be shown of the outcome from a target on that is reached after k diversions

-- what is due after j more diversions is made
abbrev IsMade : CallInputs → (j k : ℕ) → Uri → Option DueDiversionView → List EndedAttempt → Type 0
IsMade call j k uri by endings = (passed : UnbarredDiversion) × (unbarred_diversion_from call j k uri by endings ≡ Some passed) × IsBelowBound call (k + j) passed

-- or the call is refused
abbrev IsRefused : CallInputs → (j k : ℕ) → Uri → Option DueDiversionView → List EndedAttempt → Bool → Type 0
IsRefused call j k uri by endings busy = (passed : UnbarredDiversion) × (unbarred_diversion_from call j k uri by endings ≡ Some passed) × (IsBelowBound call (k + j) passed → ⊥) × (busy ≡ (passed.due.cause == 486))

abbrev MadeExactly : CallInputs → (k : ℕ) → Uri → Option DueDiversionView → List EndedAttempt → (made : ℕ) → Type 0
MadeExactly call k uri by endings made = (j : ℕ) → j + one_for by ≤ made → (j + one_for by < made) ↔ IsMade call j k uri by endings

abbrev RefusedExactly : CallInputs → (k : ℕ) → Uri → Option DueDiversionView → List EndedAttempt → (made : ℕ) → CallResult → Type 0
RefusedExactly call k uri by endings made result = (j : ℕ) (busy : Bool) → j + one_for by ≡ made → (result ≡ Final (causes.TooManyDiversions busy)) ↔ IsRefused call j k uri by endings busy

record IsExact (call : CallInputs) (k : ℕ) (uri : Uri) (by : Option DueDiversionView) (endings : List EndedAttempt) (o : Outcome) : Type 0 where
  least : one_for by ≤ diversions_made o
  made : MadeExactly call k uri by endings (diversions_made o)
  refused : RefusedExactly call k uri by endings (diversions_made o) o.result

-- ---- nothing is due

none-made : (call : CallInputs) (k : ℕ) (uri : Uri) (by : Option DueDiversionView) (endings : List EndedAttempt) (made : ℕ) → made ≡ one_for by →
    unbarred_diversion_by (target_outcome_after call k uri by endings) ≡ None → MadeExactly call k uri by endings made
unfolding unbarred_diversion_from
none-made call k uri by endings made e f zero least = (λ h. absurd (omega arith), λ (p, g, i). absurd (let none = sym f ∙ g in cc))
none-made call k uri by endings made e f (suc j) least = absurd (omega arith)

none-refused : (call : CallInputs) (k : ℕ) (uri : Uri) (by : Option DueDiversionView) (endings : List EndedAttempt) (made : ℕ) (result : CallResult) → made ≡ one_for by →
    ((busy : Bool) → result ≡ Final (causes.TooManyDiversions busy) → ⊥) → unbarred_diversion_by (target_outcome_after call k uri by endings) ≡ None → RefusedExactly call k uri by endings made result
unfolding unbarred_diversion_from
none-refused call k uri by endings made result e plain f zero busy same = (λ h. absurd (plain busy h), λ (p, g, i, b). absurd (let none = sym f ∙ g in cc))
none-refused call k uri by endings made result e plain f (suc j) busy same = absurd (omega arith)

-- ---- a diversion is due, and its bound is reached

-- the diversion that is due is the only one
same-passed : (p q : UnbarredDiversion) (due : Option UnbarredDiversion) → due ≡ Some p → due ≡ Some q → q ≡ p
same-passed p q due f g = let same : Some q ≡ Some p = sym g ∙ f in cc

-- at the same target
below-here : (call : CallInputs) (k n : ℕ) (p q : UnbarredDiversion) → q ≡ p → n ≡ k → IsBelowBound call n q → IsBelowBound call k p
below-here call k n p q same e below = subst (λ m. IsBelowBound call m p) e (subst (IsBelowBound call n) same below)

stopped-made : (call : CallInputs) (k : ℕ) (uri : Uri) (by : Option DueDiversionView) (endings : List EndedAttempt) (made : ℕ) (p : UnbarredDiversion) → made ≡ one_for by →
    (IsBelowBound call k p → ⊥) → unbarred_diversion_by (target_outcome_after call k uri by endings) ≡ Some p → MadeExactly call k uri by endings made
unfolding unbarred_diversion_from
stopped-made call k uri by endings made p e above f zero least = (
  λ h. absurd (omega arith),
  λ (q, g, below). absurd (above (below-here call k (k + 0) p q (same-passed p q (unbarred_diversion_by (target_outcome_after call k uri by endings)) f g) (omega arith) below)),
)
stopped-made call k uri by endings made p e above f (suc j) least = absurd (omega arith)

stopped-refused : (call : CallInputs) (k : ℕ) (uri : Uri) (by : Option DueDiversionView) (endings : List EndedAttempt) (made : ℕ) (p : UnbarredDiversion) → made ≡ one_for by →
    (IsBelowBound call k p → ⊥) → unbarred_diversion_by (target_outcome_after call k uri by endings) ≡ Some p → RefusedExactly call k uri by endings made (Final (causes.TooManyDiversions (p.due.cause == 486)))
unfolding unbarred_diversion_from
stopped-refused call k uri by endings made p e above f zero busy same = (
  λ h. (p, f, (λ below. above (below-here call k (k + 0) p p refl (omega arith) below)), (cc)),
  λ (q, g, i, b). (let same = same-passed p q (unbarred_diversion_by (target_outcome_after call k uri by endings)) f g in
      ap (λ (busy : Bool). Final (causes.TooManyDiversions busy)) (ap (λ (x : UnbarredDiversion). x.due.cause == 486) (sym same) ∙ sym b)),
)
stopped-refused call k uri by endings made p e above f (suc j) busy same = absurd (omega arith)

-- ---- a diversion is due below its bound, and this is to be shown of its outcome

-- what is due after j more diversions after this one
abbrev later_passed : CallInputs → (j : ℕ) → (k : ℕ) → UnbarredDiversion → Option UnbarredDiversion
later_passed call j k passed = unbarred_diversion_from call j (k + 1) (new_target call.home passed.due.forward.target) (Some passed.due) passed.remaining

passed-later : (call : CallInputs) (j k : ℕ) (uri : Uri) (by : Option DueDiversionView) (endings : List EndedAttempt) (p : UnbarredDiversion) →
    unbarred_diversion_by (target_outcome_after call k uri by endings) ≡ Some p → unbarred_diversion_from call (suc j) k uri by endings ≡ later_passed call j k p
unfolding unbarred_diversion_from
passed-later call j k uri by endings p f = ap (λ (o : Option UnbarredDiversion). option_and_then (later_passed call j k) o) f

passing-made : (call : CallInputs) (k : ℕ) (uri : Uri) (by : Option DueDiversionView) (endings : List EndedAttempt) (made more : ℕ) (p : UnbarredDiversion) → made ≡ one_for by + more → 1 ≤ more →
    IsBelowBound call k p → unbarred_diversion_by (target_outcome_after call k uri by endings) ≡ Some p →
    MadeExactly call (k + 1) (new_target call.home p.due.forward.target) (Some p.due) p.remaining more → MadeExactly call k uri by endings made
unfolding unbarred_diversion_from
passing-made call k uri by endings made more p e one below f exactly zero least = (λ h. (p, f, below-here call (k + 0) k p p refl (omega arith) below), λ h. omega arith)
passing-made call k uri by endings made more p e one below f exactly (suc j) least =
    let later = exactly j (omega arith) in
    let step = passed-later call j k uri by endings p f in (
      λ h. (let r = later.0 (omega arith) in (r.0, step ∙ r.1, below-here call (k + suc j) (k + 1 + j) r.0 r.0 refl (omega arith) r.2)),
      λ (q, g, i). let less = later.1 (q, sym step ∙ g, below-here call (k + 1 + j) (k + suc j) q q refl (omega arith) i) in omega arith,
    )

passing-refused : (call : CallInputs) (k : ℕ) (uri : Uri) (by : Option DueDiversionView) (endings : List EndedAttempt) (made more : ℕ) (p : UnbarredDiversion) (result : CallResult) → made ≡ one_for by + more → 1 ≤ more →
    unbarred_diversion_by (target_outcome_after call k uri by endings) ≡ Some p → RefusedExactly call (k + 1) (new_target call.home p.due.forward.target) (Some p.due) p.remaining more result →
    RefusedExactly call k uri by endings made result
unfolding unbarred_diversion_from
passing-refused call k uri by endings made more p result e one f exactly zero busy same = absurd (omega arith)
passing-refused call k uri by endings made more p result e one f exactly (suc j) busy same =
    let later = exactly j busy (omega arith) in
    let step = passed-later call j k uri by endings p f in (
      λ h. (let r = later.0 h in (r.0, step ∙ r.1, (λ below. r.2 (below-here call (k + 1 + j) (k + suc j) r.0 r.0 refl (omega arith) below)), r.3)),
      λ (q, g, above, b). later.1 (q, sym step ∙ g, (λ below. above (below-here call (k + suc j) (k + 1 + j) q q refl (omega arith) below)), b),
    )

-- ---- at a target

-- the bound of a diversion that is due there is reached, or is not
abbrev IsBound : CallInputs → (k : ℕ) → UnbarredDiversion → (stops : Bool) → Type 0
IsBound call k p true = IsBelowBound call k p → ⊥
IsBound call k p false = IsBelowBound call k p

abbrev IsStop : CallInputs → (k : ℕ) → (DueDiversionView → Bool) → Type 0
IsStop call k stops = (p : UnbarredDiversion) (b : Bool) → stops p.due ≡ b → IsBound call k p b

-- this is to be shown of the outcome of each diversion that is made there
abbrev AreExact : CallInputs → (k : ℕ) → (DueDiversionView → Bool) → (DueDiversionView → List EndedAttempt → Outcome) → Type 0
AreExact call k stops onward = (due : DueDiversionView) (later : List EndedAttempt) → stops due ≡ false → IsExact call (k + 1) (new_target call.home due.forward.target) (Some due) later (onward due later)

exact-due : (call : CallInputs) (k : ℕ) (uri : Uri) (by : Option DueDiversionView) (endings : List EndedAttempt) (due : DueDiversionView) (later : List EndedAttempt) (o : Outcome) →
    unbarred_diversion_by (target_outcome_after call k uri by endings) ≡ Some (record { due = due; remaining = later }) →
    (b : Bool) → IsBound call k (record { due = due; remaining = later }) b →
    (b ≡ false → IsExact call (k + 1) (new_target call.home due.forward.target) (Some due) later o) → IsExact call k uri by endings (unless_reached b (target_at call k uri by) due o)
exact-due call k uri by endings due later o f true above each =
    let e = made-last (target_at call k uri by) (Final (causes.TooManyDiversions (due.cause == 486))) in
    record {
      least = omega arith;
      made = stopped-made call k uri by endings _ (record { due = due; remaining = later }) e above f;
      refused = stopped-refused call k uri by endings _ (record { due = due; remaining = later }) e above f;
    }
exact-due call k uri by endings due later o f false below each =
    let e = made-target (target_at call k uri by) o.targets in
    let after = each refl in
    record {
      least = omega arith;
      made = passing-made call k uri by endings _ (diversions_made o) (record { due = due; remaining = later }) e after.least below f after.made;
      refused = passing-refused call k uri by endings _ (diversions_made o) (record { due = due; remaining = later }) o.result e after.least f after.refused;
    }

exact-next : (call : CallInputs) (k : ℕ) (uri : Uri) (by : Option DueDiversionView) (endings : List EndedAttempt) (stops : DueDiversionView → Bool) (onward : DueDiversionView → List EndedAttempt → Outcome) →
    IsStop call k stops → AreExact call k stops onward → (next : TargetOutcome) → unbarred_diversion_by (target_outcome_after call k uri by endings) ≡ unbarred_diversion_by next → IsPlainNext next →
    IsExact call k uri by endings (from_next (target_at call k uri by) (λ due later. unless_reached (stops due) (target_at call k uri by) due (onward due later)) next)
exact-next call k uri by endings stops onward stop each (Rests result) f plain =
    let e = made-last (target_at call k uri by) result in
    record { least = omega arith; made = none-made call k uri by endings _ e f; refused = none-refused call k uri by endings _ result e plain f }
exact-next call k uri by endings stops onward stop each (IsDue due later) f plain =
    exact-due call k uri by endings due later (onward due later) f (stops due) (stop (record { due = due; remaining = later }) (stops due) refl) (each due later)

-- ---- the bounds

bound-least : (configured : ℕ) (own : Option ℕ) → bound_of configured own ≤ configured
bound-least configured None = omega arith
bound-least configured (Some own) = omega arith

reached-above : (configured count : ℕ) (own : Option ℕ) → is_reached own count ≡ true → count < bound_of configured own → ⊥
reached-above configured count None e h = cc
reached-above configured count (Some own) e h = let most : own ≤ count = grind (arith, nat_tests) in let less : count < own = omega arith in absurd (omega arith)

not_reached-below : (configured count : ℕ) (own : Option ℕ) → count < configured → is_reached own count ≡ false → count < bound_of configured own
not_reached-below configured count None h e = h
not_reached-below configured count (Some own) h e = let less : count < own = grind (arith, nat_tests) in omega arith

stops-at : (call : CallInputs) (k : ℕ) → zero ≡ call.bound - (call.received + k) → IsStop call k (λ due. true)
stops-at call k e p true same = λ below. let least = bound-least call.bound p.due.bound in absurd (omega arith)
stops-at call k e p false same = absurd cc

stops-below : (call : CallInputs) (left k : ℕ) → suc left ≡ call.bound - (call.received + k) → IsStop call k (λ due. is_reached due.bound (call.received + k))
stops-below call left k e p true same = reached-above call.bound (call.received + k) p.due.bound same
stops-below call left k e p false same = not_reached-below call.bound (call.received + k) p.due.bound (omega arith) same

exact-from : (call : CallInputs) (left k : ℕ) (uri : Uri) (by : Option DueDiversionView) (endings : List EndedAttempt) → left ≡ call.bound - (call.received + k) →
    IsExact call k uri by endings (outcome_from call left k uri by endings)
unfolding outcome_from
exact-from call zero k uri by endings e =
    exact-next call k uri by endings (λ due. true) (λ due later. refused_for (target_at call k uri by) due) (stops-at call k e) (λ due later same. absurd cc)
    (target_outcome_after call k uri by endings) refl (plain-after call k uri by endings)
exact-from call (suc left) k uri by endings e =
    exact-next call k uri by endings (λ due. is_reached due.bound (call.received + k)) (λ due later. after_due call left k due later) (stops-below call left k e)
    (λ due later same. exact-from call left (k + 1) (new_target call.home due.forward.target) (Some due) later (omega arith)) (target_outcome_after call k uri by endings) refl (plain-after call k uri by endings)

-- ---- of the whole call

exact-opened : (call : CallInputs) (endings : List EndedAttempt) → IsOpened call → IsExact call 0 call.first_target None endings (outcome call endings)
exact-opened call endings opened =
    subst (λ refusal. IsExact call 0 call.first_target None endings (option_map_or refused_outcome refusal (outcome_from call (call.bound - call.received) 0 call.first_target None endings))) (sym opened)
    (exact-from call (call.bound - call.received) 0 call.first_target None endings (omega arith))

at-first : (call : CallInputs) (k : ℕ) (p : UnbarredDiversion) → IsBelowBound call (0 + k) p ↔ IsBelowBound call k p
at-first call k p = (below-here call k (0 + k) p p refl (omega arith), below-here call (0 + k) k p p refl (omega arith))

made-opened : (call : CallInputs) (endings : List EndedAttempt) (k made : ℕ) → MadeExactly call 0 call.first_target None endings made → k ≤ made →
    (k < made) ↔ ((passed : UnbarredDiversion) × (unbarred_diversion_after call k endings ≡ Some passed) × IsBelowBound call k passed)
made-opened call endings k made exactly least =
    let here = exactly k (omega arith) in (
      λ h. (let r = here.0 (omega arith) in (r.0, r.1, (at-first call k r.0).0 r.2)),
      λ (p, g, i). let less = here.1 (p, g, (at-first call k p).1 i) in omega arith,
    )

refused-opened : (call : CallInputs) (endings : List EndedAttempt) (busy : Bool) (made : ℕ) (result : CallResult) → RefusedExactly call 0 call.first_target None endings made result →
    (result ≡ Final (causes.TooManyDiversions busy))
    ↔ ((passed : UnbarredDiversion) × (unbarred_diversion_after call made endings ≡ Some passed) × (IsBelowBound call made passed → ⊥) × (busy ≡ (passed.due.cause == 486)))
refused-opened call endings busy made result exactly =
    let here = exactly made busy (omega arith) in (
      λ h. (let r = here.0 h in (r.0, r.1, (λ below. r.2 ((at-first call made r.0).1 below)), r.3)),
      λ (p, g, above, b). here.1 (p, g, (λ below. above ((at-first call made p).0 below)), b),
    )

pub is_bound_exact : IsBoundExact
is_bound_exact = record {
  made = λ call endings k opened least. made-opened call endings k (diversions_made (outcome call endings)) (exact-opened call endings opened).made least;
  refused = λ call endings busy opened. refused-opened call endings busy (diversions_made (outcome call endings)) (outcome call endings).result (exact-opened call endings opened).refused;
}

-- Barring comes before diversion, and anonymous communication rejection before both.
use Rattle.std.proofs.Common.{◌≡◌, ℕ, zero, suc, true, false, List, [], ◌∷◌, ◌++◌, ap, ◌∙◌}
use Rattle.std.specs.Prelude.{Option, Some, is_none}
use Rattle.mmtel_types.specs.declared.causes.Cause.{Cause}
use Rattle.mmtel_types.specs.declared.causes.Cause.TheVariants as causes
use Rattle.mmtel_lex.specs.declared.values.Uri.{Uri}
use Rattle.mmtel_rules.specs.Facts.{FactsView}
use Rattle.mmtel_precedence.specs.Services.{ServedAccountView, DueDiversionView, ServiceDecision, Nothing, Refuses, Diverts, refuses_if}
use Rattle.mmtel_precedence.specs.Services.{first_decision, rejects_anonymous, bars_incoming, services_after_barring, services_on_arrival}
use Rattle.mmtel_precedence.specs.Verdicts.{decision_by}
use Rattle.mmtel_precedence.specs.Calls.{CallInputs, EndedAttempt, ReachedTargetView, NotOffered, Final, outcome_at_last_target}
use Rattle.mmtel_precedence.specs.Targets.{reached_target_after, caller_facts, offer_by, decision_on_arrival, target_outcome_at, target_at}
use Rattle.mmtel_precedence.specs.Outcome.{outcome_from}
use Rattle.mmtel_precedence.specs.Theorems.{BarringComesFirst}
use Rattle.mmtel_precedence.proofs.Accounts.{account_decisions}
use Rattle.mmtel_precedence.proofs.TargetOutcomes.{from_next, refused_for, go_further}

anonymous_is_refused : (c : FactsView) (account : ServedAccountView) → rejects_anonymous c account.sheet ≡ true → first_decision (services_on_arrival c account) ≡ Refuses causes.AnonymousRejected
anonymous_is_refused c account e = ap (λ b. first_decision (refuses_if b causes.AnonymousRejected ∷ refuses_if (bars_incoming c account.sheet) causes.IncomingBarred ∷ services_after_barring c account)) e

barred_is_refused : (c : FactsView) (account : ServedAccountView) → rejects_anonymous c account.sheet ≡ false → bars_incoming c account.sheet ≡ true →
    first_decision (services_on_arrival c account) ≡ Refuses causes.IncomingBarred
barred_is_refused c account e h =
    ap (λ b. first_decision (refuses_if b causes.AnonymousRejected ∷ refuses_if (bars_incoming c account.sheet) causes.IncomingBarred ∷ services_after_barring c account)) e
    ∙ ap (λ b. first_decision (refuses_if b causes.IncomingBarred ∷ services_after_barring c account)) h

-- the first refusal decides, whatever the later decisions are
first_said-refused : (says later : List ServiceDecision) (why : Cause) → first_decision says ≡ Refuses why → first_decision (says ++ later) ≡ Refuses why
first_said-refused [] later why e = absurd cc
first_said-refused (Nothing ∷ says) later why e = first_said-refused says later why e
first_said-refused (Refuses cause ∷ says) later why e = e
first_said-refused (Diverts due ∷ says) later why e = absurd cc

said-refused : (call : CallInputs) (k : ℕ) (reach : ReachedTargetView) (account : ServedAccountView) (why : Cause) → reach.served ≡ Some account →
    first_decision (services_on_arrival (caller_facts call k reach.at) account) ≡ Refuses why → decision_on_arrival call k reach ≡ Refuses why
said-refused call k reach account why e h =
    ap (λ served. first_decision (account_decisions (caller_facts call k reach.at) served ++ refuses_if reach.is_unknown causes.NoAccount ∷ refuses_if (is_none reach.peer) causes.NoRoute ∷ [])) e
    ∙ first_said-refused (services_on_arrival (caller_facts call k reach.at) account) (refuses_if reach.is_unknown causes.NoAccount ∷ refuses_if (is_none reach.peer) causes.NoRoute ∷ []) why h

-- a target that refuses is the last
outcome_from-refused : (call : CallInputs) (left k : ℕ) (uri : Uri) (by : Option DueDiversionView) (endings : List EndedAttempt) (why : Cause) →
    decision_on_arrival call k (reached_target_after call k uri by) ≡ Refuses why → outcome_from call left k uri by endings ≡ outcome_at_last_target (record { uri = uri; diversion = by; offer = NotOffered }) (Final why)
unfolding outcome_from
outcome_from-refused call zero k uri by endings why e =
    ap (λ said. from_next (record { uri = uri; diversion = by; offer = offer_by said (reached_target_after call k uri by).served })
    (λ due later. refused_for (target_at call k uri by) due)
    (target_outcome_at said call k (reached_target_after call k uri by) endings)) e
outcome_from-refused call (suc left) k uri by endings why e =
    ap (λ said. from_next (record { uri = uri; diversion = by; offer = offer_by said (reached_target_after call k uri by).served })
    (λ due later. go_further call left k (target_at call k uri by) due later)
    (target_outcome_at said call k (reached_target_after call k uri by) endings)) e

pub barring_comes_first : BarringComesFirst
barring_comes_first = record {
  anonymous = λ c account e. ap (λ said. decision_by said account.live) (anonymous_is_refused c account e);
  barred = λ c account e h. ap (λ said. decision_by said account.live) (barred_is_refused c account e h);
  anonymous_at = λ call left k uri by endings account s e.
      outcome_from-refused call left k uri by endings causes.AnonymousRejected
      (said-refused call k (reached_target_after call k uri by) account causes.AnonymousRejected s (anonymous_is_refused (caller_facts call k (reached_target_after call k uri by).at) account e));
  barred_at = λ call left k uri by endings account s e h.
      outcome_from-refused call left k uri by endings causes.IncomingBarred
      (said-refused call k (reached_target_after call k uri by) account causes.IncomingBarred s (barred_is_refused (caller_facts call k (reached_target_after call k uri by).at) account e h));
}

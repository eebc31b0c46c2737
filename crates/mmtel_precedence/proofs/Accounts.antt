-- A target without a served account has the results of an account with an empty record, registered and in no call.
use Rattle.std.proofs.Common.{◌≡◌, ℕ, Bool, true, List, [], ◌∷◌, ◌++◌, refl}
use Rattle.std.specs.Prelude.{Option, Some, None, unwrap_or, nat_lt}
use Rattle.std.specs.Option.{option_map, option_map_or}
use Rattle.mmtel_lex.specs.declared.values.Uri.{Uri}
use Rattle.mmtel_sheet_values.specs.Sheets.{empty_sheet}
use Rattle.mmtel_rules.specs.Facts.{FactsView}
use Rattle.mmtel_rules.specs.declared.values.When.{When}
use Rattle.mmtel_diversion.specs.Diversion.{deflection_of}
use Rattle.mmtel_precedence.specs.Services.{ServedAccountView, DueDiversionView, ServiceDecision, Nothing, Refuses, Diverts, first_decision, due_on, own_bound, bars_outgoing, services_on_arrival}
use Rattle.mmtel_precedence.specs.Calls.{CallInputs}
use Rattle.mmtel_served_user.specs.Targets.{new_target}
use Rattle.mmtel_precedence.specs.Targets.{is_waiting, due_at, deflection_to, deflection_at, is_refused, target_facts}

-- the account with an empty record
abbrev pub nobody : ServedAccountView
nobody = record { sheet = empty_sheet; registered = true; live = 0 }

-- the services of the account that is served; none where no account is
abbrev pub account_decisions : FactsView → Option ServedAccountView → List ServiceDecision
account_decisions c served = option_map_or (services_on_arrival c) served []

-- the first decision, then the later ones
abbrev pub decision_or : ServiceDecision → ServiceDecision → ServiceDecision
decision_or Nothing later = later
decision_or (Refuses cause) later = Refuses cause
decision_or (Diverts due) later = Diverts due

pub first_said-append : (says later : List ServiceDecision) → first_decision (says ++ later) ≡ decision_or (first_decision says) (first_decision later)
first_said-append [] later = refl
first_said-append (Nothing ∷ says) later = first_said-append says later
first_said-append (Refuses cause ∷ says) later = refl
first_said-append (Diverts due ∷ says) later = refl

pub first_said-account : (c : FactsView) (served : Option ServedAccountView) (later : List ServiceDecision) →
    first_decision (account_decisions c served ++ later) ≡ decision_or (first_decision (services_on_arrival c (unwrap_or served nobody))) (first_decision later)
first_said-account c None later = refl
first_said-account c (Some account) later = first_said-append (services_on_arrival c account) later

pub is_waiting-account : (served : Option ServedAccountView) → is_waiting served ≡ nat_lt 0 (unwrap_or served nobody).live
is_waiting-account None = refl
is_waiting-account (Some account) = refl

pub due_at-account : (c : FactsView) (when : When) (served : Option ServedAccountView) → due_at c when served ≡ due_on c when (unwrap_or served nobody).sheet
due_at-account c when None = refl
due_at-account c when (Some account) = refl

pub deflection_at-account : (served : Option ServedAccountView) (target : Uri) (rang : Bool) →
    deflection_at served target rang ≡ option_map (deflection_to target (own_bound (unwrap_or served nobody).sheet)) (deflection_of (unwrap_or served nobody).sheet rang)
deflection_at-account None target rang = refl
deflection_at-account (Some account) target rang = refl

pub is_refused-account : (call : CallInputs) (served : Option ServedAccountView) (now : ℕ) (due : DueDiversionView) →
    is_refused call served now due ≡ bars_outgoing (target_facts call now (new_target call.home due.forward.target)) (unwrap_or served nobody).sheet
is_refused-account call None now due = refl
is_refused-account call (Some account) now due = refl

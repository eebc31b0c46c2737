-- The results of barring, as decisions of services.
use Rattle.std.proofs.Common.{◌≡◌, ℕ, Bool, true, false, List, ◌∷◌, refl, ap, ◌∙◌}
use Rattle.std.specs.Prelude.{Option, Some, None, is_some, if◌then◌else◌}
use Rattle.std.specs.Option.{option_map, option_map_or}
use Rattle.mmtel_types.specs.declared.causes.Cause.TheVariants as causes
use Rattle.mmtel_sheet_values.specs.declared.values.BarPart.{BarPart}
use Rattle.mmtel_sheet_values.specs.declared.values.Rule.{Rule}
use Rattle.mmtel_sheet_values.specs.declared.values.Sheet.{Sheet}
use Rattle.mmtel_rules.specs.Facts.{FactsView}
use Rattle.mmtel_rules.specs.Rules.{barred_by, is_barred}
use Rattle.mmtel_barring.specs.Barring.{incoming_refusal, is_anonymous_refused, outgoing_bar, rules_of}
use Rattle.mmtel_barring.specs.declared.bars.Refusal.TheVariants as refusals
use Rattle.mmtel_precedence.specs.Services.{ServedAccountView, ServiceDecision, refuses_if, first_decision, refusal_or, bars_outgoing, services_after_barring, services_on_arrival}

-- the theorem about barring: a call is barred where some rule holds and none that holds allows it
abbrev pub IsBarredTheorem : Type 0
IsBarredTheorem = (c : FactsView) (rules : List Rule) → is_some (barred_by c rules) ≡ is_barred c rules

is_some-option_map : {A B : Type 0} (f : A → B) (o : Option A) → is_some (option_map f o) ≡ is_some o
is_some-option_map f None = refl
is_some-option_map f (Some x) = refl

-- outgoing barring returns a rule exactly where it bars
is_some-outgoing_bar : IsBarredTheorem → (c : FactsView) (part : Option BarPart) → is_some (outgoing_bar c part) ≡ is_barred c (rules_of part)
is_some-outgoing_bar law c None = refl
is_some-outgoing_bar law c (Some part) = is_some-option_map _ (barred_by c part.rules) ∙ law c part.rules

said_by-rule : (found : Option ℕ) (later : List ServiceDecision) →
    refusal_or (option_map (λ place. refusals.Barred place) found) (first_decision later) ≡ first_decision (refuses_if (is_some found) causes.IncomingBarred ∷ later)
said_by-rule None later = refl
said_by-rule (Some place) later = refl

said_by-part : (anonymous : Bool) (found : Option ℕ) (later : List ServiceDecision) →
    refusal_or (if anonymous then Some refusals.Anonymous else option_map (λ place. refusals.Barred place) found) (first_decision later)
    ≡ first_decision (refuses_if anonymous causes.AnonymousRejected ∷ refuses_if (is_some found) causes.IncomingBarred ∷ later)
said_by-part true found later = refl
said_by-part false found later = said_by-rule found later

-- incoming barring decides as the first two services do
said_by-incoming : IsBarredTheorem → (c : FactsView) (part : Option BarPart) (later : List ServiceDecision) →
    refusal_or (incoming_refusal c part) (first_decision later)
    ≡ first_decision (refuses_if (option_map_or (is_anonymous_refused c) part false) causes.AnonymousRejected ∷ refuses_if (is_barred c (rules_of part)) causes.IncomingBarred ∷ later)
said_by-incoming law c None later = refl
said_by-incoming law c (Some part) later =
    said_by-part (is_anonymous_refused c part) (barred_by c part.rules) later
    ∙ ap (λ b. first_decision (refuses_if (is_anonymous_refused c part) causes.AnonymousRejected ∷ refuses_if b causes.IncomingBarred ∷ later)) (law c part.rules)

-- the same of the facts of a call
pub is_some-outgoing : IsBarredTheorem → (c : FactsView) (sheet : Sheet) → is_some (outgoing_bar c sheet.outgoing) ≡ bars_outgoing c sheet
is_some-outgoing law c sheet = is_some-outgoing_bar law c sheet.outgoing

pub said_by-arrival : IsBarredTheorem → (c : FactsView) (account : ServedAccountView) →
    refusal_or (incoming_refusal c account.sheet.incoming) (first_decision (services_after_barring c account)) ≡ first_decision (services_on_arrival c account)
said_by-arrival law c account = said_by-incoming law c account.sheet.incoming (services_after_barring c account)

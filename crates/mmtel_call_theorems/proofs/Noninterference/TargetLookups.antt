-- The target to which a decision diverts a call is that of a rule of the record, or of the response that redirects.
use Rattle.std.proofs.Common.{◌≡◌, ℕ, Bool, true, false, not, List, [], ◌∷◌, refl, ap, cond, Option, Some, None}
use Rattle.std.specs.Prelude.{slice_get, option_and_then}
use Rattle.std.specs.Option.{option_map}
use Rattle.mmtel_diversion.specs.Diversion.{ChosenDiversion, cause_of, diversion_among, diversion_by, forward_of}
use Rattle.mmtel_precedence.specs.Calls.{ReachedTargetView}
use Rattle.mmtel_precedence.specs.Theorems.{diversion_rules}
use Rattle.mmtel_precedence.specs.Moves.{account_at}
use Rattle.mmtel_precedence.specs.Services.{Diverts, DueDiversionView, Nothing, Refuses, ServedAccountView, ServiceDecision, bars_incoming}
use Rattle.mmtel_precedence.specs.Services.{diverts_by, due_of, due_on, first_decision, own_bound, refuses_if, rejects_anonymous, services_on_arrival}
use Rattle.mmtel_precedence.specs.NextSteps.{NextStepView, StepDivert, StepOffer, StepRefuse, next_step_at, next_step_by, offer_step}
use Rattle.mmtel_precedence.specs.Verdicts.{Decision, Ends, Forwards as Diverted, Offers, decision_by, verdict_of}
use Rattle.mmtel_precedence.specs.declared.endings.Ending.TheVariants as ending
use Rattle.mmtel_rules.specs.Facts.{FactsView}
use Rattle.mmtel_rules.specs.Rules.{first_that_holds}
use Rattle.mmtel_rules.specs.declared.values.When.{When}
use Rattle.mmtel_rules.specs.declared.values.When.TheVariants as event
use Rattle.mmtel_sheet_values.specs.declared.values.Action.{Action}
use Rattle.mmtel_sheet_values.specs.declared.values.Action.TheVariants as act
use Rattle.mmtel_sheet_values.specs.declared.values.DiversionPart.{DiversionPart}
use Rattle.mmtel_sheet_values.specs.declared.values.Forward.{Forward}
use Rattle.mmtel_sheet_values.specs.declared.values.Rule.{Rule}
use Rattle.mmtel_sheet_values.specs.declared.values.Sheet.{Sheet}
use Rattle.mmtel_types.specs.declared.causes.Cause.{Cause}
use Rattle.mmtel_types.specs.declared.numbers.Peer.{Peer}
use Rattle.mmtel_waiting.specs.Waiting.{is_busy}
use Rattle.mmtel_call_theorems.specs.Noninterference.Configurations.{Forwards}

module _ (sheet : Sheet) where
  -- ---- the targets of the record's rules

  -- a diversion, if one is due, is one of the record
  abbrev pub DueLeads : Option DueDiversionView → Type 0
  DueLeads None = Unit {0}
  DueLeads (Some due) = Forwards sheet due.forward

  abbrev chosen_by : ℕ → Rule → Forward → ChosenDiversion
  chosen_by place rule forward = record { rule = place; forward = forward; cause = cause_of rule.condition.event }

  action-leads : (bound : Option ℕ) (place : ℕ) (rule : Rule) → slice_get (diversion_rules sheet.diversion) place ≡ Some rule → (action : Action) → rule.action ≡ action →
      DueLeads (option_map (due_of bound) (option_map (chosen_by place rule) (forward_of action)))
  action-leads bound place rule stands (act.Forward forward) e = record { place = place; rule = rule; found = stands; does = ap forward_of e }
  action-leads bound place rule stands (act.Allow allowed) e = tt

  rule-leads : (bound : Option ℕ) (place : ℕ) (r : Option Rule) → slice_get (diversion_rules sheet.diversion) place ≡ r → DueLeads (option_map (due_of bound) (option_and_then (diversion_by place) r))
  rule-leads bound place None e = tt
  rule-leads bound place (Some rule) e = action-leads bound place rule e rule.action refl

  place-leads : (bound : Option ℕ) (rules : List Rule) → diversion_rules sheet.diversion ≡ rules → (place : Option ℕ) →
      DueLeads (option_map (due_of bound) (option_and_then (λ (at : ℕ). option_and_then (diversion_by at) (slice_get rules at)) place))
  place-leads bound rules e None = tt
  place-leads bound rules e (Some at) = rule-leads bound at (slice_get rules at) (ap (λ (l : List Rule). slice_get l at) e)

  part-leads : (bound : Option ℕ) (k : FactsView) (when : When) (part : Option DiversionPart) → sheet.diversion ≡ part →
      DueLeads (option_map (due_of bound) (option_and_then (λ (p : DiversionPart). diversion_among k when p.rules) part))
  part-leads bound k when None e = tt
  part-leads bound k when (Some part) e = place-leads bound part.rules (ap diversion_rules e) (first_that_holds k when part.rules)

  pub due-leads : (k : FactsView) (when : When) → DueLeads (due_on k when sheet)
  due-leads k when = part-leads (own_bound sheet) k when sheet.diversion refl

  -- ---- at a target

  abbrev SaysLead : ServiceDecision → Type 0
  SaysLead Nothing = Unit {0}
  SaysLead (Refuses cause) = Unit {0}
  SaysLead (Diverts due) = Forwards sheet due.forward

  abbrev AllLead : List ServiceDecision → Type 0
  AllLead [] = Unit {0}
  AllLead (says ∷ later) = SaysLead says × AllLead later

  first-leads : (all : List ServiceDecision) → AllLead all → SaysLead (first_decision all)
  first-leads [] a = tt
  first-leads (Nothing ∷ later) a = first-leads later a.1
  first-leads (Refuses cause ∷ later) a = tt
  first-leads (Diverts due ∷ later) a = a.0

  refusal-leads : (applies : Bool) (cause : Cause) → SaysLead (refuses_if applies cause)
  refusal-leads true cause = tt
  refusal-leads false cause = tt

  diversion-leads : (due : Option DueDiversionView) → DueLeads due → SaysLead (diverts_by due)
  diversion-leads None a = tt
  diversion-leads (Some due) a = a

  if-leads : (b : Bool) (due : Option DueDiversionView) → DueLeads due → DueLeads (cond b due None)
  if-leads true due a = a
  if-leads false due a = tt

  abbrev DecisionLeads : Decision → Type 0
  DecisionLeads (Offers waiting) = Unit {0}
  DecisionLeads (Diverted None cause) = Unit {0}
  DecisionLeads (Diverted (Some forward) cause) = Forwards sheet forward
  DecisionLeads (Ends cause) = Unit {0}

  decision-leads : (says : ServiceDecision) (live : ℕ) → SaysLead says → DecisionLeads (decision_by says live)
  decision-leads Nothing live a = tt
  decision-leads (Refuses cause) live a = tt
  decision-leads (Diverts due) live a = a

  -- where the decision is to divert, the target is that of a rule of the record
  abbrev pub StepLeads : NextStepView → Type 0
  StepLeads (StepOffer peer waiting) = Unit {0}
  StepLeads (StepDivert due) = Forwards sheet due.forward
  StepLeads (StepRefuse cause) = Unit {0}

  offer-leads : (unknown : Bool) (peer : Option Peer) (waiting : Bool) → StepLeads (offer_step unknown peer waiting)
  offer-leads true peer waiting = tt
  offer-leads false None waiting = tt
  offer-leads false (Some peer) waiting = tt

  by-leads : (d : Decision) (bound : Option ℕ) (unknown : Bool) (peer : Option Peer) → DecisionLeads d → StepLeads (next_step_by d bound unknown peer)
  by-leads (Offers waiting) bound unknown peer a = offer-leads unknown peer waiting
  by-leads (Diverted None cause) bound unknown peer a = tt
  by-leads (Diverted (Some forward) cause) bound unknown peer a = a
  by-leads (Ends cause) bound unknown peer a = tt

  arrival-leads : (k : FactsView) (registered : Bool) (live : ℕ) → DecisionLeads (verdict_of k (record { sheet = sheet; registered = registered; live = live }) ending.Arrived)
  arrival-leads k registered live =
      let account : ServedAccountView = record { sheet = sheet; registered = registered; live = live } in
      decision-leads (first_decision (services_on_arrival k account)) live
      (first-leads (services_on_arrival k account) (
        refusal-leads (rejects_anonymous k sheet) _,
        (
          refusal-leads (bars_incoming k sheet) _,
          (
            diversion-leads (due_on k (event.Arrival registered) sheet) (due-leads k (event.Arrival registered)),
            (
              refusal-leads (not registered) _,
              (
                diversion-leads (cond (is_busy live sheet) (due_on k event.Busy sheet) None) (if-leads (is_busy live sheet) (due_on k event.Busy sheet) (due-leads k event.Busy)),
                (refusal-leads (is_busy live sheet) _, tt),
              ),
            ),
          ),
        ),
      ))

pub next-step-leads : (k : FactsView) (reach : ReachedTargetView) → StepLeads (account_at reach).sheet (next_step_at k reach)
next-step-leads k reach =
    by-leads (account_at reach).sheet (verdict_of k (account_at reach) ending.Arrived) (own_bound (account_at reach).sheet) reach.is_unknown reach.peer
    (arrival-leads (account_at reach).sheet k (account_at reach).registered (account_at reach).live)

-- The diversion that a record requires at an event of a call: that of the first rule that holds (TS 24.604 §4.5.2.6 and §4.9.1), with its cause (RFC 4458 §2). And deflection, the
-- diversion by the user's own device (TS 24.604 §4.5.2.6).
use Rattle.std.specs.Prelude.{ℕ, Bool, false, if◌then◌else◌, List, Option, Some, None, option_and_then, slice_get}
use Rattle.std.specs.Option.{option_map}
use Rattle.mmtel_sheet_values.specs.declared.values.Action.{Action}
use Rattle.mmtel_sheet_values.specs.declared.values.Action.TheVariants as Act
use Rattle.mmtel_sheet_values.specs.declared.values.DiversionPart.{DiversionPart}
use Rattle.mmtel_sheet_values.specs.declared.values.EventWord.{EventWord}
use Rattle.mmtel_sheet_values.specs.declared.values.EventWord.TheVariants.{Busy, NoAnswer, NotReachable, NotRegistered}
use Rattle.mmtel_sheet_values.specs.declared.values.Forward.{Forward}
use Rattle.mmtel_sheet_values.specs.declared.values.Rule.{Rule}
use Rattle.mmtel_sheet_values.specs.declared.values.Sheet.{Sheet}
use Rattle.mmtel_rules.specs.Facts.{FactsView}
use Rattle.mmtel_rules.specs.Rules.{first_that_holds}
use Rattle.mmtel_rules.specs.declared.values.When.{When}
use Rattle.mmtel_diversion.specs.declared.choosing.Diversion.{Diversion}

-- a diversion: the index of its rule, where the call goes, and the cause
pub record ChosenDiversion : Type 0 where
  pub rule : ℕ
  pub forward : Forward
  pub cause : ℕ

-- a diversion of the program, as seen here
abbrev pub chosen_diversion : Diversion → ChosenDiversion
chosen_diversion d = record { rule = d.rule; forward = d.forward.now; cause = d.cause }

-- the cause by the event of the rule; unconditional without one (RFC 4458 §2)
abbrev pub cause_of : Option EventWord → ℕ
cause_of None = 302
cause_of (Some Busy) = 486
cause_of (Some NoAnswer) = 408
cause_of (Some NotReachable) = 503
cause_of (Some NotRegistered) = 404

-- where the rule forwards to; a rule that only allows or bars, which is in no diversion part that was read, forwards nowhere
abbrev pub forward_of : Action → Option Forward
forward_of (Act.Forward forward) = Some forward
forward_of (Act.Allow allowed) = None

-- the diversion of the rule at this index
abbrev pub diversion_by : ℕ → Rule → Option ChosenDiversion
diversion_by place rule = option_map (λ forward. record { rule = place; forward = forward; cause = cause_of rule.condition.event }) (forward_of rule.action)

-- the diversion of the first rule that holds
abbrev pub diversion_among : FactsView → When → List Rule → Option ChosenDiversion
diversion_among k when rules =
    option_and_then (λ place. option_and_then (diversion_by place) (slice_get rules place)) (first_that_holds k when rules)

-- the diversion at the event; none where diversion is not active
abbrev pub diversion_of : FactsView → When → Sheet → Option ChosenDiversion
diversion_of k when sheet =
    option_and_then (λ part. diversion_among k when part.rules) sheet.diversion

-- the record allows the user's device to divert a call
abbrev pub allows_deflection : Option DiversionPart → Bool
allows_deflection None = false
allows_deflection (Some part) = part.deflection

-- the cause of a deflection, which depends on whether the device was alerted; none where the record does not allow it
abbrev pub deflection_of : Sheet → (alerted : Bool) → Option ℕ
deflection_of sheet alerted = if allows_deflection sheet.diversion then Some (if alerted then 487 else 480) else None

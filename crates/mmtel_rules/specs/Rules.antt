-- Which rule of a list decides: the first that holds (TS 24.604 §4.9.1), or, in barring, the first that holds unless one that holds allows the call (TS 24.611 §4.9.1 and RFC 4745
-- §10).
use Rattle.std.specs.Prelude.{◌≡◌, ℕ, Bool, true, false, not, ◌&&◌, List, ◌∷◌, ◌++◌, length, Option, None, position, if◌then◌else◌}
use Rattle.std.specs.List.{list_any}
use Rattle.mmtel_sheet_values.specs.declared.values.Action.{Action}
use Rattle.mmtel_sheet_values.specs.declared.values.Action.TheVariants.{Forward, Allow}
use Rattle.mmtel_sheet_values.specs.declared.values.Rule.{Rule}
use Rattle.mmtel_rules.specs.Facts.{FactsView}
use Rattle.mmtel_rules.specs.Conditions.{condition_holds}
use Rattle.mmtel_rules.specs.declared.values.When.{When}
use Rattle.mmtel_rules.specs.declared.values.When.TheVariants.{Arrival}

abbrev pub rule_holds : FactsView → When → Rule → Bool
rule_holds k when r = condition_holds k when r.condition

-- the least index whose rule holds
abbrev pub first_that_holds : FactsView → When → List Rule → Option ℕ
first_that_holds k when rules = position (rule_holds k when) rules

-- the rule allows calls; one that diverts them does not
abbrev pub allows : Action → Bool
allows (Allow allowed) = allowed
allows (Forward forward) = false

-- the event at which barring is evaluated: the call arrives, and the user counts as registered
abbrev pub arrival : When
arrival = Arrival true

-- the rule holds on arrival and allows the call
abbrev pub lets_through : FactsView → Rule → Bool
lets_through k r = allows r.action && rule_holds k arrival r

-- one of the rules does
abbrev pub is_let_through : FactsView → List Rule → Bool
is_let_through k rules = list_any (lets_through k) rules

-- the least index whose rule holds on arrival, where no rule that holds there allows the call
abbrev pub barred_by : FactsView → List Rule → Option ℕ
barred_by k rules =
    if is_let_through k rules then None else first_that_holds k arrival rules

-- the call is barred: some rule holds on arrival, and none that holds there allows it
abbrev pub is_barred : FactsView → List Rule → Bool
is_barred k rules =
    list_any (rule_holds k arrival) rules && not (is_let_through k rules)

-- the index is the least whose rule passes the test
pub record IsLeast (test : Rule → Bool) (rules : List Rule) (place : ℕ) : Type 0 where
  pub earlier : List Rule
  pub rule : Rule
  pub later : List Rule
  pub split : rules ≡ earlier ++ rule ∷ later
  pub index : place ≡ length earlier
  pub passes : test rule ≡ true
  pub first : list_any test earlier ≡ false

-- The actions of the rules of a sheet: those of a diversion divert, those of barring allow or bar (TS 24.604 §4.9.1.4, TS 24.611 §4.9.1.4).
use Rattle.std.specs.Prelude.{◌≡◌, Bool, true, false, List, Option, Some, None}
use Rattle.std.specs.List.{list_all}
use Rattle.mmtel_sheet_values.specs.declared.values.Action.{Action}
use Rattle.mmtel_sheet_values.specs.declared.values.Action.TheVariants.{Forward, Allow}
use Rattle.mmtel_sheet_values.specs.declared.values.BarPart.{BarPart}
use Rattle.mmtel_sheet_values.specs.declared.values.DiversionPart.{DiversionPart}
use Rattle.mmtel_sheet_values.specs.declared.values.Rule.{Rule}

-- the call is diverted
abbrev pub is_forward : Action → Bool
is_forward (Forward f) = true
is_forward (Allow b) = false

-- the call is allowed, or barred
abbrev pub is_allowance : Action → Bool
is_allowance (Forward f) = false
is_allowance (Allow b) = true

abbrev pub all_forward : List Rule → Bool
all_forward rules = list_all (λ r. is_forward r.action) rules

abbrev pub all_allow : List Rule → Bool
all_allow rules = list_all (λ r. is_allowance r.action) rules

-- each rule of the diversion, where there is one, diverts
abbrev pub Diverts : Option DiversionPart → Type 0
Diverts None = Unit {0}
Diverts (Some p) = all_forward p.rules ≡ true

-- each rule of the barring, where there is one, allows or bars
abbrev pub Bars : Option BarPart → Type 0
Bars None = Unit {0}
Bars (Some p) = all_allow p.rules ≡ true

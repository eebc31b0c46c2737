-- Equivalent callers: a decision is the same for two callers for which each identity part that it evaluates has the same truth value, and of whom both or neither have an identity.
use Rattle.std.specs.Prelude.{◌≡◌, Bool, List}
use Rattle.std.specs.List.{AllByRecursion, filter_map}
use Rattle.mmtel_sheet_values.specs.declared.values.Rule.{Rule}
use Rattle.mmtel_sheet_values.specs.declared.values.Who.{Who}

-- the identity parts of the rules that have one
abbrev pub identity_parts : List Rule → List Who
identity_parts rules = filter_map (λ (r : Rule). r.condition.identity) rules

-- each of these parts has the same truth value for both
abbrev pub MatchEqually : (asks asks2 : Who → Bool) → List Who → Type 0
MatchEqually asks asks2 parts = AllByRecursion (λ who. asks who ≡ asks2 who) parts

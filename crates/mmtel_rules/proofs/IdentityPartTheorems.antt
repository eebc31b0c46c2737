-- The decision is the same for callers for which the identity parts of the rules have the same truth values.
use Rattle.std.proofs.Common.{◌≡◌, Bool, ◌&&◌, List, [], ◌∷◌, Option, Some, None, refl, ap}
use Rattle.std.specs.Prelude.{option_to_list}
use Rattle.std.specs.List.{AllByRecursion, cons_option, list_any}
use Rattle.mmtel_sheet_values.specs.declared.values.Condition.{Condition}
use Rattle.mmtel_sheet_values.specs.declared.values.Rule.{Rule}
use Rattle.mmtel_sheet_values.specs.declared.values.Who.{Who}
use Rattle.mmtel_rules.specs.IdentityParts.{MatchEqually, identity_parts}
use Rattle.mmtel_rules.specs.Facts.{FactsView, with_identity_matches}
use Rattle.mmtel_rules.specs.Conditions.{who_holds, fact_holds, window_holds, media_holds, further_holds, event_holds, condition_holds}
use Rattle.mmtel_rules.specs.Rules.{allows, arrival, barred_by, first_that_holds, lets_through, rule_holds}
use Rattle.mmtel_rules.specs.declared.values.When.{When}
use Rattle.mmtel_rules.proofs.LeastIndex.{all_of, list_any_same, position_same}

module _ (asks asks2 : Who → Bool) (k : FactsView) where
  who_same : (who : Option Who) → MatchEqually asks asks2 (option_to_list who) → who_holds asks who ≡ who_holds asks2 who
  who_same None a = refl
  who_same (Some who) a = a.0

  pub condition_same : (when : When) (c : Condition) → MatchEqually asks asks2 (option_to_list c.identity) → condition_holds (with_identity_matches k asks) when c ≡ condition_holds (with_identity_matches k asks2) when c
  unfolding condition_holds
  condition_same when c a =
      ap (λ b. b && (fact_holds k.restricted c.anonymous && (window_holds k.now c.window && (media_holds k.media c.media && (further_holds k c && event_holds when c.event)))))
      (who_same c.identity a)

  first_part : (who : Option Who) (rest : List Who) → MatchEqually asks asks2 (cons_option who rest) → MatchEqually asks asks2 (option_to_list who)
  first_part None rest a = tt
  first_part (Some who) rest a = (a.0, tt)

  further_parts : (who : Option Who) (rest : List Who) → MatchEqually asks asks2 (cons_option who rest) → MatchEqually asks asks2 rest
  further_parts None rest a = a
  further_parts (Some who) rest a = a.1

  rules_same : (when : When) (rules : List Rule) → MatchEqually asks asks2 (identity_parts rules) →
      AllByRecursion (λ r. rule_holds (with_identity_matches k asks) when r ≡ rule_holds (with_identity_matches k asks2) when r) rules
  rules_same when [] a = tt
  rules_same when (r ∷ rules) a =
      (condition_same when r.condition (first_part r.condition.identity (identity_parts rules) a), rules_same when rules (further_parts r.condition.identity (identity_parts rules) a))

  pub first_same : (when : When) (rules : List Rule) → MatchEqually asks asks2 (identity_parts rules) →
      first_that_holds (with_identity_matches k asks) when rules ≡ first_that_holds (with_identity_matches k asks2) when rules
  first_same when rules a = position_same (rule_holds (with_identity_matches k asks) when) (rule_holds (with_identity_matches k asks2) when) rules (rules_same when rules a)

  through_same : (rules : List Rule) → MatchEqually asks asks2 (identity_parts rules) → list_any (lets_through (with_identity_matches k asks)) rules ≡ list_any (lets_through (with_identity_matches k asks2)) rules
  through_same rules a =
      list_any_same (lets_through (with_identity_matches k asks)) (lets_through (with_identity_matches k asks2)) rules
      (all_of (λ r. rule_holds (with_identity_matches k asks) arrival r ≡ rule_holds (with_identity_matches k asks2) arrival r)
      (λ r. lets_through (with_identity_matches k asks) r ≡ lets_through (with_identity_matches k asks2) r) rules
      (λ r e. ap (λ b. allows r.action && b) e) (rules_same arrival rules a))

  pub barred_same : (rules : List Rule) → MatchEqually asks asks2 (identity_parts rules) → barred_by (with_identity_matches k asks) rules ≡ barred_by (with_identity_matches k asks2) rules
  barred_same rules a = rw (through_same rules a, first_same arrival rules a) refl

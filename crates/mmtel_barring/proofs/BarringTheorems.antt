-- What a refusal depends on of a caller, and when it is that of an anonymous one.
use Rattle.std.proofs.Common.{◌≡◌, ℕ, Bool, true, false, cond, ◌&&◌, List, Option, Some, None, refl, ap, sym, ◌∙◌}
use Rattle.std.specs.Prelude.{◌≢◌, is_some}
use Rattle.std.specs.Option.{option_map}
use Rattle.mmtel_sheet_values.specs.declared.values.BarPart.{BarPart}
use Rattle.mmtel_sheet_values.specs.declared.values.Rule.{Rule}
use Rattle.mmtel_sheet_values.specs.declared.values.Who.{Who}
use Rattle.mmtel_rules.specs.Facts.{FactsView, with_identity_matches}
use Rattle.mmtel_rules.specs.Rules.{barred_by}
use Rattle.mmtel_barring.specs.Barring.{incoming_refusal, is_anonymous_refused, outgoing_bar, rules_of}
use Rattle.mmtel_barring.specs.declared.bars.Barred.{Barred}
use Rattle.mmtel_barring.specs.declared.bars.Refusal.{Refusal}
use Rattle.mmtel_barring.specs.declared.bars.Refusal.TheVariants as Refusals

-- where it is not rejected as anonymous, a refusal is by a rule
abbrev pub refusal_unless : Bool → Option ℕ → Option Refusal
refusal_unless rejected found = cond rejected (Some Refusals.Anonymous) (option_map (λ place. Refusals.Barred place) found)

-- ---- truth values: what bars one caller bars another where the rules bar both

module _ (asks asks2 : Who → Bool) (k : FactsView) where
  pub outgoing_same : (part : Option BarPart) → barred_by (with_identity_matches k asks) (rules_of part) ≡ barred_by (with_identity_matches k asks2) (rules_of part) →
      outgoing_bar (with_identity_matches k asks) part ≡ outgoing_bar (with_identity_matches k asks2) part
  outgoing_same None e = refl
  outgoing_same (Some part) e = ap (λ (found : Option ℕ). option_map (λ place. let bar : Barred = record { rule = place } in bar) found) e

  pub incoming_same : (part : Option BarPart) → barred_by (with_identity_matches k asks) (rules_of part) ≡ barred_by (with_identity_matches k asks2) (rules_of part) →
      incoming_refusal (with_identity_matches k asks) part ≡ incoming_refusal (with_identity_matches k asks2) part
  incoming_same None e = refl
  incoming_same (Some part) e = ap (refusal_unless (is_anonymous_refused k part)) e

-- ---- anonymous callers

by_a_rule : (rejected : Bool) (found : Option ℕ) → rejected ≡ false → refusal_unless rejected found ≢ Some Refusals.Anonymous
by_a_rule true found e h = cc
by_a_rule false None e h = cc
by_a_rule false (Some place) e h = cc

unknown : (a b c : Bool) → c ≡ false → (a && (b && c)) ≡ false
unknown true true c e = e
unknown true false c e = refl
unknown false b c e = refl

open_caller : (a b c : Bool) → b ≡ false → (a && (b && c)) ≡ false
open_caller true true c e = absurd cc
open_caller true false c e = refl
open_caller false b c e = refl

all_hold : (a b c : Bool) → a ≡ true → b ≡ true → c ≡ true → (a && (b && c)) ≡ true
all_hold true true true e f g = refl
all_hold true true false e f g = absurd cc
all_hold true false c e f g = absurd cc
all_hold false b c e f g = absurd cc

module _ (k : FactsView) where
  pub not_anonymous : (part : BarPart) → is_anonymous_refused k part ≡ false → incoming_refusal k (Some part) ≢ Some Refusals.Anonymous
  not_anonymous part e = by_a_rule (is_anonymous_refused k part) (barred_by k part.rules) e

  pub nobody : (part : Option BarPart) → k.has_identity ≡ false → incoming_refusal k part ≢ Some Refusals.Anonymous
  nobody None e h = cc
  nobody (Some part) e h = not_anonymous part (unknown part.reject_anonymous k.restricted k.has_identity e) h

  pub opened : (part : Option BarPart) → k.restricted ≡ false → incoming_refusal k part ≢ Some Refusals.Anonymous
  opened None e h = cc
  opened (Some part) e h = not_anonymous part (open_caller part.reject_anonymous k.restricted k.has_identity e) h

  pub unasked : (part : BarPart) → part.reject_anonymous ≡ false → incoming_refusal k (Some part) ≢ Some Refusals.Anonymous
  unasked part e h = not_anonymous part (ap (λ b. b && (k.restricted && k.has_identity)) e) h

  pub refused : (part : BarPart) → part.reject_anonymous ≡ true → k.restricted ≡ true → k.has_identity ≡ true → incoming_refusal k (Some part) ≡ Some Refusals.Anonymous
  refused part e f g = ap (λ b. refusal_unless b (barred_by k part.rules)) (all_hold part.reject_anonymous k.restricted k.has_identity e f g)

-- ---- rules

is_some-bar : (found : Option ℕ) → is_some (option_map (λ place. let bar : Barred = record { rule = place } in bar) found) ≡ is_some found
is_some-bar None = refl
is_some-bar (Some place) = refl

is_some-refusal : (rejected : Bool) (found other : Option ℕ) → is_some found ≡ is_some other → is_some (refusal_unless rejected found) ≡ is_some (refusal_unless rejected other)
is_some-refusal true found other e = refl
is_some-refusal false None None e = refl
is_some-refusal false None (Some place) e = absurd cc
is_some-refusal false (Some place) None e = absurd cc
is_some-refusal false (Some place) (Some other) e = refl

module _ (k : FactsView) where
  pub out_through : (rules : List Rule) (reject : Bool) → barred_by k rules ≡ None → outgoing_bar k (Some (record { rules = rules; reject_anonymous = reject })) ≡ None
  out_through rules reject e = ap (λ (found : Option ℕ). option_map (λ place. let bar : Barred = record { rule = place } in bar) found) e

  pub in_through : (rules : List Rule) → barred_by k rules ≡ None → incoming_refusal k (Some (record { rules = rules; reject_anonymous = false })) ≡ None
  in_through rules e = ap (refusal_unless false) e

  pub out_in_any_order : (rules other : List Rule) (reject : Bool) → is_some (barred_by k rules) ≡ is_some (barred_by k other) →
      is_some (outgoing_bar k (Some (record { rules = rules; reject_anonymous = reject }))) ≡ is_some (outgoing_bar k (Some (record { rules = other; reject_anonymous = reject })))
  out_in_any_order rules other reject same = is_some-bar (barred_by k rules) ∙ same ∙ sym (is_some-bar (barred_by k other))

  pub in_any_order : (rules other : List Rule) (reject : Bool) → is_some (barred_by k rules) ≡ is_some (barred_by k other) →
      is_some (incoming_refusal k (Some (record { rules = rules; reject_anonymous = reject }))) ≡ is_some (incoming_refusal k (Some (record { rules = other; reject_anonymous = reject })))
  in_any_order rules other reject same =
      is_some-refusal (reject && (k.restricted && k.has_identity)) (barred_by k rules) (barred_by k other) same

-- Barring of calls (TS 24.611): an outgoing call is barred by the rules of the user who calls; an incoming call is refused where its caller is anonymous and the user rejects that
-- (anonymous communication rejection), and else barred by the rules of the user who is called.
--
-- Of the other party only two things count: the truth values of the identity parts of the rules, and whether it has an identity.
use Rattle.std.specs.Prelude.{Bool, ◌&&◌, List, [], Option, Some, None, if◌then◌else◌}
use Rattle.std.specs.Option.{option_map}
use Rattle.mmtel_sheet_values.specs.declared.values.BarPart.{BarPart}
use Rattle.mmtel_sheet_values.specs.declared.values.Rule.{Rule}
use Rattle.mmtel_rules.specs.Facts.{FactsView}
use Rattle.mmtel_rules.specs.Rules.{barred_by}
use Rattle.mmtel_barring.specs.declared.bars.Barred.{Barred}
use Rattle.mmtel_barring.specs.declared.bars.Refusal.{Refusal}
use Rattle.mmtel_barring.specs.declared.bars.Refusal.TheVariants as Refusals

-- the rule of the user's own barring that bars the call to this target
abbrev pub outgoing_bar : FactsView → Option BarPart → Option Barred
outgoing_bar k None = None
outgoing_bar k (Some part) = option_map (λ place. record { rule = place }) (barred_by k part.rules)

-- the user rejects anonymous callers, the caller is anonymous, and it has an identity to hide
abbrev pub is_anonymous_refused : FactsView → BarPart → Bool
is_anonymous_refused k part = part.reject_anonymous && (k.restricted && k.has_identity)

-- why the user refuses the call of this caller
abbrev pub incoming_refusal : FactsView → Option BarPart → Option Refusal
incoming_refusal k None = None
incoming_refusal k (Some part) =
    if is_anonymous_refused k part then Some Refusals.Anonymous
    else option_map (λ place. Refusals.Barred place) (barred_by k part.rules)

-- the rules of a part; none where the user has none
abbrev pub rules_of : Option BarPart → List Rule
rules_of None = []
rules_of (Some part) = part.rules

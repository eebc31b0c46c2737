-- Barring with an exception: everybody is barred, and alice is allowed, whichever of the two rules comes first.
use Rattle.std.proofs.Common.{◌≡◌, true, false, List, [], ◌∷◌, Option, Some, None, refl, codes}
use Rattle.mmtel_lex.specs.declared.values.Uri.{Uri}
use Rattle.mmtel_lex.specs.declared.values.Uri.TheVariants.{Sip}
use Rattle.mmtel_sheet_values.specs.declared.values.Action.TheVariants.{Allow}
use Rattle.mmtel_sheet_values.specs.declared.values.Condition.{Condition}
use Rattle.mmtel_sheet_values.specs.declared.values.Rule.{Rule}
use Rattle.mmtel_sheet_values.specs.declared.values.Who.{Who}
use Rattle.mmtel_rules.specs.Facts.{FactsView}
use Rattle.mmtel_rules.specs.Conditions.{condition_holds}
use Rattle.mmtel_rules.specs.Identities.{identity_holds}
use Rattle.mmtel_lex.specs.SameIdentity.{is_same_identity}
use Rattle.mmtel_rules.specs.declared.values.Identities2.{Identities2}
use Rattle.mmtel_barring.specs.Barring.{incoming_refusal}
use Rattle.mmtel_barring.specs.declared.bars.Refusal.{Refusal}
use Rattle.mmtel_barring.specs.declared.bars.Refusal.TheVariants as Refusals

abbrev alice : Uri
alice = Sip (Some (codes "alice")) (codes "home.example") None [] []

abbrev erin : Uri
erin = Sip (Some (codes "erin")) (codes "other.example") None [] []

abbrev somebody : Uri → Identities2
somebody u = record { sip = Some u; tel = None }

abbrev calling : Uri → FactsView
calling u = record { identity_matches = identity_holds (somebody u); has_identity = true; restricted = false; media = []; now = 0; diverted = false; abroad = false }

abbrev about : Who → Condition
about who = record { identity = Some who; anonymous = false; window = None; media = None; event = None; diverted = false; abroad = false; weekly = None }

abbrev everybody_barred : Rule
everybody_barred = record { condition = about (record { one = []; many = Some (codes "*"); except = [] }); action = Allow false }

abbrev alice_allowed : Rule
alice_allowed = record { condition = about (record { one = alice ∷ []; many = None; except = [] }); action = Allow true }

abbrev refused : Uri → List Rule → Option Refusal
refused u rules = incoming_refusal (calling u) (Some (record { rules = rules; reject_anonymous = false }))

exception : refused alice (everybody_barred ∷ alice_allowed ∷ []) ≡ None
unfolding condition_holds identity_holds is_same_identity
exception = refl

exception_first : refused alice (alice_allowed ∷ everybody_barred ∷ []) ≡ None
unfolding condition_holds identity_holds is_same_identity
exception_first = refl

no_exception : refused alice (everybody_barred ∷ []) ≡ Some (Refusals.Barred 0)
unfolding condition_holds identity_holds is_same_identity
no_exception = refl

another : refused erin (alice_allowed ∷ everybody_barred ∷ []) ≡ Some (Refusals.Barred 1)
unfolding condition_holds identity_holds is_same_identity
another = refl

-- The decision of the services of one account on a call, in their precedence: barring before diversion, diversion before waiting (TS 24.604 §4.6, TS 24.611 §4.6, TS 24.615 §4.6).
use Rattle.std.specs.Prelude.{ℕ, Bool, false, not, min, nat_le, if◌then◌else◌, List, [], ◌∷◌, Option, Some, None, option_and_then}
use Rattle.std.specs.Option.{option_map, option_map_or}
use Rattle.mmtel_types.specs.declared.causes.Cause.{Cause}
use Rattle.mmtel_types.specs.declared.causes.Cause.TheVariants.{IncomingBarred, AnonymousRejected, NotRegistered, NetworkBusy}
use Rattle.mmtel_sheet_values.specs.declared.values.DiversionPart.{DiversionPart}
use Rattle.mmtel_sheet_values.specs.declared.values.Forward.{Forward}
use Rattle.mmtel_sheet_values.specs.declared.values.Sheet.{Sheet}
use Rattle.mmtel_rules.specs.Facts.{FactsView}
use Rattle.mmtel_rules.specs.declared.values.When.{When}
use Rattle.mmtel_rules.specs.declared.values.When.TheVariants.{Arrival, Busy}
use Rattle.mmtel_diversion.specs.Diversion.{ChosenDiversion, diversion_of}
use Rattle.mmtel_waiting.specs.Waiting.{is_busy}
use Rattle.mmtel_rules.specs.Rules.{is_barred}
use Rattle.mmtel_barring.specs.Barring.{is_anonymous_refused, rules_of}
use Rattle.mmtel_barring.specs.declared.bars.Refusal.{Refusal}
use Rattle.mmtel_barring.specs.declared.bars.Refusal.TheVariants as refusals

-- an account at a moment: its record, whether it is registered, and how many live calls it has, as caller or as called party, without the attempt that is to be made
pub record ServedAccountView : Type 0 where
  pub sheet : Sheet
  pub registered : Bool
  pub live : ℕ

-- a diversion that is due: where to, who is notified of what, and the cause; and the bound that the account which diverts sets, where it sets one
pub record DueDiversionView : Type 0 where
  pub forward : Forward
  pub cause : ℕ
  pub bound : Option ℕ

-- the bound of a diversion: the lesser of the configured one and that of the account
abbrev pub bound_of : (configured : ℕ) → (own : Option ℕ) → ℕ
bound_of configured None = configured
bound_of configured (Some own) = min configured own

-- the account's own bound allows no further diversion where there are so many
abbrev pub is_reached : (own : Option ℕ) → (count : ℕ) → Bool
is_reached None count = false
is_reached (Some own) count = nat_le own count

-- the bound that the account's record sets
abbrev pub own_bound : Sheet → Option ℕ
own_bound sheet = option_and_then (λ (part : DiversionPart). part.bound) sheet.diversion

-- the decision of a service on a call
pub data ServiceDecision : Type 0 where
  Nothing : ServiceDecision
  Refuses : (cause : Cause) → ServiceDecision
  Diverts : (due : DueDiversionView) → ServiceDecision

abbrev pub refuses_if : Bool → Cause → ServiceDecision
refuses_if applies cause = if applies then Refuses cause else Nothing

abbrev pub diverts_by : Option DueDiversionView → ServiceDecision
diverts_by None = Nothing
diverts_by (Some due) = Diverts due

-- the first service with a decision decides
abbrev pub first_decision : List ServiceDecision → ServiceDecision
first_decision [] = Nothing
first_decision (Nothing ∷ later) = first_decision later
first_decision (Refuses cause ∷ later) = Refuses cause
first_decision (Diverts due ∷ later) = Diverts due

-- the diversion that the account's record requires
abbrev pub due_of : (bound : Option ℕ) → ChosenDiversion → DueDiversionView
due_of bound chosen = record { forward = chosen.forward; cause = chosen.cause; bound = bound }

abbrev pub due_on : FactsView → When → Sheet → Option DueDiversionView
due_on c when sheet = option_map (due_of (own_bound sheet)) (diversion_of c when sheet)

-- anonymous callers are refused (anonymous communication rejection, TS 24.611 §4.5.2)
abbrev pub rejects_anonymous : FactsView → Sheet → Bool
rejects_anonymous c sheet = option_map_or (is_anonymous_refused c) sheet.incoming false

-- incoming communication barring refuses the caller
abbrev pub bars_incoming : FactsView → Sheet → Bool
bars_incoming c sheet = is_barred c (rules_of sheet.incoming)

-- outgoing communication barring refuses the target, which is then the other party
abbrev pub bars_outgoing : FactsView → Sheet → Bool
bars_outgoing c sheet = is_barred c (rules_of sheet.outgoing)

-- ---- the services of an account that a call reaches, in their precedence; each list is used by the next

-- by the number of its calls: its diversion for a busy user, and network determined user busy
abbrev pub services_of_capacity : FactsView → ServedAccountView → List ServiceDecision
services_of_capacity c account =
    diverts_by (if is_busy account.live account.sheet then due_on c Busy account.sheet else None) ∷ refuses_if (is_busy account.live account.sheet) NetworkBusy ∷ []

-- before them: its diversion on arrival, and its registration
abbrev pub services_after_barring : FactsView → ServedAccountView → List ServiceDecision
services_after_barring c account =
    diverts_by (due_on c (Arrival account.registered) account.sheet) ∷ refuses_if (not account.registered) NotRegistered ∷ services_of_capacity c account

-- and before all: its barring of incoming calls
abbrev pub services_on_arrival : FactsView → ServedAccountView → List ServiceDecision
services_on_arrival c account =
    refuses_if (rejects_anonymous c account.sheet) AnonymousRejected ∷ refuses_if (bars_incoming c account.sheet) IncomingBarred ∷ services_after_barring c account

-- ---- definitions that only private functions cite

-- the refusal of a caller, if there is one, before the later decisions
abbrev pub refusal_or : Option Refusal → ServiceDecision → ServiceDecision
refusal_or None later = later
refusal_or (Some refusals.Anonymous) later = Refuses AnonymousRejected
refusal_or (Some (refusals.Barred rule)) later = Refuses IncomingBarred

-- At which moment something is done in a run: each step has one moment, an event that of the clock, and a timer that fires its own (RFC 3261 §17, TS 32.260 §5).
use Rattle.std.specs.Prelude.{◌≡◌, ℕ, zero, suc, IfSome, List, [], ◌∷◌, ◌++◌, Option, Some, None}
use Rattle.std.specs.Option.{option_map}
use Rattle.mmtel_b2bua.specs.Operations.{Drops, Finishes, Receives, Releases, Restores, TableOp}
use Rattle.mmtel_call_theorems.specs.NoInjection.Emits.{Each}
use Rattle.mmtel_directory.specs.declared.directories.Directory.{Directory}
use Rattle.mmtel_focus.specs.Operations as rooms
use Rattle.mmtel_focus_theorems.specs.Participants.{moment_of}
use Rattle.mmtel_environment.specs.declared.events.Offer.{Offer}
use Rattle.mmtel_environment.specs.declared.events.Offer.TheVariants as offer
use Rattle.mmtel_transaction.specs.Results.{DueEntryView, next_due}
use Rattle.mmtel_transaction.specs.Operations.{live}
use Rattle.mmtel_run_definitions.specs.Deadlines.{Deadline, OfServiceTimer, OfTransaction}
use Rattle.mmtel_run_definitions.specs.Events.{TimedEvent}
use Rattle.mmtel_run_definitions.specs.Run.{after_due_deadlines, after_event_in_order, after_one_deadline, clock_at, first_due_deadline}
use Rattle.mmtel_run_definitions.specs.Transitions.{RunState}

-- ---- of this moment

-- what calls receive has this moment, and so has the end of a call without its leg; a leg that is taken out or put back, and CDRs that are handed over, have no moment
abbrev pub IsCallOpAt : ℕ → TableOp → Type 0
IsCallOpAt at (Receives received) = received.at ≡ at
IsCallOpAt at (Releases number side) = Unit {0}
IsCallOpAt at (Restores number away) = Unit {0}
IsCallOpAt at (Finishes number moment tokens) = moment ≡ at
IsCallOpAt at (Drops count) = Unit {0}

-- an operation on conferences, where it has a moment: somebody joins or is adopted, or the conferences receive something
abbrev pub IsConferenceOpAt : ℕ → rooms.TableOp → Type 0
IsConferenceOpAt at op = IfSome (moment_of op) (λ moment. moment ≡ at)

-- and an output
abbrev pub IsOfferAt : ℕ → Offer → Type 0
IsOfferAt at (offer.To peer moment text) = moment ≡ at
IsOfferAt at (offer.Web moment text) = moment ≡ at

-- a step of this moment leads from the one state to the other: all that it does on the calls and on the conferences, and all that it outputs, has that moment
pub record IsStepAt (at : ℕ) (before after : RunState) : Type 0 where
  pub calls : List TableOp
  pub on_calls : after.call_ops ≡ calls ++ before.call_ops
  pub calls_at : Each (IsCallOpAt at) calls
  pub conferences : List rooms.TableOp
  pub on_conferences : after.conference_ops ≡ conferences ++ before.conference_ops
  pub conferences_at : Each (IsConferenceOpAt at) conferences
  pub offers : List Offer
  pub offered : after.offers ≡ before.offers ++ offers
  pub offers_at : Each (IsOfferAt at) offers

-- ---- the timers that are due by a moment

-- the moment of one: of a transaction the one for which it is due, of a call or of a participant the one for which it was armed
abbrev pub moment_of_deadline : Option DueEntryView → Deadline → Option ℕ
moment_of_deadline next OfTransaction = option_map (λ (one : DueEntryView). one.at) next
moment_of_deadline next (OfServiceTimer armed others) = Some armed.at

abbrev pub moment_if : Option DueEntryView → Option Deadline → Option ℕ
moment_if next None = None
moment_if next (Some deadline) = moment_of_deadline next deadline

-- of the first one, if one is due
abbrev pub moment_due : (now : ℕ) → RunState → Option ℕ
moment_due now state = moment_if (next_due now (live state.actions)) (first_due_deadline now state)

-- it fires at its moment; where none is due nothing is done
abbrev pub IsStepIf : Option ℕ → (before after : RunState) → Type 0
IsStepIf None before after = after ≡ before
IsStepIf (Some at) before after = IsStepAt at before after

-- the timers that are due do so, one after another, so many at most
abbrev pub AreFired : Directory → (token : List ℕ) → (fuel : ℕ) → (now : ℕ) → RunState → Type 0
AreFired directory token zero now state = Unit {0}
AreFired directory token (suc fuel) now state =
    IsStepIf (moment_due now state) state (after_one_deadline directory token now state) × AreFired directory token fuel now (after_one_deadline directory token now state)

-- ---- the steps of a run

-- before each event the timers that are due by then, each at its moment, and then the event, at the moment of the clock
abbrev pub AreTimed : Directory → (token : List ℕ) → (fuel : ℕ) → List TimedEvent → RunState → Type 0
AreTimed directory token fuel [] state = Unit {0}
AreTimed directory token fuel (notice ∷ others) state =
    AreFired directory token fuel (clock_at state notice.at) state
    × IsStepAt (clock_at state notice.at) (after_due_deadlines directory token fuel (clock_at state notice.at) state) (after_event_in_order directory token fuel notice state)
    × AreTimed directory token fuel others (after_event_in_order directory token fuel notice state)
